-- A sample as numbers, and the bytes that they are written to. Definitions.
use Rattle.std.specs.Prelude.{◌≡◌, List, [], ◌∷◌, ℕ, ◌+◌, ◌*◌, length, Float}
use Rattle.std.specs.Float.{binary32}
use Rattle.std.specs.Float.Ieee.{to_bits}
use Rattle.std.proofs.lemmas.List.Edits.{sets}
use Rattle.little.specs.Little.{bytes_of}
use Rattle.sampler.specs.Sample.{Entry, entries_in}
use Rattle.wholetree.specs.Whole.{whole}
use Rattle.sampledtree.specs.Sampled.{Sampled}
use Rattle.treestore.specs.Arrays.{NodeStore}
use Rattle.samplerplustree.specs.declared.SamplerPlusTree.{SamplerPlusTree}
use Rattle.samplerplustree.specs.State.{SampledState}
use Rattle.answers.specs.Said.{filled}

-- 'the bits of the weight and the point index, in the heap's order'
abbrev pub entry_numbers : List Entry → List ℕ
entry_numbers [] = []
entry_numbers (k ∷ ks) = to_bits binary32 k.weight ∷ k.index ∷ entry_numbers ks

-- docs/LAYOUT.md, kind 11: 'refusal (always 0), how many arrivals are kept, then for each of capacity places the bits of the weight and the point index, in
-- the heap's order, 0 beyond those kept'
abbrev pub sample_numbers : ℕ → List Entry → List ℕ
sample_numbers c ks = 0 ∷ length ks ∷ filled (2 * c) (entry_numbers ks)

-- There are as many, however many are kept: the place of the next answer follows from the capacity alone.
abbrev pub SampleWidth : Type 0
SampleWidth = (c : ℕ) (ks : List Entry) → length (sample_numbers c ks) ≡ 2 + 2 * c

-- Of whatever is lent: the size that the header tells, and each of as many slots as its capacity, as it stands.
abbrev pub sample_read : SamplerPlusTree → List Float → List ℕ → List ℕ
sample_read h weights held = 0 ∷ h.sampler.current_size ∷ entry_numbers (entries_in h.sampler.capacity weights held)

-- What is written of a sample from the answer number `out` on: an equation over whatever is lent, which is the sample's numbers of each sampled
-- world whose state it is. Every other byte stays.
pub record SampleWritten (h : SamplerPlusTree) (weights : List Float) (held before : List ℕ) (out : ℕ) (after : List ℕ) : Type 0 where
  pub read : after ≡ sets before (4 * out) (bytes_of (sample_read h weights held))
  pub told : (d : ℕ) (s : Float) (X : Sampled (whole d)) (a : NodeStore) (points : List (List Float)) (marks : List ℕ) → SampledState d s X h a points marks weights held
      → after ≡ sets before (4 * out) (bytes_of (sample_numbers X.capacity X.sample))
