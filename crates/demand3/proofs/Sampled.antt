-- The sample that is kept beside a world: what puts and arrivals leave of it, and what it says of the counts. Assumes nothing.
use mathlib.Core.Path.{◌≡◌, sym, ap, ◌∙◌, subst, fun_ext}
use mathlib.Core.Option.{Option, none, some}
use mathlib.Core.List.{List}
use Prim.Native.Nat.{ℕ}
use native.Mathlib.Omega.{arith}
use lib.ListN.{length}
use lib.Ieee.{Float}
use Rattle.std.specs.Prelude.{Result}
use Rattle.sampler.specs.declared.Sampler.{Sampler}
use Rattle.sampler.specs.Sample.{Entry}
use Rattle.sampler.proofs.Places.{entries_read}
use Rattle.cuttree.specs.Run.{World, put, call}
use Rattle.cuttree.specs.Counts.{Counts}
use Rattle.cuttree.proofs.Keeps.{Inv}
use Rattle.wholetree.specs.Reading.{Reading}
use Rattle.wholetree.specs.Whole.{whole}
use Rattle.refusals.specs.declared.Refusal.{Refusal}
use Rattle.pointstore.specs.Puts.{PutDone}
use Rattle.sampledtree.specs.Sampled.{Sampled}
use Rattle.sampledtree.specs.Arrivals.{kept_of, Agrees}
use Rattle.samplerplustree.specs.declared.SamplerPlusTree.{SamplerPlusTree}
use Rattle.samplerplustree.specs.State.{sampler_of, SampledState}
use Rattle.samplerplustree.proofs.Standing.{puts_keep_sampled}
use Rattle.demand3.specs.Steps.{Sample, Kept, head_in, SameTree}
use Rattle.demand3.specs.Claim.{OfSample, SampleStands}

-- d channels, capacity c, cached share s
module _ (d c : ℕ) (s : Float) where
  abbrev pub sampled_at : Float → World (whole d) → List Entry → Sampled (whole d)
  sampled_at f W ks = record { capacity = c; initial = f; world = W; sample = ks }

  pub record SampledAs (x : Kept) (p : Sample) (W : World (whole d)) : Type 0 where
    pub initial : Float
    pub entries : List Entry
    pub state : SampledState d s (sampled_at initial W entries) (head_in x.tree p) x.arrays x.table.points x.table.written p.weights p.held

  abbrev pub OfWorld : World (whole d) → Kept → Option Sample → Type 0
  OfWorld W x none = Unit {0}
  OfWorld W x (some p) = SampledAs x p W

  -- A PUT leaves the sample
  module _ (W : World (whole d)) (x y : Kept) (i : ℕ) (xs : List Float) (r : Result Unit Refusal) (same : SameTree x y) (D : PutDone d c W i xs y.table.points y.table.written r) where
    put_sampled : (o : Option Sample) → OfWorld W x o → OfWorld (call (whole d) c W (put i xs)).1 y o
    put_sampled none B = tt
    put_sampled (some p) B = record {
      initial = B.initial;
      entries = B.entries;
      state = rw (same.tree, same.arrays) ((puts_keep_sampled d s (sampled_at B.initial W B.entries) (head_in x.tree p) x.arrays x.table.points x.table.written p.weights p.held B.state).1 i xs y.table.points y.table.written r D);
    }

    pub put_keeps : OfWorld W x x.sample → OfWorld (call (whole d) c W (put i xs)).1 y y.sample
    put_keeps B = subst (OfWorld (call (whole d) c W (put i xs)).1 y) (sym same.sample) (put_sampled x.sample B)

  -- THE COUNTS number the kept arrivals of each value
  pub kept_numbers : (f : Float) (W : World (whole d)) (ks : List Entry) (K : Counts (whole d)) → Inv (whole d) c W K → Agrees (whole d) (sampled_at f W ks)
      → (v : Reading) → K.number v ≡ kept_of (whole d) K.kept ks v
  kept_numbers f W ks K I A v = sym (I.number_is v) ∙ A.values_are v ∙ ap (λ (g : ℕ → Option Reading). kept_of (whole d) g ks v) (fun_ext I.kept_is)

  sample_claim : (W : World (whole d)) (K : Counts (whole d)) (x : Kept) → Inv (whole d) c W K → (o : Option Sample) → OfWorld W x o → OfSample d c s o K
  sample_claim W K x I none B = tt
  sample_claim W K x I (some p) B =
      let size : p.sampler ≡ sampler_of c B.entries = ap (λ (h : SamplerPlusTree). h.sampler) B.state.head_is in
      let n : p.sampler.current_size ≡ length B.entries = ap (λ (q : Sampler). q.current_size) size in
      let A = B.state.agrees in
      record {
        room = omega (arith, n, A.room);
        kept = rw (n, B.state.weights_are, B.state.held_are, entries_read B.entries) (kept_numbers B.initial W B.entries K I A);
      }

  pub of_sample : (W : World (whole d)) (K : Counts (whole d)) (x : Kept) → Inv (whole d) c W K → OfWorld W x x.sample → OfSample d c s x.sample K
  of_sample W K x I B = sample_claim W K x I x.sample B

  -- a further arrival may be made
  sample_stands : (W : World (whole d)) (x : Kept) (o : Option Sample) → OfWorld W x o → SampleStands x o
  sample_stands W x none B = tt
  sample_stands W x (some p) B = record { channels = d; share = s; world = sampled_at B.initial W B.entries; state = B.state }

  pub stands_sampled : (W : World (whole d)) (x : Kept) → OfWorld W x x.sample → SampleStands x x.sample
  stands_sampled W x B = sample_stands W x x.sample B
