-- What printing at an archive's end is told and leaves, whichever sampled world's state is lent. Definitions.
use Rattle.std.specs.Prelude.{List, ℕ, Float}
use Rattle.lines.specs.Lines.{Wrote}
use Rattle.wholetree.specs.Whole.{whole}
use Rattle.sampledtree.specs.Sampled.{Sampled}
use Rattle.treestore.specs.Arrays.{NodeStore}
use Rattle.samplerplustree.specs.declared.SamplerPlusTree.{SamplerPlusTree}
use Rattle.samplerplustree.specs.State.{SampledState, SomeSampled}
use Rattle.listing.specs.Printed.{Reads}
use Rattle.archiveend.specs.End.{end_lines}

-- What it asks of its caller: that the header, these arrays and the sample are part of a state that a making and its calls leave.
pub record SomeEnd (tree : SamplerPlusTree) (nodes : List (List ℕ)) (cuts : List Float) (copies : List ℕ) (weights : List Float) (held : List ℕ) : Type 0 where
  pub lent : NodeStore
  pub points : List (List Float)
  pub marks : List ℕ
  pub read : Reads lent nodes cuts copies
  pub state : SomeSampled tree lent points marks weights held

-- The end's lines of each sampled world whose header, arrays and sample these are, are written from `at` on.
abbrev pub PrintsEnd : (tree : SamplerPlusTree) (nodes : List (List ℕ)) (cuts : List Float) (copies : List ℕ) (weights : List Float) (held : List ℕ) (at : ℕ) (before : List ℕ) (place : ℕ) (after : List ℕ) → Type 0
PrintsEnd tree nodes cuts copies weights held at before place after =
    (d : ℕ) (s : Float) (X : Sampled (whole d)) (a : NodeStore) (points : List (List Float)) (marks : List ℕ) → SampledState d s X tree a points marks weights held
    → Reads a nodes cuts copies → Wrote before at (end_lines d X) place after
