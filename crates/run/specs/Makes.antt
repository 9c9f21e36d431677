-- The making of a run: what it answers, and that a tree that is made is a fresh one. Definitions.
use Rattle.std.specs.Prelude.{◌≡◌, List, ℕ, Float, Result, Ok}
use Rattle.std.proofs.Math.Option.{none}
use Rattle.layout.specs.Layout.{table_of}
use Rattle.treestore.specs.Arrays.{NodeStore}
use Rattle.samplerplustree.specs.declared.SamplerPlusTree.{SamplerPlusTree}
use Rattle.refusals.specs.declared.Refusal.{Refusal}
use Rattle.runsteps.specs.Standing.{kept, Standing}
use Rattle.run.specs.Outcome.{made, begun}

pub record Makes (run : List ℕ) (a : NodeStore) (weights : List Float) (held : List ℕ) (r : Result SamplerPlusTree Refusal) : Type 0 where
  pub answer : r ≡ made run
  pub standing : (h : SamplerPlusTree) → r ≡ Ok h → (points : List (List Float)) (marks : List ℕ) → record { points = points; written = marks } ≡ table_of (λ i. none)
      → Standing run (begun run) h (kept a points marks weights held)
