-- What the making of an archive's sampled tree gives and leaves, for every making line. Definitions.
use Rattle.std.specs.Prelude.{◌≡◌, List, ℕ, Float, Result, Err}
use Rattle.std.proofs.Math.Option.{Option, none, some}
use Rattle.treestore.specs.Arrays.{NodeStore}
use Rattle.refusals.specs.declared.Refusal.{Refusal}
use Rattle.refusals.specs.declared.Refusal.TheVariants.{OutOfForm}
use Rattle.samplerplustree.specs.declared.SamplerPlusTree.{SamplerPlusTree}
use Rattle.samplerplustree.specs.Making.{SampledMade}
use Rattle.form.specs.Making.{sixteenths_of}
use Rattle.archivehead.specs.Head.{ArchiveMaking}

-- what is lent: a tree's arrays, and the sample's
pub record Room : Type 0 where
  pub arrays : NodeStore
  pub weights : List Float
  pub held : List ℕ

-- '17 text not in form' where the line is out of form, and nothing is written. Else document 01's making of these numbers, 'the share in sixteenths' in both
-- shares: made, or refused by 1 to 4.
abbrev pub MadeBy : Option ArchiveMaking → Room → Room → Result SamplerPlusTree Refusal → Type 0
MadeBy none before after r = (r ≡ Err OutOfForm) × (after ≡ before)
MadeBy (some m) before after r =
    SampledMade m.channels m.capacity (sixteenths_of m.cached) (sixteenths_of m.initial) before.arrays after.arrays before.weights after.weights before.held after.held r

abbrev pub room : NodeStore → List Float → List ℕ → Room
room a weights held = record { arrays = a; weights = weights; held = held }
