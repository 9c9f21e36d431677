-- What a byte run gives: the number that is returned, and the lent bytes after it (docs/LAYOUT.md). Definitions.
use Rattle.std.specs.Prelude.{cond, List, [], ◌∷◌, ◌++◌, ℕ, ◌*◌, leb, length, drop, Result, Ok, Err}
use Rattle.std.proofs.Math.Option.{Option, none, some}
use Rattle.readings.specs.Number.{nought}
use Rattle.little.specs.Little.{bytes_of}
use Rattle.wholetree.specs.Whole.{whole}
use Rattle.sampledtree.specs.Sampled.{Sampled, fresh}
use Rattle.refusals.specs.declared.Refusal.{Refusal}
use Rattle.refusals.specs.Refusals.{number}
use Rattle.randomcuttree.specs.declared.RCFTree.{RCFTree}
use Rattle.randomcuttree.specs.Making.{made_by}
use Rattle.samplerplustree.specs.declared.SamplerPlusTree.{SamplerPlusTree}
use Rattle.samplerplustree.specs.State.{sampler_of}
use Rattle.samplerplustree.specs.Making.{sampled_by}
use Rattle.runlayout.specs.Layout.{RunCall, is_sampled, channels, capacity, share, initial, calls}
use Rattle.runsteps.specs.Told.{told_from}

-- 15 where fewer answer bytes are lent than the run needs; else the numbers' bytes, and the lent bytes beyond them as they were
abbrev pub given : List ℕ → List ℕ → ℕ × List ℕ
given ns lent = cond (leb (4 * length ns) (length lent)) (4 * length ns, bytes_of ns ++ drop (4 * length ns) lent) (15, lent)

-- a bare tree, told as a sampled one: with an empty sample, and no initial share
abbrev pub as_sampled : RCFTree → SamplerPlusTree
as_sampled t = record { tree = t; sampler = sampler_of t.capacity []; initial_accept_fraction = nought }

abbrev pub bare_made : Result RCFTree Refusal → Result SamplerPlusTree Refusal
bare_made (Err r) = Err r
bare_made (Ok t) = Ok (as_sampled t)

module _ (run : List ℕ) where
  -- kind 1 makes a bare tree, kind 2 a sampled one
  abbrev pub made : Result SamplerPlusTree Refusal
  made = cond (is_sampled run) (sampled_by (channels run) (capacity run) (share run) (initial run)) (bare_made (made_by (channels run) (capacity run) (share run)))

  -- 'a tree fresh from an accepted making and a table with nothing written'
  abbrev pub begun : Sampled (whole (channels run))
  begun = fresh (whole (channels run)) (capacity run) (cond (is_sampled run) (initial run) nought)

  -- docs/LAYOUT.md: 'One answer for the making, then one for each call, in their order; but if the making is refused, there is no tree to call: its number is the only answer'
  abbrev pub answered : Result SamplerPlusTree Refusal → List (RunCall (channels run)) → List ℕ
  answered (Err r) cs = number r ∷ []
  answered (Ok h) cs = 0 ∷ told_from (channels run) (share run) begun cs

  -- 17 where the run's bytes are not in the layout
  abbrev pub outcome_of : Option (List (RunCall (channels run))) → List ℕ → ℕ × List ℕ
  outcome_of none lent = (17, lent)
  outcome_of (some cs) lent = given (answered made cs) lent

  abbrev pub outcome : List ℕ → ℕ × List ℕ
  outcome lent = outcome_of (calls run) lent
