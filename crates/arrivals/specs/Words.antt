-- How many of an arrival's words are looked at. Definitions.
use Rattle.std.specs.Prelude.{cond, ℕ, Result}
use Rattle.refusals.specs.declared.Refusal.{Refusal}
use Rattle.std.proofs.Math.Option.{Option, none, some}
use Rattle.cuttree.specs.Setting.{Setting}
use Rattle.cuttree.specs.Tree.{Tree, walk}
use Rattle.wholetree.specs.Whole.{whole}
use Rattle.sampledtree.specs.Sampled.{Sampled}
use Rattle.samplerplustree.specs.declared.Offer.{Offer}
use Rattle.samplerplustree.specs.Entering.{takes, world_remaining}

-- how many nodes the walk of a point has, 0 where there is no tree or no point
abbrev pub walk_in : (S : Setting) → Option (Tree S) → Option S.Point → ℕ
walk_in S none q = 0
walk_in S (some t) none = 0
walk_in S (some t) (some p) = walk S t p

-- a word for each node of the walk of its reading, once what the offer evicts is gone; none where the offer doesn't take the arrival
abbrev pub words_used : (d : ℕ) → Sampled (whole d) → ℕ → Result Offer Refusal → ℕ
words_used d X i o = let W = world_remaining d X o in cond (takes o) (walk_in (whole d) W.tree (W.table i)) 0
