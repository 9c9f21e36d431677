-- The code's answers as document 01's calls give them: the counts are fed these, and the tree is what they say. Definitions.
use Rattle.std.specs.Prelude.{cond, List, ℕ, eqb, Float, Option, None, Some, Result, Ok, Err}
use Rattle.std.proofs.Math.Option as Model
use Rattle.readings.specs.Number.{Number, number}
use Rattle.cuttree.specs.Run as Run
use Rattle.cuttree.specs.Run.{index_above, coordinate_count, bad_coordinate, index_is_leaf, never_written, full, few_words, tree_empty, not_held, bad_weight, no_such_node, Answer, refused, written, added, deleted, copies_are, branch_is, box_is, Row}
use Rattle.wholetree.specs.Whole.{whole}
use Rattle.refusals.specs.declared.Refusal.{Refusal}
use Rattle.refusals.specs.Refusals as Refusals
use Rattle.boundingbox.specs.declared.BoundingBox.{BoundingBox}
use Rattle.pointstore.specs.Puts.{or_nought}
use Rattle.randomcuttree.specs.declared.Added.{Added}
use Rattle.randomcuttree.specs.declared.Deleted.{Deleted}
use Rattle.randomcuttree.specs.declared.BranchRow.{BranchRow}
use Rattle.sampledtree.specs.Sampled.{SampledAnswer, plain, not_accepted, accepted}
use Rattle.samplerplustree.specs.declared.Accepted.{Accepted}

-- the refusal of a number; 16, which queries alone have, and any number that is no refusal's, stand for a node that there is not
abbrev pub refusal_by : ℕ → Run.Refusal
refusal_by n =
    cond (eqb n 5) index_above
    (cond (eqb n 6) coordinate_count
    (cond (eqb n 7) bad_coordinate
    (cond (eqb n 8) index_is_leaf
    (cond (eqb n 9) never_written
    (cond (eqb n 10) full
    (cond (eqb n 11) few_words
    (cond (eqb n 12) tree_empty
    (cond (eqb n 13) not_held
    (cond (eqb n 14) bad_weight no_such_node)))))))))

-- a refusal is heard by its number
abbrev pub heard_refusal : Refusal → Run.Refusal
heard_refusal r = refusal_by (Refusals.number r)

-- an evicted index, if any
abbrev pub heard_index : Option ℕ → Model.Option ℕ
heard_index None = Model.none
heard_index (Some e) = Model.some e

-- the end of a box in each channel, 0 beyond the row
abbrev pub end_in : List Float → ℕ → Number
end_in xs i = number (or_nought xs i)

-- a tree of d channels
module _ (d : ℕ) where
  abbrev pub heard_put : Result Unit Refusal → Answer (whole d)
  heard_put (Ok u) = written
  heard_put (Err r) = refused (heard_refusal r)

  abbrev pub heard_add : Result Added Refusal → Answer (whole d)
  heard_add (Ok x) = added x.leaf x.words
  heard_add (Err r) = refused (heard_refusal r)

  abbrev pub heard_delete : Result Deleted Refusal → Answer (whole d)
  heard_delete (Ok x) = deleted x.leaf
  heard_delete (Err r) = refused (heard_refusal r)

  abbrev pub heard_copies : Result ℕ Refusal → Answer (whole d)
  heard_copies (Ok n) = copies_are n
  heard_copies (Err r) = refused (heard_refusal r)

  abbrev pub heard_row : BranchRow → Row (whole d)
  heard_row b = record { cut = record { channel = b.cut.dimension; value = number b.cut.value }; left = b.left; right = b.right; mass = b.mass }

  abbrev pub heard_branch : Result BranchRow Refusal → Answer (whole d)
  heard_branch (Ok b) = branch_is (heard_row b)
  heard_branch (Err r) = refused (heard_refusal r)

  abbrev pub heard_box : Result BoundingBox Refusal → Answer (whole d)
  heard_box (Ok b) = box_is (record { lower = end_in b.min_values; upper = end_in b.max_values })
  heard_box (Err r) = refused (heard_refusal r)

  -- an arrival's answer
  abbrev pub heard_update : Result (Option Accepted) Refusal → SampledAnswer (whole d)
  heard_update (Ok (Some x)) = accepted x.leaf (heard_index x.evicted)
  heard_update (Ok None) = not_accepted
  heard_update (Err r) = plain (refused (heard_refusal r))
