-- The refusals of the calls on a tree, as the code names them: each under document 01's number (`refusals`). Definitions.
use Rattle.std.specs.Prelude.{◌≡◌, refl}
use Rattle.refusals.specs.declared.Refusal.{Refusal}
use Rattle.refusals.specs.declared.Refusal.TheVariants.{IndexAbove, CoordinateCount, BadCoordinate, IndexIsLeaf, NeverWritten, Full, FewWords, TreeEmpty, NotHeld, BadWeight, NoSuchNode, OutOfForm}
use Rattle.refusals.specs.Refusals.{number}
use Rattle.cuttree.specs.Run as Run
use Rattle.cuttree.specs.Run.{index_above, coordinate_count, bad_coordinate, index_is_leaf, never_written, full, few_words, tree_empty, not_held, bad_weight, no_such_node, number_of}

abbrev pub refusal_of : Run.Refusal → Refusal
refusal_of index_above = IndexAbove
refusal_of coordinate_count = CoordinateCount
refusal_of bad_coordinate = BadCoordinate
refusal_of index_is_leaf = IndexIsLeaf
refusal_of never_written = NeverWritten
refusal_of full = Full
refusal_of few_words = FewWords
refusal_of tree_empty = TreeEmpty
refusal_of not_held = NotHeld
refusal_of bad_weight = BadWeight
refusal_of no_such_node = NoSuchNode

-- each has the number of its own
pub same_number : (r : Run.Refusal) → number (refusal_of r) ≡ number_of r
same_number index_above = refl
same_number coordinate_count = refl
same_number bad_coordinate = refl
same_number index_is_leaf = refl
same_number never_written = refl
same_number full = refl
same_number few_words = refl
same_number tree_empty = refl
same_number not_held = refl
same_number bad_weight = refl
same_number no_such_node = refl

-- stands where a call has no such answer: a text's refusal, which no call on a tree gives
abbrev pub never : Refusal
never = OutOfForm
