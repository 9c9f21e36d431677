-- `check_point` meets its contract. Assumes nothing.
use mathlib.Core.Path.{sym, ◌∙◌}
use Rattle.pointstore.proofs.Refusals.{wrong_count, bad_point, good_point}
use Rattle.pointstore.proofs.check_point.Goals as goal

pub returns-then-coordinates-dimensions : goal.returns-then-coordinates-dimensions
returns-then-coordinates-dimensions c = sym (wrong_count _ _ c.if-coordinates-dimensions.true)

pub returns-then-not-all_coordinates : goal.returns-then-not-all_coordinates
returns-then-not-all_coordinates c = sym (bad_point _ _ c.if-coordinates-dimensions.false (sym c.all_coordinates.ensures ∙ c.if-not-all_coordinates.true))

pub returns : goal.returns
returns c = sym (good_point _ _ c.if-coordinates-dimensions.false (sym c.all_coordinates.ensures ∙ c.if-not-all_coordinates.false))
