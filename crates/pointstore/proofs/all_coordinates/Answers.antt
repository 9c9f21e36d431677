-- `all_coordinates` meets its contract: what is left gives what the whole gives. Assumes nothing.
use mathlib.Core.Path.{sym, ◌∙◌}
use Rattle.pointstore.proofs.Rows.{turn_bad, turn_good}
use Rattle.pointstore.proofs.all_coordinates.Goals as goal

pub returns-then-not-is_coordinate : goal.returns-then-not-is_coordinate
returns-then-not-is_coordinate c = sym (turn_bad _ _ c.loop-x-test.true (c.type_inv.coordinates _) _ c.is_coordinate.ensures c.if-not-is_coordinate.true) ∙ c.loop-x.invariant

pub loop-x-preserved : goal.loop-x-preserved
loop-x-preserved c = sym (turn_good _ _ c.loop-x-test.true (c.type_inv.coordinates _) _ c.is_coordinate.ensures c.if-not-is_coordinate.false) ∙ c.loop-x.invariant
