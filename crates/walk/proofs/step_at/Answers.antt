-- `step_at` meets its contract. Assumes nothing.
use native.Mathlib.Omega.{arith}
use mathlib.Core.Path.{ap}
use Rattle.cut.specs.declared.Cut.{Cut}
use Rattle.walk.proofs.step_at.Goals as goal

pub offset_bounds-point-d : goal.offset_bounds-point-d
offset_bounds-point-d c = let e = ap (λ (x : Cut). x.dimension) c.cut_at-cut.ensures in omega (arith, e, c.requires.i_bound)

pub bounds-point-d : goal.bounds-point-d
bounds-point-d c = let e = ap (λ (x : Cut). x.dimension) c.cut_at-cut.ensures in omega (arith, e, c.requires.i_bound)

pub returns : goal.returns
returns c = rw c.cut_at-cut.ensures at c.in_turn.ensures
