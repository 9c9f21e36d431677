-- `moved` meets its contract: after i turns the joined ends stand in the channels below i. Assumes nothing.
use native.Mathlib.Omega.{arith}
use mathlib.Core.Path.{◌≡◌, ◌∙◌}
use Rattle.limits.specs.Limits.{width}
use Rattle.boundingbox.proofs.Joined.{written_turn, written_all}
use borrow.Author.Rules.{rules}
use Rattle.boundingbox.proofs.moved.Goals as goal

pub loop-i-preserved : goal.loop-i-preserved
loop-i-preserved g c = λ f says. written_turn f _ _ c.loop-i.i _ c.pick.result (omega arith) (c.loop-i.invariant f says) (says _ _ _ c.pick.ensures)

pub returns : goal.returns
returns g c = let e : c.loop-i.i ≡ width = omega arith in
    λ f says. c.loop-i.invariant f says ∙ rw e (written_all f _ _ width (search rules))
