-- `wholes_to` meets its contract: after i turns the first i sides stand in the list. Assumes nothing.
use Rattle.std.proofs.Common.{ℕ, ◌<◌, arith}
use lib.ListN.{length-replicate}
use Rattle.limits.specs.Limits.{width}
use Rattle.cut.proofs.Stretched.{stretched}
use Rattle.cut.proofs.Sums.{first_none, first_next}
use borrow.Author.Rules.{set_long}
use Rattle.cut.proofs.whole.wholes_to.Goals as goal

pub loop-i-init : goal.loop-i-init
loop-i-init c = (length-replicate {A = ℕ} width 0, first_none _)

pub stretched_side-requires : goal.stretched_side-requires
stretched_side-requires c = let h : c.loop-i.i < width = omega (arith, c.loop-i-test.true, c.requires.1) in
    let side = stretched _ _ _ width c.requires.0 in
    (side.lower _ h, side.upper _ h, side.ordered _ h)

pub loop-i-preserved : goal.loop-i-preserved
loop-i-preserved c = let at = c.loop-i in
    let h : at.i < width = omega (arith, c.loop-i-test.true, c.requires.1) in
    (set_long _ at.sides at.i width _ at.invariant.0, first_next _ at.i at.sides _ at.invariant.0 h at.invariant.1 c.stretched_side.ensures)
