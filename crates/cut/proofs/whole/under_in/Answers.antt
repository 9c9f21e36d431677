-- `under_in` meets its contract: after i turns i sums are told. Assumes nothing.
use Rattle.std.proofs.Common.{◌≡◌, ◌+◌, refl, arith}
use Rattle.cut.proofs.Sums.{small_sum, passed_none, next_fits, passed_next, passed_all}
use Rattle.cut.proofs.whole.under_in.Goals as goal

pub loop-i-init : goal.loop-i-init
loop-i-init c = passed_none _ _ _ _ c.requires.start.1

pub overflow_add-sum-in-loop-i : goal.overflow_add-sum-in-loop-i
overflow_add-sum-in-loop-i c = let at = c.loop-i in
    omega (arith, next_fits _ _ _ at.i _ _ _ at.invariant _ refl (small_sum c.args.sides.now c.requires.small (c.args.at + (at.i + 1)) (omega (arith, c.loop-i-test.true, c.requires.start.0))))

pub overflow_add-count : goal.overflow_add-count
overflow_add-count c = omega (arith, c.loop-i.invariant.most)

pub loop-i-preserved : goal.loop-i-preserved
loop-i-preserved c = let at = c.loop-i in
    passed_next _ _ _ at.i _ _ _ at.invariant _ refl _ _ c.picked-before.ensures c.whole_below-count.ensures.told

pub returns : goal.returns
returns c = let e : c.loop-i.i ≡ 4 = omega arith in
    passed_all _ _ _ _ _ _ (rw e at c.loop-i.invariant)
