-- `fours_below` meets its contract: it counts as many sums as the channels ask for. Assumes nothing.
use Rattle.std.proofs.Common.{ℕ, ◌+◌, Bool, ltb, get_or, List, arith}
use Rattle.cut.proofs.Sums.{count_one, count_two_more, fours_few, fours_some, fours_all}
use Rattle.cut.proofs.whole.fours_below.Goals as goal

-- whether a sum by fours lies below the bound
abbrev p : List ℕ → ℕ → ℕ → Bool
p t bound j = ltb (get_or t (j + 1) 0) bound

pub returns-then-dimensions-le8 : goal.returns-then-dimensions-le8
returns-then-dimensions-le8 c = rw (fours_few _ c.if-dimensions-le8.true) (count_one (p c.args.sums c.args.bound) _ c.whole_below-one.ensures.told)

pub overflow_add-three : goal.overflow_add-three
overflow_add-three c = omega arith

pub overflow_add-three-2 : goal.overflow_add-three-2
overflow_add-three-2 c = omega arith

pub returns-then-dimensions-le16 : goal.returns-then-dimensions-le16
returns-then-dimensions-le16 c = rw (fours_some _ (omega arith) c.if-dimensions-le16.true) (count_two_more (p c.args.sums c.args.bound) 1 _ _ _ (count_one (p c.args.sums c.args.bound) _ c.whole_below-one.ensures.told) c.whole_below.ensures.told c.whole_below-2.ensures.told)

pub overflow_add-five : goal.overflow_add-five
overflow_add-five c = omega arith

pub overflow_add-five-2 : goal.overflow_add-five-2
overflow_add-five-2 c = omega arith

pub overflow_add-result : goal.overflow_add-result
overflow_add-result c = omega arith

pub overflow_add-result-2 : goal.overflow_add-result-2
overflow_add-result-2 c = omega arith

pub returns : goal.returns
returns c = rw (fours_all c.args.dimensions (omega arith)) (count_two_more (p c.args.sums c.args.bound) 5 _ _ _ (count_two_more (p c.args.sums c.args.bound) 3 _ _ _ (count_two_more (p c.args.sums c.args.bound) 1 _ _ _ (count_one (p c.args.sums c.args.bound) _ c.whole_below-one.ensures.told) c.whole_below.ensures.told c.whole_below-2.ensures.told) c.whole_below-3.ensures.told c.whole_below-4.ensures.told) c.whole_below-5.ensures.told c.whole_below-6.ensures.told)
