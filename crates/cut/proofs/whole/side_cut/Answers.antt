-- `side_cut` meets its contract: the sums by fours and those in one four tell the side and the rest. Assumes nothing.
use Rattle.std.proofs.Common.{arith}
use Rattle.cut.proofs.Counted.{sides_small, sides_padded, none_cut, bound_asked, four_below, four_starts, count_fits, side_told}
use Rattle.cut.proofs.whole.side_cut.Goals as goal

pub four_sums-sums-requires : goal.four_sums-sums-requires
four_sums-sums-requires c = let at = c.requires in
    let made = c.wholes-sides in
    record { small = sides_small _ _ _ made.result made.ensures at.readings; padded = sides_padded _ _ _ made.result made.ensures _ at.padded }

pub side_sum-requires : goal.side_sum-requires
side_sum-requires c = let at = c.requires in record { sides = at.readings.box; padded = (at.padded.low, at.padded.high) }

pub returns-then-all-side_sum : goal.returns-then-all-side_sum
returns-then-all-side_sum c = none_cut _ _ _ c.requires.readings _ c.ranges.word.fits c.wholes-sides.result c.wholes-sides.ensures c.four_sums-sums.result c.four_sums-sums.ensures _ c.side_sum.ensures c.if-all-side_sum.true

pub whole_bound-bound-requires : goal.whole_bound-bound-requires
whole_bound-bound-requires c = bound_asked _ _ _ c.requires.readings _ c.ranges.word.fits c.wholes-sides.result c.wholes-sides.ensures c.four_sums-sums.result c.four_sums-sums.ensures _ c.side_sum.ensures c.if-all-side_sum.false _ c.factor.ensures

pub overflow_mul-four : goal.overflow_mul-four
overflow_mul-four c = omega (arith, four_below _ _ _ c.requires.readings _ c.ranges.word.fits c.wholes-sides.result c.wholes-sides.ensures c.four_sums-sums.result c.four_sums-sums.ensures _ c.side_sum.ensures c.if-all-side_sum.false _ c.factor.ensures _ c.requires.padded _ c.whole_bound-bound.ensures _ c.fours_below-four.ensures)

pub offset_bounds-sums-four : goal.offset_bounds-sums-four
offset_bounds-sums-four c = omega (arith, four_below _ _ _ c.requires.readings _ c.ranges.word.fits c.wholes-sides.result c.wholes-sides.ensures c.four_sums-sums.result c.four_sums-sums.ensures _ c.side_sum.ensures c.if-all-side_sum.false _ c.factor.ensures _ c.requires.padded _ c.whole_bound-bound.ensures _ c.fours_below-four.ensures)

pub bounds-sums-four : goal.bounds-sums-four
bounds-sums-four c = omega (arith, four_below _ _ _ c.requires.readings _ c.ranges.word.fits c.wholes-sides.result c.wholes-sides.ensures c.four_sums-sums.result c.four_sums-sums.ensures _ c.side_sum.ensures c.if-all-side_sum.false _ c.factor.ensures _ c.requires.padded _ c.whole_bound-bound.ensures _ c.fours_below-four.ensures)

pub under_in-under-requires : goal.under_in-under-requires
under_in-under-requires c = record { small = sides_small _ _ _ c.wholes-sides.result c.wholes-sides.ensures c.requires.readings; start = (omega (arith, four_below _ _ _ c.requires.readings _ c.ranges.word.fits c.wholes-sides.result c.wholes-sides.ensures c.four_sums-sums.result c.four_sums-sums.ensures _ c.side_sum.ensures c.if-all-side_sum.false _ c.factor.ensures _ c.requires.padded _ c.whole_bound-bound.ensures _ c.fours_below-four.ensures), four_starts _ _ _ c.requires.readings _ c.ranges.word.fits c.wholes-sides.result c.wholes-sides.ensures c.four_sums-sums.result c.four_sums-sums.ensures _ c.side_sum.ensures c.if-all-side_sum.false _ c.factor.ensures _ c.requires.padded _ c.whole_bound-bound.ensures _ c.fours_below-four.ensures) }

pub overflow_mul-result : goal.overflow_mul-result
overflow_mul-result c = omega (arith, four_below _ _ _ c.requires.readings _ c.ranges.word.fits c.wholes-sides.result c.wholes-sides.ensures c.four_sums-sums.result c.four_sums-sums.ensures _ c.side_sum.ensures c.if-all-side_sum.false _ c.factor.ensures _ c.requires.padded _ c.whole_bound-bound.ensures _ c.fours_below-four.ensures)

pub overflow_add-result : goal.overflow_add-result
overflow_add-result c = omega (arith, count_fits _ _ _ c.requires.readings _ c.ranges.word.fits c.wholes-sides.result c.wholes-sides.ensures c.four_sums-sums.result c.four_sums-sums.ensures _ c.side_sum.ensures c.if-all-side_sum.false _ c.factor.ensures _ c.requires.padded _ c.whole_bound-bound.ensures _ c.fours_below-four.ensures _ _ c.under_in-under.ensures)

pub returns : goal.returns
returns c = side_told _ _ _ c.requires.readings _ c.ranges.word.fits c.wholes-sides.result c.wholes-sides.ensures c.four_sums-sums.result c.four_sums-sums.ensures _ c.side_sum.ensures c.if-all-side_sum.false _ c.factor.ensures _ c.requires.padded _ c.whole_bound-bound.ensures _ c.fours_below-four.ensures _ _ c.under_in-under.ensures
