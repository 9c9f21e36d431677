-- `probability_of_cut` meets its contract: each branch is what its tests select, and the sum that is cast is a number. Assumes nothing.
use lib.Ieee.{of_bits}
use Rattle.limits.specs.Limits.{width}
use Rattle.probability.specs.Probability.{part_of, probability}
use Rattle.probability.proofs.Signs.{outside_casts}
use Rattle.probability.proofs.probability_of_cut.Goals as goal

pub returns-then-sum : goal.returns-then-sum
unfolding part_of probability of_bits
returns-then-sum c = let t = rw c.summed_distance-sum.ensures at c.if-sum.true in
    rw t

pub returns-then-range_sum : goal.returns-then-range_sum
unfolding part_of probability of_bits
returns-then-range_sum c = let t = rw c.summed_distance-sum.ensures at c.if-sum.false in
    let u = rw c.get_range_sum-range_sum.ensures at c.if-range_sum.true in
    rw (t, u)

pub float_to_float-outside : goal.float_to_float-outside
float_to_float-outside c = let a = c.args in
    rw c.summed_distance-sum.ensures (outside_casts a.bounding_box.min_values a.bounding_box.max_values a.point.now width)

pub returns : goal.returns
unfolding part_of probability of_bits
returns c = let t = rw c.summed_distance-sum.ensures at c.if-sum.false in
    let u = rw c.get_range_sum-range_sum.ensures at c.if-range_sum.false in
    rw (c.summed_distance-sum.ensures, c.get_range_sum-range_sum.ensures, t, u)
