-- `whole_bound` meets its contract. Assumes nothing.
use Rattle.std.proofs.Common.{arith}
use lib.Ieee.{of_bits}
use Rattle.cut.proofs.Bounds.{above_minus, below_most, whole_fits, bound_one, bound_more, bound_whole}
use Rattle.cut.proofs.whole.whole_bound.Goals as goal

pub returns-then-x : goal.returns-then-x
unfolding of_bits
returns-then-x c = bound_one _ c.requires.0 c.requires.1 c.if-x.true

pub truncating_f64_to_u64-whole-requires : goal.truncating_f64_to_u64-whole-requires
truncating_f64_to_u64-whole-requires c = record { lower_bound = above_minus _ c.requires.0 c.requires.1; upper_bound = below_most _ c.requires.0 c.requires.1 }

pub overflow_cast-whole : goal.overflow_cast-whole
overflow_cast-whole c = omega (arith, c.truncating_f64_to_u64-whole.ensures, whole_fits c.args.x c.requires.0 c.requires.1)

pub overflow_add-result : goal.overflow_add-result
overflow_add-result c = omega (arith, c.truncating_f64_to_u64-whole.ensures, whole_fits c.args.x c.requires.0 c.requires.1)

pub returns-then-whole-x : goal.returns-then-whole-x
unfolding of_bits
returns-then-whole-x c = bound_more _ c.requires.0 c.requires.1 c.if-x.false _ c.truncating_f64_to_u64-whole.ensures c.if-whole-x.true

pub returns-else-whole-x : goal.returns-else-whole-x
unfolding of_bits
returns-else-whole-x c = bound_whole _ c.requires.0 c.requires.1 c.if-x.false _ c.truncating_f64_to_u64-whole.ensures c.if-whole-x.false
