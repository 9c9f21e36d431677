-- `text::read_digits` meets its contract. Assumes nothing.
use Rattle.std.proofs.Common.{arith}
use Rattle.text.proofs.Numbers.{digit_bad, digit_step, digit_end, fit}
use Rattle.text.proofs.read_digits.Goals as goal

pub returns-then-base-d : goal.returns-then-base-d
returns-then-base-d c = digit_bad c.loop-byte.invariant c.loop-byte-test.true c.digit_value-d.ensures c.if-base-d.true

pub overflow_mul-v : goal.overflow_mul-v
overflow_mul-v c = let g = fit (digit_step c.loop-byte.invariant c.loop-byte-test.true c.digit_value-d.ensures c.if-base-d.false) c.requires.base_nonzero c.requires.field_bound in record { fits = omega arith }

pub overflow_add-v : goal.overflow_add-v
overflow_add-v c = let g = fit (digit_step c.loop-byte.invariant c.loop-byte-test.true c.digit_value-d.ensures c.if-base-d.false) c.requires.base_nonzero c.requires.field_bound in record { fits = omega arith }

pub loop-byte-preserved : goal.loop-byte-preserved
loop-byte-preserved c = digit_step c.loop-byte.invariant c.loop-byte-test.true c.digit_value-d.ensures c.if-base-d.false

pub returns : goal.returns
returns c = digit_end c.loop-byte.invariant c.loop-byte-test.false
