-- `put_bytes` meets its contract. Assumes nothing.
use native.Mathlib.Omega.{arith}
use Rattle.lines.proofs.Writes.{copy_next, copy_step, copy_end, long}
use Rattle.lines.proofs.put_bytes.Goals as goal

pub put_byte-p-requires : goal.put_byte-p-requires
put_byte-p-requires c = omega (arith, copy_next c.loop-byte.invariant)

pub loop-byte-preserved : goal.loop-byte-preserved
loop-byte-preserved c = copy_step c.loop-byte.invariant c.loop-byte-test.true c.put_byte-p.ensures

pub shape_of-out : goal.shape_of-out
shape_of-out c = long c.loop-byte.invariant.wrote

pub returns : goal.returns
returns c = copy_end c.loop-byte.invariant c.loop-byte-test.false
