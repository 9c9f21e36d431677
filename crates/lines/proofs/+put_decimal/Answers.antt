-- `put_decimal` meets its contract. Assumes nothing.
use mathlib.Core.Path.{refl}
use native.Mathlib.Omega.{arith}
use Rattle.lines.proofs.Placed.{placed_wrote, lone_written, last_written, twenty}
use Rattle.lines.proofs.+put_decimal.Goals as goal

pub returns-then-n-lt10-clause-placed : goal.returns-then-n-lt10-clause-placed
returns-then-n-lt10-clause-placed t c = placed_wrote 1 refl (lone_written (omega arith) c.digit_of.ensures c.set_after.ensures)

pub returns-clause-placed : goal.returns-clause-placed
returns-clause-placed t c = placed_wrote _ (omega arith) (last_written (omega arith) c.put_decimal-count.ensures.placed c.digit_of-2.ensures c.set_after-2.ensures)

pub returns-clause-few : goal.returns-clause-few
returns-clause-few t c = omega (arith, twenty c.ranges.n.fits (last_written (omega arith) c.put_decimal-count.ensures.placed c.digit_of-2.ensures c.set_after-2.ensures))
