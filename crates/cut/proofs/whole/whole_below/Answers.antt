-- `whole_below` meets its contract: each branch is what its test selects. Assumes nothing.
use Rattle.std.proofs.Common.{arith, rules}
use Rattle.cut.proofs.Sums.{bit_one, bit_none}
use Rattle.cut.proofs.whole.whole_below.Goals as goal

pub returns-then-x-bound : goal.returns-then-x-bound
returns-then-x-bound c = record { few = search rules; told = bit_one c.args.x c.args.bound (omega arith) }

pub returns-else-x-bound : goal.returns-else-x-bound
returns-else-x-bound c = record { few = search rules; told = bit_none c.args.x c.args.bound (omega arith) }
