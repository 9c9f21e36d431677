-- `put_byte` meets its contract. Assumes nothing.
use Rattle.lines.proofs.Writes.{byte_set_here}
use Rattle.lines.proofs.put_byte.Goals as goal

pub returns : goal.returns
returns c = byte_set_here c.set_after.ensures
