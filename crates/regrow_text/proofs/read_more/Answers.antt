-- `regrow_text::read_more` meets its contract: what the input gave stands behind what was there. Assumes nothing.
use Rattle.std.proofs.Common.{◌-◌, length, arith}
use Rattle.inputs.proofs.Taking.{behind}
use Rattle.regrow_text.proofs.read_more.Goals as goal

pub returns-in-Ok-clause-takes : goal.returns-in-Ok-clause-takes
returns-in-Ok-clause-takes g c = rw (behind c.args.at (length c.args.text.now - c.args.at) c.in-Ok.n c.args.text.now c.read.new.buf (omega arith) (omega (arith, c.in-Ok.ensures.bound))) c.in-Ok.ensures.bytes.0
