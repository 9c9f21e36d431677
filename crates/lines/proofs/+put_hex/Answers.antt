-- `put_hex` meets its contract. Assumes nothing.
use Rattle.lines.proofs.Writes.{hex_digit, hex_none}
use Rattle.lines.proofs.+put_hex.Goals as goal

pub returns-then-count-eq0-clause-wrote : goal.returns-then-count-eq0-clause-wrote
returns-then-count-eq0-clause-wrote t c = (hex_none _ c.if-count-eq0.true).0

pub returns-clause-wrote : goal.returns-clause-wrote
returns-clause-wrote t c = hex_digit _ c.if-count-eq0.false c.put_hex-p.ensures.wrote c.digit_of.ensures c.put_byte.ensures
