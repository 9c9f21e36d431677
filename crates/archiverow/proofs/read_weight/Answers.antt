-- `archiverow::read_weight` meets its contract. Assumes nothing.
use Rattle.std.proofs.Common.{rules}
use Rattle.archiverow.proofs.Rest.{weight_none, weight_is, bits_fit}
use Rattle.archiverow.proofs.read_weight.Goals as goal

pub returns-then-row-start : goal.returns-then-row-start
returns-then-row-start c = weight_none _ _ c.if-row-start.true

pub overflow_cast-bits : goal.overflow_cast-bits
overflow_cast-bits c = let g = bits_fit _ c.read_bits.ensures c.unwrap_or-bits.ensures in search rules

pub returns : goal.returns
returns c = weight_is _ _ c.if-row-start.false c.piece_end-end.ensures c.read_bits.ensures c.unwrap_or-bits.ensures c.float_of.ensures
