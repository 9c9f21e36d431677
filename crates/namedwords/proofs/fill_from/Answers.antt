-- `namedwords::fill_from` meets its contract. Assumes nothing.
use native.Mathlib.Omega.{arith}
use Rattle.text.specs.Pieces.{pieces_from}
use Rattle.namedwords.specs.Named.{first_in}
use Rattle.namedwords.proofs.Words.{stretch_end, filled_is}
use Rattle.namedwords.proofs.fill_from.Goals as goal

pub overflow_add-first : goal.overflow_add-first
overflow_add-first c = omega (arith, stretch_end (first_in (pieces_from 32 c.args.row.now c.args.start)) c.requires.had, c.read_first-first.ensures)

pub returns : goal.returns
returns c = filled_is _ c.requires.named c.requires.had c.read_key-key.ensures c.read_first-first.ensures _ _ c.requires.within.0 c.requires.within.1 c.fill.ensures
