-- `rowcalls::add_row` meets its contract. Assumes nothing.
use Rattle.std.specs.Prelude.{unwrap_or}
use mathlib.Core.Path.{refl}
use Rattle.limits.specs.Limits.{capacity_limit}
use Rattle.text.specs.Pieces.{pieces_from}
use Rattle.text.specs.Numbers.{word_of}
use Rattle.rowcalls.proofs.Fields.{first_fields}
use Rattle.rowcalls.proofs.add_row.Goals as goal

pub returns : goal.returns
returns c = let first = first_fields (λ p. unwrap_or (word_of p) 0) (pieces_from 32 c.args.row.now c.args.start) _ _ capacity_limit _ _ refl c.read_words-given.ensures.value c.at_most-n.ensures c.read_words-given.ensures.words_after in
    c.add.ensures _ first
