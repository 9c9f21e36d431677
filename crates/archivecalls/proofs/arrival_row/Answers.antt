-- `archivecalls::arrival_row` meets its contract. Assumes nothing.

use Rattle.archiverow.specs.Rows.{arrival_words_in}
use Rattle.archivecalls.proofs.Carried.{arrival_read}
use mathlib.Core.Path.{refl}
use Rattle.limits.specs.Limits.{capacity_limit}
use Rattle.text.specs.Pieces.{pieces_from}
use Rattle.rowcalls.proofs.Fields.{first_values}
use Rattle.archivecalls.proofs.arrival_row.Goals as goal

pub returns : goal.returns
returns c = let ps = pieces_from 32 c.args.line.now c.args.start in
    let first = first_values (arrival_words_in ps) _ _ capacity_limit _ _ refl c.read_arrival_words-given.ensures.value c.at_most-n.ensures c.read_arrival_words-given.ensures.words_after in
    arrival_read c.args.tree c.args.store.now c.args.table.now.points c.args.table.now.written c.args.sample.now.weights c.args.sample.now.held c.args.index _ _ _ _ (arrival_words_in ps) _ _ _ _ _ c.read_weight-weight.ensures c.read_chance-chance.ensures (c.arrive.ensures (arrival_words_in ps) first)
