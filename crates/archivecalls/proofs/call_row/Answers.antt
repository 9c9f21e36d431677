-- `archivecalls::call_row` meets its contract. Assumes nothing.
use mathlib.Core.Path.{◌≡◌, refl, ap, ◌∙◌}
use Rattle.archiverow.specs.declared.Line.TheVariants.{Puts, Arrives, Reports}
use mathlib.Core.List.{[], ◌∷◌}
use Rattle.std.specs.Prelude.{Ok}
use Rattle.answers.specs.Said.{filled, reply_width}
use Rattle.archiverow.specs.Rows.{row_of}
use Rattle.archivecalls.proofs.Carried.{row_read, put_carried, arrival_carried, report_carried, refusal_carried, readable}
use borrow.Author.Rules.{rules}
use Rattle.archivecalls.proofs.call_row.Goals as goal

pub report_row-requires : goal.report_row-requires
report_row-requires c = readable c.args.tree c.args.store.now c.args.table.now.points c.args.table.now.written c.args.sample.now.weights c.args.sample.now.held c.requires.1

pub returns-in-Ok-Puts : goal.returns-in-Ok-Puts
returns-in-Ok-Puts c = let e : c.args.read ≡ Ok (Puts c.in-Ok-Puts.index c.in-Ok-Puts.start) = search rules in
    put_carried (row_of c.args.line.now) c.args.tree c.args.store.now c.args.table.now.points c.args.table.now.written c.args.sample.now.weights c.args.sample.now.held c.args.rows.now _ _ _ _ _ (row_read c.args.line.now _ c.requires.0 _ e) (c.put_row.ensures _ refl)

pub returns-in-Ok-Arrives : goal.returns-in-Ok-Arrives
returns-in-Ok-Arrives c = let e : c.args.read ≡ Ok (Arrives c.in-Ok-Arrives.index c.in-Ok-Arrives.start) = search rules in
    arrival_carried (row_of c.args.line.now) c.args.tree c.args.store.now c.args.table.now.points c.args.table.now.written c.args.sample.now.weights c.args.sample.now.held c.args.rows.now _ _ _ _ _ _ _ _ _ (row_read c.args.line.now _ c.requires.0 _ e) c.arrival_row.ensures

pub returns-in-Ok-Reports : goal.returns-in-Ok-Reports
returns-in-Ok-Reports c = let e : c.args.read ≡ Ok (Reports c.in-Ok-Reports.start) = search rules in
    report_carried (row_of c.args.line.now) c.args.tree c.args.store.now c.args.table.now.points c.args.table.now.written c.args.sample.now.weights c.args.sample.now.held c.args.rows.now _ _ _ (row_read c.args.line.now _ c.requires.0 _ e) c.report_row.ensures

pub returns-in-Err : goal.returns-in-Err
returns-in-Err c = refusal_carried c.args.line.now c.args.tree c.args.store.now c.args.table.now.points c.args.table.now.written c.args.sample.now.weights c.args.sample.now.held c.args.rows.now _ c.requires.0 _ c.in-Err.is _ (c.tell_refused.ensures ∙ ap (λ n. filled reply_width (n ∷ [])) c.number.ensures)
