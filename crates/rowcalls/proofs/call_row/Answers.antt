-- `rowcalls::call_row` meets its contract: each arm does the op that its row is. Assumes nothing.
use mathlib.Core.Path.{refl, ap, ◌∙◌}
use Rattle.std.specs.Prelude.{Some}
use Rattle.rowcalls.proofs.Ops.{does_op, is_put, is_add, is_delete, is_some}
use Rattle.rowcalls.proofs.call_row.Goals as goal

pub returns-in-Some-Put : goal.returns-in-Some-Put
returns-in-Some-Put c = λ o e. does_op _ _ _ _ _ _ _ _ _ _ _ (is_put c.args.row.now _ c.read_row.ensures o e _ _ (c.in-Some-Put.is ∙ ap Some c.in-Some-Put.field-0-is)) (c.put_row.ensures _ refl)

pub returns-in-Some-Add : goal.returns-in-Some-Add
returns-in-Some-Add c = λ o e. does_op _ _ _ _ _ _ _ _ _ _ _ (is_add c.args.row.now _ c.read_row.ensures o e _ _ (c.in-Some-Add.is ∙ ap Some c.in-Some-Add.field-0-is)) c.add_row.ensures

pub returns-in-Some-Delete : goal.returns-in-Some-Delete
returns-in-Some-Delete c = λ o e. does_op _ _ _ _ _ _ _ _ _ _ _ (is_delete c.args.row.now _ c.read_row.ensures o e _ (c.in-Some-Delete.is ∙ ap Some c.in-Some-Delete.field-0-is)) c.delete.ensures

pub returns-in-None : goal.returns-in-None
returns-in-None c = λ o e. is_some c.args.row.now _ c.read_row.ensures o e c.in-None.is
