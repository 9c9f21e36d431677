-- `form::is_row` meets its contract. Assumes nothing.
use Rattle.std.proofs.Common.{◌∙◌}
use Rattle.form.proofs.Rows.{row_said}
use Rattle.form.proofs.is_row.Goals as goal

pub returns : goal.returns
returns c = c.is_some.ensures ∙ row_said _ _ c.read_row.ensures
