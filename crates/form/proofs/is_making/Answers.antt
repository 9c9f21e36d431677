-- `form::is_making` meets its contract. Assumes nothing.
use Rattle.std.proofs.Common.{◌∙◌}
use Rattle.form.proofs.MakingRow.{making_said}
use Rattle.form.proofs.is_making.Goals as goal

pub returns : goal.returns
returns c = c.is_some.ensures ∙ making_said _ c.read_making.ensures
