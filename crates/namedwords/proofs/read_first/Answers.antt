-- `namedwords::read_first` meets its contract. Assumes nothing.
use mathlib.Core.Path.{◌∙◌}
use Rattle.namedwords.proofs.Fields.{first_is}
use Rattle.namedwords.proofs.read_first.Goals as goal

pub returns : goal.returns
returns c = c.word_from.ensures ∙ first_is _ _ _ c.after_field-at.ensures.fields
