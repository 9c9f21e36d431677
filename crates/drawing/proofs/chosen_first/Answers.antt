-- `chosen_first` meets its contract: the draw of the leaf's box chooses. Assumes nothing.
use mathlib.Core.Path.{sym, ap, ◌∙◌, subst}
use Rattle.drawing.specs.Choice.{Numbered, none_chosen, chosen_by}
use Rattle.drawing.proofs.chosen_first.Goals as goal

pub chosen_at-requires : goal.chosen_at-requires
chosen_at-requires c = subst Numbered (sym c.whole_cut_and_separation-first.ensures ∙ c.in-Some.is) c.requires.number

pub returns-in_default : goal.returns-in_default
returns-in_default c = ap (chosen_by none_chosen 0) (sym c.in_default.is ∙ c.whole_cut_and_separation-first.ensures)

pub returns : goal.returns
returns c = c.chosen_at.ensures ∙ ap (chosen_by none_chosen 0) (sym c.in-Some.is ∙ c.whole_cut_and_separation-first.ensures)
