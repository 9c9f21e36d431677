-- `Remaining::find` meets its contract. Assumes nothing.
use mathlib.Core.Path.{refl, sym, ◌∙◌}
use Rattle.cuttree.proofs.Tests.{clash}
use Rattle.samplerplustree.proofs.Remaining.find.Goals as goal

pub find-requires : goal.find-requires
find-requires c = c.requires (sym c.is_taken.ensures ∙ c.if-is_taken.true)

pub returns-then-is_taken : goal.returns-then-is_taken
returns-then-is_taken c = record { untaken = λ t. clash _ (sym c.is_taken.ensures ∙ c.if-is_taken.true) t; taken = λ t. c.find.ensures }

pub returns : goal.returns
returns c = record { untaken = λ t. (c.no_walk.ensures, refl); taken = λ t. clash _ t (sym c.is_taken.ensures ∙ c.if-is_taken.false) }
