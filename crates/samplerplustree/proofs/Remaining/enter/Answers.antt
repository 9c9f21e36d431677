-- `Remaining::enter` meets its contract. Assumes nothing.
use mathlib.Core.Path.{sym, ◌∙◌}
use Rattle.samplerplustree.proofs.Entered.{enter_asks, enter_done, untaken_done}
use Rattle.samplerplustree.proofs.Remaining.enter.Goals as goal

pub admit-admitted-requires : goal.admit-admitted-requires
admit-admitted-requires c = enter_asks c.args.self c.args.offer _ _ _ _ c.args.index c.args.weight c.args.words.now _ _ (sym c.is_taken.ensures ∙ c.if-is_taken.true) c.requires

pub returns-then-is_taken : goal.returns-then-is_taken
returns-then-is_taken c = enter_done c.args.self c.args.offer _ _ _ _ c.args.index c.args.weight c.args.words.now c.admit-admitted.result _ _ _ _ (sym c.is_taken.ensures ∙ c.if-is_taken.true) c.admit-admitted.ensures c.answer_of.ensures

pub returns : goal.returns
returns c = untaken_done c.args.self _ _ _ _ c.args.index c.args.weight c.args.words.now c.args.offer _ _ (sym c.is_taken.ensures ∙ c.if-is_taken.false) c.answer_of-2.ensures
