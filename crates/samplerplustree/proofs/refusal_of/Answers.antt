-- `refusal_of` meets its contract. Assumes nothing.
use mathlib.Core.Path.{sym, ◌∙◌}
use Rattle.samplerplustree.proofs.Makings.{tells_1, tells_2, tells_3, tells_4}
use Rattle.samplerplustree.proofs.refusal_of.Goals as goal

pub returns-then-not-within : goal.returns-then-not-within
returns-then-not-within c = tells_1 _ _ _ (sym c.within.ensures ∙ c.if-not-within.true)

pub returns-then-not-within-2 : goal.returns-then-not-within-2
returns-then-not-within-2 c = tells_2 _ _ _ (sym c.within.ensures ∙ c.if-not-within.false) (sym c.within-2.ensures ∙ c.if-not-within-2.true)

pub returns-then-not-is_share : goal.returns-then-not-is_share
returns-then-not-is_share c = tells_3 _ _ _ (sym c.within.ensures ∙ c.if-not-within.false) (sym c.within-2.ensures ∙ c.if-not-within-2.false) (sym c.is_share.ensures ∙ c.if-not-is_share.true)

pub returns : goal.returns
returns c = tells_4 _ _ _ (sym c.within.ensures ∙ c.if-not-within.false) (sym c.within-2.ensures ∙ c.if-not-within-2.false) (sym c.is_share.ensures ∙ c.if-not-is_share.false)
