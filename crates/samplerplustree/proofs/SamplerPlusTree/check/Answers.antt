-- `SamplerPlusTree::check` meets its contract, test by test. Assumes nothing.
use mathlib.Core.Path.{sym, subst, ◌∙◌}
use lib.Dec.{T}
use Rattle.samplerplustree.proofs.Tested.{weight_is, tells_5, tells_9, tells_14, tells_11, tells_none}
use Rattle.samplerplustree.proofs.SamplerPlusTree.check.Goals as goal

pub returns-then-index-ge-POINTS : goal.returns-then-index-ge-POINTS
returns-then-index-ge-POINTS c = tells_5 _ _ _ _ _ c.if-index-ge-POINTS.true

pub returns-then-written-index-eq0 : goal.returns-then-written-index-eq0
returns-then-written-index-eq0 c = tells_9 _ _ _ _ _ c.if-index-ge-POINTS.false c.if-written-index-eq0.true

pub returns-then-not-is_weight : goal.returns-then-not-is_weight
returns-then-not-is_weight c = tells_14 _ _ _ _ _ c.if-index-ge-POINTS.false c.if-written-index-eq0.false (sym (weight_is _ (subst T (sym c.well_formed.1.1.1.0.1) tt)) ∙ sym c.is_weight.ensures ∙ c.if-not-is_weight.true)

pub returns-then-words-wide16 : goal.returns-then-words-wide16
returns-then-words-wide16 c = tells_11 _ _ _ _ _ c.if-index-ge-POINTS.false c.if-written-index-eq0.false (sym (weight_is _ (subst T (sym c.well_formed.1.1.1.0.1) tt)) ∙ sym c.is_weight.ensures ∙ c.if-not-is_weight.false) _ c.wide16.ensures.0 c.if-words-wide16.true

pub returns : goal.returns
returns c = tells_none _ _ _ _ _ c.if-index-ge-POINTS.false c.if-written-index-eq0.false (sym (weight_is _ (subst T (sym c.well_formed.1.1.1.0.1) tt)) ∙ sym c.is_weight.ensures ∙ c.if-not-is_weight.false) _ c.wide16.ensures.0 c.if-words-wide16.false
