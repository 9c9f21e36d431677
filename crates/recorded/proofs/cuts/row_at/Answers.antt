-- `row_at` meets its contract: after i turns the first i channels stand. Assumes nothing.
use mathlib.Core.Path.{refl, ap, ◌∙◌}
use lib.Ieee.{binary32, of_bits}
use Rattle.recorded.proofs.Choices.{row_none, row_more, row_all}
use Rattle.recorded.proofs.cuts.row_at.Goals as goal

pub loop-i-init : goal.loop-i-init
loop-i-init c = row_none _ _ _ refl

pub loop-i-preserved : goal.loop-i-preserved
loop-i-preserved c = row_more _ _ _ _ _ c.loop-i.invariant c.loop-i-test.true (c.float_of.ensures ∙ ap (of_bits binary32) c.u32_at.ensures)

pub returns : goal.returns
returns c = row_all _ _ _ _ c.loop-i.invariant c.loop-i-test.false
