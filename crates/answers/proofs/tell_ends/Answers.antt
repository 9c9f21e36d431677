-- `answers::tell_ends` meets its contract: after i turns the numbers of the first i channels stand. Assumes nothing.
use native.Mathlib.Omega.{arith}
use mathlib.Core.Path.{◌∙◌}
use native.Mathlib.Nat.{min-le_right}
use Rattle.limits.specs.Limits.{width}
use Rattle.answers.specs.Said.{filled}
use Rattle.answers.proofs.Told.{told_none, told_turn, told_all}
use Rattle.answers.proofs.tell_ends.Goals as goal

pub loop-i-init : goal.loop-i-init
unfolding filled
loop-i-init c = (c.at_most-d.ensures, told_none 0 _ _ _)

pub loop-i-preserved : goal.loop-i-preserved
loop-i-preserved c = let w = c.loop-i.invariant in (w.0, told_turn _ _ _ _ _ _ _ _ w.1 (omega arith) (omega (arith, w.0, min-le_right c.args.dimensions width)) (c.wide32.ensures.0 ∙ c.pattern_of.ensures) (c.wide32-in-loop-i.ensures.0 ∙ c.pattern_of-in-loop-i.ensures))

pub returns : goal.returns
returns c = rw (← c.loop-i.invariant.0) (told_all _ _ _ _ _ _ c.loop-i.invariant.1 (omega arith))
