-- `treelist_text::tell_row` meets its contract. Assumes nothing.
use native.Mathlib.Omega.{arith}
use Rattle.treelist_text.proofs.Telling.{told_none, told_one}
use Rattle.treelist_text.proofs.tell_row.Goals as goal

pub returns-then-refusal-eq0 : goal.returns-then-refusal-eq0
returns-then-refusal-eq0 c = record { wrote = told_none _ c.if-refusal-eq0.true; few = omega arith }

pub returns : goal.returns
returns c = record { wrote = told_one _ c.if-refusal-eq0.false c.put_refused.ensures.wrote; few = c.put_refused.ensures.few }
