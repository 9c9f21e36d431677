-- `archivelines::put_answer` meets its contract. Assumes nothing.
use mathlib.Core.Path.{refl}
use native.Mathlib.Omega.{arith}
use Rattle.archivelines.proofs.Answers.{answer_refused, answer_asked}
use Rattle.archivelines.proofs.put_answer.Goals as goal

pub returns-then-numbers-ne0 : goal.returns-then-numbers-ne0
returns-then-numbers-ne0 c = record { wrote = answer_refused _ _ _ _ c.if-numbers-ne0.true c.put_refused.ensures.wrote; fits = omega (arith, c.put_refused.ensures.few) }

pub returns-in-Nothing-clause-wrote : goal.returns-in-Nothing-clause-wrote
returns-in-Nothing-clause-wrote c = answer_asked _ _ _ _ c.if-numbers-ne0.false c.in-Nothing.is (record { next = omega arith; left = refl })

pub returns-in-Arrival-clause-wrote : goal.returns-in-Arrival-clause-wrote
returns-in-Arrival-clause-wrote c = answer_asked _ _ _ _ c.if-numbers-ne0.false c.in-Arrival.is c.put_arrival.ensures.wrote

pub returns-in-Report-clause-wrote : goal.returns-in-Report-clause-wrote
returns-in-Report-clause-wrote c = answer_asked _ _ _ _ c.if-numbers-ne0.false c.in-Report.is c.put_report.ensures.wrote
