-- `answer` meets its contract, kind by kind. Assumes nothing.
use mathlib.Core.Path.{◌∙◌}
use native.Mathlib.Omega.{arith}
use Rattle.replay.proofs.Laws.{all_written, at_0, at_1, at_2, at_3, at_12, at_others}
use Rattle.replay.proofs.answer.Goals as goal

pub returns-in-0 : goal.returns-in-0
returns-in-0 c = all_written c.answer_cut.ensures ∙ at_0 _ _ _ c.in-0.is

pub returns-in-1 : goal.returns-in-1
returns-in-1 c = all_written c.answer_sequence.ensures ∙ at_1 _ _ _ c.in-1.is

pub returns-in-2 : goal.returns-in-2
returns-in-2 c = c.sicklephlox_run.ensures ∙ at_2 _ _ _ c.in-2.is

pub returns-in-3 : goal.returns-in-3
returns-in-3 c = all_written c.treelist_output.ensures.wrote ∙ at_3 _ _ _ c.in-3.is

pub returns-in-12 : goal.returns-in-12
returns-in-12 c = all_written c.answer_sample.ensures ∙ at_12 _ _ _ c.in-12.is

pub returns-in_default : goal.returns-in_default
returns-in_default c = all_written c.answer_floats.ensures ∙ at_others _ _ _ (omega arith) (omega arith) (omega arith) (omega arith) (omega arith)
