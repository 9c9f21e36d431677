-- `answer_cut` meets its contract, by whether what is given is a case of readings. Assumes nothing.
use mathlib.Core.Path.{sym, ◌∙◌}
use Rattle.recorded.proofs.Choices.{no_case, readings_tested, answer_none, answer_told}
use Rattle.recorded.proofs.cuts.answer_cut.Goals as goal

pub returns-then-given-ne-GIVEN : goal.returns-then-given-ne-GIVEN
returns-then-given-ne-GIVEN c = no_case _ c.if-given-ne-GIVEN.true

pub returns-then-not-are_readings : goal.returns-then-not-are_readings
returns-then-not-are_readings c = answer_none _ c.row_at-low.ensures c.row_at-high.ensures c.row_at-point.ensures c.if-given-ne-GIVEN.false c.are_readings.ensures c.if-not-are_readings.true

pub put_both-requires : goal.put_both-requires
put_both-requires c = readings_tested _ _ _ (sym c.are_readings.ensures ∙ c.if-not-are_readings.false)

pub returns : goal.returns
returns c = answer_told _ c.row_at-low.ensures c.row_at-high.ensures c.row_at-point.ensures c.if-given-ne-GIVEN.false c.are_readings.ensures c.if-not-are_readings.false _ c.u64_at.ensures c.put_both.ensures
