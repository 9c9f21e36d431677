-- `are_readings` meets its contract: after i turns `all` tells of the first i channels. Assumes nothing.
use Rattle.recorded.proofs.Choices.{readings_none, readings_more}
use Rattle.recorded.proofs.cuts.are_readings.Goals as goal

pub loop-i-init : goal.loop-i-init
loop-i-init c = readings_none _ _ _

pub loop-i-preserved : goal.loop-i-preserved
loop-i-preserved c = readings_more _ _ _ _ _ _ c.loop-i.invariant c.is_reading-is.ensures
