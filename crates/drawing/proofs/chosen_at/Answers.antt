-- `chosen_at` meets its contract: a number has bits, and each number is picked by the same test. Assumes nothing.
use Rattle.drawing.proofs.Choosing.{number_not_nan, chosen_picked}
use Rattle.drawing.proofs.chosen_at.Goals as goal

pub float_to_bits-cut : goal.float_to_bits-cut
float_to_bits-cut c = number_not_nan _ c.requires

pub returns : goal.returns
returns c = let a = c.args in chosen_picked a.parts a.before a.m a.cut _ _ _ c.either.ensures c.either-2.ensures c.either-3.ensures
