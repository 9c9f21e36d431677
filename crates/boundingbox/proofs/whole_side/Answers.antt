-- `whole_side` meets its contract: the difference of coordinates is a whole number, and no cast loses any of it. Assumes nothing.
use mathlib.Core.Path.{ap}
use native.Mathlib.Omega.{arith}
use lib.IntN.{nat_abs}
use Rattle.readings.proofs.Ranks.{rank_le}
use Rattle.boundingbox.proofs.Casts.{side_passes, side_back}
use Rattle.boundingbox.proofs.whole_side.Goals as goal

pub float_to_int-result : goal.float_to_int-result
float_to_int-result c = let p = c.requires in side_passes _ _ p.0 p.1 p.2

pub overflow_cast-result : goal.overflow_cast-result
overflow_cast-result c = let p = c.requires in rw (side_back _ _ p.0 p.1 p.2) (tt, omega (arith, rank_le _ p.1))

pub returns : goal.returns
returns c = let p = c.requires in ap nat_abs (side_back _ _ p.0 p.1 p.2)
