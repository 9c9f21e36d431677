-- `clear` meets its contract: each array written is one value, repeated. Assumes nothing.
use mathlib.Core.Path.{refl}
use lib.Ieee.{of_bits}
use Rattle.randomcuttree.proofs.clear.Goals as goal

pub returns : goal.returns
unfolding of_bits
returns c = record { rows = refl; values = refl; counts = refl; ends = refl }
