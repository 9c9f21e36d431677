-- `Sample::new` meets its contract. Assumes nothing.
use mathlib.Core.Path.{refl}
use lib.Ieee.{of_bits}
use Rattle.sampler.proofs.Sample.new.Goals as goal

pub returns : goal.returns
unfolding of_bits
returns c = record { weights = refl; held = refl }
