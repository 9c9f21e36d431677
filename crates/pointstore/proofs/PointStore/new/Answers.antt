-- `PointStore::new` meets its contract. Assumes nothing.
use mathlib.Core.Path.{refl}
use lib.Ieee.{of_bits}
use Rattle.pointstore.proofs.PointStore.new.Goals as goal

pub returns-clause-points : goal.returns-clause-points
unfolding of_bits
returns-clause-points c = refl
