-- `Sampler::evict_max` meets its contract: its stores put the last entry in the first's place, from which it goes down. Assumes nothing.
use mathlib.Core.List.{◌∷◌}
use mathlib.Core.Path.{refl}
use Prim.Native.Nat.{◌-◌}
use native.Mathlib.Omega.{arith}
use lib.Ieee.{of_bits}
use Rattle.readings.specs.Number.{nought}
use Rattle.sampler.specs.Heap.{refilled}
use Rattle.sampler.specs.Sample.{beyond}
use Rattle.sampler.proofs.Places.{slots_refilled}
use Rattle.sampler.proofs.Sampler.evict_max.Goals as goal

pub returns : goal.returns
unfolding of_bits
returns c = record {
  answer = refl;
  slots = λ ks ws ps at.
      c.swap_down.ensures (refilled beyond ks) (nought ∷ ws) (0 ∷ ps) (slots_refilled at (c.args.self.current_size - 1) (omega arith));
}
