-- `Sampler::swap_down` meets its contract. The loop's invariant: the entry is on its way down. The measure is what is left of the size.
-- Assumes nothing.
use mathlib.Core.Path.{refl, ◌∙◌}
use Prim.Native.Nat.{◌+◌, ◌*◌}
use native.Mathlib.Omega.{arith}
use lib.ListN.{length}
use borrow.Author.Tests.{lt-ltb, le-ltb}
use Rattle.sampler.proofs.Places.{compared}
use Rattle.sampler.proofs.Ways.{way_ends, way_goes}
use Rattle.sampler.proofs.Sampler.swap_down.Goals as goal

pub loop-current-init : goal.loop-current-init
loop-current-init c = (omega arith, λ ks ws ps at. record { left = length ks; entries = ks; slots = at; enough = omega arith; same = refl })

pub loop-current-preserved : goal.loop-current-preserved
loop-current-preserved c = let s = c.loop-current in
    let m = c.max_child-max_index in
    let n = c.args.self.current_size in (
      omega arith,
      λ ks ws ps at.
          let w = s.invariant.1 ks ws ps at in
          let is = m.ensures.is w.entries ws ps _ w.slots in
          rw (c.swap_weights.ensures.weights_after, c.swap_weights.ensures.points_after)
          (way_goes _ _ w m.result (omega arith) (omega arith) (omega arith)
          (rw (w.slots.size, lt-ltb (2 * s.current + 1) n (omega arith), ← is) (compared w.slots m.result s.current (omega arith) (omega arith) ∙ c.if-sample-max_index.true)) (rw is)),
    )

pub returns-after-loop-current : goal.returns-after-loop-current
returns-after-loop-current c = let s = c.loop-current in
    let n = c.args.self.current_size in
    λ ks ws ps at.
    let w = s.invariant.1 ks ws ps at in
    way_ends _ _ w (rw (w.slots.size, le-ltb (2 * s.current + 1) n (omega arith)))

pub returns-else-sample-max_index : goal.returns-else-sample-max_index
returns-else-sample-max_index c = let s = c.loop-current in
    let m = c.max_child-max_index in
    let n = c.args.self.current_size in
    λ ks ws ps at.
    let w = s.invariant.1 ks ws ps at in
    way_ends _ _ w
    (rw (w.slots.size, lt-ltb (2 * s.current + 1) n (omega arith), ← m.ensures.is w.entries ws ps _ w.slots) (compared w.slots m.result s.current (omega arith) (omega arith) ∙ c.if-sample-max_index.false))
