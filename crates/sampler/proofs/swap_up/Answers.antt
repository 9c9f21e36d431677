-- `sampler::swap_up` meets its contract. The loop's invariant: the entry is on its way up, from no further than it started.
-- The measure is the place. Assumes nothing.
use mathlib.Core.Path.{refl, ◌∙◌}
use native.Mathlib.Omega.{arith}
use borrow.Author.Tests.{lt-ltb, le-ltb}
use Rattle.sampler.specs.Heap.{parent}
use Rattle.sampler.proofs.Places.{compared}
use Rattle.sampler.proofs.Ways.{way_ends, way_goes}
use Rattle.sampler.proofs.swap_up.Goals as goal

pub loop-current-init : goal.loop-current-init
loop-current-init c = (omega arith, λ ks ws ps at. record { left = c.args.start_index; entries = ks; slots = at; enough = omega arith; same = refl })

pub loop-current-preserved : goal.loop-current-preserved
loop-current-preserved c = let s = c.loop-current in
    let j = parent s.current in (
      omega arith,
      λ ks ws ps at.
          let w = s.invariant.1 ks ws ps at in
          rw (c.swap_weights.ensures.weights_after, c.swap_weights.ensures.points_after)
          (way_goes _ _ w j (omega arith) (omega arith) (omega arith)
          (rw (lt-ltb 0 s.current (omega arith)) (compared w.slots s.current j (omega arith) (omega arith) ∙ c.if-sample-tmp.true)) refl),
    )

pub returns-after-loop-current : goal.returns-after-loop-current
returns-after-loop-current c = λ ks ws ps at. way_ends _ _ (c.loop-current.invariant.1 ks ws ps at) (rw (le-ltb 0 c.loop-current.current (omega arith)))

pub returns-else-sample-tmp : goal.returns-else-sample-tmp
returns-else-sample-tmp c = let s = c.loop-current in
    let j = parent s.current in
    λ ks ws ps at.
    let w = s.invariant.1 ks ws ps at in
    way_ends _ _ w (rw (lt-ltb 0 s.current (omega arith)) (compared w.slots s.current j (omega arith) (omega arith) ∙ c.if-sample-tmp.false))
