-- `BoundingBox::strictly_contains` meets its contract: after i turns `held` tells of the first i channels that are not padding. Assumes nothing.
use native.Mathlib.Omega.{arith}
use mathlib.Core.Path.{◌≡◌, refl}
use Prim.Native.Nat.{min}
use Rattle.boundingbox.specs.Contained.{every}
use Rattle.boundingbox.proofs.Every.{every_among}
use Rattle.boundingbox.proofs.BoundingBox.strictly_contains.Goals as goal

pub loop-i-init : goal.loop-i-init
unfolding every
loop-i-init c = let e : min c.args.dimensions 0 ≡ 0 = omega arith in
    rw e refl

pub loop-i-preserved : goal.loop-i-preserved
loop-i-preserved c = rw (every_among, c.and_inside-held.ensures, c.loop-i.invariant)
