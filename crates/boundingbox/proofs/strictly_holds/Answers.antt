-- `strictly_holds` meets its contract: the point lies strictly inside in all channels exactly where it does in as many. Assumes nothing.
use mathlib.Core.Path.{◌≡◌}
use mathlib.Core.Bool.{cond}
use native.Mathlib.Omega.{arith}
use native.Mathlib.Nat.{le_refl}
use Prim.Native.Nat.{ℕ, min}
use borrow.Author.Rules.{rules}
use Rattle.limits.specs.Limits.{width}
use Rattle.boundingbox.specs.Ends.{channel}
use Rattle.boundingbox.specs.Contained.{inside, inside_to}
use Rattle.boundingbox.proofs.Counts.{count_every}
use Rattle.boundingbox.proofs.Padding.{not_inside, padded_inside}
use Rattle.boundingbox.proofs.strictly_holds.Goals as goal

pub returns : goal.returns
returns c = let low = c.args.low.now in
    let high = c.args.high.now in
    let point = c.args.point.now in
    let e : min c.args.dimensions width ≡ c.args.dimensions = omega arith in
    let counted : c.sum_by_fours-count.result ≡ inside_to low high point width = c.sum_by_fours-count.ensures (λ (i : ℕ). cond (inside (channel low i) (channel high i) (channel point i)) 1 0)
    (λ i r h p. search rules) (λ i g h. rw (c.requires.padded.1 i g h, c.requires.padded.2 i g h, not_inside)) in
    rw (e, counted, padded_inside low high point _ width c.requires.padded.1 c.requires.padded.2 width (omega arith) (le_refl width)) (count_every _ _)
