-- `sums_to` meets its contract: no side between coordinates passes 2^21, and the sides grow by what lies outside. Assumes nothing.
use Rattle.std.proofs.Common.{◌≡◌, ℕ, ◌+◌, ◌≤◌, sym, subst, ◌∙◌, arith, rules}
use Rattle.limits.specs.Limits.{width}
use Rattle.boundingbox.specs.Ends.{channel}
use Rattle.boundingbox.specs.Wholes.{side}
use Rattle.boundingbox.proofs.Sums.{side_le}
use Rattle.cut.specs.Draw.{low_end, high_end}
use Rattle.cut.proofs.Padding.{fewer}
use Rattle.cut.proofs.Stretched.{stretched}
use Rattle.probability.specs.Laws.{S, W}
use Rattle.probability.proofs.Integers.{sum_first, grows}
use Rattle.probability.proofs.sums_to.Goals as goal

pub sum_of-all-requires-clause-callable : goal.sum_of-all-requires-clause-callable
sum_of-all-requires-clause-callable c = λ i h. let b = stretched _ _ _ width c.requires.0 in
    let l = b.lower i h in
    let u = b.upper i h in
    let o = b.ordered i h in
    search rules

pub sum_of-all-requires-clause-small : goal.sum_of-all-requires-clause-small
sum_of-all-requires-clause-small c = λ i r h p. let e : r ≡ side (low_end c.args.low.now c.args.point.now) (high_end c.args.high.now c.args.point.now) i = search rules in
    subst (λ (x : ℕ). x ≤ 2097152) (sym e) (side_le _ _ width (stretched _ _ _ width c.requires.0) i h)

pub sum_of-sides-requires-clause-callable : goal.sum_of-sides-requires-clause-callable
sum_of-sides-requires-clause-callable c = λ i h. let b = c.requires.0.box in
    let l = b.lower i h in
    let u = b.upper i h in
    let o = b.ordered i h in
    search rules

pub sum_of-sides-requires-clause-small : goal.sum_of-sides-requires-clause-small
sum_of-sides-requires-clause-small c = λ i r h p. let e : r ≡ side (channel c.args.low.now) (channel c.args.high.now) i = search rules in
    subst (λ (x : ℕ). x ≤ 2097152) (sym e) (side_le _ _ width c.requires.0.box i h)

-- what the two sums are
sums : (c : goal.After-sum_of-sides) → (c.sum_of-all.result ≡ W c.args.low.now c.args.high.now c.args.n + S c.args.low.now c.args.high.now c.args.point.now c.args.n) × (c.sum_of-sides.result ≡ W c.args.low.now c.args.high.now c.args.n)
sums c =
    let low = c.args.low.now in
    let high = c.args.high.now in
    let point = c.args.point.now in (
      sum_first _ _ _ (c.sum_of-all.ensures.grows (side (low_end low point) (high_end high point)) (λ i r h p. search rules)) ∙ grows c.args.n _ _ _ (fewer c.args.n width _ _ _ c.requires.1 c.requires.0),
      sum_first _ _ _ (c.sum_of-sides.ensures.grows (side (channel low) (channel high)) (λ i r h p. search rules)),
    )

pub overflow_sub-result : goal.overflow_sub-result
overflow_sub-result c = omega (arith, (sums c).0, (sums c).1)

pub returns : goal.returns
returns c = (omega (arith, (sums c).0, (sums c).1), (sums c).0)
