-- `side_sum` meets its contract: no side between coordinates passes 2^21. Assumes nothing.
use Rattle.std.proofs.Common.{◌≡◌, subst, sym, ℕ, ◌≤◌, rules}
use Rattle.limits.specs.Limits.{width}
use Rattle.boundingbox.proofs.Sums.{side_le}
use Rattle.boundingbox.specs.Ends.{channel}
use Rattle.boundingbox.specs.Wholes.{side}
use Rattle.cut.proofs.whole.side_sum.Goals as goal

pub sum_by_fours-requires-clause-small : goal.sum_by_fours-requires-clause-small
sum_by_fours-requires-clause-small c = λ i r h p. let e : r ≡ side (channel c.args.low.now) (channel c.args.high.now) i = search rules in
    subst (λ (x : ℕ). x ≤ 2097152) (sym e) (side_le _ _ width c.requires.sides i h)
