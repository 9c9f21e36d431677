-- `Cut::random_cut_and_separation` meets its contract: what its callees give makes up the drawn cut. Assumes nothing.
use Rattle.std.proofs.Common.{Some, sym, ap, ◌∙◌}
use lib.Ieee.{of_bits}
use Rattle.limits.specs.Limits.{width}
use Rattle.cut.proofs.Turns.{reached_below, holds_point, draws}
use Rattle.cut.proofs.Cut.random_cut_and_separation.Goals as goal

pub returns-then-outside : goal.returns-then-outside
unfolding of_bits
returns-then-outside c = sym (holds_point _ _ _ _ _ _ c.outside_sum-outside.ensures c.if-outside.true)

pub returns-in_err-side : goal.returns-in_err-side
unfolding of_bits
returns-in_err-side c = c.from_residual.ensures ∙ sym (draws _ _ _ _ _ _ c.outside_sum-outside.ensures c.if-outside.false _ _ c.get_range_sum.ensures c.factor.ensures _ (sym c.in_err-side.was ∙ c.side_cut.ensures))

pub drawn-requires : goal.drawn-requires
drawn-requires c = reached_below _ width 0 _ _ (sym c.side_cut.ensures ∙ c.in_ok-side.was)

pub returns : goal.returns
unfolding of_bits
returns c = ap Some c.drawn.ensures ∙ sym (draws _ _ _ _ _ _ c.outside_sum-outside.ensures c.if-outside.false _ _ c.get_range_sum.ensures c.factor.ensures _ (sym c.in_ok-side.was ∙ c.side_cut.ensures))
