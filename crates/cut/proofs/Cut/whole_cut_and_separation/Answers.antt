-- `Cut::whole_cut_and_separation` meets its contract: the side that is cut makes the cut. Assumes nothing.
use Rattle.std.proofs.Common.{Some, sym, ap, ◌∙◌}
use Rattle.limits.specs.Limits.{width}
use Rattle.cut.proofs.Counted.{cut_told, cut_below}
use Rattle.cut.proofs.Cut.whole_cut_and_separation.Goals as goal

pub returns-in_err-side : goal.returns-in_err-side
returns-in_err-side c = c.from_residual.ensures ∙ sym (cut_told _ _ _ width _ c.requires.readings _ (sym c.in_err-side.was ∙ c.side_cut.ensures))

pub drawn-requires : goal.drawn-requires
drawn-requires c = cut_below _ _ _ width _ c.requires.readings _ c.side_cut.ensures _ c.in_ok-side.was

pub returns : goal.returns
returns c = ap Some c.drawn.ensures ∙ sym (cut_told _ _ _ width _ c.requires.readings _ (sym c.in_ok-side.was ∙ c.side_cut.ensures))
