-- `outside_of` meets its contract: what is cast is a number. Assumes nothing.
use Rattle.std.proofs.Common.{sym, subst}
use lib.Ieee.{Float, lt}
use Rattle.boundingbox.specs.Sides.{gap_of}
use Rattle.boundingbox.proofs.Casts.{Casts, either, gap_casts}
use Rattle.cut.specs.Draw.{outside_of}
use Rattle.cut.proofs.outside_of.Goals as goal

outside_casts : (low high x : Float) → Casts (outside_of low high x)
unfolding outside_of
outside_casts low high x = either (lt x low) (gap_of x low) (gap_of high x) (λ _. gap_casts x low) (gap_casts high x)

pub float_to_float-result : goal.float_to_float-result
float_to_float-result c = let s = c.args in
    subst Casts (sym c.outside_by.ensures) (outside_casts s.low s.high s.x)
