-- `boundingbox::gap` meets its contract: what is cast is a number. Assumes nothing.
use mathlib.Core.Path.{sym, subst}
use Rattle.boundingbox.proofs.Casts.{Casts, gap_casts}
use Rattle.boundingbox.proofs.gap.Goals as goal

pub float_to_float-result : goal.float_to_float-result
float_to_float-result c = subst Casts (sym c.rise.ensures) (gap_casts c.args.a c.args.b)
