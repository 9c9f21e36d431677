-- `part_or_rounded` meets its contract: a whole-number sum that does not pass 2^24 is the computed sum, and else the floats' own chance is taken. Assumes nothing.
use mathlib.Core.Path.{◌∙◌}
use native.Mathlib.Omega.{arith}
use Rattle.limits.specs.Limits.{width}
use Rattle.probability.proofs.Integers.{all_fits, by_integers}
use Rattle.probability.proofs.part_or_rounded.Goals as goal

pub part_of-requires : goal.part_of-requires
part_of-requires c = let s = c.requires.sums in (omega (arith, s.0, s.1), rw s.1 (all_fits width _ _ _ c.requires.readings))

pub returns-then-sums-le-EXACT : goal.returns-then-sums-le-EXACT
returns-then-sums-le-EXACT c = let s = c.requires.sums in
    c.part_of.ensures ∙ rw (s.0, s.1) (by_integers width _ _ _ c.requires.readings (rw s.0 at c.if-sums-le-EXACT.true))
