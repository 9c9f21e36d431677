use mathlib.Core.Path.{◌≡◌}
use Rattle.probability.specs.Probability.{past_sum}
use Rattle.probability.proofs.summed_distance.Given as goal

abbrev pub invariant-loop-i : goal.invariant-loop-i
invariant-loop-i l = (l.minsum ≡ past_sum l.low l.point l.i) × (l.maxsum ≡ past_sum l.point l.high l.i)
