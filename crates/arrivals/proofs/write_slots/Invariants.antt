use mathlib.Core.Path.{◌≡◌}
use Prim.Native.Nat.{◌*◌, ◌≤◌}
use lib.Seq.{sets}
use Rattle.little.specs.Little.{bytes_of}
use Rattle.sampler.specs.Sample.{entries_in}
use Rattle.arrivals.specs.Sample.{entry_numbers}
use Rattle.arrivals.proofs.write_slots.Given as goal

abbrev pub invariant-loop-i : goal.invariant-loop-i
invariant-loop-i l = (l.i ≤ l.n) × (l.answers ≡ sets l.initial.answers (4 * l.out) (bytes_of (entry_numbers (entries_in l.i l.sample.weights l.sample.held))))
