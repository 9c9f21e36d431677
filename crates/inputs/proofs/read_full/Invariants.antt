-- How far the loop has come, in a buffer that keeps its length, and what the input has lost by then.
use Rattle.std.proofs.Common.{length, ◌-◌, ◌≤◌, ◌≡◌, take}
use Rattle.std.specs.Io.KnownBytes.{Consumes}
use Rattle.inputs.proofs.read_full.Given as goal

abbrev pub invariant-loop-came : goal.invariant-loop-came
invariant-loop-came g l = record {
  within : l.came ≤ length l.bytes;
  long : length l.bytes ≡ length l.initial.bytes;
  takes : Consumes (g.R.Read.remaining l.initial.input) (g.R.Read.remaining l.input) (take l.came l.bytes);
}

abbrev pub decreases-loop-came : goal.decreases-loop-came
decreases-loop-came g l = length l.bytes - l.came
