use Rattle.std.proofs.Common.{◌≡◌, ◌-◌, ◌≤◌, length, take}
use Rattle.std.specs.Io.KnownBytes.{Consumes}
use Rattle.regrow_text.proofs.read_head.Given as goal

abbrev pub invariant-loop-to : goal.invariant-loop-to
invariant-loop-to g l = record {
  within : l.to ≤ length l.text;
  same : length l.text ≡ length l.initial.text;
  takes : Consumes (g.R.Read.remaining l.initial.input) (g.R.Read.remaining l.input) (take l.to l.text);
}

abbrev pub decreases-loop-to : goal.decreases-loop-to
decreases-loop-to g l = 121 - l.to
