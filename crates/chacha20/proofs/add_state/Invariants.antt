use Rattle.std.proofs.Common.{◌≡◌}
use Rattle.chacha20.proofs.Blocks.{partly}
use Rattle.chacha20.proofs.add_state.Given as goal

abbrev pub invariant-loop-i : goal.invariant-loop-i
invariant-loop-i l = l.block ≡ partly l.i l.initial.block l.state
