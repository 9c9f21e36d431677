use Rattle.std.proofs.Common.{◌≡◌}
use Rattle.chacha20.specs.Block.{inner_blocks}
use Rattle.chacha20.proofs.twenty_rounds.Given as goal

abbrev pub invariant-loop : goal.invariant-loop
invariant-loop l = l.state ≡ inner_blocks l.counter l.initial.state
