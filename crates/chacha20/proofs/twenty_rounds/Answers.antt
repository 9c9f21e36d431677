-- `chacha20::twenty_rounds` meets its contract. Assumes nothing.
use Rattle.std.proofs.Common.{rules, ap, ◌∙◌, add-one, arith}
use Prim.Native.Nat.{ℕ}
use Rattle.chacha20.specs.Block.{inner_blocks}
use Rattle.chacha20.proofs.twenty_rounds.Goals as goal

pub loop-init : goal.loop-init
unfolding inner_blocks
loop-init c = search rules

pub loop-preserved : goal.loop-preserved
unfolding inner_blocks
loop-preserved c = rw (add-one, c.diagonal_rounds.ensures, c.column_rounds.ensures, c.loop.invariant)

pub returns : goal.returns
returns c = c.loop.invariant ∙ ap (λ (n : ℕ). inner_blocks n c.args.state.now) (omega arith)
