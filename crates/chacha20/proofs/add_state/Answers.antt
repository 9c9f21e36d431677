-- `chacha20::add_state` meets its contract. Assumes nothing.
use Rattle.std.proofs.Common.{ℕ, ap, ◌∙◌, add-one, arith}
use Rattle.chacha20.proofs.Blocks.{partly, partly_next, partly_all}
use Rattle.chacha20.proofs.add_state.Goals as goal

pub loop-i-preserved : goal.loop-i-preserved
loop-i-preserved c = rw (add-one, c.loop-i.invariant) (partly_next c.loop-i.i c.args.block.now c.args.state.now c.loop-i-test.true c.requires)

pub returns : goal.returns
returns c = c.loop-i.invariant ∙ ap (λ (i : ℕ). partly i c.args.block.now c.args.state.now) (omega arith) ∙ partly_all c.args.block.now c.args.state.now c.requires
