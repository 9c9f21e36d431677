-- `chacha20::quarter_round` meets its contract. Assumes nothing.
use Rattle.std.proofs.Common.{◌^◌, refl, ◌∙◌, arith}
use Rattle.chacha20.specs.Block.{plus, quarter_round}
use Rattle.chacha20.proofs.Blocks.{rolled}
use Rattle.chacha20.proofs.quarter_round.Goals as goal

pub returns : goal.returns
unfolding quarter_round
returns c =
    let x = c.args in
    let d₁ = c.rotate_left-d1 in
    let b₁ = c.rotate_left-b1 in
    let d₂ = c.rotate_left-d2 in
    let b₂ = c.rotate_left-b2 in
    let a₁ = plus x.a x.b in
    let c₁ = plus x.c d₁.result in
    let a₂ = plus a₁ b₁.result in
    let c₂ = plus c₁ d₂.result in
    rw (
      b₂.ensures ∙ rolled 7 (2 ^ 25) b₁.result c₂ (omega arith) (omega arith) refl (omega arith) (omega arith),
      d₂.ensures ∙ rolled 8 (2 ^ 24) d₁.result a₂ (omega arith) (omega arith) refl (omega arith) (omega arith),
      b₁.ensures ∙ rolled 12 (2 ^ 20) x.b c₁ (omega arith) (omega arith) refl (omega arith) (omega arith),
      d₁.ensures ∙ rolled 16 (2 ^ 16) x.d a₁ (omega arith) (omega arith) refl (omega arith) (omega arith),
    )
