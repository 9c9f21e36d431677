-- `regrow::grow` is safe and ends: at each turn the tree is what the rows so far leave of the one that was made. Assumes nothing.
use mathlib.Core.Path.{refl, ◌∙◌}
use native.Mathlib.Omega.{arith}
use lib.ListN.{length-take, length-drop}
use Rattle.regrow.proofs.Growing.{made, some_sampled, grown_on, some_end}
use Rattle.regrow.proofs.grow.Goals as goal

pub loop-turn-init : goal.loop-turn-init
loop-turn-init g c = (c.requires.near.0, c.requires.near.1, refl, refl, omega arith, λ d c X S. made S)

pub carry_lines-batch-requires-clause-near : goal.carry_lines-batch-requires-clause-near
carry_lines-batch-requires-clause-near g c = let l = c.loop-turn in
    (simp (length-take, length-drop) (omega (arith, l.invariant.0, l.invariant.1, l.invariant.2, l.invariant.4, c.requires.near.3)), omega (arith, l.invariant.3, c.requires.near.4))

pub carry_lines-batch-requires-clause-stands : goal.carry_lines-batch-requires-clause-stands
carry_lines-batch-requires-clause-stands g c = some_sampled (c.loop-turn.invariant.5 _ _ _ c.requires.stands.state)

pub follow-requires : goal.follow-requires
follow-requires g c = let l = c.loop-turn in
    (omega (arith, l.invariant.0, simp (length-take, length-drop) at c.carry_lines-batch.ensures.fits.0), l.invariant.1, omega (arith, l.invariant.2, c.requires.near.2))

pub finish-requires : goal.finish-requires
finish-requires g c = let G = c.loop-turn.invariant.5 _ _ _ c.requires.stands.state in
    some_end (some_sampled (grown_on G (c.carry_lines-batch.ensures.carries _ _ _ G.state) (c.tell.ensures c.if-not-tell.false)))

pub loop-turn-preserved : goal.loop-turn-preserved
loop-turn-preserved g c = let l = c.loop-turn in
    let y = c.carry_lines-batch in
    let w = rw c.in-Ok-Some.field-0-is at c.in-Ok-Some.ensures.follows in
    let r = simp (length-take, length-drop) at y.ensures.fits.0 in (
      omega (arith, w.more),
      w.most,
      c.follow.auto.text ∙ l.invariant.2,
      y.auto.out ∙ l.invariant.3,
      omega (arith, l.invariant.0, l.invariant.1, l.invariant.2, l.invariant.4, r, y.ensures.fits.1, c.requires.near.3, c.loop-turn-test.true),
      λ d s X S. let G = l.invariant.5 d s X S in
          grown_on G (y.ensures.carries d s _ G.state) (c.tell.ensures c.if-not-tell.false),
    )
