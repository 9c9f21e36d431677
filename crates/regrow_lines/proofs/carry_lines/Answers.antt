-- `regrow_lines::carry_lines` meets its contract: at each turn the lines carried out, with those that are left, are the text's. Assumes nothing.
use mathlib.Core.Path.{refl, ◌∙◌}
use native.Mathlib.Omega.{arith}
use borrow.Author.Tests.{not-true, not-false}
use Rattle.lines.proofs.Writes.{long}
use Rattle.regrow_lines.proofs.Turns.{begin, some_state, full, unended, ends, turn}
use Rattle.regrow_lines.proofs.carry_lines.Goals as goal

pub loop-out-init : goal.loop-out-init
loop-out-init c = (omega arith, omega arith, omega arith, refl, λ d s X S. begin S _ _ _ _)

pub overflow_add-end : goal.overflow_add-end
overflow_add-end c = omega (arith, c.loop-out.invariant.2, c.requires.near.1)

pub shape_of-out-then-out-end : goal.shape_of-out-then-out-end
shape_of-out-then-out-end c = c.loop-out.invariant.3

pub returns-then-out-end : goal.returns-then-out-end
returns-then-out-end c = let l = c.loop-out in
    rw c.so_far.ensures (record { carries = λ d s X S. full (l.invariant.4 d s X S) (omega (arith, c.if-out-end.true, l.invariant.3)); fits = (l.invariant.0, l.invariant.1, l.invariant.2) })

pub piece_end-stop-requires : goal.piece_end-stop-requires
piece_end-stop-requires c = c.loop-out.invariant.0

pub shape_of-out-then-stop-text : goal.shape_of-out-then-stop-text
shape_of-out-then-stop-text c = c.loop-out.invariant.3

pub returns-then-stop-text : goal.returns-then-stop-text
returns-then-stop-text c = let l = c.loop-out in
    rw c.so_far-then-stop-text.ensures (record { carries = λ d s X S. unended (l.invariant.4 d s X S) _ l.invariant.0 c.piece_end-stop.ensures c.if-stop-text.true; fits = (l.invariant.0, l.invariant.1, l.invariant.2) })

pub carry_line-done-requires : goal.carry_line-done-requires
carry_line-done-requires c = let l = c.loop-out in
    record { near = omega (arith, l.invariant.2, c.requires.near.1); stands = some_state (l.invariant.4 _ _ _ c.requires.stands.state) }

pub overflow_add-next : goal.overflow_add-next
overflow_add-next c = omega (arith, c.loop-out.invariant.0, c.loop-out.invariant.1, c.requires.near.0)

pub overflow_add-at : goal.overflow_add-at
overflow_add-at c = omega (arith, c.piece_end-stop.ensures.most, c.requires.near.0)

pub shape_of-out-then-not-done : goal.shape_of-out-then-not-done
shape_of-out-then-not-done c = let l = c.loop-out in
    let R = l.invariant.4 _ _ _ c.requires.stands.state in
    long (c.carry_line-done.ensures.carries _ _ _ R.so_far.state).wrote ∙ l.invariant.3

pub returns-then-not-done : goal.returns-then-not-done
returns-then-not-done c = let l = c.loop-out in
    let x = c.piece_end-stop.ensures in
    let y = c.carry_line-done in
    rw c.so_far-then-not-done.ensures (record {
      carries = λ d s X S. let R = l.invariant.4 d s X S in
          ends R _ l.invariant.0 x c.if-stop-text.false (omega (arith, c.if-out-end.false, l.invariant.3)) y.result _ _ _ _ _ _ _ (y.ensures.carries d s _ R.so_far.state) (not-true _ c.if-not-done.true);
      fits = (omega (arith, x.most, c.if-stop-text.false), omega (arith, l.invariant.1, x.from), omega (arith, y.ensures.fits, c.if-out-end.false, l.invariant.3));
    })

pub loop-out-smaller : goal.loop-out-smaller
loop-out-smaller c = omega (arith, c.piece_end-stop.ensures.from, c.piece_end-stop.ensures.most, c.if-stop-text.false)

pub loop-out-preserved : goal.loop-out-preserved
loop-out-preserved c = let l = c.loop-out in
    let x = c.piece_end-stop.ensures in
    let y = c.carry_line-done in (
      omega (arith, x.most, c.if-stop-text.false),
      omega (arith, l.invariant.1, x.from),
      omega (arith, y.ensures.fits, c.if-out-end.false, l.invariant.3),
      long (y.ensures.carries _ _ _ (l.invariant.4 _ _ _ c.requires.stands.state).so_far.state).wrote ∙ l.invariant.3,
      λ d s X S. let R = l.invariant.4 d s X S in
          turn R _ l.invariant.0 x c.if-stop-text.false (omega (arith, c.if-out-end.false, l.invariant.3)) y.result _ _ _ _ _ _ _ (y.ensures.carries d s _ R.so_far.state) (not-false _ c.if-not-done.false),
    )
