-- `treelist_text::run_rows` meets its contract: at each turn what is printed, with what the rows left print, is the same. Assumes nothing.
use mathlib.Core.Path.{refl, ◌∙◌}
use native.Mathlib.Omega.{arith}
use Rattle.lines.proofs.Writes.{long}
use Rattle.treelist_text.proofs.Turns.{begin, some_state, last, some_op, reply_length, turn}
use Rattle.treelist_text.proofs.run_rows.Goals as goal

pub loop-reply-init : goal.loop-reply-init
loop-reply-init c = (c.requires.within.0, omega arith, omega arith, λ d k h W os S. begin S)

pub piece_end-end-requires : goal.piece_end-end-requires
piece_end-end-requires c = c.loop-reply.invariant.0

pub print_tree-requires : goal.print_tree-requires
print_tree-requires c = let l = c.loop-reply in
    let R = l.invariant.3 _ _ _ _ _ c.requires.ready.standing in record { near = omega (arith, l.invariant.0, l.invariant.1, l.invariant.2, c.requires.within.1); stands = record { lent = _; points = _; marks = _; read = record { nodes_are = refl; cuts_are = refl; copies_are = refl }; state = some_state R } }

pub shape_of-out-then-end-text : goal.shape_of-out-then-end-text
shape_of-out-then-end-text c = let l = c.loop-reply in
    let R = l.invariant.3 _ _ _ _ _ c.requires.ready.standing in
    long (c.print_tree.ensures _ _ _ _ _ _ _ R.standing.state (record { nodes_are = refl; cuts_are = refl; copies_are = refl })) ∙ long R.wrote

pub returns-then-end-text : goal.returns-then-end-text
returns-then-end-text c = let l = c.loop-reply in
    λ d k h W os S. let R = l.invariant.3 d k h W os S in
    last R _ l.invariant.0 c.piece_end-end.ensures c.if-end-text.true (c.print_tree.ensures _ _ _ _ _ _ _ R.standing.state (record { nodes_are = refl; cuts_are = refl; copies_are = refl }))

pub call_row-current-requires : goal.call_row-current-requires
call_row-current-requires c = let l = c.loop-reply in
    let R = l.invariant.3 _ _ _ _ _ c.requires.ready.standing in
    (some_op R _ l.invariant.0 c.piece_end-end.ensures c.if-end-text.false, some_state R)

pub overflow_add-row : goal.overflow_add-row
overflow_add-row c = let l = c.loop-reply in
    omega (arith, l.invariant.0, l.invariant.1, c.requires.within.1)

pub bounds-reply-0 : goal.bounds-reply-0
bounds-reply-0 c = let l = c.loop-reply in
    let R = l.invariant.3 _ _ _ _ _ c.requires.ready.standing in
    omega (arith, reply_length R _ l.invariant.0 c.piece_end-end.ensures c.if-end-text.false _ _ _ _ _ c.call_row-current.ensures)

pub tell_row-p-requires : goal.tell_row-p-requires
tell_row-p-requires c = let l = c.loop-reply in
    omega (arith, l.invariant.0, l.invariant.1, l.invariant.2, c.requires.within.1)

pub overflow_add-at : goal.overflow_add-at
overflow_add-at c = let l = c.loop-reply in
    omega (arith, c.piece_end-end.ensures.most, c.requires.within.1)

pub loop-reply-smaller : goal.loop-reply-smaller
loop-reply-smaller c = let l = c.loop-reply in
    let n = c.if-end-text.false in
    omega (arith, c.piece_end-end.ensures.from, c.piece_end-end.ensures.most)

pub loop-reply-preserved : goal.loop-reply-preserved
loop-reply-preserved c = let l = c.loop-reply in
    let n = c.if-end-text.false in
    let x = c.piece_end-end.ensures in (
      omega (arith, x.most),
      omega (arith, x.from, l.invariant.1),
      omega (arith, l.invariant.2, c.tell_row-p.ensures.few),
      λ d k h W os S. turn (l.invariant.3 d k h W os S) _ l.invariant.0 x n _ _ _ _ _ c.call_row-current.ensures c.tell_row-p.ensures.wrote,
    )
