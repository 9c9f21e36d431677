-- `delete_found` meets its contract: each refusal, and one copy less. Assumes nothing.
use native.Mathlib.Omega.{arith}
use borrow.Author.Tests.{not-true, not-false}
use Rattle.randomcuttree.proofs.Deletes.{empty, not_held_lem, held, one_less}
use Rattle.randomcuttree.proofs.RCFTree.delete_found.Goals as goal

pub returns-then-total-eq0 : goal.returns-then-total-eq0
returns-then-total-eq0 c = λ d e s W marks p H P. empty H _ P c.if-total-eq0.true

pub returns-then-not-found : goal.returns-then-not-found
returns-then-not-found c = λ d e s W marks p H P. not_held_lem H _ P c.if-total-eq0.false (c.requires.seen.walked c.if-total-eq0.false) (not-true _ c.if-not-found.true)

pub offset_bounds-points-index : goal.offset_bounds-points-index
offset_bounds-points-index c = let q = c.requires in omega (arith, q.state.reachable.sound.inside _ _ q.is_written)

pub bounds-points-index : goal.bounds-points-index
bounds-points-index c = let q = c.requires in omega (arith, q.state.reachable.sound.inside _ _ q.is_written)

pub remove_copy-edited-requires : goal.remove_copy-edited-requires
remove_copy-edited-requires c = let q = c.requires in record { held = rw c.header.ensures (held q.state _ q.is_written c.if-total-eq0.false (q.seen.walked c.if-total-eq0.false) (not-false _ c.if-not-found.false)) }

pub returns : goal.returns
returns c = λ d e s W marks p H P. one_less H _ P c.if-total-eq0.false (c.requires.seen.walked c.if-total-eq0.false) (not-false _ c.if-not-found.false) _ _ (rw c.header.ensures at c.remove_copy-edited.ensures) _ c.headed_by-tree.ensures
