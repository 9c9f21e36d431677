-- `add_found` meets its contract: the first leaf, a copy more, each refusal, and a new value. Assumes nothing.
use native.Mathlib.Omega.{arith}
use Rattle.randomcuttree.proofs.Parts.{capacity_is}
use Rattle.randomcuttree.proofs.Adds.{first, total_low, some_copied, copied, no_number, too_few, some_entering, inserted}
use Rattle.randomcuttree.proofs.RCFTree.add_found.Goals as goal

pub add_root-requires : goal.add_root-requires
add_root-requires c = let q = c.requires.seen in q.state.reachable.sound.inside _ _ q.is_written

pub overflow_cast-root : goal.overflow_cast-root
overflow_cast-root c = let q = c.requires.seen in omega (arith, q.state.reachable.sound.inside _ _ q.is_written)

pub overflow_add-root : goal.overflow_add-root
overflow_add-root c = let q = c.requires.seen in omega (arith, q.state.reachable.sound.inside _ _ q.is_written, capacity_is q.state, q.state.limits.3)

pub returns-then-total-eq0 : goal.returns-then-total-eq0
returns-then-total-eq0 c = λ d e s W marks p H P. first H _ P c.requires.room _ c.if-total-eq0.true _ _ _ c.headed_by-tree.ensures (omega arith) c.add_root.ensures.arrays

pub add_copy-requires : goal.add_copy-requires
add_copy-requires c = some_copied c.requires.seen.state _ c.requires.seen.is_written c.requires.room c.if-total-eq0.false (c.requires.seen.seen.walked c.if-total-eq0.false)

pub overflow_add-total : goal.overflow_add-total
overflow_add-total c = omega (arith, total_low c.requires.seen.state _ c.requires.seen.is_written c.requires.room c.if-total-eq0.false (c.requires.seen.seen.walked c.if-total-eq0.false))

pub returns-then-found : goal.returns-then-found
returns-then-found c = λ d e s W marks p H P. copied H _ P c.requires.room c.if-total-eq0.false (c.requires.seen.seen.walked c.if-total-eq0.false) _ c.if-found.true _ _ _ c.headed_by-tree-then-found.ensures c.add_copy.ensures

pub returns-then-is_empty : goal.returns-then-is_empty
returns-then-is_empty c = λ d e s W marks p H P. no_number H _ P c.requires.room c.if-total-eq0.false (c.requires.seen.seen.walked c.if-total-eq0.false) c.if-found.false _ _ c.is_empty.ensures c.if-is_empty.true

pub returns-then-words-n : goal.returns-then-words-n
returns-then-words-n c = λ d e s W marks p H P. too_few H _ P c.requires.room c.if-total-eq0.false (c.requires.seen.seen.walked c.if-total-eq0.false) c.if-found.false _ c.is_empty.ensures c.if-is_empty.false _ c.if-words-n.true

pub offset_bounds-points-index : goal.offset_bounds-points-index
offset_bounds-points-index c = let q = c.requires.seen in omega (arith, q.state.reachable.sound.inside _ _ q.is_written)

pub bounds-points-index : goal.bounds-points-index
bounds-points-index c = let q = c.requires.seen in omega (arith, q.state.reachable.sound.inside _ _ q.is_written)

pub insert_leaf-entered-requires : goal.insert_leaf-entered-requires
insert_leaf-entered-requires c = rw c.header.ensures (some_entering c.requires.seen.state _ c.requires.seen.is_written c.requires.room c.if-total-eq0.false (c.requires.seen.seen.walked c.if-total-eq0.false) c.if-found.false _ c.is_empty.ensures c.if-is_empty.false _ c.if-words-n.false)

pub overflow_add-total-2 : goal.overflow_add-total-2
overflow_add-total-2 c = omega (arith, total_low c.requires.seen.state _ c.requires.seen.is_written c.requires.room c.if-total-eq0.false (c.requires.seen.seen.walked c.if-total-eq0.false))

pub returns : goal.returns
returns c = λ d e s W marks p H P. inserted H _ P c.requires.room c.if-total-eq0.false (c.requires.seen.seen.walked c.if-total-eq0.false) c.if-found.false _ c.is_empty.ensures c.if-is_empty.false _ c.if-words-n.false _ _ (rw c.header.ensures at c.insert_leaf-entered.ensures) _ c.headed_by-tree-2.ensures
