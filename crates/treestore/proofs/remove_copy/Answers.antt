-- `remove_copy` meets its contract: copies are left, a lone leaf is gone, or a leaf below a branch is. Assumes nothing.
use native.Mathlib.Omega.{arith}
use Rattle.nodestore.proofs.Ends.{index_low}
use Rattle.treestore.proofs.Removes.{reached, some_reached, one_copy, dropped, alone, one_row}
use Rattle.treestore.proofs.remove_copy.Goals as goal

pub offset_bounds-store-leaf : goal.offset_bounds-store-leaf
offset_bounds-store-leaf c = omega (arith, index_low (reached c.requires.held.walking))

pub bounds-store-leaf : goal.bounds-store-leaf
bounds-store-leaf c = index_low (reached c.requires.held.walking)

pub drop_copy-requires : goal.drop_copy-requires
drop_copy-requires c = record { some_reached = some_reached c.requires.held.walking; bound = c.if-store-leaf-gt1.true }

pub returns-then-store-leaf-gt1 : goal.returns-then-store-leaf-gt1
returns-then-store-leaf-gt1 c = λ t u p G held. dropped G _ _ c.if-store-leaf-gt1.true (c.drop_copy.ensures _ _ _ _ _ (reached G))

pub remove_root-requires : goal.remove_root-requires
remove_root-requires c = record { index_lt_point_limit = index_low (reached c.requires.held.walking); index_value = one_copy c.requires.held.walking c.if-store-leaf-gt1.false }

pub overflow_sub-result : goal.overflow_sub-result
overflow_sub-result c = omega (arith, c.requires.held.walking.some_room)

pub returns-then-n-lt2 : goal.returns-then-n-lt2
returns-then-n-lt2 c = λ t u p G held. alone G _ c.if-store-leaf-gt1.false c.if-n-lt2.true (c.remove_root.ensures.arrays _ _ _ _ _ _ _ (one_row G c.if-n-lt2.true))

pub remove_last-requires : goal.remove_last-requires
remove_last-requires c = record { held = c.requires.held; last = c.if-store-leaf-gt1.false; below = c.if-n-lt2.false }

pub returns : goal.returns
returns c = c.remove_last.ensures
