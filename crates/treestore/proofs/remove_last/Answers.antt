-- `remove_last` meets its contract: the sibling in the parent's place, its number free, and the boxes above repaired. Assumes nothing.
use native.Mathlib.Omega.{arith}
use Rattle.treestore.proofs.Removes.{reached, some_reached, one_copy, kept_padded, some_forgotten, removed, back}
use Rattle.treestore.proofs.remove_last.Goals as goal

pub remove_leaf-b-requires : goal.remove_leaf-b-requires
remove_leaf-b-requires c = let P = c.requires in record { some_reached = some_reached P.held.walking; index_value = one_copy P.held.walking P.last; le_n = P.below }

pub clear_box-requires : goal.clear_box-requires
clear_box-requires c = let G = c.requires.held.walking in record { padded = kept_padded G }

pub repair_ancestors-requires : goal.repair_ancestors-requires
repair_ancestors-requires c = let P = c.requires in
    let G = P.held.walking in record { few = omega (arith, G.walked.most); stands = some_forgotten G P.held.held P.last P.below _ _ _ _ (c.remove_leaf-b.ensures _ _ _ _ (reached G)) _ _ _ c.wide16.ensures.0 c.wide16-2.ensures.0 c.clear_box.ensures.cleared; padded = (G.row_padded, G.padded, c.clear_box.ensures.padded) }

pub returns : goal.returns
returns c = λ t u p G held.
    let A = c.remove_leaf-b.ensures _ _ _ _ (reached G) in
    let P = c.requires in
    removed G held P.last P.below _ _ _ _ A _ _ _ c.wide16.ensures.0 c.wide16-2.ensures.0 c.clear_box.ensures.cleared _ _ _ _
    (c.lifted_root-sibling.ensures.root _ _ _ _ _ _ _ _ (reached G) (one_copy G P.last) G.root_is) (back G _ A.1 _ _ c.put_back-left.ensures) c.repair_ancestors.ensures.repaired
