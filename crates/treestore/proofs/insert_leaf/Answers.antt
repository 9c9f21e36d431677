-- `insert_leaf` meets its contract: the calls leave the tree with the new branch and the new leaf in it. Assumes nothing.
use mathlib.Core.Path.{refl}
use native.Mathlib.Omega.{arith}
use Rattle.treestore.proofs.Removes.{kept_padded}
use Rattle.treestore.proofs.Enterings.{above_few, cached_few, not_empty, some_drawing, top_low, height_low, dimension_low, some_graft, new_sides, some_grafted, hold_before, entered}
use Rattle.treestore.proofs.insert_leaf.Goals as goal

pub invariant_of-boxing : goal.invariant_of-boxing
invariant_of-boxing c = let E = c.requires.entering in record { padded = (E.walking.padded, kept_padded E.walking) }

pub highest_cut-highest-requires : goal.highest_cut-highest-requires
highest_cut-highest-requires c = let E = c.requires.entering in record { walked = some_drawing E _ c.wide16.ensures.0; padded = E.walking.row_padded }

pub overflow_sub-above-2 : goal.overflow_sub-above-2
overflow_sub-above-2 c = height_low c.requires.entering _ c.wide16.ensures.0 _ c.highest_cut-highest.ensures

pub offset_bounds-point-dimension : goal.offset_bounds-point-dimension
offset_bounds-point-dimension c = omega (arith, dimension_low c.requires.entering _ c.wide16.ensures.0 _ c.highest_cut-highest.ensures)

pub bounds-point-dimension : goal.bounds-point-dimension
bounds-point-dimension c = dimension_low c.requires.entering _ c.wide16.ensures.0 _ c.highest_cut-highest.ensures

pub place_branch-requires : goal.place_branch-requires
place_branch-requires c = some_graft c.requires.entering _ c.wide16.ensures.0 _ c.highest_cut-highest.ensures _ _ _ _ c.get.ensures.answer c.get.ensures.rows_after c.in-Some.is _ refl

pub keep_new_box-requires : goal.keep_new_box-requires
keep_new_box-requires c = let E = c.requires.entering in
    record { stands = new_sides E _ c.wide16.ensures.0 _ c.highest_cut-highest.ensures _ _ _ _ c.get.ensures.answer c.get.ensures.rows_after c.in-Some.is _ refl _ _ _ c.place_branch.ensures _ c.wide16-2.ensures.0; padded = (E.walking.padded, kept_padded E.walking) }

pub overflow_sub-n : goal.overflow_sub-n
overflow_sub-n c = top_low c.requires.entering _ c.wide16.ensures.0 _ c.highest_cut-highest.ensures

pub grow_ancestors-requires : goal.grow_ancestors-requires
grow_ancestors-requires c = let E = c.requires.entering in record {
  few = (above_few E _, cached_few E, E.walking.channels_few);
  stands = (
    some_grafted E _ c.wide16.ensures.0 _ c.highest_cut-highest.ensures _ _ _ _ c.get.ensures.answer c.get.ensures.rows_after c.in-Some.is _ refl _ _ _ c.place_branch.ensures _ c.wide16-2.ensures.0 _ c.keep_new_box.ensures.kept,
    hold_before E _ c.wide16.ensures.0 _ c.highest_cut-highest.ensures _ _ _ _ c.get.ensures.answer c.get.ensures.rows_after c.in-Some.is _ refl _ _ _ c.place_branch.ensures _ c.wide16-2.ensures.0 _ c.keep_new_box.ensures.kept,
  );
  padded = (E.walking.row_padded, c.keep_new_box.ensures.padded);
}

pub returns : goal.returns
returns c = λ t u p E. (
  entered E _ c.wide16.ensures.0 _ c.highest_cut-highest.ensures _ _ _ _ c.get.ensures.answer c.get.ensures.rows_after c.in-Some.is _ refl _ _ _ c.place_branch.ensures _ c.wide16-2.ensures.0 _ c.keep_new_box.ensures.kept _ c.grow_ancestors.ensures.grown _ c.placed_root-new_root.ensures.root,
  E.walking.walked.count,
)

pub returns-in_default : goal.returns-in_default
returns-in_default c = λ t u p E. not_empty E _ c.get.ensures.answer c.in_default.is
