-- `RCFTree::new` meets its contract: each way out is one of the making's places. Assumes nothing.
use mathlib.Core.Path.{refl, sym, ◌∙◌}
use native.Mathlib.Omega.{arith}
use Rattle.limits.specs.Limits.{capacity_limit}
use Rattle.randomcuttree.proofs.Makings.{in_bounds, refused_1, refused_2, refused_3, made}
use Rattle.randomcuttree.proofs.RCFTree.new.Goals as goal

pub returns-then-not-within : goal.returns-then-not-within
returns-then-not-within c = refused_1 _ _ _ _ (sym c.within.ensures ∙ c.if-not-within.true)

pub returns-then-not-within-2 : goal.returns-then-not-within-2
returns-then-not-within-2 c = refused_2 _ _ _ _ (sym c.within.ensures ∙ c.if-not-within.false) (sym c.within-2.ensures ∙ c.if-not-within-2.true)

pub returns-then-not-is_share : goal.returns-then-not-is_share
returns-then-not-is_share c = refused_3 _ _ _ _ (sym c.within.ensures ∙ c.if-not-within.false) (sym c.within-2.ensures ∙ c.if-not-within-2.false) (sym c.is_share.ensures ∙ c.if-not-is_share.true)

pub overflow_cast-c : goal.overflow_cast-c
overflow_cast-c c = let w = in_bounds 2 capacity_limit c.args.capacity (sym c.within-2.ensures ∙ c.if-not-within-2.false) in omega arith

pub overflow_sub-capacity : goal.overflow_sub-capacity
overflow_sub-capacity c = let w = in_bounds 2 capacity_limit c.args.capacity (sym c.within-2.ensures ∙ c.if-not-within-2.false) in omega arith

pub overflow_sub-c : goal.overflow_sub-c
overflow_sub-c c = let w = in_bounds 2 capacity_limit c.args.capacity (sym c.within-2.ensures ∙ c.if-not-within-2.false) in omega arith

pub overflow_sub-result : goal.overflow_sub-result
overflow_sub-result c = let w = in_bounds 2 capacity_limit c.args.capacity (sym c.within-2.ensures ∙ c.if-not-within-2.false) in omega arith

pub returns : goal.returns
returns c = made _ _ _ _ (sym c.within.ensures ∙ c.if-not-within.false) (sym c.within-2.ensures ∙ c.if-not-within-2.false) (sym c.is_share.ensures ∙ c.if-not-is_share.false) _ _
    (rw (c.at_most-cached.ensures, c.cached_part-part.ensures, c.new-manager.ensures.answer) refl)
    (let e = c.clear.ensures in rw (e.rows, e.values, e.counts, c.new-manager.ensures.rows_after, e.ends) refl)
