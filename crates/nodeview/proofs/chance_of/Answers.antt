-- `chance_of` meets its contract: each answer of the test is one case of the chance. Assumes nothing.
use mathlib.Core.Path.{sym, ◌∙◌}
use borrow.Author.Tests.{lt-ltb, le-ltb}
use Rattle.cuttree.proofs.Tests.{cond_true, cond_false}
use Rattle.nodeview.proofs.chance_of.Goals as goal

pub returns-then-branch-cached : goal.returns-then-branch-cached
returns-then-branch-cached c = sym (cond_true _ _ _ (lt-ltb _ _ c.if-branch-cached.true))

pub whole_probability_of_cut-requires : goal.whole_probability_of_cut-requires
whole_probability_of_cut-requires c = let q = c.requires in
    let h = c.if-branch-cached.false in
    record { readings = q.readings h; padded = q.padded h }

pub returns : goal.returns
returns c = c.whole_probability_of_cut.ensures ∙ sym (cond_false _ _ _ (le-ltb _ _ c.if-branch-cached.false))
