-- `keep_chance` meets its contract: the chance is put where the branch is cached. Assumes nothing.
use mathlib.Core.Path.{sym, ap, ◌∙◌}
use lib.ListN.{set}
use borrow.Author.Tests.{lt-ltb, le-ltb}
use Rattle.cuttree.proofs.Tests.{cond_true, cond_false}
use borrow.Author.Rules.{rules}
use Rattle.nodeview.proofs.keep_chance.Goals as goal

pub returns-then-cached-branch : goal.returns-then-cached-branch
returns-then-cached-branch c = record { whole = search rules; kept = sym (cond_false _ _ _ (le-ltb _ _ c.if-cached-branch.true)) }

pub whole_probability_of_cut-requires : goal.whole_probability_of_cut-requires
whole_probability_of_cut-requires c = let h = c.if-cached-branch.false in record { readings = c.requires.readings h; padded = c.requires.padded h }

pub returns : goal.returns
returns c = let a = c.args in record { whole = search rules; kept = ap (set a.chances.now a.depth) c.whole_probability_of_cut.ensures ∙ sym (cond_true _ _ _ (lt-ltb _ _ c.if-cached-branch.false)) }
