-- `SamplerPlusTree::new` meets its contract: the initial share is refused, the tree is, or both are made. Assumes nothing.
use Rattle.std.proofs.lemmas.Result.{err_from_is_err_and}
use mathlib.Core.Path.{sym, ◌∙◌}
use Rattle.samplerplustree.proofs.Makings.{share_refused, tree_refused, made}
use Rattle.samplerplustree.proofs.SamplerPlusTree.new.Goals as goal

pub returns-then-not-is_share : goal.returns-then-not-is_share
returns-then-not-is_share c = share_refused _ _ _ _ _ _ _ (sym c.is_share.ensures ∙ c.if-not-is_share.true) _ c.refusal_of.ensures

pub returns-in_err-tree : goal.returns-in_err-tree
returns-in_err-tree c = let p = err_from_is_err_and c.from_residual.result c.from_residual.ensures.1 in rw (p.1, p.2) (tree_refused _ _ _ _ _ _ _ (sym c.is_share.ensures ∙ c.if-not-is_share.false) _ _ c.new.ensures _ c.in_err-tree.was)

pub returns : goal.returns
returns c = made _ _ _ _ _ _ _ (sym c.is_share.ensures ∙ c.if-not-is_share.false) _ _ c.new.ensures _ c.in_ok-tree.was _ _ _ c.new-sampler.ensures.made c.new-sampler.ensures.weights_after c.new-sampler.ensures.points_after
