-- `SamplerPlusTree::leave` meets its contract. Assumes nothing.
use mathlib.Core.Path.{sym, ◌∙◌}
use Rattle.samplerplustree.proofs.Evicted.{none_leaves, path_stays, evict_some, evict_copy, evict_path, evict_done}
use Rattle.samplerplustree.proofs.SamplerPlusTree.leave.Goals as goal

pub returns-then-not-is_evicting : goal.returns-then-not-is_evicting
returns-then-not-is_evicting c = let e = sym c.is_evicting.ensures ∙ c.if-not-is_evicting.true in
    record { done = none_leaves c.args.self _ _ _ _ _ e; path = path_stays c.args.self _ _ _ _ c.args.offer e _ }

pub evict_max-evicted-requires : goal.evict_max-evicted-requires
evict_max-evicted-requires c = evict_some c.args.self _ _ c.args.sample.now.weights c.args.sample.now.held _ (sym c.is_evicting.ensures ∙ c.if-not-is_evicting.false) c.requires

pub delete_leaf-left-requires : goal.delete_leaf-left-requires
delete_leaf-left-requires c = evict_copy c.args.self _ _ c.args.sample.now.weights c.args.sample.now.held _ c.evict_max-evicted.ensures.answer _ c.wide16-gone.ensures.0 _ (sym c.is_evicting.ensures ∙ c.if-not-is_evicting.false) c.requires

pub returns : goal.returns
returns c = let v = c.evict_max-evicted.ensures in
    let e = sym c.is_evicting.ensures ∙ c.if-not-is_evicting.false in
    let left = c.delete_leaf-left.ensures in
    record { done = evict_done c.args.self _ _ c.args.sample.now.weights c.args.sample.now.held _ v.answer _ c.wide16-gone.ensures.0 _ e c.requires _ _ _ _ v.slots left.done; path = evict_path c.args.self _ _ c.args.sample.now.weights c.args.sample.now.held _ v.answer _ c.wide16-gone.ensures.0 c.args.offer e _ _ left.path }
