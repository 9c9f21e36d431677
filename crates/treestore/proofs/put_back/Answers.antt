-- `put_back` meets its contract: the stack always has a row left. Assumes nothing.
use Rattle.std.proofs.Common.{Option, ap, ◌∙◌}
use Rattle.std.specs.Option.{unwrap_or}
use Rattle.intervalstoremanager.specs.declared.IntervalStoreManager.{IntervalStoreManager}
use Rattle.treestore.proofs.Manager.{put_back_is}
use Rattle.treestore.proofs.put_back.Goals as goal

pub returns : goal.returns
returns c = λ u m l s p o i h. let back = put_back_is _ _ u m l s p o _ i h _ _ c.release.ensures.answer c.release.ensures.rows_after in
    (c.unwrap_or.ensures ∙ ap (λ (x : Option IntervalStoreManager). unwrap_or x c.args.manager) back.0, back.1)
