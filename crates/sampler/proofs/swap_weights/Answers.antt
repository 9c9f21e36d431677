-- `sampler::swap_weights` meets its contract: what the library's swap leaves is what `swapped` says. Assumes nothing.
use Rattle.std.proofs.Common.{sym, ◌∙◌, arith}
use Rattle.std.proofs.lemmas.List.Edits.{swap_is}
use Rattle.sampler.proofs.swap_weights.Goals as goal

pub returns : goal.returns
returns c = record {
  weights_after = c.swap-2.ensures.after ∙ sym (swap_is _ _ _ _ (omega arith) (omega arith));
  points_after = c.swap.ensures.after ∙ sym (swap_is _ _ _ _ (omega arith) (omega arith));
}
