-- `SamplerPlusTree::test_arrival` meets its contract: each way out is one of the offers. Assumes nothing.
use Rattle.std.proofs.lemmas.Result.{err_from_is_err_and}
use mathlib.Core.Path.{sym, ◌∙◌}
use Rattle.samplerplustree.proofs.Tested.{reads_refused, reads_begins, reads_evicts, reads_passes, offer_told}
use Rattle.samplerplustree.proofs.SamplerPlusTree.test_arrival.Goals as goal

pub returns-in_err-check : goal.returns-in_err-check
returns-in_err-check c = let p = err_from_is_err_and c.from_residual.result c.from_residual.ensures.1 in rw (p.1, p.2) (offer_told _ _ _ _ _ _ _ _ c.ranges.chance.fits (reads_refused _ _ _ _ _ _ _ _ c.in_err-check.ensures))

pub returns-then-starts : goal.returns-then-starts
returns-then-starts c = offer_told _ _ _ _ _ _ _ _ c.ranges.chance.fits (reads_begins _ _ _ _ _ _ _ c.in_ok-check.ensures (sym c.starts.ensures ∙ c.if-starts.true))

pub returns-then-accepts : goal.returns-then-accepts
returns-then-accepts c = offer_told _ _ _ _ _ _ _ _ c.ranges.chance.fits (reads_evicts _ _ _ _ _ _ _ c.in_ok-check.ensures (sym c.starts.ensures ∙ c.if-starts.false) (sym c.accepts.ensures ∙ c.if-accepts.true))

pub returns : goal.returns
returns c = offer_told _ _ _ _ _ _ _ _ c.ranges.chance.fits (reads_passes _ _ _ _ _ _ _ c.in_ok-check.ensures (sym c.starts.ensures ∙ c.if-starts.false) (sym c.accepts.ensures ∙ c.if-accepts.false))
