-- `SamplerPlusTree::starts` meets its contract: a full sample draws no number. Assumes nothing.
use mathlib.Core.Path.{sym, ◌∙◌}
use Rattle.samplerplustree.proofs.Tested.{full_never, otherwise}
use Rattle.samplerplustree.proofs.SamplerPlusTree.starts.Goals as goal

pub returns-then-is_full : goal.returns-then-is_full
returns-then-is_full c = full_never c.args.self c.args.chance (sym c.is_full.ensures ∙ c.if-is_full.true)

pub returns : goal.returns
returns c = otherwise c.args.self c.args.chance (sym c.is_full.ensures ∙ c.if-is_full.false) _ c.starts.ensures
