-- `namedwords::key_of` meets its contract. Assumes nothing.
use mathlib.Core.Path.{◌∙◌}
use lib.ListN.{replicate}
use Rattle.hexbytes.proofs.Digits.{read_tells}
use Rattle.namedwords.proofs.key_of.Goals as goal

pub returns : goal.returns
returns c = let read = read_tells c.args.field.now (replicate 32 0) _ _ c.read_hex.ensures in read.holds (read.tells ∙ c.requires)
