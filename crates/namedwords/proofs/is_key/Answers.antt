-- `namedwords::is_key` meets its contract. Assumes nothing.
use Rattle.std.proofs.Common.{replicate}
use Rattle.hexbytes.proofs.Digits.{read_tells}
use Rattle.namedwords.proofs.is_key.Goals as goal

pub returns : goal.returns
returns c = (read_tells c.args.field.now (replicate 32 0) _ _ c.read_hex.ensures).tells
