-- `put_word` meets its contract: the word's four bytes are those written. Assumes nothing.
use Rattle.recorded.proofs.Stores.{stored}
use Rattle.recorded.proofs.words.put_word.Goals as goal

pub returns : goal.returns
returns c = let it = stored c.args.x c.put_u32.ensures c.put_bytes.ensures in record { wrote = it.0; next = it.1 }
