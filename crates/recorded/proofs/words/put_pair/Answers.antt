-- `put_pair` meets its contract: two numbers of 16 bits are one of 32. Assumes nothing.
use Rattle.recorded.proofs.words.put_pair.Goals as goal

pub returns : goal.returns
returns c = record { wrote = rw (c.wide16.ensures.0, c.wide16-2.ensures.0) at c.put_word.ensures.wrote; next = c.put_word.ensures.next }
