-- `namedwords::read_words` meets its contract. Assumes nothing.
use mathlib.Core.Path.{sym}
use native.Mathlib.Omega.{arith}
use lib.Seq.{length-take-le}
use Rattle.namedwords.proofs.Words.{had, words_none, words_are}
use borrow.Author.Rules.{rules}
use Rattle.namedwords.proofs.read_words.Goals as goal

pub returns-then-is_beyond : goal.returns-then-is_beyond
returns-then-is_beyond c = let it = words_none _ c.requires c.is_beyond.ensures _ c.if-is_beyond.true in record { count = it.0; words = it.1 }

pub slice_bounds-fill_from-end-2 : goal.slice_bounds-fill_from-end-2
slice_bounds-fill_from-end-2 c = sym (length-take-le c.at_most-n.result c.args.words.now (omega arith))

pub fill_from-requires : goal.fill_from-requires
fill_from-requires c = record { named = c.requires; had = had _ c.requires c.is_beyond.ensures c.if-is_beyond.false; within = (search rules, omega (arith, length-take-le c.at_most-n.result c.args.words.now (omega arith))) }

pub returns : goal.returns
returns c = let it = words_are _ c.requires c.is_beyond.ensures _ c.if-is_beyond.false c.at_most-n.ensures c.fill_from.ensures in record { count = it.0; words = it.1 }
