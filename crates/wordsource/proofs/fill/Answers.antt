-- `wordsource::fill` meets its contract. Assumes nothing.
use mathlib.Core.List.{List}
use mathlib.Core.Path.{ap, ◌∙◌}
use Prim.Native.Nat.{ℕ}
use native.Mathlib.Omega.{arith}
use lib.ListN.{length}
use Rattle.wordsource.proofs.Answers.{other_key, start_beyond, runs_past, within}
use Rattle.wordsource.specs.Stream.{stream_words}
use Rattle.wordsource.proofs.fill.Goals as goal

pub returns-in_default : goal.returns-in_default
returns-in_default c = other_key c.args.key.now c.args.start c.args.words.now c.in_default.ensures.cases

pub returns-then-start-ge-LIMIT : goal.returns-then-start-ge-LIMIT
returns-then-start-ge-LIMIT c = start_beyond c.args.key.now c.args.start c.args.words.now c.in-Some.ensures.cases.long c.if-start-ge-LIMIT.true

pub returns-then-start-count : goal.returns-then-start-count
returns-then-start-count c = runs_past c.args.key.now c.args.start c.args.words.now c.in-Some.ensures.cases.long c.if-start-ge-LIMIT.false (omega arith)

pub returns : goal.returns
returns c = let w = c.in-Some.ensures.cases in
    within c.args.key.now c.args.start c.args.words.now w.long c.if-start-ge-LIMIT.false (omega arith) c.put_stream.new.words
    (c.put_stream.ensures ∙ ap (λ (k : List ℕ). stream_words k c.args.start (length c.args.words.now)) w.same)
