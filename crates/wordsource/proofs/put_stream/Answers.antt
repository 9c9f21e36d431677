-- `wordsource::put_stream` meets its contract. Assumes nothing.
use mathlib.Core.Path.{◌≡◌, refl, sym, ap, ◌∙◌}
use mathlib.Core.List.{List, ◌++◌}
use Prim.Native.Nat.{ℕ, ◌+◌, ◌-◌, ◌/◌, ◌%◌}
use native.Mathlib.Omega.{arith}
use lib.Seq.{take_all}
use lib.ListN.{length, take, set}
use Rattle.wordsource.proofs.Stream.{block_at}
use Rattle.wordsource.specs.Pairs.{words_of}
use Rattle.chacha20.specs.Block.{block_of}
use Rattle.wordsource.specs.Stream.{stream_words}
use Rattle.wordsource.proofs.Turns.{block_more}
use Rattle.wordsource.proofs.put_stream.Goals as goal

pub loop-i-init : goal.loop-i-init
unfolding stream_words
loop-i-init c = (omega arith, refl, refl)

pub loop-i-preserved : goal.loop-i-preserved
loop-i-preserved c = let p = c.put_words-i in
    let key = c.args.key.now in
    let n = c.args.start + c.loop-i.i in
    let block : c.block_of.new.block ≡ block_at key (n / 8)
    = c.block_of.ensures ∙ ap block_of (c.at_block.ensures ∙ ap (λ (x : List ℕ). set x 12 (n / 8)) c.state_of-first.ensures) in
    let words : take p.result p.new.words ≡ take c.loop-i.i c.loop-i.words ++ words_of (block_at key (n / 8)) (n % 8) (p.result - c.loop-i.i)
    = p.ensures.words ∙ ap (λ (x : List ℕ). take c.loop-i.i c.loop-i.words ++ words_of x (n % 8) (p.result - c.loop-i.i)) block in
    (omega (arith, p.ensures.count), p.auto.words ∙ c.loop-i.invariant.1, block_more key c.args.start c.loop-i.i p.result c.loop-i.words p.new.words (omega (arith, p.ensures.count)) (omega (arith, p.ensures.count)) c.loop-i.invariant.2 words)

pub returns : goal.returns
returns c = let e : c.loop-i.i ≡ length c.args.words.now = omega arith in
    sym (take_all c.loop-i.i c.loop-i.words (omega arith)) ∙ c.loop-i.invariant.2 ∙ ap (stream_words c.args.key.now c.args.start) e
