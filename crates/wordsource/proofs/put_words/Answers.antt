-- `wordsource::put_words` meets its contract. Assumes nothing.
use mathlib.Core.List.{◌++◌, append-nil}
use mathlib.Core.Path.{◌≡◌, sym, ap, ◌∙◌}
use Prim.Native.Nat.{ℕ, ◌-◌}
use native.Mathlib.Omega.{arith}
use lib.ListN.{take}
use Rattle.wordsource.specs.Pairs.{words_of}
use Rattle.wordsource.proofs.Turns.{word_more}
use Rattle.wordsource.proofs.put_words.Goals as goal

pub loop-i-init : goal.loop-i-init
unfolding words_of
loop-i-init c = let z : c.args.at - c.args.at ≡ 0 = omega arith in
    sym (append-nil _) ∙ ap (λ (n : ℕ). take c.args.at c.args.words.now ++ words_of c.args.block.now c.args.from n) (sym z)

pub loop-i-preserved : goal.loop-i-preserved
loop-i-preserved c = word_more c.args.block.now (take c.args.at c.args.words.now) c.loop-i.words c.args.from c.args.at c.loop-i.i c.word_of.result (omega arith) (omega (arith, c.at_most-end.ensures)) c.loop-i.invariant c.word_of.ensures

pub returns : goal.returns
returns c = let e : c.loop-i.i ≡ c.at_most-end.result = omega (arith, c.at_most-end.ensures) in
    record { count = c.at_most-end.ensures; words = rw e at c.loop-i.invariant }
