-- `arrivals::write_slots` meets its contract. Assumes nothing.
use mathlib.Core.Path.{◌≡◌, ap, ◌∙◌}
use Prim.Native.Nat.{ℕ, ◌*◌}
use native.Mathlib.Omega.{arith}
use lib.Seq.{sets}
use Rattle.little.specs.Little.{bytes_of}
use Rattle.sampler.specs.Sample.{entries_in}
use Rattle.arrivals.specs.Sample.{entry_numbers}
use Rattle.arrivals.proofs.Sample.{same_answers, slot_turn}
use borrow.Author.Rules.{rules}
use Rattle.arrivals.proofs.write_slots.Goals as goal

pub loop-i-init : goal.loop-i-init
unfolding entries_in
loop-i-init c = search rules

pub put_two-requires : goal.put_two-requires
put_two-requires c = let l = c.loop-i in
    omega (arith, c.requires.1, c.loop-i-test.true, same_answers c.args.sample.now.weights c.args.sample.now.held c.args.out l.i c.args.answers.now l.answers l.invariant.1)

pub loop-i-preserved : goal.loop-i-preserved
loop-i-preserved c = let l = c.loop-i in
    let s = c.args in (
      omega (arith, c.loop-i-test.true),
      slot_turn s.sample.now.weights s.sample.now.held s.out l.i s.answers.now l.answers l.invariant.1 _ _ _ (c.wide32-bits.ensures.0 ∙ c.pattern_of.ensures) c.wide16.ensures.0 c.put_two.ensures,
    )

pub shape_of-answers : goal.shape_of-answers
shape_of-answers c = let s = c.args in
    let l = c.loop-i in
    same_answers s.sample.now.weights s.sample.now.held s.out l.i s.answers.now l.answers l.invariant.1

pub returns : goal.returns
returns c = let s = c.args in
    let l = c.loop-i in
    let e : l.i ≡ s.n = omega (arith, c.loop-i-test.false, l.invariant.0) in
    l.invariant.1 ∙ ap (λ (i : ℕ). sets s.answers.now (4 * s.out) (bytes_of (entry_numbers (entries_in i s.sample.now.weights s.sample.now.held)))) e
