-- `rfc8439::count` meets its contract. Assumes nothing.
use Rattle.std.proofs.Common.{rules, tests, length, ℕ, refl, sym, ◌∙◌, arith}
use Rattle.std.proofs.lemmas.Iterator.Consumers.{YieldsList-at, YieldsList-turn, YieldsList-end}
use Rattle.std.proofs.lemmas.Iterator.Splits.{YieldsList-from_slice_split}
use lib.Dec.{eqb}
use Rattle.text.specs.Pieces.{pieces}
use Rattle.rfc8439.proofs.Lines.{split_few, held_few, held_next, held_all, one_more}
use Rattle.rfc8439.proofs.count.Given as given
use Rattle.rfc8439.proofs.count.Goals as goal

pub loop-line-init : goal.loop-line-init
loop-line-init c = search rules

pub overflow_add-pieces : goal.overflow_add-pieces
overflow_add-pieces c =
    let s = c.split-line-items.ensures in
    let t = YieldsList-turn {steps = given.iterator-loop-line.next_gives} {v = λ x. x.now} (YieldsList-at c.into_iter-line-iterator.ensures.into_iter_gives (YieldsList-from_slice_split _ (λ (x : ℕ). eqb x 10) c.args.text.now s.rest s.done s.closure (λ x b q k. search (rules, tests)))) c.loop-line.yielded _ c.loop-line.yielded_by _ _ _ c.in-Some.is c.next.ensures.steps in
    omega (arith, t.0, split_few c.args.text.now, c.loop-line.invariant.0, c.well_formed)

pub overflow_add-held : goal.overflow_add-held
overflow_add-held c =
    let s = c.split-line-items.ensures in
    let t = YieldsList-turn {steps = given.iterator-loop-line.next_gives} {v = λ x. x.now} (YieldsList-at c.into_iter-line-iterator.ensures.into_iter_gives (YieldsList-from_slice_split _ (λ (x : ℕ). eqb x 10) c.args.text.now s.rest s.done s.closure (λ x b q k. search (rules, tests)))) c.loop-line.yielded _ c.loop-line.yielded_by _ _ _ c.in-Some.is c.next.ensures.steps in
    omega (arith, t.0, split_few c.args.text.now, held_few (pieces 10 c.args.text.now) (length c.loop-line.yielded), c.loop-line.invariant.1, c.well_formed)

pub loop-line-preserved-then-line_holds : goal.loop-line-preserved-then-line_holds
loop-line-preserved-then-line_holds c =
    let s = c.split-line-items.ensures in
    let i = c.loop-line.invariant in
    let t = YieldsList-turn {steps = given.iterator-loop-line.next_gives} {v = λ x. x.now} (YieldsList-at c.into_iter-line-iterator.ensures.into_iter_gives (YieldsList-from_slice_split _ (λ (x : ℕ). eqb x 10) c.args.text.now s.rest s.done s.closure (λ x b q k. search (rules, tests)))) c.loop-line.yielded _ c.loop-line.yielded_by _ _ _ c.in-Some.is c.next.ensures.steps in
    let m = one_more c.loop-line.yielded c.in-Some.line in
    let h = held_next c.args.text.now _ _ t.0 t.1 i.1 m in
    (omega (arith, i.0, m), sym (h ∙ rw (← c.line_holds.ensures, c.if-line_holds.true) refl))

pub loop-line-preserved : goal.loop-line-preserved
loop-line-preserved c =
    let s = c.split-line-items.ensures in
    let i = c.loop-line.invariant in
    let t = YieldsList-turn {steps = given.iterator-loop-line.next_gives} {v = λ x. x.now} (YieldsList-at c.into_iter-line-iterator.ensures.into_iter_gives (YieldsList-from_slice_split _ (λ (x : ℕ). eqb x 10) c.args.text.now s.rest s.done s.closure (λ x b q k. search (rules, tests)))) c.loop-line.yielded _ c.loop-line.yielded_by _ _ _ c.in-Some.is c.next.ensures.steps in
    let m = one_more c.loop-line.yielded c.in-Some.line in
    let h = held_next c.args.text.now _ _ t.0 t.1 i.1 m in
    (omega (arith, i.0, m), sym (h ∙ rw (← c.line_holds.ensures, c.if-line_holds.false) (omega arith)))

pub returns : goal.returns
returns c =
    let s = c.split-line-items.ensures in
    let i = c.loop-line.invariant in
    let t = YieldsList-end {steps = given.iterator-loop-line.next_gives} {v = λ x. x.now} (YieldsList-at c.into_iter-line-iterator.ensures.into_iter_gives (YieldsList-from_slice_split _ (λ (x : ℕ). eqb x 10) c.args.text.now s.rest s.done s.closure (λ x b q k. search (rules, tests)))) c.loop-line.yielded _ c.loop-line.yielded_by _ _ c.in-None.is c.next.ensures.steps in
    held_all c.args.text.now (i.0 ∙ t.1) (rw (← i.0) at i.1)
