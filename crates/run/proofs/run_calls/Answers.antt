-- `run::run_calls` meets its contract: at each turn what is left of the run leads to the same end. Assumes nothing.
use mathlib.Core.Path.{◌≡◌, refl, sym, ap, ◌∙◌, subst}
use Prim.Native.Nat.{ℕ, ◌+◌, ◌<◌}
use native.Mathlib.Omega.{arith}
use Rattle.runlayout.proofs.Rest.{making_fits, making_five, making_whole, within}
use Rattle.runsteps.specs.Standing.{kept}
use Rattle.runsteps.specs.Steps.{room}
use Rattle.run.specs.Running.{Running}
use Rattle.run.proofs.Turns.{last, stands, some_standing, fits, answers_length, turn}
use Rattle.run.proofs.run_calls.Goals as goal

below : (p n m : ℕ) → p < n → n ≡ m → p < m
below p n m h e = omega arith

pub making_width-p-requires : goal.making_width-p-requires
making_width-p-requires c = omega (arith, making_five c.args.run.now c.requires.making)

pub number_or_none-kind-requires : goal.number_or_none-kind-requires
number_or_none-kind-requires c = making_whole c.args.run.now c.requires.making

pub loop-p-init : goal.loop-p-init
loop-p-init c = let e = c.making_width-p.ensures.0 in
    (omega (arith, e, making_fits c.args.run.now c.requires.making), refl, c.number_or_none-kind.ensures.0, λ final count R. subst (λ (q : ℕ). Running c.args.run.now q 1 c.args.tree (kept c.args.store.now c.args.table.now.points c.args.table.now.written c.args.sample.now.weights c.args.sample.now.held) c.args.answers.now final count) (sym e) R)

pub answer_width-width-requires : goal.answer_width-width-requires
answer_width-width-requires c = (c.requires.making, below _ _ _ c.loop-p-test.true c.size_of-n.ensures)

pub width_at-requires : goal.width_at-requires
width_at-requires c = (below _ _ _ c.loop-p-test.true c.size_of-n.ensures, making_whole c.args.run.now c.requires.making)

pub overflow_add-next : goal.overflow_add-next
overflow_add-next c = let h = below _ _ _ c.loop-p-test.true c.size_of-n.ensures in
    omega (arith, h, c.width_at.ensures.2, c.well_formed)

pub number_or_none-ahead-requires : goal.number_or_none-ahead-requires
number_or_none-ahead-requires c = making_whole c.args.run.now c.requires.making

pub step-current-requires : goal.step-current-requires
step-current-requires c = let l = c.loop-p in
    let R = l.invariant.3 _ _ c.requires.ready.running in
    let h = below _ _ _ c.loop-p-test.true c.size_of-n.ensures in
    let w = c.answer_width-width in
    record { stands = (stands c.args.run.now _ _ _ (kept l.store l.table.points l.table.written l.sample.weights l.sample.held) _ _ _ R h, l.invariant.2); state = some_standing c.args.run.now _ _ _ (kept l.store l.table.points l.table.written l.sample.weights l.sample.held) _ _ _ R h; room = (w.ensures.0, fits c.args.run.now _ _ _ (kept l.store l.table.points l.table.written l.sample.weights l.sample.held) _ _ _ R h _ w.ensures.0) }

pub overflow_add-out : goal.overflow_add-out
overflow_add-out c = let l = c.loop-p in
    let R = l.invariant.3 _ _ c.requires.ready.running in
    let h = below _ _ _ c.loop-p-test.true c.size_of-n.ensures in
    let w = c.answer_width-width in
    omega (arith, fits c.args.run.now _ _ _ (kept l.store l.table.points l.table.written l.sample.weights l.sample.held) _ _ _ R h _ w.ensures.0, l.invariant.1, c.well_formed)

pub loop-p-smaller : goal.loop-p-smaller
loop-p-smaller c = let h = below _ _ _ c.loop-p-test.true c.size_of-n.ensures in
    omega (arith, h, c.width_at.ensures.1)

pub loop-p-preserved : goal.loop-p-preserved
loop-p-preserved c = let l = c.loop-p in
    let R = l.invariant.3 _ _ c.requires.ready.running in
    let h = below _ _ _ c.loop-p-test.true c.size_of-n.ensures in
    let w = c.answer_width-width in
    let d = c.step-current.ensures.told in
    let g = c.width_at.ensures.0 in (
      omega (arith, g, within c.args.run.now l.p (stands c.args.run.now _ _ _ (kept l.store l.table.points l.table.written l.sample.weights l.sample.held) _ _ _ R h)),
      answers_length c.args.run.now _ _ _ (kept l.store l.table.points l.table.written l.sample.weights l.sample.held) _ _ _ R h _ w.ensures.0 (room l.words l.reply l.rows l.answers) _ _ _ d refl ∙ l.invariant.1,
      c.number_or_none-ahead.ensures.0,
      λ final count R. turn c.args.run.now _ _ _ (kept l.store l.table.points l.table.written l.sample.weights l.sample.held) _ _ _ (l.invariant.3 final count R) h _ w.ensures.0 (room l.words l.reply l.rows l.answers) _ _ _ d refl _ (ap (λ (k : ℕ). l.p + k) g),
    )

pub shape_of-answers : goal.shape_of-answers
shape_of-answers c = c.loop-p.invariant.1

pub returns : goal.returns
returns c = let l = c.loop-p in
    λ final count R. last c.args.run.now _ _ _ (kept l.store l.table.points l.table.written l.sample.weights l.sample.held) _ _ _ (l.invariant.3 final count R) (omega (arith, l.invariant.0, c.loop-p-test.false, c.size_of-n.ensures))
