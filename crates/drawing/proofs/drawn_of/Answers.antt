-- `drawn_of` meets its contract: both rows are of the ends that the test selects. Assumes nothing.
use native.Mathlib.Omega.{arith}
use mathlib.Core.Path.{◌≡◌, ap, ◌∙◌}
use mathlib.Core.List.{[]}
use lib.ListN.{get_or}
use Rattle.drawing.specs.Choice.{ends_for}
use Rattle.drawing.proofs.drawn_of.Goals as goal
use Rattle.drawing.proofs.drawn_of.Goals.{then-partly, else-partly, then-partly-2, else-partly-2}

pub offset_bounds-boxes-branch : goal.offset_bounds-boxes-branch
offset_bounds-boxes-branch c = omega (arith, c.requires.slot c.if-partly.false)

pub bounds-boxes-branch : goal.bounds-boxes-branch
bounds-boxes-branch c = c.requires.slot c.if-partly.false

pub offset_bounds-boxes-branch-else-partly-2 : goal.offset_bounds-boxes-branch-else-partly-2
offset_bounds-boxes-branch-else-partly-2 c = omega (arith, c.requires.slot c.if-partly-2.false)

pub bounds-boxes-branch-else-partly-2 : goal.bounds-boxes-branch-else-partly-2
bounds-boxes-branch-else-partly-2 c = c.requires.slot c.if-partly-2.false

pub whole_cut_and_separation-requires : goal.whole_cut_and_separation-requires
whole_cut_and_separation-requires c =
    let low : c.if-partly.low.now ≡ get_or (ends_for c.args.partly c.args.branch c.args.ends.now c.args.boxes.now) 0 []
    = elim c.if-partly.branch [ then-partly w ↦ ap (λ r. r.now) w.low-is ∙ rw w.if-partly.true | else-partly w ↦ ap (λ r. r.now) w.low-is ∙ rw w.if-partly.false ] in
    let high : c.if-partly-2.high.now ≡ get_or (ends_for c.args.partly c.args.branch c.args.ends.now c.args.boxes.now) 1 []
    = elim c.if-partly-2.branch [ then-partly-2 w ↦ ap (λ r. r.now) w.high-is ∙ rw w.if-partly-2.true | else-partly-2 w ↦ ap (λ r. r.now) w.high-is ∙ rw w.if-partly-2.false ] in
    rw (low, high) (record { readings = c.requires.readings; padded = c.requires.padded })

pub returns : goal.returns
returns c =
    let low : c.if-partly.low.now ≡ get_or (ends_for c.args.partly c.args.branch c.args.ends.now c.args.boxes.now) 0 []
    = elim c.if-partly.branch [ then-partly w ↦ ap (λ r. r.now) w.low-is ∙ rw w.if-partly.true | else-partly w ↦ ap (λ r. r.now) w.low-is ∙ rw w.if-partly.false ] in
    let high : c.if-partly-2.high.now ≡ get_or (ends_for c.args.partly c.args.branch c.args.ends.now c.args.boxes.now) 1 []
    = elim c.if-partly-2.branch [ then-partly-2 w ↦ ap (λ r. r.now) w.high-is ∙ rw w.if-partly-2.true | else-partly-2 w ↦ ap (λ r. r.now) w.high-is ∙ rw w.if-partly-2.false ] in
    rw (← low, ← high) c.whole_cut_and_separation.ensures
