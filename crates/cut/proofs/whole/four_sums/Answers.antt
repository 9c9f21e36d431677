-- `four_sums` meets its contract: each sum is the one before with four sides more, and past the channels it stays. Assumes nothing.
use Rattle.std.proofs.Common.{arith}
use Rattle.cut.proofs.Sums.{sums_stay, first_four, four_more, fours_are, fours_two, fours_four}
use Rattle.cut.proofs.whole.four_sums.Goals as goal

pub overflow_add-b : goal.overflow_add-b
overflow_add-b c = omega arith

pub returns-then-dimensions-le8 : goal.returns-then-dimensions-le8
returns-then-dimensions-le8 c = let a = first_four _ _ c.sum_four-a.ensures.grows in
    let b = four_more _ 4 _ _ a c.sum_four.ensures.grows in
    fours_two _ _ _ a b (sums_stay _ _ c.requires.padded 8 c.if-dimensions-le8.true)

pub overflow_add-c : goal.overflow_add-c
overflow_add-c c = omega arith

pub overflow_add-d : goal.overflow_add-d
overflow_add-d c = omega arith

pub returns-then-dimensions-le16 : goal.returns-then-dimensions-le16
returns-then-dimensions-le16 c = let a = first_four _ _ c.sum_four-a.ensures.grows in
    let b = four_more _ 4 _ _ a c.sum_four.ensures.grows in
    let c₁ = four_more _ 8 _ _ b c.sum_four-2.ensures.grows in
    let d = four_more _ 12 _ _ c₁ c.sum_four-3.ensures.grows in
    fours_four _ _ _ _ _ a b c₁ d (sums_stay _ _ c.requires.padded 16 c.if-dimensions-le16.true)

pub overflow_add-e : goal.overflow_add-e
overflow_add-e c = omega arith

pub overflow_add-f : goal.overflow_add-f
overflow_add-f c = omega arith

pub overflow_add-g : goal.overflow_add-g
overflow_add-g c = omega arith

pub overflow_add-h : goal.overflow_add-h
overflow_add-h c = omega arith

pub returns : goal.returns
returns c = let a = first_four _ _ c.sum_four-a.ensures.grows in
    let b = four_more _ 4 _ _ a c.sum_four.ensures.grows in
    let c₁ = four_more _ 8 _ _ b c.sum_four-2.ensures.grows in
    let d = four_more _ 12 _ _ c₁ c.sum_four-3.ensures.grows in
    let e = four_more _ 16 _ _ d c.sum_four-4.ensures.grows in
    let f = four_more _ 20 _ _ e c.sum_four-5.ensures.grows in
    let h = four_more _ 24 _ _ f c.sum_four-6.ensures.grows in
    let k = four_more _ 28 _ _ h c.sum_four-7.ensures.grows in
    fours_are _ _ _ _ _ _ _ _ _ a b c₁ d e f h k
