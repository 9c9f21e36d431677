-- `whole_probability_of_cut` meets its contract: no channel beyond the tree's adds to a sum, and in few channels what lies outside does not pass 2^24. Assumes nothing.
use mathlib.Core.Path.{◌∙◌}
use native.Mathlib.Omega.{arith}
use Rattle.limits.specs.Limits.{width}
use Rattle.probability.proofs.Integers.{all_fits, by_integers, few_small, told_all, told_part}
use Rattle.probability.proofs.whole_probability_of_cut.Goals as goal

pub part_of-requires : goal.part_of-requires
part_of-requires c = let q = c.requires in
    let h = c.if-dimensions-le8.true in
    let f = c.sums_to.ensures in
    (omega arith, rw (told_all _ width _ _ _ q.padded q.readings 8 h (omega arith) _ _ f.0 f.1) (all_fits width _ _ _ q.readings))

pub returns-then-dimensions-le8 : goal.returns-then-dimensions-le8
returns-then-dimensions-le8 c = let q = c.requires in
    let h = c.if-dimensions-le8.true in
    let f = c.sums_to.ensures in
    c.part_of.ensures
    ∙ rw (told_part _ width _ _ _ q.padded q.readings 8 h (omega arith) _ _ f.0 f.1, told_all _ width _ _ _ q.padded q.readings 8 h (omega arith) _ _ f.0 f.1)
    (by_integers width _ _ _ q.readings (few_small _ width _ _ _ q.padded q.readings 8 h (omega arith) (omega arith)))

pub part_or_rounded-requires-clause-sums : goal.part_or_rounded-requires-clause-sums
part_or_rounded-requires-clause-sums c = let q = c.requires in
    let h = c.if-dimensions-le16.true in
    let f = c.sums_to-then-dimensions-le16.ensures in
    (told_part _ width _ _ _ q.padded q.readings 16 h (omega arith) _ _ f.0 f.1, told_all _ width _ _ _ q.padded q.readings 16 h (omega arith) _ _ f.0 f.1)
