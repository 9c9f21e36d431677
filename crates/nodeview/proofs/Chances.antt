-- The probability of a row above the leaf is one rounded division: box and query are coordinates, and the channels beyond the tree's hold +0.0 and add nothing. Assumes nothing.
use mathlib.Core.Path.{◌≡◌, ap, ◌∙◌, subst}
use mathlib.Core.Bool.{true}
use mathlib.Core.List.{List}
use Prim.Native.Nat.{ℕ}
use native.Mathlib.Omega.{arith}
use lib.Dec.{eqb}
use lib.ListN.{length}
use lib.Ieee.{Float, lt}
use borrow.Author.Tests.{eqb-true}
use Rattle.limits.specs.Limits.{width}
use Rattle.readings.specs.Number.{nought}
use Rattle.readings.proofs.Tests.{yes}
use Rattle.boundingbox.specs.Ends.{channel}
use Rattle.boundingbox.specs.Padding.{Padded}
use Rattle.cut.specs.Laws.{Readings}
use Rattle.cut.proofs.Padding.{fewer}
use Rattle.probability.specs.Probability.{probability}
use Rattle.probability.proofs.Computed.{sums_near}
use Rattle.probability.proofs.Quotient.{one_division, as_document, in_range, zero_inside}
use Rattle.probability.proofs.Padding.{padding_adds_nothing}
use Rattle.cuttree.specs.Tree.{Tree, lo, hi}
use Rattle.cuttree.specs.Walk.{sub}
use Rattle.cuttree.proofs.Heights.{height_sub}
use Rattle.cuttree.proofs.Nodes.{all_in}
use Rattle.wholetree.specs.Reading.{Reading, reading}
use Rattle.wholetree.specs.Whole.{whole, all_coordinates}
use Rattle.wholetree.specs.Paper.{OfChannels}
use Rattle.wholetree.proofs.Readings.{padded_beyond, reading_row}
use Rattle.wholetree.proofs.Draws.{are_readings_lem}
use Rattle.wholetree.proofs.Paper.{tree_channels}
use Rattle.layout.specs.Slots.{low_of, high_of}
use Rattle.layout.proofs.Replaced.{in_sub}
use Rattle.randomcuttree.proofs.Given.{narrow}
use Rattle.nodeview.specs.Laws.{Probability, ChancesDivided}
use Rattle.nodeview.proofs.Nodes.{branch_chance}

-- a given point of d channels has +0.0 in the others
pub narrow_point : (d : ℕ) (xs : List Float) → eqb (length xs) d ≡ true → all_coordinates xs ≡ true → Padded (reading xs).row d width
narrow_point d xs e g i a b =
    let l : length xs ≡ d = eqb-true (length xs) d e in
    ap (λ (r : List Float). channel r i) (reading_row xs (yes g)) ∙ padded_beyond width xs i (omega arith) b

module _ (d c : ℕ) (u : Tree (whole d)) (p : Reading) (C : OfChannels d (lo (whole d) u) (hi (whole d) u) p) where
  wide : Readings (low_of d c u) (high_of d c u) p.row width
  wide = are_readings_lem C.box p

  own : Readings (low_of d c u) (high_of d c u) p.row d
  own = fewer d width (low_of d c u) (high_of d c u) p.row C.in_row wide

  padded : probability (low_of d c u) (high_of d c u) p.row width ≡ probability (low_of d c u) (high_of d c u) p.row d
  padded = padding_adds_nothing d width (low_of d c u) (high_of d c u) p.row (record { fewer = C.in_row; low = C.lower; high = C.upper; point = C.point }) wide

  of_branch : Probability d c u p (probability (low_of d c u) (high_of d c u) p.row width)
  of_branch =
      let sums = sums_near d (low_of d c u) (high_of d c u) p.row own in
      let range = in_range width (low_of d c u) (high_of d c u) p.row wide in
      record {
        value = padded ∙ one_division d (low_of d c u) (high_of d c u) p.row own;
        over = sums.over;
        under = sums.under;
        few = sums.few;
        document = λ h. padded ∙ as_document d (low_of d c u) (high_of d c u) p.row h own;
        low = range.0;
        high = range.1;
        outside = λ h. ap (lt nought) padded ∙ ((zero_inside d (low_of d c u) (high_of d c u) p.row own).1 h).1;
      }

pub chances_divided : ChancesDivided
chances_divided d c W t xs m l R T e g z h =
    let p = reading xs in
    let u = sub (whole d) t m p in
    let C = tree_channels d u p l (all_in (whole d) (λ i q n. Padded q.row d width) (in_sub d c m p t h) (narrow R T)) (narrow_point d xs e g) in
    subst (Probability d c u p) (branch_chance d c u p (omega (arith, height_sub (whole d) m p t h))) (of_branch d c u p C)
