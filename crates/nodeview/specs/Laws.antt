-- What the probability of a row above the leaf comes to: request A.7's division, from 0 to 1, and up to 8 channels document 01's. The statement is proved in proofs/Chances.antt.
use Rattle.std.specs.Prelude.{◌≡◌, true, false, List, ℕ, ◌+◌, ◌≤◌, ◌<◌, Float}
use Rattle.std.proofs.Math.Option.{some}
use Rattle.std.specs.Float.Ieee.{lt, le}
use Rattle.limits.specs.Limits.{width}
use Rattle.readings.specs.Number.{nought}
use Rattle.boundingbox.specs.Contained.{contains}
use Rattle.cut.specs.Sums.{one}
use Rattle.probability.specs.Laws.{S, computed_sum, quotient}
use Rattle.cuttree.specs.Tree.{Tree, height}
use Rattle.cuttree.specs.Walk.{sub}
use Rattle.cuttree.specs.Run.{World}
use Rattle.wholetree.specs.Reading.{Reading, reading}
use Rattle.wholetree.specs.Whole.{whole}
use Rattle.layout.specs.Slots.{low_of, high_of}
use Rattle.randomcuttree.specs.State.{Reachable}
use Rattle.nodeview.specs.Report.{row_at}

-- a tree of d channels and capacity c; each is of the box of u, and over the tree's own channels
module _ (d c : ℕ) where
  -- 'S the summed distance outside the box'
  abbrev pub distance_outside : Tree (whole d) → Reading → ℕ
  distance_outside u p = S (low_of d c u) (high_of d c u) p.row d

  -- request A.7: 'the computed sum', which the Rust adds up in f32
  abbrev pub computed_outside : Tree (whole d) → Reading → ℕ
  computed_outside u p = computed_sum (low_of d c u) (high_of d c u) p.row d

  -- 0 if the query is inside; otherwise the sum s over the sides and s, 'in one rounded division'
  abbrev pub divided : Tree (whole d) → Reading → ℕ → Float
  divided u p s = quotient (low_of d c u) (high_of d c u) p.row d s

-- the probability x of the branch u
pub record Probability (d c : ℕ) (u : Tree (whole d)) (p : Reading) (x : Float) : Type 0 where
  -- request A.7: 'the single rounded division of the computed sum by the f64 sum of it and the box's sides'
  pub value : x ≡ divided d c u p (computed_outside d c u p)
  -- 'The distance between the computed sum and the whole-number sum is at most 126, and it is 0 up to 8 channels'
  pub over : computed_outside d c u p ≤ distance_outside d c u p + 126
  pub under : distance_outside d c u p ≤ computed_outside d c u p + 126
  pub few : d ≤ 8 → computed_outside d c u p ≡ distance_outside d c u p
  -- so that there it is document 01's 'S / (W + S) in one rounded division'
  pub document : d ≤ 8 → x ≡ divided d c u p (distance_outside d c u p)
  pub low : le nought x ≡ true
  pub high : le x one ≡ true
  -- and no query outside gets 0
  pub outside : contains (low_of d c u) (high_of d c u) p.row p.row d ≡ false → lt nought x ≡ true

-- Of every row above the leaf's, in the report of coordinates that pass both tests and of a world that a making and its calls leave.
abbrev pub ChancesDivided : Type 0
ChancesDivided = (d c : ℕ) (W : World (whole d)) (t : Tree (whole d)) (xs : List Float) (m : ℕ) → d ≤ width → Reachable d c W → W.tree ≡ some t → (whole d).counted xs ≡ true → (whole d).good xs ≡ true
    → 0 < m → m ≤ height (whole d) t (reading xs) → Probability d c (sub (whole d) t m (reading xs)) (reading xs) (row_at d c t (reading xs) m).probability
