-- A row of the table: how a loop writes it, and how one tests it. Assumes nothing.
use mathlib.Core.Path.{◌≡◌, refl, sym, ap, ◌∙◌, subst}
use mathlib.Core.List.{List}
use mathlib.Core.Logic.{◌⊎◌, inl, inr}
use mathlib.Core.Bool.{Bool, true, false, ◌&&◌, cond, and-true}
use Prim.Native.Nat.{ℕ, ◌+◌, ◌≤◌, ◌<◌}
use native.Mathlib.Nat.{eq-or-lt_of_le, lt_irrefl}
use native.Mathlib.Numerals.{add-one}
use native.Mathlib.Omega.{arith}
use lib.Dec.{T, ltb}
use lib.ListN.{length, set, drop, length-set, drop_of_length-le}
use lib.Seq.{get_or-set_same, get_or-set_other, drop-cons}
use lib.Ieee.{Float, nan, binary32, fits}
use lib.Ieee.Bits.{is_true}
use Rattle.limits.specs.Limits.{width}
use Rattle.readings.specs.Coordinate.{is_coordinate}
use Rattle.boundingbox.specs.Ends.{channel}
use Rattle.readings.specs.Number.{nought}
use Rattle.wholetree.specs.Reading.{is_coordinate32, padded}
use Rattle.wholetree.specs.Whole.{all_coordinates}
use Rattle.wholetree.proofs.Readings.{padded_length, padded_at, padded_beyond}
use Rattle.layout.proofs.Tabs.{is_tab}
use Rattle.pointstore.specs.Puts.{or_nought}

-- a list whose entries below i are f's
pub record Filled (f : ℕ → Float) (n i : ℕ) (row : List Float) : Type 0 where
  pub within : i ≤ n
  pub long : length row ≡ n
  pub entries : (k : ℕ) → k < i → channel row k ≡ f k

module _ (f : ℕ → Float) (n i : ℕ) (row : List Float) (w : Filled f n i row) (h : i < n) (v : Float) (e : v ≡ f i) where
  pub fill_turn : Filled f n (i + 1) (set row i v)
  fill_turn = record { within = next; long = length-set row i v ∙ w.long; entries = λ k l. go k (eq-or-lt_of_le (below k l)) }
    where
      next : i + 1 ≤ n
      next = omega arith

      below : (k : ℕ) → k < i + 1 → k ≤ i
      below k l = omega arith

      room : i < length row
      room = omega (arith, w.long)

      go : (k : ℕ) → (k ≡ i) ⊎ (k < i) → channel (set row i v) k ≡ f k
      go k (inl z) = subst (λ (j : ℕ). channel (set row i v) j ≡ f j) (sym z) (get_or-set_same row i v nan room ∙ e)
      go k (inr l) = get_or-set_other row i k v nan (λ z. lt_irrefl i (subst (λ (j : ℕ). j < i) z l)) ∙ w.entries k l

-- the coordinates, +0.0 after them
pub padded_is : (xs row : List Float) (i : ℕ) → width ≤ i → Filled (or_nought xs) width i row → row ≡ padded width xs
padded_is xs row i h w = is_tab nan width (or_nought xs) row w.long (λ k l. w.entries k (omega arith)) ∙ sym (is_tab nan width (or_nought xs) (padded width xs) (padded_length width xs) (λ k l. go k l (ltb k (length xs)) refl))
  where
    go : (k : ℕ) → k < width → (b : Bool) → ltb k (length xs) ≡ b → channel (padded width xs) k ≡ cond b (channel xs k) nought
    go k l true e = padded_at width xs k (borrow.Author.Tests.ltb-true k (length xs) e) l
    go k l false e = padded_beyond width xs k (borrow.Author.Tests.ltb-false k (length xs) e) l

-- ---- the test of each coordinate
module _ (xs : List Float) (i : ℕ) (h : i < length xs) (F : T (fits binary32 (channel xs i))) (b : Bool) (e : b ≡ is_coordinate (channel xs i)) where
  turn : all_coordinates (drop i xs) ≡ (b && all_coordinates (drop (i + 1) xs))
  unfolding is_coordinate32
  turn = rw (add-one, drop-cons xs i nan h, is_true (fits binary32 (channel xs i)) F, and-true, ← e) refl

  pub turn_bad : b ≡ false → all_coordinates (drop i xs) ≡ false
  turn_bad n = turn ∙ ap (λ (c : Bool). c && all_coordinates (drop (i + 1) xs)) n

  pub turn_good : b ≡ true → all_coordinates (drop i xs) ≡ all_coordinates (drop (i + 1) xs)
  turn_good y = turn ∙ ap (λ (c : Bool). c && all_coordinates (drop (i + 1) xs)) y

pub all_done : (xs : List Float) (i : ℕ) → length xs ≤ i → all_coordinates (drop i xs) ≡ true
all_done xs i h = rw (drop_of_length-le xs h) refl
