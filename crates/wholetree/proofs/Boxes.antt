-- The box of every tree: its ends are the Rust's least and greatest of two, and coordinates, since each is a coordinate of one of the leaves.
use mathlib.Core.Path.{◌≡◌, refl, sym, ap}
use mathlib.Core.Bool.{Bool, true, false, not, cond, true≢false}
use mathlib.Core.Logic.{◌⊎◌, inl, inr}
use Prim.Native.Nat.{ℕ}
use lib.Dec.{T}
use lib.Ieee.{lt, le}
use Rattle.boundingbox.specs.Ends.{least as least_float, greatest}
use Rattle.cuttree.specs.Tree.{Tree, leaf, branch, least, most, end, lo, hi, All}
use Rattle.cuttree.proofs.Orders.{End, least_end, most_end}
use Rattle.readings.specs.Number.{Number, zero}
use Rattle.wholetree.specs.Reading.{is_coordinate32, Reading, coordinate}
use Rattle.wholetree.specs.Whole.{whole}
use Rattle.wholetree.specs.Box.{CoordinateBox}
use Rattle.readings.proofs.Ordered.{not_le, le_refl, le_trans, le_total, le_antisym}
use Rattle.wholetree.proofs.Readings.{coordinate_at, coordinate_beyond}
use Rattle.wholetree.proofs.Laws.{whole_laws}

module _ (d : ℕ) where
  -- of two that are equal the Rust takes the other one, which is the same number
  module _ (a b : Number) where
    below_is : lt a.value b.value ≡ not (le b.value a.value)
    below_is = sym (not_le b a)

    pub least_is : (least (whole d) a b).value ≡ least_float a.value b.value
    unfolding least_float
    least_is = rw below_is (go (le a.value b.value) (le b.value a.value) (le_antisym a b) (le_total a b))
      where
        go : (x y : Bool) → (x ≡ true → y ≡ true → a ≡ b) → (x ≡ false → y ≡ true) → (cond x a b).value ≡ cond (not y) a.value b.value
        go true true f g = ap (λ (n : Number). n.value) (f refl refl)
        go true false f g = refl
        go false true f g = refl
        go false false f g = absurd (true≢false (sym (g refl)))

    pub most_is : (most (whole d) a b).value ≡ greatest a.value b.value
    unfolding greatest
    most_is = rw below_is (go (le a.value b.value) (le b.value a.value) (le_antisym a b) (le_total a b))
      where
        go : (x y : Bool) → (x ≡ true → y ≡ true → a ≡ b) → (x ≡ false → y ≡ true) → (cond x b a).value ≡ cond (not y) b.value a.value
        go true true f g = sym (ap (λ (n : Number). n.value) (f refl refl))
        go true false f g = refl
        go false true f g = refl
        go false false f g = absurd (true≢false (sym (g refl)))

  -- an end is one of two, so what holds of the coordinates of all leaves holds of it
  pub chosen : {m : Number → Number → Number} {to : Number → Number → Bool} (E : End (whole d) m to) (P : Number → Type 0) (t : Tree (whole d)) (i : ℕ) → All (whole d) (λ j q n. P (coordinate q i)) t → P (end (whole d) m t i)
  chosen E P (leaf j q n) i h = h
  chosen {m} E P (branch b k l r) i h = go (E.chosen (end (whole d) m l i) (end (whole d) m r i)) (chosen E P l i h.0) (chosen E P r i h.1)
    where
      go : (m (end (whole d) m l i) (end (whole d) m r i) ≡ end (whole d) m l i) ⊎ (m (end (whole d) m l i) (end (whole d) m r i) ≡ end (whole d) m r i) → P (end (whole d) m l i) → P (end (whole d) m r i) → P (m (end (whole d) m l i) (end (whole d) m r i))
      go (inl e) x y = rw e x
      go (inr e) x y = rw e y

  anywhere : (P : Number → Type 0) (t : Tree (whole d)) (i : ℕ) → ((q : Reading) → P (coordinate q i)) → All (whole d) (λ j q n. P (coordinate q i)) t
  anywhere P (leaf j q n) i h = h q
  anywhere P (branch b k l r) i h = (anywhere P l i h, anywhere P r i h)

  in_order : (t : Tree (whole d)) (i : ℕ) → le (lo (whole d) t i).value (hi (whole d) t i).value ≡ true
  in_order (leaf j q n) i = le_refl (coordinate q i)
  in_order (branch b k l r) i =
      le_trans (lo (whole d) (branch b k l r) i) (lo (whole d) l i) (hi (whole d) (branch b k l r) i) ((least_end (whole d) (whole_laws d)).first (lo (whole d) l i) (lo (whole d) r i))
      (le_trans (lo (whole d) l i) (hi (whole d) l i) (hi (whole d) (branch b k l r) i) (in_order l i) ((most_end (whole d) (whole_laws d)).first (hi (whole d) l i) (hi (whole d) r i)))

  pub tree_box : (t : Tree (whole d)) → CoordinateBox (lo (whole d) t) (hi (whole d) t)
  tree_box t = record {
    lower = λ i. chosen (least_end (whole d) (whole_laws d)) (λ a. T (is_coordinate32 a.value)) t i (anywhere (λ a. T (is_coordinate32 a.value)) t i (λ q. coordinate_at q i));
    upper = λ i. chosen (most_end (whole d) (whole_laws d)) (λ a. T (is_coordinate32 a.value)) t i (anywhere (λ a. T (is_coordinate32 a.value)) t i (λ q. coordinate_at q i));
    ordered = in_order t;
    beyond_lower = λ i h. chosen (least_end (whole d) (whole_laws d)) (λ a. a ≡ zero) t i (anywhere (λ a. a ≡ zero) t i (λ q. coordinate_beyond q i h));
    beyond_upper = λ i h. chosen (most_end (whole d) (whole_laws d)) (λ a. a ≡ zero) t i (anywhere (λ a. a ≡ zero) t i (λ q. coordinate_beyond q i h));
  }
