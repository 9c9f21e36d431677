-- The boxes at hand while a slot among them is written block by block. Assumes nothing.
use mathlib.Core.Path.{◌≡◌, refl, sym, ap, ◌∙◌, subst}
use mathlib.Core.List.{List, [], ◌∷◌}
use Prim.Native.Nat.{ℕ, zero, suc, ◌+◌, ◌≤◌, ◌<◌}
use native.Mathlib.Omega.{arith}
use lib.Dec.{eqb, leb}
use lib.ListN.{length, get_or, set, length-set}
use lib.Seq.{get_or-set_same, get_or-set_other, set-set}
use lib.Ieee.{Float}
use borrow.Author.Tests.{eqb-true, eqb-false}
use Rattle.limits.specs.Limits.{branch_limit}
use Rattle.boundingbox.specs.Ends.{channel, joined, least, greatest}
use Rattle.cuttree.proofs.Tests.{by-test}
use Rattle.rowboxes.specs.Rows.{lanes, PaddedTable, PaddedBoxes, BlockOf, PutEnds, FilledEnds, Lies, hand_end, hand_low, hand_high}
use Rattle.rowboxes.proofs.Rows.{ends_none, ends_turn, pair_of, fill_joined, low_padded, high_padded, made_ends, padded_set, nought_least, nought_greatest}

-- ---- a slot that is written block by block
pub record FilledSlot (R S : Float → ℕ → Float → Type 0) (at j : ℕ) (X₀ X : List (List (List Float))) : Type 0 where
  pub all : length X ≡ branch_limit
  pub slot : FilledEnds R S at (get_or X₀ j []) (get_or X j [])
  pub others : X ≡ set X₀ j (get_or X j [])

pub slot_none : (R S : Float → ℕ → Float → Type 0) (d j : ℕ) (X : List (List (List Float))) → j < branch_limit → PaddedBoxes d X → FilledSlot R S 0 j X X
slot_none R S d j X l P = record { all = P.all; slot = ends_none R S d _ (P.slots j l); others = sym (set_same X j) }
  where
    set_same : (X : List (List (List Float))) (j : ℕ) → set X j (get_or X j []) ≡ X
    set_same [] j = refl
    set_same (x ∷ X) zero = refl
    set_same (x ∷ X) (suc j) = ap (λ (l : List (List (List Float))). x ∷ l) (set_same X j)

pub slot_turn : (R S : Float → ℕ → Float → Type 0) (at j : ℕ) (X₀ X : List (List (List Float))) (low high : List Float) (E : List (List Float)) → j < branch_limit → FilledSlot R S at j X₀ X
    → BlockOf (λ i x. R (channel (get_or (get_or X j []) 0 []) i) i x) at low → BlockOf (λ i x. S (channel (get_or (get_or X j []) 1 []) i) i x) at high → PutEnds at low high (get_or X j []) E → FilledSlot R S (at + lanes) j X₀ (set X j E)
slot_turn R S at j X₀ X low high E l F L H P =
    let e : get_or (set X j E) j [] ≡ E = get_or-set_same X j E [] (omega (arith, F.all)) in
    record {
      all = length-set X j E ∙ F.all;
      slot = subst (FilledEnds R S (at + lanes) (get_or X₀ j [])) (sym e) (ends_turn R S at _ _ E low high F.slot L H P);
      others = ap (λ (Z : List (List (List Float))). set Z j E) F.others ∙ set-set X₀ j _ _ ∙ ap (set X₀ j) (sym e);
    }

-- ---- a row that is read: from the place on where the slot is not written yet, it is what it was, though it be the slot's own
module _ {R S : Float → ℕ → Float → Type 0} {at j : ℕ} {X₀ X : List (List (List Float))} (F : FilledSlot R S at j X₀ X) (c node : ℕ) (points : List (List Float)) where
  module _ (side : ℕ) (own : (i : ℕ) → at ≤ i → channel (get_or (get_or X j []) side []) i ≡ channel (get_or (get_or X₀ j []) side []) i) where
    still : (i : ℕ) → at ≤ i → channel (get_or (get_or X node []) side []) i ≡ channel (get_or (get_or X₀ node []) side []) i
    still i l = by-test (eqb node j)
        (λ t. let z : node ≡ j = eqb-true node j t in rw z (own i l))
        (λ t. ap (λ (Y : List (List (List Float))). channel (get_or (get_or Y node []) side []) i) F.others ∙ ap (λ (Z : List (List Float)). channel (get_or Z side []) i) (get_or-set_other X₀ j node _ [] (eqb-false node j t)))

    read : (i : ℕ) → at ≤ i → channel (hand_end c node side points X) i ≡ channel (hand_end c node side points X₀) i
    read i l = by-test (leb c node) (λ t. rw t refl) (λ t. rw t (still i l))

  pub low_read : (i : ℕ) → at ≤ i → channel (hand_low c node points X) i ≡ channel (hand_low c node points X₀) i
  low_read = read 0 (λ i l. F.slot.low.left i l)

  pub high_read : (i : ℕ) → at ≤ i → channel (hand_high c node points X) i ≡ channel (hand_high c node points X₀) i
  high_read = read 1 (λ i l. F.slot.high.left i l)

-- ---- the slot of two nodes' box
module _ (c a b : ℕ) (points : List (List Float)) (X₀ : List (List (List Float))) where
  -- in each channel the lower end of both, and the upper
  abbrev pub Low : Float → ℕ → Float → Type 0
  Low v i x = x ≡ least (channel (hand_low c a points X₀) i) (channel (hand_low c b points X₀) i)

  abbrev pub High : Float → ℕ → Float → Type 0
  High v i x = x ≡ greatest (channel (hand_high c a points X₀) i) (channel (hand_high c b points X₀) i)

  abbrev met : List (List Float)
  met = joined least (hand_low c a points X₀) (hand_low c b points X₀) ∷ joined greatest (hand_high c a points X₀) (hand_high c b points X₀) ∷ []

  -- once it is written as far as the tree's channels
  pub slot_met : (k d j at : ℕ) (X : List (List (List Float))) → k ≤ branch_limit → PaddedTable d points → PaddedBoxes d X₀ → Lies c k a → Lies c k b → j < branch_limit → d ≤ at → FilledSlot Low High at j X₀ X → (X ≡ set X₀ j met) × PaddedBoxes d X
  slot_met k d j at X few T P u v l m F =
      let la = low_padded c k d a points X₀ few u T P in
      let lb = low_padded c k d b points X₀ few v T P in
      let ha = high_padded c k d a points X₀ few u T P in
      let hb = high_padded c k d b points X₀ few v T P in
      let Q = P.slots j l in
      let e : get_or X j [] ≡ met = pair_of _ _ _ F.slot.two (fill_joined least nought_least d Low at _ _ _ _ (λ v i x h e r. r) m la lb Q.low F.slot.low) (fill_joined greatest nought_greatest d High at _ _ _ _ (λ v i x h e r. r) m ha hb Q.high F.slot.high) in
      let z : X ≡ set X₀ j met = F.others ∙ ap (set X₀ j) e in
      (z, subst (PaddedBoxes d) (sym z) (padded_set d j X₀ met l P (made_ends d met _ _ _ _ la lb ha hb refl)))
