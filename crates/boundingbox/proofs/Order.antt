-- The lesser and the greater of two ends, and what growing a side keeps: for every float, and by numbers that give the floats' order. Assumes nothing.
use mathlib.Core.Path.{◌≡◌, refl, sym, ◌∙◌, subst}
use mathlib.Core.Logic.{◌⊎◌, inl, inr, ⊎_elim}
use mathlib.Core.Bool.{Bool, true, false, not, ◌&&◌, cond, false≢true, true≢false}
use Prim.Native.Nat.{ℕ, ◌*◌, ◌≤◌, ◌<◌, min, max}
use native.Mathlib.Nat.{le_of_lt}
use native.Mathlib.Omega.{arith}
use borrow.Author.Tests.{ltb-true, ltb-false, le-ltb}
use lib.Dec.{T, leb, ltb, leb→le, le→leb}
use lib.Ieee.{Float, nan, inf, fin, up, down, lt, le, below}
use Rattle.readings.specs.Coordinate.{is_coordinate, rank}
use Rattle.readings.proofs.Tests.{leb_yes, leb_no}
use Rattle.readings.proofs.Ranks.{lt_rank, le_rank}
use Rattle.boundingbox.specs.Ends.{least, greatest}
use Rattle.boundingbox.specs.Contained.{stays}

-- ---- every float: below is never both ways
below_asym : (s t : Bool) (a b : ℕ) → below s a t b ≡ true → below t b s a ≡ false
below_asym false false a b h = le-ltb b a (le_of_lt (ltb-true a b h))
below_asym false true a b h = absurd (false≢true h)
below_asym true false a b h = refl
below_asym true true a b h = le-ltb a b (le_of_lt (ltb-true b a h))

pub lt_asym : (x y : Float) → lt x y ≡ true → lt y x ≡ false
unfolding lt
lt_asym nan y h = absurd (false≢true h)
lt_asym (inf s) nan h = absurd (false≢true h)
lt_asym (inf true) (inf true) h = absurd (false≢true h)
lt_asym (inf true) (inf false) h = refl
lt_asym (inf false) (inf t) h = absurd (false≢true h)
lt_asym (inf true) (fin t n d) h = refl
lt_asym (inf false) (fin t n d) h = absurd (false≢true h)
lt_asym (fin s m e) nan h = absurd (false≢true h)
lt_asym (fin s m e) (inf true) h = absurd (false≢true h)
lt_asym (fin s m e) (inf false) h = refl
lt_asym (fin s m e) (fin t n d) h = below_asym s t (m * up e * down d) (n * up d * down e) h

pub lt_self : (x : Float) → lt x x ≡ false
lt_self x = go (lt x x) refl
  where
    go : (b : Bool) → lt x x ≡ b → b ≡ false
    go true h = absurd (true≢false (sym h ∙ lt_asym x x h))
    go false h = refl

-- a property that both have
pub least_keeps : (P : Float → Type 0) (x y : Float) → P x → P y → P (least x y)
unfolding least
least_keeps P x y p q = go (lt x y)
  where
    go : (b : Bool) → P (cond b x y)
    go true = p
    go false = q

pub greatest_keeps : (P : Float → Type 0) (x y : Float) → P x → P y → P (greatest x y)
unfolding greatest
greatest_keeps P x y p q = go (lt x y)
  where
    go : (b : Bool) → P (cond b y x)
    go true = q
    go false = p

module _ (x y : Float) where
  pub least_one : (least x y ≡ x) ⊎ (least x y ≡ y)
  least_one = least_keeps (λ z. (z ≡ x) ⊎ (z ≡ y)) x y (inl refl) (inr refl)

  pub greatest_one : (greatest x y ≡ x) ⊎ (greatest x y ≡ y)
  greatest_one = greatest_keeps (λ z. (z ≡ x) ⊎ (z ≡ y)) x y (inl refl) (inr refl)

  -- y is not below the lesser, nor is the greater below y
  pub least_new : lt y (least x y) ≡ false
  unfolding least
  least_new = go (lt x y) refl
    where
      go : (b : Bool) → lt x y ≡ b → lt y (cond b x y) ≡ false
      go true h = lt_asym x y h
      go false h = lt_self y

  pub greatest_new : lt (greatest x y) y ≡ false
  unfolding greatest
  greatest_new = go (lt x y) refl
    where
      go : (b : Bool) → lt x y ≡ b → lt (cond b y x) y ≡ false
      go true h = lt_self y
      go false h = h

-- an end that nothing passes stays
pub greatest_stays : (x y : Float) → lt x y ≡ false → greatest x y ≡ x
unfolding greatest
greatest_stays x y h = rw h

pub least_same : (x : Float) → least x x ≡ x
least_same x = least_keeps (λ z. z ≡ x) x x refl refl

pub greatest_same : (x : Float) → greatest x x ≡ x
greatest_same x = greatest_keeps (λ z. z ≡ x) x x refl refl

-- ---- numbers that give the order of the floats that P holds of
pub record Places (P : Float → Type 0) (place : Float → ℕ) : Type 0 where
  pub by_lt : (x y : Float) → P x → P y → lt x y ≡ ltb (place x) (place y)
  pub by_le : (x y : Float) → P x → P y → le x y ≡ leb (place x) (place y)

-- coordinates by their ranks, and finite floats by their keys
pub by_rank : Places (λ x. T (is_coordinate x)) rank
by_rank = record { by_lt = λ x y p q. lt_rank x y p q; by_le = λ x y p q. le_rank x y p q }

module _ (P : Float → Type 0) (place : Float → ℕ) (K : Places P place) where
  pub lt_places : (x y : Float) → P x → P y → lt x y ≡ true → place x < place y
  lt_places x y p q h = ltb-true (place x) (place y) (sym (K.by_lt x y p q) ∙ h)

  pub not_lt_places : (x y : Float) → P x → P y → lt x y ≡ false → place y ≤ place x
  not_lt_places x y p q h = ltb-false (place x) (place y) (sym (K.by_lt x y p q) ∙ h)

  pub le_places : (x y : Float) → P x → P y → T (le x y) → place x ≤ place y
  le_places x y p q t = leb→le (place x) (place y) (subst T (K.by_le x y p q) t)

  pub places_le : (x y : Float) → P x → P y → place x ≤ place y → T (le x y)
  places_le x y p q h = subst T (sym (K.by_le x y p q)) (le→leb (place x) (place y) h)

  pub least_place : (x y : Float) → P x → P y → place (least x y) ≡ min (place x) (place y)
  unfolding least
  least_place x y p q = go (lt x y) refl
    where
      left : (a b : ℕ) → a < b → a ≡ min a b
      left a b h = omega arith

      right : (a b : ℕ) → b ≤ a → b ≡ min a b
      right a b h = omega arith

      go : (b : Bool) → lt x y ≡ b → place (cond b x y) ≡ min (place x) (place y)
      go true h = left (place x) (place y) (lt_places x y p q h)
      go false h = right (place x) (place y) (not_lt_places x y p q h)

  pub greatest_place : (x y : Float) → P x → P y → place (greatest x y) ≡ max (place x) (place y)
  unfolding greatest
  greatest_place x y p q = go (lt x y) refl
    where
      right : (a b : ℕ) → a < b → b ≡ max a b
      right a b h = omega arith

      left : (a b : ℕ) → b ≤ a → a ≡ max a b
      left a b h = omega arith

      go : (b : Bool) → lt x y ≡ b → place (cond b y x) ≡ max (place x) (place y)
      go true h = right (place x) (place y) (lt_places x y p q h)
      go false h = left (place x) (place y) (not_lt_places x y p q h)

  -- the lesser is at or below what one of the two is at or below, so below both; the greater likewise
  module _ (x y z : Float) (p : P x) (q : P y) (r : P z) where
    pub least_le : T (le x z) ⊎ T (le y z) → T (le (least x y) z)
    least_le w =
        places_le (least x y) z (least_keeps P x y p q) r
        (rw (least_place x y p q) (⊎_elim (λ (t : T (le x z)). left (place x) (place y) (place z) (le_places x z p r t)) (λ (t : T (le y z)). right (place x) (place y) (place z) (le_places y z q r t)) w))
      where
        left : (a b c : ℕ) → a ≤ c → min a b ≤ c
        left a b c h = omega arith

        right : (a b c : ℕ) → b ≤ c → min a b ≤ c
        right a b c h = omega arith

    pub greatest_ge : T (le z x) ⊎ T (le z y) → T (le z (greatest x y))
    greatest_ge w =
        places_le z (greatest x y) r (greatest_keeps P x y p q)
        (rw (greatest_place x y p q) (⊎_elim (λ (t : T (le z x)). left (place x) (place y) (place z) (le_places z x r p t)) (λ (t : T (le z y)). right (place x) (place y) (place z) (le_places z y r q t)) w))
      where
        left : (a b c : ℕ) → c ≤ a → c ≤ max a b
        left a b c h = omega arith

        right : (a b c : ℕ) → c ≤ b → c ≤ max a b
        right a b c h = omega arith

  -- a side stays where the new one lies within it
  pub stays_places : (lo hi a b : Float) → P lo → P hi → P a → P b → stays lo hi a b ≡ (leb (place lo) (place a) && leb (place b) (place hi))
  unfolding stays
  stays_places lo hi a b p q r s = rw (K.by_lt a lo r p, K.by_lt hi b q s, not_less (place a) (place lo), not_less (place hi) (place b))
    where
      go : (m n : ℕ) (c : Bool) → ltb m n ≡ c → not c ≡ leb n m
      go m n true h = sym (leb_no (ltb-true m n h))
      go m n false h = sym (leb_yes (ltb-false m n h))

      not_less : (m n : ℕ) → not (ltb m n) ≡ leb n m
      not_less m n = go m n (ltb m n) refl

  -- where a place is one float's only, equal places are equal floats
  module _ (one : (x y : Float) → P x → P y → place x ≡ place y → x ≡ y) where
    pub least_stays : (x y : Float) → P x → P y → lt y x ≡ false → least x y ≡ x
    least_stays x y p q h = one (least x y) x (least_keeps P x y p q) p (least_place x y p q ∙ go (place x) (place y) (not_lt_places y x q p h))
      where
        go : (a b : ℕ) → a ≤ b → min a b ≡ a
        go a b h = omega arith
