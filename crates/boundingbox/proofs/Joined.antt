-- Two lists of ends joined channel by channel: its length, its entries, and how a loop writes it over the first list. Assumes nothing.
use mathlib.Core.Path.{◌≡◌, refl, ap, ◌∙◌}
use mathlib.Core.List.{List, [], ◌∷◌, ◌++◌, append-nil}
use Prim.Native.Nat.{ℕ, zero, suc, ◌+◌, ◌<◌}
use native.Mathlib.Nat.{le_of_eq, le_of_suc-le-suc, not-suc-le-zero}
use native.Mathlib.Numerals.{add-one}
use lib.ListN.{length, take, drop, set, drop_of_length-le}
use lib.Seq.{take_all}
use lib.Ieee.{Float, nan}
use Rattle.boundingbox.specs.Ends.{channel, joined}

module _ (f : Float → Float → Float) where
  pub joined_length : (xs ys : List Float) → length (joined f xs ys) ≡ length xs
  unfolding joined
  joined_length [] ys = refl
  joined_length (x ∷ xs) [] = ap suc (joined_length xs [])
  joined_length (x ∷ xs) (y ∷ ys) = ap suc (joined_length xs ys)

  pub joined_channel : (xs ys : List Float) (i : ℕ) → i < length xs → channel (joined f xs ys) i ≡ f (channel xs i) (channel ys i)
  unfolding joined
  joined_channel [] ys i h = absurd (not-suc-le-zero h)
  joined_channel (x ∷ xs) [] zero h = refl
  joined_channel (x ∷ xs) [] (suc i) h = joined_channel xs [] i (le_of_suc-le-suc h)
  joined_channel (x ∷ xs) (y ∷ ys) zero h = refl
  joined_channel (x ∷ xs) (y ∷ ys) (suc i) h = joined_channel xs ys i (le_of_suc-le-suc h)

  pub joined_same : ((x : Float) → f x x ≡ x) → (xs : List Float) → joined f xs xs ≡ xs
  unfolding joined
  joined_same h [] = refl
  joined_same h (x ∷ xs) = rw (h x, joined_same h xs)

  -- xs with the joined list written over its entries below i, as a loop writes it
  abbrev pub written : List Float → List Float → ℕ → List Float
  written xs ys i = take i (joined f xs ys) ++ drop i xs

  written_suc : (xs ys : List Float) (i : ℕ) → i < length xs → set (written xs ys i) i (f (channel (written xs ys i) i) (channel ys i)) ≡ written xs ys (suc i)
  unfolding joined
  written_suc [] ys i h = absurd (not-suc-le-zero h)
  written_suc (x ∷ xs) [] zero h = refl
  written_suc (x ∷ xs) [] (suc i) h = ap (λ (l : List Float). f x nan ∷ l) (written_suc xs [] i (le_of_suc-le-suc h))
  written_suc (x ∷ xs) (y ∷ ys) zero h = refl
  written_suc (x ∷ xs) (y ∷ ys) (suc i) h = ap (λ (l : List Float). f x y ∷ l) (written_suc xs ys i (le_of_suc-le-suc h))

  pub written_turn : (xs ys : List Float) (i : ℕ) (moved : List Float) (r : Float) → i < length xs → moved ≡ written xs ys i → r ≡ f (channel moved i) (channel ys i) → set moved i r ≡ written xs ys (i + 1)
  written_turn xs ys i moved r h e p = rw (p, e, add-one) (written_suc xs ys i h)

  pub written_all : (xs ys : List Float) (n : ℕ) → length xs ≡ n → written xs ys n ≡ joined f xs ys
  written_all xs ys n h = rw (take_all n (joined f xs ys) (le_of_eq (joined_length xs ys ∙ h)), drop_of_length-le xs (le_of_eq h), append-nil)
