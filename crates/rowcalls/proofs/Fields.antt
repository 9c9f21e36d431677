-- Values stored in a buffer that may be shorter than they are: the first of the buffer are the first of the values. Laws.
use mathlib.Core.Path.{◌≡◌, sym, ap, ◌∙◌}
use mathlib.Core.List.{List, map}
use Prim.Native.Nat.{ℕ, min}
use native.Mathlib.Omega.{arith}
use lib.ListN.{length, take, drop, length-take, length-map}
use lib.Seq.{take_at, sets}
use Rattle.text.proofs.Stores.{sets_front}

module _ {A : Type 0} where
  -- in a buffer of so many places
  pub first_values : (xs : List A) (n m size : ℕ) (l after : List A) → length l ≡ size → m ≡ length xs → n ≡ min m size → after ≡ sets l 0 xs → take n after ≡ take size xs
  first_values xs n m size l after e h k g =
      ap (take n) (g ∙ sets_front l xs) ∙ take_at (take (length l) xs) (drop (length xs) l) n (omega (arith, length-take (length l) xs)) ∙ ap (λ (i : ℕ). take i xs) e

  -- of fields read by f
  pub first_fields : (f : List ℕ → A) (fields : List (List ℕ)) (n m size : ℕ) (l after : List A) → length l ≡ size → m ≡ length fields → n ≡ min m size → after ≡ sets l 0 (map f fields)
      → take n after ≡ take size (map f fields)
  first_fields f fields n m size l after e h k g = first_values (map f fields) n m size l after e (h ∙ sym (length-map fields f)) k g
