-- The coordinates of a text: by the first byte, and the f32 of a coordinate's size. Assumes nothing.
use mathlib.Core.Path.{◌≡◌, refl}
use mathlib.Core.List.{List, [], ◌∷◌}
use Prim.Native.Nat.{ℕ, ◌-◌, ◌<◌, min}
use native.Mathlib.Omega.{arith}
use borrow.Author.Tests.{eq-eqb, ne_eqb}
use lib.ListN.{length, get_or, take, drop}
use lib.IntN.{pos}
use lib.Ieee.{binary32, of_int}
use Rattle.std.specs.Prelude.{option_map}
use Rattle.text.specs.Numbers.{decimal_of}
use Rattle.text.specs.Coordinates.{capped, after_minus, coordinate_of}
use Rattle.text.proofs.Lists.{rest}

module _ (s : List ℕ) where
  pub coordinate_empty : length s < 1 → coordinate_of s ≡ option_map capped (decimal_of s)
  unfolding coordinate_of
  coordinate_empty e = rw (first_past s e)
    where
      first_past : (l : List ℕ) → length l < 1 → get_or l 0 0 ≡ 0
      first_past [] h = refl
      first_past (x ∷ l) h = absurd (omega arith)

  pub coordinate_minus : get_or s 0 0 ≡ 45 → coordinate_of s ≡ after_minus (decimal_of (take (length s - 1) (drop 1 s)))
  unfolding coordinate_of
  coordinate_minus e = rw (eq-eqb _ _ e, rest s 1)

  pub coordinate_plain : (get_or s 0 0 ≡ 45 → ⊥) → coordinate_of s ≡ option_map capped (decimal_of s)
  unfolding coordinate_of
  coordinate_plain e = rw (ne_eqb _ _ e)

pub capped_is : (v m : ℕ) → m ≡ min v 2097152 → of_int binary32 (pos m) ≡ capped v
unfolding capped
capped_is v m e = rw e
