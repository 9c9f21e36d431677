-- What both widths of floats share: which floats are NaN, and which patterns are NaN's. Laws.
use mathlib.Core.Path.{◌≡◌, refl, sym, ap, ◌∙◌, subst}
use mathlib.Core.Bool.{Bool, true, false, not}
use Prim.Native.Nat.{ℕ, ◌*◌, ◌%◌, ◌<◌, ◌≤◌}
use borrow.Author.Tests.{le-ltb}
use lib.Dec.{T, lt→ltb}
use lib.Ieee.{Format, Float, nan, inf, fin, ones, hid, top, is_nan, nan_bits, of_bits, to_bits}
use lib.Ieee.Bits.{nan_bits_is, nan_bits_above}

no : {b : Bool} → b ≡ false → T (not b)
no h = subst (λ (a : Bool). T (not a)) (sym h) tt

is_nan_lem : (x : Float) → T (is_nan x) → nan ≡ x
unfolding is_nan
is_nan_lem nan h = refl
is_nan_lem (inf s) h = absurd h
is_nan_lem (fin s m e) h = absurd h

module _ (f : Format) where
  pub nan_pattern : (x : Float) → is_nan x ≡ true → to_bits f nan ≡ to_bits f x
  nan_pattern x h = ap (to_bits f) (is_nan_lem x (subst T (sym h) tt))

  pub above : (n : ℕ) → ones f * hid f < n % top f → nan ≡ of_bits f n
  above n h = is_nan_lem (of_bits f n) (subst T (sym (nan_bits_above f n) ∙ nan_bits_is f n) (lt→ltb (ones f * hid f) (n % top f) h))

  pub within : (n : ℕ) → n % top f ≤ ones f * hid f → T (not (nan_bits f n))
  within n h = no (nan_bits_above f n ∙ le-ltb (ones f * hid f) (n % top f) h)
