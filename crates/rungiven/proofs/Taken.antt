-- The first entries of a table that may be longer than the list they are read to. Assumes nothing.
use mathlib.Core.Path.{◌≡◌, sym, ap, ◌∙◌}
use mathlib.Core.List.{List, ◌∷◌}
use Prim.Native.Nat.{ℕ, zero, suc, min}
use native.Mathlib.Nat.{zero-min, min-zero, suc-min-suc}
use lib.ListN.{take}
use Rattle.wholetree.specs.Whole.{tab}

take_least : {A : Type 0} (f : ℕ → A) (k m : ℕ) → take k (tab m f) ≡ tab (min m k) f
unfolding tab
take_least f zero m = ap (λ (j : ℕ). tab j f) (sym (min-zero m))
take_least f (suc k) zero = ap (λ (j : ℕ). tab j f) (sym (zero-min (suc k)))
take_least {A} f (suc k) (suc m) = ap {B = List A} (λ l. f 0 ∷ l) (take_least (λ (j : ℕ). f (suc j)) k m) ∙ ap (λ (j : ℕ). tab j f) (sym (suc-min-suc m k))

-- the first k entries of a table of m
pub take_tab : {A : Type 0} (f : ℕ → A) (k m n : ℕ) → n ≡ min m k → take k (tab m f) ≡ tab n f
take_tab f k m n e = take_least f k m ∙ ap (λ (j : ℕ). tab j f) (sym e)
