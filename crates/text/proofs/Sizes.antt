-- How large a number can be: below 10^9; and the bits of an f32: below 2^32. Assumes nothing.
use Rattle.std.specs.Prelude.{is_some, unwrap_or}
use mathlib.Core.Path.{◌≡◌, refl, ap, subst}
use mathlib.Core.List.{List, [], ◌∷◌}
use mathlib.Core.Bool.{Bool, true, false, ◌&&◌, ◌||◌, not, cond, false≢true}
use Prim.Native.Nat.{ℕ, suc, ◌+◌, ◌*◌, ◌^◌, ◌≤◌, ◌<◌}
use native.Mathlib.Nat.{add-zero, zero-add, pow-zero, pow-le-pow_right}
use native.Mathlib.Omega.{arith}
use lib.ListN.{length, get_or}
use lib.Dec.{T, eqb, leb, ltb, lit<, ltb→lt, leb→le, eqb→eq}
use Rattle.std.specs.Prelude.{Option}
use Rattle.std.specs.Prelude.{Some, None}
use Rattle.text.specs.Numbers.{digit_value, digits_from, decimal_of, bits_of}
use Rattle.text.proofs.Numbers.{more}

none_is : {A : Type 0} {v : ℕ} → None ≡ Some v → A
none_is e = absurd (false≢true (ap is_some e))

-- i digits have the number v, and those left make it r
digits_small : (b v i : ℕ) (s : List ℕ) (r : ℕ) → v < b ^ i → digits_from b v s ≡ Some r → r < b ^ (i + length s)
unfolding digits_from
digits_small b v i [] r h e = rw (add-zero i) (subst (λ (z : ℕ). z < b ^ i) (ap (λ (n : Option ℕ). unwrap_or n 0) e) h)
digits_small b v i (x ∷ s) r h e = go (ltb (digit_value x) b) (ltb→lt (digit_value x) b) e (digits_small b (v * b + digit_value x) (i + 1) s r)
  where
    go : (t : Bool) → (T t → digit_value x < b) → cond t (digits_from b (v * b + digit_value x) s) None ≡ Some r
        → (v * b + digit_value x < b ^ (i + 1) → digits_from b (v * b + digit_value x) s ≡ Some r → r < b ^ (i + 1 + length s)) → r < b ^ (i + suc (length s))
    go true l f q = subst (λ (z : ℕ). r < b ^ z) (same (length s)) (q (more b v i (digit_value x) h (l tt)) f)
      where
        same : (n : ℕ) → i + 1 + n ≡ i + suc n
        same n = omega arith
    go false l f q = none_is f

small : (b : ℕ) (s : List ℕ) (r : ℕ) → digits_from b 0 s ≡ Some r → r < b ^ length s
small b s r e = rw (zero-add (length s)) at (digits_small b 0 0 s r (rw (pow-zero b) (omega arith)) e)

pub number_small : (s : List ℕ) (v : ℕ) → decimal_of s ≡ Some v → v < 1000000000
unfolding decimal_of
number_small s v e = go (leb 1 (length s)) (leb (length s) 9) (eqb (length s) 1 || not (eqb (get_or s 0 0) 48)) (leb→le (length s) 9) e
  where
    go : (x y z : Bool) → (T y → length s ≤ 9) → cond (x && y && z) (digits_from 10 0 s) None ≡ Some v → v < 1000000000
    go true true true l f =
        let p : 10 ^ length s ≤ 10 ^ 9 = pow-le-pow_right (lit< tt) (l tt) in
        let q = small 10 s v f in
        omega arith
    go true true false l f = none_is f
    go true false z l f = none_is f
    go false y z l f = none_is f

pub bits_small : (s : List ℕ) → unwrap_or (bits_of s) 0 < 4294967296
unfolding bits_of
bits_small s = go (eqb (length s) 8) (eqb→eq (length s) 8) (digits_from 16 0 s) refl
  where
    go : (t : Bool) → (T t → length s ≡ 8) → (r : Option ℕ) → digits_from 16 0 s ≡ r → unwrap_or (cond t r None) 0 < 4294967296
    go true e (Some v) f = let l : 16 ^ length s ≡ 4294967296 = rw (e tt) in omega (arith, l, small 16 s v f)
    go true e None f = omega arith
    go false e r f = omega arith
