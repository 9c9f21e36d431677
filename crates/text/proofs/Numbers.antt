-- The numbers and words of a text: the digits one by one, and which lists of digits are in form. Assumes nothing.
use mathlib.Core.Path.{◌≡◌, refl}
use mathlib.Core.Bool.{Bool, true, false, cond, not, ◌||◌}
use mathlib.Core.List.{List}
use Prim.Native.Nat.{ℕ, suc, ◌+◌, ◌*◌, ◌^◌, ◌≤◌, ◌<◌}
use native.Mathlib.Nat.{pow-suc, pow-le-pow_right, mul-le-mul_right, suc-mul}
use native.Mathlib.Numerals.{add-one}
use native.Mathlib.Omega.{arith}
use borrow.Author.Tests.{lt-ltb, le-ltb, le-leb, lt-leb, eq-eqb, ne_eqb, eqb-false}
use lib.ListN.{length, get_or, drop}
use lib.Dec.{eqb, lit<, lit≤}
use Rattle.std.specs.Prelude.{Some, None}
use Rattle.text.specs.Numbers.{digit_value, digits_from, decimal_of, word_of}
use Rattle.text.proofs.Lists.{here, past}

-- ---- the digits of a number in base b: v is read, i bytes passed

pub record Digits (b : ℕ) (s : List ℕ) (v i : ℕ) : Type 0 where
  pub within : i ≤ length s
  pub small : v < b ^ i
  pub same : digits_from b v (drop i s) ≡ digits_from b 0 s

-- one more digit keeps the number below the base's power
pub more : (b v i d : ℕ) → v < b ^ i → d < b → v * b + d < b ^ (i + 1)
more b v i d h l = rw (add-one, pow-suc b i) (go (v * b) (suc v * b) (b ^ i * b) (mul-le-mul_right b h) (suc-mul v b))
  where
    go : (x y z : ℕ) → y ≤ z → y ≡ x + b → x + d < z
    go x y z p q = omega arith

module _ {b : ℕ} {s : List ℕ} {v i d : ℕ} (w : Digits b s v i) (h : i < length s) (e : d ≡ digit_value (get_or s i 0)) where
  pub digit_bad : b ≤ d → None ≡ digits_from b 0 s
  unfolding digits_from
  digit_bad l = rw (here s i h, ← e, le-ltb _ _ l) at w.same

  pub digit_step : d < b → Digits b s (v * b + d) (i + 1)
  unfolding digits_from
  digit_step l = record {
    within = omega arith;
    small = more _ _ _ _ w.small l;
    same = rw (here s i h, ← e, lt-ltb _ _ l) at w.same;
  }

pub digit_end : {b : ℕ} {s : List ℕ} {v i : ℕ} → Digits b s v i → length s ≤ i → Some v ≡ digits_from b 0 s
unfolding digits_from
digit_end {b} {s} {v} {i} w h = rw (past s i h) at w.same

pub fit : {b : ℕ} {s : List ℕ} {v i : ℕ} → Digits b s v i → 0 < b → b ^ length s ≤ 2 ^ 64 → v < 2 ^ 64
fit {b} {s} {v} {i} w p l = let g : b ^ i ≤ b ^ length s = pow-le-pow_right p w.within in omega arith

module _ (s : List ℕ) where
  pub number_none : length s ≡ 0 → None ≡ decimal_of s
  unfolding decimal_of
  number_none e = rw e

  pub number_long : 9 < length s → None ≡ decimal_of s
  unfolding decimal_of
  number_long h = let g : 1 ≤ length s = omega arith in rw (le-leb _ _ g, lt-leb _ _ h)

  pub number_zero : 1 < length s → length s ≤ 9 → get_or s 0 0 ≡ 48 → None ≡ decimal_of s
  unfolding decimal_of
  number_zero h l e =
      let g : 1 ≤ length s = omega arith in
      let n : length s ≡ 1 → ⊥ = λ q. omega arith in
      rw (le-leb _ _ g, le-leb _ _ l, ne_eqb _ _ n, e)

  pub number_more : 1 ≤ length s → length s ≤ 9 → (get_or s 0 0 ≡ 48 → length s ≡ 1) → decimal_of s ≡ digits_from 10 0 s
  unfolding decimal_of
  number_more h l n = rw (le-leb _ _ h, le-leb _ _ l) (go (eqb (length s) 1) refl)
    where
      go : (t : Bool) → eqb (length s) 1 ≡ t → cond (t || not (eqb (get_or s 0 0) 48)) (digits_from 10 0 s) None ≡ digits_from 10 0 s
      go true e = refl
      go false e = rw (ne_eqb _ _ (λ q. eqb-false (length s) 1 e (n q)))

  pub word_is : length s ≡ 16 → word_of s ≡ digits_from 16 0 s
  unfolding word_of
  word_is e = rw (eq-eqb _ _ e)

-- ---- so few digits that the number has 64 bits
pub ten_fits : (n : ℕ) → n ≤ 9 → 10 ^ n ≤ 2 ^ 64
ten_fits n h = let g : 10 ^ n ≤ 10 ^ 9 = pow-le-pow_right (lit< tt) h in omega arith

pub sixteen_fits : (n : ℕ) → n ≡ 16 → 16 ^ n ≤ 2 ^ 64
sixteen_fits n e = rw e (lit≤ tt)

pub eight_fit : (n : ℕ) → n ≡ 8 → 16 ^ n ≤ 2 ^ 64
eight_fit n e = rw e (lit≤ tt)
