-- The cap on a coordinate's size loses nothing: up to 2^20 it changes no size, and what is larger is no coordinate with or without it. Assumes nothing.
use mathlib.Core.Path.{◌≡◌, refl, sym, ap, ◌∙◌, subst}
use mathlib.Core.Bool.{true, false, true≢false}
use Prim.Native.Nat.{ℕ, ◌+◌, ◌-◌, ◌*◌, ◌^◌, ◌≤◌, ◌<◌, min}
use native.Mathlib.Nat.{mul-one, zero-mul}
use native.Mathlib.Omega.{arith}
use borrow.Author.Tests.{lt-leb, le-leb, ne_eqb}
use lib.IntN.{pos, negsuc}
use lib.Dec.{T, leb}
use lib.Ieee.{Float, nan, inf, fin, binary32, of_int, neg, fits}
use lib.Ieee.Bits.{is_true}
use lib.Ieee.Exact.{HasValue}
use lib.Ieee.Fits.{of_int-fits, neg-fits}
use Rattle.readings.specs.Coordinate.{is_coordinate, rank}
use Rattle.readings.proofs.Wholes.{of_int_value}
use Rattle.readings.proofs.Ranks.{is_coordinate_lem}
use Rattle.text.specs.Coordinates.{capped}
use Rattle.text.specs.Cap.{CapLosesNothing}

-- ---- by its value: x is a whole number n that is not negative
size_is : (m k n d : ℕ) → d ≡ 1 → m * 2 ^ k * 1 ≡ n * d → m * 2 ^ k ≡ n
size_is m k n d e v = sym (mul-one (m * 2 ^ k)) ∙ v ∙ ap (λ (z : ℕ). n * z) e ∙ mul-one n

above : (x : Float) (n : ℕ) → HasValue x false n 1 → 1048576 < n → (is_coordinate x ≡ false) × (is_coordinate (neg x) ≡ false)
unfolding is_coordinate neg
above nan n v h = absurd v
above (inf s) n v h = absurd v
above (fin s m (negsuc k)) n v h = (refl, refl)
above (fin s m (pos k)) n v h =
    let e = size_is m k n 1 refl v.1 in
    let l : leb (m * 2 ^ k) 1048576 ≡ false = rw e (lt-leb n 1048576 h) in
    (rw l, rw l)

ranked : (x : Float) (n : ℕ) → HasValue x false n 1 → T (is_coordinate x) → rank x ≡ 1048576 + n
unfolding is_coordinate rank
ranked nan n v t = absurd v
ranked (inf s) n v t = absurd v
ranked (fin s m (negsuc k)) n v t = absurd t
ranked (fin true m (pos k)) n v t = absurd (true≢false v.0)
ranked (fin false m (pos k)) n v t = rw (size_is m k n 1 refl v.1)

minus : (x : Float) (n : ℕ) → HasValue x false n 1 → T (is_coordinate x) → 0 < n → n ≤ 1048576 → (is_coordinate (neg x) ≡ true) × (rank (neg x) ≡ 1048576 - n)
unfolding is_coordinate rank neg
minus nan n v t p h = absurd v
minus (inf s) n v t p h = absurd v
minus (fin s m (negsuc k)) n v t p h = absurd t
minus (fin true m (pos k)) n v t p h = absurd (true≢false v.0)
minus (fin false m (pos k)) n v t p h =
    let e = size_is m k n 1 refl v.1 in
    let z : m ≡ 0 → ⊥ = λ q. none (sym e ∙ ap (λ (i : ℕ). i * 2 ^ k) q ∙ zero-mul (2 ^ k)) in
    (rw (e, le-leb n 1048576 h, ne_eqb m 0 z), rw e)
  where
    none : n ≡ 0 → ⊥
    none q = omega arith

-- ---- the cap
size : (v : ℕ) → min v 2097152 ≤ 2 ^ 24
size v = omega arith

capped_value : (v : ℕ) → HasValue (capped v) false (min v 2097152) 1
unfolding capped
capped_value v = of_int_value binary32 (min v 2097152) (size v)

exactly : (v : ℕ) → v ≤ 1048576 → capped v ≡ of_int binary32 (pos v)
unfolding capped
exactly v h = let e : min v 2097152 ≡ v = omega arith in rw e

module _ (v : ℕ) (h : v ≤ 1048576) where
  is : T (is_coordinate (capped v))
  is = subst (λ (x : Float). T (is_coordinate x)) (sym (exactly v h)) (is_coordinate_lem (pos v) h)

  holds : HasValue (capped v) false v 1
  holds = subst (λ (x : Float). HasValue x false v 1) (sym (exactly v h)) (of_int_value binary32 v (omega arith))

an_f32 : (v : ℕ) → T (fits binary32 (capped v))
unfolding capped
an_f32 v = of_int-fits binary32 (pos (min v 2097152))

pub cap_loses_nothing : (v : ℕ) → CapLosesNothing v
cap_loses_nothing v = record {
  exact = exactly v;
  is = λ h. (is_true _ (is v h), ranked (capped v) v (holds v h) (is v h));
  is_minus = λ p h. minus (capped v) v (holds v h) (is v h) p h;
  is_none = λ h. above (capped v) (min v 2097152) (capped_value v) (more h);
  is_f32 = (an_f32 v, neg-fits binary32 (capped v) (an_f32 v));
}
  where
    more : 1048576 < v → 1048576 < min v 2097152
    more h = omega arith
