-- Differences by keys, and coordinates by their ranks: order, equality and differences are those of the ranks, and a coordinate is the float of a whole number of size at most 2 ^ 20. Assumes nothing.
use Rattle.std.proofs.Common.{◌≡◌, ℕ, zero, suc, ◌+◌, ◌-◌, ◌*◌, ◌%◌, ◌^◌, ◌<◌, ◌≤◌, Bool, true, false, cond, not, ◌&&◌, T, eqb, ltb, leb, ◌⊎◌, ℤ, pos, negsuc, neg_ℤ, nat_abs, sym, refl, ap, ◌∙◌, subst, inl, inr, zero-le, le_trans, le_of_eq, lt_of_le_of_lt, lt_irrefl, mul-le-mul_right, zero-lt-suc, add-mul, lt_of_mul-lt-mul_right, eq-or-lt_of_le, mul-lt-mul_of_pos_right, mul-pos, one-mul, zero-mul, mul-one, le_of_mul-le-mul_right, div-one, mul_left_comm, arith, le→leb, eqb→eq, leb→le, pow_pos, pow_mono, pow-add}
use native.Mathlib.Nat.{eq_of_mul-eq-mul_right, pow-succ'}
use mathlib.Core.Bool.{false≢true}
use lib.Dec.{not_T}
use lib.Ieee.{Float, nan, inf, fin, Format, binary32, round, sum, sub, lt, le, eq, fits, of_int}
use lib.Ieee.Fits.{and_l, and_r, of_int-fits, fits_widens, and_i, eq→eqb}
use lib.Ieee.Exact.{HasValue}
use lib.Ieee.Scale.{finite, round_same}
use lib.Ieee.Back.{round_whole, whole_unique}
use Rattle.readings.proofs.Values.{sub_mul, sub_value, sum_plus, sum_minus}
use Rattle.readings.specs.Coordinate.{is_coordinate, rank}
use Rattle.readings.proofs.Tests.{yes, leb_iff, leb_yes, leb_no, ltb_iff, eqb_iff}
use Rattle.readings.proofs.Keys.{unit, base, mag, sign, offset, key, value, Num, NotMinusZero, mag_lt, lt_key, le_key, eq_key, key_same, num_of_fits}
use Rattle.readings.proofs.Wholes.{of_int_value}

-- ---- the difference of sizes below B with their signs, over U, as that of the keys B + a and B - a
module _ (f : Format) (B U a b : ℕ) (A : a < B) (C : b < B) where
  pos_pos : B + b ≤ B + a → sum f false a true b U ≡ round f false ((B + a) - (B + b)) U
  pos_pos h = sum_minus f a b U (omega arith) ∙ ap (λ (z : ℕ). round f false z U) go
    where
      go : a - b ≡ (B + a) - (B + b)
      go = omega arith

  pos_neg : sum f false a false b U ≡ round f false ((B + a) - (B - b)) U
  pos_neg = sum_plus f a b U ∙ ap (λ (z : ℕ). round f false z U) go
    where
      go : a + b ≡ (B + a) - (B - b)
      go = omega arith

  neg_pos : B + b ≤ B - a → (a ≡ 0 → ⊥) → sum f true a true b U ≡ round f false ((B - a) - (B + b)) U
  neg_pos h n = absurd (go n)
    where
      go : (a ≡ 0 → ⊥) → ⊥
      go n = omega arith

  neg_neg : B - b ≤ B - a → sum f true a false b U ≡ round f false ((B - a) - (B - b)) U
  unfolding sum
  neg_neg h = split (eq-or-lt_of_le lo)
    where
      lo : a ≤ b
      lo = omega arith

      go : b - a ≡ (B - a) - (B - b)
      go = omega arith

      split : (a ≡ b) ⊎ (a < b) → cond (ltb a b) (round f false (b - a) U) (round f (true && ltb b a) (a - b) U) ≡ round f false ((B - a) - (B - b)) U
      split (inr l) = ap (λ (z : Bool). cond z (round f false (b - a) U) (round f (true && ltb b a) (a - b) U)) (leb_yes l) ∙ ap (λ (z : ℕ). round f false z U) go
      split (inl e) =
          ap (λ (z : Bool). cond z (round f false (b - a) U) (round f (true && ltb b a) (a - b) U)) (leb_no (g1 e))
          ∙ ap (λ (z : Bool). round f z (a - b) U) (leb_no (g2 e))
          ∙ ap (λ (z : ℕ). round f false z U) (g3 e)
        where
          g1 : a ≡ b → b < suc a
          g1 e = omega arith

          g2 : a ≡ b → a < suc b
          g2 e = omega arith

          g3 : a ≡ b → a - b ≡ (B - a) - (B - b)
          g3 e = omega arith

sum_key : (f : Format) (s t : Bool) (a b : ℕ) → a < base → b < base → offset t b ≤ offset s a → (s ≡ true → a ≡ 0 → ⊥) → sum f s a (not t) b unit ≡ round f false (offset s a - offset t b) unit
sum_key f false false a b A C h n = pos_pos f base unit a b A C h
sum_key f false true a b A C h n = pos_neg f base unit a b A C
sum_key f true false a b A C h n = neg_pos f base unit a b A C h (n refl)
sum_key f true true a b A C h n = neg_neg f base unit a b A C h

-- the difference of two values is that of their keys, rounded once, where it is not negative and x is not -0
sub_key : (f : Format) (x y : Float) → Num x → Num y → (sign x ≡ true → mag x ≡ 0 → ⊥) → key y ≤ key x → sub f x y ≡ round f false (key x - key y) unit
unfolding key
sub_key f x y p q n h =
    sub_value f x y (sign x) (sign y) (mag x) (mag y) unit (pow_pos 1074) (value x p) (value y q)
    ∙ sum_key f (sign x) (sign y) (mag x) (mag y) (mag_lt x p) (mag_lt y q) h n

-- ---- coordinates
pub coordinate_finite : (x : Float) → T (is_coordinate x) → T (finite x)
unfolding is_coordinate
coordinate_finite nan t = absurd t
coordinate_finite (inf s) t = absurd t
coordinate_finite (fin s m e) t = tt

bounds : (s : Bool) (m k : ℕ) → T (is_coordinate (fin s m (pos k))) → m * 2 ^ k ≤ 1048576
unfolding is_coordinate
bounds s m k t = leb→le (m * 2 ^ k) 1048576 (and_l (leb (m * 2 ^ k) 1048576) (not (s && eqb m 0)) t)

-- a coordinate has a key
pub coordinate_num : (x : Float) → T (is_coordinate x) → Num x
unfolding is_coordinate
coordinate_num nan t = absurd t
coordinate_num (inf s) t = absurd t
coordinate_num (fin s m (negsuc k)) t = absurd t
coordinate_num (fin s m (pos k)) t = (pow_pos 1074, lt_of_le_of_lt (bounds s m k t) (leb→le (suc 1048576) (2 ^ 1024 * 1) tt))

-- and is not minus zero
pub coordinate_not_minus_zero : (x : Float) → T (is_coordinate x) → NotMinusZero x
unfolding is_coordinate mag
coordinate_not_minus_zero nan t e z = absurd t
coordinate_not_minus_zero (inf s) t e z = absurd t
coordinate_not_minus_zero (fin s m (negsuc k)) t e z = absurd t
coordinate_not_minus_zero (fin false m (pos k)) t e z = absurd (false≢true e)
coordinate_not_minus_zero (fin true zero (pos k)) t e z = absurd (and_r (leb (0 * 2 ^ k) 1048576) false t)
coordinate_not_minus_zero (fin true (suc m) (pos k)) t e z = lt_irrefl 0 (subst (λ (i : ℕ). 0 < i) (sym (div-one (suc m * 2 ^ k * 2 ^ 1074)) ∙ z) (mul-pos (mul-pos (zero-lt-suc m) (pow_pos k)) (pow_pos 1074)))

mag_whole : (s : Bool) (m k : ℕ) → mag (fin s m (pos k)) ≡ m * 2 ^ k * unit
unfolding mag
mag_whole s m k = div-one (m * 2 ^ k * 2 ^ 1074)

shifted_pos : (B K c C U : ℕ) → C ≡ c * U → B + C + K * U ≡ B + (K + c) * U
shifted_pos B K c C U e = ap (λ (z : ℕ). B + z + K * U) e ∙ go B (K * U) (c * U) ∙ ap (λ (z : ℕ). B + z) (sym (add-mul K c U))
  where
    go : (B k c : ℕ) → B + c + k ≡ B + (k + c)
    go B k c = omega arith

shifted_neg : (B K c C U : ℕ) → C ≡ c * U → c ≤ K → K * U ≤ B → B - C + K * U ≡ B + (K - c) * U
shifted_neg B K c C U e h l = ap (λ (z : ℕ). B - z + K * U) e ∙ go B (K * U) (c * U) (mul-le-mul_right U h) l ∙ ap (λ (z : ℕ). B + z) (sym (sub_mul K c U))
  where
    go : (B k c : ℕ) → c ≤ k → k ≤ B → B - c + k ≡ B + (k - c)
    go B k c h l = omega arith

room : 1048576 * unit ≤ base
room = le_trans (le_of_eq (sym (pow-add 2 20 1074))) (pow_mono (leb→le 1094 2098 tt))

-- its key, by its rank
pub coordinate_key : (x : Float) → T (is_coordinate x) → key x + 1048576 * unit ≡ base + rank x * unit
unfolding key rank is_coordinate
coordinate_key nan t = absurd t
coordinate_key (inf s) t = absurd t
coordinate_key (fin s m (negsuc k)) t = absurd t
coordinate_key (fin false m (pos k)) t = shifted_pos base 1048576 (m * 2 ^ k) (mag (fin false m (pos k))) unit (mag_whole false m k)
coordinate_key (fin true m (pos k)) t = shifted_neg base 1048576 (m * 2 ^ k) (mag (fin true m (pos k))) unit (mag_whole true m k) (bounds true m k t) room

-- a rank is at most 2 ^ 21
pub rank_le : (x : Float) → T (is_coordinate x) → rank x ≤ 2097152
unfolding rank is_coordinate
rank_le nan t = zero-le
rank_le (inf s) t = zero-le
rank_le (fin s m (negsuc k)) t = zero-le
rank_le (fin false m (pos k)) t = go (m * 2 ^ k) (bounds false m k t)
  where
    go : (c : ℕ) → c ≤ 1048576 → 1048576 + c ≤ 2097152
    go c h = omega arith
rank_le (fin true m (pos k)) t = go (m * 2 ^ k)
  where
    go : (c : ℕ) → 1048576 - c ≤ 2097152
    go c = omega arith

-- two numbers that stand a and b units from one place
module _ (p q K B a b U : ℕ) (u : 0 < U) (e : p + K ≡ B + a * U) (f : q + K ≡ B + b * U) where
  units_lt : ltb p q ≡ ltb a b
  units_lt = ltb_iff p q a b (λ h. lt_of_mul-lt-mul_right U (fwd h)) (λ h. bwd (mul-lt-mul_of_pos_right h u))
    where
      fwd : p < q → a * U < b * U
      fwd h = omega arith

      bwd : a * U < b * U → p < q
      bwd h = omega arith

  units_le : leb p q ≡ leb a b
  units_le = leb_iff p q a b (λ h. le_of_mul-le-mul_right (fwd h) u) (λ h. bwd (mul-le-mul_right U h))
    where
      fwd : p ≤ q → a * U ≤ b * U
      fwd h = omega arith

      bwd : a * U ≤ b * U → p ≤ q
      bwd h = omega arith

  units_eq : eqb p q ≡ eqb a b
  units_eq = eqb_iff p q a b (λ h. eq_of_mul-eq-mul_right U u a b (fwd h)) (λ h. bwd (ap (λ (z : ℕ). z * U) h))
    where
      fwd : p ≡ q → a * U ≡ b * U
      fwd h = omega arith

      bwd : a * U ≡ b * U → p ≡ q
      bwd h = omega arith

  units_sub : (p - q) * 1 ≡ (a - b) * U
  units_sub = go ∙ sym (sub_mul a b U)
    where
      go : (p - q) * 1 ≡ a * U - b * U
      go = omega arith

-- the keys of two coordinates compare as their ranks do
key_leb : (x y : Float) → T (is_coordinate x) → T (is_coordinate y) → leb (key x) (key y) ≡ leb (rank x) (rank y)
key_leb x y r t = units_le (key x) (key y) (1048576 * unit) base (rank x) (rank y) unit (pow_pos 1074) (coordinate_key x r) (coordinate_key y t)

key_eqb : (x y : Float) → T (is_coordinate x) → T (is_coordinate y) → eqb (key x) (key y) ≡ eqb (rank x) (rank y)
key_eqb x y r t = units_eq (key x) (key y) (1048576 * unit) base (rank x) (rank y) unit (pow_pos 1074) (coordinate_key x r) (coordinate_key y t)

module _ (x y : Float) (r : T (is_coordinate x)) (t : T (is_coordinate y)) where
  -- `<`, `<=` and `==` of two coordinates are those of their ranks
  pub lt_rank : lt x y ≡ ltb (rank x) (rank y)
  lt_rank = lt_key x y (coordinate_num x r) (coordinate_num y t) ∙ units_lt (key x) (key y) (1048576 * unit) base (rank x) (rank y) unit (pow_pos 1074) (coordinate_key x r) (coordinate_key y t)

  pub le_rank : le x y ≡ leb (rank x) (rank y)
  le_rank = le_key x y (coordinate_num x r) (coordinate_num y t) ∙ key_leb x y r t

  pub eq_rank : eq x y ≡ eqb (rank x) (rank y)
  eq_rank = eq_key x y (coordinate_num x r) (coordinate_num y t) ∙ key_eqb x y r t

  -- their difference is exact
  pub sub_rank : rank y ≤ rank x → sub binary32 x y ≡ of_int binary32 (pos (rank x - rank y))
  unfolding of_int
  sub_rank h =
      sub_key binary32 x y (coordinate_num x r) (coordinate_num y t) (coordinate_not_minus_zero x r) (leb→le (key y) (key x) (yes (key_leb y x t r ∙ leb_yes h)))
      ∙ round_same binary32 false (key x - key y) unit (rank x - rank y) 1 (pow_pos 1074) (zero-lt-suc 0) (units_sub (key x) (key y) (1048576 * unit) base (rank x) (rank y) unit (pow_pos 1074) (coordinate_key x r) (coordinate_key y t))

  -- a coordinate is known by its rank
  pub rank_same : T (fits binary32 x) → T (fits binary32 y) → rank x ≡ rank y → x ≡ y
  rank_same F G e =
      key_same x y (fits_widens x F) (fits_widens y G) (coordinate_finite x r) (coordinate_finite y t) (coordinate_not_minus_zero x r) (coordinate_not_minus_zero y t)
      (eqb→eq (key x) (key y) (subst T (sym (key_eqb x y r t)) (eq→eqb e)))

  -- so two that are `==` are one
  pub eq_same : T (fits binary32 x) → T (fits binary32 y) → eq x y ≡ true → x ≡ y
  eq_same F G e = rank_same F G (eqb→eq (rank x) (rank y) (yes (sym eq_rank ∙ e)))

-- ---- a coordinate is the float of a whole number of size at most 2 ^ 20
unfoldable pub whole_of : Float → ℤ
whole_of nan = pos 0
whole_of (inf s) = pos 0
whole_of (fin s m (negsuc k)) = pos 0
whole_of (fin false m (pos k)) = pos (m * 2 ^ k)
whole_of (fin true m (pos k)) = neg_ℤ (pos (m * 2 ^ k))

signed : (x : Float) (n : ℕ) → T (fits binary32 x) → n ≤ 2 ^ 24 → HasValue x true n 1 → 0 < n → x ≡ of_int binary32 (neg_ℤ (pos n))
unfolding of_int
signed x zero f h v p = absurd (lt_irrefl 0 p)
signed x (suc n) f h v p = whole_unique binary32 x (round binary32 true (suc n) 1) true (suc n) f (of_int-fits binary32 (negsuc n)) v (round_whole binary32 true (suc n) h)

-- it is the float of its whole number
pub coordinate_is : (x : Float) → T (fits binary32 x) → T (is_coordinate x) → x ≡ of_int binary32 (whole_of x)
unfolding whole_of is_coordinate
coordinate_is nan f t = absurd t
coordinate_is (inf s) f t = absurd t
coordinate_is (fin s m (negsuc k)) f t = absurd t
coordinate_is (fin false m (pos k)) f t =
    let h : m * 2 ^ k ≤ 2 ^ 24 = le_trans (bounds false m k t) (leb→le 1048576 (2 ^ 24) tt) in
    whole_unique binary32 (fin false m (pos k)) (of_int binary32 (pos (m * 2 ^ k))) false (m * 2 ^ k) f (of_int-fits binary32 (pos (m * 2 ^ k))) (refl, refl) (of_int_value binary32 (m * 2 ^ k) h)
coordinate_is (fin true zero (pos k)) f t = absurd (and_r (leb (0 * 2 ^ k) 1048576) false t)
coordinate_is (fin true (suc m) (pos k)) f t =
    signed (fin true (suc m) (pos k)) (suc m * 2 ^ k) f (le_trans (bounds true (suc m) k t) (leb→le 1048576 (2 ^ 24) tt)) (refl, refl) (mul-pos (zero-lt-suc m) (pow_pos k))

-- and each such number is a coordinate
even_odd : (m t : ℕ) → m % 2 ≡ 1 → m ≡ 2 * t → ⊥
even_odd m t o h = omega arith

of_whole : (x : Float) (s : Bool) (n : ℕ) → T (fits binary32 x) → HasValue x s n 1 → n ≤ 1048576 → (s ≡ true → n ≡ 0 → ⊥) → T (is_coordinate x)
unfolding is_coordinate fits
of_whole nan s n f v h z = absurd v
of_whole (inf u) s n f v h z = absurd v
of_whole (fin u zero (negsuc k)) s n f v h z = absurd (two (2 ^ k) (pow_pos k) (sym (pow-succ' 2 k) ∙ sym (one-mul (2 ^ suc k)) ∙ eqb→eq (1 * 2 ^ suc k) 1 f))
  where
    two : (p : ℕ) → 0 < p → 2 * p ≡ 1 → ⊥
    two p h e = omega arith
of_whole (fin u (suc m) (negsuc k)) s n f v h z =
    let A = eqb (suc m % 2) 1 in
    let B = ltb (suc m) (2 ^ 24) in
    let C = leb (2 ^ suc k) (2 ^ 149) in
    let D = ltb (suc m * 1) (2 ^ 128 * 2 ^ suc k) in
    absurd (even_odd (suc m) (n * 2 ^ k) (eqb→eq (suc m % 2) 1 (and_l A B (and_l (A && B) C (and_l (A && B && C) D f)))) (sym (mul-one (suc m)) ∙ sym (mul-one (suc m * 1)) ∙ v.1 ∙ ap (λ (x : ℕ). n * x) (pow-succ' 2 k) ∙ mul_left_comm n 2 (2 ^ k)))
of_whole (fin u m (pos k)) s n f v h z =
    let e : m * 2 ^ k ≡ n = sym (mul-one (m * 2 ^ k)) ∙ v.1 ∙ mul-one n in
    and_i (leb (m * 2 ^ k) 1048576) (not (u && eqb m 0)) (le→leb (m * 2 ^ k) 1048576 (subst (λ (x : ℕ). x ≤ 1048576) (sym e) h)) (not_T (u && eqb m 0) (go u m e v.0))
  where
    go : (u : Bool) (m : ℕ) → m * 2 ^ k ≡ n → u ≡ s → T (u && eqb m 0) → ⊥
    go true m e p t = z (sym p) (sym e ∙ ap (λ (x : ℕ). x * 2 ^ k) (eqb→eq m 0 t) ∙ zero-mul (2 ^ k))
    go false m e p t = t

-- every whole number from -2 ^ 20 to 2 ^ 20 is one
pub is_coordinate_lem : (z : ℤ) → nat_abs z ≤ 1048576 → T (is_coordinate (of_int binary32 z))
unfolding of_int
is_coordinate_lem (pos n) h = of_whole (round binary32 false n 1) false n (of_int-fits binary32 (pos n)) (round_whole binary32 false n (le_trans h (leb→le 1048576 (2 ^ 24) tt))) h (λ e. absurd (false≢true e))
is_coordinate_lem (negsuc n) h = of_whole (round binary32 true (suc n) 1) true (suc n) (of_int-fits binary32 (negsuc n)) (round_whole binary32 true (suc n) (le_trans h (leb→le 1048576 (2 ^ 24) tt))) h (λ e i. ne n i)
  where
    ne : (n : ℕ) → suc n ≡ 0 → ⊥
    ne n i = omega arith

-- ---- a value between two coordinates, as a cut is, is finite, so its order with them is that of the keys
-- what lies between two values that have keys has one
pub between_num : (x c y : Float) → Num x → Num y → T (fits binary32 c) → T (le x c) → T (lt c y) → Num c
unfolding le lt eq
between_num nan c y p q f a b = absurd p
between_num (inf s) c y p q f a b = absurd p
between_num (fin s m e) c nan p q f a b = absurd q
between_num (fin s m e) c (inf t) p q f a b = absurd q
between_num (fin s m e) nan (fin t n d) p q f a b = absurd b
between_num (fin s m e) (inf true) (fin t n d) p q f a b = absurd a
between_num (fin s m e) (inf false) (fin t n d) p q f a b = absurd b
between_num (fin s m e) (fin u l g) (fin t n d) p q f a b = num_of_fits (fin u l g) (fits_widens (fin u l g) f) tt
