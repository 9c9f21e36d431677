-- The operations by values: a float's sign and its size as any fraction (`HasValue`) decide what a sum, a difference, a product or a comparison gives. Assumes nothing.
use Rattle.std.proofs.Common.{◌≡◌, ℕ, suc, ◌+◌, ◌-◌, ◌*◌, ◌^◌, ◌<◌, ◌≤◌, Bool, true, false, cond, not, ◌&&◌, ◌||◌, T, eqb, ltb, leb, ◌⊎◌, pos, sym, refl, ap, ◌∙◌, subst, inl, inr, true≢false, lt_of_lt_of_le, add-zero, mul_assoc, mul_comm, add-mul, eq-zero-or-pos, mul-pos, zero-mul, mul_right_comm, arith, lt→ltb, pow_pos, pow_mono, pow-add, shl_lt}
use native.Mathlib.Nat.{eq_of_mul-eq-mul_right, mul-sub, mul-mul-mul_comm}
use mathlib.Core.Bool.{beq, false≢true, and-true}
use lib.Ieee.{Float, nan, inf, fin, Format, binary64, prec, low, up, down, round, sum, add, sub, mul, neg, lt, le, eq, emax, odd, units}
use lib.Ieee.Fits.{down_pos, round_is}
use lib.Ieee.Exact.{HasValue, round_exact, odd_sign}
use lib.Ieee.Scale.{round_same}
use Rattle.readings.proofs.Tests.{lt_or_eq, leb_yes, leb_no, ltb_scale, leb_scales, cross_l, cross_r}

-- ---- a sum's rounding sees only the sizes: X / W is a / U, and Y / W is b / U
pub sub_mul : (a b c : ℕ) → (a - b) * c ≡ a * c - b * c
sub_mul a b c = mul_comm (a - b) c ∙ mul-sub c a b ∙ ap (λ (z : ℕ). z - c * b) (mul_comm c a) ∙ ap (λ (z : ℕ). a * c - z) (mul_comm c b)

minus_scale : (X Y U a b W : ℕ) → X * U ≡ a * W → Y * U ≡ b * W → (X - Y) * U ≡ (a - b) * W
minus_scale X Y U a b W p q = sub_mul X Y U ∙ ap (λ (z : ℕ). z - Y * U) p ∙ ap (λ (z : ℕ). a * W - z) q ∙ sym (sub_mul a b W)

plus_scale : (X Y U a b W : ℕ) → X * U ≡ a * W → Y * U ≡ b * W → (X + Y) * U ≡ (a + b) * W
plus_scale X Y U a b W p q = add-mul X Y U ∙ ap (λ (z : ℕ). z + Y * U) p ∙ ap (λ (z : ℕ). a * W + z) q ∙ sym (add-mul a b W)

sum_scale : (f : Format) (s t : Bool) (X Y U a b W : ℕ) → 0 < U → 0 < W → X * U ≡ a * W → Y * U ≡ b * W → sum f s X t Y W ≡ sum f s a t b U
unfolding sum
sum_scale f s t X Y U a b W u w p q =
    ap (λ (z : Float). cond (beq s t) z (cond (ltb X Y) (round f t (Y - X) W) (round f (s && ltb Y X) (X - Y) W))) (round_same f s (X + Y) W (a + b) U w u (plus_scale X Y U a b W p q))
    ∙ ap (λ (z : Float). cond (beq s t) (round f s (a + b) U) (cond (ltb X Y) z (round f (s && ltb Y X) (X - Y) W))) (round_same f t (Y - X) W (b - a) U w u (minus_scale Y X U b a W q p))
    ∙ ap (λ (z : Float). cond (beq s t) (round f s (a + b) U) (cond (ltb X Y) (round f t (b - a) U) z)) (round_same f (s && ltb Y X) (X - Y) W (a - b) U w u (minus_scale X Y U a b W p q))
    ∙ ap (λ (z : Bool). cond (beq s t) (round f s (a + b) U) (cond z (round f t (b - a) U) (round f (s && ltb Y X) (a - b) U))) (ltb_scale X Y U a b W u w p q)
    ∙ ap (λ (z : Bool). cond (beq s t) (round f s (a + b) U) (cond (ltb a b) (round f t (b - a) U) (round f (s && z) (a - b) U))) (ltb_scale Y X U b a W u w q p)

-- a sum and a difference, by any common denominator
pub add_value : (f : Format) (x y : Float) (s t : Bool) (a b c : ℕ) → 0 < c → HasValue x s a c → HasValue y t b c → add f x y ≡ sum f s a t b c
unfolding add
add_value f nan y s t a b c C h k = absurd h
add_value f (inf u) y s t a b c C h k = absurd h
add_value f (fin u m e) nan s t a b c C h k = absurd k
add_value f (fin u m e) (inf v) s t a b c C h k = absurd k
add_value f (fin u m e) (fin v n d) s t a b c C h k =
    sum_scale f u v (m * up e * down d) (n * up d * down e) c a b (down e * down d) C (mul-pos (down_pos e) (down_pos d)) (cross_l (m * up e) c a (down e) (down d) h.1) (cross_r (n * up d) c b (down e) (down d) k.1)
    ∙ ap (λ (z : Bool). sum f z a v b c) h.0 ∙ ap (λ (z : Bool). sum f s a z b c) k.0

neg_value : (y : Float) (t : Bool) (b c : ℕ) → HasValue y t b c → HasValue (neg y) (not t) b c
unfolding neg
neg_value nan t b c k = k
neg_value (inf u) t b c k = k
neg_value (fin u n d) t b c k = (ap not k.0, k.1)

pub sub_value : (f : Format) (x y : Float) (s t : Bool) (a b c : ℕ) → 0 < c → HasValue x s a c → HasValue y t b c → sub f x y ≡ sum f s a (not t) b c
unfolding sub
sub_value f x y s t a b c C h k = add_value f x (neg y) s (not t) a b c C h (neg_value y t b c k)

-- a product of two values that are not negative, by any fractions
pub mul_value : (f : Format) (x y : Float) (a c b d : ℕ) → 0 < c → 0 < d → HasValue x false a c → HasValue y false b d → mul f x y ≡ round f false (a * b) (c * d)
unfolding mul
mul_value f nan y a c b d C D h k = absurd h
mul_value f (inf u) y a c b d C D h k = absurd h
mul_value f (fin u m e) nan a c b d C D h k = absurd k
mul_value f (fin u m e) (inf v) a c b d C D h k = absurd k
mul_value f (fin true m e) (fin v n g) a c b d C D h k = absurd (true≢false h.0)
mul_value f (fin false m e) (fin true n g) a c b d C D h k = absurd (true≢false k.0)
mul_value f (fin false m e) (fin false n g) a c b d C D h k =
    round_same f false (m * up e * (n * up g)) (down e * down g) (a * b) (c * d) (mul-pos (down_pos e) (down_pos g)) (mul-pos C D)
    (mul-mul-mul_comm (m * up e) (n * up g) c d ∙ ap (λ (z : ℕ). z * (n * up g * d)) h.1 ∙ ap (λ (z : ℕ). a * down e * z) k.1 ∙ mul-mul-mul_comm a (down e) b (down g))

-- ---- not negative: a sum, and a difference either way
pub sum_plus : (f : Format) (a b c : ℕ) → sum f false a false b c ≡ round f false (a + b) c
unfolding sum
sum_plus f a b c = refl

-- a difference that is not negative
pub sum_minus : (f : Format) (a b c : ℕ) → b ≤ a → sum f false a true b c ≡ round f false (a - b) c
unfolding sum
sum_minus f a b c h = ap (λ (z : Bool). cond z (round f true (b - a) c) (round f false (a - b) c)) (leb_no go)
  where
    go : b < suc a
    go = omega arith

-- and one that is
pub sum_under : (f : Format) (a b c : ℕ) → a < b → sum f false a true b c ≡ round f true (b - a) c
unfolding sum
sum_under f a b c h = ap (λ (z : Bool). cond z (round f true (b - a) c) (round f false (a - b) c)) (leb_yes h)

-- ---- q / 2 ^ k is a value of binary64, for a q below 2 ^ 53
pub scaled_exact : (q k : ℕ) → q < 2 ^ 53 → k ≤ 1074 → HasValue (round binary64 false q (2 ^ k)) false q (2 ^ k)
scaled_exact q k h l =
    let e : 1074 - k + k ≡ 1074 = omega arith in
    let f : 53 + (1074 - k) ≤ 2098 = omega arith in
    round_exact binary64 false q (2 ^ k) q (1074 - k) (pow_pos k) h (lt_of_lt_of_le (shl_lt 53 (1074 - k) h) (pow_mono f))
    (sym (mul_assoc q (2 ^ (1074 - k)) (2 ^ k) ∙ ap (λ (z : ℕ). q * z) (sym (pow-add 2 (1074 - k) k) ∙ ap (λ (z : ℕ). 2 ^ z) e)))

-- ---- a value by another fraction
pub scale_up : (x : Float) (s : Bool) (a c u : ℕ) → HasValue x s a c → HasValue x s (a * u) (c * u)
scale_up nan s a c u h = absurd h
scale_up (inf t) s a c u h = absurd h
scale_up (fin t m e) s a c u h = (h.0, sym (mul_assoc (m * up e) c u) ∙ ap (λ (z : ℕ). z * u) h.1 ∙ mul_right_comm a (down e) u)

-- and cut down by one
pub scale_down : (x : Float) (s : Bool) (a c u : ℕ) → 0 < u → HasValue x s (a * u) (c * u) → HasValue x s a c
scale_down nan s a c u p h = absurd h
scale_down (inf t) s a c u p h = absurd h
scale_down (fin t m e) s a c u p h = (h.0, eq_of_mul-eq-mul_right u p (m * up e * c) (a * down e) (mul_assoc (m * up e) c u ∙ h.1 ∙ mul_right_comm a u (down e)))

-- ---- two values that are not negative, over one denominator: they compare as their numerators
pub lt_value : (x y : Float) (a b c : ℕ) → 0 < c → HasValue x false a c → HasValue y false b c → lt x y ≡ ltb a b
unfolding lt
lt_value nan y a b c C h k = absurd h
lt_value (inf s) y a b c C h k = absurd h
lt_value (fin s m e) nan a b c C h k = absurd k
lt_value (fin s m e) (inf t) a b c C h k = absurd k
lt_value (fin true m e) (fin t n d) a b c C h k = absurd (true≢false h.0)
lt_value (fin false m e) (fin true n d) a b c C h k = absurd (true≢false k.0)
lt_value (fin false m e) (fin false n d) a b c C h k =
    ltb_scale (m * up e * down d) (n * up d * down e) c a b (down e * down d) C (mul-pos (down_pos e) (down_pos d)) (cross_l (m * up e) c a (down e) (down d) h.1) (cross_r (n * up d) c b (down e) (down d) k.1)

-- `<=`
pub le_value : (x y : Float) (a b c : ℕ) → 0 < c → HasValue x false a c → HasValue y false b c → le x y ≡ leb a b
unfolding le lt eq
le_value nan y a b c C h k = absurd h
le_value (inf s) y a b c C h k = absurd h
le_value (fin s m e) nan a b c C h k = absurd k
le_value (fin s m e) (inf t) a b c C h k = absurd k
le_value (fin true m e) (fin t n d) a b c C h k = absurd (true≢false h.0)
le_value (fin false m e) (fin true n d) a b c C h k = absurd (true≢false k.0)
le_value (fin false m e) (fin false n d) a b c C h k =
    ap (λ (z : Bool). ltb (m * up e * down d) (n * up d * down e) || z) (and-true (eqb (m * up e * down d) (n * up d * down e)))
    ∙ lt_or_eq (m * up e * down d) (n * up d * down e)
    ∙ leb_scales (m * up e * down d) (n * up d * down e) c a b (down e * down d) C (mul-pos (down_pos e) (down_pos d)) (cross_l (m * up e) c a (down e) (down d) h.1) (cross_r (n * up d) c b (down e) (down d) k.1)

-- ---- zero, of either format
abbrev pub zero64 : Float
zero64 = fin false 0 (pos 0)

-- it is 0 over every denominator
pub zero_value : (c : ℕ) → HasValue zero64 false 0 c
zero_value c = (refl, zero-mul c)

-- ---- what is rounded with a minus sign is not above zero
or_true : (a b : Bool) → T a → (a || b) ≡ true
or_true true b t = refl
or_true false b t = absurd t

under_zero : (X Y : ℕ) → Y ≡ 0 → (ltb 0 (X + Y) || (eqb X Y && (false || eqb X 0))) ≡ true
under_zero X Y e = subst (λ (z : ℕ). (ltb 0 (X + z) || (eqb X z && (false || eqb X 0))) ≡ true) (sym e) (go (eq-zero-or-pos X))
  where
    go : (X ≡ 0) ⊎ (0 < X) → (ltb 0 (X + 0) || (eqb X 0 && (false || eqb X 0))) ≡ true
    go (inl z) = subst (λ (i : ℕ). (ltb 0 (i + 0) || (eqb i 0 && (false || eqb i 0))) ≡ true) (sym z) refl
    go (inr p) = or_true (ltb 0 (X + 0)) (eqb X 0 && (false || eqb X 0)) (lt→ltb 0 (X + 0) (subst (λ (i : ℕ). 0 < i) (sym (add-zero X)) p))

neg_under : (x : Float) (a c : ℕ) → HasValue x true a c → le x zero64 ≡ true
unfolding le lt eq
neg_under nan a c h = absurd h
neg_under (inf s) a c h = absurd h
neg_under (fin false m e) a c h = absurd (false≢true h.0)
neg_under (fin true m e) a c h = under_zero (m * up e * 1) (0 * down e) (zero-mul (down e))

units_under : (f : Format) (q k : ℕ) → le (units f true q k) zero64 ≡ true
unfolding units
units_under f q k = go (ltb (q * 2 ^ k) (2 ^ (low f + suc (emax f))))
  where
    go : (b : Bool) → le (cond b (odd (suc (prec f)) true q k (low f)) (inf true)) zero64 ≡ true
    go true = neg_under (odd (suc (prec f)) true q k (low f)) (q * 2 ^ k) (2 ^ low f) (odd_sign (suc (prec f)) true q k (low f))
    go false = unfold le lt in refl

-- after rounding too
pub round_under : (f : Format) (a c : ℕ) → le (round f true a c) zero64 ≡ true
round_under f a c = ap (λ (x : Float). le x zero64) (round_is f true a c) ∙ units_under f _ _
