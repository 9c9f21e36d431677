-- Tests of numbers: what a test's answer says, when two tests answer alike, and what `compare` and the zeros at a number's end are. Assumes nothing.
use Rattle.std.proofs.Common.{◌≡◌, ℕ, zero, suc, ◌*◌, ◌/◌, ◌%◌, ◌^◌, ◌<◌, ◌≤◌, Bool, true, false, not, ◌||◌, T, eqb, ltb, leb, ◌⊎◌, sym, refl, ap, ◌∙◌, subst, inl, inr, le_of_eq, lt_of_lt_of_le, le_of_suc-le-suc, not-suc-le-zero, le_of_lt, lt_irrefl, mul-le-mul_right, zero-lt-suc, mul_assoc, mul_comm, div-lt_iff_lt-mul, lt_of_mul-lt-mul_right, mul-lt-mul_of_pos_right, pow-suc, lt_of_not-le, mul-one, mul_right_comm, le_of_mul-le-mul_right, arith, le→leb, eqb→eq, ltb→lt, lt→ltb, leb→le, pow_mono}
use Prim.Native.Nat.{compare, Ordering}
use lib.Dec.{nleb→lt, eqb_refl, is_le, compare_is_eq}
use lib.Arith.{lt_of_le-ne}
use lib.Pow.{pow-lt}
use lib.Ieee.Fits.{eq→eqb}
use lib.Count.{count_trailing_zeros, under}

-- ---- an answer as a fact
pub yes : {b : Bool} → b ≡ true → T b
yes h = subst T (sym h) tt

pub no : {b : Bool} → b ≡ false → T (not b)
no h = subst (λ (a : Bool). T (not a)) (sym h) tt

-- one of the two
pub split : (b : Bool) → T b ⊎ T (not b)
split true = inl tt
split false = inr tt

-- ---- two tests answer alike where each passes if the other does
pub same_test : (a b : Bool) → (T a → T b) → (T b → T a) → a ≡ b
same_test true true p q = refl
same_test true false p q = absurd (p tt)
same_test false true p q = absurd (q tt)
same_test false false p q = refl

-- `<=`, `<` and `==` of numbers
pub leb_iff : (a b c d : ℕ) → (a ≤ b → c ≤ d) → (c ≤ d → a ≤ b) → leb a b ≡ leb c d
leb_iff a b c d p q = same_test (leb a b) (leb c d) (λ t. le→leb c d (p (leb→le a b t))) (λ t. le→leb a b (q (leb→le c d t)))

pub ltb_iff : (a b c d : ℕ) → (a < b → c < d) → (c < d → a < b) → ltb a b ≡ ltb c d
ltb_iff a b c d p q = same_test (ltb a b) (ltb c d) (λ t. lt→ltb c d (p (ltb→lt a b t))) (λ t. lt→ltb a b (q (ltb→lt c d t)))

pub eqb_iff : (a b c d : ℕ) → (a ≡ b → c ≡ d) → (c ≡ d → a ≡ b) → eqb a b ≡ eqb c d
eqb_iff a b c d p q = same_test (eqb a b) (eqb c d) (λ t. eq→eqb (p (eqb→eq a b t))) (λ t. eq→eqb (q (eqb→eq c d t)))

-- a comparison whose answer is known
pub leb_yes : {a b : ℕ} → a ≤ b → leb a b ≡ true
leb_yes {a} {b} h = same_test (leb a b) true (λ _. tt) (λ _. le→leb a b h)

pub leb_no : {a b : ℕ} → b < a → leb a b ≡ false
leb_no {a} {b} h = same_test (leb a b) false (λ t. clash (leb→le a b t)) (λ e. absurd e)
  where
    clash : a ≤ b → ⊥
    clash q = omega arith

-- below or equal is at most
pub lt_or_eq : (a b : ℕ) → (ltb a b || eqb a b) ≡ leb a b
lt_or_eq a b = same_test (ltb a b || eqb a b) (leb a b) (λ t. le→leb a b (fwd (ltb a b) (ltb→lt a b) t)) (λ t. bwd (ltb a b) (lt→ltb a b) (leb→le a b t))
  where
    fwd : (c : Bool) → (T c → a < b) → T (c || eqb a b) → a ≤ b
    fwd true h t = le_of_lt (h tt)
    fwd false h t = le_of_eq (eqb→eq a b t)

    not_lt : (a < b → ⊥) → a ≤ b → a ≡ b
    not_lt n h = omega arith

    bwd : (c : Bool) → (a < b → T c) → a ≤ b → T (c || eqb a b)
    bwd true h l = tt
    bwd false h l = eq→eqb (not_lt h l)

-- ---- X / W is a / U, and Y / W is b / U: X and Y compare as a and b do
module _ (X Y U a b W : ℕ) (u : 0 < U) (w : 0 < W) (p : X * U ≡ a * W) (q : Y * U ≡ b * W) where
  -- `<`
  pub ltb_scale : ltb X Y ≡ ltb a b
  ltb_scale =
      ltb_iff X Y a b
      (λ h. lt_of_mul-lt-mul_right W (subst (λ (z : ℕ). z < b * W) p (subst (λ (z : ℕ). X * U < z) q (mul-lt-mul_of_pos_right h u))))
      (λ h. lt_of_mul-lt-mul_right U (subst (λ (z : ℕ). z < Y * U) (sym p) (subst (λ (z : ℕ). a * W < z) (sym q) (mul-lt-mul_of_pos_right h w))))

  -- `<=`
  pub leb_scales : leb X Y ≡ leb a b
  leb_scales =
      leb_iff X Y a b
      (λ h. le_of_mul-le-mul_right (subst (λ (z : ℕ). z ≤ b * W) p (subst (λ (z : ℕ). X * U ≤ z) q (mul-le-mul_right U h))) w)
      (λ h. le_of_mul-le-mul_right (subst (λ (z : ℕ). z ≤ Y * U) (sym p) (subst (λ (z : ℕ). a * W ≤ z) (sym q) (mul-le-mul_right W h))) u)

-- both sides over one factor
pub leb_scale : (a b c : ℕ) → 0 < c → leb (a * c) (b * c) ≡ leb a b
leb_scale a b c C = leb_scales (a * c) (b * c) 1 a b c (zero-lt-suc 0) C (mul-one (a * c)) (mul-one (b * c))

-- the products that a comparison of two fractions makes
pub cross_l : (X U a E D : ℕ) → X * U ≡ a * E → X * D * U ≡ a * (E * D)
cross_l X U a E D p = mul_right_comm X D U ∙ ap (λ (z : ℕ). z * D) p ∙ mul_assoc a E D

pub cross_r : (Y U b E D : ℕ) → Y * U ≡ b * D → Y * E * U ≡ b * (E * D)
cross_r Y U b E D p = mul_right_comm Y E U ∙ ap (λ (z : ℕ). z * E) p ∙ mul_assoc b D E ∙ ap (λ (z : ℕ). b * z) (mul_comm D E)

-- ---- powers of two are in the order of their exponents
pub pow_le_back : (a l : ℕ) → 2 ^ a ≤ 2 ^ l → a ≤ l
pow_le_back a l h = le_of_suc-le-suc (lt_of_not-le (λ (g : suc l ≤ a). lt_irrefl (2 ^ l) (lt_of_lt_of_le (pow-lt g) h)))

pub pow_lt_back : (i p : ℕ) → 2 ^ i < 2 ^ p → i < p
pow_lt_back i p h = lt_of_not-le (λ (g : p ≤ i). lt_irrefl (2 ^ i) (lt_of_lt_of_le h (pow_mono g)))

-- ---- the zeros at the end of a number below 2 ^ d, counted among more digits
pub tz_more : (d e q : ℕ) → d ≤ e → 0 < q → q < 2 ^ d → count_trailing_zeros e q ≡ count_trailing_zeros d q
unfolding count_trailing_zeros
tz_more zero e q l h k = absurd (none h k)
  where
    none : 0 < q → q < 1 → ⊥
    none h k = omega arith
tz_more (suc d) zero q l h k = absurd (not-suc-le-zero l)
tz_more (suc d) (suc e) q l h k =
    go (q % 2) refl (λ (z : q % 2 ≡ 0). tz_more d e (q / 2) (le_of_suc-le-suc l) (half z) ((div-lt_iff_lt-mul (zero-lt-suc 1)).1 (subst (λ (x : ℕ). q < x) (pow-suc 2 d) k)))
  where
    half : q % 2 ≡ 0 → 0 < q / 2
    half z = omega arith

    go : (r : ℕ) → q % 2 ≡ r → (q % 2 ≡ 0 → count_trailing_zeros e (q / 2) ≡ count_trailing_zeros d (q / 2)) → under r (count_trailing_zeros e (q / 2)) ≡ under r (count_trailing_zeros d (q / 2))
    go zero z ih = ap suc (ih z)
    go (suc r) z ih = refl

-- ---- `compare` by what holds
abbrev pub Cmp : Ordering → ℕ → ℕ → Type 0
Cmp Ordering.lt a b = a < b
Cmp Ordering.eq a b = a ≡ b
Cmp Ordering.gt a b = b < a

module _ (a b : ℕ) where
  pub holds : Cmp (compare a b) a b
  holds = go (compare a b) (leb→le a b) (nleb→lt a b) (eqb→eq a b) (λ (e : a ≡ b). subst (λ (x : ℕ). T (eqb a x)) e (eqb_refl a))
    where
      go : (o : Ordering) → (T (is_le o) → a ≤ b) → (T (not (is_le o)) → b < a) → (T (compare_is_eq o) → a ≡ b) → (a ≡ b → T (compare_is_eq o)) → Cmp o a b
      go Ordering.lt h k e n = lt_of_le-ne (h tt) n
      go Ordering.eq h k e n = e tt
      go Ordering.gt h k e n = k tt

  -- no two orderings hold at once
  single : (o p : Ordering) → Cmp o a b → Cmp p a b → o ≡ p
  single Ordering.lt Ordering.lt h k = refl
  single Ordering.lt Ordering.eq h k = absurd (omega arith)
  single Ordering.lt Ordering.gt h k = absurd (omega arith)
  single Ordering.eq Ordering.lt h k = absurd (omega arith)
  single Ordering.eq Ordering.eq h k = refl
  single Ordering.eq Ordering.gt h k = absurd (omega arith)
  single Ordering.gt Ordering.lt h k = absurd (omega arith)
  single Ordering.gt Ordering.eq h k = absurd (omega arith)
  single Ordering.gt Ordering.gt h k = refl

  -- each ordering, from what holds
  pub compare_lt : a < b → compare a b ≡ Ordering.lt
  compare_lt h = single (compare a b) Ordering.lt holds h

  pub compare_eq : a ≡ b → compare a b ≡ Ordering.eq
  compare_eq h = single (compare a b) Ordering.eq holds h

  pub compare_gt : b < a → compare a b ≡ Ordering.gt
  compare_gt h = single (compare a b) Ordering.gt holds h
