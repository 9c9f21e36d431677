-- The chance on coordinates is one rounded division of the computed sum by the sides and it, and 0 where the box holds the query; elsewhere it lies above 0 and at most at 1. Up to 8 channels it is document 01's quotient. Assumes nothing.
use mathlib.Core.Path.{◌≡◌, refl, sym, ap, ap₂, ◌∙◌, subst}
use mathlib.Core.List.{List}
use mathlib.Core.Bool.{true, false, cond, true≢false}
use Prim.Native.Nat.{ℕ, zero, suc, ◌+◌, ◌-◌, ◌*◌, ◌^◌, ◌≤◌, ◌<◌, zero-le}
use native.Mathlib.Nat.{le_trans, le_of_eq, zero-lt-suc, one-mul, mul-one, zero-mul, mul-pos, mul-le-mul_right}
use native.Mathlib.Omega.{arith}
use lib.Dec.{T, eqb, leb, leb→le, nleb→lt, eqb→eq, ltb→lt, nltb→le, ltb}
use lib.Pow.{pow_pos, pow_mono}
use lib.Ieee.{Float, nan, inf, fin, binary64, up, down, round, add, div, lt, le, eq}
use lib.Ieee.Fits.{up_pos, down_pos}
use lib.Ieee.Bits.{is_true}
use lib.Ieee.Scale.{round_same}
use lib.Ieee.Order.{round_mono}
use lib.Ieee.Positive.{above, above_of_le, positive_of_value}
use borrow.Author.Tests.{lt-ltb}
use borrow.Table.Steps.{cases as by-test}
use Rattle.readings.specs.Coordinate.{rank}
use Rattle.readings.specs.Number.{nought}
use Rattle.readings.proofs.Tests.{yes, no, eqb_iff}
use Rattle.readings.proofs.Values.{scaled_exact, lt_value, zero_value}
use Rattle.readings.proofs.Wholes.{div_whole}
use Rattle.boundingbox.specs.Ends.{channel}
use Rattle.boundingbox.specs.Sides.{range_sum}
use Rattle.boundingbox.specs.Contained.{contains}
use Rattle.boundingbox.proofs.Sums.{nought_is, sum_pos, whole_eq}
use Rattle.cut.specs.Sums.{one}
use Rattle.cut.specs.Laws.{Readings}
use Rattle.cut.proofs.Stretched.{beyond, sum_same}
use Rattle.cut.proofs.AsDocument.{holds_is, point_is}
use Rattle.probability.specs.Probability.{outside, part_of, probability}
use Rattle.probability.specs.Laws.{distance, distance_at, S, W, computed_sum, quotient, OneDivision, AsDocument, InRange, ZeroInside, NeverZeroOutside}
use Rattle.probability.proofs.Computed.{outside_is, computed_le, computed_under, computed_exact, computed_few, all_le, sums_near}

-- how far a query lies outside, as the cut tells it
pub distance_is : (a b x : ℕ) → a ≤ b → distance a b x ≡ beyond a b x
distance_is a b x h = by-test (ltb x a) (λ t. rw t (below (ltb→lt x a (yes t)))) (λ t. rw t (above_it (nltb→le x a (no t))))
  where
    below : x < a → x - b + (a - x) ≡ a - x
    below l = omega arith

    above_it : a ≤ x → x - b + (a - x) ≡ x - b
    above_it l = omega arith

-- 1 is every whole number over itself
one_is : (s : ℕ) → 0 < s → one ≡ round binary64 false s s
one_is s h = let is : one ≡ round binary64 false 1 1 = unfold round in refl in is ∙ round_same binary64 false 1 1 s s (zero-lt-suc 0) h (one-mul s ∙ sym (mul-one s))

above_nought : (x : Float) → T (above x) → lt nought x ≡ true
unfolding lt
above_nought nan h = absurd h
above_nought (inf true) h = absurd h
above_nought (inf false) h = refl
above_nought (fin true m e) h = absurd h
above_nought (fin false m e) h = lt_value nought (fin false m e) 0 (m * up e) (down e) (down_pos e) (zero_value (down e)) (refl, refl) ∙ lt-ltb 0 (m * up e) (mul-pos (ltb→lt 0 m h) (up_pos e))

-- a quotient of at most 1, rounded, lies in 0 to 1
module _ (a c : ℕ) (A : 0 < a) (h : a ≤ c) where
  abbrev q : Float
  q = round binary64 false a c

  C : 0 < c
  C = le_trans A h

  from_nought : T (le nought q)
  from_nought = let is : round binary64 false 0 1 ≡ nought = unfold round in refl in subst (λ (x : Float). T (le x q)) is (round_mono binary64 0 1 a c (zero-lt-suc 0) C (le_trans (le_of_eq (zero-mul c)) zero-le))

  to_one : T (le q one)
  to_one = subst (λ (x : Float). T (le q x)) (sym (one_is c C)) (round_mono binary64 a c c c C C (mul-le-mul_right c h))

  -- above 0, where it is no less than 2^-28, which is an f64
  some : c ≤ 2 ^ 28 → lt nought q ≡ true
  some k =
      let least = round binary64 false 1 (2 ^ 28) in
      above_nought q
      (above_of_le least q (positive_of_value least 1 (2 ^ 28) (scaled_exact 1 28 (leb→le 2 (2 ^ 53) tt) (leb→le 28 1074 tt)) (zero-lt-suc 0))
      (round_mono binary64 1 (2 ^ 28) a c (pow_pos 28) C (go a c A k)))
    where
      go : (a c : ℕ) → 0 < a → c ≤ 268435456 → 1 * c ≤ a * 268435456
      go a c h k = omega arith

module _ (n : ℕ) (lo hi p : List Float) (R : Readings lo hi p n) where
  abbrev s : ℕ
  s = computed_sum lo hi p n

  abbrev w : ℕ
  w = W lo hi n

  -- the box holds the query exactly where nothing of it lies outside
  pub held : eqb (S lo hi p n) 0 ≡ contains lo hi p p n
  held =
      ap (λ (k : ℕ). eqb k 0) (sum_same _ _ n (λ i h. distance_is (rank (channel lo i)) (rank (channel hi i)) (rank (channel p i)) (R.box.ordered i h)))
      ∙ holds_is lo hi p n R

  -- and there alone the computed sum is 0: up to 2^24 it is the whole-number sum, and beyond it is off by 126 at most
  computed_held : eqb (computed_sum lo hi p n) 0 ≡ contains lo hi p p n
  computed_held =
      by-test (leb (S lo hi p n) (2 ^ 24)) (λ t. ap (λ (k : ℕ). eqb k 0) (computed_exact n lo hi p R (leb→le (S lo hi p n) (2 ^ 24) (yes t))))
      (λ t. both_above s (S lo hi p n) (nleb→lt (S lo hi p n) (2 ^ 24) (no t)) (computed_under n lo hi p R))
      ∙ held
    where
      both_above : (k s : ℕ) → 16777216 < s → s ≤ k + 126 → eqb k 0 ≡ eqb s 0
      both_above k s h l = eqb_iff k 0 s 0 (λ e. omega arith) (λ e. omega arith)

  out_is : eq (outside lo hi p n) nought ≡ contains lo hi p p n
  out_is = ap₂ eq (outside_is n lo hi p R) nought_is ∙ whole_eq s 0 (le_trans (computed_le n lo hi p R) (pow_mono (leb→le 27 53 tt))) zero-le ∙ computed_held

  none_out : contains lo hi p p n ≡ true → computed_sum lo hi p n ≡ 0
  none_out t = eqb→eq s 0 (yes (computed_held ∙ t))

  pub some_out : contains lo hi p p n ≡ false → 0 < computed_sum lo hi p n
  some_out t = go s (computed_held ∙ t)
    where
      go : (k : ℕ) → eqb k 0 ≡ false → 0 < k
      go zero e = absurd (true≢false e)
      go (suc k) e = zero-lt-suc k

  -- outside: the quotient, and 1 where the box is a single point
  divided : 0 < computed_sum lo hi p n → cond (eqb (W lo hi n) 0) one (div binary64 (outside lo hi p n) (add binary64 (range_sum lo hi n) (outside lo hi p n))) ≡ round binary64 false (computed_sum lo hi p n) (W lo hi n + computed_sum lo hi p n)
  divided h =
      by-test (eqb w 0) (λ t. rw t (one_is s h ∙ ap (round binary64 false s) (alone w s (eqb→eq w 0 (yes t)))))
      (λ t. rw t (div_whole binary64 (outside lo hi p n) (add binary64 (range_sum lo hi n) (outside lo hi p n)) s (w + s) (both w s h) (sums_near n lo hi p R).computed (sums_near n lo hi p R).all))
    where
      alone : (w s : ℕ) → w ≡ 0 → s ≡ w + s
      alone w s e = omega arith

      both : (w s : ℕ) → 0 < s → 0 < w + s
      both w s h = omega arith

pub one_division : OneDivision
unfolding probability part_of
one_division n lo hi p R =
    rw (out_is n lo hi p R, point_is lo hi p n R) (by-test (contains lo hi p p n) (λ t. rw t refl) (λ t. rw t (divided n lo hi p R (some_out n lo hi p R t))))

pub as_document : AsDocument
as_document n lo hi p h R = one_division n lo hi p R ∙ ap (quotient lo hi p n) (computed_few n lo hi p R h)

part_le : (w s : ℕ) → s ≤ w + s
part_le w s = omega arith

pub in_range : InRange
in_range n lo hi p R =
    rw (one_division n lo hi p R)
    (by-test (contains lo hi p p n) (λ t. rw t (unfold le lt eq in (refl, refl)))
    (λ t. let h = some_out n lo hi p R t in rw t (is_true _ (from_nought _ _ h (part_le _ _)), is_true _ (to_one _ _ h (part_le _ _)))))

pub zero_inside : ZeroInside
zero_inside n lo hi p R = (
  λ t. (none_out n lo hi p R t, one_division n lo hi p R ∙ rw t refl),
  λ t. let h = some_out n lo hi p R t in (h, ap (lt nought) (one_division n lo hi p R) ∙ rw t (some _ _ h (part_le _ _) (all_le n lo hi p R))),
)

pub never_zero_outside : NeverZeroOutside
never_zero_outside n lo hi p i R l h = by-test (contains lo hi p p n) (λ t. absurd (none (S lo hi p n) (sum_pos (distance_at lo hi p) n i l h) (eqb→eq (S lo hi p n) 0 (yes (held n lo hi p R ∙ t))))) (zero_inside n lo hi p R).1
  where
    none : (s : ℕ) → 0 < s → s ≡ 0 → ⊥
    none s h e = omega arith
