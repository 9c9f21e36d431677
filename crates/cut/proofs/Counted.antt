-- The side that is cut, told by sums of whole sides: before it stand as many channels as there are sums that lie below the bound, counted by fours and then in one. Assumes nothing.
use Rattle.std.proofs.Common.{◌≡◌, ℕ, ◌+◌, ◌-◌, ◌*◌, ◌/◌, ◌^◌, ◌<◌, ◌≤◌, min, false, not, Option, Some, None, T, eqb, ltb, leb, ◌⊎◌, List, get_or, pos, sym, refl, ap, ◌∙◌, subst, inl, inr, le_trans, le_of_eq, le_refl, le_of_lt, lt_irrefl, mul-le-mul_right, zero-add, arith, eqb→eq, leb→le, pow_mono}
use lib.Dec.{nleb→lt}
use lib.Ieee.{Float, binary64, round, sub, mul, of_int}
use lib.Ieee.Bits.{is_true}
use lib.Ieee.Fits.{eq→eqb}
use lib.Ieee.Exact.{HasValue}
use lib.Ieee.Positive.{num, den}
use borrow.Table.Steps.{cases as by-test}
use Rattle.limits.specs.Limits.{width}
use Rattle.readings.specs.Word.{factor_of}
use Rattle.readings.proofs.Tests.{same_test, ltb_iff, eqb_iff, split}
use Rattle.readings.proofs.Values.{sum_minus}
use Rattle.boundingbox.specs.Ends.{channel}
use Rattle.boundingbox.specs.Contained.{contains, count_of}
use Rattle.boundingbox.specs.Wholes.{Box, side, sum_to}
use Rattle.boundingbox.proofs.Sums.{side_le, sum_fits}
use Rattle.cut.specs.declared.Side.{Side}
use Rattle.std.specs.Option.{option_map}
use Rattle.cut.specs.Paper.{rest_at}
use Rattle.cut.specs.Draw.{low_end, high_end, side_of, range_of, drawn_at, separation}
use Rattle.cut.specs.Document.{number_drawn, channel_of, rest_of}
use Rattle.cut.specs.Laws.{Readings, Padded}
use Rattle.cut.specs.Sums.{side_cut, grown, side_in, Sides, SmallSides, PaddedSides, Fours, fours, Bound, UnderIn}
use Rattle.cut.proofs.First.{short_under, Found, before_found, short_before}
use Rattle.cut.proofs.Range.{off_is}
use Rattle.cut.proofs.Going.{expo, den_is}
use Rattle.cut.proofs.Number.{number_most, own}
use Rattle.cut.proofs.Stretched.{stretched, out, sum_stretched}
use Rattle.cut.proofs.AsDocument.{holds_is, outside_is, some_side, product_is, side_drawn}
use Rattle.cut.proofs.Within.{channel_found, channel_below, channel_wide}
use Rattle.cut.proofs.Padding.{padded_side}
use Rattle.cut.proofs.Turns.{reached_below}
use Rattle.cut.proofs.Sums.{fours_same, under_same, count_is, fours_few, fours_some, fours_all}

-- ---- the side that is cut makes the cut
module _ (lo hi p : List Float) (n w : ℕ) (R : Readings lo hi p n) (s : Option Side) (e : s ≡ side_cut lo hi p n w) where
  pub cut_told : separation n lo hi p w ≡ option_map (drawn_at lo hi p) s
  unfolding separation side_cut drawn_at
  cut_told = rw (e, outside_is lo hi p n R) (by-test (contains lo hi p p n) (λ t. rw t refl) (λ t. rw t refl))

  pub cut_below : (x : Side) → s ≡ Some x → x.dimension < n
  unfolding side_cut
  cut_below x f = by-test (contains lo hi p p n) (λ t. absurd (none (rw t at (sym e ∙ f)))) (λ t. subst (λ (m : ℕ). x.dimension < m) (zero-add n) (reached_below (side_of lo hi p) n 0 (range_of lo hi p n w) x (rw t at (sym e ∙ f))))
    where
      none : None ≡ Some x → ⊥
      none z = let y : ◌≡◌ {A = ℕ} 0 1 = cc in omega arith

-- ---- the sums of a box of coordinates, and a bound of the number drawn
module _ (lo hi : ℕ → Float) (n : ℕ) (B : Box lo hi n) (w : ℕ) (W : w < 2 ^ 64) (P : 0 < sum_to (side lo hi) n) where
  abbrev g : ℕ → ℕ
  g = side lo hi

  abbrev N : Float
  N = number_drawn lo hi n w

  abbrev d : ℕ
  d = channel_of lo hi n w

  found_there : Found (side lo hi) (num (number_drawn lo hi n w)) (2 ^ expo (number_drawn lo hi n w)) n 0 (channel_of lo hi n w)
  found_there = subst (λ (c : ℕ). Found g (num N) c n 0 d) (den_is N) (channel_found lo hi n B w W P)

  -- what the sum before the channel leaves of the number is the rest
  pub rest_left : sub binary64 (number_drawn lo hi n w) (of_int binary64 (pos (sum_to (side lo hi) (channel_of lo hi n w)))) ≡ rest_of lo hi n w
  unfolding rest_of rest_at channel_of
  rest_left =
      off_is N (num N) (expo N) (sum_to g d) (own lo hi n B w W).0 (le_trans (sum_fits lo hi n B d (le_of_lt (channel_below lo hi n B w W P))) (pow_mono (leb→le 26 53 tt)))
      ∙ sum_minus binary64 (num N) (sum_to g d * 2 ^ expo N) (2 ^ expo N) (short_under g (num N) (2 ^ expo N) d found_there.short_there)
      ∙ ap (λ (c : ℕ). round binary64 false (num N - sum_to g d * c) c) (sym (den_is N))

  module _ (b : ℕ) (K : Bound (number_drawn lo hi n w) b) where
    -- the sum with side j in it lies below the bound exactly where j lies before the channel
    below_is : (j : ℕ) → ltb (sum_to (side lo hi) (j + 1)) b ≡ ltb j (channel_of lo hi n w)
    below_is j =
        let F = channel_found lo hi n B w W P in
        ltb_iff (sum_to g (j + 1)) b j d (λ h. short_before g (num N) (den N) n 0 d F j (K.short _ h)) (λ h. K.under _ (before_found g (num N) (den N) n 0 d F j h))

    -- so the sums by fours tell the four of the channel
    pub four_is : (sums : List ℕ) (f : ℕ) → Fours (side lo hi) sums → f ≤ 7 → channel_of lo hi n w < 4 * (f + 1) → count_of (λ (j : ℕ). ltb (get_or sums (j + 1) 0) b) f ≡ channel_of lo hi n w / 4
    four_is sums f E F D = count_is (λ (j : ℕ). ltb (get_or sums (j + 1) 0) b) (d / 4) f (λ j h. ap (λ (s : ℕ). ltb s b) (E (j + 1) (omega arith) ∙ ap (sum_to g) (last j)) ∙ below_is (4 * j + 3) ∙ tests j d) ∙ least f d D
      where
        last : (j : ℕ) → 4 * (j + 1) ≡ 4 * j + 3 + 1
        last j = omega arith

        tests : (j d : ℕ) → ltb (4 * j + 3) d ≡ ltb j (d / 4)
        tests j d = ltb_iff (4 * j + 3) d j (d / 4) (λ h. omega arith) (λ h. omega arith)

        least : (f d : ℕ) → d < 4 * (f + 1) → min f (d / 4) ≡ d / 4
        least f d h = omega arith

    -- and the sums in that four the channel
    pub under_is : (at : ℕ) → at ≤ channel_of lo hi n w → channel_of lo hi n w < at + 4 → count_of (λ (i : ℕ). ltb (sum_to (side lo hi) (at + (i + 1))) b) 4 ≡ channel_of lo hi n w - at
    under_is at h k = count_is (λ (i : ℕ). ltb (sum_to g (at + (i + 1))) b) (d - at) 4 (λ i l. ap (λ (m : ℕ). ltb (sum_to g m) b) (move i) ∙ below_is (at + i) ∙ tests i d) ∙ least d k
      where
        move : (i : ℕ) → at + (i + 1) ≡ at + i + 1
        move i = omega arith

        tests : (i d : ℕ) → ltb (at + i) d ≡ ltb i (d - at)
        tests i d = ltb_iff (at + i) d i (d - at) (λ h. omega arith) (λ h. omega arith)

        least : (d : ℕ) → d < at + 4 → min 4 (d - at) ≡ d - at
        least d h = omega arith

-- as many fours as are counted tell a channel of the tree
enough : (d i : ℕ) → i < d → d ≤ 32 → (fours d ≤ 7) × (i < 4 * (fours d + 1))
enough d i h k = go (split (leb d 8)) (split (leb d 16))
  where
    go : T (leb d 8) ⊎ T (not (leb d 8)) → T (leb d 16) ⊎ T (not (leb d 16)) → (fours d ≤ 7) × (i < 4 * (fours d + 1))
    go (inl t) u = let l = leb→le d 8 t in let e = fours_few d l in (omega arith, omega arith)
    go (inr t) (inl u) = let l = nleb→lt d 8 t in let m = leb→le d 16 u in let e = fours_some d l m in (omega arith, omega arith)
    go (inr t) (inr u) = let e = fours_all d (nleb→lt d 16 u) in (omega arith, omega arith)

-- ---- the sides that the code works out are those of coordinates, and of padding
module _ (lo hi p : List Float) (sides : List ℕ) (S : Sides (grown lo hi p) sides) where
  pub sides_small : Readings lo hi p width → SmallSides sides
  sides_small R i h = le_trans (le_of_eq (S i h)) (side_le (low_end lo p) (high_end hi p) width (stretched lo hi p width R) i h)

  pub sides_padded : (d : ℕ) → Padded lo hi p d width → PaddedSides d sides
  sides_padded d Z i a b = S i b ∙ padded_side d width lo hi p Z i a b

-- ---- the parts that the code works out: the sides, their sums by fours, the box's own sum, the factor f, the bound b, the four and what lies under the bound in it
module _ (lo hi p : List Float) (R : Readings lo hi p width) (w : ℕ) (W : w < 2 ^ 64) (sides : List ℕ) (S : Sides (grown lo hi p) sides) (sums : List ℕ) (E : Fours (side_in sides) sums) where
  all_is : get_or sums 8 0 ≡ sum_to (grown lo hi p) width
  all_is = fours_same (grown lo hi p) sides S sums E 8 (leb→le 9 9 tt)

  pub all_fits : get_or sums 8 0 ≤ 67108864
  all_fits = le_trans (le_of_eq all_is) (sum_fits (low_end lo p) (high_end hi p) width (stretched lo hi p width R) width (le_refl width))

  -- the sides grow exactly where the box does not hold the point
  module _ (own-sum : ℕ) (O : own-sum ≡ sum_to (side (channel lo) (channel hi)) width) where
    held_is : eqb (get_or sums 8 0) own-sum ≡ contains lo hi p p width
    held_is = rw (all_is, O) (go (sum_to (out lo hi p width R) width) _ _ (sum_stretched lo hi p width R) ∙ holds_is lo hi p width R)
      where
        go : (a b s : ℕ) → a + b ≡ s → eqb s b ≡ eqb a 0
        go a b s e = eqb_iff s b a 0 (λ h. omega arith) (λ h. omega arith)

    pub none_cut : get_or sums 8 0 ≡ own-sum → None ≡ side_cut lo hi p width w
    unfolding side_cut
    none_cut e = rw (sym held_is ∙ is_true _ (eq→eqb e))

    point_outside : (get_or sums 8 0 ≡ own-sum → ⊥) → contains lo hi p p width ≡ false
    point_outside n = sym held_is ∙ same_test (eqb (get_or sums 8 0) own-sum) false (λ t. n (eqb→eq (get_or sums 8 0) own-sum t)) (λ t. absurd t)

  module _ (own-sum : ℕ) (O : own-sum ≡ sum_to (side (channel lo) (channel hi)) width) (N : get_or sums 8 0 ≡ own-sum → ⊥) (f : Float) (F : f ≡ factor_of w) where
    o : contains lo hi p p width ≡ false
    o = point_outside own-sum O N

    abbrev x : Float
    x = mul binary64 (of_int binary64 (pos (get_or sums 8 0))) f

    abbrev N' : Float
    N' = number_drawn (low_end lo p) (high_end hi p) width w

    number_told : mul binary64 (of_int binary64 (pos (get_or sums 8 0))) f ≡ number_drawn (low_end lo p) (high_end hi p) width w
    number_told = rw (all_is, F) (product_is lo hi p width R w W)

    pub bound_asked : HasValue x false (num x) (den x) × (num x ≤ 67108864 * den x)
    bound_asked =
        let B = stretched lo hi p width R in
        rw number_told (
          subst (HasValue N' false (num N')) (sym (den_is N')) (own (low_end lo p) (high_end hi p) width B w W).0.value,
          le_trans (number_most (low_end lo p) (high_end hi p) width B w W) (mul-le-mul_right (den N') (sum_fits (low_end lo p) (high_end hi p) width B width (le_refl width))),
        )

    module _ (d : ℕ) (Z : Padded lo hi p d width) (b : ℕ) (K : Bound (mul binary64 (of_int binary64 (pos (get_or sums 8 0))) f) b) (four : ℕ) (C : four ≡ count_of (λ (j : ℕ). ltb (get_or sums (j + 1) 0) b) (fours d)) where
      abbrev k : ℕ
      k = channel_of (low_end lo p) (high_end hi p) width w

      abbrev B : Box (low_end lo p) (high_end hi p) width
      B = stretched lo hi p width R

      P : 0 < sum_to (side (low_end lo p) (high_end hi p)) width
      P = some_side lo hi p width R o

      -- the channel is one of the tree's, as its side is not zero
      in_tree : channel_of (low_end lo p) (high_end hi p) width w < d
      in_tree = go (split (leb d k))
        where
          go : T (leb d k) ⊎ T (not (leb d k)) → k < d
          go (inl t) =
              absurd (lt_irrefl 0 (subst (λ (z : ℕ). 0 < z) (padded_side d width lo hi p Z k (leb→le d k t) (channel_below (low_end lo p) (high_end hi p) width B w W P)) (channel_wide (low_end lo p) (high_end hi p) width B w W P)))
          go (inr t) = nleb→lt d k t

      bound_is : Bound (number_drawn (low_end lo p) (high_end hi p) width w) b
      bound_is = subst (λ (y : Float). Bound y b) number_told K

      four_told : four ≡ channel_of (low_end lo p) (high_end hi p) width w / 4
      four_told = let e = enough d k in_tree Z.fewer in C ∙ four_is (low_end lo p) (high_end hi p) width B w W P b bound_is sums (fours d) (fours_same (grown lo hi p) sides S sums E) e.0 e.1

      pub four_below : four ≤ 7
      four_below = omega (arith, four_told, channel_below (low_end lo p) (high_end hi p) width B w W P)

      pub four_starts : get_or sums four 0 ≡ sum_to (side_in sides) (4 * four)
      four_starts = E four (omega (arith, four_below))

      module _ (count sum : ℕ) (H : UnderIn (side_in sides) (4 * four) b count sum) where
        U : UnderIn (grown lo hi p) (4 * four) b count sum
        U = under_same (grown lo hi p) sides S (4 * four) b count sum (omega (arith, four_below)) H

        channel_told : 4 * four + count ≡ channel_of (low_end lo p) (high_end hi p) width w
        channel_told = omega (arith, four_told, U.counted, under_is (low_end lo p) (high_end hi p) width B w W P b bound_is (4 * four) (omega (arith, four_told)) (omega (arith, four_told)))

        pub count_fits : 4 * four + count < width
        count_fits = rw channel_told (channel_below (low_end lo p) (high_end hi p) width B w W P)

        pub side_told : Some (record { dimension = 4 * four + count; rest = sub binary64 (mul binary64 (of_int binary64 (pos (get_or sums 8 0))) f) (of_int binary64 (pos sum)) }) ≡ side_cut lo hi p width w
        unfolding side_cut
        side_told = rw (o, number_told, U.summed, channel_told, rest_left (low_end lo p) (high_end hi p) width B w W P) (sym (side_drawn lo hi p width R w W o))
