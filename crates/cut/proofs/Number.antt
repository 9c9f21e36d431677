-- The number that a word draws for a box of coordinates: at most the sum of the sides, and exact in its own fraction, so that the channel and the rest are those of whole numbers. Assumes nothing.
use Rattle.std.proofs.Common.{Some, ◌≡◌, ℕ, ◌-◌, ◌*◌, ◌/◌, ◌^◌, ◌<◌, ◌≤◌, false, T, pos, sym, ap, ◌∙◌, subst, le_trans, le_of_eq, le_refl, le_of_lt, mul-le-mul_right, zero-add, mul_right_comm, le_of_mul-le-mul_right, leb→le, pow_pos, pow_mono}
use lib.Ieee.{Float, binary64, round, fits, of_int}
use lib.Ieee.Fits.{round-fits}
use lib.Ieee.Positive.{num, den, value→cross}
use Rattle.readings.proofs.Words.{upper_bits}
use Rattle.boundingbox.proofs.Sums.{side_le, sum_fits}
use Rattle.boundingbox.specs.Wholes.{Box, side, sum_to}
use Rattle.cut.specs.Paper.{first, channel_at, rest_at}
use Rattle.cut.specs.Draw.{side_from}
use Rattle.cut.specs.Document.{number_drawn, channel_of, rest_of}
use Rattle.cut.proofs.Range.{Range, first_range, at_most}
use Rattle.cut.proofs.Going.{expo, den_is, own_range, range_is, start, found}

module _ (lo hi : ℕ → Float) (n : ℕ) (B : Box lo hi n) (w : ℕ) (W : w < 2 ^ 64) where
  abbrev g : ℕ → ℕ
  g = side lo hi

  abbrev S : ℕ
  S = sum_to (side lo hi) n

  abbrev N : Float
  N = number_drawn lo hi n w

  S-le : S ≤ 2 ^ 32
  S-le = le_trans (sum_fits lo hi n B n (le_refl n)) (pow_mono (leb→le 26 32 tt))

  number_fits : T (fits binary64 N)
  unfolding number_drawn
  number_fits = round-fits binary64 false (S * (w / 2 ^ 11)) (2 ^ 53)

  -- it is at most the sum of the sides
  pub number_most : num N ≤ S * den N
  unfolding number_drawn
  number_most = most _ _ (first_range S (w / 2 ^ 11) S-le (le_of_lt (upper_bits w W))) (at_most S (w / 2 ^ 11) S-le (le_of_lt (upper_bits w W)))
    where
      most : (q k : ℕ) → Range (round binary64 false (S * (w / 2 ^ 11)) (2 ^ 53)) q k → q ≤ S * 2 ^ k → num (round binary64 false (S * (w / 2 ^ 11)) (2 ^ 53)) ≤ S * den (round binary64 false (S * (w / 2 ^ 11)) (2 ^ 53))
      most q k r h =
          let x = round binary64 false (S * (w / 2 ^ 11)) (2 ^ 53) in
          le_of_mul-le-mul_right (le_trans (le_of_eq (value→cross x q (2 ^ k) r.value)) (le_trans (mul-le-mul_right (den x) h) (le_of_eq (mul_right_comm S (2 ^ k) (den x))))) (pow_pos k)

  pub own : Range N (num N) (expo N) × (num N < 2 ^ 53)
  unfolding number_drawn
  own = own_range S S-le N _ _ number_fits (first_range S (w / 2 ^ 11) S-le (le_of_lt (upper_bits w W))).value number_most

  -- where some side is not zero, the loop ends in a side: document 01's channel, with document 01's rest
  pub side_is : (h : ℕ → Float) → ((j : ℕ) → j < n → h j ≡ of_int binary64 (pos (side lo hi j))) → 0 < S → side_from h n 0 N ≡ Some (record { dimension = channel_of lo hi n w; rest = rest_of lo hi n w })
  unfolding channel_of rest_of channel_at rest_at
  side_is h H P =
      let Q : num N ≤ S * 2 ^ expo N = subst (λ (c : ℕ). num N ≤ S * c) (den_is N) number_most in
      found g (num N) (expo N) h n (λ j l. (H j l, le_trans (side_le lo hi n B j l) (leb→le 2097152 (2 ^ 53) tt))) Q P n 0 N (zero-add n)
      (start g (num N) (expo N) N own.0 (range_is N (num N) (expo N) number_fits own.0 own.1))
      ∙ ap (λ (c : ℕ). Some (record { dimension = first g (num N) c n 0; rest = round binary64 false (num N - sum_to g (first g (num N) c n 0) * c) c })) (sym (den_is N))
