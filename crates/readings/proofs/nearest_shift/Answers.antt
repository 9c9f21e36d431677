-- `readings::nearest_shift` meets its contract: 1 << k is 2 ^ k, which is even. Assumes nothing.
use Rattle.std.proofs.Common.{◌≡◌, ℕ, zero, suc, ◌+◌, ◌-◌, ◌*◌, ◌/◌, ◌%◌, ◌^◌, ◌<◌, ◌≤◌, sym, ap, ◌∙◌, subst, not-suc-le-zero, pow-suc, arith, leb→le, pow_pos, shl_exact, rules}
use native.Mathlib.Nat.{mul-mod_left}
use lib.Ieee.Nearest.{closest}
use Rattle.readings.proofs.NarrowBits.{closest_raised}
use Rattle.readings.proofs.nearest_shift.Goals as goal

pow_even : (k : ℕ) → 1 ≤ k → 2 ^ k % 2 ≡ 0
pow_even zero h = absurd (not-suc-le-zero h)
pow_even (suc k) h = ap (λ (z : ℕ). z % 2) (pow-suc 2 k) ∙ mul-mod_left (2 ^ k) 2

module _ (k : ℕ) (least : 1 ≤ k) (most : k ≤ 54) where
  abbrev d : ℕ
  d = 1 * 2 ^ k % 18446744073709551616

  is : d ≡ 2 ^ k
  is = shl_exact 1 k 64 (leb→le 2 2 tt) room ∙ one (2 ^ k)
    where
      room : 1 + k ≤ 64
      room = omega arith

      one : (n : ℕ) → 1 * n ≡ n
      one n = omega arith

  d_pos : 0 < d
  d_pos = subst (λ (z : ℕ). 0 < z) (sym is) (pow_pos k)

  d_even : d % 2 ≡ 0
  d_even = ap (λ (z : ℕ). z % 2) is ∙ pow_even k least

  half : 1 ≤ d / 2
  half = go d d_pos d_even
    where
      go : (n : ℕ) → 0 < n → n % 2 ≡ 0 → 1 ≤ n / 2
      go n h e = omega arith

  rounded : (q : ℕ) → (q + (d / 2 - 1) + q / d % 2) / d ≡ closest q (2 ^ k)
  rounded q = closest_raised q d d_pos d_even ∙ ap (closest q) is

pub overflow_sub-result : goal.overflow_sub-result
overflow_sub-result c = half c.args.k c.requires.1 c.requires.2

pub nonzero_div-result-2 : goal.nonzero_div-result-2
nonzero_div-result-2 c = d_pos c.args.k c.requires.1 c.requires.2

pub nonzero_div-result-3 : goal.nonzero_div-result-3
nonzero_div-result-3 c = d_pos c.args.k c.requires.1 c.requires.2

pub returns : goal.returns
returns c = rounded c.args.k c.requires.1 c.requires.2 c.args.q
