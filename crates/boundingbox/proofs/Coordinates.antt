-- A coordinate as an f32 is given by its rank: two of one rank are the same float. Assumes nothing.
use mathlib.Core.Path.{◌≡◌, refl, sym, ap, ◌∙◌}
use mathlib.Core.Bool.{true, false, not, ◌&&◌, cond}
use Prim.Native.Nat.{ℕ, zero, suc, ◌+◌, ◌-◌, ◌*◌, ◌^◌, ◌≤◌, ◌<◌}
use native.Mathlib.Omega.{arith}
use lib.IntN.{ℤ, pos, negsuc, neg_ℤ}
use lib.Dec.{T, leb, eqb, leb→le}
use lib.Ieee.{Float, nan, inf, fin, binary32, fits, of_int}
use lib.Ieee.Fits.{and_l}
use Rattle.readings.specs.Coordinate.{is_coordinate, rank}
use Rattle.readings.proofs.Tests.{leb_yes, leb_no}
use Rattle.readings.proofs.Ranks.{whole_of, coordinate_is, lt_rank, le_rank}
use Rattle.boundingbox.proofs.Order.{Places}

-- a coordinate that an f32 holds, written in its one way
pub record Whole (x : Float) : Type 0 where
  pub coordinate : T (is_coordinate x)
  pub held : T (fits binary32 x)

pub by_whole : Places Whole rank
by_whole = record { by_lt = λ x y p q. lt_rank x y p.coordinate q.coordinate; by_le = λ x y p q. le_rank x y p.coordinate q.coordinate }

-- the whole number of a rank
abbrev number_at : ℕ → ℤ
number_at r = cond (leb 1048576 r) (pos (r - 1048576)) (neg_ℤ (pos (1048576 - r)))

above : (c : ℕ) → number_at (1048576 + c) ≡ pos c
above c = rw (leb_yes (go c)) (ap pos (back c))
  where
    go : (c : ℕ) → 1048576 ≤ 1048576 + c
    go c = omega arith

    back : (c : ℕ) → 1048576 + c - 1048576 ≡ c
    back c = omega arith

under : (c : ℕ) → c ≤ 1048576 → number_at (1048576 - c) ≡ neg_ℤ (pos c)
under zero h = refl
under (suc c) h = rw (leb_no (go c h)) (ap (λ (n : ℕ). neg_ℤ (pos n)) (back c h))
  where
    go : (c : ℕ) → suc c ≤ 1048576 → 1048576 - suc c < 1048576
    go c h = omega arith

    back : (c : ℕ) → suc c ≤ 1048576 → 1048576 - (1048576 - suc c) ≡ suc c
    back c h = omega arith

number_is : (x : Float) → T (is_coordinate x) → whole_of x ≡ number_at (rank x)
unfolding is_coordinate rank whole_of
number_is nan t = absurd t
number_is (inf s) t = absurd t
number_is (fin s m (negsuc k)) t = absurd t
number_is (fin false m (pos k)) t = sym (above (m * 2 ^ k))
number_is (fin true m (pos k)) t = sym (under (m * 2 ^ k) (leb→le (m * 2 ^ k) 1048576 (and_l (leb (m * 2 ^ k) 1048576) (not (true && eqb m 0)) t)))

pub same_rank : (x y : Float) → Whole x → Whole y → rank x ≡ rank y → x ≡ y
same_rank x y p q e =
    coordinate_is x p.held p.coordinate
    ∙ ap (of_int binary32) (number_is x p.coordinate ∙ ap number_at e ∙ sym (number_is y q.coordinate))
    ∙ sym (coordinate_is y q.held q.coordinate)
