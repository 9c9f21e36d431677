-- Rows of floats read channel by channel and tested so, and what is told of a cut. Laws.
use mathlib.Core.Path.{◌≡◌, refl, sym, ◌∙◌, subst}
use mathlib.Core.Logic.{⊎_elim}
use mathlib.Core.Bool.{Bool, true, false, ◌&&◌}
use mathlib.Core.List.{List, ◌++◌}
use Prim.Native.Nat.{ℕ, zero, suc, ◌+◌, ◌*◌, ◌≤◌, ◌<◌}
use native.Mathlib.Nat.{eq-or-lt_of_le}
use native.Mathlib.Numerals.{add-one}
use native.Mathlib.Omega.{arith}
use borrow.Author.Tests.{eq-eqb, ne_eqb}
use lib.Dec.{T, leb→le}
use lib.ListN.{length, take, set, length-set}
use lib.Seq.{take-suc-set, take_all}
use lib.Ieee.{Float, binary32, of_bits, le}
use lib.Ieee.Fits.{and_l, and_r}
use Rattle.limits.specs.Limits.{width}
use Rattle.readings.specs.Coordinate.{is_coordinate}
use Rattle.readings.proofs.Tests.{yes}
use Rattle.readings.proofs.Ranks.{le_rank}
use Rattle.boundingbox.specs.Ends.{channel}
use Rattle.cut.specs.Draw.{separation}
use Rattle.cut.specs.Laws.{Readings}
use Rattle.little.specs.Little.{little32, little64}
use Rattle.lines.specs.Lines.{Wrote}
use Rattle.recorded.specs.Cuts.{row_bytes, given_bytes, row_at, told_cut, is_reading, are_readings, low, high, point, cut_answer}
use Rattle.recorded.proofs.Stores.{nothing}

-- A ROW, of which the first i channels are read
pub record RowRead (b : List ℕ) (at : ℕ) (row : List Float) (i : ℕ) : Type 0 where
  pub within : i ≤ width
  pub wide : length row ≡ width
  pub first : take i row ≡ row_at b at i

module _ (b : List ℕ) (at : ℕ) (row : List Float) where
  pub row_none : length row ≡ width → RowRead b at row 0
  unfolding row_at
  row_none h = record { within = omega arith; wide = h; first = refl }

  pub row_more : (i : ℕ) (x : Float) → RowRead b at row i → i < width → x ≡ of_bits binary32 (little32 b (at + 4 * i)) → RowRead b at (set row i x) (i + 1)
  unfolding row_at
  row_more i x d h e = record {
    within = omega arith;
    wide = rw length-set d.wide;
    first = rw (add-one i, take-suc-set row i x (omega (arith, d.wide)), d.first, e);
  }

  pub row_all : (i : ℕ) → RowRead b at row i → width ≤ i → row ≡ row_at b at width
  row_all i d h =
      let z : i ≡ width = omega (arith, d.within) in
      sym (take_all width row (omega (arith, d.wide))) ∙ (rw z at d.first)

-- THE TESTS, one channel more at a time, and that all together say that the floats are readings
module _ (lo hi p : List Float) where
  pub readings_none : true ≡ are_readings lo hi p 0
  unfolding are_readings
  readings_none = refl

  pub readings_more : (i : ℕ) (a r : Bool) → a ≡ are_readings lo hi p i → r ≡ is_reading (channel lo i) (channel hi i) (channel p i) → (a && r) ≡ are_readings lo hi p (i + 1)
  unfolding are_readings
  readings_more i a r e f = rw (add-one i, e, f)

  each : (n i : ℕ) → T (are_readings lo hi p n) → i < n → T (is_reading (channel lo i) (channel hi i) (channel p i))
  unfolding are_readings
  each zero i h l = absurd (omega arith)
  each (suc n) i h l = ⊎_elim
      (λ (e : i ≡ n). rw e (and_r (are_readings lo hi p n) _ h))
      (λ (m : i < n). each n i (and_l (are_readings lo hi p n) _ h) m)
      (eq-or-lt_of_le (omega arith))

record Tested (lo hi x : Float) : Type 0 where
  lower : T (is_coordinate lo)
  upper : T (is_coordinate hi)
  inner : T (is_coordinate x)
  ordered : T (le lo hi)

tested : (lo hi x : Float) → T (is_reading lo hi x) → Tested lo hi x
tested lo hi x h =
    let h₁ : T (is_coordinate hi && (is_coordinate x && le lo hi)) = and_r (is_coordinate lo) _ h in
    let h₂ : T (is_coordinate x && le lo hi) = and_r (is_coordinate hi) _ h₁ in
    record { lower = and_l (is_coordinate lo) _ h; upper = and_l (is_coordinate hi) _ h₁; inner = and_l (is_coordinate x) _ h₂; ordered = and_r (is_coordinate x) _ h₂ }

pub readings_tested : (lo hi p : List Float) → are_readings lo hi p width ≡ true → Readings lo hi p width
readings_tested lo hi p h =
    let all : (i : ℕ) → i < width → Tested (channel lo i) (channel hi i) (channel p i) = λ i l. tested (channel lo i) (channel hi i) (channel p i) (each lo hi p width i (yes h) l) in
    record {
      box = record {
        few = omega arith;
        lower = λ i l. (all i l).lower;
        upper = λ i l. (all i l).upper;
        ordered = λ i l. leb→le _ _ (subst T (le_rank (channel lo i) (channel hi i) (all i l).lower (all i l).upper) (all i l).ordered);
      };
      point = λ i l. (all i l).inner;
    }

-- THE ANSWER: none where too many or too few bytes are given, or no readings
pub no_case : (given : List ℕ) → (length given ≡ given_bytes → ⊥) → {l : List ℕ} → Wrote l 0 (cut_answer given) 0 l
unfolding cut_answer
no_case given h = nothing (rw (ne_eqb (length given) given_bytes h))

module _ (given : List ℕ) {lo hi p : List Float} {r : Bool} (e : lo ≡ low given) (f : hi ≡ high given) (g : p ≡ point given) (h : length given ≡ given_bytes) (a : r ≡ are_readings lo hi p width) where
  read : {b : Bool} → r ≡ b → are_readings (low given) (high given) (point given) width ≡ b
  read n = rw (e, f, g) at (sym a ∙ n)

  pub answer_none : r ≡ false → {l : List ℕ} → Wrote l 0 (cut_answer given) 0 l
  unfolding cut_answer
  answer_none n = nothing (rw (eq-eqb (length given) given_bytes h, read n))

  pub answer_told : r ≡ true → (w : ℕ) → w ≡ little64 given (3 * row_bytes) → {l : List ℕ} {q : ℕ} {m : List ℕ} → Wrote l 0 (told_cut (separation width lo hi p w) ++ told_cut (separation width lo hi p w)) q m → Wrote l 0 (cut_answer given) q m
  unfolding cut_answer
  answer_told n w k v = rw (eq-eqb (length given) given_bytes h, read n) (rw (e, f, g, k) at v)
