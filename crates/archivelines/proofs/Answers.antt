-- The rows of a report written one by one, and the lines of an answer by its numbers. Assumes nothing.
use mathlib.Core.Path.{◌≡◌, refl, sym, ap, ◌∙◌}
use mathlib.Core.Bool.{Bool, true, false}
use mathlib.Core.List.{List, [], ◌∷◌, ◌++◌, append_assoc, append-nil}
use Prim.Native.Nat.{ℕ, ◌+◌, ◌*◌, ◌≤◌, ◌<◌, min}
use native.Mathlib.Numerals.{add-one}
use native.Mathlib.Omega.{arith}
use borrow.Author.Tests.{ne_eqb, leb-true, leb-false}
use lib.Dec.{leb}
use lib.ListN.{length, get_or, take}
use lib.Seq.{take-suc, take_all}
use Rattle.text.specs.Quoted.{bytes}
use Rattle.lines.specs.Lines.{hex, number_field, refused_line, Wrote}
use Rattle.lines.proofs.Writes.{then}
use Rattle.archivelines.specs.Answers.{passed_line, kept_line, evicted_line, report_line, report_lines, arrival_line, asked_lines, answer_lines}
use Rattle.archivelines.specs.declared.Asks.{Asks}

-- ---- one row, by its numbers as they are written
pub row_written : (row : List ℕ) {a b m x : ℕ} {l : List ℕ} {at p : ℕ} {o : List ℕ} → a ≡ get_or row 0 0 → b ≡ get_or row 1 0 → m ≡ get_or row 2 0 → x ≡ get_or row 3 0
    → Wrote l at (bytes "row " ++ number_field a ++ number_field b ++ number_field m ++ hex 16 x ++ (10 ∷ [])) p o → Wrote l at (report_line row) p o
unfolding report_line
row_written row e f g h w = rw (← e, ← f, ← g, ← h) w

-- ---- the rows one by one: i of n are written
pub record Writing (l : List ℕ) (at : ℕ) (rows : List (List ℕ)) (n : ℕ) (m : List ℕ) (p i : ℕ) : Type 0 where
  pub within : i ≤ n
  pub wrote : Wrote l at (report_lines (take i rows)) p m
  pub few : p ≤ at + 84 * i

lines_append : (xs ys : List (List ℕ)) → report_lines (xs ++ ys) ≡ report_lines xs ++ report_lines ys
lines_append [] ys = refl
lines_append (x ∷ xs) ys = ap (λ (l : List ℕ). report_line x ++ l) (lines_append xs ys) ∙ sym (append_assoc (report_line x) (report_lines xs) (report_lines ys))

one_more : (rows : List (List ℕ)) (i : ℕ) → i < length rows → report_lines (take (i + 1) rows) ≡ report_lines (take i rows) ++ report_line (get_or rows i [])
one_more rows i h =
    ap report_lines (ap (λ (j : ℕ). take j rows) (add-one i) ∙ take-suc rows i [] h)
    ∙ lines_append (take i rows) (get_or rows i [] ∷ [])
    ∙ ap (λ (l : List ℕ). report_lines (take i rows) ++ l) (append-nil (report_line (get_or rows i [])))

pub row_step : {l : List ℕ} {at : ℕ} {rows : List (List ℕ)} {n : ℕ} {m : List ℕ} {p i : ℕ} → Writing l at rows n m p i → i < n → n ≤ length rows
    → {q : ℕ} {o : List ℕ} → Wrote m p (report_line (get_or rows i [])) q o → q ≤ p + 84 → Writing l at rows n o q (i + 1)
row_step {l} {at} {rows} {n} {m} {p} {i} w h k v f = record {
  within = omega arith;
  wrote = rw (one_more rows i (omega arith)) (then w.wrote v);
  few = omega arith;
}

-- the first n, where n is the lesser of `count` and how many there are
same_first : (rows : List (List ℕ)) (count n : ℕ) → n ≡ min count (length rows) → take n rows ≡ take count rows
same_first rows count n e = go (leb count (length rows)) refl
  where
    go : (b : Bool) → leb count (length rows) ≡ b → take n rows ≡ take count rows
    go true f = let z : n ≡ count = omega (arith, e, leb-true count (length rows) f) in rw z
    go false f = take_all n rows (omega (arith, e, leb-false count (length rows) f)) ∙ sym (take_all count rows (omega (arith, leb-false count (length rows) f)))

pub row_end : {l : List ℕ} {at : ℕ} {rows : List (List ℕ)} {n : ℕ} {m : List ℕ} {p i : ℕ} (count : ℕ) → Writing l at rows n m p i → n ≤ i → n ≡ min count (length rows) → Wrote l at (report_lines (take count rows)) p m
row_end {l} {at} {rows} {n} {m} {p} {i} count w h e = let z : i ≡ n = omega arith in rw (← same_first rows count n e) (rw z at w.wrote)

-- ---- by the numbers of an answer
module _ (n : List ℕ) (r : ℕ) {l : List ℕ} {at p : ℕ} {o : List ℕ} where
  pub arrival_passed : get_or n 1 0 ≡ 0 → Wrote l at (passed_line r) p o → Wrote l at (arrival_line n r) p o
  unfolding arrival_line
  arrival_passed e w = rw e w

  pub arrival_kept : get_or n 1 0 ≡ 1 → Wrote l at (kept_line (get_or n 2 0) r) p o → Wrote l at (arrival_line n r) p o
  unfolding arrival_line
  arrival_kept e w = rw e w

  pub arrival_evicted : (get_or n 1 0 ≡ 0 → ⊥) → (get_or n 1 0 ≡ 1 → ⊥) → Wrote l at (evicted_line (get_or n 2 0) (get_or n 3 0) r) p o → Wrote l at (arrival_line n r) p o
  unfolding arrival_line
  arrival_evicted e f w = rw (ne_eqb _ _ e, ne_eqb _ _ f) w

  module _ (x : Asks) (rows : List (List ℕ)) where
    pub answer_refused : (get_or n 0 0 ≡ 0 → ⊥) → Wrote l at (refused_line (get_or n 0 0) r) p o → Wrote l at (answer_lines x n rows r) p o
    unfolding answer_lines
    answer_refused e w = rw (ne_eqb _ _ e) w

    pub answer_asked : {y : Asks} → get_or n 0 0 ≡ 0 → x ≡ y → Wrote l at (asked_lines y n rows r) p o → Wrote l at (answer_lines x n rows r) p o
    unfolding answer_lines
    answer_asked e f w = rw (e, f) w
