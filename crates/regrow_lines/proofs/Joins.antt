-- Lines in parts: what some lines and then others print and leave is what all of them do. Laws.
use mathlib.Core.Path.{◌≡◌, refl, sym, ap, ◌∙◌}
use mathlib.Core.Bool.{Bool, true, false, cond, false≢true}
use mathlib.Core.List.{List, [], ◌∷◌, ◌++◌, append_assoc}
use Prim.Native.Nat.{ℕ, suc, ◌+◌}
use native.Mathlib.Nat.{add-zero}
use native.Mathlib.Omega.{arith}
use lib.Ieee.{Float}
use lib.ListN.{length}
use Rattle.wholetree.specs.Whole.{whole}
use Rattle.sampledtree.specs.Sampled.{Sampled}
use Rattle.archiverow.specs.Rows.{ArchiveRow, row_of}
use Rattle.archivecalls.specs.Carried.{rows_left, row_leaves}
use Rattle.regrow_line.specs.Answered.{answered, in_form}
use Rattle.regrow_line.specs.Archive.{rows_of, rows_leave, printed}
use Rattle.regrow_lines.specs.Batch.{ended, all_in_form, reports_left, InParts, EndsAll}

-- ---- rows, then others
module _ (d : ℕ) where
  pub leave_both : (X : Sampled (whole d)) (xs ys : List ArchiveRow) → rows_leave d X (xs ++ ys) ≡ rows_leave d (rows_leave d X xs) ys
  leave_both X [] ys = refl
  leave_both X (x ∷ xs) ys = leave_both (row_leaves d X x) xs ys

  pub reports_both : (X : Sampled (whole d)) (xs ys : List ArchiveRow) (lent : List (List ℕ)) → reports_left d X (xs ++ ys) lent ≡ reports_left d (rows_leave d X xs) ys (reports_left d X xs lent)
  reports_both X [] ys lent = refl
  reports_both X (x ∷ xs) ys lent = reports_both (row_leaves d X x) xs ys (rows_left d X x lent)

  pub print_both : (s : Float) (X : Sampled (whole d)) (r : ℕ) (xs ys : List ArchiveRow) → printed d s X r (xs ++ ys) ≡ printed d s X r xs ++ printed d s (rows_leave d X xs) (r + length xs) ys
  print_both s X r [] ys = rw (add-zero r)
  print_both s X r (x ∷ xs) ys =
      let e : r + suc (length xs) ≡ r + 1 + length xs = omega arith in
      rw (e, append_assoc) (ap (λ (l : List ℕ). answered d s X x r ++ l) (print_both s (row_leaves d X x) (r + 1) xs ys))

-- ---- the rows of lines
pub rows_both : (ls ms : List (List ℕ)) → all_in_form ls ≡ true → rows_of (ls ++ ms) ≡ rows_of ls ++ rows_of ms
unfolding rows_of
rows_both [] ms h = refl
rows_both (l ∷ ls) ms h = go (in_form (row_of l)) (λ g. rows_both ls ms g) h
  where
    go : (b : Bool) → (all_in_form ls ≡ true → rows_of (ls ++ ms) ≡ rows_of ls ++ rows_of ms) → cond b (all_in_form ls) false ≡ true → row_of l ∷ cond b (rows_of (ls ++ ms)) [] ≡ row_of l ∷ cond b (rows_of ls) [] ++ rows_of ms
    go true f h = ap (λ (x : List ArchiveRow). row_of l ∷ x) (f h)
    go false f h = absurd (false≢true h)

pub rows_counted : (ls : List (List ℕ)) → all_in_form ls ≡ true → length (rows_of ls) ≡ length ls
unfolding rows_of
rows_counted [] h = refl
rows_counted (l ∷ ls) h = go (in_form (row_of l)) (λ g. rows_counted ls g) h
  where
    go : (b : Bool) → (all_in_form ls ≡ true → length (rows_of ls) ≡ length ls) → cond b (all_in_form ls) false ≡ true → suc (length (cond b (rows_of ls) [])) ≡ suc (length ls)
    go true f h = ap suc (f h)
    go false f h = absurd (false≢true h)

pub ends_all : EndsAll
unfolding rows_of
ends_all [] ms h = absurd (false≢true (sym h))
ends_all (l ∷ ls) ms h = go (in_form (row_of l)) (λ g. ends_all ls ms g) h
  where
    go : (b : Bool) → (all_in_form ls ≡ false → rows_of (ls ++ ms) ≡ rows_of ls) → cond b (all_in_form ls) false ≡ false → row_of l ∷ cond b (rows_of (ls ++ ms)) [] ≡ row_of l ∷ cond b (rows_of ls) []
    go true f h = ap (λ (x : List ArchiveRow). row_of l ∷ x) (f h)
    go false f h = refl

pub form_both : (ls ms : List (List ℕ)) → all_in_form ls ≡ true → all_in_form (ls ++ ms) ≡ all_in_form ms
form_both [] ms h = refl
form_both (l ∷ ls) ms h = go (in_form (row_of l)) (λ g. form_both ls ms g) h
  where
    go : (b : Bool) → (all_in_form ls ≡ true → all_in_form (ls ++ ms) ≡ all_in_form ms) → cond b (all_in_form ls) false ≡ true → cond b (all_in_form (ls ++ ms)) false ≡ all_in_form ms
    go true f h = f h
    go false f h = absurd (false≢true h)

pub ended_both : (ls ms : List (List ℕ)) → ended (ls ++ ms) ≡ ended ls ++ ended ms
ended_both [] ms = refl
ended_both (l ∷ ls) ms = ap (λ (x : List ℕ). l ++ 10 ∷ x) (ended_both ls ms) ∙ sym (append_assoc l (10 ∷ ended ls) (ended ms))

-- ---- lines, then others
pub in_parts : InParts
in_parts d s X r ls ms h =
    (rw (rows_both ls ms h, ← rows_counted ls h) (print_both d s X r (rows_of ls) (rows_of ms)), rw (rows_both ls ms h) (leave_both d X (rows_of ls) (rows_of ms)))
