-- The line of a refused row: by the refusal that the call's reply begins with, which is 0 where the row is taken. Laws.
use Rattle.pointstore.specs.Refusals.{same_number}
use mathlib.Core.Path.{◌≡◌, refl, ap, ◌∙◌}
use mathlib.Core.Bool.{cond}
use mathlib.Core.List.{List, []}
use Prim.Native.Nat.{ℕ}
use native.Mathlib.Omega.{arith}
use borrow.Author.Tests.{ne_eqb}
use lib.Dec.{eqb}
use lib.ListN.{get_or}
use lib.Ieee.{Float}
use Rattle.cuttree.specs.Run.{World, Refusal, index_above, coordinate_count, bad_coordinate, index_is_leaf, never_written, full, few_words, tree_empty, not_held, bad_weight, no_such_node, Answer, refused, written, added, deleted, copies_are, branch_is, box_is, number_of}
use Rattle.wholetree.specs.Whole.{whole}
use Rattle.answers.specs.Said.{filled, said, reply_width}
use Rattle.form.specs.Rows.{Op, put, add, delete}
use Rattle.lines.specs.Lines.{refused_line, Wrote}
use Rattle.rowcalls.specs.Ops.{call_of}
use Rattle.treelist_text.specs.Output.{told_row}

-- the refusal of an answer, 0 where there is none
abbrev refusal_of : (d : ℕ) → Answer (whole d) → ℕ
refusal_of d (refused r) = number_of r
refusal_of d written = 0
refusal_of d (added j m) = 0
refusal_of d (deleted j) = 0
refusal_of d (copies_are m) = 0
refusal_of d (branch_is r) = 0
refusal_of d (box_is b) = 0

-- ---- what is written, by the refusal
pub told_none : {l : List ℕ} {p n : ℕ} (k : ℕ) → n ≡ 0 → Wrote l p (cond (eqb n 0) [] (refused_line n k)) p l
told_none k e = record { next = rw e (omega arith); left = rw e }

pub told_one : {l : List ℕ} {p n : ℕ} (k : ℕ) {q : ℕ} {m : List ℕ} → (n ≡ 0 → ⊥) → Wrote l p (refused_line n k) q m → Wrote l p (cond (eqb n 0) [] (refused_line n k)) q m
told_one k h w = rw (ne_eqb _ _ h) w

-- ---- the reply begins with the refusal
module _ (d c : ℕ) (s : Float) where
  first_said : (o : Op) (a : Answer (whole d)) (W : World (whole d)) → get_or (filled reply_width (said d c s (call_of d o) (a, W))) 0 0 ≡ refusal_of d a
  unfolding filled
  first_said (put i xs) (refused r) W = same_number r
  first_said (put i xs) written W = refl
  first_said (put i xs) (added j m) W = refl
  first_said (put i xs) (deleted j) W = refl
  first_said (put i xs) (copies_are m) W = refl
  first_said (put i xs) (branch_is r) W = refl
  first_said (put i xs) (box_is b) W = refl
  first_said (add i ws) (refused r) W = same_number r
  first_said (add i ws) written W = refl
  first_said (add i ws) (added j m) W = refl
  first_said (add i ws) (deleted j) W = refl
  first_said (add i ws) (copies_are m) W = refl
  first_said (add i ws) (branch_is r) W = refl
  first_said (add i ws) (box_is b) W = refl
  first_said (delete i) (refused r) W = same_number r
  first_said (delete i) written W = refl
  first_said (delete i) (added j m) W = refl
  first_said (delete i) (deleted j) W = refl
  first_said (delete i) (copies_are m) W = refl
  first_said (delete i) (branch_is r) W = refl
  first_said (delete i) (box_is b) W = refl

  -- no refusal has the number 0
  line_of : (r : Refusal) (n : ℕ) → cond (eqb (number_of r) 0) [] (refused_line (number_of r) n) ≡ refused_line (number_of r) n
  line_of index_above n = refl
  line_of coordinate_count n = refl
  line_of bad_coordinate n = refl
  line_of index_is_leaf n = refl
  line_of never_written n = refl
  line_of full n = refl
  line_of few_words n = refl
  line_of tree_empty n = refl
  line_of not_held n = refl
  line_of bad_weight n = refl
  line_of no_such_node n = refl

  by_refusal : (a : Answer (whole d)) (n : ℕ) → cond (eqb (refusal_of d a) 0) [] (refused_line (refusal_of d a) n) ≡ told_row d a n
  by_refusal (refused r) n = line_of r n
  by_refusal written n = refl
  by_refusal (added j m) n = refl
  by_refusal (deleted j) n = refl
  by_refusal (copies_are m) n = refl
  by_refusal (branch_is r) n = refl
  by_refusal (box_is b) n = refl

  pub tells : (o : Op) (x : Answer (whole d) × World (whole d)) (reply : List ℕ) → reply ≡ filled reply_width (said d c s (call_of d o) x) → (n : ℕ)
      → cond (eqb (get_or reply 0 0) 0) [] (refused_line (get_or reply 0 0) n) ≡ told_row d x.0 n
  tells o x reply e n = ap (λ (m : ℕ). cond (eqb m 0) [] (refused_line m n)) (ap (λ (l : List ℕ). get_or l 0 0) e ∙ first_said o x.0 x.1) ∙ by_refusal x.0 n
