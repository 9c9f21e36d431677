-- The whole text by its lines: too long, too few lines, and the two blocks. Assumes nothing.
use mathlib.Core.Path.{◌≡◌, refl, sym, ap, ◌∙◌}
use mathlib.Core.List.{List, []}
use mathlib.Core.Option.{Option as Maybe, none, some}
use mathlib.Core.Bool.{Bool, true, false, ◌&&◌, cond, true≢false, false≢true}
use Prim.Native.Nat.{ℕ, ◌+◌, ◌-◌, ◌≤◌, ◌<◌}
use native.Mathlib.Nat.{zero-add}
use native.Mathlib.Omega.{arith}
use borrow.Author.Tests.{le-leb, lt-leb}
use lib.ListN.{length, take, drop}
use Rattle.text.specs.Pieces.{pieces, pieces_from, PieceEnds}
use Rattle.text.proofs.Pieces.{from_first, from_past, own_end}
use Rattle.form.specs.Rows.{is_there}
use Rattle.form.specs.Making.{Making, making_of}
use Rattle.form.specs.Form.{Rows, bad_row, op_rows, rows_from, making_names, op_names, bad, made, blocks, parsed, form_from, form_of}
use Rattle.form.specs.Lines.{rows_form, FirstLines}
use Rattle.form.specs.declared.BadRow.{BadRow}
use Rattle.std.specs.Prelude.{Result, Ok, bytes_eq}
use Rattle.form.specs.Form.{first_bad}
use Rattle.form.proofs.Lines.{one, two, three}

-- ---- the lines
pub form_long : (s : List ℕ) → 32768 < length s → first_bad 0 ≡ form_of s
unfolding form_of parsed
form_long s h = rw (lt-leb _ _ h)

module _ (s : List ℕ) (l : length s ≤ 32768) where
  pub form_lines : form_of s ≡ form_from (blocks (pieces 10 s))
  unfolding form_of parsed
  form_lines = rw (le-leb _ _ l)

  module _ {a : ℕ} (wa : PieceEnds 10 s 0 a) where
    pub form_one : a ≡ length s → first_bad 0 ≡ form_of s
    unfolding blocks
    form_one h = rw (form_lines, one 10 s wa h)

    module _ (na : a ≡ length s → ⊥) {b : ℕ} (wb : PieceEnds 10 s (a + 1) b) where
      pub form_two : b ≡ length s → first_bad 0 ≡ form_of s
      unfolding blocks
      form_two h = rw (form_lines, two 10 s wa na wb h)

      module _ (nb : b ≡ length s → ⊥) {c : ℕ} (wc : PieceEnds 10 s (b + 1) c) where
        pub form_three : c ≡ length s → first_bad 0 ≡ form_of s
        unfolding blocks
        form_three h = rw (form_lines, three 10 s wa na wb nb wc, past h)
          where
            past : c ≡ length s → pieces_from 10 s (c + 1) ≡ []
            past h = from_past 10 s (c + 1) (omega arith)

        pub first_lines : (c ≡ length s → ⊥) → FirstLines s a b c
        first_lines h = record { first = wa; second = wb; third = wc; more = omega arith }

-- ---- the two blocks
module _ {s : List ℕ} {a b c : ℕ} (w : FirstLines s a b c) where
  pub by_blocks : blocks (pieces 10 s)
      ≡ cond (bytes_eq (take (a - 0) (drop 0 s)) making_names && bytes_eq (take (c - (b + 1)) (drop (b + 1) s)) op_names) (made (making_of (pieces 32 (take (b - (a + 1)) (drop (a + 1) s)))) (rows_from 0 (pieces_from 10 s (c + 1)))) (bad 0)
  unfolding blocks
  by_blocks =
      let na : a ≡ length s → ⊥ = λ h. omega (arith, w.second.from, w.third.from, w.more) in
      let nb : b ≡ length s → ⊥ = λ h. omega (arith, w.third.from, w.more) in
      let g : c + 1 ≤ length s = omega (arith, w.more) in
      rw (three 10 s w.first na w.second nb w.third, from_first 10 s (c + 1) _ g (own_end 10 s (c + 1) g))

  pub names_bad : bytes_eq (take (a - 0) (drop 0 s)) making_names ≡ false → first_bad 0 ≡ form_from (blocks (pieces 10 s))
  names_bad z = rw (by_blocks, z)

  module _ (z : bytes_eq (take (a - 0) (drop 0 s)) making_names ≡ true) where
    pub ops_bad : bytes_eq (take (c - (b + 1)) (drop (b + 1) s)) op_names ≡ false → first_bad 0 ≡ form_from (blocks (pieces 10 s))
    ops_bad y = rw (by_blocks, z, y)

    module _ (y : bytes_eq (take (c - (b + 1)) (drop (b + 1) s)) op_names ≡ true) where
      module _ {m : Bool} (r : m ≡ is_there (making_of (pieces 32 (take (b - (a + 1)) (drop (a + 1) s))))) where
        abbrev making : Maybe Making
        making = making_of (pieces 32 (take (b - (a + 1)) (drop (a + 1) s)))

        abbrev rows : Rows
        rows = rows_from 0 (pieces_from 10 s (c + 1))

        pub making_bad : m ≡ false → first_bad 0 ≡ form_from (blocks (pieces 10 s))
        making_bad x = rw (by_blocks, z, y) (not_made making rows (sym r ∙ x))
          where
            not_made : (o : Maybe Making) (rs : Rows) → is_there o ≡ false → first_bad 0 ≡ form_from (made o rs)
            not_made none rs h = refl
            not_made (some m) rs h = absurd (true≢false h)

        pub making_good : m ≡ true → {f : Result ℕ BadRow} → f ≡ rows_form 0 (rows_from 0 (pieces_from 10 s (c + 1))) → f ≡ form_from (blocks (pieces 10 s))
        making_good x {f} e = rw (by_blocks, z, y) (e ∙ is_made making rows (sym r ∙ x))
          where
            is_made : (o : Maybe Making) (rs : Rows) → is_there o ≡ true → rows_form 0 rs ≡ form_from (made o rs)
            is_made none rs h = absurd (false≢true h)
            is_made (some m) (bad_row k) h = refl
            is_made (some m) (op_rows os) h = ap Ok (zero-add (length os))
