-- A row by its rest, by its op and by its fields. Assumes nothing.
use Rattle.std.specs.Prelude.{is_some}
use mathlib.Core.Path.{◌≡◌, sym, ◌∙◌}
use mathlib.Core.List.{List, ◌∷◌}
use mathlib.Core.Bool.{Bool, true, false, ◌||◌}
use Prim.Native.Nat.{ℕ, ◌+◌, ◌-◌, ◌≤◌, ◌<◌}
use native.Mathlib.Omega.{arith}
use borrow.Author.Tests.{lt-leb, le-leb}
use lib.Dec.{leb}
use lib.ListN.{length, take, drop}
use Rattle.std.specs.Prelude.{Option}
use Rattle.text.specs.Pieces.{pieces, pieces_from, PieceEnds}
use Rattle.text.specs.Numbers.{decimal_of, bits_of}
use Rattle.text.proofs.Pieces.{from_zero, from_first, from_past, own_end}
use Rattle.form.specs.Rows.{are_words, rest_at}
use Rattle.namedwords.specs.Named.{is_named}
use Rattle.archiverow.specs.declared.Line.{Line}
use Rattle.refusals.specs.declared.Refusal.{Refusal}
use Rattle.refusals.specs.declared.Refusal.TheVariants.{OutOfForm}
use Rattle.std.specs.Prelude.{Result, Err}
use Rattle.archiverow.specs.Rows.{out_of_form, is_arrival, row_by_number, row_of_fields, longest_row, row_of}
use Rattle.archiverow.specs.Read.{answer_at, read_line}

-- ---- an arrival's rest from a place on, by its first field, which ends at e
module _ (s : List ℕ) (k : ℕ) where
  pub arrival_none : length s < k → false ≡ is_arrival (pieces_from 32 s k)
  unfolding is_arrival
  arrival_none h = rw (from_past 32 s k h)

  module _ {e : ℕ} (h : k ≤ length s) (w : PieceEnds 32 s k e) where
    pub arrival_one : e ≡ length s → false ≡ is_arrival (pieces_from 32 s k)
    unfolding is_arrival
    arrival_one q = rw (from_first 32 s k e h w, from_past 32 s (e + 1) (omega arith))

    module _ (more : e ≡ length s → ⊥) where
      arrival_fields : is_arrival (pieces_from 32 s k) ≡ is_arrival (take (e - k) (drop k s) ∷ pieces_from 32 s (e + 1))
      arrival_fields = rw (from_first 32 s k e h w)

      second : {f : ℕ} → PieceEnds 32 s (e + 1) f → pieces_from 32 s (e + 1) ≡ take (f - (e + 1)) (drop (e + 1) s) ∷ pieces_from 32 s (f + 1)
      second x = let g : e + 1 ≤ length s = omega arith in from_first 32 s (e + 1) _ g x

      pub arrival_bad : is_some (bits_of (take (e - k) (drop k s))) ≡ false → false ≡ is_arrival (pieces_from 32 s k)
      unfolding is_arrival
      arrival_bad z =
          let g : e + 1 ≤ length s = omega arith in
          rw (arrival_fields, second (own_end 32 s (e + 1) g), z)

      module _ (z : is_some (bits_of (take (e - k) (drop k s))) ≡ true) {u : Bool} (a : u ≡ are_words (pieces_from 32 s (e + 1))) where
        weighed : is_arrival (pieces_from 32 s k) ≡ (are_words (pieces_from 32 s (e + 1)) || is_named (pieces_from 32 s (e + 1)))
        unfolding is_arrival
        weighed =
            let g : e + 1 ≤ length s = omega arith in
            rw (arrival_fields, second (own_end 32 s (e + 1) g), z)

        pub arrival_words : u ≡ true → true ≡ is_arrival (pieces_from 32 s k)
        arrival_words y = rw (weighed, sym a ∙ y)

        pub arrival_named : u ≡ false → is_named (pieces_from 32 s (e + 1)) ≡ is_arrival (pieces_from 32 s k)
        arrival_named y = rw (weighed, sym a ∙ y)

-- ---- by the fields
module _ (s : List ℕ) where
  pub row_long : leb (length s) longest_row ≡ false → row_of s ≡ out_of_form
  unfolding row_of
  row_long e = rw e

  pub too_long : longest_row < length s → Err OutOfForm ≡ read_line s
  unfolding read_line
  too_long h = rw (row_long (lt-leb _ _ h))

  module _ (short : length s ≤ longest_row) where
    by_fields : row_of s ≡ row_of_fields (pieces 32 s)
    unfolding row_of
    by_fields = rw (le-leb _ _ short)

    -- the first ends at e
    module _ {e : ℕ} (w : PieceEnds 32 s 0 e) where
      pub one_field : e ≡ length s → row_of s ≡ out_of_form
      unfolding row_of_fields
      one_field h = rw (by_fields, ← from_zero 32 s, from_first 32 s 0 e (omega arith) w, from_past 32 s (e + 1) (omega arith))

      pub line_one : e ≡ length s → Err OutOfForm ≡ read_line s
      unfolding read_line
      line_one h = rw (one_field h)

      -- the second ends at f
      module _ (h : e ≡ length s → ⊥) {f : ℕ} (x : PieceEnds 32 s (e + 1) f) where
        pub two_fields : row_of s ≡ row_by_number (decimal_of (take (e - 0) (drop 0 s))) (take (f - (e + 1)) (drop (e + 1) s)) (pieces_from 32 s (f + 1))
        unfolding row_of_fields
        two_fields = let g : e + 1 ≤ length s = omega arith in rw (by_fields, ← from_zero 32 s, from_first 32 s 0 e (omega arith) w, from_first 32 s (e + 1) f g x)

        pub rest_at_lem : rest_at s ≡ f + 1
        unfolding rest_at
        rest_at_lem = rw (← w.is, ← x.is)

        pub line_two : {n : Option ℕ} {r : Result Line Refusal} → n ≡ decimal_of (take (e - 0) (drop 0 s)) → r ≡ answer_at (f + 1) (row_by_number n (take (f - (e + 1)) (drop (e + 1) s)) (pieces_from 32 s (f + 1))) → r ≡ read_line s
        unfolding read_line
        line_two d q = rw (two_fields, rest_at_lem, ← d) q
