-- An op row by its op, by its numbers and by its fields. Assumes nothing.
use Rattle.std.specs.Prelude.{is_some, unwrap_or}
use mathlib.Core.Path.{◌≡◌, refl, ap, ◌∙◌}
use mathlib.Core.List.{List}
use mathlib.Core.Option.{Option as Maybe, none, some}
use mathlib.Core.Bool.{Bool, true, false, cond}
use Prim.Native.Nat.{ℕ, ◌+◌, ◌-◌, ◌≤◌}
use native.Mathlib.Omega.{arith}
use borrow.Author.Tests.{eqb-true, eqb-false, ne_eqb, ltb-true, ltb-false}
use lib.Dec.{eqb, ltb}
use lib.ListN.{length, take, drop}
use Rattle.std.specs.Prelude.{Option}
use Rattle.std.specs.Prelude.{Some, None}
use Rattle.text.specs.Pieces.{pieces, pieces_from, PieceEnds}
use Rattle.text.specs.Numbers.{decimal_of}
use Rattle.text.specs.Fields.{words_from, coordinates_from}
use Rattle.text.proofs.Pieces.{from_zero, from_first, from_past, from_some, own_end}
use Rattle.form.specs.Rows.{Op, put, add, delete, are_coordinates, are_words, row_by, row_of, rest_at, answer_at, read_row, row_says, RowTells, is_there}
use Rattle.form.specs.declared.Row.{Row}

-- ---- a rest that starts past the row's end has no fields
pub rest_none : (s : List ℕ) (k : ℕ) → eqb (length (pieces_from 32 s k)) 0 ≡ ltb (length s) k
rest_none s k = go (ltb (length s) k) refl
  where
    go : (t : Bool) → ltb (length s) k ≡ t → eqb (length (pieces_from 32 s k)) 0 ≡ t
    go true e = rw (from_past 32 s k (ltb-true _ _ e))
    go false e = ne_eqb _ _ (from_some 32 s k (ltb-false _ _ e))

-- ---- by its fields
abbrev number_at : List ℕ → ℕ → ℕ → Option ℕ
number_at s k e = decimal_of (take (e - k) (drop k s))

-- the first field ends at e
module _ (s : List ℕ) {e : ℕ} (w : PieceEnds 32 s 0 e) where
  one_field : e ≡ length s → row_of (pieces 32 s) ≡ none
  unfolding row_of
  one_field h = rw (← from_zero 32 s, from_first 32 s 0 e (omega arith) w, from_past 32 s (e + 1) (omega arith))

  pub row_one : e ≡ length s → None ≡ read_row s
  unfolding read_row
  row_one h = rw (one_field h)

  -- the second ends at f
  module _ (h : e ≡ length s → ⊥) {f : ℕ} (x : PieceEnds 32 s (e + 1) f) where
    two_fields : row_of (pieces 32 s) ≡ cond (is_some (number_at s (e + 1) f)) (row_by (number_at s 0 e) (unwrap_or (number_at s (e + 1) f) 0) (pieces_from 32 s (f + 1))) none
    unfolding row_of
    two_fields = let g : e + 1 ≤ length s = omega arith in rw (← from_zero 32 s, from_first 32 s 0 e (omega arith) w, from_first 32 s (e + 1) f g x)

    rest_at_lem : rest_at s ≡ f + 1
    unfolding rest_at
    rest_at_lem = rw (← w.is, ← x.is)

    pub row_two : read_row s ≡ answer_at (f + 1) (cond (is_some (number_at s (e + 1) f)) (row_by (number_at s 0 e) (unwrap_or (number_at s (e + 1) f) 0) (pieces_from 32 s (f + 1))) none)
    unfolding read_row
    row_two = rw (two_fields, rest_at_lem)

-- ---- the answer says what the row is
module _ (s : List ℕ) (k : ℕ) where
  abbrev Told : Maybe Op → Type 0
  Told o = row_says s (answer_at k o) ≡ o

  told_op : (o : Option ℕ) (i : ℕ) → Told (row_by o i (pieces_from 32 s k))
  unfolding row_says row_by
  told_op None i = refl
  told_op (Some v) i = go (eqb v 0) (are_coordinates (pieces_from 32 s k)) (eqb v 1) (are_words (pieces_from 32 s k)) (eqb v 2) (eqb (length (pieces_from 32 s k)) 0)
    where
      go : (a b c d e f : Bool) → Told (cond a (cond b (some (put i (coordinates_from s k))) none) (cond c (cond d (some (add i (words_from s k))) none) (cond e (cond f (some (delete i)) none) none)))
      go true true c d e f = refl
      go true false c d e f = refl
      go false b true true e f = refl
      go false b true false e f = refl
      go false b false d true true = refl
      go false b false d true false = refl
      go false b false d false f = refl

  told : (o i : Option ℕ) → Told (cond (is_some i) (row_by o (unwrap_or i 0) (pieces_from 32 s k)) none)
  unfolding row_says
  told o None = refl
  told o (Some v) = told_op o v

pub row_tells : (s : List ℕ) → RowTells s
unfolding row_says read_row
row_tells s = go (own_end 32 s 0 (omega arith)) _ refl
  where
    two : {e : ℕ} → PieceEnds 32 s 0 e → (e ≡ length s → ⊥) → {f : ℕ} → PieceEnds 32 s (e + 1) f → RowTells s
    two {e} w h {f} x = rw (two_fields s w h x, rest_at_lem s w h x) (told s (f + 1) (number_at s 0 e) (number_at s (e + 1) f))

    go : {e : ℕ} → PieceEnds 32 s 0 e → (t : Bool) → eqb e (length s) ≡ t → RowTells s
    go {e} w true t = rw (one_field s w (eqb-true e (length s) t))
    go {e} w false t = let h : (e ≡ length s → ⊥) = eqb-false e (length s) t in two w h (own_end 32 s (e + 1) (omega (arith, w.most, h)))

-- ---- whether there is one, by the answer
pub row_said : (s : List ℕ) (h : Option Row) → h ≡ read_row s → is_some h ≡ is_there (row_of (pieces 32 s))
unfolding read_row
row_said s h e = ap is_some e ∙ go (row_of (pieces 32 s))
  where
    go : (o : Maybe Op) → is_some (answer_at (rest_at s) o) ≡ is_there o
    go none = refl
    go (some (put i xs)) = refl
    go (some (add i ws)) = refl
    go (some (delete i)) = refl
