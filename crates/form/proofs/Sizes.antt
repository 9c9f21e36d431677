-- How many bytes a text's rows have, and so how many rows there are. Laws.
use Rattle.std.specs.Prelude.{is_some, unwrap_or, bytes_eq}
use mathlib.Core.Path.{◌≡◌, refl, ap}
use mathlib.Core.List.{List, [], ◌∷◌}
use mathlib.Core.Option.{Option as Maybe, none, some}
use mathlib.Core.Bool.{Bool, true, false, ◌&&◌, cond, false≢true}
use Prim.Native.Nat.{ℕ, suc, ◌+◌, ◌*◌, ◌≤◌, ◌<◌}
use native.Mathlib.Omega.{arith}
use borrow.Author.Tests.{leb-true}
use lib.Dec.{eqb, leb}
use lib.ListN.{length}
use Rattle.std.specs.Prelude.{Option}
use Rattle.std.specs.Prelude.{Some, None}
use Rattle.std.proofs.lemmas.Slice.Eq.{bytes_eq-Decides}
use Rattle.text.specs.Pieces.{onto, pieces}
use Rattle.text.specs.Numbers.{decimal_of}
use Rattle.form.specs.Rows.{Op, row_by, row_of, is_there}
use Rattle.form.specs.Making.{Making, making_by, making_of}
use Rattle.form.specs.Form.{Rows, bad_row, op_rows, with_row, rows_from, making_names, op_names, bad, made, blocks, parsed, FewRows}

-- ---- the bytes of pieces, with one more for each: a text's own, and one more
abbrev size : List (List ℕ) → ℕ
size [] = 0
size (p ∷ ps) = suc (length p) + size ps

size_onto : (x : ℕ) (ps : List (List ℕ)) (n : ℕ) → size ps ≡ suc n → size (onto x ps) ≡ suc (suc n)
size_onto x [] n e = absurd (omega arith)
size_onto x (p ∷ ps) n e = omega arith

size_pieces : (b : ℕ) (s : List ℕ) → size (pieces b s) ≡ suc (length s)
unfolding pieces
size_pieces b [] = omega arith
size_pieces b (x ∷ s) = go (eqb x b) (size_pieces b s)
  where
    go : (t : Bool) → size (pieces b s) ≡ suc (length s) → size (cond t ([] ∷ pieces b s) (onto x (pieces b s))) ≡ suc (suc (length s))
    go true h = omega arith
    go false h = size_onto x (pieces b s) (length s) h

-- ---- a number has a digit, so an op row has 3 bytes and more, and a making 5
some_digit : (p : List ℕ) → is_some (decimal_of p) ≡ true → 1 ≤ length p
unfolding decimal_of
some_digit [] e = absurd (false≢true e)
some_digit (x ∷ p) e = omega arith

row_size : (ps : List (List ℕ)) → is_there (row_of ps) ≡ true → 4 ≤ size ps
unfolding row_of row_by
row_size [] e = absurd (false≢true e)
row_size (o ∷ []) e = absurd (false≢true e)
row_size (o ∷ i ∷ ps) e = go (is_some (decimal_of i)) (decimal_of o) (some_digit i) (some_digit o) e
  where
    go : (t : Bool) (v : Option ℕ) → (t ≡ true → 1 ≤ length i) → (is_some v ≡ true → 1 ≤ length o) → is_there (cond t (row_by v (unwrap_or (decimal_of i) 0) ps) none) ≡ true → 4 ≤ size (o ∷ i ∷ ps)
    go false v f g h = absurd (false≢true h)
    go true None f g h = absurd (false≢true h)
    go true (Some n) f g h = omega (arith, f refl, g refl)

row_bytes_lem : (s : List ℕ) → is_there (row_of (pieces 32 s)) ≡ true → 3 ≤ length s
row_bytes_lem s e = omega (arith, row_size (pieces 32 s) e, size_pieces 32 s)

making_size : (ps : List (List ℕ)) → is_there (making_of ps) ≡ true → 6 ≤ size ps
unfolding making_of
making_size [] e = absurd (false≢true e)
making_size (a ∷ []) e = absurd (false≢true e)
making_size (a ∷ b ∷ []) e = absurd (false≢true e)
making_size (a ∷ b ∷ c ∷ []) e = go (decimal_of a) (decimal_of b) (decimal_of c) (some_digit a) (some_digit b) (some_digit c) e
  where
    go : (x y z : Option ℕ) → (is_some x ≡ true → 1 ≤ length a) → (is_some y ≡ true → 1 ≤ length b) → (is_some z ≡ true → 1 ≤ length c)
        → is_there (making_by x y z) ≡ true → 6 ≤ size (a ∷ b ∷ c ∷ [])
    go None y z f g k h = absurd (false≢true h)
    go (Some x) None z f g k h = absurd (false≢true h)
    go (Some x) (Some y) None f g k h = absurd (false≢true h)
    go (Some x) (Some y) (Some z) f g k h = omega (arith, f refl, g refl, k refl)
making_size (a ∷ b ∷ c ∷ d ∷ ps) e = absurd (false≢true e)

making_bytes : (s : List ℕ) → is_there (making_of (pieces 32 s)) ≡ true → 5 ≤ length s
making_bytes s e = omega (arith, making_size (pieces 32 s) e, size_pieces 32 s)

-- ---- the op rows, and a bad one's number, by the bytes from them on
abbrev InSize : ℕ → ℕ → Rows → Type 0
InSize n bytes (bad_row k) = k ≤ n + 1 + bytes
InSize n bytes (op_rows os) = 4 * length os < bytes

rows_in : (n : ℕ) (ps : List (List ℕ)) → InSize n (size ps) (rows_from n ps)
unfolding rows_from
rows_in n [] = omega arith
rows_in n (p ∷ []) = go (eqb (length p) 0)
  where
    go : (t : Bool) → InSize n (size (p ∷ [])) (cond t (op_rows []) (bad_row (n + 1)))
    go true = omega arith
    go false = omega arith
rows_in n (p ∷ q ∷ ps) = go (row_of (pieces 32 p)) (rows_from (n + 1) (q ∷ ps)) (row_bytes_lem p) (rows_in (n + 1) (q ∷ ps))
  where
    go : (o : Maybe Op) (r : Rows) → (is_there o ≡ true → 3 ≤ length p) → InSize (n + 1) (size (q ∷ ps)) r → InSize n (size (p ∷ q ∷ ps)) (with_row (n + 1) o r)
    go none r h w = omega arith
    go (some o) (bad_row k) h w = omega arith
    go (some o) (op_rows os) h w = omega (arith, h refl)

-- ---- the whole text
same_length : (a b : List ℕ) → bytes_eq a b ≡ true → length a ≡ length b
same_length a b e = ap length ((bytes_eq-Decides a b).0 e)

blocks_few : (ps : List (List ℕ)) → size ps ≤ 32769 → FewRows (blocks ps)
unfolding blocks
blocks_few [] h = omega arith
blocks_few (a ∷ []) h = omega arith
blocks_few (a ∷ b ∷ []) h = omega arith
blocks_few (a ∷ b ∷ c ∷ []) h = omega arith
blocks_few (a ∷ b ∷ c ∷ d ∷ ps) h =
    go (bytes_eq a making_names) (bytes_eq c op_names) (making_of (pieces 32 b)) (rows_from 0 (d ∷ ps)) (same_length a making_names) (same_length c op_names) (making_bytes b) (rows_in 0 (d ∷ ps))
  where
    go : (x y : Bool) (o : Maybe Making) (r : Rows) → (x ≡ true → length a ≡ 27) → (y ≡ true → length c ≡ 13) → (is_there o ≡ true → 5 ≤ length b)
        → InSize 0 (size (d ∷ ps)) r → FewRows (cond (x && y) (made o r) (bad 0))
    go false y o r e f g w = omega arith
    go true false o r e f g w = omega arith
    go true true none r e f g w = omega arith
    go true true (some m) (bad_row k) e f g w = omega arith
    go true true (some m) (op_rows os) e f g w = omega (arith, e refl, f refl, g refl)

pub few_rows_lem : (t : List ℕ) → FewRows (parsed t)
unfolding parsed
few_rows_lem t = go (leb (length t) 32768) refl
  where
    go : (b : Bool) → leb (length t) 32768 ≡ b → FewRows (cond b (blocks (pieces 10 t)) (bad 0))
    go true e = blocks_few (pieces 10 t) (omega (arith, leb-true (length t) 32768 e, size_pieces 10 t))
    go false e = omega arith
