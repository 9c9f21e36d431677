-- A text cut into the pieces between separator bytes: its lines between line feeds, a line's fields between spaces. Definitions.
use Rattle.std.specs.Prelude.{ℕ, suc, ◌+◌, ◌≤◌, ◌≡◌, refl, List, [], ◌∷◌, Bool, true, false, cond, length, drop, eqb, leb}
use Rattle.text.specs.Quoted.{bytes}

-- a byte put before the first of the pieces
abbrev pub onto : ℕ → List (List ℕ) → List (List ℕ)
onto x [] = (x ∷ []) ∷ []
onto x (p ∷ ps) = (x ∷ p) ∷ ps

-- Document 01, 'Printed tree': 'One space stands between fields, and every line, the last too, ends in a line feed.'
-- The pieces between the bytes b, one more than there are bytes b: two separators side by side have an empty piece between them, which is no field,
-- and after a last line's feed there is an empty piece.
unfoldable pub pieces : ℕ → List ℕ → List (List ℕ)
pieces b [] = [] ∷ []
pieces b (x ∷ s) = cond (eqb x b) ([] ∷ pieces b s) (onto x (pieces b s))

-- the field 0, an empty piece between the two spaces, the field 1, and an empty piece at the end
four_pieces : pieces 32 (bytes "0  1 ") ≡ bytes "0" ∷ [] ∷ bytes "1" ∷ [] ∷ []
unfolding pieces
four_pieces = refl

-- the pieces of what stands from the place k on, none past the text's end
unfoldable pub pieces_from : ℕ → List ℕ → ℕ → List (List ℕ)
pieces_from b s k = cond (leb k (length s)) (pieces b (drop k s)) []

-- how many bytes stand before the first b
unfoldable pub bytes_before : ℕ → List ℕ → ℕ
bytes_before b [] = 0
bytes_before b (x ∷ s) = cond (eqb x b) 0 (suc (bytes_before b s))

-- where the piece that starts at k ends
unfoldable pub piece_end : ℕ → List ℕ → ℕ → ℕ
piece_end b s k = k + bytes_before b (drop k s)

-- where the pieces after it start; past the text's end k itself
abbrev pub next_piece : ℕ → List ℕ → ℕ → ℕ
next_piece b s k = cond (leb k (length s)) (piece_end b s k + 1) k

-- the piece that starts at k ends at e, which lies within the text
pub record PieceEnds (b : ℕ) (s : List ℕ) (k e : ℕ) : Type 0 where
  pub is : e ≡ piece_end b s k
  pub from : k ≤ e
  pub most : e ≤ length s

-- whether each piece passes a test
abbrev pub all : (List ℕ → Bool) → List (List ℕ) → Bool
all f [] = true
all f (p ∷ ps) = cond (f p) (all f ps) false
