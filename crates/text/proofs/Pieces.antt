-- The pieces of a text: the search for a separator, where a piece ends, and the pieces from a place on by the first of them. Assumes nothing.
use mathlib.Core.Path.{◌≡◌, refl, sym, ◌∙◌}
use mathlib.Core.List.{List, [], ◌∷◌}
use mathlib.Core.Bool.{Bool, true, false, cond, not}
use Prim.Native.Nat.{ℕ, zero, suc, ◌+◌, ◌-◌, ◌≤◌, ◌<◌}
use native.Mathlib.Nat.{zero-add, add-zero, suc-add}
use native.Mathlib.Omega.{arith}
use borrow.Author.Tests.{le-leb, lt-leb, ltb-false}
use lib.ListN.{length, take, drop, length-drop}
use lib.Dec.{eqb, ltb, leb-suc-suc, leb-zero}
use Rattle.std.specs.Prelude.{Some, None, unwrap_or, position}
use Rattle.std.specs.List.{position_or_len}
use Rattle.text.specs.Pieces.{onto, pieces, pieces_from, bytes_before, piece_end, next_piece, PieceEnds}
use Rattle.text.proofs.Lists.{rest}

-- ---- the search for a byte is std's
before_is : (b : ℕ) (s : List ℕ) → position_or_len (λ x. eqb x b) s ≡ bytes_before b s
unfolding bytes_before
before_is b [] = refl
before_is b (x ∷ s) = go (eqb x b) (before_is b s)
  where
    go : (t : Bool) → position_or_len (λ x. eqb x b) s ≡ bytes_before b s → cond (not t) (1 + position_or_len (λ x. eqb x b) s) 0 ≡ cond t 0 (suc (bytes_before b s))
    go true h = refl
    go false h = omega arith

before_le : (b : ℕ) (s : List ℕ) → bytes_before b s ≤ length s
unfolding bytes_before
before_le b [] = omega arith
before_le b (x ∷ s) = go (eqb x b) (before_le b s)
  where
    go : (t : Bool) → bytes_before b s ≤ length s → cond t 0 (suc (bytes_before b s)) ≤ suc (length s)
    go true h = omega arith
    go false h = omega arith

pick : (p n : ℕ) → p ≤ n → unwrap_or (cond (ltb p n) (Some p) None) n ≡ p
pick p n h = go (ltb p n) refl
  where
    go : (t : Bool) → ltb p n ≡ t → unwrap_or (cond t (Some p) None) n ≡ p
    go true e = refl
    go false e = let l : n ≤ p = omega (arith, ltb-false) in omega arith

pub position_before : (b : ℕ) (s : List ℕ) → unwrap_or (position (λ x. eqb x b) s) (length s) ≡ bytes_before b s
position_before b s = rw (before_is b s) (pick _ _ (before_le b s))

-- ---- the first piece, and those after it
from_suc : (b x : ℕ) (s : List ℕ) (k : ℕ) → pieces_from b (x ∷ s) (suc k) ≡ pieces_from b s k
unfolding pieces_from
from_suc b x s k = rw leb-suc-suc

pub from_zero : (b : ℕ) (s : List ℕ) → pieces_from b s 0 ≡ pieces b s
unfolding pieces_from
from_zero b s = rw leb-zero

first : (b : ℕ) (s : List ℕ) → pieces b s ≡ take (bytes_before b s) s ∷ pieces_from b s (suc (bytes_before b s))
unfolding pieces bytes_before pieces_from
first b [] = refl
first b (x ∷ s) = go (eqb x b) (first b s)
  where
    go : (t : Bool) → pieces b s ≡ take (bytes_before b s) s ∷ pieces_from b s (suc (bytes_before b s))
        → cond t ([] ∷ pieces b s) (onto x (pieces b s)) ≡ take (cond t 0 (suc (bytes_before b s))) (x ∷ s) ∷ pieces_from b (x ∷ s) (suc (cond t 0 (suc (bytes_before b s))))
    go true h = rw (from_suc b x s 0, from_zero b s)
    go false h = rw (from_suc b x s (suc (bytes_before b s)), h)

from_drop : (b : ℕ) (s : List ℕ) (k j : ℕ) → k ≤ length s → pieces_from b (drop k s) j ≡ pieces_from b s (k + j)
from_drop b s zero j h = rw (zero-add j)
from_drop b [] (suc k) j h = absurd (omega arith)
from_drop b (x ∷ s) (suc k) j h = rw (suc-add k j, from_suc b x s (k + j)) (from_drop b s k j (omega arith))

-- the piece that starts at k ends where the search in the slice from k on says
pub ends : (b : ℕ) (s : List ℕ) (k n : ℕ) → k ≤ length s → n ≡ bytes_before b (take (length s - k) (drop k s)) → PieceEnds b s k (k + n)
unfolding piece_end
ends b s k n h q =
    let t : n ≡ bytes_before b (drop k s) = rw (rest s k) at q in
    record { is = rw t; from = omega arith; most = omega (arith, before_le b (drop k s), length-drop k s) }

-- the same with no search at hand
pub own_end : (b : ℕ) (s : List ℕ) (k : ℕ) → k ≤ length s → PieceEnds b s k (k + bytes_before b (take (length s - k) (drop k s)))
own_end b s k h = ends b s k _ h refl

-- the first piece from k on is the slice `&s[k..e]`
module _ (b : ℕ) (s : List ℕ) (k e : ℕ) (h : k ≤ length s) (w : PieceEnds b s k e) where
  pub from_first : pieces_from b s k ≡ take (e - k) (drop k s) ∷ pieces_from b s (e + 1)
  unfolding piece_end
  from_first =
      let l = bytes_before b (drop k s) in
      let t : e - k ≡ l = omega arith in
      let u : e + 1 ≡ k + suc l = omega arith in
      rw (t, u, ← from_drop b s k (suc l) h, ← first b (drop k s)) (rw (add-zero k) at (sym (from_drop b s k 0 h)) ∙ from_zero b (drop k s))

-- past the end there is none
pub from_past : (b : ℕ) (s : List ℕ) (k : ℕ) → length s < k → pieces_from b s k ≡ []
unfolding pieces_from
from_past b s k h = rw (lt-leb _ _ h)

-- within the text there is one
pub from_some : (b : ℕ) (s : List ℕ) (k : ℕ) → k ≤ length s → length (pieces_from b s k) ≡ 0 → ⊥
from_some b s k h z =
    let a = rw (from_first b s k _ h (own_end b s k h)) at z in
    omega arith

-- where the pieces after the first start
module _ (s : List ℕ) (k : ℕ) where
  pub after_none : length s < k → (k ≡ next_piece 32 s k) × (pieces_from 32 s k ≡ drop 1 (pieces_from 32 s k))
  after_none h = (rw (lt-leb _ _ h), rw (from_past 32 s k h))

  pub after_one : {e : ℕ} → k ≤ length s → PieceEnds 32 s k e → (e + 1 ≡ next_piece 32 s k) × (pieces_from 32 s (e + 1) ≡ drop 1 (pieces_from 32 s k))
  after_one {e} h w = (rw (le-leb _ _ h, ← w.is), rw (from_first 32 s k e h w))
