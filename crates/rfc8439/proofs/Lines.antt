-- Whether a line holds, by the tests that lead there; and the lines that hold, counted. Laws.
use mathlib.Core.Path.{◌≡◌, refl, ap, ◌∙◌}
use mathlib.Core.Bool.{Bool, true, false, cond}
use mathlib.Core.List.{List, [], ◌∷◌, ◌++◌}
use Prim.Native.Nat.{ℕ, zero, suc, ◌+◌, ◌≤◌, ◌<◌}
use native.Mathlib.Omega.{arith}
use borrow.Author.Tests.{eq-eqb, ne_eqb}
use lib.Dec.{eqb}
use lib.ListN.{length, take, get_or}
use Rattle.std.specs.List.{slice_split, onto_first}
use Rattle.text.specs.Pieces.{onto, pieces}
use Rattle.std.specs.Prelude.{bytes_eq}
use Rattle.std.proofs.lemmas.List.{take_all, length-append}
use Rattle.hexbytes.specs.Hex.{is_hex, hex_bytes}
use Rattle.chacha20.specs.Block.{chacha20_block}
use Rattle.rfc8439.specs.Vectors.{counter_of, key, counter, nonce, block, holds, holding}

-- ---- a line
module _ (line : List ℕ) where
  pub other_length : (length line ≡ 227 → ⊥) → false ≡ holds line
  unfolding holds
  other_length n = rw (ne_eqb _ _ n)

  module _ (l : length line ≡ 227) {a : Bool} (p : a ≡ is_hex 32 (key line)) where
    pub no_key : a ≡ false → false ≡ holds line
    unfolding holds
    no_key z = rw (eq-eqb _ _ l, ← p, z)

    module _ (y : a ≡ true) {b : Bool} (q : b ≡ is_hex 12 (nonce line)) where
      pub no_nonce : b ≡ false → false ≡ holds line
      unfolding holds
      no_nonce z = rw (eq-eqb _ _ l, ← p, y, ← q, z)

      module _ (x : b ≡ true) {c : Bool} (r : c ≡ is_hex 64 (block line)) where
        pub no_block : c ≡ false → false ≡ holds line
        unfolding holds
        no_block z = rw (eq-eqb _ _ l, ← p, y, ← q, x, ← r, z)

        pub compared : c ≡ true → (k n b : List ℕ) (m : ℕ) → k ≡ hex_bytes (key line) → m ≡ counter_of (counter line) → n ≡ hex_bytes (nonce line) → b ≡ hex_bytes (block line)
            → (t : Bool) → t ≡ bytes_eq (chacha20_block k m n) b → t ≡ holds line
        unfolding holds
        compared z k n b m e f g h t w = w ∙ rw (eq-eqb _ _ l, ← p, y, ← q, x, ← r, z, e, f, g, h)

-- ---- the pieces of a text are what it splits into at its line feeds, and those that hold are counted one after another
pub split_is : (s : List ℕ) → slice_split (λ x. eqb x 10) s ≡ pieces 10 s
unfolding pieces
split_is [] = refl
split_is (x ∷ s) = rw (split_is s, onto_is x (pieces 10 s))
  where
    onto_is : (x : ℕ) (ps : List (List ℕ)) → onto_first x ps ≡ onto x ps
    onto_is x [] = refl
    onto_is x (p ∷ ps) = refl

pub split_few : (s : List ℕ) → length (slice_split (λ x. eqb x 10) s) ≤ length s + 1
split_few [] = omega arith
split_few (x ∷ s) = go (eqb x 10) (slice_split (λ x. eqb x 10) s) (split_few s)
  where
    go : (t : Bool) (ps : List (List ℕ)) → length ps ≤ length s + 1 → length (cond t ([] ∷ ps) (onto_first x ps)) ≤ suc (length s) + 1
    go true ps h = omega arith
    go false [] h = omega arith
    go false (p ∷ ps) h = omega arith

pub held_few : (ls : List (List ℕ)) (k : ℕ) → holding (take k ls) ≤ k
held_few [] zero = omega arith
held_few [] (suc k) = omega arith
held_few (l ∷ ls) zero = omega arith
held_few (l ∷ ls) (suc k) = go (holds l) (held_few ls k)
  where
    go : (t : Bool) → holding (take k ls) ≤ k → cond t 1 0 + holding (take k ls) ≤ suc k
    go true h = omega arith
    go false h = omega arith

pub held_turn : (ls : List (List ℕ)) (k : ℕ) (x : List ℕ) → k < length ls → x ≡ get_or ls k x → holding (take (suc k) ls) ≡ holding (take k ls) + cond (holds x) 1 0
held_turn [] k x h e = absurd (omega arith)
held_turn (l ∷ ls) zero x h e = rw e (omega arith)
held_turn (l ∷ ls) (suc k) x h e = let it = held_turn ls k x (omega arith) e in omega arith

-- one piece more
pub held_next : (s : List ℕ) (n : ℕ) (x : List ℕ) {held m : ℕ} → n < length (slice_split (λ x. eqb x 10) s) → x ≡ get_or (slice_split (λ x. eqb x 10) s) n x → held ≡ holding (take n (pieces 10 s)) → m ≡ suc n
    → holding (take m (pieces 10 s)) ≡ held + cond (holds x) 1 0
held_next s n x h e i j = rw (j, i) (held_turn (pieces 10 s) n x (rw (split_is s) at h) (rw (split_is s) at e))

-- all pieces
pub held_all : (s : List ℕ) {n held : ℕ} → n ≡ length (slice_split (λ x. eqb x 10) s) → held ≡ holding (take n (pieces 10 s)) → (n ≡ length (pieces 10 s)) × (held ≡ holding (pieces 10 s))
held_all s {n} e i =
    let f : n ≡ length (pieces 10 s) = rw (split_is s) at e in
    (f, i ∙ ap holding (rw f (take_all (length (pieces 10 s)) (pieces 10 s) (omega arith))))

pub one_more : {A : Type 0} (xs : List A) (x : A) → length (xs ++ x ∷ []) ≡ suc (length xs)
one_more xs x = let it = length-append xs (x ∷ []) in omega arith
