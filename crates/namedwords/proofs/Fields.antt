-- The fields from a place on that name words, one by one. Assumes nothing.
use Rattle.std.specs.Prelude.{is_some}
use mathlib.Core.Path.{◌≡◌, refl, ap, ◌∙◌}
use mathlib.Core.Bool.{Bool, true, false, cond, ◌&&◌, false≢true}
use mathlib.Core.List.{List, [], ◌∷◌}
use Prim.Native.Nat.{ℕ, ◌+◌, ◌-◌, ◌≤◌, ◌<◌}
use native.Mathlib.Omega.{arith}
use borrow.Author.Tests.{leb-true, leb-false, ne_eqb}
use lib.Dec.{eqb, leb}
use lib.ListN.{length, get_or, take, drop}
use lib.Seq.{get_or-drop}
use Rattle.text.specs.Pieces.{pieces_from, PieceEnds}
use Rattle.text.specs.Numbers.{word_of}
use Rattle.text.specs.Fields.{word_in}
use Rattle.text.proofs.Pieces.{from_first, from_past, from_some}
use Rattle.form.specs.Rows.{are_words}
use Rattle.hexbytes.specs.Hex.{hex_bytes}
use Rattle.namedwords.specs.Named.{is_key, is_named, key_in, first_in}

-- two tests, one after the other
pub both : (a b : Bool) → (a && b) ≡ true → (a ≡ true) × (b ≡ true)
both true b e = (refl, e)
both false b e = absurd (false≢true e)

module _ (s : List ℕ) (k : ℕ) where
  pub named_none : length s < k → false ≡ is_named (pieces_from 32 s k)
  unfolding is_named
  named_none h = rw (from_past 32 s k h)

  module _ {e : ℕ} (h : k ≤ length s) (w : PieceEnds 32 s k e) where
    pub named_one : e ≡ length s → false ≡ is_named (pieces_from 32 s k)
    unfolding is_named
    named_one q = rw (from_first 32 s k e h w, from_past 32 s (e + 1) (omega arith))

    module _ (more : e ≡ length s → ⊥) {f : ℕ} (x : PieceEnds 32 s (e + 1) f) where
      first_two : pieces_from 32 s k ≡ take (e - k) (drop k s) ∷ take (f - (e + 1)) (drop (e + 1) s) ∷ pieces_from 32 s (f + 1)
      first_two = let g : e + 1 ≤ length s = omega arith in from_first 32 s k e h w ∙ ap (λ (ps : List (List ℕ)). take (e - k) (drop k s) ∷ ps) (from_first 32 s (e + 1) f g x)

      pub named_more : (f ≡ length s → ⊥) → false ≡ is_named (pieces_from 32 s k)
      unfolding is_named
      named_more n =
          let l : length (pieces_from 32 s k) ≡ 2 → ⊥ = λ q. from_some 32 s (f + 1) (omega arith) (omega (arith, ap length first_two)) in
          rw (ne_eqb _ _ l)

      module _ (z : f ≡ length s) {t : Bool} (q : t ≡ is_key (take (e - k) (drop k s))) where
        two : pieces_from 32 s k ≡ take (e - k) (drop k s) ∷ take (f - (e + 1)) (drop (e + 1) s) ∷ []
        two = rw (from_past 32 s (f + 1) (omega arith)) at first_two

        pub named_not : t ≡ false → false ≡ is_named (pieces_from 32 s k)
        unfolding is_named
        named_not y = rw (two, ← q, y)

        pub named_word : t ≡ true → are_words (pieces_from 32 s (e + 1)) ≡ is_named (pieces_from 32 s k)
        unfolding is_named
        named_word y =
            let g : e + 1 ≤ length s = omega arith in
            rw (two, ← q, y, from_first 32 s (e + 1) f g x, from_past 32 s (f + 1) (omega arith)) (one (is_some (word_of (take (f - (e + 1)) (drop (e + 1) s)))))
          where
            one : (b : Bool) → cond b true false ≡ b
            one true = refl
            one false = refl

-- ---- of those that name words
pub has_key : (qs : List (List ℕ)) → is_named qs ≡ true → is_key (get_or qs 0 []) ≡ true
unfolding is_named
has_key qs e =
    let (p, _) = both (eqb (length qs) 2 && is_key (get_or qs 0 [])) (is_some (word_of (get_or qs 1 []))) e in
    (both (eqb (length qs) 2) (is_key (get_or qs 0 [])) p).1

module _ (s : List ℕ) (k : ℕ) (n : is_named (pieces_from 32 s k) ≡ true) where
  pub named_within : k ≤ length s
  named_within = go (leb k (length s)) refl
    where
      go : (t : Bool) → leb k (length s) ≡ t → k ≤ length s
      go true e = leb-true _ _ e
      go false e = absurd (false≢true (named_none s k (leb-false _ _ e) ∙ n))

  module _ {e : ℕ} (w : PieceEnds 32 s k e) where
    pub named_key : is_key (take (e - k) (drop k s)) ≡ true
    named_key = rw (from_first 32 s k e named_within w) at (has_key _ n)

    pub key_is : {key : List ℕ} → key ≡ hex_bytes (take (e - k) (drop k s)) → key ≡ key_in (pieces_from 32 s k)
    key_is q = rw (from_first 32 s k e named_within w) q

-- the second field's word, where the fields after the first start at m
pub first_is : (s : List ℕ) (k m : ℕ) → pieces_from 32 s m ≡ drop 1 (pieces_from 32 s k) → word_in 0 (pieces_from 32 s m) ≡ first_in (pieces_from 32 s k)
first_is s k m e = rw (e, get_or-drop 1 (pieces_from 32 s k) 0 [])
