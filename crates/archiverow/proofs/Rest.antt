-- An arrival's rest by its fields: the weight, and the words in either spelling. Assumes nothing.
use Rattle.std.specs.Prelude.{unwrap_or}
use mathlib.Core.Path.{◌≡◌, refl, sym, ap, ◌∙◌}
use mathlib.Core.Bool.{Bool, true, false}
use mathlib.Core.List.{List, [], ◌∷◌}
use Prim.Native.Nat.{ℕ, ◌-◌, ◌≤◌, ◌<◌}
use lib.ListN.{length, get_or, take, drop, length-map}
use lib.Seq.{sets}
use lib.Ieee.{Float, binary32, of_bits}
use Rattle.std.specs.Prelude.{Option}
use Rattle.text.specs.Pieces.{pieces_from, PieceEnds}
use Rattle.text.specs.Numbers.{word_of, bits_of}
use Rattle.text.specs.Fields.{word_in, words_from}
use Rattle.text.proofs.Pieces.{from_first, from_past}
use Rattle.text.proofs.Sizes.{bits_small}
use Rattle.namedwords.specs.Named.{is_named, named_in}
use Rattle.archiverow.specs.Rows.{words_in, weight_in, given_in, chance_in, arrival_words_in}

module _ (s : List ℕ) (k : ℕ) where
  pub weight_none : length s < k → of_bits binary32 0 ≡ weight_in (pieces_from 32 s k)
  weight_none h = rw (from_past 32 s k h)

  module _ {e : ℕ} (h : k ≤ length s) (w : PieceEnds 32 s k e) where
    pub weight_is : {n : Option ℕ} {v : ℕ} {x : Float} → n ≡ bits_of (take (e - k) (drop k s)) → v ≡ unwrap_or n 0 → x ≡ of_bits binary32 v → x ≡ weight_in (pieces_from 32 s k)
    weight_is p q r = rw (r, q, p, from_first 32 s k e h w)

pub bits_fit : (s : List ℕ) {v : ℕ} {n : Option ℕ} → n ≡ bits_of s → v ≡ unwrap_or n 0 → v < 4294967296
bits_fit s e f = rw (f, e) (bits_small s)

-- ---- the words after the weight, where their fields start at m
module _ (s : List ℕ) (k m : ℕ) (a : pieces_from 32 s m ≡ drop 1 (pieces_from 32 s k)) {t : Bool} (q : t ≡ is_named (pieces_from 32 s m)) where
  given_named : t ≡ true → named_in (pieces_from 32 s m) ≡ given_in (drop 1 (pieces_from 32 s k))
  given_named z = rw (← a, ← q, z)

  given_written : t ≡ false → words_in (pieces_from 32 s m) ≡ given_in (drop 1 (pieces_from 32 s k))
  given_written z = rw (← a, ← q, z)

  pub chance_named : t ≡ true → {x : ℕ} → x ≡ get_or (named_in (pieces_from 32 s m)) 0 0 → x ≡ chance_in (pieces_from 32 s k)
  chance_named z e = e ∙ ap (λ (ws : List ℕ). get_or ws 0 0) (given_named z)

  pub chance_written : t ≡ false → {x : ℕ} → x ≡ word_in 0 (pieces_from 32 s m) → x ≡ chance_in (pieces_from 32 s k)
  unfolding word_of
  chance_written z e = e ∙ go (pieces_from 32 s m) ∙ ap (λ (ws : List ℕ). get_or ws 0 0) (given_written z)
    where
      go : (qs : List (List ℕ)) → word_in 0 qs ≡ get_or (words_in qs) 0 0
      go [] = refl
      go (p ∷ qs) = refl

  -- r of them, of which the lent list l holds some after
  module _ {r : ℕ} (l : List ℕ) {after : List ℕ} where
    pub words_named : t ≡ true → (r ≡ length (drop 1 (named_in (pieces_from 32 s m)))) × (after ≡ sets l 0 (drop 1 (named_in (pieces_from 32 s m))))
        → (r ≡ length (arrival_words_in (pieces_from 32 s k))) × (after ≡ sets l 0 (arrival_words_in (pieces_from 32 s k)))
    words_named z (e, f) = let g = ap (drop 1) (given_named z) in (e ∙ ap length g, f ∙ ap (sets l 0) g)

    -- written out, those for the tree from n on
    pub words_written : t ≡ false → (n : ℕ) → pieces_from 32 s n ≡ drop 1 (pieces_from 32 s m) → (r ≡ length (pieces_from 32 s n)) × (after ≡ sets l 0 (words_from s n))
        → (r ≡ length (arrival_words_in (pieces_from 32 s k))) × (after ≡ sets l 0 (arrival_words_in (pieces_from 32 s k)))
    words_written z n b (e, f) =
        let g : words_in (pieces_from 32 s n) ≡ arrival_words_in (pieces_from 32 s k) = ap words_in b ∙ go (pieces_from 32 s m) ∙ ap (drop 1) (given_written z) in
        let count : length (words_in (pieces_from 32 s n)) ≡ length (pieces_from 32 s n) = length-map (pieces_from 32 s n) _ in
        (e ∙ sym count ∙ ap length g, f ∙ ap (sets l 0) g)
      where
        go : (qs : List (List ℕ)) → words_in (drop 1 qs) ≡ drop 1 (words_in qs)
        go [] = refl
        go (p ∷ qs) = refl
