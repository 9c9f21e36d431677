-- A text begins with the lines that are carried out of it, and the others are those of what is left. Laws.
use mathlib.Core.Path.{◌≡◌, refl, sym, ap, ◌∙◌}
use mathlib.Core.Bool.{Bool, true, false, cond}
use mathlib.Core.List.{List, [], ◌∷◌, ◌++◌, append_assoc}
use Prim.Native.Nat.{ℕ, ◌+◌}
use native.Mathlib.Omega.{arith}
use borrow.Author.Tests.{eqb-true}
use lib.Dec.{eqb, ltb}
use lib.Ieee.{Float}
use lib.ListN.{length, drop}
use lib.Seq.{drop-append_seam}
use Rattle.text.specs.Pieces.{onto, pieces}
use Rattle.wholetree.specs.Whole.{whole}
use Rattle.sampledtree.specs.Sampled.{Sampled}
use Rattle.archiverow.specs.Rows.{row_of}
use Rattle.archivecalls.specs.Carried.{row_leaves}
use Rattle.archivelines.specs.Answers.{answer_limit}
use Rattle.regrow_line.specs.Answered.{answered, in_form}
use Rattle.regrow_lines.specs.Batch.{lines_from, lines_in, ended, TextIs}

-- ---- lines at the front of a text, and what is left of it
record Parts (ls : List (List ℕ)) (text : List ℕ) : Type 0 where
  rest : List ℕ
  is : text ≡ ended ls ++ rest
  left : pieces 10 text ≡ ls ++ pieces 10 rest

none : {text : List ℕ} → Parts [] text
none {text} = record { rest = text; is = refl; left = refl }

-- the first line of a text that has a line feed
record First (l : List ℕ) (ps : List (List ℕ)) (text : List ℕ) : Type 0 where
  rest : List ℕ
  is : text ≡ l ++ 10 ∷ rest
  left : pieces 10 rest ≡ ps

first : (text l m : List ℕ) (ps : List (List ℕ)) → pieces 10 text ≡ l ∷ m ∷ ps → First l (m ∷ ps) text
unfolding pieces
first [] l m ps e = let z : ◌≡◌ {A = List (List ℕ)} [] (m ∷ ps) = cc in absurd (omega (arith, ap length z))
first (x ∷ text) l m ps e = go (eqb x 10) refl (pieces 10 text) refl (λ k h. first text k m ps h) e
  where
    go : (b : Bool) → eqb x 10 ≡ b → (qs : List (List ℕ)) → pieces 10 text ≡ qs → ((k : List ℕ) → pieces 10 text ≡ k ∷ m ∷ ps → First k (m ∷ ps) text) → cond b ([] ∷ qs) (onto x qs) ≡ l ∷ m ∷ ps → First l (m ∷ ps) (x ∷ text)
    go true t qs q f h = let z : x ≡ 10 = eqb-true x 10 t in record { rest = text; is = cc; left = cc }
    go false t [] q f h = let z : ◌≡◌ {A = List (List ℕ)} [] (m ∷ ps) = cc in absurd (omega (arith, ap length z))
    go false t (p ∷ qs) q f h =
        let F = f p (cc) in
        let z : x ∷ p ≡ l = cc in
        record { rest = F.rest; is = rw (← z) (ap (λ (u : List ℕ). x ∷ u) F.is); left = F.left }

-- one line before others
before : {l : List ℕ} {ms : List (List ℕ)} {text : List ℕ} → pieces 10 text ≡ l ∷ ms → (F : First l ms text) → {ls : List (List ℕ)} → Parts ls F.rest → Parts (l ∷ ls) text
before {l} e F {ls} P = record {
  rest = P.rest;
  is = F.is ∙ ap (λ (u : List ℕ). l ++ 10 ∷ u) P.is ∙ sym (append_assoc l (10 ∷ ended ls) P.rest);
  left = e ∙ ap (λ (u : List (List ℕ)). l ∷ u) (sym F.left ∙ P.left);
}

-- ---- those that are carried out
module _ (d : ℕ) (s : Float) (size : ℕ) where
  parts : (X : Sampled (whole d)) (r e : ℕ) (ps : List (List ℕ)) (text : List ℕ) → pieces 10 text ≡ ps → Parts (lines_from d s size X r e ps) text
  unfolding lines_from
  parts X r e [] text h = none
  parts X r e (l ∷ []) text h = none
  parts X r e (l ∷ m ∷ ps) text h =
      let F = first text l m ps h in
      go F (ltb size (e + answer_limit)) (in_form (row_of l)) _ (parts (row_leaves d X (row_of l)) (r + 1) (e + length (answered d s X (row_of l) r)) (m ∷ ps) F.rest F.left)
    where
      go : (F : First l (m ∷ ps) text) (b t : Bool) (ls : List (List ℕ)) → Parts ls F.rest → Parts (cond b [] (l ∷ cond t ls [])) text
      go F true t ls P = none
      go F false true ls P = before h F P
      go F false false ls P = before h F none

pub text_is : TextIs
text_is d s size X r text =
    let P = parts d s size X r 0 (pieces 10 text) text refl in
    let e : drop (length (ended (lines_in d s size X r text))) text ≡ P.rest = ap (drop (length (ended (lines_in d s size X r text)))) P.is ∙ drop-append_seam (ended (lines_in d s size X r text)) P.rest in
    rw e (P.is, P.left)
