-- How far two lists of bytes are the same, as a prefix of their pairs. Law.
use Rattle.std.proofs.Common.{◌≡◌, ℕ, suc, ◌+◌, cond, List, [], ◌∷◌, length, take, refl, ap, ◌∙◌, ◌==◌, arith}
use Rattle.std.specs.List.{prefix_len, zip}
use Rattle.std.proofs.lemmas.List.Folds.{length-prefix_len}
use Rattle.records.specs.Agreeing.{agreeing}

prefix : (xs ys : List ℕ) → prefix_len (λ (p : ℕ × ℕ). p.0 == p.1) (zip xs ys) ≡ agreeing xs ys
unfolding agreeing
prefix [] ys = refl
prefix (x ∷ xs) [] = refl
prefix (x ∷ xs) (y ∷ ys) =
    let e : 1 + prefix_len (λ (p : ℕ × ℕ). p.0 == p.1) (zip xs ys) ≡ suc (agreeing xs ys) = omega (arith, prefix xs ys) in
    ap (λ (n : ℕ). cond (x == y) n 0) e

pub long_prefix : (xs ys : List ℕ) → length (take (prefix_len (λ (p : ℕ × ℕ). p.0 == p.1) (zip xs ys)) (zip xs ys)) ≡ agreeing xs ys
long_prefix xs ys = length-prefix_len (λ (p : ℕ × ℕ). p.0 == p.1) (zip xs ys) ∙ prefix xs ys
