-- Numbers written as bytes one after another, from the answer number `out` on. Assumes nothing.
use mathlib.Core.Path.{◌≡◌, sym, ap, ◌∙◌}
use mathlib.Core.List.{List, ◌++◌}
use Prim.Native.Nat.{ℕ, ◌+◌, ◌*◌}
use native.Mathlib.Omega.{arith}
use lib.ListN.{length}
use lib.Seq.{sets}
use Rattle.little.specs.Little.{bytes_of}
use Rattle.little.proofs.Stored.{sets_append, length_bytes, bytes_append}

module _ (out : ℕ) (e e₁ e₂ : List ℕ) where
  pub then_more : (xs ys : List ℕ) (place : ℕ) → place ≡ 4 * (out + length xs) → e₁ ≡ sets e (4 * out) (bytes_of xs) → e₂ ≡ sets e₁ place (bytes_of ys) → e₂ ≡ sets e (4 * out) (bytes_of (xs ++ ys))
  then_more xs ys place h f g =
      let at : place ≡ 4 * out + length (bytes_of xs) = omega (arith, length_bytes xs) in
      g ∙ ap (λ (n : ℕ). sets e₁ n (bytes_of ys)) at ∙ ap (λ (l : List ℕ). sets l (4 * out + length (bytes_of xs)) (bytes_of ys)) f
      ∙ sym (sets_append e (4 * out) (bytes_of xs) (bytes_of ys)) ∙ ap (λ (l : List ℕ). sets e (4 * out) l) (sym (bytes_append xs ys))
