-- The numbers of lent rows, written one row after another, with rows of 0 after them. Assumes nothing.
use mathlib.Core.Path.{◌≡◌, refl, sym, ap, ◌∙◌}
use mathlib.Core.List.{List, [], ◌∷◌, ◌++◌}
use Prim.Native.Nat.{ℕ, zero, suc, ◌+◌, ◌*◌, ◌≤◌, ◌<◌}
use native.Mathlib.Omega.{arith}
use lib.ListN.{length, get_or, take}
use lib.Seq.{sets, length-sets}
use Rattle.little.specs.Little.{bytes32, bytes_of}
use Rattle.answers.specs.Said.{filled}
use Rattle.answers.proofs.Written.{then_more}
use Rattle.std.specs.Prelude.{Result}
use Rattle.refusals.specs.declared.Refusal.{Refusal}
use Rattle.runreports.specs.Numbers.{low_half, high_half}
use Rattle.runreports.specs.Written.{five_of, lent_numbers, no_row, refusal_in, rows_in, answer_numbers}

-- a row's five numbers, one after another
pub five_put : (out : ℕ) (row e e₁ e₂ e₃ e₄ e₅ : List ℕ) (v w x y z : ℕ) → v ≡ get_or row 0 0 → w ≡ get_or row 1 0 → x ≡ get_or row 2 0 → y ≡ low_half (get_or row 3 0) → z ≡ high_half (get_or row 3 0)
    → e₁ ≡ sets e (4 * out) (bytes32 v) → e₂ ≡ sets e₁ (4 * out + 4) (bytes32 w) → e₃ ≡ sets e₂ (4 * out + 8) (bytes32 x) → e₄ ≡ sets e₃ (4 * out + 12) (bytes32 y) → e₅ ≡ sets e₄ (4 * out + 16) (bytes32 z)
    → e₅ ≡ sets e (4 * out) (bytes_of (five_of row))
five_put out row e e₁ e₂ e₃ e₄ e₅ v w x y z p q r s t f₁ f₂ f₃ f₄ f₅ =
    let g₂ = then_more out e e₁ e₂ (v ∷ []) (w ∷ []) (4 * out + 4) (omega arith) f₁ f₂ in
    let g₃ = then_more out e e₂ e₃ (v ∷ w ∷ []) (x ∷ []) (4 * out + 8) (omega arith) g₂ f₃ in
    let g₄ = then_more out e e₃ e₄ (v ∷ w ∷ x ∷ []) (y ∷ []) (4 * out + 12) (omega arith) g₃ f₄ in
    let g₅ = then_more out e e₄ e₅ (v ∷ w ∷ x ∷ y ∷ []) (z ∷ []) (4 * out + 16) (omega arith) g₄ f₅ in
    let same : ◌≡◌ {A = List ℕ} (v ∷ w ∷ x ∷ y ∷ z ∷ []) (five_of row) = cc in
    g₅ ∙ ap (λ (l : List ℕ). sets e (4 * out) (bytes_of l)) same

-- within the rows it does not matter what is read beyond them
pub row_written : (l : List (List ℕ)) (i : ℕ) (z : List ℕ) → i < length l → get_or l i z ≡ get_or l i no_row
row_written [] j z h = absurd (omega arith)
row_written (r ∷ rs) zero z h = refl
row_written (r ∷ rs) (suc j) z h = row_written rs j z (omega arith)

-- the first n rows, with rows of 0 after the end
abbrev pub up_to : ℕ → List (List ℕ) → List (List ℕ)
up_to zero rs = []
up_to (suc n) [] = no_row ∷ up_to n []
up_to (suc n) (r ∷ rs) = r ∷ up_to n rs

up_next : (i : ℕ) (rs : List (List ℕ)) → up_to (suc i) rs ≡ up_to i rs ++ (get_or rs i no_row ∷ [])
up_next zero [] = refl
up_next zero (r ∷ rs) = refl
up_next (suc i) [] = ap {B = List (List ℕ)} (λ l. no_row ∷ l) (up_next i [])
up_next (suc i) (r ∷ rs) = ap {B = List (List ℕ)} (λ l. r ∷ l) (up_next i rs)

lent_append : (rs qs : List (List ℕ)) → lent_numbers (rs ++ qs) ≡ lent_numbers rs ++ lent_numbers qs
lent_append [] qs = refl
lent_append (r ∷ rs) qs = ap {B = List ℕ} (λ l. five_of r ++ l) (lent_append rs qs)

up_length : (n : ℕ) (rs : List (List ℕ)) → length (lent_numbers (up_to n rs)) ≡ 5 * n
up_length zero rs = refl
up_length (suc n) [] = omega (arith, up_length n [])
up_length (suc n) (r ∷ rs) = omega (arith, up_length n rs)

up_filled : (n : ℕ) (rs : List (List ℕ)) → lent_numbers (up_to n rs) ≡ filled (5 * n) (lent_numbers rs)
unfolding filled
up_filled zero rs = refl
up_filled (suc n) [] =
    let five : suc (suc (suc (suc (suc (5 * n))))) ≡ 5 * suc n = omega arith in
    ap {B = List ℕ} (λ l. five_of no_row ++ l) (up_filled n []) ∙ ap (λ (m : ℕ). filled m []) five
up_filled (suc n) (r ∷ rs) =
    let five : suc (suc (suc (suc (suc (5 * n))))) ≡ 5 * suc n = omega arith in
    ap {B = List ℕ} (λ l. five_of r ++ l) (up_filled n rs) ∙ ap (λ (m : ℕ). filled m (lent_numbers (r ∷ rs))) five

-- i rows are written
module _ (rs : List (List ℕ)) (out i : ℕ) (e₀ e : List ℕ) (f : e ≡ sets e₀ (4 * out) (bytes_of (lent_numbers (up_to i rs)))) where
  pub same_answers : length e ≡ length e₀
  same_answers = ap length f ∙ length-sets e₀ (4 * out) (bytes_of (lent_numbers (up_to i rs)))

  pub row_turn : (e' : List ℕ) (row : List ℕ) → row ≡ get_or rs i no_row → e' ≡ sets e (4 * (out + 5 * i)) (bytes_of (five_of row)) → e' ≡ sets e₀ (4 * out) (bytes_of (lent_numbers (up_to (i + 1) rs)))
  row_turn e' row p g =
      let next : i + 1 ≡ suc i = omega arith in
      then_more out e₀ e e' (lent_numbers (up_to i rs)) (five_of row) (4 * (out + 5 * i)) (omega (arith, up_length i rs)) f g
      ∙ ap (λ (l : List ℕ). sets e₀ (4 * out) (bytes_of l)) (sym (ap (λ (n : ℕ). lent_numbers (up_to n rs)) next ∙ ap lent_numbers (up_next i rs ∙ ap (λ (r : List ℕ). up_to i rs ++ (r ∷ [])) (sym p)) ∙ lent_append (up_to i rs) (row ∷ [])))

  pub rows_all : (n : ℕ) → i ≤ n → n ≤ i → e ≡ sets e₀ (4 * out) (bytes_of (filled (5 * n) (lent_numbers rs)))
  rows_all n h g = let same : i ≡ n = omega arith in f ∙ ap (λ (l : List ℕ). sets e₀ (4 * out) (bytes_of l)) (up_filled i rs ∙ ap (λ (m : ℕ). filled (5 * m) (lent_numbers rs)) same)

-- the refusal, how many rows are written, then the rows
pub report_put : (r : Result ℕ Refusal) (work : List (List ℕ)) (n out : ℕ) (e e₁ e₂ e₃ : List ℕ) (k x : ℕ) → k ≡ rows_in r → x ≡ refusal_in r
    → e₁ ≡ sets e (4 * out) (bytes32 x) → e₂ ≡ sets e₁ (4 * (out + 1)) (bytes32 k) → e₃ ≡ sets e₂ (4 * (out + 2)) (bytes_of (filled (5 * n) (lent_numbers (take k work))))
    → e₃ ≡ sets e (4 * out) (bytes_of (answer_numbers n r work))
report_put r work n out e e₁ e₂ e₃ k x p q f g h =
    let two = then_more out e e₁ e₂ (x ∷ []) (k ∷ []) (4 * (out + 1)) (omega arith) f g in
    rw (← p, ← q) (then_more out e e₂ e₃ (x ∷ k ∷ []) (filled (5 * n) (lent_numbers (take k work))) (4 * (out + 2)) (omega arith) two h)
