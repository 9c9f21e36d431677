-- A list whose entries a loop writes one after another. Assumes nothing.
use mathlib.Core.Path.{◌≡◌, refl, ap, ◌∙◌}
use mathlib.Core.List.{List, ◌++◌}
use Prim.Native.Nat.{ℕ, zero, suc, ◌+◌, ◌≤◌}
use native.Mathlib.Omega.{arith}
use lib.ListN.{length, set, take, drop}
use lib.Seq.{sets, sets-eq, drop-length, length-take-le}
use Rattle.std.proofs.lemmas.List.{append-nil}
use Rattle.wholetree.specs.Whole.{tab}
use Rattle.wholetree.proofs.Readings.{tab_length}

sets_next : {A : Type 0} (f : ℕ → A) (l : List A) (k i : ℕ) → set (sets l k (tab i f)) (k + i) (f i) ≡ sets l k (tab (suc i) f)
unfolding tab
sets_next f l k zero = ap (λ (n : ℕ). set l n (f 0)) (omega arith)
sets_next {A} f l k (suc i) =
    let g : ℕ → A = λ (j : ℕ). f (suc j) in
    ap (λ (n : ℕ). set (sets (set l k (f 0)) (suc k) (tab i g)) n (f (suc i))) (omega arith) ∙ sets_next g (set l k (f 0)) (suc k) i

-- l is l₀ with its first i entries written as f's
module _ {A : Type 0} (f : ℕ → A) (l₀ : List A) where
  pub firsts_none : l₀ ≡ sets l₀ 0 (tab 0 f)
  unfolding tab
  firsts_none = refl

  pub firsts_turn : (i : ℕ) (l : List A) (x : A) → l ≡ sets l₀ 0 (tab i f) → x ≡ f i → set l i x ≡ sets l₀ 0 (tab (i + 1) f)
  firsts_turn i l x w e =
      rw (e, w) (ap (λ (j : ℕ). set (sets l₀ 0 (tab i f)) j (f i)) (omega arith) ∙ sets_next f l₀ 0 i ∙ ap (λ (j : ℕ). sets l₀ 0 (tab j f)) (omega arith))

  pub firsts_written : (n : ℕ) → n ≤ length l₀ → sets l₀ 0 (tab n f) ≡ tab n f ++ drop n l₀
  firsts_written n h =
      let m : length (tab n f) ≡ n = tab_length n f in
      sets-eq (tab n f) l₀ 0 (omega arith) ∙ ap (λ (j : ℕ). tab n f ++ drop j l₀) (omega arith)

  pub firsts_all : (i : ℕ) (l : List A) → l ≡ sets l₀ 0 (tab i f) → i ≡ length l₀ → l ≡ tab (length l₀) f
  firsts_all i l w e = w ∙ ap (λ (j : ℕ). sets l₀ 0 (tab j f)) e ∙ firsts_written (length l₀) (omega arith) ∙ simp (drop-length, append-nil)

  -- of the first n entries of a list, n is the length
  pub firsts_taken : (n : ℕ) (l : List A) → l ≡ tab (length (take n l₀)) f → n ≤ length l₀ → l ≡ tab n f
  firsts_taken n l e h = e ∙ ap (λ (j : ℕ). tab j f) (length-take-le n l₀ h)
