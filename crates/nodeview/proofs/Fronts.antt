-- A list whose first entries are written one after another, as a function gives them. Assumes nothing.
use mathlib.Core.Path.{◌≡◌, refl, sym, ap, ◌∙◌}
use mathlib.Core.List.{List, [], ◌∷◌, ◌++◌, map}
use Prim.Native.Nat.{ℕ, zero, suc, ◌<◌}
use lib.ListN.{length, get_or, set, drop}
use lib.Seq.{drop-cons, set_at, append_snoc}
use Rattle.wholetree.specs.Whole.{tab}
use Rattle.wholetree.proofs.Readings.{tab_length}

tab_last : {A : Type 0} (n : ℕ) (f : ℕ → A) → tab (suc n) f ≡ tab n f ++ (f n ∷ [])
unfolding tab
tab_last zero f = refl
tab_last {A} (suc n) f = ap (λ (l : List A). f 0 ∷ l) (tab_last n (λ (i : ℕ). f (suc i)))

pub map_tab : {A B : Type 0} (g : A → B) (n : ℕ) (f : ℕ → A) → map g (tab n f) ≡ tab n (λ (i : ℕ). g (f i))
unfolding tab
map_tab g zero f = refl
map_tab {A} {B} g (suc n) f = ap (λ (l : List B). g (f 0) ∷ l) (map_tab g n (λ (i : ℕ). f (suc i)))

-- l with its first n entries written as f's
abbrev pub front : {A : Type 0} → (ℕ → A) → ℕ → List A → List A
front f n l = tab n f ++ drop n l

pub front_next : {A : Type 0} (z : A) (f : ℕ → A) (n : ℕ) (l : List A) → n < length l → set (front f n l) n (f n) ≡ front f (suc n) l
front_next {A} z f n l h =
    ap (λ (x : List A). set (tab n f ++ x) n (f n)) (drop-cons l n z h)
    ∙ set_at (tab n f) (get_or l n z) (drop (suc n) l) (f n) n (tab_length n f)
    ∙ sym (ap (λ (x : List A). x ++ drop (suc n) l) (tab_last n f) ∙ append_snoc (tab n f) (f n) (drop (suc n) l))
