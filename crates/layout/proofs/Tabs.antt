-- Lists that are the values of a function: when a list is one, and one of its entries set.
use mathlib.Core.Path.{◌≡◌, sym, ap, ◌∙◌}
use mathlib.Core.Logic.{◌≢◌}
use mathlib.Core.List.{List}
use Prim.Native.Nat.{ℕ, ◌<◌}
use native.Mathlib.Omega.{arith}
use lib.Dec.{eqb}
use lib.ListN.{length, get_or, set, replicate, length-set, length-replicate, get_or-replicate}
use lib.Seq.{ext_get_or, get_or-set_same, get_or-set_other}
use borrow.Author.Tests.{eqb-true, eqb-false}
use Rattle.cuttree.proofs.Tests.{by-test}
use Rattle.wholetree.specs.Whole.{tab}
use Rattle.wholetree.proofs.Readings.{tab_length, tab_at}

-- of a list that is a table: its length and its entries
module _ {A : Type 0} (n : ℕ) (f : ℕ → A) (l : List A) (e : l ≡ tab n f) where
  pub length_of : length l ≡ n
  length_of = ap length e ∙ tab_length n f

  pub entry_of : (z : A) (i : ℕ) → i < n → get_or l i z ≡ f i
  entry_of z i h = ap (λ (x : List A). get_or x i z) e ∙ tab_at n f i z h

pub is_tab : {A : Type 0} (z : A) (n : ℕ) (f : ℕ → A) (l : List A) → length l ≡ n → ((i : ℕ) → i < n → get_or l i z ≡ f i) → l ≡ tab n f
is_tab z n f l e h = ext_get_or z l (tab n f) (e ∙ sym (tab_length n f)) (λ i q. h i (omega arith) ∙ sym (tab_at n f i z (omega arith)))

pub same_tab : {A : Type 0} (z : A) (n : ℕ) (f g : ℕ → A) → ((i : ℕ) → i < n → f i ≡ g i) → tab n f ≡ tab n g
same_tab z n f g h = is_tab z n g (tab n f) (tab_length n f) (λ i q. tab_at n f i z q ∙ h i q)

pub constant : {A : Type 0} (n : ℕ) (x : A) (f : ℕ → A) → ((i : ℕ) → f i ≡ x) → replicate n x ≡ tab n f
constant n x f h = is_tab x n f (replicate n x) (length-replicate n x) (λ i q. get_or-replicate n i x x q ∙ sym (h i))

-- an entry set: the functions agree at every other
pub set_tab : {A : Type 0} (z : A) (n : ℕ) (f g : ℕ → A) (l : List A) (i : ℕ) → l ≡ tab n f → i < n → ((x : ℕ) → x ≢ i → g x ≡ f x) → set l i (g i) ≡ tab n g
set_tab z n f g l i e lt h = is_tab z n g (set l i (g i)) (length-set l i (g i) ∙ length_of n f l e) (λ x q. by-test (eqb x i)
    (λ w. let y : x ≡ i = eqb-true x i w in rw y (get_or-set_same l i (g i) z (omega (arith, length_of n f l e))))
    (λ w. let y : x ≢ i = eqb-false x i w in get_or-set_other l i x (g i) z y ∙ entry_of n f l e z x q ∙ sym (h x y)))
