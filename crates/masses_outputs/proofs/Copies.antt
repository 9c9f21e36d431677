-- The copies of all values held are the tree's mass. Assumes nothing.
use mathlib.Core.Path.{◌≡◌, refl, sym, ap, ◌∙◌}
use mathlib.Core.Bool.{cond}
use mathlib.Core.Option.{Option, some}
use mathlib.Core.List.{List, [], ◌∷◌}
use Prim.Native.Nat.{ℕ, ◌+◌, ◌≤◌, ◌<◌}
use native.Mathlib.Omega.{arith}
use borrow.Author.Tests.{lt-ltb}
use Rattle.cuttree.specs.Setting.{Setting, Laws}
use Rattle.cuttree.specs.Tree.{Tree, leaf, branch, mass, copies}
use Rattle.cuttree.specs.Counts.{Counts, times, Values}
use Rattle.cuttree.proofs.Tests.{by-test, clash}
use Rattle.cuttree.proofs.Nodes.{In, here, left, right, in_trans, all_in}
use Rattle.cuttree.proofs.Keeps.{Inv}
use Rattle.cuttree.proofs.Claims.{within}
use Rattle.masses_outputs.specs.Seen.{copies_of_all}

module _ (S : Setting) (L : Laws S) where
  open S use {Point, same}

  same_sym : (p q : Point) → same p q ≡ same q p
  same_sym p q = by-test (same p q)
      (λ e. e ∙ sym (sym (L.same_cong p q e p) ∙ L.same_refl p))
      (λ e. by-test (same q p) (λ f. clash (same p q) (sym (L.same_cong q p f q) ∙ L.same_refl q) e) (λ f. e ∙ sym f))

  -- of the values in a list
  abbrev copies_in : Tree S → List Point → ℕ
  copies_in t [] = 0
  copies_in t (v ∷ vs) = copies S t v + copies_in t vs

  sides : (b : ℕ) (k : _) (l r : Tree S) (vs : List Point) → copies_in (branch b k l r) vs ≡ copies_in l vs + copies_in r vs
  sides b k l r [] = refl
  sides b k l r (v ∷ vs) = omega (arith, sides b k l r vs)

  -- a leaf's value stands in the list once, or not at all
  module _ (i : ℕ) (q : Point) (n : ℕ) where
    absent : (vs : List Point) → times S vs q ≡ 0 → copies_in (leaf i q n) vs ≡ 0
    absent [] e = refl
    absent (v ∷ vs) e = by-test (same v q)
        (λ f. absurd (omega (arith, rw f at e)))
        (λ f. let z = rw f at e in rw (same_sym q v ∙ f) (omega (arith, absent vs (omega (arith, z)))))

    once : (vs : List Point) → times S vs q ≡ 1 → copies_in (leaf i q n) vs ≡ n
    once [] e = absurd (omega arith)
    once (v ∷ vs) e = by-test (same v q)
        (λ f. let z = rw f at e in rw (same_sym q v ∙ f) (omega (arith, absent vs (omega (arith, z)))))
        (λ f. let z = rw f at e in rw (same_sym q v ∙ f) (omega (arith, once vs (omega (arith, z)))))

  -- a leaf's value has at least the leaf's copies
  copies_in_lem : {i : ℕ} {q : Point} {n : ℕ} {t : Tree S} → In S (leaf i q n) t → n ≤ copies S t q
  copies_in_lem {i} {q} {n} here = rw (L.same_refl q) (omega arith)
  copies_in_lem (left j) = omega (arith, copies_in_lem j)
  copies_in_lem (right j) = omega (arith, copies_in_lem j)

  module _ (capacity : ℕ) (f : ℕ → Option Point) (t : Tree S) (u : List (ℕ × ℕ)) (K : Counts S) (I : Inv S capacity (record { table = f; tree = some t; free = u }) K) where
    listed : (vs : List Point) → Values S K vs → {i : ℕ} {q : Point} {n : ℕ} → In S (leaf i q n) t → times S vs q ≡ 1
    listed vs each {i} {q} {n} j =
        let some : 0 < K.number q = omega (arith, all_in S (λ i q n. 0 < n) j I.sound.filled, copies_in_lem j, I.number_is q) in
        each q ∙ ap (λ b. cond b 1 0) (lt-ltb 0 (K.number q) some)

    in_all : (vs : List Point) → Values S K vs → (v : Tree S) → In S v t → copies_in v vs ≡ mass S v
    in_all vs each (leaf i q n) j = once i q n vs (listed vs each j)
    in_all vs each (branch b k l r) j = omega (arith, sides b k l r vs, in_all vs each l (in_trans S (left here) j), in_all vs each r (in_trans S (right here) j))

    counted : (ws : List Point) → copies_in t ws ≡ copies_of_all S K ws
    counted [] = refl
    counted (w ∷ ws) = omega (arith, I.number_is w, counted ws)

    pub all_copies : (vs : List Point) × Values S K vs × (copies_of_all S K vs ≡ mass S t)
    all_copies = let (vs, each, few) = within S capacity L f t u K I 0 (omega arith) in (vs, each, sym (counted vs) ∙ in_all vs each t here)
