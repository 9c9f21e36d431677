-- What a sound world has room for: the numbers in use and the next one, the indices of leaves, and whether the tree is full.
use mathlib.Core.Path.{◌≡◌, refl, sym, ◌∙◌, subst}
use mathlib.Core.Bool.{false, cond}
use mathlib.Core.Option.{Option, some}
use mathlib.Core.List.{List, [], ◌∷◌}
use Prim.Native.Nat.{ℕ, suc, ◌+◌, ◌-◌, ◌≤◌, ◌<◌}
use native.Mathlib.Omega.{arith}
use lib.Dec.{eqb, leb, ltb}
use lib.ListN.{length}
use borrow.Author.Tests.{eqb-true, eq-eqb, ne_eqb, le-leb, lt-leb, lt-ltb, le-ltb, ltb-true, ltb-false}
use Rattle.cuttree.specs.Setting.{Setting, Laws, Cut}
use Rattle.intervalstoremanager.specs.Stack.{next, holds, sizes, Proper}
use Rattle.cuttree.specs.Tree.{Tree, leaf, branch, is, found, sum, leaves}
use Rattle.cuttree.specs.Sound.{Sound}
use Rattle.cuttree.proofs.Tests.{by-test}
use Rattle.cuttree.proofs.Leaves.{leaves_branches}
use Rattle.cuttree.proofs.Copies.{Filled}
use Rattle.cuttree.proofs.Cuts.{sum_found}
use Rattle.cuttree.proofs.Intervals.{is_same, length_sizes, holds_get}
use Rattle.cuttree.proofs.Nodes.{In, here, left, right, all_in, is_zero, indexed_some, indexed_one}

module _ (S : Setting) where
  open S use {Point, indices}

  -- how often a number is a branch's, and an index a leaf's
  abbrev pub uses : Tree S → ℕ → ℕ
  uses t j = sum S (λ i q n. 0) (λ b. is b j) t

  abbrev pub indexed : Tree S → ℕ → ℕ
  indexed t j = sum S (λ i q n. is i j) (λ b. 0) t

  pub uses_in : {b : ℕ} {k : Cut S} {l r t : Tree S} → In S (branch b k l r) t → 0 < uses t b
  uses_in {b} here = omega (arith, is_same b)
  uses_in (left i) = omega (arith, uses_in i)
  uses_in (right i) = omega (arith, uses_in i)

  indexed_in : {i : ℕ} {q : Point} {n : ℕ} {t : Tree S} → In S (leaf i q n) t → 0 < indexed t i
  indexed_in {i} here = omega (arith, is_same i)
  indexed_in (left j) = omega (arith, indexed_in j)
  indexed_in (right j) = omega (arith, indexed_in j)

  -- an index in use is a leaf's
  pub find_leaf : (t : Tree S) (j : ℕ) → 0 < indexed t j → (q : Point) × (n : ℕ) × In S (leaf j q n) t
  find_leaf (leaf i q n) j h = by-test (eqb i j)
      (λ e. (q, n, subst (λ x. In S (leaf x q n) (leaf i q n)) (eqb-true i j e) here))
      (λ e. let z = rw e at h in absurd (omega (arith, z)))
  find_leaf (branch b k l r) j h = by-test (ltb 0 (indexed l j))
      (λ m. let (q, n, i) = find_leaf l j (ltb-true 0 (indexed l j) m) in (q, n, left i))
      (λ m. let (q, n, i) = find_leaf r j (omega (arith, ltb-false 0 (indexed l j) m)) in (q, n, right i))

  -- a sum over the leaves of an index
  module _ (g : ℕ → ℕ) where
    abbrev pub at_index : Tree S → ℕ → ℕ
    at_index t j = sum S (λ i q n. cond (eqb i j) (g n) 0) (λ b. 0) t

    pub at_none : (t : Tree S) (j : ℕ) → indexed t j ≡ 0 → at_index t j ≡ 0
    at_none (leaf i q n) j h = rw (is_zero i j h)
    at_none (branch b k l r) j h = omega (arith, at_none l j (omega arith), at_none r j (omega arith))

    pub at_leaf : {i : ℕ} {q : Point} {n : ℕ} {t : Tree S} → In S (leaf i q n) t → indexed t i ≤ 1 → at_index t i ≡ g n
    at_leaf {i} here h = rw (eq-eqb i i refl)
    at_leaf {i} (left {l = l} {r = r} j) h = let z : 0 < indexed l i = indexed_in j in omega (arith, at_leaf j (omega arith), at_none r i (omega arith))
    at_leaf {i} (right {l = l} {r = r} j) h = let z : 0 < indexed r i = indexed_in j in omega (arith, at_leaf j (omega arith), at_none l i (omega arith))

  -- an index is a leaf's exactly when it has copies
  indexed_copies : (t : Tree S) (j : ℕ) → Filled S t → indexed t j ≤ at_index (λ n. n) t j
  indexed_copies (leaf i q n) j h = by-test (eqb i j) (λ e. rw e (omega arith)) (λ e. rw e (omega arith))
  indexed_copies (branch b k l r) j h = omega (arith, indexed_copies l j h.0, indexed_copies r j h.1)

  pub leaf_copies : (t : Tree S) (j : ℕ) → Filled S t → ltb 0 (indexed t j) ≡ ltb 0 (at_index (λ n. n) t j)
  leaf_copies t j h = by-test (ltb 0 (indexed t j))
      (λ e. e ∙ sym (lt-ltb 0 (at_index (λ n. n) t j) (omega (arith, indexed_copies t j h, ltb-true 0 (indexed t j) e))))
      (λ e. e ∙ sym (le-ltb 0 (at_index (λ n. n) t j) (omega (arith, at_none (λ n. n) t j (omega (arith, ltb-false 0 (indexed t j) e))))))

  module _ (capacity : ℕ) (L : Laws S) (f : ℕ → Option Point) (t : Tree S) (u : List (ℕ × ℕ)) (H : Sound S capacity (record { table = f; tree = some t; free = u })) where
    -- NUMBERS: those in use stand below c − 1, and so does the next, which isn't in use
    in_range : (j : ℕ) → 0 < uses t j + holds u j → suc j < capacity
    in_range j h = by-test (ltb j (capacity - 1)) (λ e. omega (arith, ltb-true j (capacity - 1) e))
        (λ e. let z : uses t j + holds u j ≡ 0 = H.numbers j ∙ rw e in absurd (omega arith))

    pub number_below : (j : ℕ) → 0 < uses t j → suc j < capacity
    number_below j h = in_range j (omega arith)

    pub next_free : leaves S t < capacity → (suc (next u) < capacity) × (uses t (next u) ≡ 0)
    next_free h =
        let room : 0 < sizes u = omega (arith, leaves_branches S t, H.fits) in
        let z : 0 < holds u (next u) = omega (arith, holds_get (capacity - 1) u (next u) H.proper room, is_same (next u)) in
        let y : suc (next u) < capacity = in_range (next u) (omega arith) in
        (y, omega (arith, rw (lt-ltb (next u) (capacity - 1) (omega arith)) at (H.numbers (next u))))

    -- INDICES: a leaf's is the table's, and an index whose value isn't held is no leaf's
    pub index_below : {i : ℕ} {q : Point} {n : ℕ} → In S (leaf i q n) t → i < indices
    index_below {i} {q} j = H.inside i q (all_in S (λ i q n. f i ≡ some q) j H.agree)

    pub index_absent : (i : ℕ) (p : Point) → f i ≡ some p → found S t p ≡ false → indexed t i ≡ 0
    index_absent i p e h = omega (arith, indexed_some S capacity L f t i p e H.agree, rw h at (sum_found S L (λ n. 1) p t H.cut))

    pub index_once : (i : ℕ) → indexed t i ≤ 1
    index_once = indexed_one S capacity L f t u H

    -- FULL: no interval is left
    pub intervals_few : sum S (λ i q n. 0) (λ b. 1) t + length u ≤ capacity - 1
    intervals_few = omega (arith, length_sizes (capacity - 1) u H.proper, H.fits)

    pub full_is : leb capacity (leaves S t) ≡ eqb (length u) 0
    unfolding sizes
    full_is = go u H.proper H.fits
      where
        go : (v : List (ℕ × ℕ)) → Proper (capacity - 1) v → sum S (λ i q n. 0) (λ b. 1) t + sizes v ≡ capacity - 1 → leb capacity (leaves S t) ≡ eqb (length v) 0
        go [] p e = le-leb capacity (leaves S t) (omega (arith, leaves_branches S t))
        go (x ∷ v) p e = lt-leb capacity (leaves S t) (omega (arith, leaves_branches S t, length_sizes (capacity - 1) (x ∷ v) p)) ∙ sym (ne_eqb (suc (length v)) 0 (omega arith))
