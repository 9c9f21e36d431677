-- Nodes looked up by their ids: where a state's arrays say that there is a leaf or a branch, and that the tree has it there and nowhere else. Assumes nothing.
use mathlib.Core.Path.{◌≡◌, refl, sym, ap, ◌∙◌}
use mathlib.Core.Option.{Option, none, some}
use mathlib.Core.List.{List}
use Prim.Native.Nat.{ℕ, ◌+◌, ◌-◌, ◌≤◌, ◌<◌}
use native.Mathlib.Omega.{arith}
use lib.Dec.{ltb}
use lib.ListN.{get_or}
use borrow.Author.Tests.{ltb-true, ltb-false, lt-ltb}
use Rattle.limits.specs.Limits.{point_limit}
use Rattle.cuttree.specs.Setting.{Cut}
use Rattle.cuttree.specs.Tree.{Tree, leaf, branch, id, mass}
use Rattle.cuttree.specs.Sound.{Sound}
use Rattle.cuttree.specs.Run.{refused, copies_are, no_such_node, look, copies_found, branch_found, box_found}
use Rattle.cuttree.proofs.Tests.{by-test}
use Rattle.cuttree.proofs.Masses.{mass_pos}
use Rattle.cuttree.proofs.Nodes.{In, all_in, look_in_lem, in_look, nodes_one}
use Rattle.cuttree.proofs.Room.{indexed, find_leaf, at_leaf, leaf_copies, number_below, index_below, index_once}
use Rattle.wholetree.specs.Reading.{Reading}
use Rattle.wholetree.specs.Whole.{whole}
use Rattle.wholetree.proofs.Laws.{whole_laws}
use Rattle.layout.specs.Slots.{uses, slot, row_of, count_at}
use Rattle.layout.specs.Layout.{no_row}
use Rattle.layout.specs.Stands.{Once}
use Rattle.layout.proofs.Slots.{Branch, uses_in, branch_of_lem, slot_none, slot_in_lem}

-- the tree of a sound world
module _ (d c : ℕ) (f : ℕ → Option Reading) (t : Tree (whole d)) (u : List (ℕ × ℕ)) (H : Sound (whole d) c (record { table = f; tree = some t; free = u })) where
  pub once : Once d c t
  once j = by-test (ltb j (c - 1)) (λ e. omega (arith, rw e at (H.numbers j))) (λ e. omega (arith, rw e at (H.numbers j)))

  found : {v : Tree (whole d)} → In (whole d) v t → look (whole d) c t (id (whole d) c v) ≡ some v
  found i = look_in_lem (whole d) c (nodes_one (whole d) c (whole_laws d) f t u H) i

  -- LEAVES
  module _ (x : ℕ) where
    -- what the arrays say of a leaf's id
    pub record LeafAt (n : ℕ) : Type 0 where
      pub above : c ≤ x
      pub within : x - c < point_limit
      pub copies : count_at d c t (x - c) ≡ n
      pub some_copies : 0 < n

    leaf_at : (i : ℕ) (q : Reading) (n : ℕ) → look (whole d) c t x ≡ some (leaf i q n) → LeafAt n
    leaf_at i q n e =
        let (j, z) = in_look (whole d) c t x (leaf i q n) e in
        let y : x - c ≡ i = omega arith in
        record {
          above = omega arith;
          within = omega (arith, index_below (whole d) c (whole_laws d) f t u H j);
          copies = rw y (at_leaf (whole d) (λ n. n) j (index_once (whole d) c (whole_laws d) f t u H i));
          some_copies = all_in (whole d) (λ i q n. 0 < n) j H.filled;
        }

    pub no_leaf : (c ≤ x → x - c < point_limit → count_at d c t (x - c) ≡ 0) → copies_found (whole d) (look (whole d) c t x) ≡ refused no_such_node
    no_leaf h = go (look (whole d) c t x) refl
      where
        go : (o : Option (Tree (whole d))) → look (whole d) c t x ≡ o → copies_found (whole d) o ≡ refused no_such_node
        go none e = refl
        go (some (leaf i q n)) e = let w = leaf_at i q n e in absurd (omega (arith, h w.above w.within, w.copies, w.some_copies))
        go (some (branch b k l r)) e = refl

    copied : (q : Reading) (n : ℕ) → c ≤ x → In (whole d) (leaf (x - c) q n) t → copies_found (whole d) (look (whole d) c t x) ≡ copies_are (count_at d c t (x - c))
    copied q n a i =
        let z : x - c + c ≡ x = omega arith in
        let y : look (whole d) c t x ≡ some (leaf (x - c) q n) = rw z at (found i) in
        rw y (ap (λ (m : ℕ). copies_are m) (sym (at_leaf (whole d) (λ n. n) i (index_once (whole d) c (whole_laws d) f t u H (x - c)))))

    pub a_leaf : c ≤ x → 0 < count_at d c t (x - c) → copies_found (whole d) (look (whole d) c t x) ≡ copies_are (count_at d c t (x - c))
    a_leaf a h =
        let (q, n, i) = find_leaf (whole d) t (x - c) (ltb-true 0 (indexed (whole d) t (x - c)) (leaf_copies (whole d) t (x - c) H.filled ∙ lt-ltb 0 (count_at d c t (x - c)) h)) in
        copied q n a i

  -- BRANCHES
  module _ (x : ℕ) where
    pub branch_below : 0 < uses d c t x → x + 1 < c
    branch_below h = omega (arith, number_below (whole d) c (whole_laws d) f t u H x h)

    pub branch_found_lem : (B : Branch d c t x) → look (whole d) c t x ≡ some (branch x B.cut B.low B.high)
    branch_found_lem B = found B.inside

    -- the mass in a slot tells whether it is a branch's
    abbrev mass_at : ℕ
    mass_at = get_or (slot d c (row_of d c) no_row t x) 2 0

    pub with_mass : (mass_at ≡ 0 → ⊥) → 0 < uses d c t x
    with_mass h = by-test (ltb 0 (uses d c t x)) (λ e. ltb-true 0 (uses d c t x) e)
        (λ e. absurd (h (rw (slot_none d c (row_of d c) no_row t x (omega (arith, ltb-false 0 (uses d c t x) e))) refl)))

    pub without_mass : mass_at ≡ 0 → uses d c t x ≡ 0
    without_mass h = by-test (ltb 0 (uses d c t x))
        (λ e. let B = branch_of_lem d c t x (ltb-true 0 (uses d c t x) e) in
        let z : mass_at ≡ mass (whole d) (branch x B.cut B.low B.high) = rw (slot_in_lem d c (row_of d c) no_row once B.inside) refl in
        absurd (omega (arith, mass_pos (whole d) (branch x B.cut B.low B.high) (all_in (whole d) (λ i q n. 0 < n) B.inside H.filled))))
        (λ e. omega (arith, ltb-false 0 (uses d c t x) e))

    -- no branch has the id: a branch query and a box query are refused
    not_branch : uses d c t x ≡ 0 → (b : ℕ) (k : Cut (whole d)) (l r : Tree (whole d)) → look (whole d) c t x ≡ some (branch b k l r) → ⊥
    not_branch h b k l r e =
        let (i, z) = in_look (whole d) c t x (branch b k l r) e in
        let p : 0 < uses d c t x = rw z at (uses_in d c i) in
        omega arith

    pub no_branch : uses d c t x ≡ 0 → (branch_found (whole d) c (look (whole d) c t x) ≡ refused no_such_node) × (box_found (whole d) (look (whole d) c t x) ≡ refused no_such_node)
    no_branch h = go (look (whole d) c t x) refl
      where
        go : (o : Option (Tree (whole d))) → look (whole d) c t x ≡ o → (branch_found (whole d) c o ≡ refused no_such_node) × (box_found (whole d) o ≡ refused no_such_node)
        go none e = (refl, refl)
        go (some (leaf i q n)) e = (refl, refl)
        go (some (branch b k l r)) e = absurd (not_branch h b k l r e)
