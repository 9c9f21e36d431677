-- What an edit does to the box of each branch above it: with a point in it, or with the point gone from it. Assumes nothing.
use mathlib.Core.Path.{◌≡◌, refl, sym, ap, ◌∙◌, subst}
use mathlib.Core.Bool.{Bool, true, cond}
use mathlib.Core.Option.{some}
use mathlib.Core.List.{List, []}
use Prim.Native.Nat.{ℕ, suc, ◌-◌, ◌≤◌, ◌<◌}
use native.Mathlib.Omega.{arith}
use lib.Dec.{eqb, ltb}
use lib.ListN.{length, get_or}
use borrow.Author.Tests.{eqb-true, eqb-false, ltb-true}
use lib.Ieee.{Float, nan}
use Rattle.limits.specs.Limits.{width, branch_limit}
use Rattle.boundingbox.specs.Ends.{channel, joined, least as least_float, greatest as greatest_float}
use Rattle.cuttree.specs.Setting.{below}
use Rattle.cuttree.specs.Tree.{Tree, branch, height, end, lo, hi, least, most}
use Rattle.cuttree.specs.Walk.{sub, replace}
use Rattle.cuttree.proofs.Tests.{by-test, cond_true}
use Rattle.cuttree.proofs.Steps.{toward, rejoin, along}
use Rattle.cuttree.proofs.Orders.{End}
use Rattle.cuttree.proofs.Boxes.{end_rejoin}
use Rattle.cuttree.proofs.Heights.{sub_top, replace_top, sub_down, replace_down, by_height}
use Rattle.readings.specs.Number.{Number}
use Rattle.wholetree.specs.Reading.{Reading, coordinate}
use Rattle.wholetree.specs.Whole.{whole, tab, ends}
use Rattle.readings.proofs.Ordered.{same_number}
use Rattle.wholetree.proofs.Readings.{tab_length, tab_at}
use Rattle.layout.specs.Slots.{slot, low_of, high_of, box_ends}
use Rattle.layout.specs.Layout.{box_in, no_box_ends}
use Rattle.layout.specs.Stands.{Once}
use Rattle.layout.proofs.Slots.{slot_node}
use Rattle.layout.proofs.Replaced.{in_sub, uses_sub, slot_above}
use Rattle.boxstore.specs.Written.{box_with, written}
use Rattle.boxstore.proofs.Ends.{tab_same, both, least_end, most_end, least_ends, most_ends, row_ends}
use Rattle.boxstore.proofs.Written.{written_length, written_here, written_there}
use Rattle.boxstore.proofs.Partly.{at, Partly, partly_next, partly_rest, partly_all}

module _ (d c : ℕ) (p : Reading) where
  pub replace_same : (h : ℕ) (t : Tree (whole d)) → h ≤ height (whole d) t p → replace (whole d) t h p (sub (whole d) t h p) ≡ t
  replace_same h = along (whole d) (λ t. h ≤ height (whole d) t p → replace (whole d) t h p (sub (whole d) t h p) ≡ t) p (λ i q n e. refl)
      (λ b k l r ih e. by_height (whole d) b k l r p h e
      (λ z. rw (z, replace_top (whole d) (branch b k l r) p _, sub_top (whole d) (branch b k l r) p))
      (λ n. replace_down (whole d) b k l r p h _ n ∙ ap (λ x. rejoin (whole d) b k l r p (replace (whole d) (toward (whole d) k p l r) h p x)) (sub_down (whole d) b k l r p h n)
      ∙ ap (λ x. rejoin (whole d) b k l r p x) (ih n) ∙ by-test (below (whole d) k p) (λ w. rw w) (λ w. rw w)))

  -- an edit further down is one of the node of height n
  pub replace_replace : (h n : ℕ) (s : Tree (whole d)) → h ≤ n → (t : Tree (whole d)) → n ≤ height (whole d) t p → replace (whole d) t n p (replace (whole d) (sub (whole d) t n p) h p s) ≡ replace (whole d) t h p s
  replace_replace h n s a = along (whole d) (λ t. n ≤ height (whole d) t p → replace (whole d) t n p (replace (whole d) (sub (whole d) t n p) h p s) ≡ replace (whole d) t h p s) p (λ i q x e. refl)
      (λ b k l r ih e. by_height (whole d) b k l r p n e
      (λ z. rw (z, replace_top (whole d) (branch b k l r) p _, sub_top (whole d) (branch b k l r) p))
      (λ x. replace_down (whole d) b k l r p n _ x ∙ ap (λ y. rejoin (whole d) b k l r p (replace (whole d) (toward (whole d) k p l r) n p (replace (whole d) y h p s))) (sub_down (whole d) b k l r p n x)
      ∙ ap (λ y. rejoin (whole d) b k l r p y) (ih x) ∙ sym (replace_down (whole d) b k l r p h s (omega arith))))

  -- ---- the kept box of a branch on the walk in t
  module _ (k : ℕ) (t : Tree (whole d)) (o : Once d c t) where
    abbrev kept : Tree (whole d) → ℕ → List (List Float)
    kept u m = cond (ltb (at d c t p m) k) (box_ends d c u) no_box_ends

    old_at : (m : ℕ) → 0 < m → m ≤ height (whole d) t p → box_in d c k (some t) (at d c t p m) ≡ kept (sub (whole d) t m p) m
    old_at m a e = ap (λ x. cond (ltb (at d c t p m) k) x no_box_ends) (slot_node d c (box_ends d c) no_box_ends (sub (whole d) t m p) o (in_sub d c m p t e) (uses_sub d c m p t a e))

    -- one that is not done yet
    pub old_box : k ≤ branch_limit → {t' : Tree (whole d)} (boxes : List (List (List Float))) (n : ℕ) → Partly d c k t t' p boxes n → (m : ℕ) → n < m → m ≤ height (whole d) t p → ltb (at d c t p m) k ≡ true → get_or boxes (at d c t p m) [] ≡ box_ends d c (sub (whole d) t m p)
    old_box few boxes n P m a e x = P.todo m a e (omega (arith, ltb-true (at d c t p m) k x)) ∙ old_at m (omega arith) e ∙ cond_true _ _ _ x

    -- the tree's boxes, with that of the number i written: they are those of t' at every number that is no branch's above the height h
    pub partly_start : k ≤ branch_limit → (t' : Tree (whole d)) (h i : ℕ) (x : List (List Float)) → ((n : ℕ) → h < n → n ≤ height (whole d) t p → i ≡ at d c t p n → ⊥) → slot d c (box_ends d c) no_box_ends t' i ≡ x
        → ((j : ℕ) → (i ≡ j → ⊥) → ((n : ℕ) → h < n → n ≤ height (whole d) t p → at d c t p n ≡ j → ⊥) → slot d c (box_ends d c) no_box_ends t' j ≡ slot d c (box_ends d c) no_box_ends t j)
        → Partly d c k t t' p (written k i x (tab branch_limit (box_in d c k (some t)))) h
    partly_start few t' h i x apart new same = record {
      size = written_length k i x boxes ∙ long;
      todo = λ n a l s. written_there k i x boxes (at d c t p n) (apart n a l) ∙ was (at d c t p n) s;
      done = λ j s none. by-test (eqb i j)
          (λ z. subst (λ n. n < branch_limit → get_or (written k i x boxes) n [] ≡ box_in d c k (some t') n) (eqb-true i j z) (λ s. written_here k i x boxes (omega (arith, long)) _ (was i s) ∙ ap (λ y. cond (ltb i k) y no_box_ends) (sym new)) s)
          (λ z. let n = eqb-false i j z in written_there k i x boxes j n ∙ was j s ∙ ap (λ y. cond (ltb j k) y no_box_ends) (sym (same j n none)));
    }
      where
        boxes : List (List (List Float))
        boxes = tab branch_limit (box_in d c k (some t))

        long : length boxes ≡ branch_limit
        long = tab_length branch_limit (box_in d c k (some t))

        was : (j : ℕ) → j < branch_limit → get_or boxes j [] ≡ box_in d c k (some t) j
        was j s = tab_at branch_limit (box_in d c k (some t)) j [] s

    -- the tree after has s in place of the walk's node of height h
    module _ (h : ℕ) (s : Tree (whole d)) (o' : Once d c (replace (whole d) t h p s)) where
      abbrev after : Tree (whole d)
      after = replace (whole d) t h p s

      abbrev with_it : ℕ → Tree (whole d)
      with_it m = replace (whole d) (sub (whole d) t m p) h p s

      new_at : (m : ℕ) → h < m → m ≤ height (whole d) t p → box_in d c k (some after) (at d c t p m) ≡ kept (with_it m) m
      new_at m a e = ap (λ x. cond (ltb (at d c t p m) k) x no_box_ends) (slot_above d c (box_ends d c) no_box_ends h m p s t o' a e)

      -- a turn: the box of height n + 1 written, if its branch is cached
      pub partly_turn : k ≤ branch_limit → (boxes : List (List (List Float))) (box : List (List Float)) (n : ℕ) → h ≤ n → suc n ≤ height (whole d) t p → Partly d c k t after p boxes n
          → (ltb (at d c t p (suc n)) k ≡ true → box ≡ box_ends d c (with_it (suc n))) → Partly d c k t after p (written k (at d c t p (suc n)) box boxes) (suc n)
      partly_turn few boxes box n a l P is =
          partly_next d c k t after p o boxes (written k i box boxes) n l P (written_length k i box boxes ∙ P.size)
          (λ q. written_here k i box boxes (omega (arith, P.size)) _ (P.todo (suc n) (omega arith) l q ∙ old_at (suc n) (omega arith) l)
          ∙ by-test (ltb i k) (λ x. rw x (is x)) (λ x. rw x) ∙ sym (new_at (suc n) (omega arith) l))
          (λ j z. written_there k i box boxes j z)
        where
          i : ℕ
          i = at d c t p (suc n)

      -- the end: the cached boxes above are the same in both trees
      pub partly_stop : (boxes : List (List (List Float))) (n : ℕ) → h ≤ n → n ≤ height (whole d) t p → Partly d c k t after p boxes n
          → ((m : ℕ) → n < m → m ≤ height (whole d) t p → ltb (at d c t p m) k ≡ true → box_ends d c (sub (whole d) t m p) ≡ box_ends d c (with_it m)) → boxes ≡ tab branch_limit (box_in d c k (some after))
      partly_stop boxes n a l P same =
          partly_all d c k t after p o boxes (height (whole d) t p) (omega arith)
          (partly_rest d c k t after p o boxes (height (whole d) t p - n) n (omega arith) P
          (λ m b e. old_at m (omega arith) e ∙ by-test (ltb (at d c t p m) k) (λ x. rw x (same m b e x)) (λ x. rw x) ∙ sym (new_at m (omega arith) e)))

  -- ---- the ends, lower or upper
  module _ {m : Number → Number → Number} {to : Number → Number → Bool} (E : End (whole d) m to) where
    -- what tells two trees' ends apart tells the ends apart of every box above them
    pub end_replaced : (h i : ℕ) (φ : Number → Number) → ((x y : Number) → m (φ x) y ≡ φ (m x y)) → (s u : Tree (whole d)) → end (whole d) m s i ≡ φ (end (whole d) m u i) → (t : Tree (whole d)) → h ≤ height (whole d) t p
        → end (whole d) m (replace (whole d) t h p s) i ≡ φ (end (whole d) m (replace (whole d) t h p u) i)
    end_replaced h i φ out s u w = along (whole d) (λ t. h ≤ height (whole d) t p → end (whole d) m (replace (whole d) t h p s) i ≡ φ (end (whole d) m (replace (whole d) t h p u) i)) p
        (λ j q n e. w)
        (λ b k l r ih e. by_height (whole d) b k l r p h e
        (λ z. rw (z, replace_top (whole d) (branch b k l r) p s, replace_top (whole d) (branch b k l r) p u) w)
        (λ n. rw (replace_down (whole d) b k l r p h s n, replace_down (whole d) b k l r p h u n, end_rejoin (whole d) E b k l r p (replace (whole d) (toward (whole d) k p l r) h p s) i, end_rejoin (whole d) E b k l r p (replace (whole d) (toward (whole d) k p l r) h p u) i, ih n)
        (out _ _)))

    abbrev ends_of : Tree (whole d) → List Float
    ends_of t = ends (λ (i : ℕ). end (whole d) m t i)

    -- ---- a box that holds the point
    abbrev pub Still : Tree (whole d) → Type 0
    Still t = (i : ℕ) → i < width → m (end (whole d) m t i) (coordinate p i) ≡ end (whole d) m t i

    module _ (j : Float → Float → Float) (J : (f g : ℕ → Number) → joined j (ends f) (ends g) ≡ ends (λ (i : ℕ). m (f i) (g i))) where
      joined_row : (t : Tree (whole d)) → joined j (ends_of t) p.row ≡ ends (λ (i : ℕ). m (end (whole d) m t i) (coordinate p i))
      joined_row t = ap (joined j (ends_of t)) (row_ends p) ∙ J (λ i. end (whole d) m t i) (coordinate p)

      pub still_is : (t : Tree (whole d)) → joined j (ends_of t) p.row ≡ ends_of t → Still t
      still_is t e i l =
          same_number _ _
          (sym (tab_at width (λ (i : ℕ). (m (end (whole d) m t i) (coordinate p i)).value) i nan l) ∙ ap (λ (x : List Float). channel x i) (sym (joined_row t) ∙ e) ∙ tab_at width (λ (i : ℕ). (end (whole d) m t i).value) i nan l)

  -- ---- a box grown by the point
  pub grown_box : (t u : Tree (whole d)) → ((i : ℕ) → lo (whole d) u i ≡ least (whole d) (lo (whole d) t i) (coordinate p i)) → ((i : ℕ) → hi (whole d) u i ≡ most (whole d) (hi (whole d) t i) (coordinate p i))
      → box_with (low_of d c t) (high_of d c t) p.row ≡ box_ends d c u
  grown_box t u low high = both
      (joined_row (least_end d) least_float (least_ends d) t ∙ tab_same width _ _ (λ i _. ap (λ (x : Number). x.value) (sym (low i))))
      (joined_row (most_end d) greatest_float (most_ends d) t ∙ tab_same width _ _ (λ i _. ap (λ (x : Number). x.value) (sym (high i))))
