-- In a sampled tree an eviction's delete and an accepted arrival's add are never refused; each moves one copy of one leaf.
use mathlib.Core.Path.{◌≡◌, refl, sym, ap, ◌∙◌, subst}
use mathlib.Core.Bool.{Bool, true, false, cond, not}
use mathlib.Core.Option.{Option, none, some}
use mathlib.Core.List.{List}
use Prim.Native.Nat.{ℕ, suc, ◌+◌, ◌-◌, ◌≤◌, ◌<◌}
use native.Mathlib.Omega.{arith}
use lib.Dec.{eqb, leb, ltb}
use lib.ListN.{length, get_or}
use borrow.Author.Tests.{lt-leb, le-ltb, lt-ltb, ne_eqb, ltb-false, ltb-true}
use Rattle.cuttree.specs.Setting.{Setting, Laws}
use Rattle.intervalstoremanager.specs.Stack.{next, after_get}
use Rattle.cuttree.specs.Tree.{Tree, leaf, is, Leaf, ending, found, walk, leaves, mass, copies, sum, sum_of, forget, freed, All}
use Rattle.cuttree.specs.Run.{World, Answer, added, deleted, call, add, delete, enter, leave, total_of}
use Rattle.cuttree.specs.Counts.{one}
use Rattle.cuttree.specs.Sound.{Sound}
use Rattle.cuttree.proofs.Tests.{by-test}
use Rattle.cuttree.proofs.Sums.{number_in, sum_insert, sum_copy, sum_forget}
use Rattle.cuttree.proofs.Leaves.{walk_leaves, leaves_mass, all_ending}
use Rattle.cuttree.proofs.Copies.{mass_insert, mass_copy, mass_forget, copies_copy, copies_forget}
use Rattle.cuttree.proofs.Cuts.{leaf_ending}
use Rattle.cuttree.proofs.Nodes.{In, all_in}
use Rattle.cuttree.proofs.Room.{find_leaf, leaf_copies}
use Rattle.sampledtree.specs.Arrivals.{valued}

module _ (S : Setting) (L : Laws S) (c : ℕ) where
  open S use {Point, Word, same, no_word, indices, limit}

  -- the copies of the leaf of an index
  abbrev pub held : Option (Tree S) → ℕ → ℕ
  held o j = sum_of S (λ i q n. cond (eqb i j) n 0) (λ b. 0) o

  -- the copies of a value
  abbrev pub held_of : Option (Tree S) → Point → ℕ
  held_of o v = sum_of S (λ i q n. cond (same q v) n 0) (λ b. 0) o

  -- an add that is done: its leaf has one copy more, no other leaf has
  pub record Adds (W : World S) (x : Answer S × World S) : Type 0 where
    pub leaf_index : ℕ
    pub words : ℕ
    pub answer : x.0 ≡ added leaf_index words
    pub one_more : (j : ℕ) → held x.1.tree j ≡ held W.tree j + is leaf_index j
    pub value_more : (v : Point) → held_of x.1.tree v ≡ held_of W.tree v + valued S (W.table leaf_index) v
    pub total_more : total_of S x.1.tree ≡ suc (total_of S W.tree)

  by_index : (a j n : ℕ) → cond (eqb a j) (suc n) 0 ≡ cond (eqb a j) n 0 + is a j
  by_index a j n = by-test (eqb a j) (λ e. rw e (omega arith)) (λ e. rw e)

  -- a leaf that a walk finds has the walk's value
  found_value : (f : ℕ → Option Point) (t : Tree S) (p v : Point) → All S (λ i q n. f i ≡ some q) t → found S t p ≡ true → valued S (f (ending S t p).index) v ≡ one S p v
  found_value f t p v h e = ap (λ (o : Option Point). valued S o v) (all_ending S (λ i q n. f i ≡ some q) p t h) ∙ ap (λ (b : Bool). cond b 1 0) (L.same_cong (ending S t p).value p e v)

  enter_adds : (f : ℕ → Option Point) (o : Option (Tree S)) (u : List (ℕ × ℕ)) (i : ℕ) (p : Point) (ws : List Word) → Sound S c (record { table = f; tree = o; free = u }) → f i ≡ some p →
      total_of S o < c → c ≤ length ws → Adds (record { table = f; tree = o; free = u }) (enter S c (record { table = f; tree = o; free = u }) o i p ws)
  enter_adds f none u i p ws H at m w = record { leaf_index = i; words = 0; answer = refl; one_more = λ j. omega arith; value_more = λ v. rw at (omega arith); total_more = refl }
  enter_adds f (some t) u i p ws H at m w =
      let few : leaves S t ≤ mass S t = leaves_mass S t H.filled in
      let room : leb c (leaves S t) ≡ false = lt-leb c (leaves S t) (omega arith) in
      let enough : ltb (length ws) (walk S t p) ≡ false = le-ltb (length ws) (walk S t p) (omega (arith, walk_leaves S t p)) in
      by-test (found S t p)
      (λ e. rw e (record {
        leaf_index = (ending S t p).index;
        words = 0;
        answer = refl;
        one_more = λ j. omega (arith, sum_copy S (λ i q n. cond (eqb i j) n 0) (λ b. 0) p t, by_index (ending S t p).index j (ending S t p).copies);
        value_more = λ v. copies_copy S L p t v e ∙ ap (λ (n : ℕ). copies S t v + n) (sym (found_value f t p v H.agree e));
        total_more = mass_copy S p t;
      }))
      (λ e. rw (e, room, enough) (record {
        leaf_index = i;
        words = walk S t p;
        answer = refl;
        one_more = λ j. omega (arith, sum_insert S (λ i q n. cond (eqb i j) n 0) (λ b. 0) (next u) i p (λ n. get_or ws n no_word) t);
        value_more = λ v. rw at (omega (arith, sum_insert S (λ i q n. cond (same q v) n 0) (λ b. 0) (next u) i p (λ n. get_or ws n no_word) t));
        total_more = mass_insert S (next u) i p (λ n. get_or ws n no_word) t;
      }))

  pub add_admits : (W : World S) (i : ℕ) (p : Point) (ws : List Word) → Sound S c W → W.table i ≡ some p → total_of S W.tree < c → c ≤ limit → c ≤ length ws → Adds W (call S c W (add i ws))
  add_admits W i p ws H e m l w =
      rw (lt-leb indices i (H.inside i p e), e, ne_eqb (total_of S W.tree) limit (omega arith)) (enter_adds W.table W.tree W.free i p ws H e m w)

  -- a delete that is done, of the leaf of the index itself
  pub record Deletes (W : World S) (e : ℕ) (x : Answer S × World S) : Type 0 where
    pub answer : x.0 ≡ deleted e
    pub one_less : (j : ℕ) → held x.1.tree j + is e j ≡ held W.tree j
    pub value_less : (v : Point) → held_of x.1.tree v + valued S (W.table e) v ≡ held_of W.tree v
    pub total_less : suc (total_of S x.1.tree) ≡ total_of S W.tree

  less : (a j n : ℕ) → 0 < n → cond (ltb 1 n) (cond (eqb a j) (n - 1) 0) 0 + is a j ≡ cond (eqb a j) n 0
  less a j n h = by-test (ltb 1 n) (λ e. by-test (eqb a j) (λ y. rw (e, y) (omega arith)) (λ y. rw (e, y)))
      (λ e. by-test (eqb a j) (λ y. rw (e, y) (omega (arith, ltb-false 1 n e))) (λ y. rw (e, y)))

  -- the leaf of an index that has copies: its point is the table's, and its value's walk ends there
  pub evicted_leaf : (f : ℕ → Option Point) (t : Tree S) (u : List (ℕ × ℕ)) (e : ℕ) → Sound S c (record { table = f; tree = some t; free = u }) → 0 < held (some t) e →
      (q : Point) × (n : ℕ) × (f e ≡ some q) × (ending S t q ≡ record { index = e; value = q; copies = n }) × (0 < n)
  evicted_leaf f t u e H h =
      let (q, n, at) = find_leaf S t e (ltb-true 0 _ (leaf_copies S t e H.filled ∙ lt-ltb 0 _ h)) in
      (q, n, all_in S (λ i q n. f i ≡ some q) at H.agree, all_in S (λ i q n. ending S t q ≡ record { index = i; value = q; copies = n }) at (leaf_ending S L t H.cut), all_in S (λ i q n. 0 < n) at H.filled)

  none_in : (z : Option ℕ) → number_in (λ b. 0) z ≡ 0
  none_in none = refl
  none_in (some b) = refl

  leave_deletes : (f : ℕ → Option Point) (t : Tree S) (u : List (ℕ × ℕ)) (e n : ℕ) (q : Point) → Sound S c (record { table = f; tree = some t; free = u }) →
      f e ≡ some q → ending S t q ≡ record { index = e; value = q; copies = n } → 0 < n → Deletes (record { table = f; tree = some t; free = u }) e (leave S (record { table = f; tree = some t; free = u }) (some t) q)
  leave_deletes f t u e n q H at a h =
      let hit : found S t q ≡ true = ap (λ (x : Leaf S). same x.value q) a ∙ L.same_refl q in
      rw hit (record {
        answer = ap (λ (x : Leaf S). deleted x.index) a;
        one_less = λ j. omega (arith, rw a at (sum_forget S (λ i q n. cond (eqb i j) n 0) (λ b. 0) q t), less e j n h, none_in (freed S q t));
        value_less = λ v. rw at (copies_forget S L q t v H.filled hit);
        total_less = mass_forget S q t H.filled;
      })

  pub delete_admits : (f : ℕ → Option Point) (o : Option (Tree S)) (u : List (ℕ × ℕ)) (e : ℕ) → Sound S c (record { table = f; tree = o; free = u }) → 0 < held o e → Deletes (record { table = f; tree = o; free = u }) e (call S c (record { table = f; tree = o; free = u }) (delete e))
  delete_admits f none u e H h = absurd (omega arith)
  delete_admits f (some t) u e H h =
      let (q, n, b, a, m) = evicted_leaf f t u e H h in
      rw (lt-leb indices e (H.inside e q b), b) (leave_deletes f t u e n q H b a m)
