-- An add looks at no more words than the tree's capacity: with other words from there on its answer and what it leaves are the same.
use mathlib.Core.Path.{◌≡◌, refl, sym, ap, ◌∙◌}
use mathlib.Core.Bool.{cond}
use mathlib.Core.Option.{Option, none, some}
use mathlib.Core.List.{List}
use Prim.Native.Nat.{ℕ, suc, ◌≤◌, ◌<◌}
use native.Mathlib.Omega.{arith}
use lib.Dec.{eqb, leb, ltb}
use lib.ListN.{length, get_or}
use borrow.Author.Tests.{leb-false}
use Rattle.cuttree.specs.Setting.{Setting, below}
use Rattle.cuttree.specs.Tree.{Tree, leaf, branch, ending, found, height, walk, leaves, drawn, parted, above, insert, add_copy}
use Rattle.cuttree.specs.Run.{World, Answer, added, full, few_words, index_above, refuse, with_point, with_tree, total_of, enter, add, call}
use Rattle.intervalstoremanager.specs.Stack.{next, after_get}
use Rattle.cuttree.proofs.Tests.{by-test, cond_true, cond_false}
use Rattle.cuttree.proofs.Leaves.{walk_leaves}

module _ (S : Setting) where
  open S use {Point, Word, no_word, indices, limit}

  -- insertion looks at a word for each node of the walk
  pub insert_words : (b i : ℕ) (p : Point) (w v : ℕ → Word) (t : Tree S) → ((m : ℕ) → m ≤ height S t p → w m ≡ v m) → insert S b i p w t ≡ insert S b i p v t
  insert_words b i p w v (leaf j q n) h = ap (λ x. above S b (drawn S (leaf j q n) p x) i p (leaf j q n)) (h 0 (omega arith))
  insert_words b i p w v (branch a k l r) h =
      let t = branch a k l r in
      ap (λ x. cond (parted S t p x) (above S b (drawn S t p x) i p t) (cond (below S k p) (branch a k (insert S b i p w l) r) (branch a k l (insert S b i p w r)))) (h (height S t p) (omega arith))
      ∙ ap (λ x. cond (parted S t p (v (height S t p))) (above S b (drawn S t p (v (height S t p))) i p t) x) (by-test (below S k p)
      (λ e. cond_true _ _ _ e ∙ ap (λ x. branch a k x r) (insert_words b i p w v l (λ m y. h m (omega (arith, ap suc (cond_true (below S k p) (height S l p) (height S r p) e))))) ∙ sym (cond_true _ _ _ e))
      (λ e. cond_false _ _ _ e ∙ ap (λ x. branch a k l x) (insert_words b i p w v r (λ m y. h m (omega (arith, ap suc (cond_false (below S k p) (height S l p) (height S r p) e))))) ∙ sym (cond_false _ _ _ e)))

  with_point_lem : (W : World S) (o : Option Point) (g h : Point → Answer S × World S) → ((p : Point) → g p ≡ h p) → with_point S W o g ≡ with_point S W o h
  with_point_lem W none g h e = refl
  with_point_lem W (some p) g h e = e p

  -- a tree of capacity c, and two lists of words: alike below c, and short of the same numbers up to c
  module _ (c : ℕ) (ws vs : List Word) (alike : (n : ℕ) → n < c → get_or ws n no_word ≡ get_or vs n no_word) (short : (n : ℕ) → n ≤ c → ltb (length ws) n ≡ ltb (length vs) n) where
    enter_words : (W : World S) (o : Option (Tree S)) (i : ℕ) (p : Point) → enter S c W o i p ws ≡ enter S c W o i p vs
    enter_words W none i p = refl
    enter_words W (some t) i p =
        ap (λ x. cond (found S t p) (added (ending S t p).index 0, with_tree S W (some (add_copy S p t)) W.free) x)
        (by-test (leb c (leaves S t)) (λ e. cond_true _ _ _ e ∙ sym (cond_true _ _ _ e))
        (λ e. let room : leaves S t < c = leb-false c (leaves S t) e in
        ap (λ x. refuse S W full (leb c (leaves S t)) x)
        (ap (λ x. refuse S W few_words x (added i (walk S t p), with_tree S W (some (insert S (next W.free) i p (λ n. get_or ws n no_word) t)) (after_get W.free))) (short (walk S t p) (omega (arith, walk_leaves S t p)))
        ∙ ap (λ x. refuse S W few_words (ltb (length vs) (walk S t p)) (added i (walk S t p), with_tree S W (some x) (after_get W.free))) (insert_words _ i p _ _ t (λ m y. alike m (omega (arith, walk_leaves S t p)))))))

    pub few_words_lem : (W : World S) (i : ℕ) → call S c W (add i ws) ≡ call S c W (add i vs)
    few_words_lem W i = ap (λ x. refuse S W index_above (leb indices i) x) (with_point_lem W (W.table i) _ _ (λ p. ap (λ x. refuse S W full (eqb (total_of S W.tree) limit) x) (enter_words W W.tree i p)))
