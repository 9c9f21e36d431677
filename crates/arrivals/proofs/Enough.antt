-- An add looks at no word beyond its walk: with other words from there on its answer and what it leaves are the same. Assumes nothing.
use mathlib.Core.Path.{◌≡◌, refl, ap, ◌∙◌}
use mathlib.Core.Bool.{cond}
use mathlib.Core.Option.{Option, none, some}
use mathlib.Core.List.{List}
use Prim.Native.Nat.{ℕ, ◌≤◌, ◌<◌}
use native.Mathlib.Omega.{arith}
use lib.Dec.{eqb, leb, ltb}
use lib.ListN.{length, get_or}
use Rattle.cuttree.specs.Setting.{Setting}
use Rattle.cuttree.specs.Tree.{Tree, ending, found, walk, leaves, insert, add_copy}
use Rattle.cuttree.specs.Run.{World, added, full, few_words, index_above, refuse, with_tree, total_of, enter, add, call}
use Rattle.intervalstoremanager.specs.Stack.{next, after_get}
use Rattle.cuttree.proofs.Words.{insert_words}
use Rattle.arrivals.specs.Words.{walk_in}

module _ (S : Setting) where
  open S use {Point, Word, no_word, indices, limit}

  -- two lists of words as long as each other, alike below m
  module _ (c m : ℕ) (ws vs : List Word) (alike : (n : ℕ) → n < m → get_or ws n no_word ≡ get_or vs n no_word) (long : length ws ≡ length vs) where
    enter_alike : (W : World S) (o : Option (Tree S)) (i : ℕ) (p : Point) → walk_in S o (some p) ≤ m → enter S c W o i p ws ≡ enter S c W o i p vs
    enter_alike W none i p h = refl
    enter_alike W (some t) i p h =
        ap (λ (n : ℕ). cond (found S t p) (added (ending S t p).index 0, with_tree S W (some (add_copy S p t)) W.free) (refuse S W full (leb c (leaves S t)) (refuse S W few_words (ltb n (walk S t p)) (added i (walk S t p), with_tree S W (some (insert S (next W.free) i p (λ n. get_or ws n no_word) t)) (after_get W.free))))) long
        ∙ ap (λ (u : Tree S). cond (found S t p) (added (ending S t p).index 0, with_tree S W (some (add_copy S p t)) W.free) (refuse S W full (leb c (leaves S t)) (refuse S W few_words (ltb (length vs) (walk S t p)) (added i (walk S t p), with_tree S W (some u) (after_get W.free)))))
        (insert_words S _ i p _ _ t (λ n y. alike n (omega (arith, h, y))))

    pub add_within : (W : World S) (i : ℕ) (p : Point) → W.table i ≡ some p → walk_in S W.tree (some p) ≤ m → call S c W (add i ws) ≡ call S c W (add i vs)
    add_within W i p P h = rw P (ap (λ x. refuse S W index_above (leb indices i) (refuse S W full (eqb (total_of S W.tree) limit) x)) (enter_alike W W.tree i p h))
