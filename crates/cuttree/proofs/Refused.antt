-- What a call answers by its kind, and that a refused one changes nothing.
use mathlib.Core.Path.{◌≡◌, refl}
use mathlib.Core.Bool.{not}
use mathlib.Core.Option.{Option, none, some}
use mathlib.Core.List.{List}
use Prim.Native.Nat.{ℕ}
use lib.Dec.{eqb, leb, ltb}
use lib.ListN.{length}
use Rattle.cuttree.specs.Setting.{Setting}
use Rattle.cuttree.specs.Tree.{Tree, found, walk, leaves}
use Rattle.cuttree.specs.Run.{Refusal, index_above, coordinate_count, bad_coordinate, index_is_leaf, never_written, full, few_words, tree_empty, not_held, Answer, refused, written, added, deleted, World, is_leaf, with_point, total_of, enter, leave, Call, put, add, delete, query, call}
use Rattle.cuttree.proofs.Tests.{by_cond, nonsense}

module _ (S : Setting) (capacity : ℕ) where
  open S use {Point, Word, Raw, counted, good, indices, limit}

  -- A CALL'S ANSWER is a refusal, with the world as it was, or one of its kind: what holds of both holds of the call. A put leaves the tree
  -- and its numbers, an add and a delete leave the table.
  module _ (P : Answer S × World S → Type 0) (W : World S) (refusing : (m : Refusal) → P (refused m, W)) where
    pub by_put : (i : ℕ) (x : Raw) → ((U : World S) → (U.tree ≡ W.tree) × (U.free ≡ W.free) → P (written, U)) → P (call S capacity W (put i x))
    by_put i x done = by_cond P (leb indices i) _ _ (λ _. refusing index_above) (λ _. by_cond P (not (counted x)) _ _ (λ _. refusing coordinate_count)
        (λ _. by_cond P (not (good x)) _ _ (λ _. refusing bad_coordinate) (λ _. by_cond P (is_leaf S W.tree i) _ _ (λ _. refusing index_is_leaf) (λ _. done _ (refl, refl)))))

    by_point : (o : Option Point) (g : Point → Answer S × World S) → ((p : Point) → P (g p)) → P (with_point S W o g)
    by_point none g h = refusing never_written
    by_point (some p) g h = h p

    by_enter : (o : Option (Tree S)) (i : ℕ) (p : Point) (ws : List Word) → ((j n : ℕ) (U : World S) → U.table ≡ W.table → P (added j n, U)) → P (enter S capacity W o i p ws)
    by_enter none i p ws done = done i 0 _ refl
    by_enter (some t) i p ws done = by_cond P (found S t p) _ _ (λ _. done _ _ _ refl)
        (λ _. by_cond P (leb capacity (leaves S t)) _ _ (λ _. refusing full) (λ _. by_cond P (ltb (length ws) (walk S t p)) _ _ (λ _. refusing few_words) (λ _. done _ _ _ refl)))

    pub by_add : (i : ℕ) (ws : List Word) → ((j n : ℕ) (U : World S) → U.table ≡ W.table → P (added j n, U)) → P (call S capacity W (add i ws))
    by_add i ws done = by_cond P (leb indices i) _ _ (λ _. refusing index_above)
        (λ _. by_point (W.table i) _ (λ p. by_cond P (eqb (total_of S W.tree) limit) _ _ (λ _. refusing full) (λ _. by_enter W.tree i p ws done)))

    by_leave : (o : Option (Tree S)) (p : Point) → ((j : ℕ) (U : World S) → U.table ≡ W.table → P (deleted j, U)) → P (leave S W o p)
    by_leave none p done = refusing tree_empty
    by_leave (some t) p done = by_cond P (not (found S t p)) _ _ (λ _. refusing not_held) (λ _. done _ _ refl)

    pub by_delete : (i : ℕ) → ((j : ℕ) (U : World S) → U.table ≡ W.table → P (deleted j, U)) → P (call S capacity W (delete i))
    by_delete i done = by_cond P (leb indices i) _ _ (λ _. refusing index_above) (λ _. by_point (W.table i) _ (λ p. by_leave W.tree p done))

  abbrev Unchanged : World S → Refusal → Answer S × World S → Type 0
  Unchanged W m x = x.0 ≡ refused m → x.1 ≡ W

  pub refused_same : (W : World S) (c : Call S) (m : Refusal) → Unchanged W m (call S capacity W c)
  refused_same W (put i x) m = by_put (Unchanged W m) W (λ _ _. refl) i x (λ U _ e. nonsense (cc))
  refused_same W (add i ws) m = by_add (Unchanged W m) W (λ _ _. refl) i ws (λ j n U _ e. nonsense (cc))
  refused_same W (delete i) m = by_delete (Unchanged W m) W (λ _ _. refl) i (λ j U _ e. nonsense (cc))
  refused_same W (query q) m = λ _. refl
