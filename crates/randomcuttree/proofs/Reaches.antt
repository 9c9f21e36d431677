-- What calls leave, beside soundness: every cut is on one of the tree's channels, and a reading has +0.0 beyond them. Assumes nothing.
use mathlib.Core.Path.{◌≡◌, refl, sym, ap, ◌∙◌, subst}
use mathlib.Core.Bool.{true, not}
use mathlib.Core.Option.{Option, none, some}
use mathlib.Core.List.{List}
use Prim.Native.Nat.{ℕ, ◌≤◌, ◌<◌}
use native.Mathlib.Omega.{arith}
use lib.Dec.{eqb, leb, ltb}
use lib.ListN.{length, get_or}
use lib.Ieee.{Float}
use Rattle.limits.specs.Limits.{width, point_limit, total_limit}
use Rattle.intervalstoremanager.specs.Stack.{next}
use Rattle.cuttree.specs.Setting.{Cut, below}
use Rattle.cuttree.specs.Tree.{Tree, leaf, branch, All, OfTree, parted, above, height, walk, found, leaves, insert, add_copy, forget}
use Rattle.cuttree.specs.Run.{World, Call, put, add, delete, query, call, fresh, Answer, with_point, enter, leave, is_leaf, total_of, write}
use borrow.Author.Tests.{eqb-true, not-false}
use Rattle.readings.proofs.Tests.{yes}
use Rattle.boundingbox.specs.Ends.{channel}
use Rattle.boundingbox.specs.Padding.{Padded}
use Rattle.cuttree.proofs.Tests.{by_cond, nonsense}
use Rattle.cuttree.proofs.Leaves.{lifted}
use Rattle.cuttree.proofs.Keeps.{sound_call, inv_fresh}
use Rattle.wholetree.specs.Reading.{Reading, reading}
use Rattle.wholetree.specs.Whole.{whole, all_coordinates}
use Rattle.wholetree.proofs.Readings.{padded_beyond, reading_row}
use Rattle.wholetree.proofs.Laws.{whole_laws}
use Rattle.treestore.proofs.Channels.{tree_channel}
use Rattle.randomcuttree.specs.State.{OnChannels, Reachable}
use Rattle.randomcuttree.proofs.Given.{narrow}

module _ (d : ℕ) where
  above_in : (b : ℕ) (k : Cut (whole d)) (i : ℕ) (p : Reading) (t : Tree (whole d)) → k.channel < d → OnChannels d t → OnChannels d (above (whole d) b k i p t)
  above_in b k i p t h w = by_cond (OnChannels d) (below (whole d) k p) _ _ (λ _. (h, tt, w)) (λ _. (h, w, tt))

  insert_in : 1 ≤ d → d ≤ width → (b i : ℕ) (p : Reading) (w : ℕ → ℕ) → Padded p.row d width → (t : Tree (whole d)) → All (whole d) (λ i q n. Padded q.row d width) t → OnChannels d t → OnChannels d (insert (whole d) b i p w t)
  insert_in o m b i p w z (leaf j q n) y h = above_in b _ i p (leaf j q n) (tree_channel d (leaf j q n) p (w 0) o m y z) tt
  insert_in o m b i p w z (branch a k l r) y h = by_cond (OnChannels d) (parted (whole d) (branch a k l r) p (w (height (whole d) (branch a k l r) p))) _ _
      (λ _. above_in b _ i p (branch a k l r) (tree_channel d (branch a k l r) p _ o m y z) h)
      (λ _. by_cond (OnChannels d) (below (whole d) k p) _ _ (λ _. (h.0, insert_in o m b i p w z l y.0 h.1, h.2)) (λ _. (h.0, h.1, insert_in o m b i p w z r y.1 h.2)))

  copy_in : (p : Reading) (t : Tree (whole d)) → OnChannels d t → OnChannels d (add_copy (whole d) p t)
  copy_in p (leaf i q n) h = tt
  copy_in p (branch b k l r) h = by_cond (OnChannels d) (below (whole d) k p) _ _ (λ _. (h.0, copy_in p l h.1, h.2)) (λ _. (h.0, h.1, copy_in p r h.2))

  forget_in : (p : Reading) (t : Tree (whole d)) → OnChannels d t → OfTree (whole d) (OnChannels d) (forget (whole d) p t)
  forget_in p (leaf i q n) h = by_cond (OfTree (whole d) (OnChannels d)) (ltb 1 n) _ _ (λ _. tt) (λ _. tt)
  forget_in p (branch b k l r) h = by_cond (OnChannels d) (below (whole d) k p) _ _
      (λ _. lifted (whole d) (OnChannels d) (OnChannels d) (forget (whole d) p l) (λ t. branch b k t r) r (forget_in p l h.1) h.2 (λ t w. (h.0, w, h.2)))
      (λ _. lifted (whole d) (OnChannels d) (OnChannels d) (forget (whole d) p r) (λ t. branch b k l t) l (forget_in p r h.2) h.1 (λ t w. (h.0, h.1, w)))

  -- after a call
  abbrev After : Answer (whole d) × World (whole d) → Type 0
  After x = OfTree (whole d) (OnChannels d) x.1.tree

  module _ (l : 1 ≤ d) (m : d ≤ width) (c : ℕ) (W : World (whole d)) (R : Reachable d c W) where
    point_in : (o : Option Reading) (g : Reading → Answer (whole d) × World (whole d)) → ((p : Reading) → o ≡ some p → After (g p)) → After (with_point (whole d) W o g)
    point_in none g f = R.on_channels
    point_in (some p) g f = f p refl

    enter_in : (o : Option (Tree (whole d))) → W.tree ≡ o → OfTree (whole d) (OnChannels d) o → (i : ℕ) (p : Reading) (ws : List ℕ) → W.table i ≡ some p → After (enter (whole d) c W o i p ws)
    enter_in none e h i p ws z = tt
    enter_in (some t) e h i p ws z = by_cond After (found (whole d) t p) _ _ (λ _. copy_in p t h)
        (λ _. by_cond After (leb c (leaves (whole d) t)) _ _ (λ _. R.on_channels) (λ _. by_cond After (ltb (length ws) (walk (whole d) t p)) _ _ (λ _. R.on_channels) (λ _. insert_in l m (next W.free) i p (λ n. get_or ws n (whole d).no_word) (R.narrow i p z) t (narrow R e) h)))

    leave_in : (o : Option (Tree (whole d))) → OfTree (whole d) (OnChannels d) o → (p : Reading) → After (leave (whole d) W o p)
    leave_in none h p = R.on_channels
    leave_in (some t) h p = by_cond After (not (found (whole d) t p)) _ _ (λ _. R.on_channels) (λ _. forget_in p t h)

    call_in : (x : Call (whole d)) → After (call (whole d) c W x)
    call_in (put i xs) = by_cond After (leb point_limit i) _ _ (λ _. R.on_channels) (λ _. by_cond After (not ((whole d).counted xs)) _ _ (λ _. R.on_channels) (λ _. by_cond After (not ((whole d).good xs)) _ _ (λ _. R.on_channels) (λ _. by_cond After (is_leaf (whole d) W.tree i) _ _ (λ _. R.on_channels) (λ _. R.on_channels))))
    call_in (add i ws) = by_cond After (leb point_limit i) _ _ (λ _. R.on_channels) (λ _. point_in (W.table i) _ (λ p e. by_cond After (eqb (total_of (whole d) W.tree) total_limit) _ _ (λ _. R.on_channels) (λ _. enter_in W.tree refl R.on_channels i p ws e)))
    call_in (delete i) = by_cond After (leb point_limit i) _ _ (λ _. R.on_channels) (λ _. point_in (W.table i) _ (λ p e. leave_in W.tree R.on_channels p))
    call_in (query q) = R.on_channels

  module _ (c : ℕ) where
    -- ---- the table: a put that is taken has as many coordinates as channels, and no other call writes it
    abbrev Same : World (whole d) → Answer (whole d) × World (whole d) → Type 0
    Same W x = x.1.table ≡ W.table

    point_tabled : (W : World (whole d)) (o : Option Reading) (g : Reading → Answer (whole d) × World (whole d)) → ((p : Reading) → (g p).1.table ≡ W.table) → (with_point (whole d) W o g).1.table ≡ W.table
    point_tabled W none g f = refl
    point_tabled W (some p) g f = f p

    enter_tabled : (W : World (whole d)) (o : Option (Tree (whole d))) (i : ℕ) (p : Reading) (ws : List ℕ) → (enter (whole d) c W o i p ws).1.table ≡ W.table
    enter_tabled W none i p ws = refl
    enter_tabled W (some t) i p ws = by_cond (Same W) (found (whole d) t p) _ _ (λ _. refl)
        (λ _. by_cond (Same W) (leb c (leaves (whole d) t)) _ _ (λ _. refl) (λ _. by_cond (Same W) (ltb (length ws) (walk (whole d) t p)) _ _ (λ _. refl) (λ _. refl)))

    leave_tabled : (W : World (whole d)) (o : Option (Tree (whole d))) (p : Reading) → (leave (whole d) W o p).1.table ≡ W.table
    leave_tabled W none p = refl
    leave_tabled W (some t) p = by_cond (Same W) (not (found (whole d) t p)) _ _ (λ _. refl) (λ _. refl)

    add_table : (W : World (whole d)) (i : ℕ) (ws : List ℕ) → (call (whole d) c W (add i ws)).1.table ≡ W.table
    add_table W i ws = by_cond (Same W) (leb point_limit i) _ _ (λ _. refl) (λ _. point_tabled W (W.table i) _ (λ p. by_cond (Same W) (eqb (total_of (whole d) W.tree) total_limit) _ _ (λ _. refl) (λ _. enter_tabled W W.tree i p ws)))

    delete_table : (W : World (whole d)) (i : ℕ) → (call (whole d) c W (delete i)).1.table ≡ W.table
    delete_table W i = by_cond (Same W) (leb point_limit i) _ _ (λ _. refl) (λ _. point_tabled W (W.table i) _ (λ p. leave_tabled W W.tree p))

    abbrev Narrow : (ℕ → Option Reading) → Type 0
    Narrow f = (i : ℕ) (p : Reading) → f i ≡ some p → Padded p.row d width

    abbrev NarrowAfter : Answer (whole d) × World (whole d) → Type 0
    NarrowAfter x = (i : ℕ) (p : Reading) → x.1.table i ≡ some p → Padded p.row d width

    write_narrow : (f : ℕ → Option Reading) (i : ℕ) (xs : List Float) → length xs ≡ d → all_coordinates xs ≡ true → Narrow f → Narrow (write (whole d) f i (reading xs))
    write_narrow f i xs l g h j p = by_cond (λ (o : Option Reading). o ≡ some p → Padded p.row d width) (eqb j i) (some (reading xs)) (f j)
        (λ _ e. let z : reading xs ≡ p = cc in subst (λ (q : Reading). Padded q.row d width) z (λ m a b. ap (λ (r : List Float). channel r m) (reading_row xs (yes g)) ∙ padded_beyond width xs m (omega arith) b))
        (λ _. h j p)

    narrow_call : (W : World (whole d)) (x : Call (whole d)) → Narrow W.table → Narrow (call (whole d) c W x).1.table
    narrow_call W (put i xs) h = by_cond NarrowAfter (leb point_limit i) _ _ (λ _. h) (λ _. by_cond NarrowAfter (not (eqb (length xs) d)) _ _ (λ _. h) (λ l. by_cond NarrowAfter (not (all_coordinates xs)) _ _ (λ _. h)
        (λ g. by_cond NarrowAfter (is_leaf (whole d) W.tree i) _ _ (λ _. h) (λ _. write_narrow W.table i xs (eqb-true (length xs) d (not-false _ l)) (not-false _ g) h))))
    narrow_call W (add i ws) h = subst Narrow (sym (add_table W i ws)) h
    narrow_call W (delete i) h = subst Narrow (sym (delete_table W i)) h
    narrow_call W (query q) h = h

    -- every call leaves a world that calls leave
    pub reachable_call : 1 ≤ d → d ≤ width → (W : World (whole d)) (x : Call (whole d)) → Reachable d c W → Reachable d c (call (whole d) c W x).1
    reachable_call l m W x R = record { sound = sound_call (whole d) c (whole_laws d) W x R.sound; on_channels = call_in l m c W R x; narrow = narrow_call W x R.narrow }

    pub reachable_fresh : 2 ≤ c → Reachable d c (fresh (whole d) c)
    reachable_fresh h = record { sound = (inv_fresh (whole d) c h).sound; on_channels = tt; narrow = λ i p e. nonsense (cc) }
