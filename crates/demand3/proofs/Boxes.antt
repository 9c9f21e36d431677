-- The cached boxes of a state: a row for each branch below the whole part of share × c, as the box query answers it, and zeros elsewhere. Assumes nothing.
use mathlib.Core.Path.{◌≡◌, refl, sym, ap, ◌∙◌}
use mathlib.Core.Bool.{true}
use mathlib.Core.Option.{Option, none, some}
use mathlib.Core.List.{List, []}
use Prim.Native.Nat.{ℕ, ◌+◌, ◌<◌}
use native.Mathlib.Omega.{arith}
use lib.Dec.{ltb}
use lib.ListN.{get_or}
use lib.Ieee.{Float, nan, le}
use borrow.Author.Tests.{ltb-true, ltb-false, lt-ltb, le-ltb}
use Rattle.limits.specs.Limits.{width, branch_limit}
use Rattle.boundingbox.specs.Ends.{channel}
use Rattle.readings.specs.Number.{Number}
use Rattle.readings.specs.Share.{cached_part}
use Rattle.cuttree.specs.Setting.{Cut}
use Rattle.cuttree.specs.Tree.{Tree, branch, lo, hi}
use Rattle.cuttree.specs.Run.{World, Row}
use Rattle.cuttree.specs.Counts.{Counts}
use Rattle.cuttree.specs.Graph.{View, IsBranch, Under}
use Rattle.cuttree.specs.Demand3.{view_of, TreeClaim}
use Rattle.cuttree.proofs.Tests.{by_cond, by-test, nonsense, cond_true, cond_false}
use Rattle.cuttree.proofs.Nodes.{In}
use Rattle.cuttree.proofs.Keeps.{Inv}
use Rattle.cuttree.proofs.Views.{box_at, branch_asked, box_asked, by_branch}
use Rattle.cuttree.proofs.Claims.{tree_claim}
use Rattle.wholetree.specs.Reading.{Reading}
use Rattle.wholetree.specs.Whole.{whole}
use Rattle.wholetree.proofs.Readings.{tab_at, coordinate_is}
use Rattle.wholetree.proofs.Laws.{whole_laws}
use Rattle.layout.specs.Slots.{box_ends, uses}
use Rattle.layout.specs.Layout.{no_box_ends, box_in}
use Rattle.layout.proofs.Tabs.{entry_of}
use Rattle.layout.proofs.Slots.{uses_in, branch_of_lem, slot_none, slot_in_lem}
use Rattle.randomcuttree.specs.State.{cached_by, State}
use Rattle.randomcuttree.proofs.Parts.{cached_is, boxes_are}
use Rattle.randomcuttree.proofs.Lookups.{once, branch_below}
use Rattle.demand3.specs.Steps.{Kept}
use Rattle.demand3.specs.Claim.{end_kept, CachedBoxes}

module _ (d c : ℕ) (s : Float) (x : Kept) (K : Counts (whole d)) (f : ℕ → Option Reading) (u : List (ℕ × ℕ)) where
  abbrev of : Option (Tree (whole d)) → World (whole d)
  of o = record { table = f; tree = o; free = u }

  abbrev StateAt : Option (Tree (whole d)) → Type 0
  StateAt o = State d c s (of o) x.tree x.arrays x.table.points x.table.written

  row_is : (o : Option (Tree (whole d))) → StateAt o → (b : ℕ) → b < branch_limit → get_or x.arrays.boxes b [] ≡ box_in d c (cached_by s c) o b
  row_is o S b h = entry_of branch_limit (box_in d c (cached_by s c) o) x.arrays.boxes (boxes_are S) [] b h

  -- OF A TREE
  module _ (t : Tree (whole d)) (S : StateAt (some t)) (I : Inv (whole d) c (of (some t)) K) where
    abbrev G : View (whole d)
    G = view_of (whole d) c (of (some t)) K

    claim : TreeClaim (whole d) c G K
    claim = tree_claim (whole d) c (whole_laws d) (of (some t)) K I

    -- the numbers of branches are below c − 1
    numbered : {b : ℕ} {k : Cut (whole d)} {l r : Tree (whole d)} → In (whole d) (branch b k l r) t → b + 1 < c
    numbered {b} j = branch_below d c f t u I.sound b (uses_in d c j)

    row_kept : {b : ℕ} {k : Cut (whole d)} {l r : Tree (whole d)} → In (whole d) (branch b k l r) t → b < cached_part s c → get_or x.arrays.boxes b [] ≡ box_ends d c (branch b k l r)
    row_kept {b} j h = row_is (some t) S b (omega (arith, numbered j, S.limits.3)) ∙ cond_true _ _ _ (lt-ltb b (cached_by s c) (omega (arith, numbered j))) ∙ slot_in_lem d c (box_ends d c) no_box_ends (once d c f t u I.sound) j

    low_kept : {b : ℕ} {k : Cut (whole d)} {l r : Tree (whole d)} → In (whole d) (branch b k l r) t → b < cached_part s c → (i : ℕ) → i < width → end_kept x b 0 i ≡ (lo (whole d) (branch b k l r) i).value
    low_kept {b} {k} {l} {r} j h i w = ap (λ (y : List (List Float)). channel (get_or y 0 []) i) (row_kept j h) ∙ tab_at width (λ (n : ℕ). (lo (whole d) (branch b k l r) n).value) i nan w

    high_kept : {b : ℕ} {k : Cut (whole d)} {l r : Tree (whole d)} → In (whole d) (branch b k l r) t → b < cached_part s c → (i : ℕ) → i < width → end_kept x b 1 i ≡ (hi (whole d) (branch b k l r) i).value
    high_kept {b} {k} {l} {r} j h i w = ap (λ (y : List (List Float)). channel (get_or y 1 []) i) (row_kept j h) ∙ tab_at width (λ (n : ℕ). (hi (whole d) (branch b k l r) n).value) i nan w

    other_row : (b : ℕ) → b < branch_limit → ((r : Row (whole d)) → IsBranch (whole d) G b r → b < cached_part s c → ⊥) → box_in d c (cached_by s c) (some t) b ≡ no_box_ends
    other_row b h n = by-test (ltb b (cached_by s c))
        (λ e. cond_true _ _ _ e ∙ by-test (ltb 0 (uses d c t b))
        (λ m. absurd (n _ (branch_asked (whole d) c (whole_laws d) f t u K I (branch_of_lem d c t b (ltb-true 0 (uses d c t b) m)).inside) (omega (arith, ltb-true b (cached_by s c) e))))
        (λ m. slot_none d c (box_ends d c) no_box_ends t b (omega (arith, ltb-false 0 (uses d c t b) m))))
        (λ e. cond_false _ _ _ e)

    below_part : (b : ℕ) → b + 1 < c → ltb b (cached_by s c) ≡ ltb b (cached_part s c)
    below_part b h = by-test (ltb b (cached_part s c))
        (λ e. lt-ltb b (cached_by s c) (omega (arith, ltb-true b (cached_part s c) e)) ∙ sym e)
        (λ e. le-ltb b (cached_by s c) (omega (arith, ltb-false b (cached_part s c) e)) ∙ sym e)

    boxes_some : CachedBoxes d c s x G
    boxes_some = record {
      around = by_branch (whole d) c (whole_laws d) f t u K I
          (λ b r. b < cached_part s c → (i : ℕ) → i < width → (q : Reading) → Under (whole d) G b q → (le (end_kept x b 0 i) (channel q.row i) ≡ true) × (le (channel q.row i) (end_kept x b 1 i) ≡ true))
          (λ b k l r j h i w q v. rw (low_kept j h i w, high_kept j h i w, sym (coordinate_is q i w)) (claim.around b (box_at (whole d) c (branch b k l r)) (box_asked (whole d) c (whole_laws d) f t u K I j) i q v));
      smallest = by_branch (whole d) c (whole_laws d) f t u K I
          (λ b r. b < cached_part s c → (i : ℕ) → i < width → ((q : Reading) × Under (whole d) G b q × (end_kept x b 0 i ≡ channel q.row i)) × ((q : Reading) × Under (whole d) G b q × (end_kept x b 1 i ≡ channel q.row i)))
          (λ b k l r j h i w.
          let ((q, v, e), (q', v', e')) = claim.smallest b (box_at (whole d) c (branch b k l r)) (box_asked (whole d) c (whole_laws d) f t u K I j) i in
          ((q, v, low_kept j h i w ∙ ap (λ (n : Number). n.value) e ∙ coordinate_is q i w), (q', v', high_kept j h i w ∙ ap (λ (n : Number). n.value) e' ∙ coordinate_is q' i w)));
      other = λ b h n. row_is (some t) S b h ∙ other_row b h n;
      bound = by_branch (whole d) c (whole_laws d) f t u K I (λ b r. ltb b x.tree.cached ≡ ltb b (cached_part s c)) (λ b k l r j. ap (ltb b) (cached_is S) ∙ below_part b (numbered j));
    }

  -- OF NO TREE
  boxes_none : StateAt none → CachedBoxes d c s x (view_of (whole d) c (of none) K)
  boxes_none S = record {
    around = λ b r e. nonsense (cc);
    smallest = λ b r e. nonsense (cc);
    other = λ b h n. row_is none S b h ∙ by_cond (λ y. y ≡ no_box_ends) (ltb b (cached_by s c)) no_box_ends no_box_ends (λ _. refl) (λ _. refl);
    bound = λ b r e. nonsense (cc);
  }

  boxes_of_lem : (o : Option (Tree (whole d))) → StateAt o → Inv (whole d) c (of o) K → CachedBoxes d c s x (view_of (whole d) c (of o) K)
  boxes_of_lem none S I = boxes_none S
  boxes_of_lem (some t) S I = boxes_some t S I

pub cached_boxes : (d c : ℕ) (s : Float) (W : World (whole d)) (x : Kept) (K : Counts (whole d)) → State d c s W x.tree x.arrays x.table.points x.table.written → Inv (whole d) c W K → CachedBoxes d c s x (view_of (whole d) c W K)
cached_boxes d c s W x K S I = boxes_of_lem d c s x K W.table W.free W.tree S I
