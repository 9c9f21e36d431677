-- A making, place by place: which number or header it answers, and that an accepted one leaves the state of a fresh tree. Assumes nothing.
use Rattle.refusals.specs.declared.Refusal.{Refusal}
use Rattle.refusals.specs.declared.Refusal.TheVariants as Why
use Rattle.std.specs.Prelude.{Ok, Err}
use mathlib.Core.Path.{◌≡◌, refl, ap}
use mathlib.Core.Bool.{Bool, true, false, cond, ◌&&◌}
use mathlib.Core.Option.{none}
use mathlib.Core.List.{List}
use Prim.Native.Nat.{ℕ, ◌≤◌}
use lib.Dec.{leb, ltb}
use lib.Ieee.{Float}
use borrow.Author.Tests.{leb-true}
use Rattle.limits.specs.Limits.{width, capacity_limit, branch_limit, point_limit}
use Rattle.readings.specs.Share.{is_share}
use Rattle.readings.specs.Number.{nought}
use Rattle.cuttree.specs.Run.{fresh}
use Rattle.cuttree.proofs.Tests.{by-test, by_cond, clash, nonsense}
use Rattle.randomcuttree.proofs.Reaches.{reachable_fresh}
use Rattle.wholetree.specs.Whole.{whole}
use Rattle.layout.specs.Layout.{no_row, no_box_ends, table_of}
use Rattle.layout.proofs.Tabs.{constant}
use Rattle.treestore.specs.Arrays.{NodeStore}
use Rattle.treestore.proofs.Parts.{lent_is}
use Rattle.randomcuttree.specs.declared.RCFTree.{RCFTree}
use Rattle.randomcuttree.specs.State.{cached_by, State}
use Rattle.randomcuttree.specs.Making.{channels_taken, capacity_taken, empty_tree, made_by, cleared, lent_by, MakeDone}

-- ---- the state of a fresh tree
either : {A : Type 0} (b : Bool) (x : A) → cond b x x ≡ x
either b x = by_cond (λ (y : _). y ≡ x) b x x (λ _. refl) (λ _. refl)

pub fresh_state : (d c : ℕ) (s : Float) → (1 ≤ d) × (d ≤ width) × (2 ≤ c) × (c ≤ capacity_limit) × (is_share s ≡ true) → (points : List (List Float)) (marks : List ℕ)
    → record { points = points; written = marks } ≡ table_of (λ i. none) → State d c s (fresh (whole d) c) (empty_tree d c s) (cleared c) points marks
fresh_state d c s l points marks e = record {
  header_is = refl;
  arrays_are = lent_is (cleared c) _ _ _ _ _
      (constant branch_limit no_row _ (λ i. refl))
      (constant branch_limit nought _ (λ i. refl))
      (constant point_limit 0 _ (λ i. refl))
      refl
      (constant branch_limit no_box_ends _ (λ i. either (ltb i (cached_by s c)) no_box_ends));
  table_is = e;
  reachable = reachable_fresh d c l.2;
  limits = l;
}

-- ---- the places
pub in_bounds : (low high x : ℕ) → (leb low x && leb x high) ≡ true → (low ≤ x) × (x ≤ high)
in_bounds low high x h = by-test (leb low x)
    (λ e. (leb-true low x e, leb-true x high (rw e at h)))
    (λ e. clash (leb low x && leb x high) h (rw e refl))

module _ (d c : ℕ) (s : Float) (a : NodeStore) where
  -- refused: nothing is written
  refuse : (n : Refusal) → Err n ≡ made_by d c s → (channels_taken d && (capacity_taken c && is_share s)) ≡ false → MakeDone d c s a a (Err n)
  unfolding lent_by
  refuse n e f = record { answer = e; arrays = rw f refl; state = λ tree h. nonsense (cc) }

  pub refused_1 : channels_taken d ≡ false → MakeDone d c s a a (Err Why.Channels)
  unfolding made_by
  refused_1 h = refuse _ (rw h refl) (rw h refl)

  module _ (D : channels_taken d ≡ true) where
    pub refused_2 : capacity_taken c ≡ false → MakeDone d c s a a (Err Why.Capacity)
    unfolding made_by
    refused_2 h = refuse _ (rw (D, h) refl) (rw (D, h) refl)

    module _ (C : capacity_taken c ≡ true) where
      pub refused_3 : is_share s ≡ false → MakeDone d c s a a (Err Why.CachedShare)
      unfolding made_by
      refused_3 h = refuse _ (rw (D, C, h) refl) (rw (D, C, h) refl)

      pub made : is_share s ≡ true → (tree : RCFTree) (after : NodeStore) → tree ≡ empty_tree d c s → after ≡ cleared c → MakeDone d c s a after (Ok tree)
      unfolding made_by lent_by
      made h tree after e f = record {
        answer = rw (D, C, h) (ap (λ (t : RCFTree). Ok t) e);
        arrays = rw (D, C, h) f;
        state = λ other g points marks t.
            let z : empty_tree d c s ≡ other = cc in
            let x = in_bounds 1 width d D in
            let y = in_bounds 2 capacity_limit c C in
            rw (← z, f) (fresh_state d c s (x.0, x.1, y.0, y.1, h) points marks t);
      }
