-- A reading that no leaf has entering a tree: what each function that it calls is told, and the tree that they leave. Assumes nothing.
use mathlib.Core.Path.{◌≡◌, sym, ap, ◌∙◌, subst}
use mathlib.Core.Bool.{Bool}
use mathlib.Core.Option.{some}
use mathlib.Core.List.{List, []}
use Prim.Native.Nat.{ℕ, suc, ◌-◌, ◌+◌, ◌≤◌, ◌<◌}
use native.Mathlib.Omega.{arith}
use lib.Dec.{eqb}
use lib.ListN.{get_or, take}
use lib.Ieee.{Float, le}
use borrow.Author.Tests.{eqb-true}
use Rattle.limits.specs.Limits.{width, capacity_limit, branch_limit, point_limit}
use Rattle.boundingbox.specs.Ends.{channel}
use Rattle.intervalstoremanager.specs.declared.IntervalStoreManager.{IntervalStoreManager}
use Rattle.intervalstoremanager.specs.declared.Got.{Got}
use Rattle.std.specs.Prelude.{Option, Some, None}
use Rattle.intervalstoremanager.specs.Rows.{layout, got_of, rows_got}
use Rattle.intervalstoremanager.specs.Stack.{next, after_get, Proper}
use Rattle.cuttree.specs.Setting.{Cut, below}
use Rattle.cuttree.specs.Tree.{Tree, id, is, height, insert, above}
use Rattle.cuttree.specs.Walk.{sub, kept, graft}
use Rattle.cuttree.proofs.Tests.{by-test}
use Rattle.cuttree.proofs.Sums.{sum_insert}
use Rattle.cuttree.proofs.Leaves.{all_ending}
use Rattle.cuttree.proofs.Loop.{kept_height, insert_loop}
use Rattle.wholetree.specs.Reading.{Reading, coordinate}
use Rattle.wholetree.specs.Whole.{whole}
use Rattle.wholetree.proofs.Readings.{coordinate_is}
use Rattle.wholetree.proofs.Laws.{whole_laws}
use Rattle.layout.specs.Slots.{uses, box_ends}
use Rattle.layout.specs.Stands.{Once}
use Rattle.layout.proofs.Replaced.{in_sub}
use Rattle.layout.proofs.Ranges.{range_ending}
use Rattle.nodestore.specs.Stored.{Arrays, Graft, SomeGraft}
use Rattle.boxstore.specs.Edited.{Walked, Grafted, SomeGrafted, GrownAbove}
use Rattle.boxstore.specs.Grown.{SomeSides}
use Rattle.boxstore.specs.Written.{written}
use Rattle.boxstore.proofs.Climbs.{index_is}
use Rattle.cut.specs.declared.Cut.{Cut as FloatCut}
use Rattle.drawing.specs.declared.Highest.{Highest}
use Rattle.branchboxes.specs.Pairs.{SidesKept}
use Rattle.walkboxes.specs.Held.{HoldBefore}
use Rattle.drawing.specs.Drawing.{Drawing, SomeDrawing, Kept, no_cut, word_at}
use Rattle.treestore.specs.Arrays.{NodeStore, lent, manager_of, EditDone}
use Rattle.treestore.specs.Edits.{Walking}
use Rattle.treestore.specs.Enters.{Entering}
use Rattle.treestore.proofs.Channels.{kept_channel}
use Rattle.treestore.proofs.NewBranch.{kept_box, some_sides, sides_box}
use Rattle.treestore.proofs.Parts.{edit_done}
use Rattle.treestore.proofs.Manager.{get_done, get_empty}
use Rattle.treestore.proofs.Removes.{free_are, boxes_are}

module _ {d c k : ℕ} {t : Tree (whole d)} {u : List (ℕ × ℕ)} {p : Reading} {root : ℕ} {manager : IntervalStoreManager} {a : NodeStore} {points : List (List Float)} {path : List (List ℕ)} {n leaf index : ℕ} {words : List ℕ} {point : List Float}
    (E : Entering d c k t u p root manager a points path n leaf index words point) where
  abbrev W : Walking d c k t u p root manager a points path n leaf point
  W = E.walking

  pub cached_few : k ≤ branch_limit
  cached_few = omega (arith, W.cached_few, W.small)

  pub above_few : (h : ℕ) → n - 1 - h ≤ capacity_limit
  above_few h = omega (arith, W.walked.most)

  size_is : manager.capacity ≡ c - 1
  size_is = ap (λ (x : IntervalStoreManager). x.capacity) W.manager_is

  manager_of_lem : manager ≡ manager_of manager.capacity u
  manager_of_lem = subst (λ x. manager ≡ manager_of x u) (sym size_is) W.manager_is

  proper : Proper manager.capacity u
  proper = subst (λ x. Proper x u) (sym size_is) W.proper

  size_few : manager.capacity ≤ branch_limit
  size_few = omega (arith, size_is, W.small)

  rows_are : a.free ≡ layout u
  rows_are = free_are W

  -- there is a free number
  pub not_empty : {A : Type 0} (got : Option Got) → got ≡ got_of manager a.free → got ≡ None → A
  not_empty = get_empty manager a.free u manager_of_lem rows_are size_few proper W.free_once E.some_free

  -- w is the capacity, widened
  module _ (w : ℕ) (Q : w ≡ c) where
    drawing : Drawing d w t p k a.nodes points a.boxes path n leaf words point
    drawing = subst (λ x. Drawing d x t p k a.nodes points a.boxes path n leaf words point) (sym Q) (record {
      boxed = W.boxed;
      once = W.once;
      count = W.walked.count;
      most = W.walked.most;
      is_trail = W.walked.is_trail;
      enough = E.enough;
      row = W.row;
      leaf_small = subst (λ x. x < point_limit) (sym W.index_is) (range_ending d c p t W.boxed.in_range);
      leaf_row = ap (λ x. get_or points x []) W.index_is ∙ all_ending (whole d) (λ i q n. get_or points i [] ≡ q.row) p t W.boxed.leaves;
    })

    pub some_drawing : SomeDrawing w k a.nodes points a.boxes path n leaf words point
    some_drawing = record { channels = d; tree = t; reading = p; drawing = drawing }

    -- the highest cut
    module _ (r : Highest) (H : (d : ℕ) (t : Tree (whole d)) (p : Reading) → Drawing d w t p k a.nodes points a.boxes path n leaf words point → Kept d w t p words n r) where
      K : Kept d c t p words n r
      K = subst (λ x. Kept d x t p words n r) Q (H d t p drawing)

      pub top_low : r.top ≤ n
      top_low = K.top_most

      abbrev cut : Cut (whole d)
      cut = (kept (whole d) t p (word_at words) (no_cut d) n).1

      pub height_low : r.height ≤ n - 1
      height_low =
          let z : n ≡ suc (height (whole d) t p) = W.walked.count in
          let y : (kept (whole d) t p (word_at words) (no_cut d) n).0 ≤ height (whole d) t p = subst (λ x. (kept (whole d) t p (word_at words) (no_cut d) x).0 ≤ height (whole d) t p) (sym z) (kept_height (whole d) (whole_laws d) p t (word_at words) (no_cut d) (height (whole d) t p) E.absent) in
          omega (arith, K.height_is)

      place : (n - 1 - r.height) + r.height ≡ height (whole d) t p
      place = omega (arith, height_low, W.walked.count)

      channel_low : cut.channel < width
      channel_low = kept_channel d t p (word_at words) n

      pub dimension_low : r.cut.dimension < width
      dimension_low = subst (λ x. x < width) (sym K.channel_is) channel_low

      left_is : le (channel point r.cut.dimension) r.cut.value ≡ below (whole d) cut p
      left_is =
          let y : channel point r.cut.dimension ≡ (coordinate p cut.channel).value = ap (λ x. channel x r.cut.dimension) W.row ∙ ap (channel p.row) K.channel_is ∙ sym (coordinate_is p cut.channel channel_low) in
          ap (λ x. le x r.cut.value) y ∙ ap (le (coordinate p cut.channel).value) K.value_is

      -- the number that is handed out
      module _ (b : ℕ) (left_over : IntervalStoreManager) (got : Option Got) (free' : List (List ℕ)) (G : got ≡ got_of manager a.free) (F : free' ≡ rows_got manager a.free) (I : got ≡ Some (record { index = b; manager = left_over })) where
        taken : (b ≡ next u) × (left_over ≡ manager_of (c - 1) (after_get u)) × (free' ≡ layout (after_get u))
        taken = subst (λ x. (b ≡ next u) × (left_over ≡ manager_of x (after_get u)) × (free' ≡ layout (after_get u))) size_is
            (get_done manager a.free u manager_of_lem rows_are size_few proper W.free_once E.some_free (record { index = b; manager = left_over }) got free' G F I)

        module _ (left : Bool) (B : left ≡ le (channel point r.cut.dimension) r.cut.value) where
          grafting : Graft d c a.nodes a.cuts a.copies path (n - 1 - r.height) b index r.cut left n t p r.height cut
          grafting = subst (λ x. Graft d c a.nodes a.cuts a.copies path (n - 1 - r.height) x index r.cut left n t p r.height cut) (sym taken.0) (record {
            stored = W.stored;
            walked = W.walked;
            room = E.room;
            place = place;
            fresh = E.number_fresh;
            small = omega (arith, E.number_below, W.small);
            new = E.index_fresh;
            index_small = E.index_small;
            channel_small = channel_low;
            channel_is = K.channel_is;
            value_is = K.value_is;
            left_is = B ∙ left_is;
          })

          pub some_graft : SomeGraft c a.nodes a.cuts a.copies path (n - 1 - r.height) b index r.cut left
          some_graft = record { channels = d; rows = n; tree = t; reading = p; high = r.height; drawn = cut; graft = grafting }

          abbrev after : Tree (whole d)
          after = graft (whole d) b index p (r.height, cut) t

          after_is : after ≡ insert (whole d) (next u) index p (word_at words) t
          after_is =
              ap (λ x. graft (whole d) x index p (r.height, cut) t) taken.0
              ∙ ap (λ x. graft (whole d) (next u) index p (x, cut) t) K.height_is
              ∙ ap (λ x. graft (whole d) (next u) index p (kept (whole d) t p (word_at words) (no_cut d) x) t) W.walked.count
              ∙ sym (insert_loop (whole d) (whole_laws d) (next u) index p (word_at words) (no_cut d) t E.absent)

          once : Once d c after
          once j =
              let more = sum_insert (whole d) (λ i q n. 0) (λ b. is b j) (next u) index p (word_at words) t in
              let same = ap (λ x. uses d c x j) after_is in
              by-test (eqb (next u) j)
              (λ e. let z : is (next u) j ≡ 1 = rw e in let y : uses d c t j ≡ 0 = subst (λ x. uses d c t x ≡ 0) (eqb-true (next u) j e) E.number_fresh in omega (arith, more, same))
              (λ e. let z : is (next u) j ≡ 0 = rw e in omega (arith, more, same, W.once j))

          -- the rows, the cuts and the copies with the new branch in them. j is its number, widened
          module _ (nodes' : List (List ℕ)) (cuts' : List Float) (copies' : List ℕ)
              (P : (e m : ℕ) (t : Tree (whole e)) (p : Reading) (h : ℕ) (x : Cut (whole e)) → Graft e c a.nodes a.cuts a.copies path (n - 1 - r.height) b index r.cut left m t p h x → Arrays e c nodes' cuts' copies' (some (graft (whole e) b index p (h, x) t))) (j : ℕ) (J : j ≡ b) where
            arrays : Arrays d c nodes' cuts' copies' (some after)
            arrays = P d n t p r.height cut grafting

            within : r.height ≤ height (whole d) t p
            within = omega (arith, place)

            number_low : b + 1 < c
            number_low = omega (arith, taken.0, E.number_below)

            pub new_sides : SomeSides w k j nodes' points a.boxes
            new_sides = rw (Q, J) (some_sides W.boxed p b index r.height cut W.small within number_low channel_low E.index_small E.index_row once nodes' arrays.rows)

            module _ (boxes : List (List (List Float))) (L : SidesKept w k j nodes' points a.boxes boxes) where
              abbrev box : List (List Float)
              box = box_ends d c (above (whole d) b cut index p (sub (whole d) t r.height p))

              boxes_new : boxes ≡ written k b box a.boxes
              boxes_new = sides_box W.boxed p b index r.height cut W.small within number_low channel_low E.index_small E.index_row once nodes' arrays.rows boxes (rw (Q, J) at L)

              walked : Walked d c path point t p
              walked = record { once = W.once; rows = ap (λ x. take x path) (sym W.walked.count) ∙ W.walked.is_trail; row = W.row }

              grafted : Grafted d c k (n - 1 - r.height) boxes t p b index r.height cut
              grafted = record { above_it = place; fresh = grafting.fresh; boxes_are = boxes_new ∙ ap (written k b box) (boxes_are W) }

              pub some_grafted : SomeGrafted k (n - 1 - r.height) path point boxes
              some_grafted = record { channels = d; capacity = c; tree = t; reading = p; number = b; index = index; high = r.height; drawn = cut; walked = walked; grafted = grafted }

              -- the boxes from the top on hold the point
              pub hold_before : HoldBefore k (n - r.top) path point boxes
              hold_before i m =
                  let g = height (whole d) t p - i in
                  let v = sub (whole d) t g p in
                  let held = K.hold g (omega (arith, W.walked.count)) (omega (arith, W.walked.count)) in
                  rw (index_is path point i d c t p walked (omega (arith, W.walked.count)), boxes_new)
                  (λ l. rw (kept_box W.boxed p b index r.height cut box (omega (arith, W.cached_few, W.some_room)) grafting.fresh v (in_sub d c g p t (omega arith)) l, W.row) held)

              -- the boxes above are grown; and the root
              module _ (boxes' : List (List (List Float))) (A : GrownAbove k (n - 1 - r.height) path point boxes boxes') (root' : ℕ)
                  (R : (e c : ℕ) (nodes : List (List ℕ)) (cuts : List Float) (copies : List ℕ) (path : List (List ℕ)) (i : ℕ) (cut : FloatCut) (left : Bool) (m : ℕ) (t : Tree (whole e)) (p : Reading) (h : ℕ) (x : Cut (whole e))
                  → Graft e c nodes cuts copies path (n - 1 - r.height) b i cut left m t p h x → root ≡ id (whole e) c t → root' ≡ id (whole e) c (graft (whole e) b i p (h, x) t)) where
                pub entered : EditDone d c k (some (insert (whole d) (next u) index p (word_at words) t)) (after_get u) (record { root = root'; manager = left_over }) (lent nodes' cuts' copies' free' boxes')
                entered = subst (λ o. EditDone d c k (some o) (after_get u) (record { root = root'; manager = left_over }) (lent nodes' cuts' copies' free' boxes')) after_is
                    (edit_done d c k (some after) (after_get u) root' left_over _
                    (R d c a.nodes a.cuts a.copies path index r.cut left n t p r.height cut grafting W.root_is) taken.1 arrays taken.2 (A d c t p b index r.height cut walked grafted))
