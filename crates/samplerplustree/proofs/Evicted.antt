-- The first step of an arrival: what an eviction asks, and what it leaves. Assumes nothing.
use Rattle.refusals.specs.declared.Refusal.{Refusal}
use Rattle.std.specs.Prelude.{Result, Ok}
use mathlib.Core.Path.{◌≡◌, refl, sym, ap, ◌∙◌, subst}
use mathlib.Core.Bool.{true, false, cond}
use mathlib.Core.List.{List, [], ◌∷◌}
use Prim.Native.Nat.{ℕ, suc, ◌-◌, ◌≤◌, ◌<◌}
use native.Mathlib.Omega.{arith}
use lib.Dec.{eqb}
use lib.ListN.{length, get_or}
use lib.Ieee.{Float}
use Rattle.limits.specs.Limits.{capacity_limit}
use Rattle.sampler.specs.declared.Evicted.{Evicted}
use Rattle.sampler.specs.Heap.{total, popped}
use Rattle.sampler.specs.Sample.{Entry, above, beyond, evicted_of, Evicts}
use Rattle.sampler.proofs.Counts.{pop_length}
use Rattle.cuttree.specs.Tree.{sum_of}
use Rattle.cuttree.specs.Run as Bare
use Rattle.cuttree.specs.Run.{World, delete, total_of}
use Rattle.cuttree.proofs.Tests.{cond_true, cond_false}
use Rattle.cuttree.proofs.Refused.{by_delete}
use Rattle.cuttree.proofs.Intervals.{is_same}
use Rattle.wholetree.specs.Whole.{whole}
use Rattle.wholetree.proofs.Laws.{whole_laws}
use Rattle.sampledtree.specs.Sampled.{Sampled}
use Rattle.sampledtree.specs.Arrivals.{Agrees, occurs}
use Rattle.sampledtree.proofs.Admits.{delete_admits}
use Rattle.treestore.specs.Arrays.{NodeStore}
use Rattle.randomcuttree.specs.declared.RCFTree.{RCFTree}
use Rattle.samplerplustree.specs.declared.SamplerPlusTree.{SamplerPlusTree}
use Rattle.samplerplustree.specs.declared.Offer.{Offer}
use Rattle.samplerplustree.specs.declared.Offer.TheVariants as Offered
use Rattle.samplerplustree.specs.State.{SampledState, held_of, sampler_of}
use Rattle.samplerplustree.specs.Leaves.{SomeCopy, LeafDeleted, DeletesLeaf}
use Rattle.samplerplustree.specs.Paths.{path_to, WalksTo}
use Rattle.samplerplustree.specs.Entering.{evicts, first_index, world_remaining, SomeLeaving, LeaveDone, LeavesPath}
use Rattle.samplerplustree.proofs.Parts.{arrays_of_lem, tree_state, size_is, small, head_after}
use Rattle.samplerplustree.proofs.Slots.{one_less}

-- ---- a sample that keeps something
first_held : (ks : List Entry) → get_or (held_of ks) 0 0 ≡ first_index ks
first_held [] = refl
first_held (k ∷ ks) = refl

occurs_first : (ks : List Entry) → 0 < length ks → 0 < occurs ks (first_index ks)
unfolding total
occurs_first [] l = absurd (omega (arith, l))
occurs_first (k ∷ ks) l = omega (arith, is_same k.index)

pub popped_length : (ks : List Entry) → 0 < length ks → suc (length (popped above beyond ks)) ≡ length ks
popped_length [] l = absurd (omega (arith, l))
popped_length (k ∷ ks) l = omega (arith, pop_length above beyond k ks)

pub delete_table : (d c : ℕ) (W : World (whole d)) (e : ℕ) → (Bare.call (whole d) c W (delete e)).1.table ≡ W.table
delete_table d c W e = by_delete (whole d) c (λ x. x.1.table ≡ W.table) W (λ _. refl) e (λ j U h. h)

module _ (d : ℕ) (X : Sampled (whole d)) (A : Agrees (whole d) X) (some-kept : 0 < length X.sample) where
  copy : 0 < sum_of (whole d) (λ j q n. cond (eqb j (first_index X.sample)) n 0) (λ b. 0) X.world.tree
  copy = omega (arith, A.kept_are (first_index X.sample), occurs_first X.sample some-kept)

  pub room_after : total_of (whole d) (world_remaining d X (Ok Offered.Evicts)).tree < X.capacity
  room_after =
      let D = delete_admits (whole d) (whole_laws d) X.capacity X.world.table X.world.tree X.world.free (first_index X.sample) A.sound copy in
      omega (arith, D.total_less, A.total_is, A.room)

module _ (h : SamplerPlusTree) (a : NodeStore) (points : List (List Float)) (weights : List Float) (held : List ℕ) where
  -- ---- nothing leaves for an offer that evicts nothing
  pub none_leaves : (o : Result Offer Refusal) → evicts o ≡ false → LeaveDone h o a points weights held (record { tree = h; gone = 0 }) a weights held
  none_leaves o e d s X marks S = record { arrays = rw e (arrays_of_lem S); gone_is = sym (cond_false (evicts o) _ 0 e); agrees = S.agrees; initial_is = S.initial_is }

  pub path_stays : (o : Result Offer Refusal) → evicts o ≡ false → (path : List (List ℕ)) → LeavesPath h o a points weights held path path
  path_stays o e path d s X marks S = sym (cond_false (evicts o) _ path e)

  -- ---- THE EVICTION
  module _ (o : Result Offer Refusal) (evicting : evicts o ≡ true) (Q : SomeLeaving h o a points weights held) where
    kept_size : 0 < length Q.sampled.world.sample
    kept_size = omega (arith, Q.kept evicting, size_is (arrays_of_lem Q.sampled.state))

    pub evict_some : (0 < h.sampler.current_size) × (h.sampler.current_size ≤ capacity_limit)
    evict_some = let S = Q.sampled.state in (Q.kept evicting, omega (arith, size_is (arrays_of_lem S), S.agrees.room, small (arrays_of_lem S)))

  module _ (v : Evicted) (e : v ≡ evicted_of h.sampler weights held) (gone : ℕ) (g : gone ≡ v.index) where
    gone_first : (d : ℕ) (s : Float) (X : Sampled (whole d)) (marks : List ℕ) → SampledState d s X h a points marks weights held → gone ≡ first_index X.sample
    gone_first d s X marks S = g ∙ ap (λ (z : Evicted). z.index) e ∙ ap (λ (l : List ℕ). get_or l 0 0) S.held_are ∙ first_held X.sample

    pub evict_copy : (o : Result Offer Refusal) → evicts o ≡ true → SomeLeaving h o a points weights held → SomeCopy h.tree a points gone
    evict_copy o evicting Q = let S = Q.sampled in record {
      channels = S.channels;
      capacity = S.world.capacity;
      share = S.share;
      world = S.world.world;
      marks = Q.marks;
      state = tree_state S.state;
      copy = rw (gone_first S.channels S.share S.world Q.marks S.state) (copy S.channels S.world S.state.agrees (kept_size o evicting Q));
    }

    pub evict_path : (o : Result Offer Refusal) → evicts o ≡ true → (path path' : List (List ℕ)) → WalksTo h.tree a points gone path path' → LeavesPath h o a points weights held path path'
    evict_path o evicting path path' D d s X marks S = D d X.capacity s X.world marks (tree_state S) ∙ ap (λ (j : ℕ). path_to d X.capacity X.world j path) (gone_first d s X marks S) ∙ sym (cond_true (evicts o) _ path evicting)

    pub evict_done : (o : Result Offer Refusal) → evicts o ≡ true → SomeLeaving h o a points weights held → (weights' : List Float) (held' : List ℕ) (left : RCFTree) (b : NodeStore)
        → Evicts h.sampler.current_size weights held weights' held' → DeletesLeaf h.tree a points gone left b
        → LeaveDone h o a points weights held (record { tree = record { tree = left; sampler = v.sampler; initial_accept_fraction = h.initial_accept_fraction }; gone = gone }) b weights' held'
    evict_done o evicting Q weights' held' left b slots D d s X marks S =
        let L = arrays_of_lem S in
        let some-kept : 0 < length X.sample = omega (arith, Q.kept evicting, size_is L) in
        let C = subst (λ (j : ℕ). LeafDeleted d X.capacity s (Bare.call (whole d) X.capacity X.world (delete j)).1 left b points marks) (gone_first d s X marks S) (D d X.capacity s X.world marks (tree_state S)) in
        let T = one_less X.sample weights held S.weights_are S.held_are weights' held' some-kept (omega (arith, S.agrees.room, small L)) (subst (λ (n : ℕ). Evicts n weights held weights' held') (size_is L) slots) in
        let size : h.sampler.current_size - 1 ≡ length (popped above beyond X.sample) = omega (arith, size_is L, popped_length X.sample some-kept) in
        let N : v.sampler ≡ sampler_of X.capacity (popped above beyond X.sample) = ap (λ (z : Evicted). z.sampler) e ∙ ap (λ (n : ℕ). record { capacity = h.sampler.capacity; current_size = n }) size
        ∙ ap (λ (z : SamplerPlusTree). record { capacity = z.sampler.capacity; current_size = length (popped above beyond X.sample) }) S.head_is in
        record {
          arrays = rw evicting (record {
            head_is = head_after d s X (world_remaining d X (Ok Offered.Evicts)) (popped above beyond X.sample) left v.sampler h.initial_accept_fraction C.tree_is N (ap (λ (z : SamplerPlusTree). z.initial_accept_fraction) S.head_is);
            tree_is = C.state;
            weights_are = T.0;
            held_are = T.1;
          });
          gone_is = rw evicting (gone_first d s X marks S);
          agrees = S.agrees;
          initial_is = S.initial_is;
        }
