-- The second step of an arrival: what it asks, what was looked for before it, and that the two steps are the arrival. Assumes nothing.
use Rattle.refusals.specs.declared.Refusal.{Refusal}
use Rattle.std.specs.Prelude.{Result, Ok, Err}
use mathlib.Core.Path.{◌≡◌, refl, sym, ap, ◌∙◌, subst}
use mathlib.Core.Bool.{true, false, cond}
use mathlib.Core.Option.{Option, none, some}
use mathlib.Core.List.{List}
use Prim.Native.Nat.{ℕ, ◌+◌, ◌≤◌, ◌<◌}
use native.Mathlib.Omega.{arith}
use lib.ListN.{length, replicate, length-replicate}
use lib.Ieee.{Float}
use Rattle.limits.specs.Limits.{capacity_limit}
use Rattle.readings.specs.Share.{is_share}
use Rattle.sampler.specs.declared.Sampler.{Sampler}
use Rattle.sampler.specs.Heap.{pushed, popped}
use Rattle.sampler.specs.Sample.{Entry, above, beyond}
use Rattle.sampler.proofs.Counts.{push_length}
use Rattle.cuttree.specs.Run as Bare
use Rattle.cuttree.specs.Run.{refused, add, total_of}
use Rattle.cuttree.proofs.Tests.{clash}
use Rattle.wholetree.specs.Reading.{Reading}
use Rattle.wholetree.specs.Whole.{whole}
use Rattle.sampledtree.specs.Sampled as Paper
use Rattle.sampledtree.specs.Sampled.{Sampled, SampledAnswer, plain, not_accepted, accepted, arrive, call, with_sample, admitted, taken}
use Rattle.sampledtree.specs.Arrivals.{Agrees}
use Rattle.treestore.specs.declared.Found.{Found}
use Rattle.treestore.specs.Arrays.{NodeStore}
use Rattle.randomcuttree.proofs.Calls.{seeks, seen_there}
use Rattle.samplerplustree.specs.declared.SamplerPlusTree.{SamplerPlusTree}
use Rattle.samplerplustree.specs.declared.AddedLeaf.{AddedLeaf}
use Rattle.samplerplustree.specs.declared.Admitted.{Admitted}
use Rattle.samplerplustree.specs.declared.Remaining.{Remaining}
use Rattle.samplerplustree.specs.declared.Accepted.{Accepted}
use Rattle.std.specs.Prelude as std
use Rattle.samplerplustree.specs.declared.Offer.{Offer}
use Rattle.samplerplustree.specs.declared.Offer.TheVariants.{Passes, Begins, Evicts}
use Rattle.samplerplustree.specs.State.{head_of, sampler_of}
use Rattle.samplerplustree.specs.Updates.{update_says, Updated}
use Rattle.samplerplustree.specs.Offers.{offered, SomeOffered}
use Rattle.samplerplustree.specs.Leaves.{SomeAdmits, AddsLeaf}
use Rattle.samplerplustree.specs.Entering.{takes, evicts, answer_by, first_index, gone_by, world_remaining, entries_remaining, remaining_by, SampledArrays, RemainingState, SomeLeaving, LeaveDone, SeeksBy, SeesBy, SomeEntering, EnterDone, AdmitDone}
use Rattle.samplerplustree.proofs.Parts.{arrays_of_lem, tree_of, size_is, small, head_after}
use Rattle.samplerplustree.proofs.Taken.{FitBegins, FitEvicts, call_of_lem, admitted_as, agrees_after}
use Rattle.samplerplustree.proofs.Slots.{Pushes, one_more}
use Rattle.samplerplustree.proofs.Evicted.{popped_length, delete_table, room_after}

-- the evicted index that is answered, if any
abbrev pub evicted_by : Result Offer Refusal → List Entry → Option ℕ
evicted_by o ks = cond (evicts o) (some (first_index ks)) none

only_evicts : (o : Result Offer Refusal) → evicts o ≡ true → o ≡ (Ok Evicts)
only_evicts (Err r) e = clash false e refl
only_evicts (Ok Passes) e = clash false e refl
only_evicts (Ok Begins) e = clash false e refl
only_evicts (Ok Evicts) e = refl

module _ (d : ℕ) (X : Sampled (whole d)) (i : ℕ) (w : Float) (ws : List ℕ) where
  -- what holds between the steps of an arrival that is taken
  pub record Ready (o : Result Offer Refusal) (y : SampledAnswer (whole d) × Sampled (whole d)) : Type 0 where
    pub point : Reading
    pub is_written : (world_remaining d X o).table i ≡ some point
    pub room : total_of (whole d) (world_remaining d X o).tree < X.capacity
    pub fewer : length (entries_remaining o X.sample) < X.capacity
    pub enough : X.capacity ≤ length ws
    pub is_call_lem : y ≡ admitted (whole d) X (entries_remaining o X.sample) (evicted_by o X.sample) w (Bare.call (whole d) X.capacity (world_remaining d X o) (add i ws))

  begins_ready : Agrees (whole d) X → (y : SampledAnswer (whole d) × Sampled (whole d)) → FitBegins d X i w ws y → Ready (Ok Begins) y
  begins_ready A y F = record { point = F.fit.point; is_written = F.fit.is_written; room = omega (arith, F.room, A.total_is); fewer = F.room; enough = F.fit.enough; is_call_lem = F.fit.is_taken }

  evicts_ready : Agrees (whole d) X → (y : SampledAnswer (whole d) × Sampled (whole d)) → FitEvicts d X i w ws y → Ready (Ok Evicts) y
  evicts_ready A y F =
      let some-kept : 0 < length X.sample = rw F.sample_is (omega arith) in
      record {
        point = F.fit.point;
        is_written = ap (λ f. f i) (delete_table d X.capacity X.world (first_index X.sample)) ∙ F.fit.is_written;
        room = room_after d X A some-kept;
        fewer = omega (arith, popped_length X.sample some-kept, A.room);
        enough = F.fit.enough;
        is_call_lem = F.fit.is_taken ∙ ap (λ (ks : List Entry). taken (whole d) X i w ws (Paper.evicts (first_index ks) (popped above beyond ks))) (sym F.sample_is);
      }

  pub ready : Agrees (whole d) X → (x : ℕ) (o : Result Offer Refusal) → o ≡ offered d X i w x (length ws) → takes o ≡ true → Ready o (call (whole d) X (arrive i w x ws))
  ready A x (Err n) e t = clash false t refl
  ready A x (Ok Passes) e t = clash false t refl
  ready A x (Ok Begins) e t = begins_ready A _ (call_of_lem d X i w ws A.room x (Ok Begins) e)
  ready A x (Ok Evicts) e t = evicts_ready A _ (call_of_lem d X i w ws A.room x (Ok Evicts) e)

-- an offer is told by how many words there are: that it takes the arrival tells that its reading is written
pub written_remaining : (d : ℕ) (X : Sampled (whole d)) (i : ℕ) (w : Float) (n : ℕ) → Agrees (whole d) X → (x : ℕ) (o : Result Offer Refusal) → o ≡ offered d X i w x n → takes o ≡ true → (p : Reading) × ((world_remaining d X o).table i ≡ some p)
written_remaining d X i w n A x o e t =
    let blanks : List ℕ = replicate n 0 in
    let R = ready d X i w blanks A x o (e ∙ ap (offered d X i w x) (sym (length-replicate n 0))) t in
    (R.point, R.is_written)

-- ---- the add, and the sample that keeps its leaf's index
pub admit_done : (h : SamplerPlusTree) (a : NodeStore) (points : List (List Float)) (weights : List Float) (held : List ℕ) (i : ℕ) (w : Float) (ws : List ℕ) (g : AddedLeaf) (b : NodeStore) (k : Sampler) (weights' : List Float) (held' : List ℕ)
    → h.sampler.current_size < capacity_limit → AddsLeaf h.tree a points i ws g b
    → k ≡ record { capacity = h.sampler.capacity; current_size = h.sampler.current_size + 1 } → Pushes h.sampler.current_size (record { weight = w; index = g.leaf }) weights held weights' held'
    → AdmitDone h a points weights held i w ws (record { tree = record { tree = g.tree; sampler = k; initial_accept_fraction = h.initial_accept_fraction }; leaf = g.leaf }) b weights' held'
admit_done h a points weights held i w ws g b k weights' held' few A K P d s Y marks p S at =
    let L = A d Y.capacity s Y.world marks p (tree_of S) at in
    let j : Entry = record { weight = w; index = g.leaf } in
    let ks = pushed above beyond Y.sample j in
    let T = one_more Y.sample weights held S.weights_are S.held_are weights' held' j (omega (arith, few, size_is S)) (subst (λ (n : ℕ). Pushes n j weights held weights' held') (size_is S) P) in
    let size : h.sampler.current_size + 1 ≡ length ks = omega (arith, size_is S, push_length above beyond Y.sample j) in
    let K' : k ≡ sampler_of Y.capacity ks = K ∙ ap (λ (n : ℕ). record { capacity = h.sampler.capacity; current_size = n }) size ∙ ap (λ (z : SamplerPlusTree). record { capacity = z.sampler.capacity; current_size = length ks }) S.head_is in
    record {
      words = L.words;
      answer = L.answer;
      arrays = record {
        head_is = head_after d s Y (Bare.call (whole d) Y.capacity Y.world (add i ws)).1 ks g.tree k h.initial_accept_fraction L.tree_is K' (ap (λ (z : SamplerPlusTree). z.initial_accept_fraction) S.head_is);
        tree_is = L.state;
        weights_are = T.0;
        held_are = T.1;
      };
    }

-- ---- THE STEP
module _ (l : Remaining) (o : Result Offer Refusal) (a : NodeStore) (points : List (List Float)) (weights : List Float) (held : List ℕ) (i : ℕ) (w : Float) (ws : List ℕ) where
  pub enter_asks : (path : List (List ℕ)) (f : Found) → takes o ≡ true → SomeEntering l o a points weights held i w path f (length ws)
      → SomeAdmits l.tree.tree a points i path f (length ws) × (l.tree.sampler.current_size < capacity_limit)
  enter_asks path f t Q =
      let L = Q.state.arrays in
      let R = ready Q.channels Q.world i w ws Q.state.agrees Q.chance o Q.offer_is t in (
        record {
          channels = Q.channels;
          capacity = Q.world.capacity;
          share = Q.share;
          world = world_remaining Q.channels Q.world o;
          marks = Q.marks;
          point = R.point;
          state = tree_of L;
          is_written = R.is_written;
          room = R.room;
          enough = R.enough;
          seen = Q.seen.taken t;
        },
        omega (arith, size_is L, R.fewer, small L),
      )

  answer_is : (d : ℕ) (o : Result Offer Refusal) (h h' : SamplerPlusTree) (j e : ℕ) (ks : List Entry) → takes o ≡ true → h ≡ h' → e ≡ gone_by o ks → answer_by o h j e ≡ update_says d h' (accepted j (evicted_by o ks))
  answer_is d (Err n) h h' j e ks t f g = clash false t refl
  answer_is d (Ok Passes) h h' j e ks t f g = clash false t refl
  answer_is d (Ok Begins) h h' j e ks t f g = rw f refl
  answer_is d (Ok Evicts) h h' j e ks t f g = rw (f, g) refl

  pub enter_done : (g : Admitted) (b : NodeStore) (weights' : List Float) (held' : List ℕ) (r : Result (std.Option Accepted) Refusal) → takes o ≡ true → AdmitDone l.tree a points weights held i w ws g b weights' held'
      → r ≡ answer_by o g.tree g.leaf l.gone → EnterDone l o a points weights held i w ws r b weights' held'
  enter_done g b weights' held' r t A f d s X marks x L u =
      let R = ready d X i w ws L.agrees x o u t in
      let M = A d s (remaining_by d X o) marks R.point L.arrays R.is_written in
      let y = Bare.call (whole d) X.capacity (world_remaining d X o) (add i ws) in
      let Z = with_sample (whole d) X y.1 (pushed above beyond (entries_remaining o X.sample) (record { weight = w; index = g.leaf })) in
      let e = evicted_by o X.sample in
      let E : call (whole d) X (arrive i w x ws) ≡ (accepted g.leaf e, Z) = R.is_call_lem ∙ admitted_as d X i w ws (entries_remaining o X.sample) e y g.leaf M.words M.answer in
      subst (λ z. Updated d s z r b points marks weights' held') (sym E) (record {
        answer = f ∙ answer_is d o g.tree (head_of d s Z) g.leaf l.gone X.sample t M.arrays.head_is L.gone_is;
        state = record { head_is = refl; tree_is = M.arrays.tree_is; weights_are = M.arrays.weights_are; held_are = M.arrays.held_are; agrees = agrees_after d X i w ws x L.agrees g.leaf e Z E; initial_is = L.initial_is };
      })

-- one that is refused or not accepted leaves the world as it is
module _ (l : Remaining) (a : NodeStore) (points : List (List Float)) (weights : List Float) (held : List ℕ) (i : ℕ) (w : Float) (ws : List ℕ) where
  stays : (d : ℕ) (s : Float) (X : Sampled (whole d)) (marks : List ℕ) (x : ℕ) → SampledArrays d s X l.tree a points marks weights held → Agrees (whole d) X → is_share X.initial ≡ true
      → (y : SampledAnswer (whole d)) (r : Result (std.Option Accepted) Refusal) → call (whole d) X (arrive i w x ws) ≡ (y, X) → r ≡ update_says d (head_of d s X) y → Updated d s (call (whole d) X (arrive i w x ws)) r a points marks weights held
  stays d s X marks x L A I y r E R = subst (λ z. Updated d s z r a points marks weights held) (sym E) (record {
    answer = R;
    state = record { head_is = refl; tree_is = L.tree_is; weights_are = L.weights_are; held_are = L.held_are; agrees = A; initial_is = I };
  })

  abbrev bad : Refusal → Result (std.Option Accepted) Refusal
  bad n = Err n

  pub untaken_done : (o : Result Offer Refusal) (h : SamplerPlusTree) (r : Result (std.Option Accepted) Refusal) → takes o ≡ false → r ≡ answer_by o h 0 0 → EnterDone l o a points weights held i w ws r a weights held
  untaken_done (Err n) h r t f d s X marks x L u =
      let (m, g, E) = call_of_lem d X i w ws L.agrees.room x (Err n) u in
      stays d s X marks x L.arrays L.agrees L.initial_is (plain (refused m)) r E (f ∙ ap bad g)
  untaken_done (Ok Passes) h r t f d s X marks x L u = stays d s X marks x L.arrays L.agrees L.initial_is not_accepted r (call_of_lem d X i w ws L.agrees.room x (Ok Passes) u) f
  untaken_done (Ok Begins) h r t f d s X marks x L u = clash true refl t
  untaken_done (Ok Evicts) h r t f d s X marks x L u = clash true refl t

-- ---- what each step is told, from what the test told
module _ (h : SamplerPlusTree) (o : Result Offer Refusal) (a : NodeStore) (points : List (List Float)) (weights : List Float) (held : List ℕ) (i : ℕ) (w : Float) (n : ℕ) (Q : SomeOffered h o a points weights held i w n) where
  pub leaving : SomeLeaving h o a points weights held
  leaving = record {
    marks = Q.marks;
    sampled = record { channels = Q.channels; share = Q.share; world = Q.world; state = Q.state };
    kept = λ e.
        let blanks : List ℕ = replicate n 0 in
        let F : FitEvicts Q.channels Q.world i w blanks _ = call_of_lem Q.channels Q.world i w blanks Q.state.agrees.room Q.chance (Ok Evicts) (sym (only_evicts o e) ∙ Q.offer_is ∙ ap (offered Q.channels Q.world i w Q.chance) (sym (length-replicate n 0))) in
        omega (arith, size_is (arrays_of_lem Q.state), ap length F.sample_is);
  }

  module _ (l : Remaining) (b : NodeStore) (weights' : List Float) (held' : List ℕ) (L : LeaveDone h o a points weights held l b weights' held') where
    left : RemainingState Q.channels Q.share Q.world o l b points Q.marks weights' held'
    left = L Q.channels Q.share Q.world Q.marks Q.state

    pub seeking : SeeksBy l o b.nodes b.cuts points i
    seeking t = seeks (tree_of left.arrays) (written_remaining Q.channels Q.world i w n left.agrees Q.chance o Q.offer_is t).1

    pub entering : (before path : List (List ℕ)) (f : Found) → SeesBy l o b.nodes b.cuts points i before f path → SomeEntering l o b points weights' held' i w path f n
    entering before path f F = record {
      channels = Q.channels;
      share = Q.share;
      world = Q.world;
      marks = Q.marks;
      chance = Q.chance;
      state = left;
      offer_is = Q.offer_is;
      seen = record { untaken = λ t. ((F.untaken t).0, refl); taken = λ t. seen_there (F.taken t) };
    }
