-- An arrival is refused, not accepted, or the bare calls that it counts as; and it leaves a tree and a sample that agree.
use mathlib.Core.Path.{◌≡◌, refl, sym, ap, ap₂, ◌∙◌, subst}
use mathlib.Core.Bool.{Bool, true, false, not, ◌&&◌}
use mathlib.Core.Option.{Option, none, some}
use mathlib.Core.List.{List, [], ◌∷◌}
use Prim.Native.Nat.{ℕ, ◌≤◌, ◌<◌}
use native.Mathlib.Omega.{arith}
use lib.Dec.{T, eqb, leb, ltb}
use lib.ListN.{length, get_or}
use lib.Ieee.{Float, lt}
use borrow.Author.Tests.{ltb-false, eqb-false}
use Rattle.readings.specs.Number.{is_number}
use Rattle.sampler.specs.Heap.{pushed, popped, Heap}
use Rattle.sampler.specs.Sample.{Entry, above, beyond, Weighed}
use Rattle.sampler.proofs.Counts.{push_keeps, pop_keeps, push_length, pop_length}
use Rattle.sampler.proofs.Order.{push_heap, pop_heap}
use Rattle.sampler.proofs.Weights.{weights_order, largest_evicted}
use Rattle.startingchance.specs.Chance.{starts_by}
use Rattle.cuttree.specs.Setting.{Setting, Laws}
use Rattle.cuttree.specs.Tree.{is}
use Rattle.cuttree.specs.Run as Bare
use Rattle.cuttree.specs.Run.{World, Answer, refused, index_above, never_written, bad_weight, few_words, added, deleted, add, delete}
use Rattle.cuttree.proofs.Tests.{by_cond, clash}
use Rattle.cuttree.proofs.Refused.{by_add, by_delete}
use Rattle.cuttree.proofs.Keeps.{sound_call}
use Rattle.cuttree.proofs.Intervals.{is_same}
use Rattle.sampledtree.specs.Sampled.{Offer, passes, begins, evicts, against, offer, Sampled, SampledAnswer, accepted, with_sample, admitted, taken, refuse, if_written}
use Rattle.sampledtree.specs.Arrivals.{valued, kept_of, EvictsLargest, Agrees, Arrives, EveryArrival}
use Rattle.sampledtree.proofs.Admits.{Adds, Deletes, add_admits, delete_admits}

and_first : (a b : Bool) → (a && b) ≡ true → a ≡ true
and_first true b e = refl
and_first false b e = clash false e refl

not_not : (a : Bool) → not a ≡ false → T a
not_not true e = tt
not_not false e = clash true refl e

not_true : (a : Bool) → not a ≡ true → a ≡ false
not_true true e = clash false e refl
not_true false e = refl

module _ (S : Setting) where
  open S use {Point, Word, indices}

  admitted_as : (X : Sampled S) (ks : List Entry) (e : Option ℕ) (w : Float) (x : Answer S × World S) (j n : ℕ) → x.0 ≡ added j n
      → admitted S X ks e w x ≡ (accepted j e, with_sample S X x.1 (pushed above beyond ks (record { weight = w; index = j })))
  admitted_as X ks e w (a, W) j n h = ap (λ (b : Answer S). admitted S X ks e w (b, W)) h

  delete_table : (c : ℕ) (W : World S) (e : ℕ) → (Bare.call S c W (delete e)).1.table ≡ W.table
  delete_table c W e = by_delete S c (λ x. x.1.table ≡ W.table) W (λ _. refl) e (λ j U h. h)

  add_table : (c : ℕ) (W : World S) (i : ℕ) (ws : List Word) → (Bare.call S c W (add i ws)).1.table ≡ W.table
  add_table c W i ws = by_add S c (λ x. x.1.table ≡ W.table) W (λ _. refl) i ws (λ j n U h. h)

  module _ (L : Laws S) (X : Sampled S) (i : ℕ) (p : Point) (w : Float) (ws : List Word) (A : Agrees S X) (good : T (is_number w)) (at : X.world.table i ≡ some p) (enough : X.capacity ≤ length ws) where
    abbrev c : ℕ
    c = X.capacity

    abbrev W : World S
    W = X.world

    -- STARTED
    begins_arrives : length X.sample < c → Arrives S X i w ws (taken S X i w ws begins)
    begins_arrives room =
        let D = add_admits S L c W i p ws A.sound at (omega (arith, A.total_is)) A.small enough in
        let j = D.leaf_index in
        let k : Entry = record { weight = w; index = j } in
        rw (admitted_as X X.sample none w (Bare.call S c W (add i ws)) j D.words D.answer) (
          record { words = D.words; entries = pushed above beyond X.sample k; answered = ap (λ (a : Answer S). a ∷ []) D.answer; leaves = refl },
          tt,
          record {
            sound = sound_call S c L W (add i ws) A.sound;
            kept_are = λ m. omega (arith, D.one_more m, A.kept_are m, push_keeps above beyond (λ y. is y.index m) X.sample k);
            values_are = λ v. omega (arith, D.value_more v, A.values_are v, push_keeps above beyond (λ y. valued S (W.table y.index) v) X.sample k) ∙ ap (λ f. kept_of S f (pushed above beyond X.sample k) v) (sym (add_table c W i ws));
            total_is = omega (arith, D.total_more, A.total_is, push_length above beyond X.sample k);
            room = omega (arith, push_length above beyond X.sample k);
            heap = push_heap above beyond Weighed weights_order X.sample k A.heap good;
            small = A.small;
          },
        )

    -- WITH AN EVICTION
    top : (k : Entry) (ks : List Entry) → X.sample ≡ k ∷ ks → lt w k.weight ≡ true → EvictsLargest S X w k.index
    top k ks s lighter = record {
      entry = k;
      others = ks;
      first = s;
      index_is = refl;
      below = lighter;
      largest = λ n h. subst (λ (y : List Entry). lt (get_or y 0 beyond).weight (get_or X.sample n beyond).weight ≡ false) s (largest_evicted X.sample A.heap n h);
    }

    evicts_arrives : (k : Entry) (ks : List Entry) → X.sample ≡ k ∷ ks → lt w k.weight ≡ true → Arrives S X i w ws (taken S X i w ws (evicts k.index (popped above beyond (k ∷ ks))))
    evicts_arrives k ks s lighter =
        let e = k.index in
        let left = popped above beyond (k ∷ ks) in
        let kept = rw s at A.kept_are in
        let values = rw s at A.values_are in
        let total = rw s at A.total_is in
        let held = rw s at A.room in
        let E = delete_admits S L c W.table W.tree W.free e A.sound (omega (arith, kept e, is_same e, pop_keeps above beyond (λ y. is y.index e) k ks)) in
        let V₁ = (Bare.call S c W (delete e)).1 in
        let tables : V₁.table ≡ W.table = delete_table c W e in
        let D = add_admits S L c V₁ i p ws (sound_call S c L W (delete e) A.sound) (ap (λ f. f i) tables ∙ at) (omega (arith, E.total_less, total)) A.small enough in
        let j = D.leaf_index in
        let n : Entry = record { weight = w; index = j } in
        rw (admitted_as X left (some e) w (Bare.call S c V₁ (add i ws)) j D.words D.answer) (
          record { words = D.words; entries = pushed above beyond left n; answered = ap₂ (λ (a b : Answer S). a ∷ b ∷ []) E.answer D.answer; leaves = refl },
          top k ks s lighter,
          record {
            sound = sound_call S c L V₁ (add i ws) (sound_call S c L W (delete e) A.sound);
            kept_are = λ m. omega (arith, D.one_more m, E.one_less m, kept m, pop_keeps above beyond (λ y. is y.index m) k ks, push_keeps above beyond (λ y. is y.index m) left n);
            values_are = λ v. omega (arith, D.value_more v, ap (λ f. valued S (f j) v) tables, E.value_less v, values v, pop_keeps above beyond (λ y. valued S (W.table y.index) v) k ks, push_keeps above beyond (λ y. valued S (W.table y.index) v) left n) ∙ ap (λ f. kept_of S f (pushed above beyond left n) v) (sym (add_table c V₁ i ws ∙ tables));
            total_is = omega (arith, D.total_more, E.total_less, total, pop_length above beyond k ks, push_length above beyond left n);
            room = omega (arith, held, pop_length above beyond k ks, push_length above beyond left n);
            heap = push_heap above beyond Weighed weights_order left n (pop_heap above beyond Weighed weights_order (k ∷ ks) (subst (Heap above beyond Weighed) s A.heap)) good;
            small = A.small;
          },
        )

    against_arrives : (ks : List Entry) → X.sample ≡ ks → Arrives S X i w ws (taken S X i w ws (against ks w))
    against_arrives [] s = refl
    against_arrives (k ∷ ks) s = by_cond (λ o. Arrives S X i w ws (taken S X i w ws o)) (lt w k.weight) _ _ (λ h. evicts_arrives k ks s h) (λ _. refl)

    offer_arrives : (x : ℕ) → Arrives S X i w ws (taken S X i w ws (offer c X.initial X.sample w x))
    offer_arrives x = by_cond (λ o. Arrives S X i w ws (taken S X i w ws o)) (not (eqb (length X.sample) c) && starts_by x (length X.sample) c X.initial) _ _
        (λ h. begins_arrives (let z = eqb-false (length X.sample) c (not_true _ (and_first _ _ h)) in omega (arith, A.room, z)))
        (λ _. against_arrives X.sample refl)

  -- from the point on that is written for the index
  written_arrives : Laws S → (X : Sampled S) (i : ℕ) (w : Float) (x : ℕ) (ws : List Word) → Agrees S X → (o : Option Point) → X.world.table i ≡ o
      → Arrives S X i w ws (if_written S X o (refuse S X bad_weight (not (is_number w)) (refuse S X few_words (ltb (length ws) X.capacity) (taken S X i w ws (offer X.capacity X.initial X.sample w x)))))
  written_arrives L X i w x ws A none e = ((never_written, refl), refl)
  written_arrives L X i w x ws A (some p) e = by_cond (Arrives S X i w ws) (not (is_number w)) _ _ (λ _. ((bad_weight, refl), refl))
      (λ n. by_cond (Arrives S X i w ws) (ltb (length ws) X.capacity) _ _ (λ _. ((few_words, refl), refl)) (λ h. offer_arrives L X i p w ws A (not_not (is_number w) n) e (ltb-false (length ws) X.capacity h) x))

  pub every_arrival : Laws S → EveryArrival S
  every_arrival L X i w x ws A = by_cond (Arrives S X i w ws) (leb indices i) _ _ (λ _. ((index_above, refl), refl)) (λ _. written_arrives L X i w x ws A (X.world.table i) refl)
