-- The arrival that an offer is told for: which call it is, and what it leaves. Assumes nothing.
use Rattle.refusals.specs.declared.Refusal.TheVariants as Why
use Rattle.refusals.specs.declared.Refusal.{Refusal}
use Rattle.std.specs.Prelude.{Result, Ok, Err}
use mathlib.Core.Path.{◌≡◌, refl, sym, ap, subst}
use mathlib.Core.Bool.{Bool, true, false, cond, not, ◌&&◌}
use mathlib.Core.Option.{Option, none, some}
use mathlib.Core.List.{List, [], ◌∷◌}
use Prim.Native.Nat.{ℕ, ◌≤◌, ◌<◌}
use native.Mathlib.Omega.{arith}
use lib.Dec.{eqb, leb, ltb}
use lib.ListN.{length}
use lib.Ieee.{Float, lt}
use borrow.Author.Tests.{ltb-false, eqb-false}
use Rattle.limits.specs.Limits.{point_limit}
use Rattle.readings.specs.Number.{is_number}
use Rattle.startingchance.specs.Chance.{starts_by}
use Rattle.sampler.specs.Heap.{pushed, popped}
use Rattle.sampler.specs.Sample.{Entry, above, beyond}
use Rattle.cuttree.specs.Run as Run
use Rattle.cuttree.specs.Run.{World, Answer, refused, index_above, never_written, bad_weight, few_words, added, add}
use Rattle.pointstore.specs.Refusals.{refusal_of}
use Rattle.cuttree.proofs.Tests.{by-test, clash}
use Rattle.wholetree.specs.Reading.{Reading}
use Rattle.wholetree.specs.Whole.{whole}
use Rattle.wholetree.proofs.Laws.{whole_laws}
use Rattle.sampledtree.specs.Sampled as Paper
use Rattle.sampledtree.specs.Sampled.{Sampled, SampledAnswer, plain, not_accepted, accepted, arrive, call, against, with_sample, admitted, taken, refuse, if_written}
use Rattle.sampledtree.specs.Arrivals.{Agrees, Arrives}
use Rattle.sampledtree.proofs.Arrivals.{every_arrival}
use Rattle.samplerplustree.specs.declared.Offer.{Offer}
use Rattle.samplerplustree.specs.declared.Offer.TheVariants.{Passes, Begins, Evicts}
use Rattle.samplerplustree.specs.Offers.{said, if_marked, offered}

by_both : {A B : Type 0} (P : A → B → Type 0) (b : Bool) (x y : A) (u v : B) → (b ≡ true → P x u) → (b ≡ false → P y v) → P (cond b x y) (cond b u v)
by_both P true x y u v f g = f refl
by_both P false x y u v f g = g refl

not_first : (a b : Bool) → (not a && b) ≡ true → a ≡ false
not_first true b e = clash false e refl
not_first false b e = refl

module _ (d : ℕ) (X : Sampled (whole d)) (i : ℕ) (w : Float) (ws : List ℕ) where
  abbrev Done : Type 0
  Done = SampledAnswer (whole d) × Sampled (whole d)

  -- what holds of an arrival that is accepted
  pub record Fit (y : Done) (o : Paper.Offer) : Type 0 where
    pub point : Reading
    pub is_written : X.world.table i ≡ some point
    pub enough : X.capacity ≤ length ws
    pub is_taken : y ≡ taken (whole d) X i w ws o

  pub record FitBegins (y : Done) : Type 0 where
    pub fit : Fit y Paper.begins
    pub room : length X.sample < X.capacity

  pub record FitEvicts (y : Done) : Type 0 where
    pub entry : Entry
    pub others : List Entry
    pub sample_is : X.sample ≡ entry ∷ others
    pub fit : Fit y (Paper.evicts entry.index (popped above beyond (entry ∷ others)))

  -- which call an offer is told for
  abbrev pub CallOf : Result Offer Refusal → Done → Type 0
  CallOf (Err n) y = (r : Run.Refusal) × (n ≡ refusal_of r) × (y ≡ (plain (refused r), X))
  CallOf (Ok Passes) y = y ≡ (not_accepted, X)
  CallOf (Ok Begins) y = FitBegins y
  CallOf (Ok Evicts) y = FitEvicts y

  module _ (room : length X.sample ≤ X.capacity) (p : Reading) (P : X.world.table i ≡ some p) (enough : X.capacity ≤ length ws) where
    fits : (o : Paper.Offer) → Fit (taken (whole d) X i w ws o) o
    fits o = record { point = p; is_written = P; enough = enough; is_taken = refl }

    against_call : (ks : List Entry) → X.sample ≡ ks → CallOf (said (against ks w)) (taken (whole d) X i w ws (against ks w))
    against_call [] s = refl
    against_call (k ∷ ks) s = by-test (lt w k.weight) (λ e. rw e (record { entry = k; others = ks; sample_is = s; fit = fits (Paper.evicts k.index (popped above beyond (k ∷ ks))) })) (λ e. rw e refl)

    offer_call : (x : ℕ) → CallOf (said (Paper.offer X.capacity X.initial X.sample w x)) (taken (whole d) X i w ws (Paper.offer X.capacity X.initial X.sample w x))
    offer_call x = by-test (not (eqb (length X.sample) X.capacity) && starts_by x (length X.sample) X.capacity X.initial)
        (λ e. rw e (record { fit = fits Paper.begins; room = let z = eqb-false (length X.sample) X.capacity (not_first _ _ e) in omega (arith, room, z) }))
        (λ e. rw e (against_call X.sample refl))

  written_call : length X.sample ≤ X.capacity → (x : ℕ) (o : Option Reading) → X.world.table i ≡ o
      → CallOf (if_marked o (cond (not (is_number w)) (Err Why.BadWeight) (cond (ltb (length ws) X.capacity) (Err Why.FewWords) (said (Paper.offer X.capacity X.initial X.sample w x)))))
      (if_written (whole d) X o (refuse (whole d) X bad_weight (not (is_number w)) (refuse (whole d) X few_words (ltb (length ws) X.capacity) (taken (whole d) X i w ws (Paper.offer X.capacity X.initial X.sample w x)))))
  written_call room x none P = (never_written, refl, refl)
  written_call room x (some p) P = by_both CallOf (not (is_number w)) _ _ _ _ (λ _. (bad_weight, refl, refl))
      (λ _. by_both CallOf (ltb (length ws) X.capacity) _ _ _ _ (λ _. (few_words, refl, refl)) (λ h. offer_call room p P (ltb-false (length ws) X.capacity h) x))

  pub call_of_lem : length X.sample ≤ X.capacity → (x : ℕ) (o : Result Offer Refusal) → o ≡ offered d X i w x (length ws) → CallOf o (call (whole d) X (arrive i w x ws))
  unfolding offered
  call_of_lem room x o e = subst (λ z. CallOf z (call (whole d) X (arrive i w x ws))) (sym e)
      (by_both CallOf (leb point_limit i) _ _ _ _ (λ _. (index_above, refl, refl)) (λ _. written_call room x (X.world.table i) refl))

  -- an accepted arrival, from the add that it makes
  pub admitted_as : (ks : List Entry) (e : Option ℕ) (y : Answer (whole d) × World (whole d)) (j n : ℕ) → y.0 ≡ added j n
      → admitted (whole d) X ks e w y ≡ (accepted j e, with_sample (whole d) X y.1 (pushed above beyond ks (record { weight = w; index = j })))
  admitted_as ks e (b, W) j n h = ap (λ (z : Answer (whole d)). admitted (whole d) X ks e w (z, W)) h

  pub agrees_after : (x : ℕ) → Agrees (whole d) X → (j : ℕ) (e : Option ℕ) (Y : Sampled (whole d)) → call (whole d) X (arrive i w x ws) ≡ (accepted j e, Y) → Agrees (whole d) Y
  agrees_after x A j e Y h = (subst (Arrives (whole d) X i w ws) h (every_arrival (whole d) (whole_laws d) X i w x ws A)).2
