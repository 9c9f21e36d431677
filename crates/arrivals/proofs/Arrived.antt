-- What the second step of an arrival answers and leaves, and the header after it. Assumes nothing.
use Rattle.refusals.specs.declared.Refusal.{Refusal}
use Rattle.std.specs.Prelude.{Result, Ok, Err}
use mathlib.Core.Path.{◌≡◌, refl, sym, ap, ◌∙◌, subst}
use mathlib.Core.Bool.{true}
use mathlib.Core.Option.{Option, none, some}
use mathlib.Core.List.{List}
use Prim.Native.Nat.{ℕ}
use native.Mathlib.Omega.{arith}
use lib.ListN.{length, take}
use lib.Ieee.{Float}
use Rattle.limits.specs.Limits.{capacity_limit}
use Rattle.cuttree.specs.Run as Bare
use Rattle.wholetree.specs.Whole.{whole}
use Rattle.wholetree.proofs.Laws.{whole_laws}
use Rattle.sampledtree.specs.Sampled.{Sampled, SampledAnswer, accepted, arrive, call}
use Rattle.sampledtree.proofs.Admits.{add_admits}
use Rattle.treestore.specs.Arrays.{NodeStore}
use Rattle.samplerplustree.specs.declared.SamplerPlusTree.{SamplerPlusTree}
use Rattle.samplerplustree.specs.declared.Accepted.{Accepted}
use Rattle.std.specs.Prelude as std
use Rattle.samplerplustree.specs.declared.Remaining.{Remaining}
use Rattle.samplerplustree.specs.declared.Offer.{Offer}
use Rattle.samplerplustree.specs.declared.Offer.TheVariants.{Passes, Begins, Evicts}
use Rattle.samplerplustree.specs.State.{SampledState, head_of}
use Rattle.samplerplustree.specs.Updates.{update_says, head_updated}
use Rattle.samplerplustree.specs.Offers.{offered}
use Rattle.samplerplustree.specs.Entering.{takes, world_remaining, entries_remaining, RemainingState, EnterDone}
use Rattle.samplerplustree.proofs.Taken.{call_of_lem, admitted_as}
use Rattle.samplerplustree.proofs.Entered.{evicted_by, ready}
use Rattle.answers.specs.Said.{filled, reply_width}
use Rattle.arrivals.specs.Arrived.{arrival_numbers, EntersBy}
use Rattle.arrivals.proofs.Alike.{arrive_alike}
use Rattle.arrivals.proofs.Used.{enough}

module _ (d : ℕ) (s : Float) (X : Sampled (whole d)) (l : Remaining) (a : NodeStore) (points : List (List Float)) (marks : List ℕ) (weights : List Float) (held : List ℕ) (i : ℕ) (w : Float) (x : ℕ) (ws : List ℕ) where
  -- the header after this answer is the sampled world's
  abbrev Headed : SampledAnswer (whole d) × Sampled (whole d) → Type 0
  Headed y = head_updated l.tree (update_says d (head_of d s y.1) y.0) ≡ head_of d s y.1

  headed_new : (y : SampledAnswer (whole d) × Sampled (whole d)) (j : ℕ) (e : Option ℕ) (Y : Sampled (whole d)) → y ≡ (accepted j e, Y) → Headed y
  headed_new y j none Y E = subst Headed (sym E) refl
  headed_new y j (some e) Y E = subst Headed (sym E) refl

  -- the add of an arrival that is taken is never refused
  headed_taken : (o : Result Offer Refusal) → takes o ≡ true → RemainingState d s X o l a points marks weights held → o ≡ offered d X i w x (length ws) → Headed (call (whole d) X (arrive i w x ws))
  headed_taken o t L told =
      let R = ready d X i w ws L.agrees x o told t in
      let S = L.arrays.tree_is in
      let A = add_admits (whole d) (whole_laws d) X.capacity (world_remaining d X o) i R.point ws S.reachable.sound R.is_written R.room (omega (arith, S.limits.3)) R.enough in
      headed_new _ A.leaf_index (evicted_by o X.sample) _ (R.is_call_lem ∙ admitted_as d X i w ws (entries_remaining o X.sample) (evicted_by o X.sample) (Bare.call (whole d) X.capacity (world_remaining d X o) (Bare.add i ws)) A.leaf_index A.words A.answer)

  -- any other leaves the header, which the first step left too
  head_after : (o : Result Offer Refusal) → RemainingState d s X o l a points marks weights held → o ≡ offered d X i w x (length ws) → Headed (call (whole d) X (arrive i w x ws))
  head_after (Err n) L told = let (r, m, E) = call_of_lem d X i w ws L.agrees.room x (Err n) told in subst Headed (sym E) L.arrays.head_is
  head_after (Ok Passes) L told = subst Headed (sym (call_of_lem d X i w ws L.agrees.room x (Ok Passes) told)) L.arrays.head_is
  head_after (Ok Begins) L told = headed_taken (Ok Begins) refl L told
  head_after (Ok Evicts) L told = headed_taken (Ok Evicts) refl L told

pub enter_does : (l : Remaining) (o : Result Offer Refusal) (a : NodeStore) (points : List (List Float)) (weights : List Float) (held : List ℕ) (i : ℕ) (w : Float) (first : List ℕ)
    (r : Result (std.Option Accepted) Refusal) (b : NodeStore) (weights' : List Float) (held' : List ℕ) (next : SamplerPlusTree) (reply : List ℕ) (n : ℕ)
    → (length first ≡ n) × EnterDone l o a points weights held i w first r b weights' held' → next ≡ head_updated l.tree r → reply ≡ filled reply_width (arrival_numbers r)
    → (x : ℕ) (ws marks : List ℕ) → length (take capacity_limit ws) ≡ n → EntersBy o n i w x first ws l a points marks weights held next b weights' held' reply
enter_does l o a points weights held i w first r b weights' held' next reply n (long, D) f g x ws marks m d s X L told used =
    let by_first : o ≡ offered d X i w x (length first) = told ∙ ap (offered d X i w x) (sym long) in
    let U = D d s X marks x L by_first in
    let y = call (whole d) X (arrive i w x first) in
    let new : next ≡ head_of d s y.1 = f ∙ ap (head_updated l.tree) U.answer ∙ head_after d s X l a points marks weights held i w x first o L by_first in
    let short : y ≡ call (whole d) X (arrive i w x (take capacity_limit ws)) = enough L i w x n told first (take capacity_limit ws) long m used in
    let same : y ≡ call (whole d) X (arrive i w x ws) = short ∙ arrive_alike d X i w L.arrays.tree_is.limits.3 x ws in
    record {
      reply_is = g ∙ ap (λ u. filled reply_width (arrival_numbers u)) (U.answer ∙ ap (λ (z : SampledAnswer (whole d) × Sampled (whole d)). update_says d (head_of d s z.1) z.0) same);
      state = subst (λ (z : SampledAnswer (whole d) × Sampled (whole d)). SampledState d s z.1 next b points marks weights' held') same
          (subst (λ (t : SamplerPlusTree). SampledState d s y.1 t b points marks weights' held') (sym new) U.state);
    }
