-- An arrival of the code is the one on the sampled world: refused, not accepted, or the calls that it counts as. Assumes nothing.
use mathlib.Core.Path.{◌≡◌, refl, sym, ap, ◌∙◌, subst}
use mathlib.Core.Option.{none, some}
use mathlib.Core.List.{List}
use Prim.Native.Nat.{ℕ}
use lib.Ieee.{Float}
use Rattle.sampler.specs.Sample.{Entry}
use Rattle.cuttree.specs.Run.{World, Refusal, refused, world_after}
use Rattle.cuttree.specs.Counts.{Counts}
use Rattle.cuttree.specs.Demand3.{view_of}
use Rattle.cuttree.proofs.Keeps.{Inv}
use Rattle.wholetree.specs.Whole.{whole}
use Rattle.wholetree.proofs.Laws.{whole_laws}
use Rattle.sampledtree.specs.Sampled.{Sampled, SampledAnswer, plain, not_accepted, accepted, arrive, call}
use Rattle.sampledtree.specs.Arrivals.{counts_as, Arrives}
use Rattle.sampledtree.proofs.Arrivals.{every_arrival}
use Rattle.randomcuttree.specs.declared.RCFTree.{RCFTree}
use Rattle.randomcuttree.specs.State.{State}
use Rattle.samplerplustree.specs.declared.SamplerPlusTree.{SamplerPlusTree}
use Rattle.samplerplustree.specs.State.{head_of, SampledState}
use Rattle.samplerplustree.specs.Updates.{update_says, head_updated}
use Rattle.demand3.specs.Heard.{heard_update}
use Rattle.demand3.specs.Steps.{Sample, Kept, head_in, ArrivalStep}
use Rattle.demand3.specs.Answered.{count_arrival, ArrivalClaim}
use Rattle.demand3.specs.Claim.{bare_of, Gives, CountsAsCalls}
use Rattle.demand3.proofs.Heard.{refusal_is}
use Rattle.demand3.proofs.Asked.{asked_is}
use Rattle.demand3.proofs.Answered.{accepted_as}
use Rattle.demand3.proofs.Sampled.{sampled_at, SampledAs, OfWorld}
use Rattle.demand3.proofs.Steps.{Stands}
use Rattle.demand3.proofs.Calls.{calls_made}

module _ (d c : ℕ) (s : Float) where
  -- what is heard of an arrival's answer is that answer, and the header after it is the sampled world's
  heard_arrival : (X : Sampled (whole d)) (i : ℕ) (w : Float) (ws : List ℕ) (z : SampledAnswer (whole d) × Sampled (whole d)) → Arrives (whole d) X i w ws z
      → (heard_update d (update_says d (head_of d s z.1) z.0) ≡ z.0) × (head_updated (head_of d s X) (update_says d (head_of d s z.1) z.0) ≡ head_of d s z.1)
  heard_arrival X i w ws (plain a, Y) ((r, e), same) = rw (e, same) (ap (λ (m : Refusal). plain (refused m)) (refusal_is r), refl)
  heard_arrival X i w ws (not_accepted, Y) same = rw same (refl, refl)
  heard_arrival X i w ws (accepted j none, Y) A = (refl, refl)
  heard_arrival X i w ws (accepted j (some e), Y) A = (refl, refl)

  -- what a sampled world's state says of what is kept
  pub stands_at : (W : World (whole d)) (x : Kept) (p : Sample) → x.sample ≡ some p → SampledAs d c s x p W → Stands d c s W x
  stands_at W x p e B = (subst (λ (t : RCFTree). State d c s W t x.arrays x.table.points x.table.written) (sym (ap (λ (h : SamplerPlusTree). h.tree) B.state.head_is)) B.state.tree_is, subst (OfWorld d c s W x) (sym e) B)

  module _ (W : World (whole d)) (K : Counts (whole d)) (x : Kept) (i : ℕ) (w : Float) (t : ℕ) (ws : List ℕ) (B : Stands d c s W x) (I : Inv (whole d) c W K) where
    -- what is left of an arrival: the world after it, what is kept of it, the counts, and the claim
    pub record Left (o : SampledAnswer (whole d)) (y : Kept) : Type 0 where
      pub world : World (whole d)
      pub stands : Stands d c s world y
      pub counts : Inv (whole d) c world (count_arrival d c i ws o K)
      pub claim : ArrivalClaim d c (view_of (whole d) c W K) (Gives d c s y) (CountsAsCalls d c s x y K) K i ws o

    left_by : (f : Float) (ks : List Entry) (o : SampledAnswer (whole d)) (y : Kept) (q : Sample) → y.sample ≡ some q → (z : SampledAnswer (whole d) × Sampled (whole d)) → Arrives (whole d) (sampled_at d c s f W ks) i w ws z → o ≡ z.0
        → SampledState d s z.1 (head_in y.tree q) y.arrays y.table.points y.table.written q.weights q.held → Left o y
    left_by f ks o y q e (plain a, Y) (r, same) h S =
        let T = stands_at W y q e (record { initial = f; entries = ks; state = rw same at S }) in
        rw h (record { world = W; stands = T; counts = I; claim = (r, asked_is d c s W y T.0) })
    left_by f ks o y q e (not_accepted, Y) same h S =
        let T = stands_at W y q e (record { initial = f; entries = ks; state = rw same at S }) in
        rw h (record { world = W; stands = T; counts = I; claim = asked_is d c s W y T.0 })
    left_by f ks o y q e (accepted j m, Y) (A, top, agrees) h S =
        let after = world_after (whole d) c W (counts_as (whole d) m i ws) in
        let M : SampledAs d c s y q after = record { initial = f; entries = A.entries; state = subst (λ (Z : Sampled (whole d)). SampledState d s Z (head_in y.tree q) y.arrays y.table.points y.table.written q.weights q.held) A.leaves S } in
        let T = stands_at after y q e M in
        let (counts, claim) = accepted_as d c (Gives d c s y) W K i ws j A.words m I A.answered (λ K' I'. asked_is d c s after y T.0) in
        let made = calls_made d c s W (bare_of x) K (counts_as (whole d) m i ws) (bare_of y) B.0 refl I T.0 refl in
        rw h (record { world = after; stands = T; counts = counts; claim = (A.words, claim, rw A.answered at made) })

    pub arrival_is : (o : SampledAnswer (whole d)) (y : Kept) → ArrivalStep d x i w t ws o y → Left o y
    arrival_is o y step =
        let p = step.before in
        let q = step.after in
        let M : SampledAs d c s x p W = subst (OfWorld d c s W x) step.before_is B.1 in
        let X = sampled_at d c s M.initial W M.entries in
        let z = call (whole d) X (arrive i w t ws) in
        let A = every_arrival (whole d) (whole_laws d) X i w t ws M.state.agrees in
        let D = step.done d s X M.state in
        let (h, n) = heard_arrival X i w ws z A in
        let head : head_in y.tree q ≡ head_of d s z.1 = step.head ∙ ap (λ (u : SamplerPlusTree). head_updated u step.answer) M.state.head_is ∙ ap (head_updated (head_of d s X)) D.answer ∙ n in
        left_by M.initial M.entries o y q step.after_is z A (step.heard ∙ ap (heard_update d) D.answer ∙ h)
        (rw (head, step.table) D.state)
