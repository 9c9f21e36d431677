-- Demand 3 holds of the code: what is kept stands for a world that the counts agree with, and each step leaves such a world. Assumes nothing.
use mathlib.Core.Path.{refl, sym, ◌∙◌, subst}
use mathlib.Core.Option.{none}
use mathlib.Core.List.{List, [], ◌∷◌}
use Prim.Native.Nat.{ℕ}
use lib.ListN.{length}
use lib.Ieee.{Float}
use Rattle.cuttree.specs.Run.{World, call, fresh}
use Rattle.cuttree.specs.Counts.{Counts, nothing}
use Rattle.cuttree.specs.Demand3.{view_of}
use Rattle.cuttree.proofs.Keeps.{Inv, inv_call, inv_fresh}
use Rattle.cuttree.proofs.Claims.{call_claim}
use Rattle.wholetree.specs.Whole.{whole}
use Rattle.wholetree.proofs.Laws.{whole_laws}
use Rattle.pointstore.proofs.Empty.{unwritten}
use Rattle.demand3.specs.Steps.{Kept, Event, calls, arrives, reports, AnswerTo, Step}
use Rattle.demand3.specs.Claim.{count_event, EventClaim, Holds, started, Demand3OfCode}
use Rattle.demand3.proofs.Steps.{Stands, call_is}
use Rattle.demand3.proofs.Calls.{state_claim}
use Rattle.demand3.proofs.Arrivals.{stands_at, arrival_is}
use Rattle.demand3.proofs.Reports.{answer_rows}

module _ (d c : ℕ) (s : Float) where
  -- an event's claim, and what it leaves
  event_is : (W : World (whole d)) (x : Kept) (K : Counts (whole d)) (e : Event d) → Stands d c s W x → Inv (whole d) c W K → (o : AnswerTo d e) (y : Kept) → Step d x e o y
      → EventClaim d c s x (view_of (whole d) c W K) K e o y × ((W' : World (whole d)) × Stands d c s W' y × Inv (whole d) c W' (count_event d c s e o K))
  event_is W x K (calls e) S I a y step =
      let (p, T) = call_is d c s W x e a y S step in
      rw p (call_claim (whole d) c (whole_laws d) W K e I, ((call (whole d) c W e).1, T, inv_call (whole d) c (whole_laws d) W K e I))
  event_is W x K (arrives i w t ws) S I o y step = let F = arrival_is d c s W K x i w t ws S I o y step in (F.claim, (F.world, F.stands, F.counts))
  event_is W x K (reports lent xs) S I (r, rows) y (told, same) =
      let D = told d c s W x.arrays x.table.written S.0 (record { nodes_are = refl; cuts_are = refl; copies_are = refl; boxes_are = refl }) in
      ((λ n e. answer_rows d c K (length lent) xs W I n (sym D.answer ∙ e)), (W, subst (Stands d c s W) (sym same) S, I))

  holds : (W : World (whole d)) (x : Kept) (K : Counts (whole d)) (es : List (Event d)) → Stands d c s W x → Inv (whole d) c W K → Holds d c s x K es
  unfolding state_claim
  holds W x K [] S I = state_claim d c s W x K S I
  holds W x K (e ∷ es) S I = (state_claim d c s W x K S I, λ o y step. let (C, (W', T, J)) = event_is W x K e S I o y step in (C, holds W' y (count_event d c s e o K) es T J))

pub demand3_of_code : Demand3OfCode
demand3_of_code = record {
  bare = λ d c s before after tree M es.
      let S = M.state tree refl _ _ (unwritten _ _ refl refl) in
      holds d c s (fresh (whole d) c) (started tree after none) (nothing (whole d)) es (S, tt) (inv_fresh (whole d) c S.limits.2);
  sampled = λ d c s f before after weights weights' held held' h M es.
      let S = M.state h refl _ _ (unwritten _ _ refl refl) in
      holds d c s (fresh (whole d) c) _ (nothing (whole d)) es
      (stands_at d c s (fresh (whole d) c) _ _ refl (record { initial = f; entries = []; state = S }))
      (inv_fresh (whole d) c S.tree_is.limits.2);
}
