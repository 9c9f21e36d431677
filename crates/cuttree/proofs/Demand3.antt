-- Demand 3 holds: for every list of calls, from a fresh tree and an unwritten table.
use mathlib.Core.List.{List, [], ◌∷◌}
use Prim.Native.Nat.{ℕ, ◌≤◌}
use Rattle.cuttree.specs.Setting.{Setting, Laws}
use Rattle.cuttree.specs.Run.{World, Call, call, answers, world_after, fresh}
use Rattle.cuttree.specs.Counts.{Counts, count, count_all, nothing}
use Rattle.cuttree.specs.Demand3.{view_of, TreeClaim, Claims, Demand3}
use Rattle.cuttree.proofs.Keeps.{Inv, inv_call, inv_fresh}
use Rattle.cuttree.proofs.Claims.{tree_claim, call_claim}

module _ (S : Setting) (c : ℕ) (L : Laws S) where
  pub claims : (W : World S) (K : Counts S) (ds : List (Call S)) → Inv S c W K → Claims S c W K ds
  claims W K [] I = tree_claim S c L W K I
  claims W K (d ∷ ds) I = (tree_claim S c L W K I, call_claim S c L W K d I, claims (call S c W d).1 (count S d (call S c W d).0 K) ds (inv_call S c L W K d I))

  pub demand3 : Demand3 S c
  demand3 h ds = claims (fresh S c) (nothing S) ds (inv_fresh S c h)

  -- the same at the end of the list, against the counts of its answers
  abbrev AtEnd : World S → Counts S → List (Call S) → Type 0
  AtEnd W K ds = TreeClaim S c (view_of S c (world_after S c W ds) (count_all S ds (answers S c W ds) K)) (count_all S ds (answers S c W ds) K)

  at_end : (W : World S) (K : Counts S) (ds : List (Call S)) → Claims S c W K ds → AtEnd W K ds
  at_end W K [] h = h
  at_end W K (d ∷ ds) h = at_end (call S c W d).1 (count S d (call S c W d).0 K) ds h.2

  pub demand3_end : 2 ≤ c → (ds : List (Call S)) → AtEnd (fresh S c) (nothing S) ds
  demand3_end h ds = at_end (fresh S c) (nothing S) ds (demand3 h ds)
