-- The answers of the calls on a world are as demand 3 says, and of the calls that an arrival counts as. Assumes nothing.
use mathlib.Core.Path.{◌≡◌, refl}
use mathlib.Core.Bool.{true, false}
use mathlib.Core.Option.{Option, none, some}
use mathlib.Core.List.{List, [], ◌∷◌}
use Prim.Native.Nat.{ℕ, ◌≤◌}
use Rattle.cuttree.specs.Run.{World, Query, copies_of, branch_of, box_of, Answer, Call, put, add, delete, query, ask, call, answers, world_after, fresh}
use Rattle.cuttree.specs.Counts.{Counts, succeeded, count, count_all, nothing}
use Rattle.cuttree.specs.Graph.{View}
use Rattle.cuttree.specs.Demand3.{view_of}
use Rattle.cuttree.proofs.Tests.{clash}
use Rattle.cuttree.proofs.Refused.{by_put, by_add, by_delete}
use Rattle.cuttree.proofs.Keeps.{Inv, inv_call, inv_fresh}
use Rattle.cuttree.proofs.Claims.{tree_claim, call_claim}
use Rattle.wholetree.specs.Whole.{whole}
use Rattle.wholetree.proofs.Laws.{whole_laws}
use Rattle.sampledtree.specs.Sampled.{accepted}
use Rattle.sampledtree.specs.Arrivals.{counts_as, answers_as}
use Rattle.demand3.specs.Answered.{Seen, Leaves, Answered, count_arrival}

-- the counts of all answers agree with the world after them
pub inv_all : (d c : ℕ) (W : World (whole d)) (K : Counts (whole d)) (es : List (Call (whole d))) → Inv (whole d) c W K → Inv (whole d) c (world_after (whole d) c W es) (count_all (whole d) es (answers (whole d) c W es) K)
inv_all d c W K [] I = I
inv_all d c W K (e ∷ es) I = inv_all d c (call (whole d) c W e).1 (count (whole d) e (call (whole d) c W e).0 K) es (inv_call (whole d) c (whole_laws d) W K e I)

-- what a call leaves of the tree that the queries give
module _ (d c : ℕ) (W : World (whole d)) where
  -- they read the tree alone
  ask_tree : (U : World (whole d)) → U.tree ≡ W.tree → (q : Query) → ask (whole d) c W q ≡ ask (whole d) c U q
  ask_tree U h (copies_of x) = rw h
  ask_tree U h (branch_of x) = rw h
  ask_tree U h (box_of x) = rw h

  abbrev Asks : Answer (whole d) × World (whole d) → Type 0
  Asks x = (q : Query) → ask (whole d) c W q ≡ ask (whole d) c x.1 q

  abbrev Unless : Answer (whole d) × World (whole d) → Type 0
  Unless x = succeeded (whole d) x.0 ≡ false → Asks x

  pub leaves_tree : (K K' : Counts (whole d)) (e : Call (whole d)) → Leaves d c (view_of (whole d) c W K) e (call (whole d) c W e).0 (view_of (whole d) c (call (whole d) c W e).1 K')
  leaves_tree K K' (put i xs) = by_put (whole d) c Asks W (λ m q. refl) i xs (λ U h. ask_tree U h.0)
  leaves_tree K K' (add i ws) = by_add (whole d) c Unless W (λ m e q. refl) i ws (λ j n U h e. clash true refl e)
  leaves_tree K K' (delete i) = by_delete (whole d) c Unless W (λ m e q. refl) i (λ j U h e. clash true refl e)
  leaves_tree K K' (query q) = (refl, λ q'. refl)

module _ (d c : ℕ) where
  pub seen : (W : World (whole d)) (K : Counts (whole d)) → Inv (whole d) c W K → Seen d c (view_of (whole d) c W K) K
  seen W K I = record { value = λ n. refl; tree = tree_claim (whole d) c (whole_laws d) W K I }

module _ (d c : ℕ) (P : View (whole d) → Type 0) where
  -- with what is said of the last world
  pub answered_from : (W : World (whole d)) (K : Counts (whole d)) (es : List (Call (whole d))) → Inv (whole d) c W K
      → ((K' : Counts (whole d)) → Inv (whole d) c (world_after (whole d) c W es) K' → P (view_of (whole d) c (world_after (whole d) c W es) K')) → Answered d c P (view_of (whole d) c W K) K es (answers (whole d) c W es)
  answered_from W K [] I p = (seen d c W K I, p K I)
  answered_from W K (e ∷ es) I p =
      let U = (call (whole d) c W e).1 in
      let K' = count (whole d) e (call (whole d) c W e).0 K in
      (seen d c W K I, call_claim (whole d) c (whole_laws d) W K e I, (view_of (whole d) c U K', leaves_tree d c W K K' e, answered_from U K' es (inv_call (whole d) c (whole_laws d) W K e I) p))

  -- from a fresh tree and an unwritten table
  pub answered : 2 ≤ c → (es : List (Call (whole d)))
      → ((K : Counts (whole d)) → Inv (whole d) c (world_after (whole d) c (fresh (whole d) c) es) K → P (view_of (whole d) c (world_after (whole d) c (fresh (whole d) c) es) K))
      → Answered d c P (view_of (whole d) c (fresh (whole d) c) (nothing (whole d))) (nothing (whole d)) es (answers (whole d) c (fresh (whole d) c) es)
  answered h es p = answered_from (fresh (whole d) c) (nothing (whole d)) es (inv_fresh (whole d) c h) p

-- an accepted arrival's calls: the counts after them agree with the world after them, and they are answered as demand 3 says
module _ (d c : ℕ) (P : View (whole d) → Type 0) (W : World (whole d)) (K : Counts (whole d)) (i : ℕ) (ws : List ℕ) (j n : ℕ) where
  counted : (e : Option ℕ) → count_all (whole d) (counts_as (whole d) e i ws) (answers_as (whole d) e j n) K ≡ count_arrival d c i ws (accepted j e) K
  counted none = refl
  counted (some e) = refl

  pub accepted_as : (e : Option ℕ) → Inv (whole d) c W K → answers (whole d) c W (counts_as (whole d) e i ws) ≡ answers_as (whole d) e j n
      → let after = world_after (whole d) c W (counts_as (whole d) e i ws) in
      ((K' : Counts (whole d)) → Inv (whole d) c after K' → P (view_of (whole d) c after K'))
      → Inv (whole d) c after (count_arrival d c i ws (accepted j e) K) × Answered d c P (view_of (whole d) c W K) K (counts_as (whole d) e i ws) (answers_as (whole d) e j n)
  accepted_as e I a p =
      let es = counts_as (whole d) e i ws in
      (rw (← (counted e), ← a) (inv_all d c W K es I), rw (← a) (answered_from d c P W K es I p))
