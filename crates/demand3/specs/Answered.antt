-- What demand 3 says of calls, arrivals and reports and of their answers alone, for those who see no arrays. Definitions.
use Rattle.std.specs.Prelude.{◌≡◌, false, List, [], ◌∷◌, ℕ, ◌-◌, ◌≤◌, Float}
use Rattle.std.proofs.Math.Option.{none, some}
use Rattle.sampler.specs.Sample.{Entry}
use Rattle.cuttree.specs.Run.{Query, Call, put, add, delete, query, Refusal, Answer, refused}
use Rattle.cuttree.specs.Counts.{Counts, after, succeeded, count}
use Rattle.cuttree.specs.Graph.{View, IsRoot, Walk}
use Rattle.cuttree.specs.Demand3.{TreeClaim, CallClaim}
use Rattle.wholetree.specs.Reading.{Reading, reading}
use Rattle.wholetree.specs.Whole.{whole}
use Rattle.sampledtree.specs.Sampled.{SampledAnswer, plain, not_accepted, accepted}
use Rattle.sampledtree.specs.Arrivals.{kept_of, counts_as, answers_as}

-- a tree of d channels and capacity c
module _ (d c : ℕ) where
  -- the tree that the queries give, with the points that the counts keep, is as demand 3 says
  pub record Seen (G : View (whole d)) (K : Counts (whole d)) : Type 0 where
    pub value : (n : ℕ) → G.value n ≡ K.kept (n - c)
    pub tree : TreeClaim (whole d) c G K

  -- the queries give the same tree
  abbrev pub SameTree : View (whole d) → View (whole d) → Type 0
  SameTree G H = (q : Query) → G.asked q ≡ H.asked q

  -- What a call leaves of the tree G, the tree after it being H. A query is answered by G; puts, queries and whatever is refused leave it.
  abbrev pub Leaves : View (whole d) → Call (whole d) → Answer (whole d) → View (whole d) → Type 0
  Leaves G (put i xs) a H = SameTree G H
  Leaves G (add i ws) a H = succeeded (whole d) a ≡ false → SameTree G H
  Leaves G (delete i) a H = succeeded (whole d) a ≡ false → SameTree G H
  Leaves G (query q) a H = (a ≡ G.asked q) × SameTree G H

  -- An answer for each call, G being the tree before the first. Before each and after the last there is such a tree, and each call's answer is
  -- as demand 3 says; P is what is said besides of the last tree.
  abbrev pub Answered : (View (whole d) → Type 0) → View (whole d) → Counts (whole d) → List (Call (whole d)) → List (Answer (whole d)) → Type 0
  Answered P G K [] [] = Seen G K × P G
  Answered P G K (e ∷ es) (a ∷ as') = Seen G K × CallClaim (whole d) c G K e a × ((H : View (whole d)) × Leaves G e a H × Answered P H (count (whole d) e a K) es as')
  Answered P G K [] (a ∷ as') = ⊥
  Answered P G K (e ∷ es) [] = ⊥

  -- 'Accepted arrival: it counts as a delete of the evicted index, if any, then an add of its own index with its c words'. 'Refused, or an
  -- arrival not accepted: no change.'
  abbrev pub count_arrival : ℕ → List ℕ → SampledAnswer (whole d) → Counts (whole d) → Counts (whole d)
  count_arrival i ws (plain a) K = K
  count_arrival i ws not_accepted K = K
  count_arrival i ws (accepted j none) K = after (whole d) (add i ws) K
  count_arrival i ws (accepted j (some e)) K = after (whole d) (add i ws) (after (whole d) (delete e) K)

  -- Of an arrival's answer, where G is the tree before it and P is said of the tree after it. Refused or not accepted it leaves G; an
  -- accepted one is the calls that it counts as, each answered as demand 3 says and none refused, 'and leaves the tree that these two leave'.
  -- Q is what is said besides of these calls and their answers.
  abbrev pub ArrivalClaim : View (whole d) → (View (whole d) → Type 0) → (List (Call (whole d)) → List (Answer (whole d)) → Type 0) → Counts (whole d) → ℕ → List ℕ → SampledAnswer (whole d) → Type 0
  ArrivalClaim G P Q K i ws (plain a) = ((r : Refusal) × (a ≡ refused r)) × P G
  ArrivalClaim G P Q K i ws not_accepted = P G
  ArrivalClaim G P Q K i ws (accepted j e) = (n : ℕ) × Answered P G K (counts_as (whole d) e i ws) (answers_as (whole d) e j n) × Q (counts_as (whole d) e i ws) (answers_as (whole d) e j n)

  -- Of n arrivals that are kept, the entries ks: there are at most c, and the copies of a value in the tree, which the counts number, are the
  -- kept arrivals of that value.
  pub record SampleClaim (n : ℕ) (ks : List Entry) (K : Counts (whole d)) : Type 0 where
    pub room : n ≤ c
    pub kept : (v : Reading) → K.number v ≡ kept_of (whole d) K.kept ks v

  -- of a report of the coordinates xs that is not refused: it has a row for each node of their walk, from the root on
  abbrev pub ReportClaim : View (whole d) → List Float → ℕ → Type 0
  ReportClaim G xs n = (x : ℕ) × IsRoot (whole d) G x × Walk (whole d) G (reading xs) x n
