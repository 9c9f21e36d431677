-- DEMAND 3, of the code: for every list of calls, arrivals and reports, each as its contract ensures it, from an accepted making and an unwritten table.
use Rattle.std.specs.Prelude.{◌≡◌, true, List, [], ◌∷◌, ℕ, ◌-◌, ◌<◌, ltb, get_or, replicate, Float, Ok}
use Rattle.std.proofs.Math.Option.{Option, none, some}
use Rattle.std.specs.Float.Ieee.{le}
use Rattle.limits.specs.Limits.{width, branch_limit, point_limit}
use Rattle.boundingbox.specs.Ends.{channel}
use Rattle.readings.specs.Share.{cached_part}
use Rattle.cuttree.specs.Run.{Query, query, Row, Call, Answer}
use Rattle.cuttree.specs.Counts.{Counts, nothing, count}
use Rattle.cuttree.specs.Graph.{View, IsBranch, Under}
use Rattle.cuttree.specs.Demand3.{TreeClaim, CallClaim}
use Rattle.wholetree.specs.Reading.{Reading}
use Rattle.wholetree.specs.Whole.{whole}
use Rattle.sampler.specs.Sample.{entries_in}
use Rattle.layout.specs.Layout.{no_ends, no_box_ends}
use Rattle.treestore.specs.Arrays.{NodeStore}
use Rattle.randomcuttree.specs.declared.RCFTree.{RCFTree}
use Rattle.randomcuttree.specs.State.{SomeState}
use Rattle.randomcuttree.specs.Making.{MakeDone}
use Rattle.samplerplustree.specs.declared.SamplerPlusTree.{SamplerPlusTree}
use Rattle.samplerplustree.specs.State.{SomeSampled}
use Rattle.samplerplustree.specs.Making.{SampledMade}
use Rattle.demand3.specs.Steps.{Sample, Kept, head_in, Event, calls, arrives, reports, AnswerTo, CallStep, Step}
use Rattle.demand3.specs.Answered.{count_arrival, ArrivalClaim, SampleClaim, ReportClaim}

-- what is kept as the box of the branch b: its ends in channel i, the lower for k = 0, the upper for k = 1
abbrev pub end_kept : Kept → ℕ → ℕ → ℕ → Float
end_kept x b k i = channel (get_or (get_or x.arrays.boxes b []) k []) i

-- the header, the arrays and the table of x, as those of a bare tree
abbrev pub bare_of : Kept → Kept
bare_of x = record { tree = x.tree; arrays = x.arrays; table = x.table; sample = none }

-- of a sampled tree: what `update` asks of its caller
abbrev pub SampleStands : Kept → Option Sample → Type 0
SampleStands x none = Unit {0}
SampleStands x (some p) = SomeSampled (head_in x.tree p) x.arrays x.table.points x.table.written p.weights p.held

-- d channels, capacity c, cached share s
module _ (d c : ℕ) (s : Float) where
  -- 'The cached boxes are those the tree keeps, one for each branch in it below the whole part of share × c': around every leaf reached
  -- through its children, each end a leaf's coordinate. Every other row is zero.
  pub record CachedBoxes (x : Kept) (G : View (whole d)) : Type 0 where
    pub around : (b : ℕ) (r : Row (whole d)) → IsBranch (whole d) G b r → b < cached_part s c → (i : ℕ) → i < width → (q : Reading) → Under (whole d) G b q →
        (le (end_kept x b 0 i) (channel q.row i) ≡ true) × (le (channel q.row i) (end_kept x b 1 i) ≡ true)
    pub smallest : (b : ℕ) (r : Row (whole d)) → IsBranch (whole d) G b r → b < cached_part s c → (i : ℕ) → i < width →
        ((q : Reading) × Under (whole d) G b q × (end_kept x b 0 i ≡ channel q.row i)) × ((q : Reading) × Under (whole d) G b q × (end_kept x b 1 i ≡ channel q.row i))
    pub other : (b : ℕ) → b < branch_limit → ((r : Row (whole d)) → IsBranch (whole d) G b r → b < cached_part s c → ⊥) → get_or x.arrays.boxes b [] ≡ no_box_ends
    -- the header has at most c − 1 boxes cached; of a tree's branches that leaves out none
    pub bound : (b : ℕ) (r : Row (whole d)) → IsBranch (whole d) G b r → ltb b x.tree.cached ≡ ltb b (cached_part s c)

  -- of a sampled tree
  abbrev pub OfSample : Option Sample → Counts (whole d) → Type 0
  OfSample none K = Unit {0}
  OfSample (some p) K = SampleClaim d c p.sampler.current_size (entries_in p.sampler.current_size p.weights p.held) K

  -- the code's queries on x give the tree G
  abbrev pub Gives : Kept → View (whole d) → Type 0
  Gives x G = (q : Query) (a : Answer (whole d)) (y : Kept) → CallStep d x (query q) a y → a ≡ G.asked q

  -- After some calls: the tree that the code's queries give, with the points that the counts keep, is as demand 3 says, and so are the
  -- cached boxes. Each branch is cut on one of the tree's channels. And the next call may be made: what is kept meets the `requires` of
  -- add, delete, the box query and the report, that of a sampled tree the one of `update` too; the other calls ask for nothing.
  pub record StateClaim (x : Kept) (K : Counts (whole d)) : Type 0 where
    pub view : View (whole d)
    pub asked : Gives x view
    pub value : (n : ℕ) → view.value n ≡ K.kept (n - c)
    pub tree : TreeClaim (whole d) c view K
    pub boxes : CachedBoxes x view
    pub sample : OfSample x.sample K
    pub channels : (b : ℕ) (r : Row (whole d)) → IsBranch (whole d) view b r → r.cut.channel < d
    pub stands : SomeState x.tree x.arrays x.table.points x.table.written × SampleStands x x.sample

  -- 'Queries and reports change none of these and may stand anywhere between.'
  abbrev pub count_event : (e : Event d) → AnswerTo d e → Counts (whole d) → Counts (whole d)
  count_event (calls e) a K = count (whole d) e a K
  count_event (arrives i w x ws) o K = count_arrival d c i ws o K
  count_event (reports lent xs) r K = K

  -- The code's own calls on x, one after another, with these answers. Before each call what is kept is as demand 3 says, and the call may be
  -- made; its answer is as demand 3 says of the tree that the code's queries give just before it. Whatever its contract lets it answer and
  -- leave, it answers that; and what the last one leaves is y.
  abbrev pub CallsMade : Kept → Counts (whole d) → List (Call (whole d)) → List (Answer (whole d)) → Kept → Type 0
  CallsMade x K [] [] y = x ≡ y
  CallsMade x K (e ∷ es) (a ∷ as') y = (H : StateClaim x K) × CallClaim (whole d) c H.view K e a × ((o : Answer (whole d)) (z : Kept) → CallStep d x e o z → (o ≡ a) × CallsMade z (count (whole d) e a K) es as' y)
  CallsMade x K [] (a ∷ as') y = ⊥
  CallsMade x K (e ∷ es) [] y = ⊥

  -- 'Accepted arrival: it counts as a delete of the evicted index, if any, then an add of its own index with its c words, and leaves the tree
  -- that these two leave.' 'The words taken are the number that the add answers, for an arrival the add that it counts as.' Of an arrival on x
  -- that leaves y: `RCFTree::delete` and `add`, called with header, arrays and table of x, answer so and leave header, arrays and table of y.
  abbrev pub CountsAsCalls : Kept → Kept → Counts (whole d) → List (Call (whole d)) → List (Answer (whole d)) → Type 0
  CountsAsCalls x y K es as' = CallsMade (bare_of x) K es as' (bare_of y)

  -- Of an event on x, where the queries give G, its answer and what it leaves: an arrival leaves the tree that the queries give after it, and
  -- an accepted one counts as the code's own calls, with the same words taken.
  abbrev pub EventClaim : Kept → View (whole d) → Counts (whole d) → (e : Event d) → AnswerTo d e → Kept → Type 0
  EventClaim x G K (calls e) a y = CallClaim (whole d) c G K e a
  EventClaim x G K (arrives i w t ws) o y = ArrivalClaim d c G (Gives y) (CountsAsCalls x y K) K i ws o
  EventClaim x G K (reports lent xs) r y = (n : ℕ) → r.0 ≡ Ok n → ReportClaim d c G xs n

  -- Before each event and after the last; and of each event, whatever its contract lets it answer and leave. The counts are fed its answer.
  abbrev pub Holds : Kept → Counts (whole d) → List (Event d) → Type 0
  Holds x K [] = StateClaim x K
  Holds x K (e ∷ es) = (H : StateClaim x K) × ((o : AnswerTo d e) (y : Kept) → Step d x e o y → EventClaim x H.view K e o y × Holds y (count_event e o K) es)

-- a tree that is made, with its arrays, a table with nothing written, and the sample of a sampled tree
abbrev pub started : RCFTree → NodeStore → Option Sample → Kept
started tree arrays sample = record { tree = tree; arrays = arrays; table = record { points = replicate point_limit no_ends; written = replicate point_limit 0 }; sample = sample }

-- For every number of channels, capacity and share that a making takes, and every list of puts, adds, deletes, queries and reports on a bare
-- tree, of puts, arrivals, queries and reports on a sampled one, refused and not accepted ones included.
pub record Demand3OfCode : Type 0 where
  pub bare : (d c : ℕ) (s : Float) (before after : NodeStore) (tree : RCFTree) → MakeDone d c s before after (Ok tree)
      → (es : List (Event d)) → Holds d c s (started tree after none) (nothing (whole d)) es
  pub sampled : (d c : ℕ) (s f : Float) (before after : NodeStore) (weights weights' : List Float) (held held' : List ℕ) (h : SamplerPlusTree) → SampledMade d c s f before after weights weights' held held' (Ok h)
      → (es : List (Event d)) → Holds d c s (started h.tree after (some (record { sampler = h.sampler; initial = h.initial_accept_fraction; weights = weights'; held = held' }))) (nothing (whole d)) es
