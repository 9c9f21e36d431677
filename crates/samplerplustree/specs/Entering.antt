-- An arrival in two steps: what its offer evicts leaves, and then it enters. Between them its reading is looked for, which tells how many of its
-- words are looked at. Definitions.
use Rattle.std.specs.Prelude.{◌≡◌, Bool, true, false, cond, List, [], ◌∷◌, ℕ, ◌<◌, length, Float, Option, None, Some, Result, Ok, Err}
use Rattle.std.proofs.Math.Option.{some}
use Rattle.readings.specs.Share.{is_share}
use Rattle.sampler.specs.Heap.{pushed, popped}
use Rattle.sampler.specs.Sample.{Entry, above, beyond}
use Rattle.cuttree.specs.Run as Bare
use Rattle.cuttree.specs.Run.{World, add, added, delete}
use Rattle.wholetree.specs.Reading.{Reading}
use Rattle.wholetree.specs.Whole.{whole}
use Rattle.sampledtree.specs.Sampled.{Sampled, with_sample, arrive, call}
use Rattle.sampledtree.specs.Arrivals.{Agrees}
use Rattle.treestore.specs.declared.Found.{Found}
use Rattle.treestore.specs.Arrays.{NodeStore}
use Rattle.randomcuttree.specs.State.{State, header_of}
use Rattle.randomcuttree.specs.Finds.{nowhere, Seeks, Sees}
use Rattle.samplerplustree.specs.declared.SamplerPlusTree.{SamplerPlusTree}
use Rattle.samplerplustree.specs.declared.Accepted.{Accepted}
use Rattle.refusals.specs.declared.Refusal.{Refusal}
use Rattle.samplerplustree.specs.declared.Offer.{Offer}
use Rattle.samplerplustree.specs.declared.Offer.TheVariants.{Passes, Begins, Evicts}
use Rattle.samplerplustree.specs.declared.Remaining.{Remaining}
use Rattle.samplerplustree.specs.declared.Admitted.{Admitted}
use Rattle.samplerplustree.specs.State.{weights_of, held_of, head_of, SampledState, SomeSampled}
use Rattle.samplerplustree.specs.Updates.{Updated, accepted_by}
use Rattle.samplerplustree.specs.Offers.{offered}
use Rattle.samplerplustree.specs.Paths.{path_to}

-- whether an offer takes the arrival
abbrev pub takes : Result Offer Refusal → Bool
takes (Err r) = false
takes (Ok Passes) = false
takes (Ok Begins) = true
takes (Ok Evicts) = true

-- whether it evicts
abbrev pub evicts : Result Offer Refusal → Bool
evicts (Err r) = false
evicts (Ok Passes) = false
evicts (Ok Begins) = false
evicts (Ok Evicts) = true

-- what an offer has answered: of an arrival that is taken with the header after it, the leaf's index and the index that is gone
abbrev pub answer_by : Result Offer Refusal → SamplerPlusTree → ℕ → ℕ → Result (Option Accepted) Refusal
answer_by (Err r) h j e = Err r
answer_by (Ok Passes) h j e = Ok None
answer_by (Ok Begins) h j e = accepted_by h j None
answer_by (Ok Evicts) h j e = accepted_by h j (Some e)

-- the index that goes first, 0 where there is none
abbrev pub first_index : List Entry → ℕ
first_index [] = 0
first_index (k ∷ ks) = k.index

-- the index that an offer evicts, 0 where it evicts none
abbrev pub gone_by : Result Offer Refusal → List Entry → ℕ
gone_by o ks = cond (evicts o) (first_index ks) 0

-- "an eviction deletes by that index", before the arrival is added: the tree and the entries between the two
abbrev pub world_remaining : (d : ℕ) → Sampled (whole d) → Result Offer Refusal → World (whole d)
world_remaining d X o = cond (evicts o) (Bare.call (whole d) X.capacity X.world (delete (first_index X.sample))).1 X.world

abbrev pub entries_remaining : Result Offer Refusal → List Entry → List Entry
entries_remaining o ks = cond (evicts o) (popped above beyond ks) ks

abbrev pub remaining_by : (d : ℕ) → Sampled (whole d) → Result Offer Refusal → Sampled (whole d)
remaining_by d X o = with_sample (whole d) X (world_remaining d X o) (entries_remaining o X.sample)

-- d channels, cached share s
module _ (d : ℕ) (s : Float) where
  -- header, arrays, table and sample are a sampled world's, slot by slot
  pub record SampledArrays (X : Sampled (whole d)) (h : SamplerPlusTree) (a : NodeStore) (points : List (List Float)) (marks : List ℕ) (weights : List Float) (held : List ℕ) : Type 0 where
    pub head_is : h ≡ head_of d s X
    pub tree_is : State d X.capacity s X.world (header_of d X.capacity s X.world) a points marks
    pub weights_are : weights ≡ weights_of X.sample
    pub held_are : held ≡ held_of X.sample

  -- a state between the steps of the arrival at X that the offer o is told for: tree and sample agreed before it
  pub record RemainingState (X : Sampled (whole d)) (o : Result Offer Refusal) (l : Remaining) (a : NodeStore) (points : List (List Float)) (marks : List ℕ) (weights : List Float) (held : List ℕ) : Type 0 where
    pub arrays : SampledArrays (remaining_by d X o) l.tree a points marks weights held
    pub gone_is : l.gone ≡ gone_by o X.sample
    pub agrees : Agrees (whole d) X
    pub initial_is : is_share X.initial ≡ true

-- ---- the first step: an offer evicts only where something is kept
pub record SomeLeaving (h : SamplerPlusTree) (o : Result Offer Refusal) (a : NodeStore) (points : List (List Float)) (weights : List Float) (held : List ℕ) : Type 0 where
  pub marks : List ℕ
  pub sampled : SomeSampled h a points marks weights held
  pub kept : evicts o ≡ true → 0 < h.sampler.current_size

abbrev pub LeaveDone : SamplerPlusTree → Result Offer Refusal → NodeStore → List (List Float) → List Float → List ℕ → Remaining → NodeStore → List Float → List ℕ → Type 0
LeaveDone h o before points weights held l after weights' held' =
    (d : ℕ) (s : Float) (X : Sampled (whole d)) (marks : List ℕ) → SampledState d s X h before points marks weights held → RemainingState d s X o l after points marks weights' held'

-- the path after it: as the walk to the index that is gone leaves it, and as before where the offer evicts none
abbrev pub path_left : (d : ℕ) → Sampled (whole d) → Result Offer Refusal → List (List ℕ) → List (List ℕ)
path_left d X o path = cond (evicts o) (path_to d X.capacity X.world (first_index X.sample) path) path

abbrev pub LeavesPath : SamplerPlusTree → Result Offer Refusal → NodeStore → List (List Float) → List Float → List ℕ → List (List ℕ) → List (List ℕ) → Type 0
LeavesPath h o a points weights held path path' = (d : ℕ) (s : Float) (X : Sampled (whole d)) (marks : List ℕ) → SampledState d s X h a points marks weights held → path' ≡ path_left d X o path

-- ---- what is looked for between them, where the arrival is taken
abbrev pub SeeksBy : Remaining → Result Offer Refusal → List (List ℕ) → List Float → List (List Float) → ℕ → Type 0
SeeksBy l o nodes cuts points i = takes o ≡ true → Seeks l.tree.tree nodes cuts points i

pub record SeesBy (l : Remaining) (o : Result Offer Refusal) (nodes : List (List ℕ)) (cuts : List Float) (points : List (List Float)) (i : ℕ) (before : List (List ℕ)) (f : Found) (path : List (List ℕ)) : Type 0 where
  pub untaken : takes o ≡ false → (f ≡ nowhere) × (path ≡ before)
  pub taken : takes o ≡ true → Sees l.tree.tree nodes cuts points i before f path

-- ---- the second step: of the index i, the weight w and n words, with what was found
pub record SomeEntering (l : Remaining) (o : Result Offer Refusal) (a : NodeStore) (points : List (List Float)) (weights : List Float) (held : List ℕ) (i : ℕ) (w : Float) (path : List (List ℕ)) (f : Found) (n : ℕ) : Type 0 where
  pub channels : ℕ
  pub share : Float
  pub world : Sampled (whole channels)
  pub marks : List ℕ
  pub chance : ℕ
  pub state : RemainingState channels share world o l a points marks weights held
  pub offer_is : o ≡ offered channels world i w chance n
  pub seen : SeesBy l o a.nodes a.cuts points i path f path

-- The two steps are the arrival.
abbrev pub EnterDone : Remaining → Result Offer Refusal → NodeStore → List (List Float) → List Float → List ℕ → ℕ → Float → List ℕ → Result (Option Accepted) Refusal → NodeStore → List Float → List ℕ → Type 0
EnterDone l o before points weights held i w ws r after weights' held' =
    (d : ℕ) (s : Float) (X : Sampled (whole d)) (marks : List ℕ) (x : ℕ) → RemainingState d s X o l before points marks weights held → o ≡ offered d X i w x (length ws)
    → Updated d s (call (whole d) X (arrive i w x ws)) r after points marks weights' held'

-- an add that is done, and its leaf's index kept
pub record Admission (d : ℕ) (s : Float) (Y : Sampled (whole d)) (i : ℕ) (w : Float) (ws : List ℕ) (g : Admitted) (a : NodeStore) (points : List (List Float)) (marks : List ℕ) (weights : List Float) (held : List ℕ) : Type 0 where
  pub words : ℕ
  pub answer : (Bare.call (whole d) Y.capacity Y.world (add i ws)).0 ≡ added g.leaf words
  pub arrays : SampledArrays d s (with_sample (whole d) Y (Bare.call (whole d) Y.capacity Y.world (add i ws)).1 (pushed above beyond Y.sample (record { weight = w; index = g.leaf }))) g.tree a points marks weights held

abbrev pub AdmitDone : SamplerPlusTree → NodeStore → List (List Float) → List Float → List ℕ → ℕ → Float → List ℕ → Admitted → NodeStore → List Float → List ℕ → Type 0
AdmitDone h before points weights held i w ws g after weights' held' =
    (d : ℕ) (s : Float) (Y : Sampled (whole d)) (marks : List ℕ) (p : Reading) → SampledArrays d s Y h before points marks weights held → Y.world.table i ≡ some p → Admission d s Y i w ws g after points marks weights' held'
