-- What an arrival counts as, and what holds of every sampled tree that calls leave. Definitions and statements.
use Rattle.std.specs.Prelude.{◌≡◌, true, false, cond, List, [], ◌∷◌, ℕ, ◌≤◌, ◌<◌, eqb, length, get_or, Float}
use Rattle.std.proofs.Math.Option.{Option, none, some}
use Rattle.std.specs.Float.Ieee.{lt}
use Rattle.sampler.specs.Heap.{total, Heap}
use Rattle.sampler.specs.Sample.{Entry, above, beyond, Weighed}
use Rattle.cuttree.specs.Setting.{Setting}
use Rattle.cuttree.specs.Tree.{is, sum_of}
use Rattle.cuttree.specs.Run.{Refusal, Answer, refused, added, deleted, Call, add, delete, answers, world_after, total_of}
use Rattle.cuttree.specs.Sound.{Sound}
use Rattle.sampledtree.specs.Sampled.{Sampled, SampledAnswer, plain, not_accepted, accepted, with_sample, put, arrive, call, fresh}

-- how often entries keep an index
abbrev pub occurs : List Entry → ℕ → ℕ
occurs ks j = total (λ k. is k.index j) ks

module _ (S : Setting) where
  open S use {Point, Word, Raw, same, limit}

  -- "it counts as a delete of the evicted index, if any, then an add of its own index with its c words"
  abbrev pub counts_as : Option ℕ → ℕ → List Word → List (Call S)
  counts_as none i ws = add i ws ∷ []
  counts_as (some e) i ws = delete e ∷ add i ws ∷ []

  -- the answers of these calls where none is refused: the evicted leaf has the index asked for, and the add takes n words
  abbrev pub answers_as : Option ℕ → ℕ → ℕ → List (Answer S)
  answers_as none j n = added j n ∷ []
  answers_as (some e) j n = deleted e ∷ added j n ∷ []

  -- An accepted arrival from X to Y: these calls, none of them refused, "and leaves the tree that these two leave".
  pub record AsCalls (X : Sampled S) (i : ℕ) (ws : List Word) (j : ℕ) (e : Option ℕ) (Y : Sampled S) : Type 0 where
    pub words : ℕ
    pub entries : List Entry
    pub answered : answers S X.capacity X.world (counts_as e i ws) ≡ answers_as e j words
    pub leaves : Y ≡ with_sample S X (world_after S X.capacity X.world (counts_as e i ws)) entries

  -- one where the point written for an index has the value v
  abbrev pub valued : Option Point → Point → ℕ
  valued none v = 0
  valued (some p) v = cond (same p v) 1 0

  -- how many entries have the value v: that of the point written for their index
  abbrev pub kept_of : (ℕ → Option Point) → List Entry → Point → ℕ
  kept_of f ks v = total (λ k. valued (f k.index) v) ks

  -- THE SAMPLE AND THE TREE AGREE: the copies of a leaf are how often the sample keeps its index, the copies of a value are the kept
  -- arrivals of that value, and a sample holds at most c
  pub record Agrees (X : Sampled S) : Type 0 where
    pub sound : Sound S X.capacity X.world
    pub kept_are : (j : ℕ) → sum_of S (λ i q n. cond (eqb i j) n 0) (λ b. 0) X.world.tree ≡ occurs X.sample j
    pub values_are : (v : Point) → sum_of S (λ i q n. cond (same q v) n 0) (λ b. 0) X.world.tree ≡ kept_of X.world.table X.sample v
    pub total_is : total_of S X.world.tree ≡ length X.sample
    pub room : length X.sample ≤ X.capacity
    pub heap : Heap above beyond Weighed X.sample
    pub small : X.capacity ≤ limit

  -- "accepted only if its weight is below the largest held, which is evicted"
  pub record EvictsLargest (X : Sampled S) (w : Float) (e : ℕ) : Type 0 where
    pub entry : Entry
    pub others : List Entry
    pub first : X.sample ≡ entry ∷ others
    pub index_is : entry.index ≡ e
    pub below : lt w entry.weight ≡ true
    pub largest : (n : ℕ) → n < length X.sample → lt entry.weight (get_or X.sample n beyond).weight ≡ false

  abbrev pub Evicting : Sampled S → Float → Option ℕ → Type 0
  Evicting X w none = Unit {0}
  Evicting X w (some e) = EvictsLargest X w e

  -- An arrival is refused, and nothing changes; is not accepted, and nothing changes; or is accepted as those calls. It leaves what agrees.
  abbrev pub Arrives : Sampled S → ℕ → Float → List Word → SampledAnswer S × Sampled S → Type 0
  Arrives X i w ws (plain a, Y) = ((r : Refusal) × (a ≡ refused r)) × (Y ≡ X)
  Arrives X i w ws (not_accepted, Y) = Y ≡ X
  Arrives X i w ws (accepted j e, Y) = AsCalls X i ws j e Y × Evicting X w e × Agrees Y

  -- So it is with every arrival; a put leaves what agrees, and so does a making.
  abbrev pub EveryArrival : Type 0
  EveryArrival = (X : Sampled S) (i : ℕ) (w : Float) (x : ℕ) (ws : List Word) → Agrees X → Arrives X i w ws (call S X (arrive i w x ws))

  abbrev pub EveryPut : Type 0
  EveryPut = (X : Sampled S) (i : ℕ) (x : Raw) → Agrees X → Agrees (call S X (put i x)).1

  abbrev pub FreshAgrees : Type 0
  FreshAgrees = (c : ℕ) (s : Float) → 2 ≤ c → c ≤ limit → Agrees (fresh S c s)
