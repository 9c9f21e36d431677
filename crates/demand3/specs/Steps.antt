-- A call of the code as one step: what it is lent, what it answers and what it leaves, exactly as its contract ensures it. Definitions.
use Rattle.std.specs.Prelude as std
use Rattle.std.specs.Prelude.{◌≡◌, List, ℕ, Float, Result}
use Rattle.std.proofs.Math.Option.{Option, none, some}
use Rattle.cuttree.specs.Run.{Call, put, add, delete, query, copies_of, branch_of, box_of, Answer}
use Rattle.wholetree.specs.Whole.{whole}
use Rattle.refusals.specs.declared.Refusal.{Refusal}
use Rattle.boundingbox.specs.declared.BoundingBox.{BoundingBox}
use Rattle.pointstore.specs.declared.PointStore.{PointStore}
use Rattle.pointstore.specs.Puts.{Puts}
use Rattle.sampler.specs.declared.Sampler.{Sampler}
use Rattle.sampledtree.specs.Sampled.{SampledAnswer}
use Rattle.treestore.specs.Arrays.{NodeStore}
use Rattle.randomcuttree.specs.declared.RCFTree.{RCFTree}
use Rattle.randomcuttree.specs.declared.Added.{Added}
use Rattle.randomcuttree.specs.declared.Deleted.{Deleted}
use Rattle.randomcuttree.specs.Answers.{AddDone, DeleteDone, header_added, header_deleted}
use Rattle.randomcuttree.specs.Queries.{copies_read, branch_read, BoxTold}
use Rattle.samplerplustree.specs.declared.SamplerPlusTree.{SamplerPlusTree}
use Rattle.samplerplustree.specs.declared.Accepted.{Accepted}
use Rattle.samplerplustree.specs.Updates.{UpdateDone, head_updated}
use Rattle.nodeview.specs.Told.{ReportTold}
use Rattle.demand3.specs.Heard.{heard_update, heard_put, heard_add, heard_delete, heard_copies, heard_branch, heard_box}

-- the sample of a sampled tree, with the initial share
pub record Sample : Type 0 where
  pub sampler : Sampler
  pub initial : Float
  pub weights : List Float
  pub held : List ℕ

-- what a caller keeps from call to call: the header, the lent arrays and the table; of a sampled tree the sample too
pub record Kept : Type 0 where
  pub tree : RCFTree
  pub arrays : NodeStore
  pub table : PointStore
  pub sample : Option Sample

-- header, arrays and sample are not written
pub record SameTree (x y : Kept) : Type 0 where
  pub tree : y.tree ≡ x.tree
  pub arrays : y.arrays ≡ x.arrays
  pub sample : y.sample ≡ x.sample

-- the header of a sampled tree
abbrev pub head_in : RCFTree → Sample → SamplerPlusTree
head_in t p = record { tree = t; sampler = p.sampler; initial_accept_fraction = p.initial }

-- What a caller does: a call; an arrival with its point index, weight, word for the starting chance and words for the tree; or a report, with
-- the lent rows, of a query's coordinates. 'A sampled tree takes arrivals only, a bare tree adds and deletes only'; the rest stands on both.
pub data Event (d : ℕ) : Type 0 where
  calls : Call (whole d) → Event d
  arrives : ℕ → Float → ℕ → List ℕ → Event d
  reports : List (List ℕ) → List Float → Event d

module _ (d : ℕ) where
  -- A call on x that answers a and leaves y, on a tree of d channels, exactly as the contract of `RCFTree`'s function ensures it. 'Each call
  -- gets table, tree and sample as the one before returned or left them.'
  abbrev pub CallStep : Kept → Call (whole d) → Answer (whole d) → Kept → Type 0
  CallStep x (put i xs) a y = (r : Result Unit Refusal) × (a ≡ heard_put d r) × Puts x.tree.dimensions x.arrays.copies i xs x.table.points x.table.written y.table.points y.table.written r × SameTree x y
  CallStep x (add i ws) a y = (r : Result Added Refusal) × (a ≡ heard_add d r) × AddDone x.tree x.arrays x.table.points x.table.written i ws r y.arrays × (y.tree ≡ header_added x.tree r) × (y.table ≡ x.table) × (x.sample ≡ none) × (y.sample ≡ none)
  CallStep x (delete i) a y = (r : Result Deleted Refusal) × (a ≡ heard_delete d r) × DeleteDone x.tree x.arrays x.table.points x.table.written i r y.arrays × (y.tree ≡ header_deleted x.tree r) × (y.table ≡ x.table) × (x.sample ≡ none) × (y.sample ≡ none)
  CallStep x (query (copies_of n)) a y = (a ≡ heard_copies d (copies_read x.tree x.arrays.copies n)) × (y ≡ x)
  CallStep x (query (branch_of n)) a y = (a ≡ heard_branch d (branch_read x.arrays.nodes x.arrays.cuts n)) × (y ≡ x)
  CallStep x (query (box_of n)) a y = (r : Result BoundingBox Refusal) × (a ≡ heard_box d r) × BoxTold x.tree x.arrays.nodes x.table.points x.arrays.boxes n r × (y ≡ x)

  -- an arrival, as the contract of `SamplerPlusTree::update` ensures it
  pub record ArrivalStep (x : Kept) (i : ℕ) (w : Float) (c : ℕ) (ws : List ℕ) (o : SampledAnswer (whole d)) (y : Kept) : Type 0 where
    pub before : Sample
    pub after : Sample
    pub before_is : x.sample ≡ some before
    pub after_is : y.sample ≡ some after
    pub answer : Result (std.Option Accepted) Refusal
    pub heard : o ≡ heard_update d answer
    pub done : UpdateDone (head_in x.tree before) x.arrays x.table.points x.table.written before.weights before.held i w c ws answer y.arrays after.weights after.held
    pub head : head_in y.tree after ≡ head_updated (head_in x.tree before) answer
    pub table : y.table ≡ x.table

  -- what an event is answered; a report also leaves the rows that it was lent
  abbrev pub AnswerTo : Event d → Type 0
  AnswerTo (calls e) = Answer (whole d)
  AnswerTo (arrives i w c ws) = SampledAnswer (whole d)
  AnswerTo (reports lent xs) = Result ℕ Refusal × List (List ℕ)

  -- a report is as the contract of `traverse` ensures it
  abbrev pub Step : Kept → (e : Event d) → AnswerTo e → Kept → Type 0
  Step x (calls e) a y = CallStep x e a y
  Step x (arrives i w c ws) o y = ArrivalStep x i w c ws o y
  Step x (reports lent xs) (r, rows) y = ReportTold x.tree x.arrays.nodes x.arrays.cuts x.arrays.copies x.table.points x.arrays.boxes xs lent r rows × (y ≡ x)
