-- What an add and a delete answer, refusals by name and document 01's values, and what they leave. Definitions.
use Rattle.std.specs.Prelude.{◌≡◌, List, ℕ, Float, Result, Ok, Err}
use Rattle.std.proofs.Math.Option.{some}
use Rattle.cuttree.specs.Run.{World, add, delete, call, Answer, refused, written, added, deleted, copies_are, branch_is, box_is}
use Rattle.wholetree.specs.Reading.{Reading}
use Rattle.wholetree.specs.Whole.{whole}
use Rattle.treestore.specs.Arrays.{NodeStore}
use Rattle.randomcuttree.specs.declared.RCFTree.{RCFTree}
use Rattle.randomcuttree.specs.declared.Added.{Added}
use Rattle.randomcuttree.specs.declared.Deleted.{Deleted}
use Rattle.refusals.specs.declared.Refusal.{Refusal}
use Rattle.pointstore.specs.Refusals.{refusal_of}
use Rattle.randomcuttree.specs.State.{State, header_of}

-- 'the leaf's point index; for add also the words taken', with the header after the call
abbrev pub added_by : RCFTree → ℕ → ℕ → Result Added Refusal
added_by x j n = Ok (record { tree = x; leaf = j; words = n })

abbrev pub deleted_by : RCFTree → ℕ → Result Deleted Refusal
deleted_by x j = Ok (record { tree = x; leaf = j })

-- That, or the refusal. An add has no other answer, nor has a delete.
abbrev pub add_says : (d : ℕ) → RCFTree → Answer (whole d) → Result Added Refusal
add_says d x (refused r) = Err (refusal_of r)
add_says d x (added j n) = added_by x j n
add_says d x written = added_by x 0 0
add_says d x (deleted j) = added_by x 0 0
add_says d x (copies_are n) = added_by x 0 0
add_says d x (branch_is r) = added_by x 0 0
add_says d x (box_is b) = added_by x 0 0

abbrev pub delete_says : (d : ℕ) → RCFTree → Answer (whole d) → Result Deleted Refusal
delete_says d x (refused r) = Err (refusal_of r)
delete_says d x (deleted j) = deleted_by x j
delete_says d x written = deleted_by x 0
delete_says d x (added j n) = deleted_by x 0
delete_says d x (copies_are n) = deleted_by x 0
delete_says d x (branch_is r) = deleted_by x 0
delete_says d x (box_is b) = deleted_by x 0

-- the header after an answer: a refused call's is the one before
abbrev pub header_added : RCFTree → Result Added Refusal → RCFTree
header_added x (Ok y) = y.tree
header_added x (Err r) = x

abbrev pub header_deleted : RCFTree → Result Deleted Refusal → RCFTree
header_deleted x (Ok y) = y.tree
header_deleted x (Err r) = x

-- What a call gives and leaves: `says` of its answer, and header and arrays of the world after it. The table is not written.
pub record Called {R : Type 0} (d c : ℕ) (s : Float) (says : RCFTree → Answer (whole d) → R) (x : Answer (whole d) × World (whole d)) (r : R) (after : NodeStore) (points : List (List Float)) (marks : List ℕ) : Type 0 where
  pub answer : r ≡ says (header_of d c s x.1) x.0
  pub state : State d c s x.1 (header_of d c s x.1) after points marks

-- An add and a delete, whichever world's the lent state is. A refused one leaves the world as it is, so each array and the header.
abbrev pub AddDone : RCFTree → NodeStore → List (List Float) → List ℕ → ℕ → List ℕ → Result Added Refusal → NodeStore → Type 0
AddDone tree before points marks i words r after = (d c : ℕ) (s : Float) (W : World (whole d)) → State d c s W tree before points marks
    → Called d c s (add_says d) (call (whole d) c W (add i words)) r after points marks

-- the same of a reading that was looked for: the index is written
abbrev pub SeenAdded : RCFTree → NodeStore → List (List Float) → ℕ → List ℕ → Result Added Refusal → NodeStore → Type 0
SeenAdded tree before points i words r after = (d c : ℕ) (s : Float) (W : World (whole d)) (marks : List ℕ) (p : Reading) → State d c s W tree before points marks → W.table i ≡ some p
    → Called d c s (add_says d) (call (whole d) c W (add i words)) r after points marks

abbrev pub DeleteDone : RCFTree → NodeStore → List (List Float) → List ℕ → ℕ → Result Deleted Refusal → NodeStore → Type 0
DeleteDone tree before points marks i r after = (d c : ℕ) (s : Float) (W : World (whole d)) → State d c s W tree before points marks
    → Called d c s (delete_says d) (call (whole d) c W (delete i)) r after points marks

-- the same of a reading that was looked for: the index is written
abbrev pub SeenDeleted : RCFTree → NodeStore → List (List Float) → ℕ → Result Deleted Refusal → NodeStore → Type 0
SeenDeleted tree before points i r after = (d c : ℕ) (s : Float) (W : World (whole d)) (marks : List ℕ) (p : Reading) → State d c s W tree before points marks → W.table i ≡ some p
    → Called d c s (delete_says d) (call (whole d) c W (delete i)) r after points marks
