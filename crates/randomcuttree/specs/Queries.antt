-- What the queries answer: of whatever arrays are lent, and in document 01's values of any world that they are those of. Definitions.
use Rattle.std.specs.Prelude.{◌≡◌, cond, List, ℕ, ◌-◌, eqb, leb, ltb, get_or, Float, Result, Ok, Err}
use Rattle.std.specs.Float.{nan}
use Rattle.limits.specs.Limits.{branch_limit, point_limit}
use Rattle.cuttree.specs.Run.{World, Row, Answer, refused, written, added, deleted, copies_are, branch_is, box_is, copies_of, branch_of, box_of, ask}
use Rattle.wholetree.specs.Whole.{whole, ends}
use Rattle.layout.specs.Slots.{field}
use Rattle.treestore.specs.Arrays.{NodeStore}
use Rattle.randomcuttree.specs.declared.RCFTree.{RCFTree}
use Rattle.randomcuttree.specs.declared.BranchRow.{BranchRow}
use Rattle.boundingbox.specs.declared.BoundingBox.{BoundingBox}
use Rattle.refusals.specs.declared.Refusal.{Refusal}
use Rattle.refusals.specs.declared.Refusal.TheVariants.{NoSuchNode}
use Rattle.pointstore.specs.Refusals.{refusal_of, never}
use Rattle.randomcuttree.specs.State.{State, SomeState}

-- 'copies of a leaf', or the refusal. A copies query has no other answer.
abbrev pub copies_say : (d : ℕ) → Answer (whole d) → Result ℕ Refusal
copies_say d (refused r) = Err (refusal_of r)
copies_say d (copies_are n) = Ok n
copies_say d written = Err never
copies_say d (added j n) = Err never
copies_say d (deleted j) = Err never
copies_say d (branch_is r) = Err never
copies_say d (box_is b) = Err never

-- 'a branch's channel, cut, children, mass'
abbrev pub row_says : (d : ℕ) → Row (whole d) → BranchRow
row_says d r = record { cut = record { dimension = r.cut.channel; value = r.cut.value.value }; left = r.left; right = r.right; mass = r.mass }

-- a branch's row, or the refusal. A branch query has no other answer.
abbrev pub branch_says : (d : ℕ) → Answer (whole d) → Result BranchRow Refusal
branch_says d (refused r) = Err (refusal_of r)
branch_says d (branch_is r) = Ok (row_says d r)
branch_says d written = Err never
branch_says d (added j n) = Err never
branch_says d (deleted j) = Err never
branch_says d (copies_are n) = Err never
branch_says d (box_is b) = Err never

-- 'and box': its ends; or the refusal. A box query has no other answer.
abbrev pub box_says : (d : ℕ) → Answer (whole d) → Result BoundingBox Refusal
box_says d (refused r) = Err (refusal_of r)
box_says d (box_is b) = Ok (record { min_values = ends b.lower; max_values = ends b.upper })
box_says d written = Err never
box_says d (added j n) = Err never
box_says d (deleted j) = Err never
box_says d (copies_are n) = Err never
box_says d (branch_is r) = Err never

-- Of whatever is lent: the copies at the id less the capacity, or 16 where the id has no place there or no copies are
unfoldable pub copies_read : RCFTree → List ℕ → ℕ → Result ℕ Refusal
copies_read tree copies x =
    cond (ltb x tree.capacity) (Err NoSuchNode)
    (cond (leb point_limit (x - tree.capacity)) (Err NoSuchNode)
    (cond (eqb (get_or copies (x - tree.capacity) 0) 0) (Err NoSuchNode) (Ok (get_or copies (x - tree.capacity) 0))))

-- the row and the cut at the id, or 16 where the id has no place there or the row has no mass
abbrev pub row_read : List (List ℕ) → List Float → ℕ → BranchRow
row_read nodes cuts x = record { cut = record { dimension = field nodes x 3; value = get_or cuts x nan }; left = field nodes x 0; right = field nodes x 1; mass = field nodes x 2 }

unfoldable pub branch_read : List (List ℕ) → List Float → ℕ → Result BranchRow Refusal
branch_read nodes cuts x = cond (leb branch_limit x) (Err NoSuchNode) (cond (eqb (field nodes x 2) 0) (Err NoSuchNode) (Ok (row_read nodes cuts x)))

-- The same in document 01's words: the answer of each world whose header and arrays these are.
abbrev pub CopiesTold : RCFTree → List ℕ → ℕ → Result ℕ Refusal → Type 0
CopiesTold tree copies x r =
    (d c : ℕ) (s : Float) (W : World (whole d)) (a : NodeStore) (points : List (List Float)) (marks : List ℕ) → State d c s W tree a points marks
    → a.copies ≡ copies → r ≡ copies_say d (ask (whole d) c W (copies_of x))

abbrev pub BranchTold : RCFTree → List (List ℕ) → List Float → ℕ → Result BranchRow Refusal → Type 0
BranchTold tree nodes cuts x r =
    (d c : ℕ) (s : Float) (W : World (whole d)) (a : NodeStore) (points : List (List Float)) (marks : List ℕ) → State d c s W tree a points marks
    → a.nodes ≡ nodes → a.cuts ≡ cuts → r ≡ branch_says d (ask (whole d) c W (branch_of x))

-- the arrays that a box is read from
pub record BoxRead (a : NodeStore) (nodes : List (List ℕ)) (boxes : List (List (List Float))) : Type 0 where
  pub nodes_are : a.nodes ≡ nodes
  pub boxes_are : a.boxes ≡ boxes

abbrev pub BoxTold : RCFTree → List (List ℕ) → List (List Float) → List (List (List Float)) → ℕ → Result BoundingBox Refusal → Type 0
BoxTold tree nodes points boxes x r =
    (d c : ℕ) (s : Float) (W : World (whole d)) (a : NodeStore) (marks : List ℕ) → State d c s W tree a points marks
    → BoxRead a nodes boxes → r ≡ box_says d (ask (whole d) c W (box_of x))

-- What a box query asks of its caller: that the header and these arrays are part of a state that a making and its calls leave.
pub record SomeBoxRead (tree : RCFTree) (nodes : List (List ℕ)) (points : List (List Float)) (boxes : List (List (List Float))) : Type 0 where
  pub lent : NodeStore
  pub marks : List ℕ
  pub read : BoxRead lent nodes boxes
  pub state : SomeState tree lent points marks

-- That it is the same: what is read of a world's arrays is the query's answer.
abbrev pub CopiesAreTold : Type 0
CopiesAreTold = (tree : RCFTree) (copies : List ℕ) (x : ℕ) → CopiesTold tree copies x (copies_read tree copies x)

abbrev pub BranchesAreTold : Type 0
BranchesAreTold = (tree : RCFTree) (nodes : List (List ℕ)) (cuts : List Float) (x : ℕ) → BranchTold tree nodes cuts x (branch_read nodes cuts x)
