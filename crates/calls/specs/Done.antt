-- What a call gives and leaves. Definitions.
use Rattle.std.specs.Prelude.{◌≡◌, List, ℕ, Float, cond, eqb, Result}
use Rattle.cuttree.specs.Run.{World, Call, call, Query, copies_of, branch_of, box_of}
use Rattle.wholetree.specs.Whole.{whole}
use Rattle.randomcuttree.specs.declared.RCFTree.{RCFTree}
use Rattle.treestore.specs.Arrays.{NodeStore}
use Rattle.randomcuttree.specs.State.{State}
use Rattle.refusals.specs.declared.Refusal.{Refusal}
use Rattle.pointstore.specs.Puts.{Puts}
use Rattle.answers.specs.Said.{filled, said, put_numbers, reply_width}

-- the numbers of the answer, with 0 after them, and a state of the world after the call
pub record Done (d c : ℕ) (s : Float) (W : World (whole d)) (x : Call (whole d)) (tree : RCFTree) (a : NodeStore) (points : List (List Float)) (marks reply : List ℕ) : Type 0 where
  pub reply_is : reply ≡ filled reply_width (said d c s x (call (whole d) c W x))
  pub state : State d c s (call (whole d) c W x).1 tree a points marks

-- What a put gives and leaves of whatever is lent: as `RCFTree::put`, with the numbers of its answer, and 0 after them.
pub record PutRead (tree : RCFTree) (copies : List ℕ) (i : ℕ) (xs : List Float) (points : List (List Float)) (marks : List ℕ) (points' : List (List Float)) (marks' reply : List ℕ) : Type 0 where
  pub answer : Result Unit Refusal
  pub puts : Puts tree.dimensions copies i xs points marks points' marks' answer
  pub told : reply ≡ filled reply_width (put_numbers answer)

-- A call, whichever world's the lent state is: header, arrays and table before it, then after it.
abbrev pub Does : ((d : ℕ) → Call (whole d)) → RCFTree → NodeStore → List (List Float) → List ℕ → RCFTree → NodeStore → List (List Float) → List ℕ → List ℕ → Type 0
Does x tree a points marks tree' a' points' marks' reply =
    (d c : ℕ) (s : Float) (W : World (whole d)) → State d c s W tree a points marks → Done d c s W (x d) tree' a' points' marks' reply

-- kind 8 asks for copies, 9 for a branch, 10 for a box
abbrev pub query_of : ℕ → ℕ → Query
query_of k x = cond (eqb k 8) (copies_of x) (cond (eqb k 9) (branch_of x) (box_of x))
