-- How far treelist has come with a text: what its steps are told and leave. Definitions.
use Rattle.std.specs.Prelude.{◌≡◌, List, ℕ, Float}
use Rattle.text.specs.Pieces.{pieces_from}
use Rattle.cuttree.specs.Run.{World}
use Rattle.wholetree.specs.Whole.{whole}
use Rattle.randomcuttree.specs.declared.RCFTree.{RCFTree}
use Rattle.treestore.specs.Arrays.{NodeStore}
use Rattle.randomcuttree.specs.State.{State}
use Rattle.form.specs.Rows.{Op}
use Rattle.form.specs.Making.{Making}
use Rattle.form.specs.Form.{op_rows, rows_from, read, parsed}

-- a text in form: its making and its op rows
pub record InForm (text : List ℕ) : Type 0 where
  pub making : Making
  pub ops : List Op
  pub is : parsed text ≡ read making ops

-- the lines from a place on are op rows
pub record HasRows (text : List ℕ) (at : ℕ) : Type 0 where
  pub ops : List Op
  pub rest : rows_from 0 (pieces_from 10 text at) ≡ op_rows ops

-- At that place of the text, after n op rows: the lent state is the world W's, and the op rows left are os.
pub record Standing (d c : ℕ) (s : Float) (W : World (whole d)) (os : List Op) (text : List ℕ) (at n : ℕ) (tree : RCFTree) (a : NodeStore) (points : List (List Float)) (marks : List ℕ) : Type 0 where
  pub state : State d c s W tree a points marks
  pub rest : rows_from n (pieces_from 10 text at) ≡ op_rows os

-- what a step asks: that there are such a world and such rows
pub record SomeStanding (text : List ℕ) (at n : ℕ) (tree : RCFTree) (a : NodeStore) (points : List (List Float)) (marks : List ℕ) : Type 0 where
  pub channels : ℕ
  pub capacity : ℕ
  pub share : Float
  pub world : World (whole channels)
  pub ops : List Op
  pub standing : Standing channels capacity share world ops text at n tree a points marks
