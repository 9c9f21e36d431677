-- Demand 3 of what `treelist` prints: of the op rows' refusals, and of the tree in its lines. Definitions and the statement.
use Rattle.std.specs.Prelude.{◌≡◌, ◌⊎◌, List, [], ◌∷◌, ◌++◌, map, ℕ, ◌+◌, Ok}
use Rattle.std.specs.Float.{binary32}
use Rattle.std.specs.Float.Ieee.{to_bits}
use Rattle.cuttree.specs.Run.{Answer, Row}
use Rattle.cuttree.specs.Counts.{nothing}
use Rattle.cuttree.specs.Graph.{View, IsLeaf, IsBranch, IsNode, IsRoot}
use Rattle.wholetree.specs.Whole.{whole}
use Rattle.randomcuttree.specs.declared.RCFTree.{RCFTree}
use Rattle.form.specs.Rows.{Op}
use Rattle.form.specs.Making.{Making, sixteenths_of}
use Rattle.form.specs.Form.{read, parsed}
use Rattle.lines.specs.Lines.{branch_line, leaf_line, names_line}
use Rattle.rowcalls.specs.Ops.{call_of}
use Rattle.treelist_text.specs.Output.{told_row, output, listed_by}
use Rattle.demand3.specs.Answered.{Answered}

-- a tree of d channels
module _ (d : ℕ) where
  -- the lines of the nodes that the queries give, from the node x on: 'branch before left before right'
  pub data LinesFrom (G : View (whole d)) : ℕ → List ℕ → Type 0 where
    leaf_lines : {x n : ℕ} → IsLeaf (whole d) G x n → LinesFrom G x (leaf_line x n)
    branch_lines : {x : ℕ} {ls rs : List ℕ} (r : Row (whole d)) → IsBranch (whole d) G x r → LinesFrom G r.left ls → LinesFrom G r.right rs
        → LinesFrom G x (branch_line x r.cut.channel (to_bits binary32 r.cut.value.value) r.left r.right r.mass ++ ls ++ rs)

  -- the lines from the root on; none where there is no node
  abbrev pub Listing : List ℕ → View (whole d) → Type 0
  Listing lines G = (((x : ℕ) → IsNode (whole d) G x → ⊥) × (lines ≡ [])) ⊎ ((x : ℕ) × IsRoot (whole d) G x × LinesFrom G x lines)

  -- the lines of the refused rows, after n of them
  abbrev pub told_rows : ℕ → List (Answer (whole d)) → List ℕ
  told_rows n [] = []
  told_rows n (a ∷ as') = told_row d a (n + 1) ++ told_rows (n + 1) as'

-- For every text in form whose making is accepted there are answers to its op rows that are as demand 3 says; the refused ones are told,
-- then the names, then the last tree in its lines. `output` is what the text's promise ensures.
abbrev pub TextsAnswer : Type 0
TextsAnswer = (text : List ℕ) (m : Making) (os : List Op) (tree : RCFTree) → parsed text ≡ read m os → listed_by m.channels m.capacity (sixteenths_of m.sixteenths) ≡ Ok tree
    → (as' : List (Answer (whole m.channels))) × (lines : List ℕ) × (G : View (whole m.channels))
    × Answered m.channels m.capacity (Listing m.channels lines) G (nothing (whole m.channels)) (map (call_of m.channels) os) as'
    × (output text ≡ told_rows m.channels 0 as' ++ (names_line ++ lines))
