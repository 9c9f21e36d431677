-- What treelist prints for a text, for every list of bytes (document 01, 'Printed tree'), and how long it is at most. Definitions and a statement.
use Rattle.std.specs.Prelude.{cond, List, [], ◌∷◌, ◌++◌, ℕ, ◌+◌, ◌*◌, ◌≤◌, leb, length, Float, Result, Ok, Err}
use Rattle.cuttree.specs.Run.{World, Answer, refused, written, added, deleted, copies_are, branch_is, box_is, number_of, call, fresh}
use Rattle.wholetree.specs.Whole.{whole}
use Rattle.refusals.specs.declared.Refusal.{Refusal}
use Rattle.refusals.specs.declared.Refusal.TheVariants.{Channels}
use Rattle.refusals.specs.Refusals.{number}
use Rattle.randomcuttree.specs.declared.RCFTree.{RCFTree}
use Rattle.randomcuttree.specs.Making.{made_by}
use Rattle.form.specs.Rows.{Op}
use Rattle.form.specs.Making.{sixteenths_of}
use Rattle.form.specs.Form.{Parsed, bad, read, parsed}
use Rattle.lines.specs.Lines.{refused_line}
use Rattle.printed.specs.Printed.{printed_tree, tree_limit}
use Rattle.rowcalls.specs.Ops.{call_of}

-- 'A refused row prints `refused N R` before the list, R being the op row from 1'
abbrev pub told_row : (d : ℕ) → Answer (whole d) → ℕ → List ℕ
told_row d (refused r) n = refused_line (number_of r) n
told_row d written n = []
told_row d (added j m) n = []
told_row d (deleted j) n = []
told_row d (copies_are m) n = []
told_row d (branch_is r) n = []
told_row d (box_is b) n = []

-- the rows after n of them, each told if it is refused, 'and work goes on'; then the tree
module _ (d c : ℕ) where
  abbrev pub output_from : World (whole d) → ℕ → List Op → List ℕ
  output_from W n [] = printed_tree d c W.tree
  output_from W n (o ∷ os) = told_row d (call (whole d) c W (call_of d o)).0 (n + 1) ++ output_from (call (whole d) c W (call_of d o)).1 (n + 1) os

  -- 'A refused making prints only `refused N 0`.'
  abbrev pub output_by : Result RCFTree Refusal → List Op → List ℕ
  output_by (Err r) os = refused_line (number r) 0
  output_by (Ok t) os = output_from (fresh (whole d) c) 0 os

-- Request A.7: 'the printed-tree program keeps to 8' channels. A making of more is refused with 1, whatever else is wrong with it: 1 is tested first.
abbrev pub listed_by : ℕ → ℕ → Float → Result RCFTree Refusal
listed_by d c s = cond (leb d 8) (made_by d c s) (Err Channels)

-- 'a bad text prints only `refused 17 R` for its first bad row'
abbrev pub output_of : Parsed → List ℕ
output_of (bad r) = refused_line 17 r
output_of (read m os) = output_by m.channels m.capacity (listed_by m.channels m.capacity (sixteenths_of m.sixteenths)) os

abbrev pub output : List ℕ → List ℕ
output t = output_of (parsed t)

-- 143,937 bytes: a text has at most 8,180 op rows (`FewRows`), and a refused one prints at most 16 bytes
abbrev pub printed_limit : ℕ
printed_limit = 8180 * 16 + tree_limit

-- No text prints more; it is proved in proofs/Sizes.antt.
abbrev pub OutputFits : Type 0
OutputFits = (t : List ℕ) → length (output t) ≤ printed_limit
