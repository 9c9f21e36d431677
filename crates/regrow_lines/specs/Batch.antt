-- The lines of a text that are carried out at one go, and what they print and leave, for every text: an archive is read as it comes, a part at a time. Definitions
-- and statements.
use Rattle.std.specs.Prelude.{◌≡◌, refl, Bool, true, false, cond, List, [], ◌∷◌, ◌++◌, ℕ, ◌+◌, ltb, length, drop, Float}
use Rattle.text.specs.Quoted.{bytes}
use Rattle.text.specs.Pieces.{pieces}
use Rattle.wholetree.specs.Whole.{whole}
use Rattle.sampledtree.specs.Sampled.{Sampled}
use Rattle.treestore.specs.Arrays.{NodeStore}
use Rattle.samplerplustree.specs.declared.SamplerPlusTree.{SamplerPlusTree}
use Rattle.samplerplustree.specs.State.{SampledState}
use Rattle.lines.specs.Lines.{Wrote}
use Rattle.archiverow.specs.Rows.{ArchiveRow, row_of}
use Rattle.archivecalls.specs.Carried.{rows_left, row_leaves}
use Rattle.archivelines.specs.Answers.{answer_limit}
use Rattle.regrow_line.specs.Answered.{answered, in_form}
use Rattle.regrow_line.specs.Archive.{rows_of, rows_leave, printed}
use Rattle.regrow_lines.specs.declared.Batch.{Batch}

-- ---- which lines
-- Of the pieces between a text's line feeds, the last of which is no line yet: each is carried out while the buffer of `size` bytes, e of them written, has room for
-- any answer; and none after a row out of form.
module _ (d : ℕ) (s : Float) (size : ℕ) where
  unfoldable pub lines_from : Sampled (whole d) → (r e : ℕ) → List (List ℕ) → List (List ℕ)
  lines_from X r e [] = []
  lines_from X r e (l ∷ []) = []
  lines_from X r e (l ∷ m ∷ ps) =
      cond (ltb size (e + answer_limit)) []
      (l ∷ cond (in_form (row_of l)) (lines_from (row_leaves d X (row_of l)) (r + 1) (e + length (answered d s X (row_of l) r)) (m ∷ ps)) [])

  -- THE LINES of a text that are carried out of X, the first as row r. 10 is the line feed.
  abbrev pub lines_in : Sampled (whole d) → ℕ → List ℕ → List (List ℕ)
  lines_in X r text = lines_from X r 0 (pieces 10 text)

-- lines as they stand in a text, each with its line feed
abbrev pub ended : List (List ℕ) → List ℕ
ended [] = []
ended (l ∷ ls) = l ++ 10 ∷ ended ls

two_lines : ended (bytes "0 7 5" ∷ bytes "4 - 8" ∷ []) ≡ bytes "0 7 5\n4 - 8\n"
two_lines = refl

-- whether all lines are rows in form
abbrev pub all_in_form : List (List ℕ) → Bool
all_in_form [] = true
all_in_form (l ∷ ls) = cond (in_form (row_of l)) (all_in_form ls) false

-- the lent rows after rows, each leaving them as it does
abbrev pub reports_left : (d : ℕ) → Sampled (whole d) → List ArchiveRow → List (List ℕ) → List (List ℕ)
reports_left d X [] lent = lent
reports_left d X (row ∷ rows) lent = reports_left d (row_leaves d X row) rows (rows_left d X row lent)

-- ---- what is answered and left
-- of X by the lines ls, the first of them row r: their answers from the buffer's front, and header, arrays, table, sample and lent rows after them
pub record LinesDone (d : ℕ) (s : Float) (X : Sampled (whole d)) (ls : List (List ℕ)) (r : ℕ) (rows : List (List ℕ)) (out : List ℕ) (batch : Batch) (a : NodeStore) (points : List (List Float)) (marks : List ℕ) (weights : List Float) (held : List ℕ) (rows' : List (List ℕ)) (out' : List ℕ) : Type 0 where
  pub wrote : Wrote out 0 (printed d s X r (rows_of ls)) batch.end out'
  pub on : batch.goes_on ≡ all_in_form ls
  pub number_is : batch.number ≡ r + length ls
  pub read_is : batch.read ≡ length (ended ls)
  pub rows_are : rows' ≡ reports_left d X (rows_of ls) rows
  pub state : SampledState d s (rows_leave d X (rows_of ls)) batch.tree a points marks weights held

-- A text, whichever sampled tree's the lent state is: header, arrays, table, sample, lent rows and buffer before it, then after it.
abbrev pub TextCarries : List ℕ → ℕ → SamplerPlusTree → NodeStore → List (List Float) → List ℕ → List Float → List ℕ → List (List ℕ) → List ℕ → Batch → NodeStore → List (List Float) → List ℕ → List Float → List ℕ → List (List ℕ) → List ℕ → Type 0
TextCarries text r h a points marks weights held rows out batch a' points' marks' weights' held' rows' out' =
    (d : ℕ) (s : Float) (X : Sampled (whole d)) → SampledState d s X h a points marks weights held
    → LinesDone d s X (lines_in d s (length out) X r text) r rows out batch a' points' marks' weights' held' rows' out'

-- ---- in parts as in one
-- An archive that is carried out in parts prints and leaves what it does as one list of lines: the lines ls, all in form, and then ms; and nothing after a row out
-- of form. Proved in proofs/Joins.antt.
abbrev pub InParts : Type 0
InParts = (d : ℕ) (s : Float) (X : Sampled (whole d)) (r : ℕ) (ls ms : List (List ℕ)) → all_in_form ls ≡ true
    → (printed d s X r (rows_of (ls ++ ms)) ≡ printed d s X r (rows_of ls) ++ printed d s (rows_leave d X (rows_of ls)) (r + length ls) (rows_of ms))
    × (rows_leave d X (rows_of (ls ++ ms)) ≡ rows_leave d (rows_leave d X (rows_of ls)) (rows_of ms))

abbrev pub EndsAll : Type 0
EndsAll = (ls ms : List (List ℕ)) → all_in_form ls ≡ false → rows_of (ls ++ ms) ≡ rows_of ls

-- A text begins with the lines that are carried out, each with its line feed; these and the lines of what is left are those of the text. Proved in
-- proofs/Parts.antt.
abbrev pub TextIs : Type 0
TextIs = (d : ℕ) (s : Float) (size : ℕ) (X : Sampled (whole d)) (r : ℕ) (text : List ℕ)
    → let ls = lines_in d s size X r text in (text ≡ ended ls ++ drop (length (ended ls)) text) × (pieces 10 text ≡ ls ++ pieces 10 (drop (length (ended ls)) text))
