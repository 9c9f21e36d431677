-- DEMAND 3 of an archive, of the code: for every list of parts in which its lines come, each carried out as the contract of `carry_lines` ensures it, from an accepted
-- making and an unwritten table.
use Rattle.std.specs.Prelude.{◌≡◌, true, List, [], ◌∷◌, ◌++◌, ℕ, ◌+◌, ◌≤◌, length, take, replicate, Float, Ok}
use Rattle.std.proofs.Math.Option.{some}
use Rattle.limits.specs.Limits.{point_limit}
use Rattle.wholetree.specs.Whole.{whole}
use Rattle.sampledtree.specs.Sampled.{fresh}
use Rattle.layout.specs.Layout.{no_ends}
use Rattle.pointstore.specs.declared.PointStore.{PointStore}
use Rattle.samplerplustree.specs.declared.SamplerPlusTree.{SamplerPlusTree}
use Rattle.samplerplustree.specs.State.{SomeSampled}
use Rattle.form.specs.Making.{sixteenths_of}
use Rattle.lines.specs.Lines.{names_line, Wrote}
use Rattle.archivehead.specs.Head.{ArchiveMaking, making_of_line}
use Rattle.archivemaking.specs.Makes.{Room, MadeBy}
use Rattle.archiveend.specs.End.{entry_lines, sample_names}
use Rattle.archiveend.specs.Prints.{PrintsEnd}
use Rattle.regrow_line.specs.Archive.{rows_of, rows_leave}
use Rattle.regrow_lines.specs.declared.Batch.{Batch}
use Rattle.regrow_lines.specs.Batch.{lines_in, ended, TextCarries}
use Rattle.demand3_archives.specs.Archive.{rows_told, RowsAnswered}

-- ---- the steps
-- What a caller keeps from part to part: what was answered last, which has the header, the number of the next op row and whether the lines go on; what is lent for
-- tree and sample; and the table.
pub record Kept : Type 0 where
  pub batch : Batch
  pub room : Room
  pub table : PointStore

-- a tree that is made, before op row 1, and a table with nothing written
abbrev pub started : SamplerPlusTree → Room → Kept
started h room = record {
  batch = record { tree = h; read = 0; number = 1; end = 0; goes_on = true };
  room = room;
  table = record { points = replicate point_limit no_ends; written = replicate point_limit 0 };
}

-- a part of an archive: what of its text has come and is not carried out, and what is lent for it, rows for reports and a buffer for the answers
pub record Part : Type 0 where
  pub text : List ℕ
  pub rows : List (List ℕ)
  pub out : List ℕ

-- A part that is carried out on x and leaves y, these rows and this buffer, exactly as the contract of `carry_lines` ensures it. There is none where the lines do not
-- go on.
pub record PartStep (x : Kept) (p : Part) (y : Kept) (rows : List (List ℕ)) (out : List ℕ) : Type 0 where
  pub on : x.batch.goes_on ≡ true
  pub carries : TextCarries p.text x.batch.number
      x.batch.tree x.room.arrays x.table.points x.table.written x.room.weights x.room.held p.rows p.out
      y.batch y.room.arrays y.table.points y.table.written y.room.weights y.room.held rows out
  pub fits : (y.batch.read ≤ length p.text) × (y.batch.number ≤ x.batch.number + y.batch.read) × (y.batch.end ≤ length p.out)

-- whatever `print_end` writes of x as its contract ensures it, to whichever buffer and from whichever place on, is these bytes
abbrev pub EndWrites : Kept → List ℕ → Type 0
EndWrites x bytes = (at : ℕ) (before : List ℕ) (place : ℕ) (after : List ℕ)
    → PrintsEnd x.batch.tree x.room.arrays.nodes x.room.arrays.cuts x.room.arrays.copies x.room.weights x.room.held at before place after
    → Wrote before at bytes place after

-- ---- the claim
-- d channels, capacity c, cached share s, initial share f
module _ (d c : ℕ) (s f : Float) where
  -- After the lines ls, of which the bytes bs are told: x is a state as `carry_lines` and `print_end` ask for. There are answers to all rows so far that are as demand 3
  -- says, and they are the bytes told; what is printed if the archive ends here is the entries and the last tree of the same answers.
  pub record LinesAnswered (x : Kept) (ls : List (List ℕ)) (bs : List ℕ) : Type 0 where
    pub stands : SomeSampled x.batch.tree x.room.arrays x.table.points x.table.written x.room.weights x.room.held
    pub rows : RowsAnswered d c s f (rows_of ls)
    pub told : bs ≡ rows_told d 1 (rows_of ls) rows.answers
    pub end : EndWrites x (sample_names ++ entry_lines rows.entries ++ (names_line ++ rows.listing))

  -- the lines of a part that are carried out, after the lines ls
  abbrev pub lines_now : Kept → List (List ℕ) → Part → List (List ℕ)
  lines_now x ls p = lines_in d s (length p.out) (rows_leave d (fresh (whole d) c f) (rows_of ls)) x.batch.number p.text

  -- Before each part and after the last; and of each part, whatever the contract lets `carry_lines` answer and leave. Its lines, with their line feeds, are the bytes of
  -- its text that are read, and the first `end` bytes of its buffer are told.
  abbrev pub Holds : Kept → List (List ℕ) → List ℕ → List Part → Type 0
  Holds x ls bs [] = LinesAnswered x ls bs
  Holds x ls bs (p ∷ ps) = LinesAnswered x ls bs × ((y : Kept) (rows : List (List ℕ)) (out : List ℕ) → PartStep x p y rows out
      → (take y.batch.read p.text ≡ ended (lines_now x ls p)) × Holds y (ls ++ lines_now x ls p) (bs ++ take y.batch.end out) ps)

-- For every line of which `make` gives a tree, as its contract ensures it: the line is in form; and for every list of parts, on that tree, before any line and any byte
-- told.
abbrev pub ArchivesAnswerOfCode : Type 0
ArchivesAnswerOfCode = (line : List ℕ) (before after : Room) (h : SamplerPlusTree) → MadeBy (making_of_line line) before after (Ok h)
    → (m : ArchiveMaking) × (making_of_line line ≡ some m) × ((ps : List Part) → Holds m.channels m.capacity (sixteenths_of m.cached) (sixteenths_of m.initial) (started h after) [] [] ps)
