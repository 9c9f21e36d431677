-- What the code answers and prints of an archive, part by part, is as demand 3 says. Assumes nothing.
use mathlib.Core.Path.{◌≡◌, refl, sym, ap, ap₂, ◌∙◌}
use mathlib.Core.Bool.{true}
use mathlib.Core.Option.{Option, none, some}
use mathlib.Core.List.{List, [], ◌∷◌, ◌++◌}
use Prim.Native.Nat.{ℕ, ◌+◌, ◌≤◌}
use native.Mathlib.Omega.{arith}
use lib.Ieee.{Float}
use lib.ListN.{length, take, length-append}
use lib.Seq.{sets-eq, take_at}
use Rattle.std.specs.Prelude.{Ok}
use Rattle.wholetree.specs.Whole.{whole}
use Rattle.sampledtree.specs.Sampled.{Sampled, fresh}
use Rattle.pointstore.proofs.Empty.{unwritten}
use Rattle.samplerplustree.specs.declared.SamplerPlusTree.{SamplerPlusTree}
use Rattle.samplerplustree.specs.State.{SampledState}
use Rattle.form.specs.Making.{sixteenths_of}
use Rattle.lines.specs.Lines.{Wrote}
use Rattle.archivehead.specs.Head.{ArchiveMaking, making_of_line}
use Rattle.archivemaking.specs.Makes.{Room, MadeBy}
use Rattle.regrow_line.specs.Archive.{rows_of, rows_leave, printed}
use Rattle.regrow_lines.specs.Batch.{ended, all_in_form}
use Rattle.regrow_lines.proofs.Joins.{in_parts, form_both}
use Rattle.regrow_lines.proofs.Parts.{text_is}
use Rattle.demand3_archives.specs.Archive.{RowsAnswered}
use Rattle.demand3_archives.specs.OfCode.{Kept, started, Part, LinesAnswered, lines_now, Holds, ArchivesAnswerOfCode}
use Rattle.demand3_archives.proofs.Archive.{archives_answer}

-- bytes that have room are read back from the buffer's front
read_back : {before bytes : List ℕ} {place : ℕ} {after : List ℕ} → Wrote before 0 bytes place after → place ≤ length before → take place after ≡ bytes
read_back {before} {bytes} {place} w h = ap (take place) (w.left ∙ sets-eq bytes before 0 (omega (arith, w.next))) ∙ take_at bytes _ place (omega (arith, w.next))

module _ (d c : ℕ) (s f : Float) (answers : (lines : List (List ℕ)) → RowsAnswered d c s f (rows_of lines)) where
  abbrev start : Sampled (whole d)
  start = fresh (whole d) c f

  -- the lines ls are carried out: what is kept is what they leave of the tree that was made, and the bytes bs are what they print
  record Grown (x : Kept) (ls : List (List ℕ)) (bs : List ℕ) : Type 0 where
    on : x.batch.goes_on ≡ all_in_form ls
    counted : x.batch.number ≡ 1 + length ls
    told : bs ≡ printed d s start 1 (rows_of ls)
    state : SampledState d s (rows_leave d start (rows_of ls)) x.batch.tree x.room.arrays x.table.points x.table.written x.room.weights x.room.held

  so_far : {x : Kept} {ls : List (List ℕ)} {bs : List ℕ} → Grown x ls bs → LinesAnswered d c s f x ls bs
  so_far {ls = ls} G = record {
    stands = record { channels = d; share = s; world = _; state = G.state };
    rows = answers ls;
    told = G.told ∙ (answers ls).rows_are;
    end = λ at before place after P. rw (← (answers ls).end_is) (P d s _ _ _ _ G.state (record { nodes_are = refl; cuts_are = refl; copies_are = refl }));
  }

  holds : (x : Kept) (ls : List (List ℕ)) (bs : List ℕ) → Grown x ls bs → (ps : List Part) → Holds d c s f x ls bs ps
  holds x ls bs G [] = so_far G
  holds x ls bs G (p ∷ ps) = (
    so_far G,
    λ y rows out S.
        let now = lines_now d c s f x ls p in
        let L = S.carries d s _ G.state in
        let good : all_in_form ls ≡ true = sym G.on ∙ S.on in
        let J = in_parts d s start 1 ls now good in
        let read = ap (take y.batch.read) (text_is d s _ _ _ p.text).0 ∙ take_at (ended now) _ y.batch.read (sym L.read_is) in
        let H : Grown y (ls ++ now) (bs ++ take y.batch.end out) = record {
          on = L.on ∙ sym (form_both ls now good);
          counted = rw length-append (omega (arith, L.number_is, G.counted));
          told = ap₂ ◌++◌ G.told (read_back L.wrote S.fits.2 ∙ ap (λ (r : ℕ). printed d s (rows_leave d start (rows_of ls)) r (rows_of now)) G.counted) ∙ sym J.0;
          state = rw J.1 L.state;
        } in
        (read, holds y _ _ H ps),
  )

-- a line whose making gives a tree is in form
in_form_lem : (o : Option ArchiveMaking) (before after : Room) (h : SamplerPlusTree) → MadeBy o before after (Ok h) → (m : ArchiveMaking) × (o ≡ some m)
in_form_lem none before after h M = let z : ◌≡◌ {A = ℕ} 0 1 = cc in absurd (omega arith)
in_form_lem (some m) before after h M = (m, refl)

pub archives_answer_of_code : ArchivesAnswerOfCode
unfolding rows_of
archives_answer_of_code line before after h M =
    let (m, e) = in_form_lem (making_of_line line) before after h M in
    let N : MadeBy (some m) before after (Ok h) = rw e at M in
    let S = N.state h refl _ _ (unwritten _ _ refl refl) in
    (m, e, holds m.channels m.capacity (sixteenths_of m.cached) (sixteenths_of m.initial) (archives_answer line m h e (sym N.answer)) (started h after) [] [] (record { on = refl; counted = refl; told = refl; state = S }))
