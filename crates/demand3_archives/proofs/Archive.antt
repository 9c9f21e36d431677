-- What an archive prints is as demand 3 says: the answers of its rows, and the sample and the tree at its end. Assumes nothing.
use mathlib.Core.Path.{◌≡◌, refl, ap, ap₂, ◌∙◌}
use mathlib.Core.Bool.{true}
use mathlib.Core.Option.{none, some}
use mathlib.Core.List.{List, [], ◌∷◌, ◌++◌}
use Prim.Native.Nat.{ℕ, ◌+◌}
use lib.Ieee.{Float}
use Rattle.cuttree.specs.Run as Bare
use Rattle.cuttree.specs.Counts.{Counts, nothing}
use Rattle.cuttree.specs.Graph.{View}
use Rattle.cuttree.specs.Demand3.{view_of}
use Rattle.cuttree.proofs.Refused.{by_put}
use Rattle.wholetree.specs.Whole.{whole}
use Rattle.sampledtree.specs.Sampled.{Sampled, SampledAnswer, plain as bare, not_accepted, accepted, fresh, arrive, call}
use Rattle.pointstore.specs.Refusals.{same_number}
use Rattle.pointstore.specs.Puts.{put_says}
use Rattle.samplerplustree.specs.declared.SamplerPlusTree.{SamplerPlusTree}
use Rattle.samplerplustree.specs.State.{head_of}
use Rattle.samplerplustree.specs.Updates.{update_says}
use Rattle.form.specs.Making.{sixteenths_of}
use Rattle.lines.specs.Lines.{refused_line}
use Rattle.demand3.specs.Answered.{ArrivalClaim, SameTree}
use Rattle.runlayout.proofs.OfKind.{AllOfKind}
use Rattle.treelist_text.specs.Output.{told_row}
use Rattle.archiverow.specs.Rows.{ArchiveRow, puts, arrives, reports, beyond, out_of_form}
use Rattle.archivecalls.specs.Carried.{out_number, beyond_number, row_leaves, report_to}
use Rattle.archiveend.specs.End.{entry_lines, sample_names, end_lines}
use Rattle.regrow_line.specs.Answered.{put_lines, arrival_lines, lines_of_report}
use Rattle.regrow_line.specs.Archive.{rows_of, rows_leave, printed}
use Rattle.demand3_outputs.specs.Run.{RunAnswered}
use Rattle.demand3_outputs.proofs.Made.{taken_sampled}
use Rattle.demand3_outputs.proofs.Run.{answers_to, left_by, sample_kept, runs_fresh}
use Rattle.demand3_outputs.proofs.Text.{lines_in, printed_is, listing_of}
use Rattle.demand3_archives.specs.Archive.{calls_in, arrival_told, rows_told, AtEnd, ArchivesAnswer}

module _ (d : ℕ) where
  -- rows have no add and no delete
  all_sampled : (rows : List ArchiveRow) → AllOfKind true (calls_in d rows)
  all_sampled [] = tt
  all_sampled (puts i xs ∷ rows) = (tt, all_sampled rows)
  all_sampled (arrives i w x ws ∷ rows) = (refl, all_sampled rows)
  all_sampled (reports xs ∷ rows) = (tt, all_sampled rows)
  all_sampled (beyond ∷ rows) = all_sampled rows
  all_sampled (out_of_form ∷ rows) = all_sampled rows

  -- they leave what their calls leave
  rows_leave_lem : (s : Float) (X : Sampled (whole d)) (rows : List ArchiveRow) → rows_leave d X rows ≡ left_by d s X (calls_in d rows)
  rows_leave_lem s X [] = refl
  rows_leave_lem s X (puts i xs ∷ rows) = rows_leave_lem s (row_leaves d X (puts i xs)) rows
  rows_leave_lem s X (arrives i w x ws ∷ rows) = rows_leave_lem s (row_leaves d X (arrives i w x ws)) rows
  rows_leave_lem s X (reports xs ∷ rows) = rows_leave_lem s X rows
  rows_leave_lem s X (beyond ∷ rows) = rows_leave_lem s X rows
  rows_leave_lem s X (out_of_form ∷ rows) = rows_leave_lem s X rows

-- Answers that are as demand 3 says are told: a put is done or refused, and an arrival's plain answer is a refusal.
module _ (d c : ℕ) (s : Float) where
  put_told : (X : Sampled (whole d)) (i : ℕ) (xs : List Float) (r : ℕ)
      → put_lines (put_says d (Bare.call (whole d) X.capacity X.world (Bare.put i xs)).0) r ≡ told_row d (Bare.call (whole d) X.capacity X.world (Bare.put i xs)).0 r
  put_told X i xs r = by_put (whole d) X.capacity (λ x. put_lines (put_says d x.0) r ≡ told_row d x.0 r) X.world (λ m. ap (λ (n : ℕ). refused_line n r) (same_number m)) i xs (λ U _. refl)

  arrival_told_lem : (h : SamplerPlusTree) (G : View (whole d)) (P : View (whole d) → Type 0) (Q : List (Bare.Call (whole d)) → List (Bare.Answer (whole d)) → Type 0) (K : Counts (whole d)) (i : ℕ) (ws : List ℕ) (r : ℕ) (o : SampledAnswer (whole d)) → ArrivalClaim d c G P Q K i ws o
      → arrival_lines (update_says d h o) r ≡ arrival_told d o r
  arrival_told_lem h G P Q K i ws r (bare a) ((x, e), q) = rw e (ap (λ (n : ℕ). refused_line n r) (same_number x))
  arrival_told_lem h G P Q K i ws r not_accepted q = refl
  arrival_told_lem h G P Q K i ws r (accepted j none) A = refl
  arrival_told_lem h G P Q K i ws r (accepted j (some e)) A = refl

  module _ (P : View (whole d) → Counts (whole d) → Type 0) where
    rows_told_lem : (X : Sampled (whole d)) (r : ℕ) (G : View (whole d)) (K : Counts (whole d)) (rows : List ArchiveRow) → RunAnswered d c P G K (calls_in d rows) (answers_to d s X (calls_in d rows))
        → printed d s X r rows ≡ rows_told d r rows (answers_to d s X (calls_in d rows))
    rows_told_lem X r G K [] A = refl
    rows_told_lem X r G K (puts i xs ∷ rows) (S, (H, C, A)) = ap₂ ◌++◌ (put_told X i xs r) (rows_told_lem (row_leaves d X (puts i xs)) (r + 1) H _ rows A)
    rows_told_lem X r G K (arrives i w x ws ∷ rows) (S, (H, C, A)) =
        let (o, Y) = call (whole d) X (arrive i w x ws) in
        ap₂ ◌++◌ (arrival_told_lem (head_of d s Y) G (λ I. SameTree d c I H) (λ ks bs. Unit {0}) K i ws r o C) (rows_told_lem Y (r + 1) H _ rows A)
    rows_told_lem X r G K (reports xs ∷ rows) (S, (H, C, A)) = ap (λ (l : List ℕ). lines_of_report (report_to d X xs) r ++ l) (rows_told_lem X (r + 1) H _ rows A)
    rows_told_lem X r G K (beyond ∷ rows) A = ap (λ (l : List ℕ). refused_line beyond_number r ++ l) (rows_told_lem X (r + 1) G K rows A)
    rows_told_lem X r G K (out_of_form ∷ rows) A = ap (λ (l : List ℕ). refused_line out_number r ++ l) (rows_told_lem X (r + 1) G K rows A)

pub archives_answer : ArchivesAnswer
archives_answer line m h L M lines =
    let d = m.channels in
    let c = m.capacity in
    let s = sixteenths_of m.cached in
    let f = sixteenths_of m.initial in
    let X = fresh (whole d) c f in
    let rows = rows_of lines in
    let (room, small) = taken_sampled d c s f h M in
    let R = runs_fresh d c s true f room small (calls_in d rows) (all_sampled d rows) in
    let W = R.world in
    let ks = R.entries in
    let A = R.answered (AtEnd d c ks (lines_in d c W.tree)) (sample_kept d c s true f W ks R.counts R.kept refl, listing_of d c W.table W.free R.counts W.tree R.kept.counts) in
    record {
      first = view_of (whole d) c (Bare.fresh (whole d) c) (nothing (whole d));
      answers = answers_to d s X (calls_in d rows);
      entries = ks;
      listing = lines_in d c W.tree;
      answered = A;
      rows_are = rows_told_lem d c s (AtEnd d c ks (lines_in d c W.tree)) X 1 _ (nothing (whole d)) rows A;
      end_is = ap (end_lines d) (rows_leave_lem d s X rows ∙ R.leaves) ∙ ap (λ (l : List ℕ). sample_names ++ entry_lines ks ++ l) (printed_is d c W.tree);
    }
