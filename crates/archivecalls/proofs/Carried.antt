-- Each kind of row, carried out; and which row a line is, from what was read of it. Assumes nothing.
use mathlib.Core.Path.{◌≡◌, refl, sym, ap, ◌∙◌, subst}
use mathlib.Core.List.{List, [], ◌∷◌}
use Prim.Native.Nat.{ℕ}
use lib.Ieee.{Float}
use Rattle.cuttree.specs.Run as Bare
use Rattle.wholetree.specs.Whole.{whole}
use Rattle.wholetree.proofs.Laws.{whole_laws}
use Rattle.sampledtree.proofs.Keeps.{every_put}
use Rattle.treestore.specs.Arrays.{NodeStore}
use Rattle.randomcuttree.specs.declared.RCFTree.{RCFTree}
use Rattle.randomcuttree.specs.State.{State, header_of}
use Rattle.samplerplustree.specs.declared.SamplerPlusTree.{SamplerPlusTree}
use Rattle.samplerplustree.specs.State.{SomeSampled, sampler_of}
use Rattle.samplerplustree.proofs.Parts.{tree_state}
use Rattle.answers.specs.Said.{filled, reply_width}
use Rattle.calls.specs.Done.{Does}
use Rattle.nodeview.specs.Told.{SomeReportRead}
use Rattle.arrivals.specs.Arrived.{Arrives}
use Rattle.std.specs.Prelude.{Result, Err}
use Rattle.refusals.specs.declared.Refusal.{Refusal}
use Rattle.refusals.specs.declared.Refusal.TheVariants.{OutOfForm, PastStream}
use Rattle.refusals.specs.Refusals.{number}
use Rattle.archiverow.specs.declared.Line.{Line}
use Rattle.archiverow.specs.Rows.{ArchiveRow, puts, arrives, reports, beyond, out_of_form, row_of}
use Rattle.form.specs.Rows.{rest_at}
use Rattle.archiverow.specs.Read.{answer_at, read_line, line_says}
use Rattle.archiverow.proofs.Tells.{line_tells}
use Rattle.archivecalls.specs.Carried.{Carries, ReportDone}

-- ---- the row of a line
pub row_read : (line : List ℕ) (read : Result Line Refusal) → read ≡ read_line line → (q : Result Line Refusal) → read ≡ q → row_of line ≡ line_says line q
row_read line read e q f = sym (line_tells line) ∙ ap (line_says line) (sym e ∙ f)

-- ---- each kind of row, of the line's row
module _ (row : ArchiveRow) (h : SamplerPlusTree) (a : NodeStore) (points : List (List Float)) (marks : List ℕ) (weights : List Float) (held : List ℕ) (rows : List (List ℕ)) where
  -- a put moves the tree's table alone
  pub put_carried : (i : ℕ) (xs : List Float) (points' : List (List Float)) (marks' reply : List ℕ) → row ≡ puts i xs → Does (λ d. Bare.put i xs) h.tree a points marks h.tree a points' marks' reply
      → Carries row h a points marks weights held rows h a points' marks' weights held rows reply
  put_carried i xs points' marks' reply e does d s X S =
      let c = X.capacity in
      let D = does d c s X.world (tree_state S) in
      let W = (Bare.call (whole d) c X.world (Bare.put i xs)).1 in
      let header : header_of d c s X.world ≡ header_of d c s W = sym (ap (λ (y : SamplerPlusTree). y.tree) S.head_is) ∙ D.state.header_is in
      rw e (record {
        reply_is = D.reply_is;
        rows_are = refl;
        state = record {
          head_is = S.head_is ∙ ap (λ (t : RCFTree). record { tree = t; sampler = sampler_of c X.sample; initial_accept_fraction = X.initial }) header;
          tree_is = subst (λ (t : RCFTree). State d c s W t a points' marks') D.state.header_is D.state;
          weights_are = S.weights_are;
          held_are = S.held_are;
          agrees = every_put (whole d) (whole_laws d) X i xs S.agrees;
          initial_is = S.initial_is;
        };
      })

  pub arrival_carried : (i : ℕ) (w : Float) (x : ℕ) (ws : List ℕ) (h' : SamplerPlusTree) (a' : NodeStore) (weights' : List Float) (held' reply : List ℕ) → row ≡ arrives i w x ws → Arrives i w x ws h a points marks weights held h' a' weights' held' reply
      → Carries row h a points marks weights held rows h' a' points marks weights' held' rows reply
  arrival_carried i w x ws h' a' weights' held' reply e A d s X S = let D = A d s X S in rw e (record { reply_is = D.reply_is; rows_are = refl; state = D.state })

  -- a report, and a row that is refused as a whole: they leave all but the reply and a report's rows
  pub report_carried : (xs : List Float) (rows' : List (List ℕ)) (reply : List ℕ) → row ≡ reports xs → ReportDone h.tree a.nodes a.cuts a.copies points a.boxes xs rows rows' reply
      → Carries row h a points marks weights held rows h a points marks weights held rows' reply
  report_carried xs rows' reply e R d s X S =
      let D = R d X.capacity s X.world a marks (tree_state S) (record { nodes_are = refl; cuts_are = refl; copies_are = refl; boxes_are = refl }) in
      rw e (record { reply_is = D.reply_is; rows_are = D.rows_are; state = S })

  refused_carried : (row' : ArchiveRow) (k : ℕ) (r : Refusal) (reply : List ℕ) → row ≡ row' → answer_at k row' ≡ Err r → reply ≡ filled reply_width (number r ∷ []) → Carries row h a points marks weights held rows h a points marks weights held rows reply
  refused_carried (puts i xs) k r reply e q f = absurd (cc)
  refused_carried (arrives i w x ws) k r reply e q f = absurd (cc)
  refused_carried (reports xs) k r reply e q f = absurd (cc)
  refused_carried beyond k r reply e q f = λ d s X S. let z : PastStream ≡ r = cc in rw e (record { reply_is = f ∙ ap (λ (n : ℕ). filled reply_width (n ∷ [])) (sym (ap number z)); rows_are = refl; state = S })
  refused_carried out_of_form k r reply e q f = λ d s X S. let z : OutOfForm ≡ r = cc in rw e (record { reply_is = f ∙ ap (λ (n : ℕ). filled reply_width (n ∷ [])) (sym (ap number z)); rows_are = refl; state = S })

-- a row that is refused as a whole
pub refusal_carried : (line : List ℕ) (h : SamplerPlusTree) (a : NodeStore) (points : List (List Float)) (marks : List ℕ) (weights : List Float) (held : List ℕ) (rows : List (List ℕ)) (read : Result Line Refusal) → read ≡ read_line line → (r : Refusal) → read ≡ Err r
    → (reply : List ℕ) → reply ≡ filled reply_width (number r ∷ []) → Carries (row_of line) h a points marks weights held rows h a points marks weights held rows reply
unfolding read_line
refusal_carried line h a points marks weights held rows read e r f reply g = refused_carried (row_of line) h a points marks weights held rows (row_of line) (rest_at line) r reply refl (sym e ∙ f) g

-- ---- what a report asks of the lent state, and an arrival by the weight and the chance that are read
module _ (h : SamplerPlusTree) (a : NodeStore) (points : List (List Float)) (marks : List ℕ) (weights : List Float) (held : List ℕ) where
  pub readable : SomeSampled h a points marks weights held → SomeReportRead h.tree a.nodes a.cuts a.copies points a.boxes
  readable S = record {
    lent = a;
    marks = marks;
    read = record { nodes_are = refl; cuts_are = refl; copies_are = refl; boxes_are = refl };
    state = record { channels = S.channels; capacity = S.world.capacity; share = S.share; world = S.world.world; state = tree_state S.state };
  }

  pub arrival_read : (i : ℕ) (w w' : Float) (x x' : ℕ) (ws : List ℕ) (h' : SamplerPlusTree) (a' : NodeStore) (weights' : List Float) (held' reply : List ℕ) → w ≡ w' → x ≡ x' → Arrives i w x ws h a points marks weights held h' a' weights' held' reply
      → Arrives i w' x' ws h a points marks weights held h' a' weights' held' reply
  arrival_read i w w' x x' ws h' a' weights' held' reply e f A = rw (← e, ← f) A
