-- The lines of a text from one to the next, and where they stop. Laws.
use mathlib.Core.Path.{◌≡◌, refl, sym, ap, ◌∙◌}
use mathlib.Core.Bool.{Bool, true, false, cond}
use mathlib.Core.List.{List, [], ◌∷◌, ◌++◌, append_assoc, append-nil}
use Prim.Native.Nat.{ℕ, ◌+◌, ◌-◌, ◌≤◌, ◌<◌}
use native.Mathlib.Omega.{arith}
use borrow.Author.Tests.{lt-ltb, le-ltb}
use lib.Ieee.{Float}
use lib.ListN.{length, take, drop, length-append, length-take, length-drop}
use Rattle.text.specs.Pieces.{pieces_from, PieceEnds}
use Rattle.text.proofs.Pieces.{from_zero, from_first, from_past, from_some}
use Rattle.wholetree.specs.Whole.{whole}
use Rattle.sampledtree.specs.Sampled.{Sampled}
use Rattle.treestore.specs.Arrays.{NodeStore}
use Rattle.samplerplustree.specs.declared.SamplerPlusTree.{SamplerPlusTree}
use Rattle.samplerplustree.specs.State.{SampledState, SomeSampled}
use Rattle.lines.proofs.Writes.{then}
use Rattle.archiverow.specs.Rows.{row_of}
use Rattle.archivecalls.specs.Carried.{row_leaves}
use Rattle.archivelines.specs.Answers.{answer_limit}
use Rattle.regrow_line.specs.declared.Done.{Done}
use Rattle.regrow_line.specs.Answered.{answered, in_form, LineDone}
use Rattle.regrow_line.specs.Archive.{rows_of, rows_leave}
use Rattle.regrow_lines.specs.declared.Batch.{Batch}
use Rattle.regrow_lines.specs.Batch.{lines_from, lines_in, all_in_form, LinesDone}
use Rattle.regrow_lines.proofs.Joins.{reports_both, rows_both, form_both, ended_both, in_parts}

-- ---- one line
row_alone : (l : List ℕ) → rows_of (l ∷ []) ≡ row_of l ∷ []
unfolding rows_of
row_alone l = go (in_form (row_of l))
  where
    go : (b : Bool) → row_of l ∷ cond b [] [] ≡ row_of l ∷ []
    go true = refl
    go false = refl

form_alone : (l : List ℕ) → all_in_form (l ∷ []) ≡ in_form (row_of l)
form_alone l = go (in_form (row_of l))
  where
    go : (b : Bool) → cond b true false ≡ b
    go true = refl
    go false = refl

-- ---- which lines are left: none without room, none without a line feed, else the next
module _ (d : ℕ) (s : Float) (size : ℕ) (X : Sampled (whole d)) (r e : ℕ) where
  no_room : (ps : List (List ℕ)) → size < e + answer_limit → lines_from d s size X r e ps ≡ []
  unfolding lines_from
  no_room [] h = refl
  no_room (l ∷ []) h = refl
  no_room (l ∷ m ∷ ps) h = rw (lt-ltb _ _ h)

  no_feed : (l : List ℕ) (ps : List (List ℕ)) → ps ≡ [] → lines_from d s size X r e (l ∷ ps) ≡ []
  unfolding lines_from
  no_feed l ps z = rw z

  next_line : (l : List ℕ) (ps : List (List ℕ)) → (length ps ≡ 0 → ⊥) → e + answer_limit ≤ size
      → lines_from d s size X r e (l ∷ ps) ≡ l ∷ cond (in_form (row_of l)) (lines_from d s size (row_leaves d X (row_of l)) (r + 1) (e + length (answered d s X (row_of l) r)) ps) []
  unfolding lines_from
  next_line l [] n h = absurd (n refl)
  next_line l (m ∷ ps) n h = rw (le-ltb _ _ h)

-- ---- lines carried out, and one more
module _ {d : ℕ} {s : Float} {X : Sampled (whole d)} {ls : List (List ℕ)} {r : ℕ} {rows₀ : List (List ℕ)} {out₀ : List ℕ} {b : Batch} {a : NodeStore} {points : List (List Float)} {marks : List ℕ} {weights : List Float} {held : List ℕ} {rows : List (List ℕ)} {out : List ℕ}
    (D : LinesDone d s X ls r rows₀ out₀ b a points marks weights held rows out) (h : all_in_form ls ≡ true) where
  pub one_more : (l : List ℕ) {n e : ℕ} → n ≡ b.number → e ≡ b.end → {x : Done} {a' : NodeStore} {points' : List (List Float)} {marks' : List ℕ} {weights' : List Float} {held' : List ℕ} {rows' : List (List ℕ)} {out' : List ℕ}
      → LineDone d s (rows_leave d X (rows_of ls)) (row_of l) n e rows out x a' points' marks' weights' held' rows' out'
      → {p : ℕ} → p ≡ b.read + length l + 1
      → LinesDone d s X (ls ++ (l ∷ [])) r rows₀ out₀ (record { tree = x.tree; read = p; number = n + 1; end = x.end; goes_on = x.goes_on }) a' points' marks' weights' held' rows' out'
  one_more l {n} {e} N E {x} L {p} P =
      let both = in_parts d s X r ls (l ∷ []) h in
      let k : n ≡ r + length ls = N ∙ D.number_is in
      record {
        wrote = rw (both.0, row_alone l, append-nil, ← k) (then (rw (← E) at D.wrote) L.wrote);
        on = L.on ∙ sym (form_alone l) ∙ sym (form_both ls (l ∷ []) h);
        number_is = rw length-append (omega arith);
        read_is = rw (ended_both ls (l ∷ []), length-append, length-append) (omega (arith, D.read_is));
        rows_are = rw (rows_both ls (l ∷ []) h, row_alone l, reports_both) (L.rows_are ∙ rw D.rows_are);
        state = rw (both.1, row_alone l) L.state;
      }

-- ---- on the way: the lines that are carried out, and with those that are left they are the text's
pub record Carrying (d : ℕ) (s : Float) (X : Sampled (whole d)) (text : List ℕ) (number : ℕ) (rows₀ : List (List ℕ)) (out₀ : List ℕ) (tree : SamplerPlusTree) (a : NodeStore) (points : List (List Float)) (marks : List ℕ) (weights : List Float) (held : List ℕ) (rows : List (List ℕ)) (out : List ℕ) (at next end : ℕ) : Type 0 where
  pub done : List (List ℕ)
  pub so_far : LinesDone d s X done number rows₀ out₀ (record { tree = tree; read = at; number = next; end = end; goes_on = true }) a points marks weights held rows out
  pub left : lines_in d s (length out₀) X number text ≡ done ++ lines_from d s (length out₀) (rows_leave d X (rows_of done)) next end (pieces_from 10 text at)

pub begin : {d : ℕ} {s : Float} {X : Sampled (whole d)} {tree : SamplerPlusTree} {a : NodeStore} {points : List (List Float)} {marks : List ℕ} {weights : List Float} {held : List ℕ}
    → SampledState d s X tree a points marks weights held → (text : List ℕ) (number : ℕ) (rows : List (List ℕ)) (out : List ℕ)
    → Carrying d s X text number rows out tree a points marks weights held rows out 0 number 0
unfolding rows_of
begin S text number rows out = record {
  done = [];
  so_far = record { wrote = record { next = refl; left = refl }; on = refl; number_is = omega arith; read_is = refl; rows_are = refl; state = S };
  left = rw (from_zero 10 text);
}

module _ {d : ℕ} {s : Float} {X : Sampled (whole d)} {text : List ℕ} {number : ℕ} {rows₀ : List (List ℕ)} {out₀ : List ℕ} {tree : SamplerPlusTree} {a : NodeStore} {points : List (List Float)} {marks : List ℕ} {weights : List Float} {held : List ℕ} {rows : List (List ℕ)} {out : List ℕ} {at next end : ℕ}
    (R : Carrying d s X text number rows₀ out₀ tree a points marks weights held rows out at next end) where
  pub some_state : SomeSampled tree a points marks weights held
  some_state = record { channels = d; share = s; world = rows_leave d X (rows_of R.done); state = R.so_far.state }

  abbrev Stopped : Type 0
  Stopped = LinesDone d s X (lines_in d s (length out₀) X number text) number rows₀ out₀ (record { tree = tree; read = at; number = next; end = end; goes_on = true }) a points marks weights held rows out

  none_left : lines_from d s (length out₀) (rows_leave d X (rows_of R.done)) next end (pieces_from 10 text at) ≡ [] → Stopped
  none_left z = rw (R.left, z, append-nil) R.so_far

  -- no room for an answer
  pub full : length out₀ < end + answer_limit → Stopped
  full h = none_left (no_room d s (length out₀) (rows_leave d X (rows_of R.done)) next end (pieces_from 10 text at) h)

  module _ (stop : ℕ) (h : at ≤ length text) (x : PieceEnds 10 text at stop) where
    -- no line feed
    pub unended : stop ≡ length text → Stopped
    unended z = none_left (rw (from_first 10 text at stop h x) (no_feed d s (length out₀) (rows_leave d X (rows_of R.done)) next end (take (stop - at) (drop at text)) (pieces_from 10 text (stop + 1)) (from_past 10 text (stop + 1) (omega arith))))

    -- a line, after which the next stands or all ends
    module _ (m : stop ≡ length text → ⊥) (room : end + answer_limit ≤ length out₀) (y : Done) (a' : NodeStore) (points' : List (List Float)) (marks' : List ℕ) (weights' : List Float) (held' : List ℕ) (rows' : List (List ℕ)) (out' : List ℕ)
        (L : LineDone d s (rows_leave d X (rows_of R.done)) (row_of (take (stop - at) (drop at text))) next end rows out y a' points' marks' weights' held' rows' out') where
      abbrev line : List ℕ
      line = take (stop - at) (drop at text)

      good : all_in_form R.done ≡ true
      good = sym R.so_far.on

      more : lines_in d s (length out₀) X number text
          ≡ R.done ++ line ∷ cond (in_form (row_of line)) (lines_from d s (length out₀) (row_leaves d (rows_leave d X (rows_of R.done)) (row_of line)) (next + 1) (end + length (answered d s (rows_leave d X (rows_of R.done)) (row_of line) next)) (pieces_from 10 text (stop + 1))) []
      more = R.left ∙ rw (from_first 10 text at stop h x) (ap (λ (l : List (List ℕ)). R.done ++ l) (next_line d s (length out₀) (rows_leave d X (rows_of R.done)) next end line (pieces_from 10 text (stop + 1)) (from_some 10 text (stop + 1) (omega arith)) room))

      after : LinesDone d s X (R.done ++ (line ∷ [])) number rows₀ out₀ (record { tree = y.tree; read = stop + 1; number = next + 1; end = y.end; goes_on = y.goes_on }) a' points' marks' weights' held' rows' out'
      after = one_more R.so_far good line refl refl L (simp (length-take, length-drop) (omega arith))

      pub ends : y.goes_on ≡ false
          → LinesDone d s X (lines_in d s (length out₀) X number text) number rows₀ out₀ (record { tree = y.tree; read = stop + 1; number = next + 1; end = y.end; goes_on = false }) a' points' marks' weights' held' rows' out'
      ends z = rw (more, ← L.on, z) (rw z at after)

      pub turn : y.goes_on ≡ true → Carrying d s X text number rows₀ out₀ y.tree a' points' marks' weights' held' rows' out' (stop + 1) (next + 1) y.end
      turn z = record {
        done = R.done ++ (line ∷ []);
        so_far = rw z at after;
        left = more ∙ rw (← L.on, z, L.wrote.next, (in_parts d s X number R.done (line ∷ []) good).1, row_alone line, append_assoc);
      }
