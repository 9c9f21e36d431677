-- The op rows from one to the next, and at their end. Laws.
use mathlib.Core.Path.{◌≡◌, refl, sym, ap, ◌∙◌}
use mathlib.Core.Bool.{cond}
use mathlib.Core.Option.{some}
use mathlib.Core.List.{List, [], ◌∷◌, ◌++◌, append_assoc}
use Prim.Native.Nat.{ℕ, zero, suc, ◌+◌, ◌-◌, ◌≤◌}
use native.Mathlib.Omega.{arith}
use lib.Dec.{eqb}
use lib.Ieee.{Float}
use lib.ListN.{length, take, drop, get_or}
use Rattle.text.specs.Pieces.{pieces, PieceEnds}
use Rattle.cuttree.specs.Run.{World, call}
use Rattle.wholetree.specs.Whole.{whole}
use Rattle.randomcuttree.specs.declared.RCFTree.{RCFTree}
use Rattle.treestore.specs.Arrays.{NodeStore}
use Rattle.randomcuttree.specs.State.{SomeState}
use Rattle.answers.specs.Said.{filled, said, reply_width}
use Rattle.calls.specs.Done.{Done, Does}
use Rattle.form.specs.Rows.{Op, row_of}
use Rattle.form.proofs.Read.{NextRow, next_row, no_row_lem}
use Rattle.lines.specs.Lines.{refused_line, Wrote}
use Rattle.lines.proofs.Writes.{then}
use Rattle.printed.specs.Printed.{printed_tree}
use Rattle.rowcalls.specs.Ops.{call_of, SomeOp}
use Rattle.treelist_text.specs.Output.{told_row, output_from}
use Rattle.treelist_text.specs.Running.{Standing}
use Rattle.treelist_text.proofs.Telling.{tells}

length_filled : (n : ℕ) (xs : List ℕ) → length (filled n xs) ≡ n
unfolding filled
length_filled zero xs = refl
length_filled (suc n) [] = ap suc (length_filled n [])
length_filled (suc n) (x ∷ xs) = ap suc (length_filled n xs)

-- n op rows are carried out, and `done` is what is printed of them: with what the rows left print it is all that is to be printed
pub record Running (d c : ℕ) (s : Float) (before final text : List ℕ) (at n : ℕ) (tree : RCFTree) (a : NodeStore) (points : List (List Float)) (marks : List ℕ) (p : ℕ) (out : List ℕ) : Type 0 where
  pub world : World (whole d)
  pub ops : List Op
  pub standing : Standing d c s world ops text at n tree a points marks
  pub done : List ℕ
  pub wrote : Wrote before 0 done p out
  pub same : done ++ output_from d c world n ops ≡ final

pub begin : {d c : ℕ} {s : Float} {W : World (whole d)} {os : List Op} {before text : List ℕ} {at : ℕ} {tree : RCFTree} {a : NodeStore} {points : List (List Float)} {marks : List ℕ}
    → Standing d c s W os text at 0 tree a points marks → Running d c s before (output_from d c W 0 os) text at 0 tree a points marks 0 before
begin {W = W} {os = os} s = record { world = W; ops = os; standing = s; done = []; wrote = record { next = omega arith; left = refl }; same = refl }

module _ {d c : ℕ} {s : Float} {before final text : List ℕ} {at n : ℕ} {tree : RCFTree} {a : NodeStore} {points : List (List Float)} {marks : List ℕ} {p : ℕ} {out : List ℕ}
    (R : Running d c s before final text at n tree a points marks p out) where
  pub some_state : SomeState tree a points marks
  some_state = record { channels = d; capacity = c; share = s; world = R.world; state = R.standing.state }

  module _ (e : ℕ) (h : at ≤ length text) (x : PieceEnds 10 text at e) where
    -- at the text's end
    pub last : e ≡ length text → {q : ℕ} {m : List ℕ} → Wrote out p (printed_tree d c R.world.tree) q m → Wrote before 0 final q m
    last z {q} {m} w =
        let os : R.ops ≡ [] = no_row_lem n h x R.standing.rest z in
        let f : R.done ++ printed_tree d c R.world.tree ≡ final = ap (λ (l : List Op). R.done ++ output_from d c R.world n l) (sym os) ∙ R.same in
        rw (← f) (then R.wrote w)

    module _ (m : e ≡ length text → ⊥) where
      next : NextRow text n at e R.ops
      next = next_row n h x R.standing.rest m

      pub some_op : SomeOp (take (e - at) (drop at text))
      some_op = record { op = next.op; is = next.row }

      module _ (tree' : RCFTree) (a' : NodeStore) (points' : List (List Float)) (marks' reply : List ℕ)
          (does : (o : Op) → row_of (pieces 32 (take (e - at) (drop at text))) ≡ some o → Does (λ d. call_of d o) tree a points marks tree' a' points' marks' reply) where
        done : Done d c s R.world (call_of d next.op) tree' a' points' marks' reply
        done = does next.op next.row d c s R.world R.standing.state

        pub reply_length : length reply ≡ reply_width
        reply_length = ap length done.reply_is ∙ length_filled reply_width (said d c s (call_of d next.op) (call (whole d) c R.world (call_of d next.op)))

        -- the row is told, and the next one stands
        pub turn : {q : ℕ} {o : List ℕ} → Wrote out p (cond (eqb (get_or reply 0 0) 0) [] (refused_line (get_or reply 0 0) (n + 1))) q o
            → Running d c s before final text (e + 1) (n + 1) tree' a' points' marks' q o
        turn {q} {o} w =
            let r = call (whole d) c R.world (call_of d next.op) in
            record {
              world = r.1;
              ops = next.rest;
              standing = record { state = done.state; rest = next.left };
              done = R.done ++ told_row d r.0 (n + 1);
              wrote = then R.wrote (rw (tells d c s next.op r reply done.reply_is (n + 1)) at w);
              same =
                  append_assoc R.done (told_row d r.0 (n + 1)) (output_from d c r.1 (n + 1) next.rest)
                  ∙ ap (λ (l : List Op). R.done ++ output_from d c R.world n l) (sym next.is) ∙ R.same;
            }
