-- The tree while its archive is read: what the rows so far leave of the one that was made. Laws.
use mathlib.Core.Path.{◌≡◌, refl, sym, ◌∙◌}
use mathlib.Core.Bool.{true}
use mathlib.Core.List.{List, [], ◌++◌}
use Prim.Native.Nat.{ℕ, ◌+◌}
use native.Mathlib.Omega.{arith}
use lib.Ieee.{Float}
use lib.ListN.{length, length-append}
use Rattle.wholetree.specs.Whole.{whole}
use Rattle.sampledtree.specs.Sampled.{Sampled}
use Rattle.treestore.specs.Arrays.{NodeStore}
use Rattle.samplerplustree.specs.declared.SamplerPlusTree.{SamplerPlusTree}
use Rattle.samplerplustree.specs.State.{SampledState, SomeSampled}
use Rattle.archiveend.specs.Prints.{SomeEnd}
use Rattle.regrow_line.specs.Archive.{rows_of, rows_leave}
use Rattle.regrow_lines.specs.declared.Batch.{Batch}
use Rattle.regrow_lines.specs.Batch.{all_in_form, LinesDone}
use Rattle.regrow_lines.proofs.Joins.{in_parts, form_both}

-- lines, all in form, are carried out of X, and the next is row `number`
pub record Grown (d : ℕ) (s : Float) (X : Sampled (whole d)) (number : ℕ) (tree : SamplerPlusTree) (a : NodeStore) (points : List (List Float)) (marks : List ℕ) (weights : List Float) (held : List ℕ) : Type 0 where
  pub lines : List (List ℕ)
  pub good : all_in_form lines ≡ true
  pub counted : number ≡ 1 + length lines
  pub state : SampledState d s (rows_leave d X (rows_of lines)) tree a points marks weights held

module _ {d : ℕ} {s : Float} {X : Sampled (whole d)} where
  pub made : {tree : SamplerPlusTree} {a : NodeStore} {points : List (List Float)} {marks : List ℕ} {weights : List Float} {held : List ℕ} → SampledState d s X tree a points marks weights held → Grown d s X 1 tree a points marks weights held
  unfolding rows_of
  made S = record { lines = []; good = refl; counted = refl; state = S }

  module _ {number : ℕ} {tree : SamplerPlusTree} {a : NodeStore} {points : List (List Float)} {marks : List ℕ} {weights : List Float} {held : List ℕ} (G : Grown d s X number tree a points marks weights held) where
    pub some_sampled : SomeSampled tree a points marks weights held
    some_sampled = record { channels = d; share = s; world = rows_leave d X (rows_of G.lines); state = G.state }

    pub grown_on : {ls rows : List (List ℕ)} {out : List ℕ} {b : Batch} {a' : NodeStore} {points' : List (List Float)} {marks' : List ℕ} {weights' : List Float} {held' : List ℕ} {rows' : List (List ℕ)} {out' : List ℕ}
        → LinesDone d s (rows_leave d X (rows_of G.lines)) ls number rows out b a' points' marks' weights' held' rows' out' → b.goes_on ≡ true → Grown d s X b.number b.tree a' points' marks' weights' held'
    grown_on {ls} L z = record {
      lines = G.lines ++ ls;
      good = form_both G.lines ls G.good ∙ sym L.on ∙ z;
      counted = rw length-append (omega (arith, L.number_is, G.counted));
      state = rw (in_parts d s X number G.lines ls G.good).1 L.state;
    }

pub some_end : {tree : SamplerPlusTree} {a : NodeStore} {points : List (List Float)} {marks : List ℕ} {weights : List Float} {held : List ℕ}
    → SomeSampled tree a points marks weights held → SomeEnd tree a.nodes a.cuts a.copies weights held
some_end w = record { lent = _; points = _; marks = _; read = record { nodes_are = refl; cuts_are = refl; copies_are = refl }; state = w }
