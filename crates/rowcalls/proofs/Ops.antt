-- Which op a row is, from what was read of it. Laws.
use mathlib.Core.Path.{◌≡◌, ap, ◌∙◌, sym, subst}
use mathlib.Core.Option.{Option as Maybe, none, some}
use mathlib.Core.List.{List}
use Prim.Native.Nat.{ℕ}
use lib.Ieee.{Float}
use Rattle.cuttree.proofs.Tests.{nonsense}
use Rattle.randomcuttree.specs.declared.RCFTree.{RCFTree}
use Rattle.treestore.specs.Arrays.{NodeStore}
use Rattle.calls.specs.Done.{Does}
use Rattle.rowcalls.specs.Ops.{call_of}
use Rattle.text.specs.Pieces.{pieces}
use Rattle.text.specs.Fields.{words_from, coordinates_from}
use Rattle.std.specs.Prelude.{Option, Some, None}
use Rattle.form.specs.declared.Row.{Row}
use Rattle.form.specs.declared.Row.TheVariants.{Put, Add, Delete}
use Rattle.form.specs.Rows.{Op, put, add, delete, row_of, read_row, row_says}
use Rattle.form.proofs.Rows.{row_tells}

same_op : (x : Maybe Op) (p q : Op) → x ≡ some p → x ≡ some q → p ≡ q
same_op x p q e f = let z : some p ≡ some q = sym e ∙ f in cc

-- what is done for an op is done for one that is the same
pub does_op : (p q : Op) (tree : RCFTree) (a : NodeStore) (points : List (List Float)) (marks : List ℕ) (tree' : RCFTree) (a' : NodeStore) (points' : List (List Float)) (marks' reply : List ℕ)
    → p ≡ q → Does (λ d. call_of d p) tree a points marks tree' a' points' marks' reply → Does (λ d. call_of d q) tree a points marks tree' a' points' marks' reply
does_op p q tree a points marks tree' a' points' marks' reply e D = subst (λ (x : Op). Does (λ d. call_of d x) tree a points marks tree' a' points' marks' reply) e D

module _ (s : List ℕ) (r : Option Row) (told : r ≡ read_row s) (o : Op) (is : row_of (pieces 32 s) ≡ some o) where
  said : (q : Option Row) → r ≡ q → row_of (pieces 32 s) ≡ row_says s q
  said q e = sym (row_tells s) ∙ ap (row_says s) (sym told ∙ e)

  pub is_put : (i k : ℕ) → r ≡ Some (Put i k) → put i (coordinates_from s k) ≡ o
  unfolding row_says
  is_put i k e = same_op _ _ _ (said _ e) is

  pub is_add : (i k : ℕ) → r ≡ Some (Add i k) → add i (words_from s k) ≡ o
  unfolding row_says
  is_add i k e = same_op _ _ _ (said _ e) is

  pub is_delete : (i : ℕ) → r ≡ Some (Delete i) → delete i ≡ o
  unfolding row_says
  is_delete i e = same_op _ _ _ (said _ e) is

  pub is_some : {P : Type 0} → r ≡ None → P
  unfolding row_says
  is_some e = let z : row_of (pieces 32 s) ≡ none = said None e in nonsense (cc)
