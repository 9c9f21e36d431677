-- What a text prints is as demand 3 says: its refused rows, and the lines of the last tree. Assumes nothing.
use mathlib.Core.Path.{◌≡◌, refl, sym, ap, ◌∙◌}
use mathlib.Core.Logic.{inl, inr}
use mathlib.Core.Option.{Option, none, some}
use mathlib.Core.List.{List, [], ◌∷◌, ◌++◌, map, append_assoc}
use Prim.Native.Nat.{ℕ, ◌+◌}
use Rattle.std.specs.Prelude.{Result, Ok}
use Rattle.cuttree.specs.Tree.{Tree, leaf, branch, id}
use Rattle.cuttree.specs.Run.{World, Answer, call, answers, world_after, fresh}
use Rattle.cuttree.specs.Counts.{Counts, count_all, nothing}
use Rattle.cuttree.specs.Graph.{View, IsNode}
use Rattle.cuttree.specs.Demand3.{view_of}
use Rattle.cuttree.proofs.Tests.{nonsense}
use Rattle.cuttree.proofs.Nodes.{In, here, left, right, in_trans}
use Rattle.cuttree.proofs.Keeps.{Inv, inv_fresh}
use Rattle.cuttree.proofs.Views.{row_of, leaf_asked, branch_asked}
use Rattle.cuttree.proofs.Roots.{is_root}
use Rattle.wholetree.specs.Reading.{Reading}
use Rattle.wholetree.specs.Whole.{whole}
use Rattle.wholetree.proofs.Laws.{whole_laws}
use Rattle.randomcuttree.specs.declared.RCFTree.{RCFTree}
use Rattle.refusals.specs.declared.Refusal.{Refusal}
use Rattle.form.specs.Rows.{Op}
use Rattle.form.specs.Making.{Making, sixteenths_of}
use Rattle.form.specs.Form.{read, parsed}
use Rattle.lines.specs.Lines.{names_line}
use Rattle.printed.specs.Printed.{lines_of, printed_tree}
use Rattle.rowcalls.specs.Ops.{call_of}
use Rattle.treelist_text.specs.Output.{told_row, output, output_from, output_by, output_of, listed_by}
use Rattle.demand3.specs.Answered.{Answered}
use Rattle.demand3.proofs.Answered as Demand3
use Rattle.demand3_outputs.specs.Text.{LinesFrom, leaf_lines, branch_lines, Listing, told_rows, TextsAnswer}
use Rattle.demand3_outputs.proofs.Made.{taken, made_listed}

module _ (d c : ℕ) where
  -- the lines below the names
  abbrev pub lines_in : Option (Tree (whole d)) → List ℕ
  lines_in none = []
  lines_in (some t) = lines_of d c t

  pub printed_is : (o : Option (Tree (whole d))) → printed_tree d c o ≡ names_line ++ lines_in o
  printed_is none = refl
  printed_is (some t) = refl

  module _ (f : ℕ → Option Reading) (u : List (ℕ × ℕ)) (K : Counts (whole d)) where
    lines_from : (t : Tree (whole d)) (I : Inv (whole d) c (record { table = f; tree = some t; free = u }) K) (v : Tree (whole d)) → In (whole d) v t
        → LinesFrom d (view_of (whole d) c (record { table = f; tree = some t; free = u }) K) (id (whole d) c v) (lines_of d c v)
    lines_from t I (leaf i q n) j = leaf_lines (leaf_asked (whole d) c (whole_laws d) f t u K I j)
    lines_from t I (branch b k l r) j = branch_lines (row_of (whole d) c b k l r) (branch_asked (whole d) c (whole_laws d) f t u K I j) (lines_from t I l (in_trans (whole d) (left here) j)) (lines_from t I r (in_trans (whole d) (right here) j))

    no_node : (x : ℕ) → IsNode (whole d) (view_of (whole d) c (record { table = f; tree = none; free = u }) K) x → ⊥
    no_node x (inl (n, e)) = nonsense (cc)
    no_node x (inr (r, e)) = nonsense (cc)

    pub listing_of : (o : Option (Tree (whole d))) → Inv (whole d) c (record { table = f; tree = o; free = u }) K → Listing d (lines_in o) (view_of (whole d) c (record { table = f; tree = o; free = u }) K)
    listing_of none I = inl (no_node, refl)
    listing_of (some t) I = inr (id (whole d) c t, is_root (whole d) c (whole_laws d) f t u K I, lines_from t I t here)

  output_is : (W : World (whole d)) (n : ℕ) (os : List Op)
      → output_from d c W n os ≡ told_rows d n (answers (whole d) c W (map (call_of d) os)) ++ (names_line ++ lines_in (world_after (whole d) c W (map (call_of d) os)).tree)
  output_is W n [] = printed_is W.tree
  output_is W n (o ∷ os) =
      let e = call_of d o in
      let row = told_row d (call (whole d) c W e).0 (n + 1) in
      let after = (call (whole d) c W e).1 in
      let rows = told_rows d (n + 1) (answers (whole d) c after (map (call_of d) os)) in
      let last = names_line ++ lines_in (world_after (whole d) c after (map (call_of d) os)).tree in
      ap (λ (l : List ℕ). row ++ l) (output_is after (n + 1) os) ∙ sym (append_assoc row rows last)

-- A text's answers and printed lines, with what P says of the last counts and of these lines.
pub texts_with : (P : (d c : ℕ) → Counts (whole d) → List ℕ → Type 0)
    → ((d c : ℕ) (W : World (whole d)) (K : Counts (whole d)) → Inv (whole d) c W K → P d c K (lines_in d c W.tree))
    → (text : List ℕ) (m : Making) (os : List Op) (tree : RCFTree) → parsed text ≡ read m os → listed_by m.channels m.capacity (sixteenths_of m.sixteenths) ≡ Ok tree
    → (as' : List (Answer (whole m.channels))) × (lines : List ℕ) × (G : View (whole m.channels))
    × Answered m.channels m.capacity (Listing m.channels lines) G (nothing (whole m.channels)) (map (call_of m.channels) os) as'
    × (output text ≡ told_rows m.channels 0 as' ++ (names_line ++ lines))
    × P m.channels m.capacity (count_all (whole m.channels) (map (call_of m.channels) os) as' (nothing (whole m.channels))) lines
texts_with P p text m os tree F M =
    let d = m.channels in
    let c = m.capacity in
    let es = map (call_of d) os in
    let start = fresh (whole d) c in
    let last = world_after (whole d) c start es in
    let room = (taken d c (sixteenths_of m.sixteenths) tree (made_listed d c (sixteenths_of m.sixteenths) tree M)).0 in (
      answers (whole d) c start es,
      lines_in d c last.tree,
      view_of (whole d) c start (nothing (whole d)),
      Demand3.answered d c (Listing d (lines_in d c last.tree)) room es (λ K I. listing_of d c last.table last.free K last.tree I),
      ap output_of F ∙ ap (λ (x : Result RCFTree Refusal). output_by d c x os) M ∙ output_is d c start 0 os,
      p d c last _ (Demand3.inv_all d c start (nothing (whole d)) es (inv_fresh (whole d) c room)),
    )

pub texts_answer : TextsAnswer
texts_answer text m os tree F M = let (as', lines, G, A, e, u) = texts_with (λ d c K lines. Unit {0}) (λ d c W K I. tt) text m os tree F M in (as', lines, G, A, e)
