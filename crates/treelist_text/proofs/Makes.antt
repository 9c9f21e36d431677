-- The making of a text's tree: refused, or begun with a fresh tree and an unwritten table. Laws.
use Rattle.std.specs.Prelude.{Result, Ok, Err}
use Rattle.refusals.specs.declared.Refusal.{Refusal}
use Rattle.refusals.specs.declared.Refusal.TheVariants as Why
use Rattle.refusals.specs.Refusals.{number}
use mathlib.Core.Path.{◌≡◌, sym, ◌∙◌}
use mathlib.Core.List.{List}
use Prim.Native.Nat.{ℕ, ◌≤◌, ◌<◌}
use Rattle.readings.proofs.Tests.{leb_yes, leb_no}
use lib.ListN.{replicate}
use lib.Ieee.{Float}
use Rattle.limits.specs.Limits.{point_limit}
use Rattle.text.specs.Pieces.{pieces_from}
use Rattle.cuttree.specs.Run.{fresh}
use Rattle.wholetree.specs.Whole.{whole}
use Rattle.layout.specs.Layout.{no_ends}
use Rattle.randomcuttree.specs.declared.RCFTree.{RCFTree}
use Rattle.treestore.specs.Arrays.{NodeStore}
use Rattle.pointstore.proofs.Empty.{unwritten}
use Rattle.randomcuttree.specs.Making.{made_by, MakeDone}
use Rattle.form.specs.Rows.{Op}
use Rattle.form.specs.Form.{op_rows, rows_from}
use Rattle.lines.specs.Lines.{refused_line, Wrote}
use Rattle.treelist_text.specs.Output.{output_from, output_by, listed_by}
use Rattle.treelist_text.specs.Running.{Standing}

module _ {d c : ℕ} {s : Float} {before after : NodeStore} {made : Result RCFTree Refusal} (M : MakeDone d c s before after made) where
  pub not_made : (r : Refusal) (n : ℕ) → made ≡ Err r → n ≡ number r → (os : List Op) {l : List ℕ} {q : ℕ} {o : List ℕ} → Wrote l 0 (refused_line n 0) q o → Wrote l 0 (output_by d c (made_by d c s) os) q o
  not_made r n h e os w = let z : made_by d c s ≡ Err r = sym M.answer ∙ h in rw (z, ← e) w

  module _ (tree : RCFTree) (h : made ≡ Ok tree) where
    pub begun : (text : List ℕ) (at : ℕ) (points : List (List Float)) (marks : List ℕ) → points ≡ replicate point_limit no_ends → marks ≡ replicate point_limit 0
        → (os : List Op) → rows_from 0 (pieces_from 10 text at) ≡ op_rows os → Standing d c s (fresh (whole d) c) os text at 0 tree after points marks
    begun text at points marks e f os r = record { state = M.state tree h points marks (unwritten points marks e f); rest = r }

    pub is_made : (os : List Op) {l : List ℕ} {q : ℕ} {o : List ℕ} → Wrote l 0 (output_from d c (fresh (whole d) c) 0 os) q o → Wrote l 0 (output_by d c (made_by d c s) os) q o
    is_made os w = let z : made_by d c s ≡ Ok tree = sym M.answer ∙ h in rw z w

-- a program that keeps to 8 channels
pub few_listed : (d c : ℕ) (s : Float) → d ≤ 8 → listed_by d c s ≡ made_by d c s
few_listed d c s h = rw (leb_yes h)

pub many_listed : (d c : ℕ) (s : Float) → 8 < d → listed_by d c s ≡ Err Why.Channels
many_listed d c s h = rw (leb_no h)

pub listed_made : (d c : ℕ) (s : Float) (os : List Op) {l : List ℕ} {q : ℕ} {o : List ℕ} → d ≤ 8 → Wrote l 0 (output_by d c (made_by d c s) os) q o → Wrote l 0 (output_by d c (listed_by d c s) os) q o
listed_made d c s os h w = rw (few_listed d c s h) w

pub listed_not : (d c : ℕ) (s : Float) (os : List Op) {l : List ℕ} {q : ℕ} {o : List ℕ} → 8 < d → Wrote l 0 (refused_line 1 0) q o → Wrote l 0 (output_by d c (listed_by d c s) os) q o
listed_not d c s os h w = rw (many_listed d c s h) w
