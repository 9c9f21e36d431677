-- At an archive's end the root's mass is the number of arrivals kept. Assumes nothing.
use mathlib.Core.Path.{◌≡◌, refl, sym, ap, ap₂, ◌∙◌, subst}
use mathlib.Core.Logic.{◌⊎◌, inl, inr}
use mathlib.Core.Option.{Option, none, some}
use mathlib.Core.List.{List, [], ◌++◌, append-nil}
use Prim.Native.Nat.{ℕ}
use lib.ListN.{length}
use lib.Ieee.{Float}
use Rattle.lines.specs.Lines.{names_line, Wrote}
use Rattle.sampler.specs.Sample.{Entry, entries_in}
use Rattle.sampler.proofs.Places.{entries_read}
use Rattle.cuttree.specs.Tree.{Tree, id}
use Rattle.cuttree.specs.Run.{total_of}
use Rattle.wholetree.specs.Whole.{whole}
use Rattle.sampledtree.specs.Sampled.{Sampled}
use Rattle.treestore.specs.Arrays.{NodeStore}
use Rattle.samplerplustree.specs.declared.SamplerPlusTree.{SamplerPlusTree}
use Rattle.samplerplustree.specs.State.{SampledState}
use Rattle.layout.specs.Layout.{root_of}
use Rattle.randomcuttree.specs.State.{cached_by}
use Rattle.printed.specs.Printed.{lines_of, printed_tree}
use Rattle.archiveend.specs.End.{entry_lines, sample_names}
use Rattle.archiveend.specs.Prints.{PrintsEnd}
use Rattle.masses.specs.Masses.{LinesWeigh, EndsCount}
use Rattle.masses.proofs.Printed.{lines_weigh}

module _ {d : ℕ} {s : Float} {X : Sampled (whole d)} {h : SamplerPlusTree} {a : NodeStore} {points : List (List Float)} {marks : List ℕ} {weights : List Float} {held : List ℕ} (S : SampledState d s X h a points marks weights held) where
  size_is : h.sampler.current_size ≡ length X.sample
  size_is = ap (λ (y : SamplerPlusTree). y.sampler.current_size) S.head_is

  kept_are : entries_in h.sampler.current_size weights held ≡ X.sample
  kept_are = rw (size_is, S.weights_are, S.held_are) (entries_read X.sample _ _)

  -- the printed tree's lines, below the names
  abbrev Ended : List ℕ → Type 0
  Ended bytes = (lines : List ℕ) × (bytes ≡ names_line ++ lines) × (((h.sampler.current_size ≡ 0) × (lines ≡ [])) ⊎ LinesWeigh h.tree.root h.sampler.current_size lines)

  ended : (o : Option (Tree (whole d))) → h.tree.root ≡ root_of d X.capacity (cached_by s X.capacity) o → total_of (whole d) o ≡ h.sampler.current_size → Ended (printed_tree d X.capacity o)
  ended none root total = ([], sym (append-nil names_line), inl (sym total, refl))
  ended (some t) root total =
      let lines = lines_of d X.capacity t in (
        lines,
        refl,
        inr (subst (λ (y : ℕ). LinesWeigh y h.sampler.current_size lines) (sym root)
            (subst (λ (y : ℕ). LinesWeigh (id (whole d) X.capacity t) y lines) total (lines_weigh d X.capacity t))),
      )

  pub ends_weigh : (at : ℕ) (before : List ℕ) (place : ℕ) (after : List ℕ) → PrintsEnd h a.nodes a.cuts a.copies weights held at before place after
      → (lines : List ℕ) × Wrote before at (sample_names ++ entry_lines (entries_in h.sampler.current_size weights held) ++ (names_line ++ lines)) place after
      × (((h.sampler.current_size ≡ 0) × (lines ≡ [])) ⊎ LinesWeigh h.tree.root h.sampler.current_size lines)
  ends_weigh at before place after P =
      let (lines, e, w) = ended X.world.tree (ap (λ (y : SamplerPlusTree). y.tree.root) S.head_is) (S.agrees.total_is ∙ sym size_is) in
      let all = ap₂ (λ (ks : List Entry) (l : List ℕ). sample_names ++ entry_lines ks ++ l) (sym kept_are) e in
      (lines, subst (λ (y : List ℕ). Wrote before at y place after) all (P d s X a points marks S (record { nodes_are = refl; cuts_are = refl; copies_are = refl })), w)

pub ends_count : EndsCount
ends_count h a points marks weights held w = ends_weigh w.state
