-- MASSES THAT COUNT LANTERNS (request A.2), of the code: of the queries, the walk report, the printed tree and an archive's end, in every state that a making
-- and its calls leave. Definitions and the statements.
use Rattle.std.specs.Prelude.{◌≡◌, ◌⊎◌, List, [], ◌++◌, ℕ, ◌+◌, ◌-◌, ◌<◌, Float, Ok}
use Rattle.lines.specs.Lines.{branch_line, leaf_line, names_line, Wrote}
use Rattle.sampler.specs.Sample.{entries_in}
use Rattle.layout.specs.Slots.{field}
use Rattle.treestore.specs.Arrays.{NodeStore}
use Rattle.randomcuttree.specs.declared.RCFTree.{RCFTree}
use Rattle.randomcuttree.specs.declared.BranchRow.{BranchRow}
use Rattle.randomcuttree.specs.State.{SomeState}
use Rattle.randomcuttree.specs.Queries.{copies_read, branch_read}
use Rattle.samplerplustree.specs.declared.SamplerPlusTree.{SamplerPlusTree}
use Rattle.samplerplustree.specs.State.{SomeSampled}
use Rattle.nodeview.specs.Told.{ReportTold}
use Rattle.listing.specs.Printed.{PrintsTree}
use Rattle.archiveend.specs.End.{entry_lines, sample_names}
use Rattle.archiveend.specs.Prints.{PrintsEnd}

-- the lines of a printed tree from the node x on, whose mass is m: a branch's is the sum of those that its sides are printed with
pub data LinesWeigh : ℕ → ℕ → List ℕ → Type 0 where
  leaf_lines : {x m : ℕ} → LinesWeigh x m (leaf_line x m)
  branch_lines : {x y z m n : ℕ} {ls rs : List ℕ} (channel cut : ℕ) → LinesWeigh y m ls → LinesWeigh z n rs
      → LinesWeigh x (m + n) (branch_line x channel cut y z (m + n) ++ ls ++ rs)

-- a header and its arrays
module _ (tree : RCFTree) (a : NodeStore) where
  -- the node x has the mass m, as its query tells: "A leaf's mass becomes its copies"
  abbrev pub Weighs : ℕ → ℕ → Type 0
  Weighs x m = (copies_read tree a.copies x ≡ Ok m) ⊎ ((r : BranchRow) × (branch_read a.nodes a.cuts x ≡ Ok r) × (r.mass ≡ m))

  pub record MassesCount (points : List (List Float)) : Type 0 where
    -- a node has one mass
    pub one : (x m n : ℕ) → Weighs x m → Weighs x n → m ≡ n
    -- "a branch's mass the sum of its sides"
    pub sides : (x : ℕ) (r : BranchRow) → branch_read a.nodes a.cuts x ≡ Ok r → (m : ℕ) × (n : ℕ) × Weighs r.left m × Weighs r.right n × (r.mass ≡ m + n)
    -- the root's is the total, which refusal 10 is told by
    pub root : 0 < tree.total → Weighs tree.root tree.total
    -- a report that is not refused, as the contract of `traverse` ensures it: each row has its node's mass, the last row the total
    pub reported : (xs : List Float) (lent rows : List (List ℕ)) (n : ℕ) → ReportTold tree a.nodes a.cuts a.copies points a.boxes xs lent (Ok n) rows
        → ((i : ℕ) → i < n → Weighs (field rows i 0) (field rows i 2)) × (field rows (n - 1) 2 ≡ tree.total)
    -- what `print_tree` writes, as its contract ensures it: the names, then no line for an empty tree, else those of the root, whose mass is the total
    pub printed : (at : ℕ) (before : List ℕ) (place : ℕ) (after : List ℕ) → PrintsTree tree a.nodes a.cuts a.copies at before place after
        → (lines : List ℕ) × Wrote before at (names_line ++ lines) place after × (((tree.total ≡ 0) × (lines ≡ [])) ⊎ LinesWeigh tree.root tree.total lines)

abbrev pub MassesOfCode : Type 0
MassesOfCode = (tree : RCFTree) (a : NodeStore) (points : List (List Float)) (marks : List ℕ) → SomeState tree a points marks → MassesCount tree a points

-- What `print_end` writes where an archive ends, as its contract ensures it: the arrivals that the sample keeps, and the tree, whose root's mass is their number.
abbrev pub EndsCount : Type 0
EndsCount = (h : SamplerPlusTree) (a : NodeStore) (points : List (List Float)) (marks : List ℕ) (weights : List Float) (held : List ℕ) → SomeSampled h a points marks weights held
    → (at : ℕ) (before : List ℕ) (place : ℕ) (after : List ℕ) → PrintsEnd h a.nodes a.cuts a.copies weights held at before place after
    → (lines : List ℕ) × Wrote before at (sample_names ++ entry_lines (entries_in h.sampler.current_size weights held) ++ (names_line ++ lines)) place after
    × (((h.sampler.current_size ≡ 0) × (lines ≡ [])) ⊎ LinesWeigh h.tree.root h.sampler.current_size lines)
