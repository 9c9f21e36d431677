-- What every list of calls from a fresh tree leaves true of table, tree and free numbers.
use Rattle.std.specs.Prelude.{◌≡◌, cond, ℕ, ◌+◌, ◌-◌, ◌≤◌, ◌<◌, ltb}
use Rattle.std.proofs.Math.Option.{some}
use Rattle.cuttree.specs.Setting.{Setting}
use Rattle.intervalstoremanager.specs.Stack.{holds, sizes, Proper}
use Rattle.cuttree.specs.Tree.{is, All, CutClause, OfTree, sum_of}
use Rattle.cuttree.specs.Run.{World, total_of}

module _ (S : Setting) (c : ℕ) where
  open S use {Point, indices, limit}

  pub record Sound (W : World S) : Type 0 where
    pub cut : OfTree S (CutClause S) W.tree
    -- a leaf has a copy, and its point is the table's
    pub filled : OfTree S (All S (λ i q n. 0 < n)) W.tree
    pub agree : OfTree S (All S (λ i q n. W.table i ≡ some q)) W.tree
    -- what is written stands at an index, and the copies are within their limit
    pub inside : (i : ℕ) (p : Point) → W.table i ≡ some p → i < indices
    pub light : total_of S W.tree ≤ limit
    -- each number from 0 to c − 2 is one branch's or free once, and there are no others
    pub numbers : (j : ℕ) → sum_of S (λ i q n. 0) (λ b. is b j) W.tree + holds W.free j ≡ cond (ltb j (c - 1)) 1 0
    pub fits : sum_of S (λ i q n. 0) (λ b. 1) W.tree + sizes W.free ≡ c - 1
    pub proper : Proper (c - 1) W.free
