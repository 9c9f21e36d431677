-- What request A.2 says of masses, and that a root's mass is the total of refusal 10. The statement.
use Rattle.std.specs.Prelude.{◌≡◌, ℕ, ◌+◌}
use Rattle.std.proofs.Math.Option.{some}
use Rattle.cuttree.specs.Setting.{Setting, Cut}
use Rattle.cuttree.specs.Tree.{Tree, leaf, branch, mass, above}
use Rattle.cuttree.specs.Run.{total_of}

module _ (S : Setting) where
  open S use {Point}

  pub record MassLaws : Type 0 where
    -- "A leaf's mass becomes its copies"
    pub leaf_mass : (i : ℕ) (q : Point) (n : ℕ) → mass S (leaf i q n) ≡ n
    -- "a branch's mass the sum of its sides"
    pub branch_mass : (b : ℕ) (k : Cut S) (l r : Tree S) → mass S (branch b k l r) ≡ mass S l + mass S r
    -- a new branch counts its new leaf: above a leaf of n copies it has mass n + 1
    pub new_branch_mass : (b : ℕ) (k : Cut S) (i : ℕ) (p : Point) (t : Tree S) → mass S (above S b k i p t) ≡ mass S t + 1
    -- the root's is the total
    pub root_mass : (t : Tree S) → mass S t ≡ total_of S (some t)
