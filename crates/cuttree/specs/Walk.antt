-- The walk by heights, from its leaf (0) to the root: how the Rust's loop draws, keeps the highest parting cut and puts the new branch there.
use Rattle.std.specs.Prelude.{cond, ℕ, zero, suc, eqb}
use Rattle.cuttree.specs.Setting.{Setting, Cut, below}
use Rattle.cuttree.specs.Tree.{Tree, leaf, branch, height, drawn, parted, above}

module _ (S : Setting) where
  open S use {Point, Word}

  -- the walk's node of a height, with all below it
  abbrev pub sub : Tree S → ℕ → Point → Tree S
  sub (leaf i q n) h p = leaf i q n
  sub (branch b k l r) h p = cond (eqb (height S (branch b k l r) p) h) (branch b k l r) (cond (below S k p) (sub l h p) (sub r h p))

  -- the other side of the branch above it
  abbrev pub sibling : Tree S → ℕ → Point → Tree S
  sibling (leaf i q n) h p = leaf i q n
  sibling (branch b k l r) h p =
      cond (eqb (height S (branch b k l r) p) (suc h)) (cond (below S k p) r l) (cond (below S k p) (sibling l h p) (sibling r h p))

  -- the tree with s in that node's place
  abbrev pub replace : Tree S → ℕ → Point → Tree S → Tree S
  replace (leaf i q n) h p s = s
  replace (branch b k l r) h p s =
      cond (eqb (height S (branch b k l r) p) h) s (cond (below S k p) (branch b k (replace l h p s) r) (branch b k l (replace r h p s)))

  -- THE LOOP after m nodes: the height and the cut of the highest that parted, s before any did
  abbrev pub kept : Tree S → Point → (ℕ → Word) → ℕ × Cut S → ℕ → ℕ × Cut S
  kept t p w s zero = s
  kept t p w s (suc m) = cond (parted S (sub t m p) p (w m)) (m, drawn S (sub t m p) p (w m)) (kept t p w s m)

  -- the new branch b above the node of that height
  abbrev pub graft : ℕ → ℕ → Point → ℕ × Cut S → Tree S → Tree S
  graft b i p s t = replace t s.0 p (above S b s.1 i p (sub t s.0 p))
