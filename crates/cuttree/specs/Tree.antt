-- The random cut tree of Guha, Mishra, Roy and Schrijvers (ICML 2016), with a count of copies at each leaf.
use Rattle.std.specs.Prelude.{◌≡◌, Bool, true, false, cond, ◌⊎◌, ℕ, suc, ◌+◌, ◌-◌, eqb, ltb}
use Rattle.std.proofs.Math.Option.{Option, none, some}
use Rattle.cuttree.specs.Setting.{Setting, Cut, below, parts}

-- one if two numbers are the same, else nothing
abbrev pub is : ℕ → ℕ → ℕ
is a b = cond (eqb a b) 1 0

module _ (S : Setting) where
  open S use {Coord, Chan, Point, Word, le, at, same, draw}

  -- A leaf has its point's index, the point and the copies. A branch has its number, its cut and its sides.
  pub data Tree : Type 0 where
    leaf : ℕ → Point → ℕ → Tree
    branch : ℕ → Cut S → Tree → Tree → Tree

  -- "a leaf's id is its point index plus c"
  abbrev pub id : ℕ → Tree → ℕ
  id c (leaf i q n) = i + c
  id c (branch b k l r) = b

  -- THE BOX: in each channel from the least to the largest coordinate of the leaves
  abbrev pub least : Coord → Coord → Coord
  least a b = cond (le a b) a b

  abbrev pub most : Coord → Coord → Coord
  most a b = cond (le a b) b a

  -- the end that m picks, `least` or `most`
  abbrev pub end : (Coord → Coord → Coord) → Tree → Chan → Coord
  end m (leaf i q n) d = at q d
  end m (branch b k l r) d = m (end m l d) (end m r d)

  abbrev pub lo : Tree → Chan → Coord
  lo t d = end least t d

  abbrev pub hi : Tree → Chan → Coord
  hi t d = end most t d

  -- THE WALK: "at a branch go left if the coordinate is at or below the cut, else right"
  pub record Leaf : Type 0 where
    pub index : ℕ
    pub value : Point
    pub copies : ℕ

  abbrev pub ending : Tree → Point → Leaf
  ending (leaf i q n) p = record { index = i; value = q; copies = n }
  ending (branch b k l r) p = cond (below S k p) (ending l p) (ending r p)

  -- the nodes below a tree's root on the walk; all of the walk's nodes, "both counted; a lone leaf is one node"
  abbrev pub height : Tree → Point → ℕ
  height (leaf i q n) p = 0
  height (branch b k l r) p = suc (cond (below S k p) (height l p) (height r p))

  abbrev pub walk : Tree → Point → ℕ
  walk t p = suc (height t p)

  -- "equal to the leaf reached"
  abbrev pub found : Tree → Point → Bool
  found t p = same (ending t p).value p

  -- SUMS over a tree: f of each leaf, g of each branch's number
  abbrev pub sum : (ℕ → Point → ℕ → ℕ) → (ℕ → ℕ) → Tree → ℕ
  sum f g (leaf i q n) = f i q n
  sum f g (branch b k l r) = g b + (sum f g l + sum f g r)

  abbrev pub leaves : Tree → ℕ
  leaves t = sum (λ i q n. 1) (λ b. 0) t

  -- THE MASS, all copies: "A leaf's mass becomes its copies, a branch's mass the sum of its sides" (request A.2). `MassLaws` (Masses.antt)
  -- says so.
  abbrev pub mass : Tree → ℕ
  mass t = sum (λ i q n. n) (λ b. 0) t

  -- the copies of a value
  abbrev pub copies : Tree → Point → ℕ
  copies t v = sum (λ i q n. cond (same q v) n 0) (λ b. 0) t

  -- INSERTION: "a new reading enters at the highest box from which a drawn cut parts it"
  abbrev pub drawn : Tree → Point → Word → Cut S
  drawn t p x = draw (lo t) (hi t) p x

  abbrev pub parted : Tree → Point → Word → Bool
  parted t p x = parts S (drawn t p x) (lo t) (hi t) p

  -- the new branch b stands above t, the new leaf on its side of the cut
  abbrev pub above : ℕ → Cut S → ℕ → Point → Tree → Tree
  above b k i p t = cond (below S k p) (branch b k (leaf i p 1) t) (branch b k t (leaf i p 1))

  -- "one word for each node from the leaf to the root": a node's word is that of its height
  abbrev pub insert : ℕ → ℕ → Point → (ℕ → Word) → Tree → Tree
  insert b i p w (leaf j q n) = above b (drawn (leaf j q n) p (w 0)) i p (leaf j q n)
  insert b i p w (branch a k l r) =
      cond (parted (branch a k l r) p (w (height (branch a k l r) p)))
      (above b (drawn (branch a k l r) p (w (height (branch a k l r) p))) i p (branch a k l r))
      (cond (below S k p) (branch a k (insert b i p w l) r) (branch a k l (insert b i p w r)))

  -- "one copy more"
  abbrev pub add_copy : Point → Tree → Tree
  add_copy p (leaf i q n) = leaf i q (suc n)
  add_copy p (branch b k l r) = cond (below S k p) (branch b k (add_copy p l) r) (branch b k l (add_copy p r))

  -- FORGETTING: "one copy less; at the last copy the sibling replaces the parent"
  abbrev pub or_lifted : Option Tree → (Tree → Tree) → Tree → Tree
  or_lifted none f s = s
  or_lifted (some t) f s = f t

  abbrev pub forget : Point → Tree → Option Tree
  forget p (leaf i q n) = cond (ltb 1 n) (some (leaf i q (n - 1))) none
  forget p (branch b k l r) =
      some (cond (below S k p) (or_lifted (forget p l) (λ t. branch b k t r) r) (or_lifted (forget p r) (λ t. branch b k l t) l))

  -- the number of the branch that goes with the last copy
  abbrev pub or_parent : Option Tree → ℕ → Option ℕ → Option ℕ
  or_parent none b f = some b
  or_parent (some t) b f = f

  abbrev pub freed : Point → Tree → Option ℕ
  freed p (leaf i q n) = none
  freed p (branch b k l r) = cond (below S k p) (or_parent (forget p l) b (freed p l)) (or_parent (forget p r) b (freed p r))

  -- EVERY LEAF, SOME LEAF
  abbrev pub All : (ℕ → Point → ℕ → Type 0) → Tree → Type 0
  All P (leaf i q n) = P i q n
  All P (branch b k l r) = All P l × All P r

  abbrev pub Some : (ℕ → Point → ℕ → Type 0) → Tree → Type 0
  Some P (leaf i q n) = P i q n
  Some P (branch b k l r) = Some P l ⊎ Some P r

  -- THE CUT CLAUSE: "at every branch, readings at or below the cut lie left and all others right"
  abbrev pub Side : Cut S → Bool → Tree → Type 0
  Side k x t = All (λ i q n. below S k q ≡ x) t

  abbrev pub CutClause : Tree → Type 0
  CutClause (leaf i q n) = Unit {0}
  CutClause (branch b k l r) = Side k true l × Side k false r × CutClause l × CutClause r

  -- A TREE OR NONE: what holds of the tree if there is one; a sum over it
  abbrev pub OfTree : (Tree → Type 0) → Option Tree → Type 0
  OfTree F none = Unit {0}
  OfTree F (some t) = F t

  abbrev pub sum_of : (ℕ → Point → ℕ → ℕ) → (ℕ → ℕ) → Option Tree → ℕ
  sum_of f g none = 0
  sum_of f g (some t) = sum f g t
