-- How long a line is whose numbers are a tree's. Laws.
use mathlib.Core.List.{List, [], ◌∷◌, ◌++◌}
use Prim.Native.Nat.{ℕ, suc, ◌+◌, ◌^◌, ◌≤◌, ◌<◌}
use native.Mathlib.Omega.{arith}
use lib.ListN.{length, length-append}
use Rattle.lines.specs.Lines.{decimal, hex, branch_line, leaf_line, refused_line}
use Rattle.lines.proofs.Digits.{decimal_length, hex_length}

record AtMost (n : ℕ) (xs : List ℕ) : Type 0 where
  pub few : length xs ≤ n

both : {xs ys : List ℕ} {a b : ℕ} → AtMost a xs → AtMost b ys → AtMost (a + b) (xs ++ ys)
both u v = record { few = rw length-append (omega (arith, u.few, v.few)) }

-- a number of so many digits and one more, with the byte after it
ended : (k n b : ℕ) → n < 10 ^ suc k → AtMost (suc k + 1) (decimal n ++ (b ∷ []))
ended k n b h =
    let digits : AtMost (suc k) (decimal n) = record { few = decimal_length k n h } in
    let after : AtMost 1 (b ∷ []) = record { few = omega arith } in
    both digits after

pub leaf_few : (id mass : ℕ) → id < 10000 → mass < 100000 → length (leaf_line id mass) ≤ 19
unfolding leaf_line
leaf_few id mass h m =
    let dashes : AtMost 8 (45 ∷ 32 ∷ 45 ∷ 32 ∷ 45 ∷ 32 ∷ 45 ∷ 32 ∷ []) = record { few = omega arith } in
    (both (both (ended 3 id 32 h) dashes) (ended 4 mass 10 m)).few

pub branch_few : (id dimension cut left right mass : ℕ) → id < 1000 → dimension < 100 → left < 10000 → right < 10000 → mass < 100000 → length (branch_line id dimension cut left right mass) ≤ 32
unfolding branch_line
branch_few id dimension cut left right mass h d l r m =
    let bits : AtMost 8 (hex 8 cut) = record { few = omega (arith, hex_length 8 cut) } in
    let space : AtMost 1 (32 ∷ []) = record { few = omega arith } in
    (both (both (both (both (both (both (ended 2 id 32 h) (ended 1 dimension 32 d)) bits) space) (ended 3 left 32 l)) (ended 3 right 32 r)) (ended 4 mass 10 m)).few

-- a refusal's number has at most two digits
pub refused_few : (k number row : ℕ) → number < 100 → row < 10 ^ suc k → length (refused_line number row) ≤ k + 13
unfolding refused_line
refused_few k number row h r =
    let word : AtMost 8 (114 ∷ 101 ∷ 102 ∷ 117 ∷ 115 ∷ 101 ∷ 100 ∷ 32 ∷ []) = record { few = omega arith } in
    omega (arith, (both (both word (ended 1 number 32 h)) (ended k row 10 r)).few)
