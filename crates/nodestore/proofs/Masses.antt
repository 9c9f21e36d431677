-- Masses changed along the rows of a path: what becomes of each branch's row, and the loop that does it from the last row to the first.
use mathlib.Core.Path.{◌≡◌, refl, sym, ap, ◌∙◌}
use mathlib.Core.List.{List, [], ◌∷◌}
use mathlib.Core.Logic.{◌≢◌}
use Prim.Native.Nat.{ℕ, zero, suc, ◌+◌, ◌≤◌, ◌<◌}
use native.Mathlib.Omega.{arith}
use lib.Dec.{eqb}
use lib.ListN.{length, get_or, drop, set, length-set, drop_of_length-le}
use lib.Seq.{drop-cons, get_or-set_same, get_or-set_other}
use borrow.Author.Tests.{eqb-true}
use Rattle.limits.specs.Limits.{branch_limit}
use Rattle.cuttree.specs.Tree.{is}
use Rattle.cuttree.proofs.Tests.{by-test}
use Rattle.cuttree.proofs.Intervals.{is_same}
use Rattle.layout.specs.Slots.{field}
use Rattle.walk.specs.Walks.{node_of}
use Rattle.nodestore.specs.Rows.{times, weigh, mass_over, Climb}

differ : (a b : ℕ) → is a b ≡ 0 → b ≢ a
differ a b z e = let v : is a b ≡ 1 = rw e (is_same a) in absurd (omega arith)

pub climb_low : {high : ℕ} {n ss : List (List ℕ)} → Climb 1 high n ss → Climb 0 high n ss
climb_low w = record { ids = w.ids; once = w.once; masses = λ b m. (omega arith, (w.masses b m).1) }

module _ (f : ℕ → ℕ) where
  pub length_mass : (ss n : List (List ℕ)) → length (mass_over f ss n) ≡ length n
  length_mass [] n = refl
  length_mass (s ∷ ss) n = length-set (mass_over f ss n) (node_of s) _ ∙ length_mass ss n

  pub mass_other : (ss n : List (List ℕ)) (b : ℕ) → times ss b ≡ 0 → get_or (mass_over f ss n) b [] ≡ get_or n b []
  mass_other [] n b z = refl
  mass_other (s ∷ ss) n b z = get_or-set_other (mass_over f ss n) (node_of s) b _ [] (differ (node_of s) b (omega arith)) ∙ mass_other ss n b (omega arith)

  -- a branch that comes once
  pub mass_same : (ss n : List (List ℕ)) (b : ℕ) → times ss b ≡ 1 → b < length n → get_or (mass_over f ss n) b [] ≡ set (get_or n b []) 2 (f (field n b 2))
  mass_same [] n b z lt = absurd (omega arith)
  mass_same (s ∷ ss) n b z lt = by-test (eqb (node_of s) b)
      (λ e. let y : 1 + times ss b ≡ 1 = rw e at z in
      let g : node_of s ≡ b = eqb-true (node_of s) b e in
      let m = mass_over f ss n in
      let o : get_or m b [] ≡ get_or n b [] = mass_other ss n b (omega arith) in
      ap (λ x. get_or (weigh f m x) b []) g ∙ get_or-set_same m b _ [] (omega (arith, length_mass ss n)) ∙ ap (λ x. set x 2 (f (get_or x 2 0))) o)
      (λ e. let v : is (node_of s) b ≡ 0 = rw e in
      get_or-set_other (mass_over f ss n) (node_of s) b _ [] (differ (node_of s) b v) ∙ mass_same ss n b (omega arith) lt)

  times_drop : (ss : List (List ℕ)) (k b : ℕ) → times (drop k ss) b ≤ times ss b
  times_drop ss zero b = omega arith
  times_drop [] (suc k) b = omega arith
  times_drop (s ∷ ss) (suc k) b = omega (arith, times_drop ss k b)

  -- THE LOOP: of the rows those from k on are done
  pub record Turn (low high : ℕ) (n₀ ss now : List (List ℕ)) (k b : ℕ) : Type 0 where
    pub small : b < branch_limit
    pub at_least : low ≤ field now b 2
    pub at_most : field now b 2 ≤ high
    pub next : weigh f now b ≡ mass_over f (drop k ss) n₀

  pub turn : (n₀ ss : List (List ℕ)) {low high : ℕ} → Climb low high n₀ ss → (now : List (List ℕ)) (j k b : ℕ) → now ≡ mass_over f (drop j ss) n₀ → j ≡ suc k → k < length ss → b ≡ field ss k 0 → Turn low high n₀ ss now k b
  turn n₀ ss w now j k b g z lt h =
      let e : now ≡ mass_over f (drop (suc k) ss) n₀ = g ∙ ap (λ x. mass_over f (drop x ss) n₀) z in
      let l : drop k ss ≡ get_or ss k [] ∷ drop (suc k) ss = drop-cons ss k [] lt in
      let o : times (drop k ss) b ≡ is (field ss k 0) b + times (drop (suc k) ss) b = ap (λ x. times x b) l in
      let i : is (field ss k 0) b ≡ 1 = rw h (is_same (field ss k 0)) in
      let u = times_drop ss k b in
      let s : get_or now b [] ≡ get_or n₀ b [] = rw e (mass_other (drop (suc k) ss) n₀ b (omega (arith, w.once b))) in
      let r = w.masses b (omega arith) in
      record {
        small = w.ids b (omega arith);
        at_least = rw s r.0;
        at_most = rw s r.1;
        next = ap (λ x. weigh f x b) e ∙ ap (weigh f (mass_over f (drop (suc k) ss) n₀)) h ∙ ap (λ x. mass_over f x n₀) (sym l);
      }

  pub begin : (n₀ ss : List (List ℕ)) → n₀ ≡ mass_over f (drop (length ss) ss) n₀
  begin n₀ ss = rw (drop_of_length-le ss {i = length ss} (omega arith))
