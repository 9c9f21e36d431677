-- Rows told one after another, and the top one. Laws.
use mathlib.Core.Path.{◌≡◌, refl, sym, ◌∙◌}
use mathlib.Core.List.{List, [], ◌∷◌}
use Prim.Native.Nat.{ℕ, ◌+◌, ◌-◌, ◌*◌, ◌≤◌, ◌<◌}
use native.Mathlib.Numerals.{add-one}
use native.Mathlib.Omega.{arith}
use lib.ListN.{get_or}
use Rattle.limits.specs.Limits.{branch_limit}
use Rattle.intervalstoremanager.specs.declared.IntervalStoreManager.{IntervalStoreManager}
use Rattle.intervalstoremanager.proofs.Tests.{is_topped, over_topped}
use Rattle.lines.specs.Lines.{Wrote}
use Rattle.lines.proofs.Writes.{then}
use Rattle.recorded.specs.Words.{pair_bytes}
use Rattle.recorded.specs.Sequences.{look_bytes, rows_to, top_of}

-- THE FIRST k ROWS
pub record Rowed (rows : List (List ℕ)) (lent out : List ℕ) (at p k : ℕ) : Type 0 where
  pub within : k ≤ branch_limit
  pub place : p ≡ at + 4 * k
  pub wrote : Wrote lent at (rows_to rows k) p out

pub rowed_none : (rows : List (List ℕ)) (lent : List ℕ) (at : ℕ) → Rowed rows lent lent at at 0
unfolding rows_to
rowed_none rows lent at = record { within = omega arith; place = omega arith; wrote = record { next = omega arith; left = refl } }

pub rowed_next : {rows : List (List ℕ)} {lent out : List ℕ} {at p k : ℕ} → Rowed rows lent out at p k → k < branch_limit → {q : ℕ} {out' : List ℕ} → Wrote out p (pair_bytes (get_or rows k [])) q out' → q ≡ p + 4 → Rowed rows lent out' at q (k + 1)
unfolding rows_to
rowed_next {rows} {lent} {out} {at} {p} {k} d h w n = record { within = omega arith; place = omega arith; wrote = rw (add-one k) (then d.wrote w) }

pub rowed_all : {rows : List (List ℕ)} {lent out : List ℕ} {at p k : ℕ} → Rowed rows lent out at p k → branch_limit ≤ k → Wrote lent at (rows_to rows branch_limit) p out × (p ≡ at + look_bytes)
rowed_all {rows} {lent} {out} {at} {p} {k} d h = let z : k ≡ branch_limit = omega (arith, d.within) in (rw z at d.wrote, omega arith)

-- THE TOP ROW
module _ (m : IntervalStoreManager) (rows : List (List ℕ)) {n : ℕ} (e : n ≡ m.last_in_use) where
  pub top_none : n ≡ 0 → 0 ∷ 0 ∷ [] ≡ top_of m rows
  unfolding top_of
  top_none h = rw (sym e ∙ h)

  pub top_beyond : branch_limit < n → 0 ∷ 0 ∷ [] ≡ top_of m rows
  unfolding top_of
  top_beyond h = rw (over_topped m (omega arith))

  pub top_row : (n ≡ 0 → ⊥) → n ≤ branch_limit → get_or rows (n - 1) [] ≡ top_of m rows
  unfolding top_of
  top_row h k = rw (is_topped m (omega arith) (omega arith), e)
