-- The lines of slots, one slot after another. Assumes nothing.
use mathlib.Core.Path.{◌≡◌, refl, sym, ap, ◌∙◌}
use mathlib.Core.List.{List, [], ◌∷◌, ◌++◌, append_assoc, append-nil}
use Prim.Native.Nat.{ℕ, suc, ◌+◌, ◌*◌, ◌≤◌, ◌<◌}
use native.Mathlib.Omega.{arith}
use lib.ListN.{get_or}
use lib.Ieee.{Float, nan, binary32, to_bits}
use Rattle.lines.specs.Lines.{Wrote}
use Rattle.lines.proofs.Writes.{then}
use Rattle.sampler.specs.Sample.{Entry, entries_in}
use Rattle.sampler.proofs.Places.{entries_next}
use Rattle.archiveend.specs.End.{entry_line, entry_lines}

abbrev line_of : Entry → List ℕ
line_of k = entry_line (to_bits binary32 k.weight) k.index

lines_append : (ks : List Entry) (k : Entry) → entry_lines (ks ++ (k ∷ [])) ≡ entry_lines ks ++ line_of k
lines_append [] k = append-nil (line_of k)
lines_append (l ∷ ks) k = ap (λ (r : List ℕ). line_of l ++ r) (lines_append ks k) ∙ sym (append_assoc (line_of l) (entry_lines ks) (line_of k))

-- the first i slots are written from `at` on, and the next place is p
pub record Putting (weights : List Float) (held : List ℕ) (n : ℕ) (before : List ℕ) (at i p : ℕ) (after : List ℕ) : Type 0 where
  pub within : i ≤ n
  pub few : p ≤ at + 30 * i
  pub wrote : Wrote before at (entry_lines (entries_in i weights held)) p after

module _ {weights : List Float} {held : List ℕ} {n : ℕ} {before : List ℕ} {at : ℕ} where
  pub put_start : Putting weights held n before at 0 at before
  unfolding entries_in
  put_start = record { within = omega arith; few = omega arith; wrote = record { next = omega arith; left = refl } }

  pub put_step : {i p : ℕ} {m : List ℕ} → Putting weights held n before at i p m → i < n → {x y q : ℕ} {o : List ℕ} → x ≡ to_bits binary32 (get_or weights i nan) → y ≡ get_or held i 0
      → Wrote m p (entry_line x y) q o → q ≤ p + 30 → Putting weights held n before at (i + 1) q o
  put_step {i} w h a b v f =
      let next : i + 1 ≡ suc i = omega arith in
      record { within = omega arith; few = omega (arith, w.few); wrote = rw (next, entries_next i weights held, lines_append) (then w.wrote (rw (a, b) at v)) }

  pub put_end : {i p : ℕ} {m : List ℕ} → Putting weights held n before at i p m → n ≤ i → Wrote before at (entry_lines (entries_in n weights held)) p m
  put_end {i} w h = let e : i ≡ n = omega (arith, w.within) in rw (← e) w.wrote
