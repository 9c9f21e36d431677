-- A text placed byte by byte is the text stored byte after byte; a number is placed digit after digit. Laws.
use mathlib.Core.Path.{◌≡◌, refl, sym, ap, ◌∙◌}
use mathlib.Core.Bool.{Bool, true, false, cond}
use mathlib.Core.List.{List, [], ◌∷◌}
use Prim.Native.Nat.{ℕ, zero, suc, ◌+◌, ◌-◌, ◌/◌, ◌%◌, ◌^◌, ◌≤◌, ◌<◌}
use native.Mathlib.Omega.{arith}
use borrow.Author.Tests.{ltb-true, ltb-false, lt-ltb, le-ltb}
use lib.Dec.{ltb}
use lib.ListN.{length, get_or, set, length-set}
use lib.Seq.{sets, length-sets, ext_get_or, get_or-set_same, get_or-set_other}
use Rattle.lines.specs.Lines.{digit, decimal, Wrote}
use Rattle.lines.specs.Placed.{byte_at, each_byte, placed, AsWritten}
use Rattle.lines.proofs.Digits.{decimal_low, decimal_more, decimal_length}
use Rattle.lines.proofs.Writes.{then, byte_set, byte_set_here}

each_length : (f : ℕ → ℕ → ℕ) (k : ℕ) (l : List ℕ) → length (each_byte f k l) ≡ length l
unfolding each_byte
each_length f k [] = refl
each_length f k (b ∷ l) = ap suc (each_length f (suc k) l)

each_at : (f : ℕ → ℕ → ℕ) (k : ℕ) (l : List ℕ) (i : ℕ) → i < length l → get_or (each_byte f k l) i 0 ≡ f (k + i) (get_or l i 0)
unfolding each_byte
each_at f k [] i h = absurd (omega arith)
each_at f k (b ∷ l) zero h = let e : k ≡ k + 0 = omega arith in ap (λ (j : ℕ). f j b) e
each_at f k (b ∷ l) (suc i) h = let e : suc k + i ≡ k + suc i = omega arith in each_at f (suc k) l i (omega arith) ∙ ap (λ (j : ℕ). f j (get_or l i 0)) e

-- a text stored byte after byte, by its places
sets_at : (text l : List ℕ) (at i : ℕ) → i < length l → get_or (sets l at text) i 0 ≡ byte_at at text i (get_or l i 0)
sets_at [] l at i h = go (ltb i at)
  where
    go : (t : Bool) → get_or l i 0 ≡ cond t (get_or l i 0) (get_or l i 0)
    go true = refl
    go false = refl
sets_at (x ∷ text) l at i h = sets_at text (set l at x) (suc at) i (rw length-set h) ∙ go (ltb i at) (ltb at i) refl refl
  where
    go : (s t : Bool) → ltb i at ≡ s → ltb at i ≡ t → byte_at (suc at) text i (get_or (set l at x) i 0) ≡ byte_at at (x ∷ text) i (get_or l i 0)
    go true t e f =
        let a : i < at = ltb-true i at e in
        rw (lt-ltb i at a, lt-ltb i (suc at) (omega arith)) (get_or-set_other l at i x 0 (λ p. omega arith))
    go false true e f =
        let a : at < i = ltb-true at i f in
        let j : i - at ≡ suc (i - suc at) = omega arith in
        rw (le-ltb i at (omega arith), le-ltb i (suc at) (omega arith), j, get_or-set_other l at i x 0 (λ p. omega arith))
    go false false e f =
        let a : i ≡ at = omega (arith, ltb-false i at e, ltb-false at i f) in
        let j : i - at ≡ 0 = omega arith in
        rw (le-ltb i at (omega arith), lt-ltb i (suc at) (omega arith), j) (rw a (get_or-set_same l at x 0 (omega arith)))

stored : (line : List ℕ) (at : ℕ) (text : List ℕ) → each_byte (byte_at at text) 0 line ≡ sets line at text
stored line at text = ext_get_or 0 _ _ (each_length (byte_at at text) 0 line ∙ sym (length-sets line at text)) λ i h.
    let l : i < length line = rw (each_length (byte_at at text) 0 line) at h in
    let e : 0 + i ≡ i = omega arith in
    each_at (byte_at at text) 0 line i l ∙ ap (λ (j : ℕ). byte_at at text j (get_or line i 0)) e ∙ sym (sets_at text line at i l)

-- THE TEXT IS THAT OF BEFORE
pub as_written : AsWritten
unfolding placed
as_written line at text count after e = record { next = ap (λ (p : ℕ × List ℕ). at + p.0) e; left = ap (λ (p : ℕ × List ℕ). p.1) e ∙ stored line at text }

pub placed_wrote : {l : List ℕ} {at : ℕ} {xs : List ℕ} {q : ℕ} {m : List ℕ} (k : ℕ) → q ≡ at + k → Wrote l at xs q m → ◌≡◌ {A = ℕ × List ℕ} (k, m) (placed l at xs)
unfolding placed
placed_wrote {xs = xs} k p w = let e : k ≡ length xs = omega arith in rw (e, w.left, stored)

-- NUMBERS: the last digit after the others
pub lone_written : {l : List ℕ} {at n b : ℕ} {m : List ℕ} → n < 10 → b ≡ digit n → m ≡ set l (at + 0) b → Wrote l at (decimal n) (at + 1) m
lone_written {n = n} h e f = rw (decimal_low n h) (byte_set_here (rw e at f))

pub last_written : {l : List ℕ} {at n k b : ℕ} {i m : List ℕ} → 10 ≤ n → ◌≡◌ {A = ℕ × List ℕ} (k, i) (placed l at (decimal (n / 10))) → b ≡ digit (n % 10) → m ≡ set i (at + k) b → Wrote l at (decimal n) (at + k + 1) m
last_written {n = n} h v e f = rw (decimal_more n h) (then (as_written _ _ _ _ _ v) (byte_set (rw e at f)))

pub twenty : {l : List ℕ} {at n q : ℕ} {m : List ℕ} → n < 2 ^ 64 → Wrote l at (decimal n) q m → q ≤ at + 20
twenty {n = n} h w = let d = decimal_length 19 n (omega arith) in omega arith
