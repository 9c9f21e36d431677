-- What a writer leaves: one thing after another, a hexadecimal number digit by digit, and a list byte by byte. Laws.
use mathlib.Core.Path.{◌≡◌, refl}
use mathlib.Core.List.{List, [], ◌∷◌, ◌++◌}
use Prim.Native.Nat.{ℕ, suc, ◌+◌, ◌-◌, ◌/◌, ◌%◌, ◌≤◌, ◌<◌}
use native.Mathlib.Nat.{add-zero}
use native.Mathlib.Numerals.{add-one}
use native.Mathlib.Omega.{arith}
use lib.ListN.{length, get_or, take, set, length-append}
use lib.Seq.{sets, length-sets, take-suc, take_all, length-take-le}
use Rattle.lines.specs.Lines.{digit, hex, Wrote}

sets_append : (l : List ℕ) (i : ℕ) (xs ys : List ℕ) → sets l i (xs ++ ys) ≡ sets (sets l i xs) (i + length xs) ys
sets_append l i [] ys = rw (add-zero i)
sets_append l i (x ∷ xs) ys =
    let e : i + suc (length xs) ≡ suc i + length xs = omega arith in
    rw e (sets_append (set l i x) (suc i) xs ys)

pub then : {l : List ℕ} {at : ℕ} {xs : List ℕ} {q : ℕ} {m ys : List ℕ} {p : ℕ} {o : List ℕ} → Wrote l at xs q m → Wrote m q ys p o → Wrote l at (xs ++ ys) p o
then {l} {at} {xs} {q} {m} {ys} {p} {o} a b = record {
  next = rw length-append (omega arith);
  left = rw sets_append (rw (a.left, a.next) at b.left);
}

-- a buffer keeps its length
pub long : {l : List ℕ} {at : ℕ} {xs : List ℕ} {q : ℕ} {m : List ℕ} → Wrote l at xs q m → length m ≡ length l
long {l} {at} {xs} {q} {m} w = rw w.left (length-sets l at xs)

-- ONE BYTE
pub byte_set : {l m : List ℕ} {at b : ℕ} → m ≡ set l at b → Wrote l at (b ∷ []) (at + 1) m
byte_set e = record { next = refl; left = e }

pub byte_set_here : {l m : List ℕ} {at b : ℕ} → m ≡ set l (at + 0) b → Wrote l at (b ∷ []) (at + 1) m
byte_set_here {at = at} e = byte_set (rw (add-zero at) at e)

-- HEXADECIMAL NUMBERS: the last digit after the others
pub hex_none : {l : List ℕ} {at k : ℕ} (n : ℕ) → k ≡ 0 → Wrote l at (hex k n) at l × (at ≡ at + k)
unfolding hex
hex_none n e = (record { next = rw e (omega arith); left = rw e }, omega arith)

pub hex_digit : {l : List ℕ} {at : ℕ} (n : ℕ) {p b q k : ℕ} {i m : List ℕ} → (k ≡ 0 → ⊥) → Wrote l at (hex (k - 1) (n / 16)) p i → b ≡ digit (n % 16) → Wrote i p (b ∷ []) q m → Wrote l at (hex k n) q m
unfolding hex
hex_digit {l} {at} n {k = k} h v e w = let z : k ≡ suc (k - 1) = omega arith in rw z (then v (rw e at w))

-- A LIST, of which i bytes are written
pub record Copying (l : List ℕ) (at : ℕ) (s m : List ℕ) (p i : ℕ) : Type 0 where
  pub within : i ≤ length s
  pub wrote : Wrote l at (take i s) p m

pub copy_next : {l : List ℕ} {at : ℕ} {s m : List ℕ} {p i : ℕ} → Copying l at s m p i → p ≡ at + i
copy_next {l} {at} {s} {m} {p} {i} w = let k : length (take i s) ≡ i = length-take-le i s w.within in let v = w.wrote in omega arith

pub copy_step : {l : List ℕ} {at : ℕ} {s m : List ℕ} {p i : ℕ} → Copying l at s m p i → i < length s → {q : ℕ} {o : List ℕ} → Wrote m p (get_or s i 0 ∷ []) q o → Copying l at s o q (i + 1)
copy_step {l} {at} {s} {m} {p} {i} w h {q} {o} v = record { within = omega arith; wrote = rw (add-one i, take-suc s i 0) (then w.wrote v) }

pub copy_end : {l : List ℕ} {at : ℕ} {s m : List ℕ} {p i : ℕ} → Copying l at s m p i → length s ≤ i → Wrote l at s p m
copy_end {l} {at} {s} {m} {p} {i} w h = rw (take_all i s h) at w.wrote
