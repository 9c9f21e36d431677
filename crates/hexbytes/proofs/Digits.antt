-- A field by its digits: the bytes, two digits by two. Assumes nothing.
use mathlib.Core.Path.{◌≡◌, refl, sym, ap, ◌∙◌}
use mathlib.Core.Bool.{Bool, true, false, cond, ◌&&◌, false≢true}
use mathlib.Core.List.{List, [], ◌∷◌}
use Prim.Native.Nat.{ℕ, zero, suc, ◌+◌, ◌*◌, ◌≤◌, ◌<◌}
use native.Mathlib.Numerals.{add-one}
use native.Mathlib.Omega.{arith}
use borrow.Author.Tests.{ltb-true, eq-eqb, ne_eqb}
use lib.Dec.{ltb}
use lib.ListN.{length, get_or, set, take, length-set}
use lib.Seq.{take-suc, take-suc-set, take_all}
use Rattle.text.specs.Numbers.{digit_value}
use Rattle.hexbytes.specs.Hex.{are_digits, is_hex, hex_bytes, read_hex}

-- ---- the bytes
pub digit_small : (s : List ℕ) (i : ℕ) → are_digits s ≡ true → i < length s → digit_value (get_or s i 0) < 16
digit_small [] i e h = absurd (omega arith)
digit_small (x ∷ s) i e h = go (ltb (digit_value x) 16) refl e i h (digit_small s)
  where
    go : (t : Bool) → ltb (digit_value x) 16 ≡ t → (t && are_digits s) ≡ true → (j : ℕ) → j < suc (length s)
        → ((n : ℕ) → are_digits s ≡ true → n < length s → digit_value (get_or s n 0) < 16) → digit_value (get_or (x ∷ s) j 0) < 16
    go true p f zero k r = ltb-true _ _ p
    go true p f (suc j) k r = r j f (omega arith)
    go false p f j k r = absurd (false≢true f)

byte_at : (s : List ℕ) (i : ℕ) → 2 * i + 1 < length s → get_or (hex_bytes s) i 0 ≡ 16 * digit_value (get_or s (2 * i) 0) + digit_value (get_or s (2 * i + 1) 0)
unfolding hex_bytes
byte_at [] i h = absurd (omega arith)
byte_at (x ∷ []) i h = absurd (omega arith)
byte_at (x ∷ y ∷ s) zero h = refl
byte_at (x ∷ y ∷ s) (suc i) h =
    let p : 2 * suc i ≡ suc (suc (2 * i)) = omega arith in
    let q : suc (suc (2 * i)) + 1 ≡ suc (suc (2 * i + 1)) = omega arith in
    rw (p, q) (byte_at s i (omega arith))

pub bytes_long : (s : List ℕ) (n : ℕ) → length s ≡ 2 * n → length (hex_bytes s) ≡ n
unfolding hex_bytes
bytes_long [] n e = omega arith
bytes_long (x ∷ []) n e = absurd (omega arith)
bytes_long (x ∷ y ∷ s) zero e = absurd (omega arith)
bytes_long (x ∷ y ∷ s) (suc n) e = ap suc (bytes_long s n (omega arith))

-- of n lent bytes i are read
pub record Reading (s : List ℕ) (n : ℕ) (bytes : List ℕ) (i : ℕ) : Type 0 where
  pub digits : length s ≡ 2 * n
  pub long : length bytes ≡ n
  pub most : i ≤ n
  pub same : take i bytes ≡ take i (hex_bytes s)

module _ {s bytes : List ℕ} {n i : ℕ} (w : Reading s n bytes i) where
  many : length (hex_bytes s) ≡ n
  many = bytes_long s n w.digits

  pub read_byte : i < n → {v : ℕ} → v ≡ 16 * digit_value (get_or s (2 * i) 0) + digit_value (get_or s (2 * i + 1) 0) → Reading s n (set bytes i v) (i + 1)
  read_byte h {v} e =
      let l : i < length bytes = omega arith in
      let m : i < length (hex_bytes s) = omega (arith, many) in
      let f : v ≡ get_or (hex_bytes s) i 0 = e ∙ sym (byte_at s i (omega arith)) in
      record {
        digits = w.digits;
        long = rw length-set w.long;
        most = omega arith;
        same = rw (add-one i, take-suc-set bytes i v l, take-suc (hex_bytes s) i 0 m, w.same, f);
      }

  pub read_all : n ≤ i → bytes ≡ hex_bytes s
  read_all h = sym (take_all i bytes (omega arith)) ∙ w.same ∙ take_all i (hex_bytes s) (omega (arith, many))

-- ---- the whole reading
module _ (s bytes : List ℕ) where
  pub other_length : (length s ≡ 2 * length bytes → ⊥) → (false, bytes) ≡ read_hex s bytes
  unfolding read_hex
  other_length n = rw (ne_eqb _ _ n)

  module _ (e : length s ≡ 2 * length bytes) {t : Bool} (q : t ≡ are_digits s) where
    pub no_digits : t ≡ false → (false, bytes) ≡ read_hex s bytes
    unfolding read_hex
    no_digits z = rw (eq-eqb _ _ e, ← q, z)

    pub all_read : t ≡ true → (bytes' : List ℕ) → bytes' ≡ hex_bytes s → (true, bytes') ≡ read_hex s bytes
    unfolding read_hex
    all_read z bytes' w = rw (eq-eqb _ _ e, ← q, z, w)

-- what a reading answers and leaves
pub record Read (s bytes : List ℕ) (r : Bool) (bytes' : List ℕ) : Type 0 where
  pub tells : r ≡ is_hex (length bytes) s
  pub holds : r ≡ true → bytes' ≡ hex_bytes s

pub read_tells : (s bytes : List ℕ) (r : Bool) (bytes' : List ℕ) → (r, bytes') ≡ read_hex s bytes → Read s bytes r bytes'
unfolding read_hex
read_tells s bytes r bytes' = go (is_hex (length bytes) s) refl
  where
    go : (t : Bool) → is_hex (length bytes) s ≡ t → ◌≡◌ {A = Bool × List ℕ} (r, bytes') (cond t (true, hex_bytes s) (false, bytes)) → Read s bytes r bytes'
    go true h e = record { tells = ap (λ (x : Bool × List ℕ). x.0) e ∙ sym h; holds = λ _. ap (λ (x : Bool × List ℕ). x.1) e }
    go false h e = record { tells = ap (λ (x : Bool × List ℕ). x.0) e ∙ sym h; holds = λ z. absurd (false≢true (sym (ap (λ (x : Bool × List ℕ). x.0) e) ∙ z)) }
