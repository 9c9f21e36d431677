-- Bytes stored in parts and from the start, and the bytes of numbers one after another. Laws.
use mathlib.Core.Path.{◌≡◌, refl, sym, ap, ◌∙◌}
use mathlib.Core.List.{List, [], ◌∷◌, ◌++◌}
use Prim.Native.Nat.{ℕ, suc, ◌+◌, ◌*◌, ◌≤◌}
use native.Mathlib.Nat.{add-zero, zero-add}
use native.Mathlib.Omega.{arith}
use lib.ListN.{length, set, drop}
use lib.Seq.{sets, sets-eq}
use Rattle.little.specs.Little.{bytes32, bytes_of}

pub sets_append : (zs : List ℕ) (at : ℕ) (xs ys : List ℕ) → sets zs at (xs ++ ys) ≡ sets (sets zs at xs) (at + length xs) ys
sets_append zs at [] ys = ap (λ (n : ℕ). sets zs n ys) (sym (add-zero at))
sets_append zs at (x ∷ xs) ys =
    let e : suc at + length xs ≡ at + suc (length xs) = omega arith in
    sets_append (set zs at x) (suc at) xs ys ∙ ap (λ (n : ℕ). sets (sets (set zs at x) (suc at) xs) n ys) e

pub sets_start : (ys xs : List ℕ) → length xs ≤ length ys → sets ys 0 xs ≡ xs ++ drop (length xs) ys
sets_start ys xs h = sets-eq xs ys 0 (omega arith) ∙ ap (λ (n : ℕ). xs ++ drop n ys) (zero-add (length xs))

pub length_bytes : (xs : List ℕ) → length (bytes_of xs) ≡ 4 * length xs
length_bytes [] = refl
length_bytes (x ∷ xs) = omega (arith, length_bytes xs)

pub bytes_append : (xs ys : List ℕ) → bytes_of (xs ++ ys) ≡ bytes_of xs ++ bytes_of ys
bytes_append [] ys = refl
bytes_append (x ∷ xs) ys = ap (λ (l : List ℕ). bytes32 x ++ l) (bytes_append xs ys)
