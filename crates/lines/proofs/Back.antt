-- What is written is read back: decimal numbers of at most nine digits, and words. Laws.
use mathlib.Core.Path.{◌≡◌, refl, ap, ◌∙◌}
use mathlib.Core.List.{List, [], ◌∷◌, ◌++◌}
use mathlib.Core.Bool.{Bool, true, false, cond}
use Prim.Native.Nat.{ℕ, zero, suc, ◌+◌, ◌*◌, ◌/◌, ◌%◌, ◌^◌, ◌≤◌, ◌<◌}
use native.Mathlib.Nat.{pow-suc}
use native.Mathlib.Omega.{arith}
use borrow.Author.Tests.{ltb-true, ltb-false, lt-ltb}
use lib.ListN.{length, get_or, length-append, get_or-append}
use lib.Dec.{ltb, lit≤}
use Rattle.std.specs.Prelude.{Some, None}
use Rattle.std.proofs.lemmas.Bool.Decides.{nat_tests}
use Rattle.text.specs.Numbers.{digit_value, digits_from, decimal_of, word_of}
use Rattle.text.proofs.Numbers.{number_more, word_is}
use Rattle.lines.specs.Lines.{digit, decimal, hex}
use Rattle.lines.proofs.Digits.{digit_low, decimal_low, decimal_more, decimal_length, hex_length}

value_of_digit : (d : ℕ) → d < 16 → digit_value (digit d) ≡ d
unfolding digit digit_value
value_of_digit d h = grind (arith, nat_tests)

-- one more digit
read_snoc : (b v : ℕ) (xs : List ℕ) (x w : ℕ) → digits_from b v xs ≡ Some w → digit_value x < b → digits_from b v (xs ++ (x ∷ [])) ≡ Some (w * b + digit_value x)
unfolding digits_from
read_snoc b v [] x w e h = let g : v ≡ w = cc in rw (lt-ltb _ _ h, g)
read_snoc b v (y ∷ xs) x w e h = go (ltb (digit_value y) b) e (λ p. read_snoc b (v * b + digit_value y) xs x w p h)
  where
    go : (t : Bool) → cond t (digits_from b (v * b + digit_value y) xs) None ≡ Some w → (digits_from b (v * b + digit_value y) xs ≡ Some w → digits_from b (v * b + digit_value y) (xs ++ (x ∷ [])) ≡ Some (w * b + digit_value x))
        → cond t (digits_from b (v * b + digit_value y) (xs ++ (x ∷ []))) None ≡ Some (w * b + digit_value x)
    go true p ih = ih p
    go false p ih = let z : ◌≡◌ {A = ℕ} 0 1 = cc in absurd (omega arith)

snoc_digit : (b : ℕ) → b ≤ 16 → (xs : List ℕ) (w d : ℕ) → digits_from b 0 xs ≡ Some w → d < b → digits_from b 0 (xs ++ (digit d ∷ [])) ≡ Some (w * b + d)
snoc_digit b l xs w d e h =
    let g : digit_value (digit d) ≡ d = value_of_digit d (omega arith) in
    let k : digit_value (digit d) < b = omega arith in
    rw g at (read_snoc b 0 xs (digit d) w e k)

lone_digit : (n : ℕ) → n < 10 → digits_from 10 0 (decimal n) ≡ Some n
unfolding digits_from
lone_digit n h = rw (decimal_low n h) (snoc_digit 10 (lit≤ tt) [] 0 n refl h ∙ ap Some (omega arith))

-- the digits of n in decimal, by the number of digits
read_decimal : (k n : ℕ) → n < 10 ^ suc k → digits_from 10 0 (decimal n) ≡ Some n
read_decimal zero n h = lone_digit n h
read_decimal (suc k) n h = go (ltb n 10) refl (λ p. read_decimal k (n / 10) p)
  where
    go : (t : Bool) → ltb n 10 ≡ t → (n / 10 < 10 ^ suc k → digits_from 10 0 (decimal (n / 10)) ≡ Some (n / 10)) → digits_from 10 0 (decimal n) ≡ Some n
    go true e ih = lone_digit n (ltb-true n 10 e)
    go false e ih =
        let p : 10 ^ suc (suc k) ≡ 10 ^ suc k * 10 = pow-suc 10 (suc k) in
        rw (decimal_more n (ltb-false n 10 e)) (snoc_digit 10 (lit≤ tt) (decimal (n / 10)) (n / 10) (n % 10) (ih (omega arith)) (omega arith) ∙ ap Some (omega arith))

some_digit : (n : ℕ) → 1 ≤ length (decimal n)
some_digit n = go (ltb n 10) refl
  where
    go : (t : Bool) → ltb n 10 ≡ t → 1 ≤ length (decimal n)
    go true e = rw (decimal_low n (ltb-true n 10 e)) (omega arith)
    go false e = rw (decimal_more n (ltb-false n 10 e), length-append) (omega arith)

lone_first : (n : ℕ) → 1 ≤ n → n < 10 → get_or (decimal n) 0 0 ≡ 48 → ⊥
lone_first n l h z = let e : digit n ≡ 48 = rw (decimal_low n h) at z in omega (arith, digit_low n h)

-- no leading zero
first_digit : (k n : ℕ) → 1 ≤ n → n < 10 ^ suc k → get_or (decimal n) 0 0 ≡ 48 → ⊥
first_digit zero n l h z = lone_first n l h z
first_digit (suc k) n l h z = go (ltb n 10) refl (λ a b c. first_digit k (n / 10) a b c)
  where
    go : (t : Bool) → ltb n 10 ≡ t → (1 ≤ n / 10 → n / 10 < 10 ^ suc k → get_or (decimal (n / 10)) 0 0 ≡ 48 → ⊥) → ⊥
    go true e ih = lone_first n l (ltb-true n 10 e) z
    go false e ih =
        let m : 10 ≤ n = ltb-false n 10 e in
        let p : 10 ^ suc (suc k) ≡ 10 ^ suc k * 10 = pow-suc 10 (suc k) in
        let q : 0 < length (decimal (n / 10)) = some_digit (n / 10) in
        ih (omega arith) (omega arith) (rw (decimal_more n m, get_or-append (decimal (n / 10)) (digit (n % 10) ∷ []) 0 0 q) at z)

-- THE WAY BACK: what is written in decimal is read as the number it was, up to nine digits
pub number_decimal : (n : ℕ) → n < 1000000000 → decimal_of (decimal n) ≡ Some n
number_decimal n h = go (ltb n 10) refl
  where
    go : (t : Bool) → ltb n 10 ≡ t → decimal_of (decimal n) ≡ Some n
    go true e =
        let l : n < 10 = ltb-true n 10 e in
        let o : length (decimal n) ≡ 1 = ap length (decimal_low n l) in
        number_more (decimal n) (omega arith) (omega arith) (λ _. o) ∙ lone_digit n l
    go false e =
        let m : 10 ≤ n = ltb-false n 10 e in
        let d : length (decimal n) ≡ length (decimal (n / 10)) + 1 = rw (decimal_more n m, length-append) in
        let s = some_digit (n / 10) in
        number_more (decimal n) (omega arith) (decimal_length 8 n h) (λ z. absurd (first_digit 8 n (omega arith) h z)) ∙ read_decimal 8 n h

read_hex_lem : (k n : ℕ) → n < 16 ^ k → digits_from 16 0 (hex k n) ≡ Some n
unfolding hex digits_from
read_hex_lem zero n h = ap Some (omega arith)
read_hex_lem (suc k) n h =
    let p : 16 ^ suc k ≡ 16 ^ k * 16 = pow-suc 16 k in
    snoc_digit 16 (lit≤ tt) (hex k (n / 16)) (n / 16) (n % 16) (read_hex_lem k (n / 16) (omega arith)) (omega arith) ∙ ap Some (omega arith)

pub word_hex : (n : ℕ) → n < 2 ^ 64 → word_of (hex 16 n) ≡ Some n
word_hex n h = word_is (hex 16 n) (hex_length 16 n) ∙ read_hex_lem 16 n h
