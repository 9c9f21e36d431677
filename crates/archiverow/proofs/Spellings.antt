-- A row that names its words says what the row with the words written out says. Assumes nothing.
use mathlib.Core.Path.{◌≡◌, refl, sym, ap, ◌∙◌}
use mathlib.Core.Bool.{true, false, or-true}
use mathlib.Core.List.{List, [], ◌∷◌}
use Prim.Native.Nat.{ℕ}
use native.Mathlib.Omega.{arith}
use borrow.Author.Tests.{ne_eqb}
use lib.ListN.{length, drop, length-map}
use Rattle.std.specs.Prelude.{Option}
use Rattle.std.specs.Prelude.{Some, None}
use Rattle.text.specs.Numbers.{digit_value, digits_from, decimal_of}
use Rattle.form.specs.Rows.{are_words}
use Rattle.namedwords.specs.Named.{is_named, row_words, is_beyond}
use Rattle.namedwords.proofs.Words.{not_beyond, named_had, words_long}
use Rattle.archiverow.specs.Rows.{words_in, weight_in, given_in, is_arrival, arrival_by, row_by, row_of_fields}
use Rattle.archiverow.specs.Spellings.{NamedAsWritten}

-- an arrival by what its rest's fields tell
told_alike : (n : Option ℕ) (ps qs : List (List ℕ)) → is_arrival ps ≡ is_arrival qs → is_beyond (drop 1 ps) ≡ is_beyond (drop 1 qs) → weight_in ps ≡ weight_in qs → given_in (drop 1 ps) ≡ given_in (drop 1 qs)
    → arrival_by n ps ≡ arrival_by n qs
told_alike None ps qs a b w g = refl
told_alike (Some i) ps qs a b w g = rw (a, b, w, g)

-- so many fields name no words
not_named : (xs : List (List ℕ)) → length xs ≡ row_words → is_named xs ≡ false
unfolding is_named
not_named xs e = let n : length xs ≡ 2 → ⊥ = λ q. omega arith in rw (ne_eqb _ _ n)

-- both are arrivals where the weight is in form
arrival_named : (w key first : List ℕ) (xs : List (List ℕ)) → is_named (key ∷ first ∷ []) ≡ true → are_words xs ≡ true → length xs ≡ row_words
    → is_arrival (w ∷ key ∷ first ∷ []) ≡ is_arrival (w ∷ xs)
unfolding is_arrival
arrival_named w key first [] n a e = absurd (omega arith)
arrival_named w key first (x ∷ xs) n a e = rw (n, or-true, a)

pub named_as_written : NamedAsWritten
unfolding row_of_fields row_by decimal_of digits_from digit_value
named_as_written i w key first xs n b a e =
    let qs = key ∷ first ∷ [] in
    let long : length xs ≡ row_words = sym (length-map xs _) ∙ ap length e ∙ words_long _ _ row_words in
    let none = not_named xs long in
    let given : given_in xs ≡ words_in xs = rw none in
    told_alike (decimal_of i) (w ∷ qs) (w ∷ xs) (arrival_named w key first xs n a long) (b ∙ not_beyond xs (sym none) refl) refl (rw n (named_had qs n (sym b) refl ∙ sym e ∙ sym given))
