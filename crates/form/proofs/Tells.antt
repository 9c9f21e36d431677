-- The form that is answered tells what the text is read as. Assumes nothing.
use mathlib.Core.Path.{◌≡◌, refl, ap, ◌∙◌}
use mathlib.Core.List.{List}
use mathlib.Core.Bool.{Bool, true, false, true≢false, false≢true}
use Prim.Native.Nat.{ℕ}
use Rattle.form.specs.Form.{Parsed, bad, read, parsed, form_from, form_of, ReadWith, FormTells}
use Rattle.form.specs.declared.BadRow.{BadRow}
use Rattle.std.specs.Prelude.{Result, Ok, Err}
use Rattle.form.specs.Form.{first_bad}

number : Result ℕ BadRow → ℕ
number (Ok n) = n
number (Err b) = b.row

is_good : Result ℕ BadRow → Bool
is_good (Ok n) = true
is_good (Err b) = false

told_bad : (p : Parsed) (r : ℕ) → form_from p ≡ first_bad r → p ≡ bad r
unfolding number is_good
told_bad (bad k) r e = ap bad (ap number e)
told_bad (read m os) r e = absurd (true≢false (ap is_good e))

told_good : (p : Parsed) (n : ℕ) → form_from p ≡ Ok n → ReadWith p n
unfolding number is_good
told_good (bad k) n e = absurd (false≢true (ap is_good e))
told_good (read m os) n e = record { making = m; ops = os; is = refl; many = ap number e }

pub form_tells : (t : List ℕ) → FormTells t
unfolding form_of
form_tells t = record {
  bad_is = told_bad (parsed t);
  is_bad = λ r e. ap form_from e;
  good_is = told_good (parsed t);
  is_good = λ n w. ap form_from w.is ∙ ap Ok w.many;
}
