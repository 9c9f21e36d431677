-- A text in form by its lines, and the numbers of its making. Laws.
use mathlib.Core.Path.{◌≡◌, refl, sym, ap, subst, ◌∙◌}
use mathlib.Core.Bool.{Bool, true, false, false≢true}
use mathlib.Core.Option.{some}
use mathlib.Core.List.{List, [], ◌∷◌}
use Prim.Native.Nat.{ℕ, ◌+◌, ◌-◌, ◌≤◌, ◌<◌}
use native.Mathlib.Omega.{arith}
use borrow.Author.Tests.{leb-true, leb-false}
use lib.Dec.{leb}
use lib.Ieee.{Float}
use lib.ListN.{length, take, drop}
use Rattle.std.specs.Prelude.{Option, Some, None, Result, Ok, Err}
use Rattle.text.specs.Numbers.{decimal_of}
use Rattle.text.specs.Pieces.{pieces, pieces_from, PieceEnds}
use Rattle.text.proofs.Sizes.{number_small}
use Rattle.form.specs.Rows.{is_there}
use Rattle.form.specs.Making.{Making, making_of, making_by, making_says, sixteenths_of}
use Rattle.form.specs.declared.Making as Read
use Rattle.form.specs.declared.BadRow.{BadRow}
use Rattle.form.specs.Form.{op_rows, rows_from, bad, parsed, form_of}
use Rattle.form.specs.Lines.{FirstLines}
use Rattle.form.proofs.Blocks.{form_long, form_one, form_two, form_three}
use Rattle.form.proofs.Tells.{form_tells}
use Rattle.form.proofs.Read.{read_not_bad, read_blocks, read_lines}
use Rattle.lines.specs.Lines.{refused_line, Wrote}
use Rattle.treelist_text.specs.Output.{output_by, output, listed_by}
use Rattle.treelist_text.specs.Running.{InForm}

-- ---- by the form that is answered
pub bad_output : (t : List ℕ) (f : Result ℕ BadRow) (b : BadRow) → f ≡ form_of t → f ≡ Err b → {l : List ℕ} {q : ℕ} {o : List ℕ} → Wrote l 0 (refused_line 17 b.row) q o → Wrote l 0 (output t) q o
bad_output t f b e h w = let z : parsed t ≡ bad b.row = (form_tells t).bad_is b.row (sym e ∙ h) in rw z w

pub in_form_lem : (t : List ℕ) (f : Result ℕ BadRow) (n : ℕ) → f ≡ form_of t → f ≡ Ok n → InForm t
in_form_lem t f n e g = let z = (form_tells t).good_is n (sym e ∙ g) in record { making = z.making; ops = z.ops; is = z.is }

-- ---- three numbers below 10^9
by_three : (p : List ℕ) (x y z : Option ℕ) → decimal_of p ≡ z → (m : Making) → making_by x y z ≡ some m → m.sixteenths < 1000000000
by_three p None y z e m h = absurd (false≢true (ap is_there h))
by_three p (Some x) None z e m h = absurd (false≢true (ap is_there h))
by_three p (Some x) (Some y) None e m h = absurd (false≢true (ap is_there h))
by_three p (Some x) (Some y) (Some z) e m h =
    let g : record { channels = x; capacity = y; sixteenths = z } ≡ m = cc in
    subst (λ (n : Making). n.sixteenths < 1000000000) g (number_small p z e)

few_sixteenths : (ps : List (List ℕ)) (m : Making) → making_of ps ≡ some m → m.sixteenths < 1000000000
unfolding making_of
few_sixteenths [] m h = absurd (false≢true (ap is_there h))
few_sixteenths (a ∷ []) m h = absurd (false≢true (ap is_there h))
few_sixteenths (a ∷ b ∷ []) m h = absurd (false≢true (ap is_there h))
few_sixteenths (a ∷ b ∷ c ∷ []) m h = by_three c (decimal_of a) (decimal_of b) (decimal_of c) refl m h
few_sixteenths (a ∷ b ∷ c ∷ d ∷ ps) m h = absurd (false≢true (ap is_there h))

-- ---- what the making's row is answered to be
module _ (ps : List (List ℕ)) (r : Option Read.Making) (e : making_of ps ≡ making_says r) where
  pub no_making : (m : Making) → making_of ps ≡ some m → r ≡ None → ⊥
  no_making m h n = false≢true (ap is_there (sym (e ∙ ap making_says n) ∙ h))

  module _ (m : Read.Making) (n : r ≡ Some m) where
    pub few : m.sixteenths < 1000000000
    few = few_sixteenths ps (record { channels = m.channels; capacity = m.capacity; sixteenths = m.sixteenths }) (e ∙ ap making_says n)

    pub by_making : (t : List ℕ) (F : InForm t) → making_of ps ≡ some F.making → (d c : ℕ) (s : Float) → d ≡ m.channels → c ≡ m.capacity → s ≡ sixteenths_of m.sixteenths → {l : List ℕ} {q : ℕ} {o : List ℕ}
        → Wrote l 0 (output_by d c (listed_by d c s) F.ops) q o → Wrote l 0 (output t) q o
    by_making t F h d c s D C S w =
        let f : some (record { channels = m.channels; capacity = m.capacity; sixteenths = m.sixteenths }) ≡ some F.making = sym (e ∙ ap making_says n) ∙ h in
        let g : record { channels = m.channels; capacity = m.capacity; sixteenths = m.sixteenths } ≡ F.making = cc in
        rw (F.is, ← g) (rw (D, C, S) at w)

-- ---- the first three lines of a text in form end in a line feed each
module _ (s : List ℕ) (F : InForm s) where
  pub short : length s ≤ 32768
  short = go (leb (length s) 32768) refl
    where
      go : (b : Bool) → leb (length s) 32768 ≡ b → length s ≤ 32768
      go true e = leb-true _ _ e
      go false e = absurd (read_not_bad s F.is (form_long s (leb-false _ _ e)))

  module _ (a : ℕ) (wa : PieceEnds 10 s 0 a) where
    first_ends : a ≡ length s → ⊥
    first_ends h = read_not_bad s F.is (form_one s short wa h)

    pub after_first : a + 1 ≤ length s
    after_first = let n = first_ends in omega (arith, wa.most)

    module _ (b : ℕ) (wb : PieceEnds 10 s (a + 1) b) where
      second_ends : b ≡ length s → ⊥
      second_ends h = read_not_bad s F.is (form_two s short wa first_ends wb h)

      pub after_second : b + 1 ≤ length s
      after_second = let n = second_ends in omega (arith, wb.most)

      module _ (c : ℕ) (wc : PieceEnds 10 s (b + 1) c) where
        third_ends : c ≡ length s → ⊥
        third_ends h = read_not_bad s F.is (form_three s short wa first_ends wb second_ends wc h)

        pub after_third : c + 1 ≤ length s
        after_third = let n = third_ends in omega (arith, wc.most)

        first_lines : FirstLines s a b c
        first_lines = record { first = wa; second = wb; third = wc; more = omega (arith, after_third) }

        -- the making of the second line
        pub making_is : making_of (pieces 32 (take (b - (a + 1)) (drop (a + 1) s))) ≡ some F.making
        making_is = (read_lines first_lines (read_blocks s F.is)).0

        -- the op rows of the lines from the fourth on
        pub rows_are : rows_from 0 (pieces_from 10 s (c + 1)) ≡ op_rows F.ops
        rows_are = (read_lines first_lines (read_blocks s F.is)).1
