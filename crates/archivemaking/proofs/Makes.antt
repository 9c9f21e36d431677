-- The numbers of a making line: both shares have at most nine digits; and the making by what is read of the line. Laws.
use mathlib.Core.Path.{◌≡◌, refl, ap, subst, ◌∙◌}
use mathlib.Core.Bool.{false≢true}
use mathlib.Core.Option.{some}
use mathlib.Core.List.{List, [], ◌∷◌}
use Prim.Native.Nat.{ℕ, ◌<◌}
use lib.Ieee.{Float}
use Rattle.std.specs.Prelude.{Option, Some, None}
use Rattle.text.specs.Numbers.{decimal_of}
use Rattle.text.specs.Pieces.{pieces}
use Rattle.text.proofs.Sizes.{number_small}
use Rattle.form.specs.Rows.{is_there}
use Rattle.form.specs.Making.{sixteenths_of}
use Rattle.std.specs.Prelude.{Result, Err}
use Rattle.refusals.specs.declared.Refusal.{Refusal}
use Rattle.refusals.specs.declared.Refusal.TheVariants.{OutOfForm}
use Rattle.samplerplustree.specs.declared.SamplerPlusTree.{SamplerPlusTree}
use Rattle.samplerplustree.specs.Making.{SampledMade}
use Rattle.archivehead.specs.Head.{ArchiveMaking, archive_making_by, archive_making_of, making_of_line, making_says}
use Rattle.archivehead.specs.declared.MakingLine.{MakingLine}
use Rattle.archivemaking.specs.Makes.{Room, MadeBy}

-- ---- shares below 10^9
abbrev Few : ArchiveMaking → Type 0
Few m = (m.cached < 1000000000) × (m.initial < 1000000000)

by_four : (p q : List ℕ) (x y z w : Option ℕ) → decimal_of p ≡ z → decimal_of q ≡ w → (m : ArchiveMaking) → archive_making_by x y z w ≡ some m → Few m
by_four p q None y z w e f m h = absurd (false≢true (ap is_there h))
by_four p q (Some x) None z w e f m h = absurd (false≢true (ap is_there h))
by_four p q (Some x) (Some y) None w e f m h = absurd (false≢true (ap is_there h))
by_four p q (Some x) (Some y) (Some z) None e f m h = absurd (false≢true (ap is_there h))
by_four p q (Some x) (Some y) (Some z) (Some w) e f m h =
    let g : record { channels = x; capacity = y; cached = z; initial = w } ≡ m = cc in
    subst Few g (number_small p z e, number_small q w f)

few_shares : (ps : List (List ℕ)) (m : ArchiveMaking) → archive_making_of ps ≡ some m → Few m
unfolding archive_making_of
few_shares [] m h = absurd (false≢true (ap is_there h))
few_shares (a ∷ []) m h = absurd (false≢true (ap is_there h))
few_shares (a ∷ b ∷ []) m h = absurd (false≢true (ap is_there h))
few_shares (a ∷ b ∷ c ∷ []) m h = absurd (false≢true (ap is_there h))
few_shares (a ∷ b ∷ c ∷ d ∷ []) m h = by_four c d (decimal_of a) (decimal_of b) (decimal_of c) (decimal_of d) refl refl m h
few_shares (a ∷ b ∷ c ∷ d ∷ e ∷ ps) m h = absurd (false≢true (ap is_there h))

-- ---- by what is answered of the line s
module _ (s : List ℕ) (l : Option MakingLine) (e : making_of_line s ≡ making_says l) where
  pub not_made : l ≡ None → (R : Room) → MadeBy (making_of_line s) R R (Err OutOfForm)
  not_made n R = rw (e, n) (refl, refl)

  module _ (m : MakingLine) (n : l ≡ Some m) where
    pub few : (m.cached < 1000000000) × (m.initial < 1000000000)
    few = few_shares (pieces 32 s) (record { channels = m.channels; capacity = m.capacity; cached = m.cached; initial = m.initial }) (e ∙ ap making_says n)

    pub made : {d c : ℕ} {f g : Float} → d ≡ m.channels → c ≡ m.capacity → f ≡ sixteenths_of m.cached → g ≡ sixteenths_of m.initial → (before after : Room) (r : Result SamplerPlusTree Refusal)
        → SampledMade d c f g before.arrays after.arrays before.weights after.weights before.held after.held r → MadeBy (making_of_line s) before after r
    made D C F G before after r M = rw (e, n) (rw (D, C, F, G) at M)
