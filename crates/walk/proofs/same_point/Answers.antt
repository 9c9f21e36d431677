-- `same_point` meets its contract: the channels passed are equal, and so are those beyond the tree's. Assumes nothing.
use borrow.Author.Rules.{rules}
use native.Mathlib.Omega.{arith}
use mathlib.Core.Path.{◌≡◌, refl, sym, ap, ◌∙◌}
use mathlib.Core.Bool.{Bool, ◌&&◌, and-true, and_assoc}
use mathlib.Core.List.{List}
use Prim.Native.Nat.{ℕ, zero, suc, ◌+◌, ◌≤◌}
use lib.Dec.{T}
use lib.Ieee.{Float, eq}
use Rattle.std.specs.List.{list_all, range_with_len}
use Rattle.std.proofs.lemmas.Iterator.{YieldsList-from_range}
use Rattle.std.proofs.lemmas.Iterator.Search.{all_from_yields_List}
use Rattle.limits.specs.Limits.{width}
use Rattle.readings.specs.Number.{nought}
use Rattle.boundingbox.specs.Ends.{channel}
use Rattle.boundingbox.specs.Contained.{every}
use Rattle.boundingbox.specs.Padding.{Padded}
use Rattle.boundingbox.proofs.Every.{every_more, every_next}
use Rattle.wholetree.specs.Reading.{same_row}
use borrow.Author.Tests.{tests}
use Rattle.walk.proofs.same_point.Goals as goal

nought_same : T (eq nought nought)
unfolding eq
nought_same = tt

same_padded : (a b : List Float) (d : ℕ) → d ≤ width → Padded a d width → Padded b d width → same_row a b ≡ every (λ (j : ℕ). eq (channel a j) (channel b j)) d
unfolding same_row
same_padded a b d l p q = every_more _ d width l (λ i g h. rw (p i g h, q i g h) nought_same)

-- the numbers from 0 on pass a test in turn where all channels do
in_turn : (p : ℕ → Bool) (n a : ℕ) → (every p a && list_all p (range_with_len a n)) ≡ every p (a + n)
in_turn p zero a = let e : a ≡ a + 0 = omega arith in and-true (every p a) ∙ ap (every p) e
in_turn p (suc n) a =
    let L = list_all p (range_with_len (a + 1) n) in
    let e : a + 1 + n ≡ a + suc n = omega arith in
    sym (and_assoc (every p a) (p a) L) ∙ ap (λ b. b && L) (sym (every_next p a)) ∙ in_turn p n (a + 1) ∙ ap (every p) e

from_first : (p : ℕ → Bool) (n : ℕ) → list_all p (range_with_len 0 n) ≡ every p n
unfolding every
from_first p n = let e : 0 + n ≡ n = omega arith in in_turn p n 0 ∙ ap (every p) e

pub returns : goal.returns
returns c = let a = c.args in
    all_from_yields_List (λ (j : ℕ). eq (channel a.a.now j) (channel a.b.now j)) _ _ c.all.result c.all.ensures.ran (YieldsList-from_range 0 a.dimensions a.dimensions refl (omega arith)) (λ x b q k. search (rules, tests)) ∙ from_first _ _ ∙ sym (same_padded _ _ _ c.requires.narrow c.requires.padded.0 c.requires.padded.1)
