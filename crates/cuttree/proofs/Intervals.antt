-- The free numbers, as the index manager keeps them: its laws in the form in which numbers are added up here.
use mathlib.Core.Path.{◌≡◌, refl, ◌∙◌}
use mathlib.Core.List.{List, [], ◌∷◌}
use mathlib.Core.Logic.{◌≢◌}
use Prim.Native.Nat.{ℕ, suc, ◌+◌, ◌≤◌, ◌<◌}
use native.Mathlib.Numerals.{add-one}
use native.Mathlib.Omega.{arith}
use lib.ListN.{length}
use borrow.Author.Tests.{eq-eqb, ne_eqb}
use Rattle.intervalstoremanager.specs.Stack as Stack
use Rattle.intervalstoremanager.specs.Stack.{next, after_get, after_release, holds, sizes, Proper}
use Rattle.intervalstoremanager.proofs.Counts as Counts
use Rattle.intervalstoremanager.proofs.Sizes as Sizes
use Rattle.cuttree.specs.Tree.{is}

pub is_same : (n : ℕ) → is n n ≡ 1
is_same n = rw (eq-eqb n n refl)

pub is_other : (a b : ℕ) → a ≢ b → is a b ≡ 0
is_other a b h = rw (ne_eqb a b h)

-- each interval has a number
pub length_sizes : (n : ℕ) (u : List (ℕ × ℕ)) → Proper n u → length u ≤ sizes u
unfolding Proper sizes
length_sizes n [] p = omega arith
length_sizes n (x ∷ u) p = omega (arith, p.0, length_sizes n u p.2)

pub holds_get : (n : ℕ) (u : List (ℕ × ℕ)) (j : ℕ) → Proper n u → 0 < sizes u → holds u j ≡ is (next u) j + holds (after_get u) j
unfolding Stack.is
holds_get n u j p h = Counts.holds_get n u j p (Sizes.some_interval u h)

pub sizes_get : (n : ℕ) (u : List (ℕ × ℕ)) → Proper n u → 0 < sizes u → sizes u ≡ suc (sizes (after_get u))
sizes_get n u p h = Sizes.sizes_get n u p (Sizes.some_interval u h) ∙ add-one (sizes (after_get u))

pub holds_release : (n : ℕ) (u : List (ℕ × ℕ)) (i j : ℕ) → Proper n u → holds (after_release u i) j ≡ is i j + holds u j
unfolding Stack.is
holds_release n u i j p = Counts.holds_release n u i j p
