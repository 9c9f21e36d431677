-- Which numbers a stack holds free, and how often: each call moves one number, so that none is ever free twice. Assumes nothing.
use mathlib.Core.Path.{◌≡◌, refl}
use mathlib.Core.List.{List, [], ◌∷◌}
use Prim.Native.Nat.{ℕ, ◌+◌, ◌-◌, ◌≤◌, ◌<◌}
use native.Mathlib.Omega.{arith}
use lib.Dec.{eqb, leb, ltb}
use borrow.Author.Tests.{eq-eqb, ne_eqb, le-leb, lt-leb, le-ltb, eqb-true, eqb-false, leb-true, leb-false, ltb-true, ltb-false}
use Rattle.intervalstoremanager.specs.Stack.{fresh, next, after_get, after_release, is, within, holds, Proper, Once, GetMovesOne, ReleaseMovesOne, FreshHoldsAll, NextBelow}
use Rattle.intervalstoremanager.proofs.Tests.{by-test}

-- The two ways a number can be the same as another, and the three in which it can lie to an interval.
is_same : (i j : ℕ) → i ≡ j → is i j ≡ 1
unfolding is
is_same i j e = rw (eq-eqb i j e)

is_other : (i j : ℕ) → (i ≡ j → ⊥) → is i j ≡ 0
unfolding is
is_other i j e = rw (ne_eqb i j e)

pub inside : (a b j : ℕ) → a ≤ j → j ≤ b → within (a, b) j ≡ 1
unfolding within
inside a b j l h = rw (le-leb a j l, le-leb j b h)

pub below_start : (a b j : ℕ) → j < a → within (a, b) j ≡ 0
unfolding within
below_start a b j h = rw (lt-leb a j h)

pub after : (a b j : ℕ) → b < j → within (a, b) j ≡ 0
unfolding within
after a b j h = by-test (leb a j) (λ t. rw (t, lt-leb j b h)) (λ t. rw t)

-- An interval falls into two, and one of a single number holds that number.
split : (a b c j : ℕ) → a ≤ b + 1 → b ≤ c → within (a, c) j ≡ within (a, b) j + within (b + 1, c) j
split a b c j p q =
    by-test (leb a j)
    (λ l. let l' = leb-true a j l in by-test (leb j b)
    (λ h. let h' = leb-true j b h in omega (arith, inside a c j l' (omega arith), inside a b j l' h', below_start (b + 1) c j (omega arith)))
    (λ h. let h' = leb-false j b h in by-test (leb j c)
    (λ g. let g' = leb-true j c g in omega (arith, inside a c j l' g', after a b j h', inside (b + 1) c j (omega arith) g'))
    (λ g. let g' = leb-false j c g in omega (arith, after a c j g', after a b j h', after (b + 1) c j g'))))
    (λ l. let l' = leb-false a j l in omega (arith, below_start a c j l', below_start a b j l', below_start (b + 1) c j (omega arith)))

alone : (i j : ℕ) → within (i, i) j ≡ is i j
alone i j =
    by-test (eqb i j)
    (λ e. let e' = eqb-true i j e in omega (arith, inside i i j (omega arith) (omega arith), is_same i j e'))
    (λ e. let e' = eqb-false i j e in by-test (leb i j)
    (λ l. omega (arith, after i i j (omega (arith, leb-true i j l, e')), is_other i j e'))
    (λ l. omega (arith, below_start i i j (leb-false i j l), is_other i j e')))

pub holds_get : GetMovesOne
unfolding holds next after_get Proper
holds_get size [] j p h = absurd (omega arith)
holds_get size (x ∷ xs) j p h =
    by-test (ltb x.0 x.1)
    (λ t. rw t (omega (arith, split x.0 x.0 x.1 j (omega arith) p.0, alone x.0 j)))
    (λ t. let e : x.1 ≡ x.0 = omega (arith, ltb-false x.0 x.1 t, p.0) in rw (t, e) (omega (arith, alone x.0 j)))

pub holds_release : ReleaseMovesOne
unfolding holds after_release Proper
holds_release size [] i j p = omega (arith, alone i j)
holds_release size (x ∷ xs) i j p =
    by-test (eqb x.0 (i + 1))
    (λ s. let s' = eqb-true x.0 (i + 1) s in rw (s, s') (omega (arith, split i i x.1 j (omega arith) (omega (arith, p.0)), alone i j)))
    (λ s. by-test (eqb (x.1 + 1) i)
    (λ e. let whole = split x.0 x.1 (x.1 + 1) j (omega (arith, p.0)) (omega arith) in
    rw (s, e, ← eqb-true (x.1 + 1) i e) (omega (arith, whole, alone (x.1 + 1) j)))
    (λ e. rw (s, e) (omega (arith, alone i j))))

pub holds_fresh : FreshHoldsAll
unfolding holds fresh
holds_fresh size j =
    by-test (eqb size 0)
    (λ z. rw (z, le-ltb j size (omega (arith, eqb-true size 0 z))))
    (λ z. let z' = eqb-false size 0 z in by-test (ltb j size)
    (λ t. rw (z, t, inside 0 (size - 1) j (omega arith) (omega (arith, ltb-true j size t))))
    (λ t. rw (z, t, after 0 (size - 1) j (omega (arith, ltb-false j size t, z')))))

-- No call makes an interval empty or reach past `size`.
pub proper_fresh : (size : ℕ) → Proper size (fresh size)
unfolding Proper fresh
proper_fresh size =
    by-test (eqb size 0)
    (λ z. rw z tt)
    (λ z. let z' = eqb-false size 0 z in rw z (omega arith, omega (arith, z'), tt))

pub proper_get : (size : ℕ) (xs : List (ℕ × ℕ)) → Proper size xs → Proper size (after_get xs)
unfolding Proper after_get
proper_get size [] p = tt
proper_get size (x ∷ xs) p =
    by-test (ltb x.0 x.1)
    (λ t. rw t (omega (arith, ltb-true x.0 x.1 t), p.1, p.2))
    (λ t. rw t p.2)

pub proper_release : (size : ℕ) (xs : List (ℕ × ℕ)) (i : ℕ) → i < size → Proper size xs → Proper size (after_release xs i)
unfolding Proper after_release
proper_release size [] i h p = (omega arith, h, tt)
proper_release size (x ∷ xs) i h p =
    by-test (eqb x.0 (i + 1))
    (λ s. rw s (omega (arith, eqb-true x.0 (i + 1) s, p.0), p.1, p.2))
    (λ s. by-test (eqb (x.1 + 1) i)
    (λ e. rw (s, e) (omega (arith, eqb-true (x.1 + 1) i e, p.0), h, p.2))
    (λ e. rw (s, e) (omega arith, h, p)))

pub next_below : NextBelow
unfolding Proper next
next_below size [] p h = absurd (omega arith)
next_below size (x ∷ xs) p h = omega (arith, p.0, p.1)

-- No number becomes free twice.
pub once_fresh : (size : ℕ) → Once (fresh size)
once_fresh size j = rw (holds_fresh size j) (by-test (ltb j size) (λ t. rw t (omega arith)) (λ t. rw t (omega arith)))

pub once_get : (size : ℕ) (xs : List (ℕ × ℕ)) → Proper size xs → Once xs → Once (after_get xs)
unfolding after_get
once_get size [] p o = o
once_get size (x ∷ xs) p o = λ j. omega (arith, holds_get size (x ∷ xs) j p (omega arith), o j)

pub once_release : (size : ℕ) (xs : List (ℕ × ℕ)) (i : ℕ) → Proper size xs → Once xs → holds xs i ≡ 0 → Once (after_release xs i)
once_release size xs i p o n =
    λ j. by-test (eqb i j)
    (λ e. let e' = eqb-true i j e in rw (← e') (omega (arith, holds_release size xs i i p, is_same i i refl)))
    (λ e. omega (arith, holds_release size xs i j p, is_other i j (eqb-false i j e), o j))
