-- Cases on a test, and laws of tests.
use mathlib.Core.Path.{◌≡◌, refl}
use mathlib.Core.Bool.{Bool, true, false, cond, not, ◌&&◌, ◌||◌}
use Prim.Native.Nat.{ℕ, ◌≤◌}
use native.Mathlib.Omega.{arith}
-- a case for each answer of a test
pub use borrow.Table.Steps.{cases as by-test}

pub by_cond : {A : Type 0} (P : A → Type 0) (b : Bool) (x y : A) → (b ≡ true → P x) → (b ≡ false → P y) → P (cond b x y)
by_cond P true x y f g = f refl
by_cond P false x y f g = g refl

-- from two constructors that are equal, as `cc` finds them
pub nonsense : {A : Type 0} → ◌≡◌ {A = ℕ} 0 1 → A
nonsense e = absurd (omega arith)

pub clash : {A : Type 0} (b : Bool) → b ≡ true → b ≡ false → A
clash b p q = nonsense (cc)

pub cond_true : {A : Type 0} (b : Bool) (x y : A) → b ≡ true → cond b x y ≡ x
cond_true b x y e = rw e

pub cond_false : {A : Type 0} (b : Bool) (x y : A) → b ≡ false → cond b x y ≡ y
cond_false b x y e = rw e

pub at_most_one : (b : Bool) → cond {A = ℕ} b 1 0 ≤ 1
at_most_one b = by_cond (λ x. x ≤ 1) b _ _ (λ _. omega arith) (λ _. omega arith)

-- the test of a parting cut, by its two cases
pub by_parts : {P : Type 0} (a b c : Bool) → (a && not b) || (c && not a) ≡ true → (a ≡ true → b ≡ false → P) → (a ≡ false → c ≡ true → P) → P
by_parts true true true e f g = clash false e refl
by_parts true true false e f g = clash false e refl
by_parts true false c e f g = f refl refl
by_parts false b true e f g = g refl refl
by_parts false b false e f g = clash false e refl
