-- `in_turn` meets its contract: of two u16s as one number the lower half is the first. Assumes nothing.
use native.Mathlib.Omega.{arith}
use mathlib.Core.Path.{◌≡◌}
use mathlib.Core.Bool.{Bool, true, false, cond}
use mathlib.Core.List.{[], ◌∷◌}
use Prim.Native.Nat.{ℕ, ◌+◌, ◌*◌, ◌/◌, ◌%◌, ◌<◌}
use Rattle.walk.proofs.in_turn.Goals as goal

halves : (a b x : ℕ) → x ≡ a + 65536 * b → a < 65536 → x % 65536 ∷ x / 65536 ∷ [] ≡ a ∷ b ∷ []
halves a b x e h =
    let l : x % 65536 ≡ a = omega arith in
    let u : x / 65536 ≡ b = omega arith in
    rw (l, u)

by_turn : (t : Bool) (a b x y z : ℕ) → x ≡ a + 65536 * b → y ≡ b + 65536 * a → a < 65536 → b < 65536 → z ≡ cond t x y → z % 65536 ∷ z / 65536 ∷ [] ≡ cond t (a ∷ b ∷ []) (b ∷ a ∷ [])
by_turn true a b x y z p q h k e = rw e (halves a b x p h)
by_turn false a b x y z p q h k e = rw e (halves b a y q k)

pub returns : goal.returns
returns c = let t = c.together.ensures in
    by_turn c.args.straight _ _ _ _ _ t.0 c.together-2.ensures.0 t.1 t.2 c.either-both.ensures
