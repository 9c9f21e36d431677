-- A word's bytes stored, and nothing written. Laws.
use mathlib.Core.Path.{◌≡◌, refl}
use mathlib.Core.List.{List, [], ◌∷◌}
use Prim.Native.Nat.{ℕ, ◌+◌}
use native.Mathlib.Omega.{arith}
use lib.Seq.{sets}
use Rattle.little.specs.Little.{bytes32}
use Rattle.lines.specs.Lines.{Wrote}

pub stored : {l : List ℕ} {at : ℕ} {s : List ℕ} {r : ℕ} {m : List ℕ} (x : ℕ) → s ≡ sets (0 ∷ 0 ∷ 0 ∷ 0 ∷ []) 0 (bytes32 x) → Wrote l at s r m → Wrote l at (bytes32 x) r m × (r ≡ at + 4)
stored {l} {at} {s} {r} {m} x e w = let v : Wrote l at (bytes32 x) r m = rw e at w in (v, omega arith)

pub nothing : {l s : List ℕ} → s ≡ [] → Wrote l 0 s 0 l
nothing {l} {s} e = rw e (record { next = refl; left = refl })
