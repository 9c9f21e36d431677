-- The answers to recorded inputs of floats, one input more. Laws.
use mathlib.Core.Path.{◌≡◌, refl}
use mathlib.Core.List.{List}
use Prim.Native.Nat.{ℕ, ◌+◌, ◌*◌, ◌/◌, ◌≤◌, ◌<◌}
use native.Mathlib.Numerals.{add-one}
use native.Mathlib.Omega.{arith}
use lib.ListN.{length}
use Rattle.little.specs.Little.{little16, little64}
use Rattle.lines.specs.Lines.{Wrote}
use Rattle.lines.proofs.Writes.{then}
use Rattle.recorded.specs.Words.{bytes64}
use Rattle.recorded.specs.Floats.{input_bytes, value_of, values_to}
use Rattle.recorded.proofs.Stores.{nothing}

-- the answers to the first i inputs
pub record Valued (kind : ℕ) (given lent out : List ℕ) (p i : ℕ) : Type 0 where
  pub within : i ≤ length given / input_bytes
  pub place : p ≡ 8 * i
  pub wrote : Wrote lent 0 (values_to kind given i) p out

pub valued_none : (kind : ℕ) (given lent : List ℕ) → Valued kind given lent lent 0 0
unfolding values_to
valued_none kind given lent = record { within = omega arith; place = refl; wrote = nothing refl }

pub valued_next : {kind : ℕ} {given lent out : List ℕ} {p i : ℕ} → Valued kind given lent out p i → i < length given / input_bytes → (v q : ℕ) (out' : List ℕ) → v ≡ value_of kind (little64 given (input_bytes * i)) (little16 given (input_bytes * i + 8)) → Wrote out p (bytes64 v) q out' → q ≡ p + 8 → Valued kind given lent out' q (i + 1)
unfolding values_to
valued_next {kind} {given} {lent} {out} {p} {i} d h v q out' e w n = record { within = omega arith; place = omega arith; wrote = rw (add-one i) (then d.wrote (rw e at w)) }

pub valued_all : {kind : ℕ} {given lent out : List ℕ} {p i : ℕ} → Valued kind given lent out p i → length given / input_bytes ≤ i → Wrote lent 0 (values_to kind given (length given / input_bytes)) p out
valued_all {kind} {given} {lent} {out} {p} {i} d h = let z : i ≡ length given / input_bytes = omega (arith, d.within) in rw z at d.wrote

pub value_same : (kind a b x y : ℕ) → a ≡ x → b ≡ y → value_of kind a b ≡ value_of kind x y
value_same kind a b x y e f = rw (e, f)
