-- A run at its first call: the making's own number is written, and what the calls leave after it is what the run gives. Laws.
use mathlib.Core.Path.{◌≡◌, refl, sym, ap, ◌∙◌}
use mathlib.Core.List.{List, ◌∷◌}
use Prim.Native.Nat.{ℕ, ◌+◌, ◌*◌}
use native.Mathlib.Omega.{arith}
use lib.ListN.{length}
use lib.Seq.{sets, length-sets}
use Rattle.little.specs.Little.{bytes32, bytes_of}
use Rattle.little.proofs.Stored.{sets_append}
use Rattle.samplerplustree.specs.declared.SamplerPlusTree.{SamplerPlusTree}
use Rattle.runlayout.specs.Layout.{RunCall, making_width, channels, capacity, share}
use Rattle.runlayout.specs.Check.{widths}
use Rattle.runsteps.specs.Told.{told_from}
use Rattle.runsteps.specs.Standing.{Kept}
use Rattle.runsteps.proofs.Capacity.{length_all}
use Rattle.run.specs.Outcome.{given, begun}
use Rattle.run.specs.Running.{Running, Started}
use Rattle.run.proofs.Given.{given_whole}

module _ (run : List ℕ) (cs : List (RunCall (channels run))) (h : SamplerPlusTree) (k : Kept) (lent e : List ℕ) (S : Started run cs h k lent) (first : e ≡ sets lent 0 (bytes32 0)) where
  abbrev numbers : List ℕ
  numbers = told_from (channels run) (share run) (begun run) cs

  length_first : length e ≡ length lent
  length_first = ap length first ∙ length-sets lent 0 (bytes32 0)

  pub start : Running run (making_width run) 1 h k e (sets e 4 (bytes_of numbers)) (1 + widths (channels run) (capacity run) cs)
  start = record {
    world = begun run;
    calls = cs;
    standing = S.standing;
    rest = S.rest;
    room = omega (arith, S.room, length_first);
    numbers = refl;
    finish = refl;
  }

  pub gives : (r : ℕ) (last : List ℕ) → (r ≡ 1 + widths (channels run) (capacity run) cs) × (last ≡ sets e 4 (bytes_of numbers)) → (4 * r, last) ≡ given (0 ∷ numbers) lent
  gives r last f =
      let n : length numbers ≡ widths (channels run) (capacity run) cs = length_all (channels run) (capacity run) (share run) (begun run) cs refl in
      given_whole (0 ∷ numbers) lent last (4 * r) (omega (arith, f.0, n)) (omega (arith, S.room, n))
      (f.1 ∙ ap (λ (l : List ℕ). sets l 4 (bytes_of numbers)) first ∙ sym (sets_append lent 0 (bytes32 0) (bytes_of numbers)))
