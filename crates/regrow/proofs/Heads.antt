-- The first three lines and the making: where they stand in the text, and the tree that is made. Laws.
use mathlib.Core.Bool.{true≢false}
use Rattle.std.specs.Prelude.{Result, Ok, is_ok}
use Rattle.refusals.specs.declared.Refusal.{Refusal}
use mathlib.Core.Path.{◌≡◌, sym, ap, ◌∙◌}
use mathlib.Core.Option.{Option, none, some}
use mathlib.Core.List.{List}
use Prim.Native.Nat.{ℕ, ◌≤◌, ◌<◌}
use native.Mathlib.Omega.{arith}
use lib.Ieee.{Float}
use lib.ListN.{length, take, replicate}
use lib.Seq.{length-take-le}
use Rattle.limits.specs.Limits.{point_limit}
use Rattle.layout.specs.Layout.{no_ends}
use Rattle.pointstore.proofs.Empty.{unwritten}
use Rattle.samplerplustree.specs.declared.SamplerPlusTree.{SamplerPlusTree}
use Rattle.samplerplustree.specs.State.{SomeSampled}
use Rattle.archivehead.specs.Head.{ArchiveMaking}
use Rattle.archivemaking.specs.Makes.{Room, MadeBy}
use Rattle.regrow_text.specs.Reading.{HeadEnds}

-- in the part of the text that has come
pub record Within (a b c come : ℕ) : Type 0 where
  pub first : a < b
  pub second : b < c
  pub third : c < come

pub within : (text : List ℕ) {a b c come : ℕ} → come ≤ length text → HeadEnds (take come text) a b c → Within a b c come
within text {a} {b} {c} {come} h w =
    let e : length (take come text) ≡ come = length-take-le come text h in
    record { first = omega (arith, w.second.from); second = omega (arith, w.third.from); third = omega (arith, w.within) }

-- the tree of a making that is not refused, with an unwritten table
pub some_made : (m : Option ArchiveMaking) (before after : Room) {r : Result SamplerPlusTree Refusal} (h : SamplerPlusTree) → MadeBy m before after r → r ≡ Ok h
    → (points : List (List Float)) (marks : List ℕ) → points ≡ replicate point_limit no_ends → marks ≡ replicate point_limit 0 → SomeSampled h after.arrays points marks after.weights after.held
some_made none before after h M e points marks p q = absurd (true≢false (ap is_ok (sym e ∙ M.0)))
some_made (some m) before after h M e points marks p q = record { channels = _; share = _; world = _; state = M.state h e points marks (unwritten points marks p q) }
