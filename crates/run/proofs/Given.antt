-- What a run gives of its answers' numbers, where too few bytes are lent and where all are written. Laws.
use mathlib.Core.Path.{◌≡◌, sym, ap, ◌∙◌}
use mathlib.Core.List.{List, ◌++◌}
use Prim.Native.Nat.{ℕ, ◌*◌, ◌≤◌, ◌<◌}
use native.Mathlib.Omega.{arith}
use lib.Dec.{leb}
use lib.ListN.{length, drop}
use borrow.Author.Tests.{le-leb, lt-leb}
use lib.Seq.{sets}
use Rattle.little.specs.Little.{bytes_of}
use Rattle.little.proofs.Stored.{sets_start, length_bytes}
use Rattle.cuttree.proofs.Tests.{cond_true, cond_false}
use Rattle.run.specs.Outcome.{given}

pub given_short : (ns lent : List ℕ) → length lent < 4 * length ns → (15, lent) ≡ given ns lent
given_short ns lent h = sym (cond_false (leb (4 * length ns) (length lent)) _ _ (lt-leb (4 * length ns) (length lent) h))

pub given_whole : (ns lent e : List ℕ) (r : ℕ) → r ≡ 4 * length ns → 4 * length ns ≤ length lent → e ≡ sets lent 0 (bytes_of ns) → (r, e) ≡ given ns lent
given_whole ns lent e r n h w =
    let z : length (bytes_of ns) ≤ length lent = omega (arith, length_bytes ns) in
    let y : e ≡ bytes_of ns ++ drop (4 * length ns) lent = w ∙ sets_start lent (bytes_of ns) z ∙ ap (λ (i : ℕ). bytes_of ns ++ drop i lent) (length_bytes ns) in
    rw (n, y) (sym (cond_true (leb (4 * length ns) (length lent)) _ _ (le-leb (4 * length ns) (length lent) h)))
