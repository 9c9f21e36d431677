-- How many bytes are printed where an archive ends, whichever sampled tree it is. Laws.
use mathlib.Core.Path.{◌≡◌, refl}
use mathlib.Core.Option.{Option, none, some}
use mathlib.Core.List.{List, [], ◌∷◌}
use mathlib.Core.Bool.{cond}
use Prim.Native.Nat.{ℕ, ◌*◌, ◌≤◌, ◌<◌}
use native.Mathlib.Omega.{arith}
use borrow.Author.Tests.{ltb-true, ltb-false}
use lib.Dec.{eqb, ltb}
use lib.Ieee.{binary32, to_bits}
use lib.ListN.{length, length-append}
use Rattle.limits.specs.Limits.{point_limit}
use Rattle.lines.proofs.Digits.{decimal_length, hex_length}
use Rattle.sampler.specs.Heap.{total}
use Rattle.sampler.specs.Sample.{Entry}
use Rattle.cuttree.specs.Tree.{Tree, sum_of}
use Rattle.cuttree.specs.Run.{World}
use Rattle.cuttree.proofs.Intervals.{is_same}
use Rattle.cuttree.proofs.Room.{indexed, find_leaf, at_none, index_below}
use Rattle.cuttree.proofs.Tests.{by-test}
use Rattle.wholetree.specs.Whole.{whole}
use Rattle.wholetree.proofs.Laws.{whole_laws}
use Rattle.sampledtree.specs.Arrivals.{occurs}
use Rattle.randomcuttree.specs.State.{Reachable}
use Rattle.randomcuttree.proofs.Given.{sound}
use Rattle.listing.proofs.States.{printed_few}
use Rattle.archiveend.specs.End.{entry_line, entry_lines, EndFits}

-- ---- a line: 8 digits, a space, an index below 10^4 and a line feed
line_few : (bits index : ℕ) → index < 10000 → length (entry_line bits index) ≤ 14
unfolding entry_line
line_few bits index h = simp length-append (omega (arith, hex_length 8 bits, decimal_length 3 index h))

lines_few : (ks : List Entry) → ((j : ℕ) → 0 < occurs ks j → j < 10000) → length (entry_lines ks) ≤ 14 * length ks
unfolding total
lines_few [] h = omega arith
lines_few (k ∷ ks) h =
    let here = line_few (to_bits binary32 k.weight) k.index (h k.index (omega (arith, is_same k.index))) in
    let rest = lines_few ks (λ j m. h j (omega arith)) in
    rw length-append (omega (arith, here, rest))

-- ---- an index that has copies in a tree is one of the table's
module _ (d c : ℕ) where
  held_below : (W : World (whole d)) → Reachable d c W → (j : ℕ) → 0 < sum_of (whole d) (λ i q n. cond (eqb i j) n 0) (λ b. 0) W.tree → j < point_limit
  held_below W R j h = go W.tree refl
    where
      go : (o : Option (Tree (whole d))) → W.tree ≡ o → j < point_limit
      go none e = absurd (omega (arith, rw e at h))
      go (some t) e = by-test (ltb 0 (indexed (whole d) t j))
          (λ m. let (q, n, i) = find_leaf (whole d) t j (ltb-true 0 (indexed (whole d) t j) m) in index_below (whole d) c (whole_laws d) W.table t W.free (sound R e) i)
          (λ m. absurd (omega (arith, rw e at h, at_none (whole d) (λ n. n) t j (omega (arith, ltb-false 0 (indexed (whole d) t j) m)))))

-- ---- the whole
pub end_fits : EndFits
end_fits d s X h a points marks weights held S =
    let T = S.tree_is in
    let A = S.agrees in
    let kept = lines_few X.sample (λ j m. omega (arith, held_below d X.capacity X.world T.reachable j (rw (A.kept_are j) m))) in
    let tree = printed_few d X.capacity X.world T.limits.1 T.limits.3 T.reachable in
    rw (length-append, length-append) (omega (arith, kept, tree, A.room, T.limits.3))
