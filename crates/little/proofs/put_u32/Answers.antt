-- `little::put_u32` meets its contract. Assumes nothing.
use Rattle.std.proofs.Common.{◌≡◌, ℕ, ◌+◌, ◌-◌, ◌/◌, ◌%◌, ◌≤◌, List, length, append_assoc, refl, sym, ◌∙◌, arith}
use borrow.Rule.Slice.PartMut.{put_mid}
use lib.Seq.{sets, sets-eq, drop-drop}
use Rattle.std.specs.Int.{w32, to_le_bytes}
use Rattle.little.specs.Little.{bytes32}
use Rattle.little.proofs.put_u32.Goals as goal

lowest : (x : ℕ) → to_le_bytes w32 (x % 4294967296) ≡ bytes32 x
lowest x =
    let first : x % 4294967296 % 256 ≡ x % 256 = omega arith in
    let second : x % 4294967296 / 256 % 256 ≡ x / 256 % 256 = omega arith in
    let third : x % 4294967296 / 65536 % 256 ≡ x / 65536 % 256 = omega arith in
    let fourth : x % 4294967296 / 16777216 % 256 ≡ x / 16777216 % 256 = omega arith in
    cc

put : (at k : ℕ) (xs ys : List ℕ) → k ≡ length ys → at + length ys ≤ length xs → put_mid at k xs ys ≡ sets xs at ys
put at k xs ys e h = rw (e, drop-drop (length ys) at xs, ← append_assoc) (sym (sets-eq ys xs at h))

pub returns : goal.returns
returns c =
    let a = c.args in
    let e : c.copy_from_slice.new.self ≡ bytes32 a.x = c.copy_from_slice.ensures.after ∙ rw (c.to_le_bytes-lowest.ensures ∙ lowest a.x) refl in
    rw e (put a.at (a.at + 4 - a.at) a.bytes.now (bytes32 a.x) (omega arith) c.requires)
