-- Document 01's tree has the laws that the cut tree's theorems ask for.
use mathlib.Core.Path.{◌≡◌, sym, ap, ◌∙◌, subst}
use mathlib.Core.Bool.{true, false}
use Prim.Native.Nat.{ℕ, ◌%◌, ◌^◌, ◌<◌}
use native.Mathlib.Nat.{mod-lt}
use lib.Pow.{pow_pos}
use Rattle.limits.specs.Limits.{width}
use Rattle.boundingbox.specs.Contained.{contains}
use Rattle.cut.specs.Document.{document_cut}
use Rattle.cut.proofs.AsDocument.{as_document}
use Rattle.cut.proofs.Within.{leaf_parts}
use Rattle.cuttree.specs.Setting.{Laws, parts}
use Rattle.cuttree.proofs.Tests.{by-test, clash}
use Rattle.readings.specs.Number.{Number}
use Rattle.wholetree.specs.Reading.{Reading, coordinate, same_row}
use Rattle.wholetree.specs.Whole.{ends, whole}
use Rattle.wholetree.specs.Box.{CoordinateBox, parted_in}
use Rattle.readings.proofs.Ordered.{le_refl, le_trans, le_total, le_antisym}
use Rattle.wholetree.proofs.Readings.{coordinate_at, coordinate_is, coordinate_beyond, same_channels, same_refl, same_cong, same_at}
use Rattle.wholetree.proofs.Draws.{are_readings_lem, held, parted_in_lem}

-- a leaf's box is its reading
pub leaf_box : (q : Reading) → CoordinateBox (coordinate q) (coordinate q)
leaf_box q = record {
  lower = coordinate_at q;
  upper = coordinate_at q;
  ordered = λ i. le_refl (coordinate q i);
  beyond_lower = coordinate_beyond q;
  beyond_upper = coordinate_beyond q;
}

-- and holds no other reading
only_itself : (p q : Reading) → same_row q.row p.row ≡ false → contains (ends (coordinate q)) (ends (coordinate q)) p.row p.row width ≡ false
only_itself p q s = by-test (contains (ends (coordinate q)) (ends (coordinate q)) p.row p.row width) (λ t. clash (same_row q.row p.row) (same t) s) (λ t. t)
  where
    same : contains (ends (coordinate q)) (ends (coordinate q)) p.row p.row width ≡ true → same_row q.row p.row ≡ true
    same t =
        let e : q ≡ p = same_channels q p (λ i h. let k = held (leaf_box q) p t i in sym (coordinate_is q i h) ∙ ap (λ (n : Number). n.value) (le_antisym (coordinate q i) (coordinate p i) k.0 k.1) ∙ coordinate_is p i h) in
        subst (λ (r : Reading). same_row q.row r.row ≡ true) e (same_refl q)

-- so a cut drawn there parts
parts_leaf : (d : ℕ) (p q : Reading) (w : ℕ) → same_row q.row p.row ≡ false → parts (whole d) ((whole d).draw (coordinate q) (coordinate q) p w) (coordinate q) (coordinate q) p ≡ true
unfolding document_cut
parts_leaf d p q w s =
    let v = w % 2 ^ 64 in
    let h : v < 2 ^ 64 = mod-lt w (pow_pos 64) in
    let R = are_readings_lem (leaf_box q) p in
    let o = only_itself p q s in
    parted_in_lem (leaf_box q) p d v h
    ∙ ap parted_in (as_document width (ends (coordinate q)) (ends (coordinate q)) p.row v R h)
    ∙ rw o (leaf_parts width (ends (coordinate q)) p.row v R o h)

pub whole_laws : (d : ℕ) → Laws (whole d)
whole_laws d = record {
  le_trans = le_trans;
  le_total = le_total;
  le_antisym = le_antisym;
  same_refl = same_refl;
  same_cong = same_cong;
  same_at = same_at;
  parts_leaf = parts_leaf d;
}
