-- Whether the boxes of a walk's nodes hold the point, told by their draws: no cut where one does, and then all above it do too. Assumes nothing.
use mathlib.Core.Path.{◌≡◌}
use mathlib.Core.Bool.{true, false}
use Prim.Native.Nat.{ℕ, ◌^◌, ◌≤◌, ◌<◌}
use lib.Ieee.{le}
use Rattle.limits.specs.Limits.{width}
use Rattle.readings.specs.Number.{Number}
use Rattle.readings.proofs.Tests.{same_test}
use Rattle.readings.proofs.Ordered.{not_le}
use Rattle.boundingbox.specs.Ends.{channel}
use Rattle.boundingbox.specs.Contained.{stays, contains}
use Rattle.boundingbox.proofs.Every.{every_from}
use Rattle.cut.specs.declared.Separation.{Separation}
use Rattle.std.specs.Prelude.{Option, Some, None}
use Rattle.cut.specs.Draw.{separation}
use Rattle.cut.specs.Document.{document_cut}
use Rattle.cut.proofs.AsDocument.{as_document}
use Rattle.cuttree.specs.Tree.{Tree, lo, hi, height}
use Rattle.cuttree.specs.Walk.{sub}
use Rattle.cuttree.proofs.Tests.{by-test, nonsense}
use Rattle.cuttree.proofs.Loop.{inside_up}
use Rattle.wholetree.specs.Reading.{Reading, coordinate}
use Rattle.wholetree.specs.Whole.{whole, ends}
use Rattle.wholetree.proofs.Readings.{coordinate_is}
use Rattle.wholetree.proofs.Boxes.{tree_box}
use Rattle.wholetree.proofs.Draws.{ends_at, are_readings_lem, no_cut_holds}
use Rattle.wholetree.proofs.Laws.{whole_laws}
use Rattle.layout.specs.Slots.{low_of, high_of}
use Rattle.drawing.specs.Drawing.{holds_at}

-- what lies between the ends in each channel is held
between_held : (f g : ℕ → Number) (p : Reading) → ((i : ℕ) → (le (f i).value (coordinate p i).value ≡ true) × (le (coordinate p i).value (g i).value ≡ true))
    → contains (ends f) (ends g) p.row p.row width ≡ true
unfolding stays
between_held f g p h = same_test _ true (λ _. tt) (λ _. every_from (λ (i : ℕ). stays (channel (ends f) i) (channel (ends g) i) (channel p.row i) (channel p.row i)) width (λ i l.
    rw (ends_at f i l, ends_at g i l, ← coordinate_is p i l, ← not_le (f i) (coordinate p i), ← not_le (coordinate p i) (g i), (h i).0, (h i).1) tt))

module _ (d c : ℕ) (t : Tree (whole d)) (p : Reading) (m w : ℕ) (W : w < 2 ^ 64) where
  abbrev draw : Option Separation
  draw = separation width (low_of d c (sub (whole d) t m p)) (high_of d c (sub (whole d) t m p)) p.row w

  pub drawn_outside : (v : Separation) → draw ≡ Some v → holds_at d c t p m ≡ false
  unfolding document_cut
  drawn_outside v e = by-test (holds_at d c t p m) (λ h. nonsense (let f = rw h at (as_document width _ _ p.row w (are_readings_lem (tree_box d (sub (whole d) t m p)) p) W) in cc)) (λ h. h)

  pub held_above : (j : ℕ) → draw ≡ None → m ≤ j → j ≤ height (whole d) t p → holds_at d c t p j ≡ true
  held_above j e a b = between_held (lo (whole d) (sub (whole d) t j p)) (hi (whole d) (sub (whole d) t j p)) p (inside_up (whole d) (whole_laws d) m j p t a b (no_cut_holds (tree_box d (sub (whole d) t m p)) p d w W e))
