-- The tree's draw is document 01's cut on the tree's own channels, and so the paper's: the channels beyond hold +0.0 and cut nothing.
use mathlib.Core.Path.{◌≡◌, refl, sym, ap, ◌∙◌, subst}
use mathlib.Core.Bool.{Bool, false}
use Prim.Native.Nat.{ℕ, ◌^◌, ◌≤◌, ◌<◌}
use lib.Ieee.{Float}
use Rattle.limits.specs.Limits.{width}
use Rattle.boundingbox.specs.Padding.{Padded}
use Rattle.boundingbox.specs.Wholes.{Box, side, sum_to}
use Rattle.cut.specs.declared.Cut.{Cut}
use Rattle.std.specs.Prelude.{Some}
use Rattle.cut.specs.Draw.{parts_at, separation}
use Rattle.cut.specs.Document.{cut_of, document_cut}
use Rattle.cut.specs.Laws.{Readings, Padded as AllPadded}
use Rattle.cut.proofs.Stretched.{stretched}
use Rattle.cut.proofs.AsDocument.{as_document, some_side}
use Rattle.cut.proofs.Within.{within_side}
use Rattle.cut.proofs.AsPaper.{as_paper}
use Rattle.cut.proofs.Padding.{fewer, padding_cuts_nothing}
use Rattle.cuttree.specs.Tree.{Tree, end, lo, hi, All}
use Rattle.cuttree.proofs.Leaves.{all_map}
use Rattle.cuttree.proofs.Orders.{End, least_end, most_end}
use Rattle.readings.specs.Number.{Number, nought}
use Rattle.wholetree.specs.Reading.{Reading, coordinate}
use Rattle.wholetree.specs.Whole.{ends, cut_in, whole}
use Rattle.wholetree.specs.Paper.{OfChannels, holds, low_with, high_with, as_cut, PaperCut, DrawsPaperCut, TreesDrawPaperCut}
use Rattle.wholetree.proofs.Readings.{coordinate_is}
use Rattle.wholetree.proofs.Draws.{ends_at, are_readings_lem, tree_cut, draw_is}
use Rattle.wholetree.proofs.Laws.{whole_laws}
use Rattle.wholetree.proofs.Boxes.{chosen, tree_box}

module _ {d : ℕ} {lo hi : ℕ → Number} {p : Reading} (C : OfChannels d lo hi p) where
  rows_padded : AllPadded (ends lo) (ends hi) p.row d width
  rows_padded = record { fewer = C.in_row; low = C.lower; high = C.upper; point = C.point }

  readings : Readings (ends lo) (ends hi) p.row d
  readings = fewer d width (ends lo) (ends hi) p.row C.in_row (are_readings_lem C.box p)

  -- the d channels draw what the whole row draws
  pub drawn_on_channels : (w : ℕ) → w < 2 ^ 64 → separation width (ends lo) (ends hi) p.row w ≡ separation d (ends lo) (ends hi) p.row w
  drawn_on_channels w W = padding_cuts_nothing d width (ends lo) (ends hi) p.row w rows_padded (are_readings_lem C.box p) W

  module _ (w : ℕ) (W : w < 2 ^ 64) (o : holds d lo hi p ≡ false) where
    abbrev k : Cut
    k = cut_of (low_with lo p) (high_with hi p) d w

    abbrev b : Bool
    b = parts_at (ends lo) (ends hi) p.row k

    drawn_is : separation width (ends lo) (ends hi) p.row w ≡ Some (record { cut = k; parts = b })
    unfolding document_cut
    drawn_is = drawn_on_channels w W ∙ as_document d (ends lo) (ends hi) p.row w readings W ∙ rw o

    cut_is : as_cut ((whole d).draw lo hi p w) ≡ k
    cut_is =
        ap as_cut (draw_is C.box p d w W ∙ ap cut_in drawn_is)
        ∙ ap (λ (x : Float). record { dimension = k.dimension; value = x }) (tree_cut C.box p d w W (record { cut = k; parts = b }) drawn_is).value_is

    paper_cut : PaperCut d lo hi p w (cut_of (low_with lo p) (high_with hi p) d w)
    paper_cut =
        let B : Box (low_with lo p) (high_with hi p) d = stretched (ends lo) (ends hi) p.row d readings in
        let S : 0 < sum_to (side (low_with lo p) (high_with hi p)) d = some_side (ends lo) (ends hi) p.row d readings o in
        record {
          channel_below = (within_side (low_with lo p) (high_with hi p) d B w W S).channel_below;
          document = refl;
          papers = as_paper d (low_with lo p) (high_with hi p) w B S W;
        }

pub draws_paper_cut : DrawsPaperCut
draws_paper_cut d lo hi p w C o W = subst (PaperCut d lo hi p w) (sym (cut_is C w W o)) (paper_cut C w W o)

-- ---- at a tree
ends_padded : (d : ℕ) {m : Number → Number → Number} {to : Number → Number → Bool} → End (whole d) m to → (t : Tree (whole d)) → All (whole d) (λ j q n. Padded q.row d width) t → Padded (ends (end (whole d) m t)) d width
ends_padded d {m} E t h i a l =
    ends_at (end (whole d) m t) i l
    ∙ chosen d E (λ (x : Number). x.value ≡ nought) t i (all_map (whole d) (λ j q n. Padded q.row d width) (λ j q n. (coordinate q i).value ≡ nought) t (λ j q n z. coordinate_is q i l ∙ z i a l) h)

pub tree_channels : (d : ℕ) (t : Tree (whole d)) (p : Reading) → d ≤ width → All (whole d) (λ i q n. Padded q.row d width) t → Padded p.row d width → OfChannels d (lo (whole d) t) (hi (whole d) t) p
tree_channels d t p l h z = record { in_row = l; box = tree_box d t; lower = ends_padded d (least_end (whole d) (whole_laws d)) t h; upper = ends_padded d (most_end (whole d) (whole_laws d)) t h; point = z }

pub trees_draw_paper_cut : TreesDrawPaperCut
trees_draw_paper_cut d t p w l h z o W = draws_paper_cut d (lo (whole d) t) (hi (whole d) t) p w (tree_channels d t p l h z) o W
