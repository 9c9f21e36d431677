-- The ends of a tree's boxes as rows of floats: growing the rows channel by channel is growing the ends. Assumes nothing.
use mathlib.Core.Path.{◌≡◌, refl, sym, ap, ◌∙◌}
use mathlib.Core.List.{List, [], ◌∷◌}
use Prim.Native.Nat.{ℕ, zero, suc, ◌<◌}
use lib.Ieee.{Float, nan, le}
use Rattle.limits.specs.Limits.{width}
use Rattle.boundingbox.specs.Ends.{joined, least as least_float, greatest as greatest_float}
use Rattle.cuttree.specs.Tree.{Tree, lo, hi, least, most}
use Rattle.cuttree.proofs.Orders.{End, least_end as least-of, most_end as most-of}
use Rattle.readings.specs.Number.{Number}
use Rattle.wholetree.specs.Reading.{Reading, coordinate}
use Rattle.wholetree.specs.Whole.{whole, tab, ends}
use Rattle.wholetree.proofs.Boxes.{least_is, most_is}
use Rattle.wholetree.proofs.Readings.{row_length, coordinate_is}
use Rattle.wholetree.proofs.Laws.{whole_laws}
use Rattle.layout.specs.Slots.{box_ends}
use Rattle.layout.proofs.Tabs.{is_tab, same_tab}

pub tab_same : {A : Type 0} (n : ℕ) (f g : ℕ → A) → ((i : ℕ) → i < n → f i ≡ g i) → tab n f ≡ tab n g
tab_same n f g h = same_tab (f 0) n f g h

joined_tab : (m : Float → Float → Float) (n : ℕ) (f g : ℕ → Float) → joined m (tab n f) (tab n g) ≡ tab n (λ (i : ℕ). m (f i) (g i))
unfolding tab joined
joined_tab m zero f g = refl
joined_tab m (suc n) f g = ap (λ (l : List Float). m (f 0) (g 0) ∷ l) (joined_tab m n (λ (i : ℕ). f (suc i)) (λ (i : ℕ). g (suc i)))

-- boxes end by end
pub both : {a b x y : List Float} → a ≡ x → b ≡ y → a ∷ b ∷ [] ≡ x ∷ y ∷ []
both p q = cc

pub box_by : (d c : ℕ) (t u : Tree (whole d)) → ((i : ℕ) → i < width → lo (whole d) t i ≡ lo (whole d) u i) → ((i : ℕ) → i < width → hi (whole d) t i ≡ hi (whole d) u i) → box_ends d c t ≡ box_ends d c u
box_by d c t u low high = both (tab_same width _ _ (λ i l. ap (λ (x : Number). x.value) (low i l))) (tab_same width _ _ (λ i l. ap (λ (x : Number). x.value) (high i l)))

module _ (d : ℕ) where
  -- the lower and the upper ends of boxes
  pub least_end : End (whole d) (least (whole d)) (λ a b. le a.value b.value)
  least_end = least-of (whole d) (whole_laws d)

  pub most_end : End (whole d) (most (whole d)) (λ a b. le b.value a.value)
  most_end = most-of (whole d) (whole_laws d)

  pub least_ends : (f g : ℕ → Number) → joined least_float (ends f) (ends g) ≡ ends (λ (i : ℕ). least (whole d) (f i) (g i))
  least_ends f g = joined_tab least_float width (λ (i : ℕ). (f i).value) (λ (i : ℕ). (g i).value) ∙ tab_same width _ _ (λ i _. sym (least_is d (f i) (g i)))

  pub most_ends : (f g : ℕ → Number) → joined greatest_float (ends f) (ends g) ≡ ends (λ (i : ℕ). most (whole d) (f i) (g i))
  most_ends f g = joined_tab greatest_float width (λ (i : ℕ). (f i).value) (λ (i : ℕ). (g i).value) ∙ tab_same width _ _ (λ i _. sym (most_is d (f i) (g i)))

-- a reading's row is its coordinates
pub row_ends : (p : Reading) → p.row ≡ ends (coordinate p)
row_ends p = is_tab nan width (λ (i : ℕ). (coordinate p i).value) p.row (row_length p) (λ i l. sym (coordinate_is p i l))
