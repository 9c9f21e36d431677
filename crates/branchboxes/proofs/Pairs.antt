-- The box around two nodes: from their boxes at hand, or from one node's box moved out to the other's. Assumes nothing.
use mathlib.Core.Path.{◌≡◌, refl, sym, ap, ap₂, ◌∙◌}
use mathlib.Core.Bool.{Bool, true, false, cond, ◌&&◌, ◌||◌}
use mathlib.Core.List.{List, [], ◌∷◌}
use Prim.Native.Nat.{ℕ, ◌-◌, ◌≤◌, ◌<◌, max}
use native.Mathlib.Omega.{arith}
use lib.Dec.{leb, ltb}
use lib.ListN.{length, get_or, set}
use lib.Ieee.{Float}
use borrow.Author.Tests.{leb-true, leb-false}
use Rattle.limits.specs.Limits.{width, capacity_limit, point_limit}
use Rattle.readings.specs.Number.{Number}
use Rattle.boundingbox.specs.declared.BoundingBox.{BoundingBox}
use Rattle.boundingbox.specs.Ends.{joined, least, greatest}
use Rattle.cuttree.specs.Tree.{lo, hi}
use Rattle.cuttree.proofs.Orders.{end_comm}
use Rattle.cuttree.proofs.Tests.{by-test, by_cond, clash, cond_true, cond_false}
use Rattle.wholetree.specs.Whole.{whole}
use Rattle.boxstore.specs.Boxed.{side_in, SomeBoxed}
use Rattle.boxstore.specs.Grown.{EndsGrownBy, SidesBox, BoxOf, SomeSides}
use Rattle.boxstore.proofs.Ends.{tab_same, least_end, most_end, least_ends, most_ends}
use Rattle.boxstore.proofs.Depths.{deep}
use Rattle.boxstore.proofs.Parts.{at_leaf, at_cached, in_table, parts, sides_box}
use Rattle.boxstore.proofs.Written.{written_cached}
use Rattle.rowboxes.specs.Rows.{hand_low, hand_high, box_of}
use Rattle.rowboxes.proofs.Rows.{pair_of, hand_true, hand_false}
use Rattle.branchboxes.specs.Pairs.{PairBox, SidesKept}

-- how deep the rows go below a branch's sides
abbrev pub deep_sides : List (List ℕ) → ℕ → ℕ → ℕ
deep_sides nodes c x = max (deep nodes c capacity_limit (side_in nodes x 0)) (deep nodes c capacity_limit (side_in nodes x 1))

-- a side goes no deeper than the deeper one
pub side_deep : (nodes : List (List ℕ)) (c node : ℕ) (g : Bool) (a b : ℕ) → a ≡ side_in nodes node 0 → b ≡ side_in nodes node 1 → deep nodes c capacity_limit (cond g b a) ≤ deep_sides nodes c node
side_deep nodes c node g a b p q = by_cond (λ x. deep nodes c capacity_limit x ≤ deep_sides nodes c node) g b a (λ _. rw q (omega arith)) (λ _. rw p (omega arith))

both_true : (g h : Bool) → (g && h) ≡ true → (g ≡ true) × (h ≡ true)
both_true true h t = (refl, t)
both_true false h t = clash false t refl

module _ (c k : ℕ) (nodes : List (List ℕ)) (points : List (List Float)) (boxes : List (List (List Float))) where
  -- the test for a box at hand
  abbrev hand : ℕ → Bool
  hand x = leb c x || ltb x k

  -- where such a box lies
  abbrev Lies : ℕ → Type 0
  Lies x = (c ≤ x → x - c < point_limit) × (x < c → x < k)

  hand_box : (x : ℕ) → hand x ≡ true → BoxOf c k x nodes points boxes (record { min_values = hand_low c x points boxes; max_values = hand_high c x points boxes })
  hand_box x t = by-test (leb c x)
      (λ e. (at_leaf c k x nodes points boxes (leb-true c x e)).whole_box _ (cond_true _ _ _ e) (cond_true _ _ _ e))
      (λ e. let l = leb-false c x e in (at_cached c k x nodes points boxes l (hand_true c k x t l)).whole_box _ (cond_false _ _ _ e) (cond_false _ _ _ e))

  -- a node that is not at hand: a branch with two sides that stand
  pub record Far (x : ℕ) : Type 0 where
    pub branch : x < c
    pub sides : SomeSides c k x nodes points boxes
    pub less : deep_sides nodes c x < deep nodes c capacity_limit x

  far : c ≤ capacity_limit → (x : ℕ) → SomeBoxed c k x nodes points boxes → hand x ≡ false → Far x
  far few x S t =
      let P = parts c k x nodes points boxes few (hand_false c k x t) S in
      record { branch = hand_false c k x t; sides = record { small = omega (arith, P.small); left_some = P.left_some; right_some = P.right_some }; less = omega (arith, P.left_less, P.right_less) }

  -- ---- one node's box moved out to the other's
  pub turned : (a b : ℕ) (r : BoundingBox) → PairBox c k b a nodes points boxes r → PairBox c k a b nodes points boxes r
  turned a b r F d l u p q bl bu =
      let w = F d u l q p bu bl in (
        w.0 ∙ tab_same width _ _ (λ i _. ap (λ (n : Number). n.value) (end_comm (whole d) (least_end d) (lo (whole d) u i) (lo (whole d) l i))),
        w.1 ∙ tab_same width _ _ (λ i _. ap (λ (n : Number). n.value) (end_comm (whole d) (most_end d) (hi (whole d) u i) (hi (whole d) l i))),
      )

  grown : (a b : ℕ) (X Y : List (List Float)) → BoxOf c k a nodes points boxes (box_of X) → EndsGrownBy c k b nodes points boxes (get_or X 0 []) (get_or X 1 []) (get_or Y 0 []) (get_or Y 1 []) → PairBox c k a b nodes points boxes (box_of Y)
  grown a b X Y F G d l u p q bl bu = let one = F d l p bl in G d u (lo (whole d) l) (hi (whole d) l) q bu one.0 one.1

  -- ---- two nodes: what is known of them, and whether each is at hand
  pub record Two (a b : ℕ) (g h : Bool) : Type 0 where
    pub left_some : SomeBoxed c k a nodes points boxes
    pub right_some : SomeBoxed c k b nodes points boxes
    pub left_hand : g ≡ hand a
    pub right_hand : h ≡ hand b

  -- the sides of a branch
  module _ (node a b : ℕ) (e : a ≡ side_in nodes node 0) (f : b ≡ side_in nodes node 1) where
    pub two_sides : (g h : Bool) → SomeSides c k node nodes points boxes → g ≡ hand a → h ≡ hand b → Two a b g h
    two_sides g h S p q = record { left_some = rw e S.left_some; right_some = rw f S.right_some; left_hand = p; right_hand = q }

    pub pair_sides : (r : BoundingBox) → PairBox c k a b nodes points boxes r → SidesBox c k node nodes points boxes r
    pair_sides r F d l u p q = F d l u (p ∙ sym e) (q ∙ sym f)

  -- their box kept in its slot
  pub sides_kept : (node : ℕ) → node < k → (boxes' : List (List (List Float))) (X : List (List Float)) → length X ≡ 2 → SidesBox c k node nodes points boxes (box_of X) → boxes' ≡ set boxes node X → SidesKept c k node nodes points boxes boxes'
  sides_kept node h boxes' X two F e d l u p q bl bu = let w = F d l u p q bl bu in e ∙ ap (set boxes node) (pair_of X _ _ two w.0 w.1) ∙ sym (written_cached k node _ boxes h)

  module _ (a b : ℕ) (g h : Bool) (W : Two a b g h) where
    -- both are
    module _ (t : (g && h) ≡ true) where
      left_at : hand a ≡ true
      left_at = sym W.left_hand ∙ (both_true g h t).0

      right_at : hand b ≡ true
      right_at = sym W.right_hand ∙ (both_true g h t).1

      pub both_lie : Lies a × Lies b
      both_lie = ((λ l. in_table c k a nodes points boxes l W.left_some, hand_true c k a left_at), (λ l. in_table c k b nodes points boxes l W.right_some, hand_true c k b right_at))

      pub hand_pair : (X : List (List Float)) → X ≡ joined least (hand_low c a points boxes) (hand_low c b points boxes) ∷ joined greatest (hand_high c a points boxes) (hand_high c b points boxes) ∷ [] → PairBox c k a b nodes points boxes (box_of X)
      hand_pair X e d l u p q bl bu =
          let L = hand_box a left_at d l p bl in
          let U = hand_box b right_at d u q bu in (
            ap (λ (Y : List (List Float)). get_or Y 0 []) e ∙ ap₂ (joined least) L.0 U.0 ∙ least_ends d (lo (whole d) l) (lo (whole d) u),
            ap (λ (Y : List (List Float)). get_or Y 1 []) e ∙ ap₂ (joined greatest) L.1 U.1 ∙ most_ends d (hi (whole d) l) (hi (whole d) u),
          )

      pub hands_kept : (node : ℕ) → a ≡ side_in nodes node 0 → b ≡ side_in nodes node 1 → node < k → (boxes' : List (List (List Float)))
          → boxes' ≡ set boxes node (joined least (hand_low c a points boxes) (hand_low c b points boxes) ∷ joined greatest (hand_high c a points boxes) (hand_high c b points boxes) ∷ []) → SidesKept c k node nodes points boxes boxes'
      hands_kept node e f m boxes' = sides_kept node m boxes' _ refl (pair_sides node a b e f _ (hand_pair _ refl))

    -- not both are: then b is not where a is, and a is not else
    pub first_far : c ≤ capacity_limit → (g && h) ≡ false → Far (cond g b a)
    first_far few t = by_cond Far g b a
        (λ e. far few b W.right_some (sym W.right_hand ∙ sym (ap (λ (x : Bool). x && h) e) ∙ t))
        (λ e. far few a W.left_some (sym W.left_hand ∙ e))

    -- its box: set from its sides, or given
    pub first_set : c ≤ capacity_limit → (g && h) ≡ false → g ≡ true → (r : BoundingBox) → SidesBox c k b nodes points boxes r → BoxOf c k (cond g b a) nodes points boxes r
    first_set few t e r F = rw e (sides_box c k b nodes points boxes (rw e at (first_far few t).branch) r F)

    pub first_given : g ≡ false → (r : BoundingBox) → (hand a ≡ false → BoxOf c k a nodes points boxes r) → BoxOf c k (cond g b a) nodes points boxes r
    first_given e r F = rw e (F (sym W.left_hand ∙ e))

    pub second_some : SomeBoxed c k (cond g a b) nodes points boxes
    second_some = by_cond (λ x. SomeBoxed c k x nodes points boxes) g a b (λ _. W.left_some) (λ _. W.right_some)

  pub grown_pair : (g : Bool) (a b : ℕ) (X Y : List (List Float)) → BoxOf c k (cond g b a) nodes points boxes (box_of X)
      → EndsGrownBy c k (cond g a b) nodes points boxes (get_or X 0 []) (get_or X 1 []) (get_or Y 0 []) (get_or Y 1 []) → PairBox c k a b nodes points boxes (box_of Y)
  grown_pair true a b X Y F G = turned a b (box_of Y) (grown b a X Y F G)
  grown_pair false a b X Y F G = grown a b X Y F G
