-- Blocks of a row, and a row that is written block by block. Assumes nothing.
use mathlib.Core.Path.{◌≡◌, refl, sym, ap, ◌∙◌, subst}
use mathlib.Core.List.{List, [], ◌∷◌}
use Prim.Native.Nat.{ℕ, ◌+◌, ◌-◌, ◌≤◌, ◌<◌}
use native.Mathlib.Omega.{arith}
use mathlib.Core.Bool.{Bool, true, false, cond, ◌||◌}
use lib.Dec.{eqb, leb, ltb}
use lib.ListN.{length, get_or, set, length-set, replicate, length-replicate, get_or-replicate}
use Rattle.layout.specs.Layout.{no_box_ends}
use lib.Seq.{get_or-set_same, get_or-set_other, ext_get_or}
use lib.Ieee.{Float, nan, lt}
use borrow.Author.Tests.{eqb-true, eqb-false, leb-true, leb-false, ltb-true, ltb-false}
use Rattle.limits.specs.Limits.{width, branch_limit}
use Rattle.readings.specs.Number.{nought}
use Rattle.boundingbox.specs.Ends.{channel, joined, least, greatest}
use Rattle.boundingbox.proofs.Joined.{joined_length, joined_channel}
use Rattle.cuttree.proofs.Tests.{by-test, by_cond, clash, cond_true, cond_false}
use Rattle.boxstore.specs.Grown.{EndsGrownBy}
use Rattle.boxstore.proofs.Parts.{at_leaf, at_cached}
use Rattle.rowboxes.specs.Rows.{lanes, PaddedRow, PaddedEnds, PaddedTable, PaddedBoxes, BlockOf, PutTo, Put, PutEnds, Filled, FilledEnds, SetEnds, Lies, hand_low, hand_high}

cond_same : (b : Bool) (x : Float) → cond b x x ≡ x
cond_same true x = refl
cond_same false x = refl

pub nought_least : least nought nought ≡ nought
unfolding least
nought_least = cond_same (lt nought nought) nought

pub nought_greatest : greatest nought nought ≡ nought
unfolding greatest
nought_greatest = cond_same (lt nought nought) nought

-- ---- a row that a block is written to
pub put_none : (at : ℕ) (block row : List Float) → PutTo 0 at block row row
put_none at block row = record { long = refl; within = λ j h. absurd (omega arith); below = λ i h. refl; beyond = λ i h. refl }

pub put_turn : (at n : ℕ) (block row row' : List Float) (x : Float) → at + n < length row → PutTo n at block row row' → x ≡ channel block n → PutTo (n + 1) at block row (set row' (at + n) x)
put_turn at n block row row' x h P e = record {
  long = length-set row' (at + n) x ∙ P.long;
  within = λ j l. by-test (eqb j n)
      (λ t. let z : j ≡ n = eqb-true j n t in ap (λ (i : ℕ). channel (set row' (at + n) x) (at + i)) z ∙ get_or-set_same row' (at + n) x nan (omega (arith, P.long)) ∙ e ∙ ap (channel block) (sym z))
      (λ t. let z = eqb-false j n t in get_or-set_other row' (at + n) (at + j) x nan (λ q. z (omega arith)) ∙ P.within j (omega (arith, z)));
  below = λ i l. get_or-set_other row' (at + n) i x nan (λ q. absurd (omega arith)) ∙ P.below i l;
  beyond = λ i l. get_or-set_other row' (at + n) i x nan (λ q. absurd (omega arith)) ∙ P.beyond i (omega arith);
}

-- ---- a row that is written block by block
module _ (R : Float → ℕ → Float → Type 0) where
  fill_none : (row : List Float) → length row ≡ width → Filled R 0 row row
  fill_none row e = record { long = e; done = λ i h. absurd (omega arith); left = λ i h. refl }

  fill_turn : (at : ℕ) (row₀ row block row' : List Float) → Filled R at row₀ row → BlockOf (λ i x. R (channel row i) i x) at block → Put at block row row' → Filled R (at + lanes) row₀ row'
  fill_turn at row₀ row block row' F B P = record {
    long = P.long ∙ F.long;
    done = λ i h. by-test (ltb i at)
        (λ t. let l = ltb-true i at t in subst (R (channel row₀ i) i) (sym (P.below i l)) (F.done i l))
        (λ t.
        let l = ltb-false i at t in
        let z : at + (i - at) ≡ i = omega arith in
        let r : R (channel row (at + (i - at))) (at + (i - at)) (channel row' (at + (i - at))) = subst (R (channel row (at + (i - at))) (at + (i - at))) (sym (P.within (i - at) (omega arith))) (B.each (i - at) (omega arith)) in
        let s : R (channel row i) i (channel row' i) = subst (λ (j : ℕ). R (channel row j) j (channel row' j)) z r in
        subst (λ (x : Float). R x i (channel row' i)) (F.left i l) s);
    left = λ i h. P.beyond i h ∙ F.left i (omega arith);
  }

  -- written as far as the tree's channels it is the row that g gives, where g gives the rest of row₀
  pub fill_all : (g : ℕ → Float) (d at : ℕ) (row₀ row target : List Float) → ((x : Float) (i : ℕ) (y : Float) → i < width → x ≡ channel row₀ i → R x i y → y ≡ g i) → d ≤ at → length target ≡ width → ((i : ℕ) → i < width → channel target i ≡ g i)
      → ((i : ℕ) → d ≤ i → i < width → channel row₀ i ≡ g i) → Filled R at row₀ row → row ≡ target
  fill_all g d at row₀ row target a h e t r F = ext_get_or nan row target (F.long ∙ sym e) (λ i l. by-test (ltb i at)
      (λ q. a _ i _ (omega (arith, F.long)) refl (F.done i (ltb-true i at q)) ∙ sym (t i (omega (arith, F.long))))
      (λ q. let m = ltb-false i at q in F.left i (omega arith) ∙ r i (omega arith) (omega (arith, F.long)) ∙ sym (t i (omega (arith, F.long)))))

-- ---- the two rows of a box's ends
pub ends_none : (R S : Float → ℕ → Float → Type 0) (d : ℕ) (E : List (List Float)) → PaddedEnds d E → FilledEnds R S 0 E E
ends_none R S d E P = record { two = P.two; low = fill_none R _ P.low.whole_row; high = fill_none S _ P.high.whole_row }

pub ends_turn : (R S : Float → ℕ → Float → Type 0) (at : ℕ) (E₀ E E' : List (List Float)) (low high : List Float) → FilledEnds R S at E₀ E → BlockOf (λ i x. R (channel (get_or E 0 []) i) i x) at low
    → BlockOf (λ i x. S (channel (get_or E 1 []) i) i x) at high → PutEnds at low high E E' → FilledEnds R S (at + lanes) E₀ E'
ends_turn R S at E₀ E E' low high F L H P = record { two = P.two; low = fill_turn R at _ _ low _ F.low L P.low_put; high = fill_turn S at _ _ high _ F.high H P.high_put }

pub pair_of : (E : List (List Float)) (a b : List Float) → length E ≡ 2 → get_or E 0 [] ≡ a → get_or E 1 [] ≡ b → E ≡ a ∷ b ∷ []
pair_of (c ∷ d ∷ []) a b e p q = rw (p, q) refl
pair_of [] a b e p q = absurd (omega arith)
pair_of (c ∷ []) a b e p q = absurd (omega arith)
pair_of (c ∷ d ∷ f ∷ E) a b e p q = absurd (omega arith)

-- ---- two rows joined
module _ (f : Float → Float → Float) (z : f nought nought ≡ nought) (d : ℕ) where
  pub joined_padded : (xs ys : List Float) → PaddedRow d xs → PaddedRow d ys → PaddedRow d (joined f xs ys)
  joined_padded xs ys X Y = record {
    whole_row = joined_length f xs ys ∙ X.whole_row;
    rest = λ i h l. joined_channel f xs ys i (omega (arith, X.whole_row)) ∙ rw (X.rest i h l, Y.rest i h l) z;
  }

  pub joined_in : (xs ys : List Float) (i : ℕ) → PaddedRow d xs → i < width → channel (joined f xs ys) i ≡ f (channel xs i) (channel ys i)
  joined_in xs ys i X l = joined_channel f xs ys i (omega (arith, X.whole_row))

  -- over a row that is +0.0 there too
  pub fill_joined : (R : Float → ℕ → Float → Type 0) (at : ℕ) (xs ys row₀ row : List Float) → ((x : Float) (i : ℕ) (y : Float) → i < width → x ≡ channel row₀ i → R x i y → y ≡ f (channel xs i) (channel ys i)) → d ≤ at
      → PaddedRow d xs → PaddedRow d ys → PaddedRow d row₀ → Filled R at row₀ row → row ≡ joined f xs ys
  fill_joined R at xs ys row₀ row a h X Y Z F = fill_all R (λ i. f (channel xs i) (channel ys i)) d at row₀ row (joined f xs ys) a h (joined_length f xs ys ∙ X.whole_row) (λ i l. joined_channel f xs ys i (omega (arith, X.whole_row)))
      (λ i m l. Z.rest i m l ∙ sym (rw (X.rest i m l, Y.rest i m l) z)) F

-- the ends that a call sets, where it gives two rows joined
module _ (R S : Float → ℕ → Float → Type 0) (d : ℕ) (E E' : List (List Float)) (P : PaddedEnds d E) (F : SetEnds d R S E E') where
  pub set_joined : (a b x y : List Float) → PaddedRow d a → PaddedRow d b → PaddedRow d x → PaddedRow d y
      → ((v : Float) (i : ℕ) (w : Float) → i < width → v ≡ channel (get_or E 0 []) i → R v i w → w ≡ least (channel a i) (channel b i))
      → ((v : Float) (i : ℕ) (w : Float) → i < width → v ≡ channel (get_or E 1 []) i → S v i w → w ≡ greatest (channel x i) (channel y i)) → E' ≡ joined least a b ∷ joined greatest x y ∷ []
  set_joined a b x y A B X Y r s = pair_of E' _ _ F.filled.two
      (fill_joined least nought_least d R _ a b _ _ r F.enough A B P.low F.filled.low) (fill_joined greatest nought_greatest d S _ x y _ _ s F.enough X Y P.high F.filled.high)

  -- where it gives other ends
  pub set_copied : (X : List (List Float)) → PaddedEnds d X → ((v : Float) (i : ℕ) (w : Float) → i < width → R v i w → w ≡ channel (get_or X 0 []) i) → ((v : Float) (i : ℕ) (w : Float) → i < width → S v i w → w ≡ channel (get_or X 1 []) i) → E' ≡ X
  set_copied X Q r s = pair_of E' _ _ F.filled.two
      (fill_all R _ d _ _ _ (get_or X 0 []) (λ v i w l _ q. r v i w l q) F.enough Q.low.whole_row (λ i l. refl) (λ i m l. P.low.rest i m l ∙ sym (Q.low.rest i m l)) F.filled.low)
      (fill_all S _ d _ _ _ (get_or X 1 []) (λ v i w l _ q. s v i w l q) F.enough Q.high.whole_row (λ i l. refl) (λ i m l. P.high.rest i m l ∙ sym (Q.high.rest i m l)) F.filled.high)
      ∙ sym (pair_of X _ _ Q.two refl refl)

-- ---- a box at hand
module _ (c k d node : ℕ) (points : List (List Float)) (boxes : List (List (List Float))) (few : k ≤ branch_limit) (h : Lies c k node) (T : PaddedTable d points) (X : PaddedBoxes d boxes) where
  slot_in : node < c → node < branch_limit
  slot_in l = let m = h.1 l in omega arith

  pub low_padded : PaddedRow d (hand_low c node points boxes)
  low_padded = by_cond (PaddedRow d) (leb c node) _ _ (λ t. T (node - c) (h.0 (leb-true c node t))) (λ t. (X.slots node (slot_in (leb-false c node t))).low)

  pub high_padded : PaddedRow d (hand_high c node points boxes)
  high_padded = by_cond (PaddedRow d) (leb c node) _ _ (λ t. T (node - c) (h.0 (leb-true c node t))) (λ t. (X.slots node (slot_in (leb-false c node t))).high)

-- the ends that two boxes' rows joined are
pub made_ends : (d : ℕ) (E : List (List Float)) (a b x y : List Float) → PaddedRow d a → PaddedRow d b → PaddedRow d x → PaddedRow d y → E ≡ joined least a b ∷ joined greatest x y ∷ [] → PaddedEnds d E
made_ends d E a b x y A B X Y e = subst (PaddedEnds d) (sym e) record { two = refl; low = joined_padded least nought_least d a b A B; high = joined_padded greatest nought_greatest d x y X Y }

-- ---- what the test for a box at hand tells
or_true : (a b : Bool) → (a || b) ≡ true → b ≡ false → a ≡ true
or_true true b e f = refl
or_true false b e f = sym f ∙ e

or_false : (a b : Bool) → (a || b) ≡ false → (a ≡ false) × (b ≡ false)
or_false true b e = clash true refl e
or_false false b e = (refl, e)

pub hand_true : (c k node : ℕ) → (leb c node || ltb node k) ≡ true → node < c → node < k
hand_true c k node e h = by-test (ltb node k) (λ t. ltb-true node k t) (λ t. absurd (omega (arith, leb-true c node (or_true (leb c node) (ltb node k) e t))))

pub hand_false : (c k node : ℕ) → (leb c node || ltb node k) ≡ false → node < c
hand_false c k node e = leb-false c node (or_false (leb c node) (ltb node k) e).0

pub hand_uncached : (c k node : ℕ) → (leb c node || ltb node k) ≡ false → k ≤ node
hand_uncached c k node e = ltb-false node k (or_false (leb c node) (ltb node k) e).1

-- ends moved out to a box at hand are grown by the box of the tree below the node
pub hand_grown : (c k node : ℕ) (nodes : List (List ℕ)) (points : List (List Float)) (boxes : List (List (List Float))) → (leb c node || ltb node k) ≡ true → (low high : List Float) (E : List (List Float))
    → E ≡ joined least low (hand_low c node points boxes) ∷ joined greatest high (hand_high c node points boxes) ∷ [] → EndsGrownBy c k node nodes points boxes low high (get_or E 0 []) (get_or E 1 [])
hand_grown c k node nodes points boxes e low high E q =
    let a = ap (λ (X : List (List Float)). get_or X 0 []) q in
    let b = ap (λ (X : List (List Float)). get_or X 1 []) q in
    by-test (leb c node)
    (λ t. (at_leaf c k node nodes points boxes (leb-true c node t)).grown low high _ _ (a ∙ ap (joined least low) (cond_true _ _ _ t)) (b ∙ ap (joined greatest high) (cond_true _ _ _ t)))
    (λ t. let l = leb-false c node t in (at_cached c k node nodes points boxes l (hand_true c k node e l)).grown low high _ _ (a ∙ ap (joined least low) (cond_false _ _ _ t)) (b ∙ ap (joined greatest high) (cond_false _ _ _ t)))

pub padded_set : (d j : ℕ) (X : List (List (List Float))) (Z : List (List Float)) → j < branch_limit → PaddedBoxes d X → PaddedEnds d Z → PaddedBoxes d (set X j Z)
padded_set d j X Z l P Q = record {
  all = length-set X j Z ∙ P.all;
  slots = λ i m. by-test (eqb i j)
      (λ t. let z : i ≡ j = eqb-true i j t in subst (PaddedEnds d) (sym (ap (λ (k : ℕ). get_or (set X j Z) k []) z ∙ get_or-set_same X j Z [] (omega (arith, P.all)))) Q)
      (λ t. subst (PaddedEnds d) (sym (get_or-set_other X j i Z [] (eqb-false i j t))) (P.slots i m));
}

-- the ends of no box
pub no_ends_lem : (d : ℕ) → PaddedEnds d no_box_ends
no_ends_lem d = record { two = refl; low = none; high = none }
  where
    none : PaddedRow d (replicate width nought)
    none = record { whole_row = length-replicate width nought; rest = λ i _ l. get_or-replicate width i nought nan l }

pub small : (j k : ℕ) → j < k → k ≤ branch_limit → j < branch_limit
small j k h l = omega arith
