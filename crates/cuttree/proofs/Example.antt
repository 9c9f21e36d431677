-- Demand 3 is not empty: a setting that computes, with its laws, and a run of it. Readings are whole numbers from 0 to 100 in one
-- channel, and a word is how far above the lower end the cut stands (at the lower end if that isn't below the upper).
use mathlib.Core.Path.{◌≡◌, refl}
use mathlib.Core.Bool.{true, cond, not, ◌&&◌, ◌||◌}
use mathlib.Core.List.{List, [], ◌∷◌}
use Prim.Native.Nat.{ℕ, ◌+◌, ◌≤◌, ◌<◌}
use native.Mathlib.Omega.{arith}
use lib.Dec.{eqb, leb, ltb}
use lib.ListN.{length, get_or}
use borrow.Author.Tests.{eqb-true, eqb-false, eq-eqb, leb-true, leb-false, le-leb, lt-leb, ltb-true}
use Rattle.intervalstoremanager.specs.Stack as Stack
use Rattle.cuttree.specs.Setting.{Setting, Laws, CutOf}
use Rattle.cuttree.specs.Run.{index_above, coordinate_count, bad_coordinate, index_is_leaf, never_written, full, few_words, tree_empty, not_held, no_such_node, copies_of, branch_of, box_of, refused, written, added, deleted, copies_are, branch_is, box_is, Call, put, add, delete, query, answers, fresh}
use Rattle.cuttree.specs.Counts.{nothing}
use Rattle.cuttree.specs.Demand3.{Claims}
use Rattle.cuttree.proofs.Tests.{by_cond, by-test}
use Rattle.cuttree.proofs.Demand3.{demand3}

abbrev lesser : ℕ → ℕ → ℕ
lesser a b = cond (leb a b) a b

abbrev greater : ℕ → ℕ → ℕ
greater a b = cond (leb a b) b a

abbrev place : ℕ → ℕ → ℕ → ℕ
place a b w = cond (ltb (a + w) b) (a + w) a

abbrev small : Setting
small = record {
  Coord = ℕ;
  Chan = Unit {0};
  Point = ℕ;
  Word = ℕ;
  Raw = List ℕ;
  le = leb;
  at = λ p d. p;
  same = eqb;
  draw = λ low high p w. record { channel = tt; value = place (lesser (low tt) p) (greater (high tt) p) w };
  no_word = 0;
  counted = λ x. eqb (length x) 1;
  good = λ x. leb (get_or x 0 0) 100;
  point = λ x. get_or x 0 0;
  indices = 6;
  limit = 5;
}

-- a cut between two different readings parts them
between : (p q k : ℕ) → (p ≤ k → k < q → (leb p k && not (leb q k)) || (leb q k && not (leb p k)) ≡ true)
between p q k a b = rw (le-leb p k a, lt-leb q k b)

between' : (p q k : ℕ) → (q ≤ k → k < p → (leb p k && not (leb q k)) || (leb q k && not (leb p k)) ≡ true)
between' p q k a b = rw (lt-leb p k b, le-leb q k a)

placed : (a b w : ℕ) → a < b → (a ≤ place a b w) × (place a b w < b)
placed a b w h = by_cond (λ x. (a ≤ x) × (x < b)) (ltb (a + w) b) _ _ (λ e. omega (arith, ltb-true (a + w) b e)) (λ _. omega arith)

small_laws : Laws small
small_laws = record {
  le_trans = λ a b c x y. le-leb a c (omega (arith, leb-true a b x, leb-true b c y));
  le_total = λ a b x. le-leb b a (omega (arith, leb-false a b x));
  le_antisym = λ a b x y. omega (arith, leb-true a b x, leb-true b a y);
  same_refl = λ p. eq-eqb p p refl;
  same_cong = λ p q e v. let z : p ≡ q = eqb-true p q e in rw z;
  same_at = λ p q e d. eqb-true p q e;
  parts_leaf = λ p q w e. by-test (leb q p)
      (λ x. let d : q < p = below q p (leb-true q p x) (eqb-false q p e) in let z = placed q p w d in rw x (between' p q (place q p w) z.0 z.1))
      (λ x. let d : p < q = leb-false q p x in let z = placed p q w d in rw x (between p q (place p q w) z.0 z.1));
}
  where
    below : (a b : ℕ) → a ≤ b → (a ≡ b → ⊥) → a < b
    below a b h n = omega arith

abbrev calls : List (Call small)
calls =
    query (copies_of 4) ∷ delete 0 ∷ put 6 (0 ∷ []) ∷ put 0 (1 ∷ 2 ∷ []) ∷ put 0 (101 ∷ [])
    ∷ put 0 (0 ∷ []) ∷ put 1 (8 ∷ []) ∷ put 2 (2 ∷ []) ∷ put 3 (8 ∷ []) ∷ put 4 (50 ∷ []) ∷ put 5 (60 ∷ [])
    -- document 01's list: readings 0, 8 and 2
    ∷ delete 0 ∷ add 0 [] ∷ add 1 [] ∷ add 1 (4 ∷ []) ∷ add 2 (1 ∷ 4 ∷ []) ∷ query (branch_of 0) ∷ query (branch_of 1) ∷ query (copies_of 4)
    -- a copy by another index; an index that is a leaf, and one that isn't
    ∷ add 3 [] ∷ put 1 (9 ∷ []) ∷ put 3 (9 ∷ []) ∷ delete 3
    -- the higher of two parting boxes; five copies; four values
    ∷ add 4 (10 ∷ 20 ∷ []) ∷ query (branch_of 2) ∷ add 0 [] ∷ delete 1 ∷ add 5 (0 ∷ 0 ∷ 0 ∷ [])
    -- last copies: the sibling lifted, the numbers 1 and 2 free
    ∷ delete 2 ∷ query (branch_of 1) ∷ query (branch_of 0) ∷ delete 4
    -- a branch made above a leaf of two copies
    ∷ add 1 [] ∷ add 5 (0 ∷ 0 ∷ []) ∷ query (branch_of 1) ∷ query (branch_of 0) ∷ query (box_of 0) ∷ []

abbrev cut_at : ℕ → CutOf (Unit {0}) ℕ
cut_at k = record { channel = tt; value = k }

run : answers small 4 (fresh small 4) calls ≡
    refused no_such_node ∷ refused never_written ∷ refused index_above ∷ refused coordinate_count ∷ refused bad_coordinate
    ∷ written ∷ written ∷ written ∷ written ∷ written ∷ written
    ∷ refused tree_empty ∷ added 0 0 ∷ refused few_words ∷ added 1 1 ∷ added 2 2
    ∷ branch_is (record { cut = cut_at 4; left = 1; right = 5; mass = 3 }) ∷ branch_is (record { cut = cut_at 1; left = 4; right = 6; mass = 2 }) ∷ copies_are 1
    ∷ added 1 0 ∷ refused index_is_leaf ∷ written ∷ refused not_held
    ∷ added 4 2 ∷ branch_is (record { cut = cut_at 20; left = 0; right = 8; mass = 5 }) ∷ refused full ∷ deleted 1 ∷ refused full
    ∷ deleted 2 ∷ refused no_such_node ∷ branch_is (record { cut = cut_at 4; left = 4; right = 5; mass = 2 }) ∷ deleted 4
    ∷ added 1 0 ∷ added 5 2 ∷ branch_is (record { cut = cut_at 8; left = 5; right = 9; mass = 3 }) ∷ branch_is (record { cut = cut_at 4; left = 4; right = 1; mass = 4 })
    ∷ box_is (record { lower = λ d. 0; upper = λ d. 60 }) ∷ []
unfolding Stack.fresh Stack.next Stack.after_get Stack.after_release
run = refl

-- and demand 3 of it
holds : Claims small 4 (fresh small 4) (nothing small) calls
holds = demand3 small 4 small_laws (omega arith) calls
