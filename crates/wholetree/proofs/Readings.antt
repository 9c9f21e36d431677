-- The readings of a table: one is known by its row, its coordinates are those of the row, and equal in every channel is the same reading.
use mathlib.Core.Path.{◌≡◌, refl, sym, ap, ◌∙◌, subst}
use mathlib.Core.HLevel.{is_prop→PathP}
use mathlib.Core.Bool.{Bool, true, false}
use mathlib.Core.List.{List, [], ◌∷◌}
use Prim.Native.Nat.{ℕ, zero, suc, ◌≤◌, ◌<◌, zero-le, suc-le-suc}
use native.Mathlib.Nat.{le_of_suc-le-suc, not-suc-le-zero}
use lib.Dec.{T, T_prop, eqb, ltb, eqb→eq, eqb_refl, ltb→lt, nltb→le}
use lib.ListN.{length, get_or}
use lib.Seq.{ext_get_or}
use lib.Ieee.{Float, nan, binary32, fits, eq}
use lib.Ieee.Bits.{is_true}
use lib.Ieee.Fits.{and_i, and_l, and_r, eq→eqb}
use Rattle.limits.specs.Limits.{width}
use Rattle.readings.specs.Coordinate.{is_coordinate, rank}
use Rattle.readings.proofs.Tests.{yes, no, leb_yes, leb_no}
use Rattle.readings.proofs.Ranks.{eq_rank, eq_same, coordinate_finite, coordinate_not_minus_zero}
use Rattle.boundingbox.specs.Ends.{channel}
use Rattle.readings.specs.Number.{nought, zero as zero_number, is_number}
use Rattle.boundingbox.specs.Contained.{every}
use Rattle.boundingbox.proofs.Every.{every_at, every_from}
use Rattle.cuttree.proofs.Tests.{by-test}
use Rattle.wholetree.specs.Reading.{is_coordinate32, is_row, Reading, coordinate, same_row, padded, as_reading, reading}
use Rattle.wholetree.specs.Whole.{tab, all_coordinates}
use Rattle.readings.proofs.Ordered.{number_is, same_number, is_a_number}

-- a coordinate is a number
pub coordinate_number : (x : Float) → T (is_coordinate32 x) → T (is_number x)
unfolding is_coordinate32
coordinate_number x t =
    let c = and_l (is_coordinate x) (fits binary32 x) t in
    is_a_number x (and_r (is_coordinate x) (fits binary32 x) t) (coordinate_finite x c) (coordinate_not_minus_zero x c)

-- ---- lists by their entries
pub tab_length : {A : Type 0} (n : ℕ) (f : ℕ → A) → length (tab n f) ≡ n
unfolding tab
tab_length zero f = refl
tab_length (suc n) f = ap suc (tab_length n (λ (i : ℕ). f (suc i)))

pub tab_at : {A : Type 0} (n : ℕ) (f : ℕ → A) (i : ℕ) (d : A) → i < n → get_or (tab n f) i d ≡ f i
unfolding tab
tab_at zero f i d h = absurd (not-suc-le-zero h)
tab_at (suc n) f zero d h = refl
tab_at (suc n) f (suc i) d h = tab_at n (λ (j : ℕ). f (suc j)) i d (le_of_suc-le-suc h)

pub padded_length : (n : ℕ) (xs : List Float) → length (padded n xs) ≡ n
unfolding padded
padded_length zero xs = refl
padded_length (suc n) [] = ap suc (padded_length n [])
padded_length (suc n) (x ∷ xs) = ap suc (padded_length n xs)

-- the entries of the list, then +0.0
pub padded_at : (n : ℕ) (xs : List Float) (i : ℕ) → i < length xs → i < n → channel (padded n xs) i ≡ channel xs i
unfolding padded
padded_at zero xs i l h = absurd (not-suc-le-zero h)
padded_at (suc n) [] i l h = absurd (not-suc-le-zero l)
padded_at (suc n) (x ∷ xs) zero l h = refl
padded_at (suc n) (x ∷ xs) (suc i) l h = padded_at n xs i (le_of_suc-le-suc l) (le_of_suc-le-suc h)

pub padded_beyond : (n : ℕ) (xs : List Float) (i : ℕ) → length xs ≤ i → i < n → channel (padded n xs) i ≡ nought
unfolding padded
padded_beyond zero xs i l h = absurd (not-suc-le-zero h)
padded_beyond (suc n) [] zero l h = refl
padded_beyond (suc n) [] (suc i) l h = padded_beyond n [] i zero-le (le_of_suc-le-suc h)
padded_beyond (suc n) (x ∷ xs) zero l h = absurd (not-suc-le-zero l)
padded_beyond (suc n) (x ∷ xs) (suc i) l h = padded_beyond n xs i (le_of_suc-le-suc l) (le_of_suc-le-suc h)

pub all_at : (xs : List Float) (i : ℕ) → T (all_coordinates xs) → i < length xs → T (is_coordinate32 (channel xs i))
all_at [] i t h = absurd (not-suc-le-zero h)
all_at (x ∷ xs) zero t h = and_l (is_coordinate32 x) (all_coordinates xs) t
all_at (x ∷ xs) (suc i) t h = all_at xs i (and_r (is_coordinate32 x) (all_coordinates xs) t) (le_of_suc-le-suc h)

-- ---- coordinates
pub nought_coordinate : T (is_coordinate32 nought)
unfolding is_coordinate32
nought_coordinate = tt

pub of_coordinate : (x : Float) → T (is_coordinate32 x) → T (is_coordinate x)
unfolding is_coordinate32
of_coordinate x t = and_l (is_coordinate x) (fits binary32 x) t

pub coordinate_fits : (x : Float) → T (is_coordinate32 x) → T (fits binary32 x)
unfolding is_coordinate32
coordinate_fits x t = and_r (is_coordinate x) (fits binary32 x) t

-- ---- a reading's row
pub row_length : (p : Reading) → length p.row ≡ width
unfolding is_row
row_length p = eqb→eq (length p.row) width (and_l (eqb (length p.row) width) (every (λ (i : ℕ). is_coordinate32 (channel p.row i)) width) p.row_is_row)

pub row_at_lem : (p : Reading) (i : ℕ) → i < width → T (is_coordinate32 (channel p.row i))
unfolding is_row
row_at_lem p i h = every_at (λ (i : ℕ). is_coordinate32 (channel p.row i)) width (and_r (eqb (length p.row) width) (every (λ (i : ℕ). is_coordinate32 (channel p.row i)) width) p.row_is_row) i h

pub is_a_row : (xs : List Float) → length xs ≡ width → ((i : ℕ) → i < width → T (is_coordinate32 (channel xs i))) → T (is_row xs)
unfolding is_row
is_a_row xs l h = and_i (eqb (length xs) width) (every (λ (i : ℕ). is_coordinate32 (channel xs i)) width) (eq→eqb l) (every_from (λ (i : ℕ). is_coordinate32 (channel xs i)) width h)

-- a reading is known by its row, and a row by its channels
pub same_reading : (p q : Reading) → p.row ≡ q.row → p ≡ q
same_reading p q e = λ i. record { row = e i; row_is_row = is_prop→PathP (λ j. T (is_row (e j))) (λ j. T_prop (is_row (e j))) p.row_is_row q.row_is_row i }

pub same_channels : (p q : Reading) → ((i : ℕ) → i < width → channel p.row i ≡ channel q.row i) → p ≡ q
same_channels p q h = same_reading p q (ext_get_or nan p.row q.row (row_length p ∙ sym (row_length q)) (λ i l. h i (subst (λ (n : ℕ). i < n) (row_length p) l)))

-- its coordinates, and zero beyond
pub coordinate_is : (p : Reading) (i : ℕ) → i < width → (coordinate p i).value ≡ channel p.row i
unfolding coordinate
coordinate_is p i h = rw (leb_yes h) (number_is (channel p.row i) (coordinate_number (channel p.row i) (row_at_lem p i h)))

pub coordinate_beyond : (p : Reading) (i : ℕ) → width ≤ i → coordinate p i ≡ zero_number
unfolding coordinate zero_number
coordinate_beyond p i h = same_number (coordinate p i) zero_number (rw (leb_no (suc-le-suc h)) (number_is nought (coordinate_number nought nought_coordinate)))

pub coordinate_at : (p : Reading) (i : ℕ) → T (is_coordinate32 (coordinate p i).value)
unfolding zero_number
coordinate_at p i = by-test (ltb i width)
    (λ l. let h : i < width = ltb→lt i width (yes l) in rw (coordinate_is p i h) (row_at_lem p i h))
    (λ l. rw (coordinate_beyond p i (nltb→le i width (no l))) nought_coordinate)

-- ---- the same reading
pub same_is : (p q : Reading) → same_row p.row q.row ≡ true → p ≡ q
unfolding same_row
same_is p q e = same_channels p q (λ i h. let x = channel p.row i in let y = channel q.row i in
    eq_same x y (of_coordinate x (row_at_lem p i h)) (of_coordinate y (row_at_lem q i h)) (coordinate_fits x (row_at_lem p i h)) (coordinate_fits y (row_at_lem q i h))
    (is_true (eq x y) (every_at (λ (i : ℕ). eq (channel p.row i) (channel q.row i)) width (yes e) i h)))

pub same_refl : (p : Reading) → same_row p.row p.row ≡ true
unfolding same_row
same_refl p = is_true (same_row p.row p.row) (every_from (λ (i : ℕ). eq (channel p.row i) (channel p.row i)) width (λ i h. let x = channel p.row i in subst T (sym (eq_rank x x (of_coordinate x (row_at_lem p i h)) (of_coordinate x (row_at_lem p i h)))) (eqb_refl (rank x))))

pub same_cong : (p q : Reading) → same_row p.row q.row ≡ true → (v : Reading) → same_row p.row v.row ≡ same_row q.row v.row
same_cong p q e v = ap (λ (r : Reading). same_row r.row v.row) (same_is p q e)

pub same_at : (p q : Reading) → same_row p.row q.row ≡ true → (i : ℕ) → coordinate p i ≡ coordinate q i
same_at p q e i = ap (λ (r : Reading). coordinate r i) (same_is p q e)

-- ---- the reading of coordinates that a put brings: they are its row, with +0.0 after them
pub padded_row : (xs : List Float) → T (all_coordinates xs) → T (is_row (padded width xs))
padded_row xs t = is_a_row (padded width xs) (padded_length width xs) (λ i h. by-test (ltb i (length xs))
    (λ l. let k : i < length xs = ltb→lt i (length xs) (yes l) in subst (λ (x : Float). T (is_coordinate32 x)) (sym (padded_at width xs i k h)) (all_at xs i t k))
    (λ l. subst (λ (x : Float). T (is_coordinate32 x)) (sym (padded_beyond width xs i (nltb→le i (length xs) (no l)) h)) nought_coordinate))

pub reading_row : (xs : List Float) → T (all_coordinates xs) → (reading xs).row ≡ padded width xs
unfolding reading
reading_row xs t = go (is_row (padded width xs)) (λ u. u) (padded_row xs t)
  where
    go : (b : Bool) (f : T b → T (is_row (padded width xs))) → T b → (as_reading (padded width xs) b f).row ≡ padded width xs
    go true f u = refl
    go false f u = absurd u
