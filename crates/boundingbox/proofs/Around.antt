-- The smallest box around points: growing keeps it so, and there is only one. Assumes nothing.
use mathlib.Core.Path.{◌≡◌, refl, sym, ap, ◌∙◌, subst}
use mathlib.Core.Logic.{◌⊎◌, inl, inr, ⊎_elim}
use mathlib.Core.List.Memᴰ
use mathlib.Core.List.{List, [], ◌∷◌, Memᴰ}
use mathlib.Core.Bool.{true, true≢false}
use Prim.Native.Nat.{ℕ, ◌≤◌, ◌<◌}
use native.Mathlib.Nat.{le_trans, le_refl, le_of_eq, le_antisymm}
use lib.Dec.{T}
use lib.ListN.{length}
use lib.Seq.{ext_get_or}
use lib.Ieee.{Float, nan, lt, le}
use Rattle.readings.specs.Coordinate.{is_coordinate, rank}
use Rattle.boundingbox.specs.Ends.{channel, least, greatest, joined}
use Rattle.boundingbox.specs.Contained.{strictly_contains}
use Rattle.boundingbox.specs.Wholes.{Box}
use Rattle.boundingbox.specs.Smallest.{Smallest, lowest, highest}
use Rattle.boundingbox.proofs.Joined.{joined_length, joined_same}
use Rattle.boundingbox.proofs.Order.{Places, by_rank, lt_self, least_one, greatest_one, least_same, greatest_same, least_le, greatest_ge, le_places, places_le}
use Rattle.boundingbox.proofs.Coordinates.{Whole, by_whole, same_rank}
use Rattle.boundingbox.proofs.Held.{strictly_between, low_is, high_is}

-- the same points, told another way
pub smallest_members : (In Jn : List Float → Type 0) (lo hi : List Float) (n : ℕ) → ((p : List Float) → In p → Jn p) → ((p : List Float) → Jn p → In p) → Smallest In lo hi n → Smallest Jn lo hi n
smallest_members In Jn lo hi n to from S = record {
  below = λ p m. S.below p (from p m);
  above = λ p m. S.above p (from p m);
  low_met = λ i h. let w = S.low_met i h in (w.0, to w.0 w.1, w.2);
  high_met = λ i h. let w = S.high_met i h in (w.0, to w.0 w.1, w.2);
}

-- A point strictly inside meets no end, so the box stays smallest without it: what lets a delete's repair of boxes end.
pub smallest_without : (In Out : List Float → Type 0) (lo hi p : List Float) (n : ℕ) → ((q : List Float) → Out q → In q) → ((q : List Float) → In q → (q ≡ p) ⊎ Out q)
    → T (strictly_contains lo hi p n) → Smallest In lo hi n → Smallest Out lo hi n
smallest_without In Out lo hi p n part rest t S = record {
  below = λ q m. S.below q (part q m);
  above = λ q m. S.above q (part q m);
  low_met = λ i h. let w = S.low_met i h in (w.0, ⊎_elim (λ (e : w.0 ≡ p). absurd (apart (strictly_between lo hi p n t i h).0 (w.2 ∙ at e i))) (λ (m : Out w.0). m) (rest w.0 w.1), w.2);
  high_met = λ i h. let w = S.high_met i h in (w.0, ⊎_elim (λ (e : w.0 ≡ p). absurd (apart (strictly_between lo hi p n t i h).1 (sym (w.2 ∙ at e i)))) (λ (m : Out w.0). m) (rest w.0 w.1), w.2);
}
  where
    at : {q : List Float} → q ≡ p → (i : ℕ) → channel q i ≡ channel p i
    at e i = ap (λ (x : List Float). channel x i) e

    apart : {x y : Float} → lt x y ≡ true → x ≡ y → ⊥
    apart {x} {y} l e = true≢false (sym l ∙ ap (lt x) (sym e) ∙ lt_self x)

module _ (P : Float → Type 0) (place : Float → ℕ) (K : Places P place) where
  -- the box of one point is the point
  pub smallest_point : (p : List Float) (n : ℕ) → ((i : ℕ) → i < n → P (channel p i)) → Smallest (λ q. q ≡ p) p p n
  smallest_point p n all = record {
    below = λ q e i h. subst (λ (x : List Float). T (le (channel p i) (channel x i))) (sym e) (self i h);
    above = λ q e i h. subst (λ (x : List Float). T (le (channel x i) (channel p i))) (sym e) (self i h);
    low_met = λ i h. (p, refl, refl);
    high_met = λ i h. (p, refl, refl);
  }
    where
      self : (i : ℕ) → i < n → T (le (channel p i) (channel p i))
      self i h = places_le P place K (channel p i) (channel p i) (all i h) (all i h) (le_refl (place (channel p i)))

  -- the ends of a smallest box are of the points' kind
  module _ (In : List Float → Type 0) (lo hi : List Float) (n : ℕ) (all : (p : List Float) → In p → (i : ℕ) → i < n → P (channel p i)) (S : Smallest In lo hi n) where
    pub low_kind : (i : ℕ) → i < n → P (channel lo i)
    low_kind i h = let w = S.low_met i h in subst P (sym w.2) (all w.0 w.1 i h)

    pub high_kind : (i : ℕ) → i < n → P (channel hi i)
    high_kind i h = let w = S.high_met i h in subst P (sym w.2) (all w.0 w.1 i h)

  -- a smallest box grown by a smallest box is smallest around the points of both
  module _ (In Jn : List Float → Type 0) (lo hi a b : List Float) (n : ℕ) (L : n ≤ length lo) (H : n ≤ length hi)
      (all : (p : List Float) → In p → (i : ℕ) → i < n → P (channel p i)) (also : (p : List Float) → Jn p → (i : ℕ) → i < n → P (channel p i))
      (S : Smallest In lo hi n) (R : Smallest Jn a b n) where
    member : (p : List Float) → In p ⊎ Jn p → (i : ℕ) → i < n → P (channel p i)
    member p (inl m) = all p m
    member p (inr m) = also p m

    low_of : (i : ℕ) → i < n → (x : Float) → (x ≡ channel lo i) ⊎ (x ≡ channel a i) → (p : List Float) × (In p ⊎ Jn p) × (x ≡ channel p i)
    low_of i h x (inl e) = let w = S.low_met i h in (w.0, inl w.1, e ∙ w.2)
    low_of i h x (inr e) = let w = R.low_met i h in (w.0, inr w.1, e ∙ w.2)

    high_of_lem : (i : ℕ) → i < n → (x : Float) → (x ≡ channel hi i) ⊎ (x ≡ channel b i) → (p : List Float) × (In p ⊎ Jn p) × (x ≡ channel p i)
    high_of_lem i h x (inl e) = let w = S.high_met i h in (w.0, inl w.1, e ∙ w.2)
    high_of_lem i h x (inr e) = let w = R.high_met i h in (w.0, inr w.1, e ∙ w.2)

    pub smallest_join : Smallest (λ p. In p ⊎ Jn p) (joined least lo a) (joined greatest hi b) n
    smallest_join = record {
      below = λ p m i h.
          rw (low_is lo hi a b n L H i h)
          (least_le P place K (channel lo i) (channel a i) (channel p i) (low_kind In lo hi n all S i h) (low_kind Jn a b n also R i h) (member p m i h)
          (⊎_elim (λ (k : In p). inl (S.below p k i h)) (λ (k : Jn p). inr (R.below p k i h)) m));
      above = λ p m i h.
          rw (high_is lo hi a b n L H i h)
          (greatest_ge P place K (channel hi i) (channel b i) (channel p i) (high_kind In lo hi n all S i h) (high_kind Jn a b n also R i h) (member p m i h)
          (⊎_elim (λ (k : In p). inl (S.above p k i h)) (λ (k : Jn p). inr (R.above p k i h)) m));
      low_met = λ i h. rw (low_is lo hi a b n L H i h) (low_of i h (least (channel lo i) (channel a i)) (least_one (channel lo i) (channel a i)));
      high_met = λ i h. rw (high_is lo hi a b n L H i h) (high_of_lem i h (greatest (channel hi i) (channel b i)) (greatest_one (channel hi i) (channel b i)));
    }

  -- a smallest box grown by the points of a list
  pub smallest_grown : (In : List Float → Type 0) (lo hi : List Float) (n : ℕ) → n ≤ length lo → n ≤ length hi → ((p : List Float) → In p → (i : ℕ) → i < n → P (channel p i))
      → Smallest In lo hi n → (ps : List (List Float)) → ((p : List Float) → Memᴰ p ps → (i : ℕ) → i < n → P (channel p i))
      → Smallest (λ p. In p ⊎ Memᴰ p ps) (lowest lo ps) (highest hi ps) n
  unfolding lowest highest
  smallest_grown In lo hi n L H all S [] also = smallest_members In (λ p. In p ⊎ Memᴰ p []) lo hi n (λ p m. inl m) (λ p m. ⊎_elim (λ (k : In p). k) (λ (k : Memᴰ p []). absurd (Memᴰ.not-nil k)) m) S
  smallest_grown In lo hi n L H all S (q ∷ ps) also =
      smallest_members (λ p. (In p ⊎ (p ≡ q)) ⊎ Memᴰ p ps) (λ p. In p ⊎ Memᴰ p (q ∷ ps)) (lowest (joined least lo q) ps) (highest (joined greatest hi q) ps) n to from
      (smallest_grown (λ p. In p ⊎ (p ≡ q)) (joined least lo q) (joined greatest hi q) n (le_trans L (le_of_eq (sym (joined_length least lo q)))) (le_trans H (le_of_eq (sym (joined_length greatest hi q))))
      (member In (λ p. p ≡ q) lo hi q q n L H all one S (smallest_point q n at)) (smallest_join In (λ p. p ≡ q) lo hi q q n L H all one S (smallest_point q n at)) ps (λ p m. also p (Memᴰ.tail m)))
    where
      at : (i : ℕ) → i < n → P (channel q i)
      at = also q (Memᴰ.head refl)

      one : (p : List Float) → p ≡ q → (i : ℕ) → i < n → P (channel p i)
      one p e i h = subst (λ (x : List Float). P (channel x i)) (sym e) (at i h)

      to : (p : List Float) → (In p ⊎ (p ≡ q)) ⊎ Memᴰ p ps → In p ⊎ Memᴰ p (q ∷ ps)
      to p (inl (inl m)) = inl m
      to p (inl (inr e)) = inr (Memᴰ.head e)
      to p (inr m) = inr (Memᴰ.tail m)

      from : (p : List Float) → In p ⊎ Memᴰ p (q ∷ ps) → (In p ⊎ (p ≡ q)) ⊎ Memᴰ p ps
      from p (inl m) = inl (inl m)
      from p (inr m) = ⊎_elim (λ (e : p ≡ q). inl (inr e)) (λ (k : Memᴰ p ps). inr k) (Memᴰ.cases_cons m)

  -- new(p, p), then each of ps added: smallest around them all
  pub smallest_around : (p : List Float) (ps : List (List Float)) (n : ℕ) → n ≤ length p → ((q : List Float) → Memᴰ q (p ∷ ps) → (i : ℕ) → i < n → P (channel q i))
      → Smallest (λ q. Memᴰ q (p ∷ ps)) (lowest (joined least p p) ps) (highest (joined greatest p p) ps) n
  smallest_around p ps n L all =
      rw (joined_same least least_same p, joined_same greatest greatest_same p)
      (smallest_members (λ q. (q ≡ p) ⊎ Memᴰ q ps) (λ q. Memᴰ q (p ∷ ps)) (lowest p ps) (highest p ps) n (λ q m. ⊎_elim (λ (e : q ≡ p). Memᴰ.head e) (λ (k : Memᴰ q ps). Memᴰ.tail k) m) (λ q m. Memᴰ.cases_cons m)
      (smallest_grown (λ q. q ≡ p) p p n L L (λ q e. all q (Memᴰ.head e)) (smallest_point p n (all p (Memᴰ.head refl))) ps (λ q m. all q (Memᴰ.tail m))))

  -- Where a place is one float's only, two smallest boxes around the same points are equal: in whatever order they were grown.
  pub smallest_unique : ((x y : Float) → P x → P y → place x ≡ place y → x ≡ y) → (In Jn : List Float → Type 0) (lo hi a b : List Float) (n : ℕ)
      → ((p : List Float) → In p → (i : ℕ) → i < n → P (channel p i)) → ((p : List Float) → In p → Jn p) → ((p : List Float) → Jn p → In p)
      → length lo ≡ n → length a ≡ n → length hi ≡ n → length b ≡ n → Smallest In lo hi n → Smallest Jn a b n → (lo ≡ a) × (hi ≡ b)
  smallest_unique one In Jn lo hi a b n all to from l l' u u' S R = (
    ext_get_or nan lo a (l ∙ sym l') (λ i h. low i (subst (λ (m : ℕ). i < m) l h)),
    ext_get_or nan hi b (u ∙ sym u') (λ i h. high i (subst (λ (m : ℕ). i < m) u h)),
  )
    where
      S' : Smallest In a b n
      S' = smallest_members Jn In a b n from to R

      -- each lower end is a point's coordinate, which the other is at or below
      lower : (x y x' y' : List Float) → Smallest In x y n → Smallest In x' y' n → (i : ℕ) → i < n → place (channel x i) ≤ place (channel x' i)
      lower x y x' y' X X' i h =
          let w = X'.low_met i h in
          le_places P place K (channel x i) (channel x' i) (low_kind In x y n all X i h) (low_kind In x' y' n all X' i h) (subst (λ (z : Float). T (le (channel x i) z)) (sym w.2) (X.below w.0 w.1 i h))

      upper : (x y x' y' : List Float) → Smallest In x y n → Smallest In x' y' n → (i : ℕ) → i < n → place (channel y i) ≤ place (channel y' i)
      upper x y x' y' X X' i h =
          let w = X.high_met i h in
          le_places P place K (channel y i) (channel y' i) (high_kind In x y n all X i h) (high_kind In x' y' n all X' i h) (subst (λ (z : Float). T (le z (channel y' i))) (sym w.2) (X'.above w.0 w.1 i h))

      low : (i : ℕ) → i < n → channel lo i ≡ channel a i
      low i h = one (channel lo i) (channel a i) (low_kind In lo hi n all S i h) (low_kind In a b n all S' i h) (le_antisymm (lower lo hi a b S S' i h) (lower a b lo hi S' S i h))

      high : (i : ℕ) → i < n → channel hi i ≡ channel b i
      high i h = one (channel hi i) (channel b i) (high_kind In lo hi n all S i h) (high_kind In a b n all S' i h) (le_antisymm (upper lo hi a b S S' i h) (upper a b lo hi S' S i h))

-- a smallest box around readings is a box of coordinates
pub smallest_box : (In : List Float → Type 0) (lo hi : List Float) (n : ℕ) → n ≤ 32 → ((p : List Float) → In p → (i : ℕ) → i < n → T (is_coordinate (channel p i)))
    → Smallest In lo hi n → Box (channel lo) (channel hi) n
smallest_box In lo hi n few all S = record {
  few = few;
  lower = low_kind _ rank by_rank In lo hi n all S;
  upper = high_kind _ rank by_rank In lo hi n all S;
  ordered = λ i h.
      let w = S.low_met i h in
      le_places _ rank by_rank (channel lo i) (channel hi i) (low_kind _ rank by_rank In lo hi n all S i h) (high_kind _ rank by_rank In lo hi n all S i h)
      (subst (λ (x : Float). T (le x (channel hi i))) (sym w.2) (S.above w.0 w.1 i h));
}

lowest_length : (lo : List Float) (ps : List (List Float)) → length (lowest lo ps) ≡ length lo
unfolding lowest
lowest_length lo [] = refl
lowest_length lo (p ∷ ps) = lowest_length (joined least lo p) ps ∙ joined_length least lo p

highest_length : (hi : List Float) (ps : List (List Float)) → length (highest hi ps) ≡ length hi
unfolding highest
highest_length hi [] = refl
highest_length hi (p ∷ ps) = highest_length (joined greatest hi p) ps ∙ joined_length greatest hi p

-- two lists of readings with the same members have the same box, whatever their order
pub same_box : (p q : List Float) (ps qs : List (List Float)) (n : ℕ) → length p ≡ n → length q ≡ n → ((x : List Float) → Memᴰ x (p ∷ ps) → (i : ℕ) → i < n → Whole (channel x i))
    → ((x : List Float) → Memᴰ x (p ∷ ps) → Memᴰ x (q ∷ qs)) → ((x : List Float) → Memᴰ x (q ∷ qs) → Memᴰ x (p ∷ ps))
    → (lowest (joined least p p) ps ≡ lowest (joined least q q) qs) × (highest (joined greatest p p) ps ≡ highest (joined greatest q q) qs)
same_box p q ps qs n l k all to from =
    smallest_unique Whole rank by_whole same_rank (λ x. Memᴰ x (p ∷ ps)) (λ x. Memᴰ x (q ∷ qs)) (lowest (joined least p p) ps) (highest (joined greatest p p) ps) (lowest (joined least q q) qs)
    (highest (joined greatest q q) qs) n all to from (low p ps l) (low q qs k) (high p ps l) (high q qs k) (smallest_around Whole rank by_whole p ps n (le_of_eq (sym l)) all)
    (smallest_around Whole rank by_whole q qs n (le_of_eq (sym k)) (λ x m. all x (from x m)))
  where
    low : (x : List Float) (xs : List (List Float)) → length x ≡ n → length (lowest (joined least x x) xs) ≡ n
    low x xs e = lowest_length (joined least x x) xs ∙ joined_length least x x ∙ e

    high : (x : List Float) (xs : List (List Float)) → length x ≡ n → length (highest (joined greatest x x) xs) ≡ n
    high x xs e = highest_length (joined greatest x x) xs ∙ joined_length greatest x x ∙ e
