-- The heap of sampler.rs as the list of what its slots keep, in their order: below the entry at i stand those at 2i + 1 and 2i + 2.
-- Definitions, with two calls of the Rust computed beside them, and what is proved of them.
use Rattle.std.specs.Prelude.{◌≡◌, refl, Bool, true, false, cond, ◌&&◌, List, [], ◌∷◌, ◌++◌, ℕ, zero, suc, ◌+◌, ◌-◌, ◌*◌, ◌/◌, ◌<◌, ltb, length, get_or, set, take}

-- z stands for what is read beyond a list's end.
module _ {A : Type 0} (z : A) where
  -- `swap_weights`: the entries at a and b change places.
  abbrev pub swapped : List A → ℕ → ℕ → List A
  swapped xs a b = set (set xs a (get_or xs b z)) b (get_or xs a z)

  -- `evict_max`: the first entry goes, and the last takes its place.
  unfoldable pub refilled : List A → List A
  refilled [] = []
  refilled (x ∷ xs) = take (length xs) (get_or (x ∷ xs) (length xs) z ∷ xs)

  -- An entry on its way through the places, from i: while `goes` says so, it changes places with the one that stands where it goes `to`.
  -- It takes n steps at most.
  unfoldable pub moved : (List A → ℕ → Bool) → (List A → ℕ → ℕ) → ℕ → List A → ℕ → List A
  moved goes to zero xs i = xs
  moved goes to (suc n) xs i = cond (goes xs i) (moved goes to n (swapped xs i (to xs i)) (to xs i)) xs

-- The sum of f over a list. With an f that is 1 at some entries and 0 at the others, how many of those there are.
unfoldable pub total : {A : Type 0} → (A → ℕ) → List A → ℕ
total f [] = 0
total f (x ∷ xs) = f x + total f xs

-- The place above i, where there is one.
abbrev pub parent : ℕ → ℕ
parent i = (i - 1) / 2

-- An order on the entries that are `Good`, where `above x y` says that x weighs more than y: of two one at most is above the other, and
-- what is not above one that is not above a third is not above the third.
pub record Orders {A : Type 0} (above : A → A → Bool) (Good : A → Type 0) : Type 0 where
  pub one_way : (x y : A) → Good x → Good y → above x y ≡ true → above y x ≡ false
  pub through : (x y w : A) → Good x → Good y → Good w → above x y ≡ false → above y w ≡ false → above x w ≡ false

module _ {A : Type 0} (above : A → A → Bool) (z : A) where
  -- `add_point`'s loop: the entry at i goes up while its parent weighs less. That takes i steps at most.
  abbrev pub rises : List A → ℕ → Bool
  rises xs i = ltb 0 i && above (get_or xs i z) (get_or xs (parent i) z)

  abbrev pub raised : List A → ℕ → List A
  raised xs i = moved z rises (λ _. parent) i xs i

  -- `add_point`: the new entry goes up from the end.
  abbrev pub pushed : List A → A → List A
  pushed xs x = raised (xs ++ (x ∷ [])) (length xs)

  -- `swap_down`'s `max_index`: the right child only where there is one that weighs more than the left.
  abbrev pub to_right : List A → ℕ → Bool
  to_right xs i = ltb (2 * i + 2) (length xs) && above (get_or xs (2 * i + 2) z) (get_or xs (2 * i + 1) z)

  unfoldable pub heavier : List A → ℕ → ℕ
  heavier xs i = cond (to_right xs i) (2 * i + 2) (2 * i + 1)

  -- `swap_down`: the entry at i goes down while there is a child that weighs more. That takes fewer steps than there are entries.
  abbrev pub sinks : List A → ℕ → Bool
  sinks xs i = ltb (2 * i + 1) (length xs) && above (get_or xs (heavier xs i) z) (get_or xs i z)

  abbrev pub sunk : List A → ℕ → List A
  sunk xs i = moved z sinks heavier (length xs) xs i

  -- `evict_max`: the last entry, in the first's place, goes down.
  abbrev pub popped : List A → List A
  popped xs = sunk (refilled z xs) 0

  -- WHAT IS PROVED, for any `above`, in proofs/Counts.antt: both calls keep the entries, but for the one that comes or goes.
  abbrev pub PushKeeps : Type 0
  PushKeeps = (f : A → ℕ) (xs : List A) (x : A) → total f (pushed xs x) ≡ f x + total f xs

  abbrev pub PopKeeps : Type 0
  PopKeeps = (f : A → ℕ) (x : A) (xs : List A) → total f (x ∷ xs) ≡ f x + total f (popped (x ∷ xs))

  abbrev pub PushLength : Type 0
  PushLength = (xs : List A) (x : A) → length (pushed xs x) ≡ length xs + 1

  abbrev pub PopLength : Type 0
  PopLength = (x : A) (xs : List A) → length (popped (x ∷ xs)) ≡ length xs

  -- A heap of good entries: none is above its parent.
  pub record Heap (Good : A → Type 0) (xs : List A) : Type 0 where
    pub each : (i : ℕ) → i < length xs → Good (get_or xs i z)
    pub ordered : (i : ℕ) → 0 < i → i < length xs → above (get_or xs i z) (get_or xs (parent i) z) ≡ false

  -- In proofs/Order.antt: both calls keep a heap, and its first entry is a largest.
  abbrev pub PushHeap : Type 1
  PushHeap = (Good : A → Type 0) → Orders above Good → (xs : List A) (x : A) → Heap Good xs → Good x → Heap Good (pushed xs x)

  abbrev pub PopHeap : Type 1
  PopHeap = (Good : A → Type 0) → Orders above Good → (xs : List A) → Heap Good xs → Heap Good (popped xs)

  abbrev pub FirstLargest : Type 1
  FirstLargest = (Good : A → Type 0) → Orders above Good → (xs : List A) → Heap Good xs → (i : ℕ) → i < length xs → above (get_or xs i z) (get_or xs 0 z) ≡ false

-- Numbers with a second one beside them to tell equals apart. The left of two equal children goes up
abbrev first_above : ℕ × ℕ → ℕ × ℕ → Bool
first_above x y = ltb y.0 x.0

evicted : popped first_above (0, 0) ((5, 0) ∷ (4, 1) ∷ (4, 2) ∷ (1, 3) ∷ []) ≡ (4, 1) ∷ (1, 3) ∷ (4, 2) ∷ []
unfolding refilled moved heavier
evicted = refl

-- and an entry does not go past a parent that weighs the same.
added : pushed first_above (0, 0) ((5, 0) ∷ (4, 1) ∷ (4, 2) ∷ (1, 3) ∷ []) (5, 4) ≡ (5, 0) ∷ (5, 4) ∷ (4, 2) ∷ (1, 3) ∷ (4, 1) ∷ []
unfolding moved
added = refl
