-- The byte run of docs/LAYOUT.md: its numbers, the making at its front, the call at a place in it, and all its calls. Definitions.
use Rattle.std.specs.Prelude.{◌≡◌, Bool, cond, ◌&&◌, ◌||◌, List, [], ◌∷◌, ℕ, zero, suc, ◌+◌, ◌*◌, ◌/◌, ◌%◌, eqb, leb, length, Float}
use Rattle.std.proofs.Math.Option.{Option, none, some}
use Rattle.std.specs.Float.{binary32, binary64}
use Rattle.std.specs.Float.Ieee.{of_bits}
use Rattle.little.specs.Little.{little32, little64}
use Rattle.cuttree.specs.Run.{Call, put, add, delete, query, copies_of, branch_of, box_of}
use Rattle.wholetree.specs.Whole.{whole, tab}

-- What a run asks of its tree: a put, an add, a delete or a query; an arrival with its point index, weight, word for the starting chance and
-- words for the tree; a report, with so many rows lent, of a query's coordinates; what the sample keeps.
pub data RunCall (d : ℕ) : Type 0 where
  plain : Call (whole d) → RunCall d
  arrives : ℕ → Float → ℕ → List ℕ → RunCall d
  reports : ℕ → List Float → RunCall d
  sample : RunCall d

-- a call more in front of the calls, if these are
abbrev pub with_call : {A : Type 0} → A → Option (List A) → Option (List A)
with_call x none = none
with_call x (some xs) = some (x ∷ xs)

-- docs/LAYOUT.md, 'The run': kinds 3 and 7 to 10 stand on both kinds of tree, 4 and 5 on a bare one, 6 and 11 on a sampled one
abbrev pub is_call : Bool → ℕ → Bool
is_call sampled k = eqb k 3 || (leb 7 k && leb k 10) || cond sampled (eqb k 6 || eqb k 11) (eqb k 4 || eqb k 5)

-- of those, a put, an add, a delete or a query
abbrev pub IsPlain : ℕ → Type 0
IsPlain k = (k ≡ 6 → ⊥) × (k ≡ 7 → ⊥) × (k ≡ 11 → ⊥)

-- how many numbers a call of kind k has, whose third number is n and whose sixth is m
unfoldable pub call_width : ℕ → ℕ → ℕ → ℕ
call_width k n m = cond (eqb k 3 || eqb k 7) (3 + n) (cond (eqb k 4) (3 + 2 * n) (cond (eqb k 6) (6 + 2 * m) (cond (eqb k 11) 1 2)))

module _ (bytes : List ℕ) where
  -- 'numbers of 32 bits, the lowest byte first': how many, and each by its place
  abbrev pub size : ℕ
  size = length bytes / 4

  abbrev pub number : ℕ → ℕ
  number p = little32 bytes (4 * p)

  -- 'a share is the bits of an f64 and a word is 64 bits: two numbers, the lower half first'
  abbrev pub double : ℕ → ℕ
  double p = little64 bytes (4 * p)

  -- the making: kind 1 makes a bare tree, kind 2 a sampled one
  abbrev pub is_sampled : Bool
  is_sampled = eqb (number 0) 2

  abbrev pub channels : ℕ
  channels = number 1

  abbrev pub capacity : ℕ
  capacity = number 2

  abbrev pub share : Float
  share = of_bits binary64 (double 3)

  -- of a sampled tree alone
  abbrev pub initial : Float
  initial = of_bits binary64 (double 5)

  abbrev pub making_width : ℕ
  making_width = cond is_sampled 7 5

  abbrev pub begins_with_making : Bool
  begins_with_making = eqb (length bytes % 4) 0 && ((eqb (number 0) 1 || is_sampled) && leb making_width size)

  -- how many numbers the call at a place has, and whether there is one that ends within the run
  abbrev pub width_at : ℕ → ℕ
  width_at p = call_width (number p) (number (p + 2)) (number (p + 5))

  abbrev pub stands_at : ℕ → Bool
  stands_at p = is_call is_sampled (number p) && leb (p + width_at p) size

  -- what a put and a report, an add and an arrival bring
  abbrev pub coordinates_at : ℕ → List Float
  coordinates_at p = tab (number (p + 2)) (λ (i : ℕ). of_bits binary32 (number (p + 3 + i)))

  abbrev pub words_from : ℕ → ℕ → List ℕ
  words_from n q = tab n (λ (i : ℕ). double (q + 2 * i))

  abbrev pub words_at : ℕ → List ℕ
  words_at p = words_from (number (p + 2)) (p + 3)

  abbrev pub arrival_words_at : ℕ → List ℕ
  arrival_words_at p = words_from (number (p + 5)) (p + 6)

  -- a tree of d channels
  module _ (d : ℕ) where
    -- a put, an add, a delete or a query
    abbrev pub plain_at : ℕ → Call (whole d)
    plain_at p =
        cond (eqb (number p) 3) (put (number (p + 1)) (coordinates_at p))
        (cond (eqb (number p) 4) (add (number (p + 1)) (words_at p))
        (cond (eqb (number p) 5) (delete (number (p + 1)))
        (cond (eqb (number p) 8) (query (copies_of (number (p + 1))))
        (cond (eqb (number p) 9) (query (branch_of (number (p + 1))))
        (query (box_of (number (p + 1))))))))

    abbrev pub call_at : ℕ → RunCall d
    call_at p =
        cond (eqb (number p) 6) (arrives (number (p + 1)) (of_bits binary32 (number (p + 2))) (double (p + 3)) (arrival_words_at p))
        (cond (eqb (number p) 7) (reports (number (p + 1)) (coordinates_at p))
        (cond (eqb (number p) 11) sample
        (plain (plain_at p))))

    -- the calls from a place on, n at most; none where the run is out of its layout
    abbrev pub calls_from : ℕ → ℕ → Option (List (RunCall d))
    calls_from zero p = cond (eqb p size) (some []) none
    calls_from (suc n) p = cond (eqb p size) (some []) (cond (stands_at p) (with_call (call_at p) (calls_from n (p + width_at p))) none)

    -- a call has a number at least, so there are no more calls than numbers
    abbrev pub rest_from : ℕ → Option (List (RunCall d))
    rest_from p = calls_from size p

  abbrev pub in_layout : Bool → Option (List (RunCall channels))
  in_layout b = cond b (rest_from channels making_width) none

  -- all calls of the run, or none where it is out of its layout
  abbrev pub calls : Option (List (RunCall channels))
  calls = in_layout begins_with_making
