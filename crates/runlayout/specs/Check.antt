-- How many numbers a run's answers take, and whether those lent are enough. Definitions.
use Rattle.std.specs.Prelude.{Bool, cond, List, [], ◌∷◌, ℕ, ◌+◌, ◌*◌, eqb, leb, Option, None, Some}
use Rattle.std.proofs.Math.Option as Math
use Rattle.std.proofs.Math.Option.{none, some}
use Rattle.cuttree.specs.Run.{Call, put, add, delete, query, copies_of, branch_of, box_of}
use Rattle.wholetree.specs.Whole.{whole}
use Rattle.runlayout.specs.Layout.{RunCall, plain, arrives, reports, sample}

-- the numbers of a call's answer: of a put, an add, a delete or a query
abbrev pub plain_width : (d : ℕ) → Call (whole d) → ℕ
plain_width d (put i x) = 1
plain_width d (add i ws) = 3
plain_width d (delete i) = 2
plain_width d (query (copies_of x)) = 2
plain_width d (query (branch_of x)) = 6
plain_width d (query (box_of x)) = 1 + 2 * d

-- a tree of d channels and capacity c
module _ (d c : ℕ) where
  -- of each call; a report's rows have five numbers each, the sample's entries two
  abbrev pub width_of : RunCall d → ℕ
  width_of (plain e) = plain_width d e
  width_of (arrives i w x ws) = 4
  width_of (reports n xs) = 2 + 5 * n
  width_of sample = 2 + 2 * c

  abbrev pub widths : List (RunCall d) → ℕ
  widths [] = 0
  widths (x ∷ xs) = width_of x + widths xs

  -- the same by the call's kind k and its second number n
  unfoldable pub width_of_kind : ℕ → ℕ → ℕ
  width_of_kind k n =
      cond (eqb k 3) 1
      (cond (eqb k 4) 3
      (cond (eqb k 6) 4
      (cond (eqb k 7) (2 + 5 * n)
      (cond (eqb k 9) 6
      (cond (eqb k 10) (1 + 2 * d)
      (cond (eqb k 11) (2 + 2 * c) 2))))))

  -- whether those lent are enough for calls whose answers come after `used` numbers; None where the calls are out of the layout
  abbrev pub verdict : (lent used : ℕ) → Math.Option (List (RunCall d)) → Option Bool
  verdict lent used none = None
  verdict lent used (some cs) = Some (leb (used + widths cs) lent)
