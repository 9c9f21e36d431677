-- What is kept of a world is as demand 3 says, and so are the code's own calls from it, one after another. Assumes nothing.
use mathlib.Core.Path.{◌≡◌, refl, sym, ap, ◌∙◌, subst}
use mathlib.Core.Option.{none}
use mathlib.Core.List.{List, [], ◌∷◌}
use Prim.Native.Nat.{ℕ}
use lib.Ieee.{Float}
use Rattle.cuttree.specs.Run.{World, Call, put, add, delete, query, copies_of, branch_of, box_of, Answer, call, answers, world_after}
use Rattle.cuttree.specs.Counts.{Counts, count}
use Rattle.cuttree.specs.Demand3.{view_of}
use Rattle.cuttree.proofs.Keeps.{Inv, inv_call}
use Rattle.cuttree.proofs.Claims.{tree_claim, call_claim}
use Rattle.wholetree.specs.Whole.{whole}
use Rattle.wholetree.proofs.Laws.{whole_laws}
use Rattle.layout.specs.Layout.{Table}
use Rattle.demand3.specs.Steps.{Kept, CallStep}
use Rattle.demand3.specs.Claim.{StateClaim, CallsMade}
use Rattle.demand3.proofs.Asked.{asked_is}
use Rattle.demand3.proofs.Boxes.{cached_boxes}
use Rattle.demand3.proofs.Channels.{on_channels}
use Rattle.demand3.proofs.Sampled.{OfWorld, of_sample, stands_sampled}
use Rattle.demand3.proofs.Steps.{StateOf, Stands, call_is}

-- a bare tree's calls leave a bare tree
still_bare : (d : ℕ) (x : Kept) (e : Call (whole d)) (a : Answer (whole d)) (y : Kept) → CallStep d x e a y → x.sample ≡ none → y.sample ≡ none
still_bare d x (put i xs) a y (r, e, P, same) b = same.sample ∙ b
still_bare d x (add i ws) a y (r, e, D, header, same, bare, still) b = still
still_bare d x (delete i) a y (r, e, D, header, same, bare, still) b = still
still_bare d x (query (copies_of n)) a y e b = ap (λ (z : Kept). z.sample) e.1 ∙ b
still_bare d x (query (branch_of n)) a y e b = ap (λ (z : Kept). z.sample) e.1 ∙ b
still_bare d x (query (box_of n)) a y (r, e, told, same) b = ap (λ (z : Kept). z.sample) same ∙ b

-- what is kept, told by equal parts
equal_parts : (x y : Kept) → x.tree ≡ y.tree → x.arrays ≡ y.arrays → x.table ≡ y.table → x.sample ≡ y.sample
    → x ≡ record { tree = y.tree; arrays = y.arrays; table = y.table; sample = y.sample }
equal_parts x y tree arrays table sample = rw (← tree, ← arrays, ← table, ← sample) refl

module _ (d c : ℕ) (s : Float) where
  unfoldable pub state_claim : (W : World (whole d)) (x : Kept) (K : Counts (whole d)) → Stands d c s W x → Inv (whole d) c W K → StateClaim d c s x K
  state_claim W x K (S, B) I = record {
    view = view_of (whole d) c W K;
    asked = asked_is d c s W x S;
    value = λ n. refl;
    tree = tree_claim (whole d) c (whole_laws d) W K I;
    boxes = cached_boxes d c s W x K S I;
    sample = of_sample d c s W K x I B;
    channels = on_channels d c W K I S.reachable.on_channels;
    stands = (record { channels = d; capacity = c; share = s; world = W; state = S }, stands_sampled d c s W x B);
  }

  -- header, arrays and table are the world's, so two that are kept of one world are the same
  same_kept : (W : World (whole d)) (x y : Kept) → StateOf d c s W x → StateOf d c s W y → x.sample ≡ y.sample → x ≡ y
  same_kept W x y S T e =
      let table : x.table ≡ y.table = ap (λ (t : Table). record { points = t.points; written = t.written }) (S.table_is ∙ sym T.table_is) in
      equal_parts x y (S.header_is ∙ sym T.header_is) (S.arrays_are ∙ sym T.arrays_are) table e

  -- y being what is kept of the world after the calls
  pub calls_made : (W : World (whole d)) (x : Kept) (K : Counts (whole d)) (es : List (Call (whole d))) (y : Kept) → StateOf d c s W x → x.sample ≡ none → Inv (whole d) c W K
      → StateOf d c s (world_after (whole d) c W es) y → y.sample ≡ none → CallsMade d c s x K es (answers (whole d) c W es) y
  unfolding state_claim
  calls_made W x K [] y S b I T e = same_kept W x y S T (b ∙ sym e)
  calls_made W x K (e ∷ es) y S b I T f =
      let B : Stands d c s W x = (S, subst (OfWorld d c s W x) (sym b) tt) in (
        state_claim W x K B I,
        call_claim (whole d) c (whole_laws d) W K e I,
        λ o z step.
            let (p, Z) = call_is d c s W x e o z B step in
            (p, calls_made (call (whole d) c W e).1 z (count (whole d) e (call (whole d) c W e).0 K) es y Z.0 (still_bare d x e o z step b) (inv_call (whole d) c (whole_laws d) W K e I) T f),
      )
