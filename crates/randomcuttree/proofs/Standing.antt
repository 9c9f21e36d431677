-- Each world that calls leave stands in arrays, and a put keeps the state. Assumes nothing.
use Rattle.std.specs.Prelude.{Result}
use mathlib.Core.Path.{◌≡◌, refl, sym, ◌∙◌}
use mathlib.Core.List.{List, [], ◌∷◌}
use Prim.Native.Nat.{ℕ, ◌≤◌}
use lib.Ieee.{Float}
use Rattle.limits.specs.Limits.{width}
use Rattle.cuttree.specs.Run.{World, Call, Answer, put, call, world_after, fresh}
use Rattle.cuttree.proofs.Refused.{by_put}
use Rattle.wholetree.specs.Whole.{whole}
use Rattle.refusals.specs.declared.Refusal.{Refusal}
use Rattle.pointstore.specs.Puts.{PutDone}
use Rattle.treestore.proofs.Parts.{counts_cached}
use Rattle.randomcuttree.specs.State.{cached_by, State, Reachable}
use Rattle.randomcuttree.specs.Standing.{StatesStand, PutsKeep}
use Rattle.randomcuttree.proofs.Reaches.{reachable_call, reachable_fresh}
use Rattle.randomcuttree.proofs.Parts.{copies_are}

pub reachable_after : (d c : ℕ) → 1 ≤ d → d ≤ width → (W : World (whole d)) → Reachable d c W → (cs : List (Call (whole d))) → Reachable d c (world_after (whole d) c W cs)
reachable_after d c l m W R [] = R
reachable_after d c l m W R (x ∷ cs) = reachable_after d c l m (call (whole d) c W x).1 (reachable_call d c l m W x R) cs

pub states_stand : StatesStand
states_stand d c s l m n o p cs = record { header_is = refl; arrays_are = refl; table_is = refl; reachable = reachable_after d c l m (fresh (whole d) c) (reachable_fresh d c n) cs; limits = (l, m, n, o, p) }

-- a put writes no tree
abbrev Kept : (d : ℕ) → World (whole d) → Answer (whole d) × World (whole d) → Type 0
Kept d W x = (x.1.tree ≡ W.tree) × (x.1.free ≡ W.free)

put_kept : (d c : ℕ) (W : World (whole d)) (i : ℕ) (xs : List Float) → Kept d W (call (whole d) c W (put i xs))
put_kept d c W i xs = by_put (whole d) c (Kept d W) W (λ _. (refl, refl)) i xs (λ U e. e)

pub puts_keep : PutsKeep
puts_keep d c s W tree a points marks H = (record { table = H.table_is; leaves = copies_are H ∙ sym (counts_cached d c (cached_by s c) W.tree); sound = H.reachable.sound }, after)
  where
    after : (i : ℕ) (xs : List Float) (points' : List (List Float)) (marks' : List ℕ) (r : Result Unit Refusal) → PutDone d c W i xs points' marks' r → State d c s (call (whole d) c W (put i xs)).1 tree a points' marks'
    after i xs points' marks' r P =
        let e = put_kept d c W i xs in
        record { header_is = rw (e.0, e.1) H.header_is; arrays_are = rw (e.0, e.1) H.arrays_are; table_is = P.table; reachable = reachable_call d c H.limits.0 H.limits.1 W (put i xs) H.reachable; limits = H.limits }
