-- Each sampled world that calls leave stands in arrays, and a put keeps the state. Assumes nothing.
use mathlib.Core.Path.{◌≡◌, refl, sym, ap, ◌∙◌, subst}
use mathlib.Core.Bool.{true}
use mathlib.Core.List.{List, [], ◌∷◌}
use Prim.Native.Nat.{ℕ, ◌≤◌}
use native.Mathlib.Omega.{arith}
use lib.Ieee.{Float}
use Rattle.limits.specs.Limits.{width, capacity_limit}
use Rattle.readings.specs.Share.{is_share}
use Rattle.cuttree.specs.Run as Bare
use Rattle.wholetree.specs.Whole.{whole}
use Rattle.wholetree.proofs.Laws.{whole_laws}
use Rattle.sampledtree.specs.Sampled.{Sampled, SampledAnswer, SampledCall, plain, not_accepted, accepted, put, arrive, query, call, sampled_after, fresh}
use Rattle.sampledtree.specs.Arrivals.{counts_as, Agrees, Arrives}
use Rattle.sampledtree.proofs.Arrivals.{every_arrival}
use Rattle.sampledtree.proofs.Keeps.{every_put, fresh_agrees}
use Rattle.randomcuttree.specs.declared.RCFTree.{RCFTree}
use Rattle.randomcuttree.specs.State.{State, Reachable, header_of}
use Rattle.randomcuttree.proofs.Reaches.{reachable_call, reachable_fresh}
use Rattle.randomcuttree.proofs.Standing.{reachable_after, puts_keep}
use Rattle.samplerplustree.specs.State.{sampler_of}
use Rattle.samplerplustree.specs.Standing.{SampledStand, PutsKeepSampled}

-- ---- every call keeps what a state asks
record Good (d : ℕ) (X : Sampled (whole d)) : Type 0 where
  pub reachable : Reachable d X.capacity X.world
  pub agrees : Agrees (whole d) X
  pub low : 2 ≤ X.capacity
  pub high : X.capacity ≤ capacity_limit
  pub initial_is : is_share X.initial ≡ true

module _ (d : ℕ) (l : 1 ≤ d) (m : d ≤ width) where
  -- an accepted arrival leaves a world that bare calls leave, any other leaves all
  arrived : (X : Sampled (whole d)) (i : ℕ) (w : Float) (ws : List ℕ) → Good d X → (y : SampledAnswer (whole d) × Sampled (whole d)) → Arrives (whole d) X i w ws y → Good d y.1
  arrived X i w ws G (plain a, Y) h = subst (Good d) (sym h.1) G
  arrived X i w ws G (not_accepted, Y) h = subst (Good d) (sym h) G
  arrived X i w ws G (accepted j e, Y) (A, top, agrees) = subst (Good d) (sym A.leaves) (record {
    reachable = reachable_after d X.capacity l m X.world G.reachable (counts_as (whole d) e i ws);
    agrees = subst (Agrees (whole d)) A.leaves agrees;
    low = G.low;
    high = G.high;
    initial_is = G.initial_is;
  })

  good_call : (X : Sampled (whole d)) (x : SampledCall (whole d)) → Good d X → Good d (call (whole d) X x).1
  good_call X (put i xs) G = record {
    reachable = reachable_call d X.capacity l m X.world (Bare.put i xs) G.reachable;
    agrees = every_put (whole d) (whole_laws d) X i xs G.agrees;
    low = G.low;
    high = G.high;
    initial_is = G.initial_is;
  }
  good_call X (query q) G = G
  good_call X (arrive i w x ws) G = arrived X i w ws G (call (whole d) X (arrive i w x ws)) (every_arrival (whole d) (whole_laws d) X i w x ws G.agrees)

  good_after : (X : Sampled (whole d)) → Good d X → (cs : List (SampledCall (whole d))) → Good d (sampled_after (whole d) X cs)
  good_after X G [] = G
  good_after X G (x ∷ cs) = good_after (call (whole d) X x).1 (good_call X x G) cs

pub sampled_stand : SampledStand
sampled_stand d c s f l m n o p q cs =
    let G = good_after d l m (fresh (whole d) c f) (record { reachable = reachable_fresh d c n; agrees = fresh_agrees (whole d) c f n (omega arith); low = n; high = o; initial_is = q }) cs in
    record {
      head_is = refl;
      tree_is = record { header_is = refl; arrays_are = refl; table_is = refl; reachable = G.reachable; limits = (l, m, G.low, G.high, p) };
      weights_are = refl;
      held_are = refl;
      agrees = G.agrees;
      initial_is = G.initial_is;
    }

pub puts_keep_sampled : PutsKeepSampled
puts_keep_sampled d s X h a points marks weights held S =
    let c = X.capacity in
    let K = puts_keep d c s X.world (header_of d c s X.world) a points marks S.tree_is in (
      K.0,
      λ i xs points' marks' r P.
          let T = K.1 i xs points' marks' r P in
          let W = (Bare.call (whole d) c X.world (Bare.put i xs)).1 in
          record {
            head_is = S.head_is ∙ ap (λ (t : RCFTree). record { tree = t; sampler = sampler_of c X.sample; initial_accept_fraction = X.initial }) T.header_is;
            tree_is = subst (λ t. State d c s W t a points' marks') T.header_is T;
            weights_are = S.weights_are;
            held_are = S.held_are;
            agrees = every_put (whole d) (whole_laws d) X i xs S.agrees;
            initial_is = S.initial_is;
          },
    )
