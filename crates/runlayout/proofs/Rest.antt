-- The calls from a place of a byte run on, by the call at the place and the calls after it, and what a making says of the run's size. Laws.
use mathlib.Core.Path.{◌≡◌, refl, sym, ap, ◌∙◌}
use mathlib.Core.Bool.{Bool, true, false, cond, ◌&&◌, ◌||◌}
use mathlib.Core.Option.{Option, none, some}
use mathlib.Core.List.{List, [], ◌∷◌}
use Prim.Native.Nat.{ℕ, zero, suc, ◌+◌, ◌*◌, ◌%◌, ◌<◌, ◌≤◌}
use native.Mathlib.Omega.{arith}
use borrow.Author.Tests.{eqb-true, leb-true, eq-eqb, ne_eqb, lt-leb}
use lib.Dec.{eqb, leb}
use lib.ListN.{length}
use Rattle.cuttree.proofs.Tests.{by_cond, by-test, nonsense, cond_true, cond_false}
use Rattle.runlayout.specs.Layout.{RunCall, with_call, is_call, size, number, is_sampled, making_width, begins_with_making, width_at, stands_at, call_at, calls_from, rest_from}
use Rattle.runlayout.proofs.ByKind.{and_left, and_right, width_least}

and_false : (a b : Bool) → b ≡ false → (a && b) ≡ false
and_false true b e = e
and_false false b e = refl

cond_same : {A : Type 0} (b : Bool) (x y z : A) → (b ≡ true → x ≡ y) → cond b x z ≡ cond b y z
cond_same true x y z f = f refl
cond_same false x y z f = refl

cond_same_last : {A : Type 0} (b : Bool) (x y z : A) → (b ≡ false → y ≡ z) → cond b x y ≡ cond b x z
cond_same_last true x y z f = refl
cond_same_last false x y z f = f refl

module _ (bytes : List ℕ) where
  least : (p : ℕ) → 1 ≤ width_at bytes p
  least p = width_least (number bytes p) (number bytes (p + 2)) (number bytes (p + 5))

  pub within : (p : ℕ) → stands_at bytes p ≡ true → p + width_at bytes p ≤ size bytes
  within p e = leb-true (p + width_at bytes p) (size bytes) (and_right (is_call (is_sampled bytes) (number bytes p)) (leb (p + width_at bytes p) (size bytes)) e)

  -- a call has a number, so none stands at the run's end
  beyond : (p : ℕ) → size bytes ≤ p → stands_at bytes p ≡ false
  beyond p h = and_false (is_call (is_sampled bytes) (number bytes p)) (leb (p + width_at bytes p) (size bytes)) (lt-leb (p + width_at bytes p) (size bytes) (omega (arith, least p)))

  pub is_call_lem : (p : ℕ) → stands_at bytes p ≡ true → is_call (is_sampled bytes) (number bytes p) ≡ true
  is_call_lem p e = and_left (is_call (is_sampled bytes) (number bytes p)) (leb (p + width_at bytes p) (size bytes)) e

  pub making_whole : begins_with_making bytes ≡ true → length bytes ≡ 4 * size bytes
  making_whole e =
      let r : length bytes % 4 ≡ 0 = eqb-true (length bytes % 4) 0 (and_left (eqb (length bytes % 4) 0) ((eqb (number bytes 0) 1 || is_sampled bytes) && leb (making_width bytes) (size bytes)) e) in
      omega arith

  pub making_fits : begins_with_making bytes ≡ true → making_width bytes ≤ size bytes
  making_fits e =
      leb-true (making_width bytes) (size bytes) (and_right (eqb (number bytes 0) 1 || is_sampled bytes) (leb (making_width bytes) (size bytes)) (and_right (eqb (length bytes % 4) 0) ((eqb (number bytes 0) 1 || is_sampled bytes) && leb (making_width bytes) (size bytes)) e))

  pub making_least : 5 ≤ making_width bytes
  making_least = by_cond (λ (w : ℕ). 5 ≤ w) (is_sampled bytes) 7 5 (λ _. omega arith) (λ _. omega arith)

  pub making_five : begins_with_making bytes ≡ true → 5 ≤ size bytes
  making_five e = omega (arith, making_fits e, making_least)

  module _ (d : ℕ) where
    -- at the run's end no call is left
    spent : (m p : ℕ) → size bytes ≤ p → calls_from bytes d zero p ≡ calls_from bytes d (suc m) p
    spent m p h =
        cond_same_last (eqb p (size bytes)) (some []) none (cond (stands_at bytes p) (with_call (call_at bytes d p) (calls_from bytes d m (p + width_at bytes p))) none)
        (λ e. sym (cond_false (stands_at bytes p) (with_call (call_at bytes d p) (calls_from bytes d m (p + width_at bytes p))) none (beyond p h)))

    -- a bound on the calls that is enough changes nothing
    fuel : (n m p : ℕ) → size bytes ≤ n + p → size bytes ≤ m + p → calls_from bytes d n p ≡ calls_from bytes d m p
    fuel zero zero p h g = refl
    fuel zero (suc m) p h g = spent m p (omega arith)
    fuel (suc n) zero p h g = sym (spent n p (omega arith))
    fuel (suc n) (suc m) p h g =
        cond_same_last (eqb p (size bytes)) (some []) (cond (stands_at bytes p) (with_call (call_at bytes d p) (calls_from bytes d n (p + width_at bytes p))) none) (cond (stands_at bytes p) (with_call (call_at bytes d p) (calls_from bytes d m (p + width_at bytes p))) none)
        (λ e. cond_same (stands_at bytes p) (with_call (call_at bytes d p) (calls_from bytes d n (p + width_at bytes p))) (with_call (call_at bytes d p) (calls_from bytes d m (p + width_at bytes p))) none
        (λ t. ap (with_call (call_at bytes d p)) (fuel n m (p + width_at bytes p) (omega (arith, least p)) (omega (arith, least p)))))

    pub rest_end : rest_from bytes d (size bytes) ≡ some []
    rest_end = fuel (size bytes) zero (size bytes) (omega arith) (omega arith) ∙ cond_true (eqb (size bytes) (size bytes)) (some []) none (eq-eqb (size bytes) (size bytes) refl)

    -- by the call at the place
    unfolded : (p : ℕ) → p < size bytes → rest_from bytes d p ≡ cond (stands_at bytes p) (with_call (call_at bytes d p) (rest_from bytes d (p + width_at bytes p))) none
    unfolded p h =
        fuel (size bytes) (suc (size bytes)) p (omega arith) (omega arith)
        ∙ cond_false (eqb p (size bytes)) (some []) (cond (stands_at bytes p) (with_call (call_at bytes d p) (rest_from bytes d (p + width_at bytes p))) none) (ne_eqb p (size bytes) (λ e. omega arith))

    pub rest_step : (p : ℕ) → p < size bytes → stands_at bytes p ≡ true → rest_from bytes d p ≡ with_call (call_at bytes d p) (rest_from bytes d (p + width_at bytes p))
    rest_step p h e = unfolded p h ∙ cond_true (stands_at bytes p) (with_call (call_at bytes d p) (rest_from bytes d (p + width_at bytes p))) none e

    pub rest_out : (p : ℕ) → p < size bytes → stands_at bytes p ≡ false → rest_from bytes d p ≡ none
    rest_out p h e = unfolded p h ∙ cond_false (stands_at bytes p) (with_call (call_at bytes d p) (rest_from bytes d (p + width_at bytes p))) none e

    -- a run in its layout, at a place before its end
    pub record Begun (p : ℕ) (cs : List (RunCall d)) : Type 0 where
      pub stands : stands_at bytes p ≡ true
      pub rest : List (RunCall d)
      pub is : cs ≡ call_at bytes d p ∷ rest
      pub after : rest_from bytes d (p + width_at bytes p) ≡ some rest

    begun : (p : ℕ) (cs : List (RunCall d)) (o : Option (List (RunCall d))) → stands_at bytes p ≡ true → rest_from bytes d (p + width_at bytes p) ≡ o → with_call (call_at bytes d p) o ≡ some cs → Begun p cs
    begun p cs none t a e = nonsense (cc)
    begun p cs (some rest) t a e = record { stands = t; rest = rest; is = cc; after = a }

    pub rest_call : (p : ℕ) (cs : List (RunCall d)) → p < size bytes → rest_from bytes d p ≡ some cs → Begun p cs
    rest_call p cs h e =
        by-test (stands_at bytes p) (λ t. begun p cs (rest_from bytes d (p + width_at bytes p)) t refl (sym (rest_step p h t) ∙ e)) (λ t. let o : rest_from bytes d p ≡ none = rest_out p h t in nonsense (cc))
