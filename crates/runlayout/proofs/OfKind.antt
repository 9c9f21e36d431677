-- The calls of a run are of its tree's kind: adds and deletes stand in a bare tree's run alone, arrivals and the sample in a sampled one's. Laws.
use mathlib.Core.Path.{◌≡◌, refl, sym}
use mathlib.Core.Bool.{Bool, true, false, cond}
use mathlib.Core.Option.{Option, none, some}
use mathlib.Core.List.{List, [], ◌∷◌}
use Prim.Native.Nat.{ℕ, zero, suc, ◌+◌}
use lib.Dec.{eqb}
use borrow.Author.Tests.{eqb-true}
use Rattle.cuttree.specs.Run.{Call, put, add, delete, query}
use Rattle.cuttree.proofs.Tests.{by_cond, nonsense}
use Rattle.wholetree.specs.Whole.{whole}
use Rattle.runlayout.specs.Layout.{RunCall, plain, arrives, reports, sample, with_call, is_call, size, number, is_sampled, channels, making_width, begins_with_making, width_at, stands_at, call_at, calls_from, calls}
use Rattle.runlayout.proofs.Rest.{is_call_lem}

-- what a call says of the tree's kind
abbrev pub OfKind : {d : ℕ} → Bool → RunCall d → Type 0
OfKind sampled (plain (put i xs)) = Unit {0}
OfKind sampled (plain (add i ws)) = sampled ≡ false
OfKind sampled (plain (delete i)) = sampled ≡ false
OfKind sampled (plain (query q)) = Unit {0}
OfKind sampled (arrives i w x ws) = sampled ≡ true
OfKind sampled (reports n xs) = Unit {0}
OfKind sampled sample = sampled ≡ true

abbrev pub AllOfKind : {d : ℕ} → Bool → List (RunCall d) → Type 0
AllOfKind sampled [] = Unit {0}
AllOfKind sampled (e ∷ es) = OfKind sampled e × AllOfKind sampled es

of_sampled : (sampled : Bool) → cond sampled true false ≡ true → sampled ≡ true
of_sampled true e = refl
of_sampled false e = e

of_bare : (sampled : Bool) → cond sampled false true ≡ true → sampled ≡ false
of_bare true e = sym e
of_bare false e = refl

module _ (bytes : List ℕ) (d : ℕ) where
  abbrev Kind : RunCall d → Type 0
  Kind = OfKind (is_sampled bytes)

  abbrev Plain : Call (whole d) → Type 0
  Plain e = Kind (plain e)

  call_kind : (p : ℕ) → is_call (is_sampled bytes) (number bytes p) ≡ true → Kind (call_at bytes d p)
  call_kind p e =
      let k = number bytes p in
      by_cond Kind (eqb k 6) _ _ (λ t. of_sampled (is_sampled bytes) (rw (eqb-true k 6 t) at e))
      (λ _. by_cond Kind (eqb k 7) _ _ (λ _. tt)
      (λ _. by_cond Kind (eqb k 11) _ _ (λ t. of_sampled (is_sampled bytes) (rw (eqb-true k 11 t) at e))
      (λ _. by_cond Plain (eqb k 3) _ _ (λ _. tt)
      (λ _. by_cond Plain (eqb k 4) _ _ (λ t. of_bare (is_sampled bytes) (rw (eqb-true k 4 t) at e))
      (λ _. by_cond Plain (eqb k 5) _ _ (λ t. of_bare (is_sampled bytes) (rw (eqb-true k 5 t) at e))
      (λ _. by_cond Plain (eqb k 8) _ _ (λ _. tt) (λ _. by_cond Plain (eqb k 9) _ _ (λ _. tt) (λ _. tt))))))))

  -- calls that are read are of the kind
  abbrev Read : Option (List (RunCall d)) → Type 0
  Read o = (cs : List (RunCall d)) → o ≡ some cs → AllOfKind (is_sampled bytes) cs

  read_end : Read (some [])
  read_end [] e = tt
  read_end (x ∷ xs) e = nonsense (cc)

  read_more : (x : RunCall d) (o : Option (List (RunCall d))) → Kind x → Read o → Read (with_call x o)
  read_more x none k r = λ cs e. nonsense (cc)
  read_more x (some xs) k r = λ cs e. let same : x ∷ xs ≡ cs = cc in rw (← same) (k, r xs refl)

  from_kind : (n p : ℕ) → Read (calls_from bytes d n p)
  from_kind zero p = by_cond Read (eqb p (size bytes)) _ _ (λ _. read_end) (λ _ cs e. nonsense (cc))
  from_kind (suc n) p =
      by_cond Read (eqb p (size bytes)) _ _ (λ _. read_end)
      (λ _. by_cond Read (stands_at bytes p) _ _ (λ t. read_more (call_at bytes d p) (calls_from bytes d n (p + width_at bytes p)) (call_kind p (is_call_lem bytes p t)) (from_kind n (p + width_at bytes p))) (λ _ cs e. nonsense (cc)))

-- all calls of a run
pub calls_kind : (bytes : List ℕ) (cs : List (RunCall (channels bytes))) → calls bytes ≡ some cs → AllOfKind (is_sampled bytes) cs
calls_kind bytes cs e =
    by_cond (Read bytes (channels bytes)) (begins_with_making bytes) _ _ (λ _. from_kind bytes (channels bytes) (size bytes) (making_width bytes)) (λ _ cs e. nonsense (cc)) cs e
