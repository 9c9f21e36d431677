-- The values of a row's fields stored in a lent buffer, one by one: how many they are, and what the buffer holds, which may be shorter than they are. Assumes nothing.
use mathlib.Core.Path.{◌≡◌, refl, sym, ap, ◌∙◌}
use mathlib.Core.List.{List, [], ◌∷◌, ◌++◌, map}
use Prim.Native.Nat.{ℕ, suc, ◌+◌, ◌-◌, ◌≤◌, ◌<◌}
use native.Mathlib.Numerals.{add-one}
use native.Mathlib.Omega.{arith}
use lib.ListN.{length, set, take, drop, length-set}
use lib.Seq.{drop-nil, sets, set_out}
use Rattle.text.specs.Fields.{Computes}
use Rattle.text.specs.Pieces.{pieces_from, PieceEnds}
use Rattle.text.proofs.Pieces.{from_first, from_past}

-- n values are stored, and the next field starts at `at`. `answers` ties a field to its value; `set` past the end stores nothing, so `sets` keeps what fits.
pub record Storing {A : Type 0} (answers : List ℕ → A → Type 0) (s : List ℕ) (k : ℕ) (buf₀ buf : List A) (at n : ℕ) : Type 0 where
  pub few : n + k ≤ at
  pub long : length buf ≡ length buf₀
  pub count : n + length (pieces_from 32 s at) ≡ length (pieces_from 32 s k)
  pub same : (f : List ℕ → A) → Computes answers f → sets buf n (map f (pieces_from 32 s at)) ≡ sets buf₀ 0 (map f (pieces_from 32 s k))

module _ {A : Type 0} {answers : List ℕ → A → Type 0} {s : List ℕ} {k : ℕ} {buf₀ : List A} where
  module _ {buf : List A} {at n : ℕ} (w : Storing answers s k buf₀ buf at n) where
    store_more : {e : ℕ} → at ≤ length s → PieceEnds 32 s at e → (buf' : List A) → length buf' ≡ length buf
        → ((f : List ℕ → A) → Computes answers f → buf' ≡ set buf n (f (take (e - at) (drop at s)))) → Storing answers s k buf₀ buf' (e + 1) (n + 1)
    store_more {e} h q buf' l z =
        let a = from_first 32 s at e h q in
        let c : length (pieces_from 32 s at) ≡ suc (length (pieces_from 32 s (e + 1))) = rw a in
        record {
          few = omega arith;
          long = l ∙ w.long;
          count = omega arith;
          same = λ f g. rw (z f g, add-one n) (rw a at (w.same f g));
        }

    pub store_step : {e : ℕ} → at ≤ length s → PieceEnds 32 s at e → {v : A} → answers (take (e - at) (drop at s)) v → Storing answers s k buf₀ (set buf n v) (e + 1) (n + 1)
    store_step h q {v} p = store_more h q _ (length-set buf n v) (λ f g. ap (set buf n) (g _ v p))

    pub store_skip : {e : ℕ} → at ≤ length s → PieceEnds 32 s at e → length buf ≤ n → Storing answers s k buf₀ buf (e + 1) (n + 1)
    store_skip h q l = store_more h q _ refl (λ f g. sym (set_out buf n _ l))

    pub store_count : length s < at → n ≡ length (pieces_from 32 s k)
    store_count h = let c : length (pieces_from 32 s at) ≡ 0 = rw (from_past 32 s at h) in omega arith

    pub store_end : length s < at → (f : List ℕ → A) → Computes answers f → buf ≡ sets buf₀ 0 (map f (pieces_from 32 s k))
    store_end h f g = rw (from_past 32 s at h) at (w.same f g)

-- ---- values stored from the front: those that fit, and what stands after them
module _ {A : Type 0} where
  sets_none : (i : ℕ) (xs : List A) → ◌≡◌ {A = List A} (sets [] i xs) []
  sets_none i [] = refl
  sets_none i (x ∷ xs) = sets_none (suc i) xs

  sets_cons : (i : ℕ) (xs : List A) (y : A) (l : List A) → sets (y ∷ l) (suc i) xs ≡ y ∷ sets l i xs
  sets_cons i [] y l = refl
  sets_cons i (x ∷ xs) y l = sets_cons (suc i) xs y (set l i x)

  pub sets_front : (l xs : List A) → sets l 0 xs ≡ take (length l) xs ++ drop (length xs) l
  sets_front [] xs = sets_none 0 xs ∙ sym (drop-nil (length xs))
  sets_front (y ∷ l) [] = refl
  sets_front (y ∷ l) (x ∷ xs) = sets_cons 0 xs x l ∙ ap {B = List A} (λ r. x ∷ r) (sets_front l xs)
