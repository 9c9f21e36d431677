-- One turn of the loop over the sides: it ends in the side that is reached, or goes on with what is left. Assumes nothing.
use Rattle.std.proofs.Common.{◌≡◌, ℕ, zero, suc, ◌+◌, ◌-◌, ◌<◌, ◌≤◌, Bool, true, false, Option, Some, None, List, refl, subst, zero-add, arith}
use Rattle.std.specs.Option.{option_map}
use lib.Ieee.{Float, binary64, add, mul, eq}
use borrow.Table.Steps.{cases as by-test}
use Rattle.readings.specs.Word.{factor_of}
use Rattle.readings.specs.Number.{nought}
use Rattle.boundingbox.specs.Sides.{range_sum}
use Rattle.cut.specs.declared.Separation.{Separation}
use Rattle.cut.specs.declared.Side.{Side}
use Rattle.cut.specs.Draw.{outside_sum, side_of, range_of, reaches, left_of, side_from, drawn_at, separation}

module _ (g : ℕ → Float) (n i : ℕ) (rest : Float) where
  next : i < n → n - i ≡ suc (n - (i + 1))
  next h = omega arith

  -- s is the side, and b whether it is reached
  module _ (s : Float) (b : Bool) (h : i < n) (S : s ≡ g i) (B : b ≡ reaches rest s) where
    pub turn_ends : b ≡ true → side_from g (n - i) i rest ≡ Some (record { dimension = i; rest = rest })
    unfolding side_from
    turn_ends t = rw (next h, ← S, ← B, t) refl

    pub turn_goes_on : b ≡ false → (r : Float) → r ≡ left_of rest s → side_from g (n - i) i rest ≡ side_from g (n - (i + 1)) (i + 1) r
    unfolding side_from
    turn_goes_on t r e = rw (next h, ← S, ← B, t, e) refl

  pub turns_done : n ≤ i → side_from g (n - i) i rest ≡ None
  unfolding side_from
  turns_done h = rw (none h) refl
    where
      none : n ≤ i → n - i ≡ 0
      none h = omega arith

-- a side that is reached is one of the n
pub reached_below : (g : ℕ → Float) (n i : ℕ) (rest : Float) (s : Side) → side_from g n i rest ≡ Some s → s.dimension < i + n
unfolding side_from
reached_below g zero i rest s e = absurd (go e)
  where
    go : None ≡ Some s → ⊥
    go e = let z : ◌≡◌ {A = ℕ} 0 1 = cc in omega arith
reached_below g (suc n) i rest s e = by-test (reaches rest (g i)) (λ t. here (rw t at e)) (λ t. move (reached_below g n (i + 1) (left_of rest (g i)) s (rw t at e)))
  where
    here : Some (record { dimension = i; rest = rest }) ≡ Some s → s.dimension < i + suc n
    here e = let z : ◌≡◌ {A = Side} (record { dimension = i; rest = rest }) s = cc in subst (λ (x : Side). x.dimension < i + suc n) z (omega arith)

    move : s.dimension < i + 1 + n → s.dimension < i + suc n
    move h = omega arith

-- ---- the parts that the code works out make up the drawn cut
module _ (n : ℕ) (lo hi p : List Float) (w : ℕ) (out : Float) (O : out ≡ outside_sum lo hi p n) where
  pub holds_point : eq out nought ≡ true → separation n lo hi p w ≡ None
  unfolding separation
  holds_point t = rw (← O, t) refl

  pub draws : eq out nought ≡ false → (sum f : Float) → sum ≡ range_sum lo hi n → f ≡ factor_of w →
      (s : Option Side) → s ≡ side_from (side_of lo hi p) n 0 (mul binary64 (add binary64 out sum) f) → separation n lo hi p w ≡ option_map (drawn_at lo hi p) s
  unfolding separation range_of
  draws t sum f S F s e = rw (← O, t, e, S, F) refl

-- the channel of a drawn cut is one of the n
pub drawn_below : (n : ℕ) (lo hi p : List Float) (w : ℕ) (v : Separation) → separation n lo hi p w ≡ Some v → v.cut.dimension < n
unfolding separation drawn_at
drawn_below n lo hi p w v e = by-test (eq (outside_sum lo hi p n) nought) (λ t. absurd (none (rw t at e))) (λ t. go (side_from (side_of lo hi p) n 0 (range_of lo hi p n w)) refl (rw t at e))
  where
    none : None ≡ Some v → ⊥
    none f = let z : ◌≡◌ {A = ℕ} 0 1 = cc in omega arith

    go : (s : Option Side) → side_from (side_of lo hi p) n 0 (range_of lo hi p n w) ≡ s → option_map (drawn_at lo hi p) s ≡ Some v → v.cut.dimension < n
    go None f g = absurd (none g)
    go (Some s) f g = let z : drawn_at lo hi p s ≡ v = cc in subst (λ (x : Separation). x.cut.dimension < n) z (subst (λ (m : ℕ). s.dimension < m) (zero-add n) (reached_below (side_of lo hi p) n 0 (range_of lo hi p n w) s f))
