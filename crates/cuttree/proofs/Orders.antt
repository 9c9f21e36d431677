-- The order of coordinates: the least and the most of two, each seen as the end of a box.
use mathlib.Core.Path.{◌≡◌, refl, sym, ap, ◌∙◌}
use mathlib.Core.Logic.{◌⊎◌, inl, inr}
use mathlib.Core.Bool.{Bool, true, false}
use Rattle.cuttree.specs.Setting.{Setting, Laws}
use Rattle.cuttree.specs.Tree.{least, most}
use Rattle.cuttree.proofs.Tests.{by_cond, by-test, clash}

module _ (S : Setting) where
  open S use {Coord, le}

  -- `m a b` is the one of a and b that stands before both in the order `to`
  pub record End (m : Coord → Coord → Coord) (to : Coord → Coord → Bool) : Type 0 where
    pub trans : (a b c : Coord) → to a b ≡ true → to b c ≡ true → to a c ≡ true
    pub antisym : (a b : Coord) → to a b ≡ true → to b a ≡ true → a ≡ b
    pub first : (a b : Coord) → to (m a b) a ≡ true
    pub second : (a b : Coord) → to (m a b) b ≡ true
    pub chosen : (a b : Coord) → (m a b ≡ a) ⊎ (m a b ≡ b)

  module _ {m : Coord → Coord → Coord} {to : Coord → Coord → Bool} (E : End m to) where
    open E use {trans, antisym, first, second, chosen}

    pub to_refl : (a : Coord) → to a a ≡ true
    to_refl a = go (m a a) (chosen a a) (first a a)
      where
        go : (z : Coord) → (z ≡ a) ⊎ (z ≡ a) → to z a ≡ true → to a a ≡ true
        go z (inl e) h = rw e at h
        go z (inr e) h = rw e at h

    -- before both is before the end
    pub greatest : (a b z : Coord) → to z a ≡ true → to z b ≡ true → to z (m a b) ≡ true
    greatest a b z x y = go (m a b) (chosen a b)
      where
        go : (c : Coord) → (c ≡ a) ⊎ (c ≡ b) → to z c ≡ true
        go c (inl e) = rw e x
        go c (inr e) = rw e y

    pub end_same : (a : Coord) → m a a ≡ a
    end_same a = antisym _ _ (first a a) (greatest a a a (to_refl a) (to_refl a))

    -- an end that stands before the other coordinate stays; one that the other coordinate isn't before stood so without it
    pub end_stays : (a b : Coord) → to a b ≡ true → m a b ≡ a
    end_stays a b h = antisym _ _ (first a b) (greatest a b a (to_refl a) h)

    pub end_before_it : (a b : Coord) → to b (m a b) ≡ false → m a b ≡ a
    end_before_it a b h = go (chosen a b)
      where
        go : (m a b ≡ a) ⊎ (m a b ≡ b) → m a b ≡ a
        go (inl e) = e
        go (inr e) = clash (to b (m a b)) (rw e (to_refl b)) h

    pub end_comm : (a b : Coord) → m a b ≡ m b a
    end_comm a b = antisym _ _ (greatest b a _ (second a b) (first a b)) (greatest a b _ (second b a) (first b a))

    pub end_assoc : (a b c : Coord) → m (m a b) c ≡ m a (m b c)
    end_assoc a b c = antisym _ _
        (greatest a (m b c) _ (trans _ _ _ (first (m a b) c) (first a b)) (greatest b c _ (trans _ _ _ (first (m a b) c) (second a b)) (second (m a b) c)))
        (greatest (m a b) c _ (greatest a b _ (first a (m b c)) (trans _ _ _ (second a (m b c)) (first b c))) (trans _ _ _ (second a (m b c)) (second b c)))

    pub end_swap : (a b c : Coord) → m (m a b) c ≡ m (m a c) b
    end_swap a b c = end_assoc a b c ∙ ap (λ x. m a x) (end_comm b c) ∙ sym (end_assoc a c b)

  module _ (L : Laws S) where
    open L use {le_trans, le_total, le_antisym}

    pub le_refl : (a : Coord) → le a a ≡ true
    le_refl a = by-test (le a a) (λ e. e) (λ e. le_total a a e)

    pub least_end : End (least S) le
    least_end = record {
      trans = le_trans;
      antisym = le_antisym;
      first = λ a b. by_cond (λ x. le x a ≡ true) (le a b) a b (λ e. le_refl a) (λ e. le_total a b e);
      second = λ a b. by_cond (λ x. le x b ≡ true) (le a b) a b (λ e. e) (λ e. le_refl b);
      chosen = λ a b. by_cond (λ x. (x ≡ a) ⊎ (x ≡ b)) (le a b) a b (λ _. inl refl) (λ _. inr refl);
    }

    pub most_end : End (most S) (λ a b. le b a)
    most_end = record {
      trans = λ a b c x y. le_trans c b a y x;
      antisym = λ a b x y. le_antisym a b y x;
      first = λ a b. by_cond (λ x. le a x ≡ true) (le a b) b a (λ e. e) (λ e. le_refl a);
      second = λ a b. by_cond (λ x. le b x ≡ true) (le a b) b a (λ e. le_refl b) (λ e. le_total a b e);
      chosen = λ a b. by_cond (λ x. (x ≡ a) ⊎ (x ≡ b)) (le a b) b a (λ _. inr refl) (λ _. inl refl);
    }

    -- above a is above what a is above
    pub not_le : (a b c : Coord) → le a b ≡ true → le a c ≡ false → le b c ≡ false
    not_le a b c h e = by-test (le b c) (λ f. clash (le a c) (le_trans a b c h f) e) (λ f. f)
