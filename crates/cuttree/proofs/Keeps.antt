-- Every call keeps what `Sound` says, and the copy counts go on agreeing with table and tree.
use mathlib.Core.Path.{◌≡◌, refl, sym, ap, ◌∙◌}
use mathlib.Core.Logic.{◌≢◌}
use mathlib.Core.Bool.{true, false, cond, not}
use mathlib.Core.Option.{Option, none, some}
use mathlib.Core.List.{List}
use Prim.Native.Nat.{ℕ, ◌+◌, ◌≤◌, ◌<◌, ◌-◌}
use native.Mathlib.Omega.{arith}
use lib.Dec.{eqb, leb, ltb}
use lib.ListN.{length, get_or}
use borrow.Author.Tests.{eqb-true, eqb-false, leb-false, ltb-false, not-false}
use Rattle.cuttree.specs.Setting.{Setting, Laws}
use Rattle.intervalstoremanager.specs.Stack.{next, holds, sizes, Proper}
use Rattle.intervalstoremanager.proofs.Counts.{holds_fresh, proper_fresh, proper_get, proper_release}
use Rattle.intervalstoremanager.proofs.Sizes.{sizes_fresh, sizes_release}
use Rattle.cuttree.specs.Tree.{Tree, leaf, branch, is, ending, found, walk, leaves, sum, sum_of, copies, freed, All, OfTree}
use Rattle.cuttree.specs.Run.{Answer, World, fresh, write, is_leaf, with_point, total_of, enter, leave, after_freed, Call, put, add, delete, query, ask, call}
use Rattle.cuttree.specs.Sound.{Sound}
use Rattle.cuttree.specs.Counts.{Counts, nothing, count, succeeded}
use Rattle.cuttree.proofs.Tests.{by_cond, nonsense}
use Rattle.cuttree.proofs.Sums.{sum_insert, sum_copy, sum_forget, number_in}
use Rattle.cuttree.proofs.Leaves.{all_insert, all_copy, all_forget, leaves_branches}
use Rattle.cuttree.proofs.Cuts.{cut_insert, cut_copy, cut_forget}
use Rattle.cuttree.proofs.Intervals.{holds_get, sizes_get, holds_release}
use Rattle.cuttree.proofs.Freed.{freed_below}
use Rattle.cuttree.proofs.Copies.{mass_insert, mass_copy, mass_forget, copies_copy, copies_forget}

module _ (S : Setting) (capacity : ℕ) where
  open S use {Point, Word, Raw, same, counted, good, point, no_word, indices, limit}

  -- THE COUNTS AGREE
  pub record Inv (W : World S) (K : Counts S) : Type 0 where
    pub sound : Sound S capacity W
    pub kept_is : (i : ℕ) → W.table i ≡ K.kept i
    pub number_is : (v : Point) → sum_of S (λ i q n. cond (same q v) n 0) (λ b. 0) W.tree ≡ K.number v

  abbrev After : Call S → Counts S → Answer S × World S → Type 0
  After c K x = Inv x.1 (count S c x.0 K)

  inv_point : (c : Call S) (K : Counts S) (W : World S) (o : Option Point) (g : Point → Answer S × World S) → Inv W K → ((p : Point) → o ≡ some p → After c K (g p)) → After c K (with_point S W o g)
  inv_point c K W none g I h = I
  inv_point c K W (some p) g I h = h p refl

  -- PUT
  agree_write : (f : ℕ → Option Point) (i : ℕ) (p : Point) (t : Tree S) → sum S (λ j q n. is j i) (λ b. 0) t ≡ 0 → All S (λ j q n. f j ≡ some q) t → All S (λ j q n. write S f i p j ≡ some q) t
  agree_write f i p (leaf j q n) e h = by_cond (λ x. x ≡ some q) (eqb j i) (some p) (f j) (λ y. nonsense (sym (rw y at e))) (λ _. h)
  agree_write f i p (branch b k l r) e h = (agree_write f i p l (omega arith) h.0, agree_write f i p r (omega arith) h.1)

  agree_put : (f : ℕ → Option Point) (i : ℕ) (p : Point) (o : Option (Tree S)) → is_leaf S o i ≡ false → OfTree S (All S (λ j q n. f j ≡ some q)) o → OfTree S (All S (λ j q n. write S f i p j ≡ some q)) o
  agree_put f i p none e h = tt
  agree_put f i p (some t) e h = agree_write f i p t (omega (arith, ltb-false 0 (sum S (λ j q n. is j i) (λ b. 0) t) e)) h

  inside_put : (f : ℕ → Option Point) (i : ℕ) (p : Point) → i < indices → ((j : ℕ) (q : Point) → f j ≡ some q → j < indices) → (j : ℕ) (q : Point) → write S f i p j ≡ some q → j < indices
  inside_put f i p m h j q = by_cond (λ x. x ≡ some q → j < indices) (eqb j i) (some p) (f j) (λ e _. omega (arith, eqb-true j i e)) (λ _. h j q)

  inv_put : (W : World S) (K : Counts S) (i : ℕ) (x : Raw) → Inv W K → After (put i x) K (call S capacity W (put i x))
  inv_put W K i x I =
      by_cond (After (put i x) K) (leb indices i) _ _ (λ _. I) (λ m. by_cond (After (put i x) K) (not (counted x)) _ _ (λ _. I)
      (λ _. by_cond (After (put i x) K) (not (good x)) _ _ (λ _. I) (λ _. by_cond (After (put i x) K) (is_leaf S W.tree i) _ _ (λ _. I) (λ e. record {
        sound = record {
          cut = I.sound.cut;
          filled = I.sound.filled;
          agree = agree_put W.table i (point x) W.tree e I.sound.agree;
          inside = inside_put W.table i (point x) (leb-false indices i m) I.sound.inside;
          light = I.sound.light;
          numbers = I.sound.numbers;
          fits = I.sound.fits;
          proper = I.sound.proper;
        };
        kept_is = λ j. ap (λ y. cond (eqb j i) (some (point x)) y) (I.kept_is j);
        number_is = I.number_is;
      }))))

  module _ (L : Laws S) where
    -- ADD
    inv_enter : (f : ℕ → Option Point) (o : Option (Tree S)) (u : List (ℕ × ℕ)) (K : Counts S) (i : ℕ) (p : Point) (ws : List Word) →
        Inv (record { table = f; tree = o; free = u }) K → f i ≡ some p → total_of S o ≢ limit → After (add i ws) K (enter S capacity (record { table = f; tree = o; free = u }) o i p ws)
    inv_enter f none u K i p ws I e m = record {
      sound = record {
        cut = tt;
        filled = omega arith;
        agree = e;
        inside = I.sound.inside;
        light = omega (arith, I.sound.light);
        numbers = I.sound.numbers;
        fits = I.sound.fits;
        proper = I.sound.proper;
      };
      kept_is = I.kept_is;
      number_is = λ v. rw (sym (I.kept_is i) ∙ e) (omega (arith, I.number_is v));
    }
    inv_enter f (some t) u K i p ws I e m =
        by_cond (After (add i ws) K) (found S t p) _ _
        (λ h. record {
          sound = record {
            cut = cut_copy S p t I.sound.cut;
            filled = all_copy S (λ i q n. 0 < n) p (λ i q n y. omega arith) t I.sound.filled;
            agree = all_copy S (λ i q n. f i ≡ some q) p (λ i q n y. y) t I.sound.agree;
            inside = I.sound.inside;
            light = omega (arith, I.sound.light, mass_copy S p t);
            numbers = λ j. omega (arith, I.sound.numbers j, sum_copy S (λ i q n. 0) (λ b. is b j) p t);
            fits = omega (arith, I.sound.fits, sum_copy S (λ i q n. 0) (λ b. 1) p t);
            proper = I.sound.proper;
          };
          kept_is = I.kept_is;
          number_is = λ v. rw (sym (I.kept_is i) ∙ e) (omega (arith, I.number_is v, copies_copy S L p t v h));
        })
        (λ h. by_cond (After (add i ws) K) (leb capacity (leaves S t)) _ _ (λ _. I) (λ c. by_cond (After (add i ws) K) (ltb (length ws) (walk S t p)) _ _ (λ _. I) (λ _.
        let room : 0 < sizes u = omega (arith, leb-false capacity (leaves S t) c, leaves_branches S t, I.sound.fits) in
        let w : ℕ → Word = λ n. get_or ws n no_word in record {
          sound = record {
            cut = cut_insert S L (next u) i p w t h I.sound.cut;
            filled = all_insert S (λ i q n. 0 < n) (next u) i p w (omega arith) t I.sound.filled;
            agree = all_insert S (λ i q n. f i ≡ some q) (next u) i p w e t I.sound.agree;
            inside = I.sound.inside;
            light = omega (arith, I.sound.light, mass_insert S (next u) i p w t);
            numbers = λ j. omega (arith, I.sound.numbers j, sum_insert S (λ i q n. 0) (λ b. is b j) (next u) i p w t, holds_get (capacity - 1) u j I.sound.proper room);
            fits = omega (arith, I.sound.fits, sum_insert S (λ i q n. 0) (λ b. 1) (next u) i p w t, sizes_get (capacity - 1) u I.sound.proper room);
            proper = proper_get (capacity - 1) u I.sound.proper;
          };
          kept_is = I.kept_is;
          number_is = λ v. rw (sym (I.kept_is i) ∙ e) (omega (arith, I.number_is v, sum_insert S (λ i q n. cond (same q v) n 0) (λ b. 0) (next u) i p w t));
        })))

    -- DELETE
    holds_freed : (u : List (ℕ × ℕ)) (z : Option ℕ) (j : ℕ) → Proper (capacity - 1) u → holds (after_freed S u z) j ≡ number_in (λ b. is b j) z + holds u j
    holds_freed u none j p = omega arith
    holds_freed u (some b) j p = holds_release (capacity - 1) u b j p

    sizes_freed : (u : List (ℕ × ℕ)) (z : Option ℕ) → Proper (capacity - 1) u → sizes (after_freed S u z) ≡ number_in (λ b. 1) z + sizes u
    sizes_freed u none p = omega arith
    sizes_freed u (some b) p = omega (arith, sizes_release (capacity - 1) u b p)

    proper_freed : (u : List (ℕ × ℕ)) (z : Option ℕ) → ((b : ℕ) → z ≡ some b → b < capacity - 1) → Proper (capacity - 1) u → Proper (capacity - 1) (after_freed S u z)
    proper_freed u none h p = p
    proper_freed u (some b) h p = proper_release (capacity - 1) u b (h b refl) p

    inv_leave : (f : ℕ → Option Point) (o : Option (Tree S)) (u : List (ℕ × ℕ)) (K : Counts S) (i : ℕ) (p : Point) →
        Inv (record { table = f; tree = o; free = u }) K → f i ≡ some p → After (delete i) K (leave S (record { table = f; tree = o; free = u }) o p)
    inv_leave f none u K i p I e = I
    inv_leave f (some t) u K i p I e = by_cond (After (delete i) K) (not (found S t p)) _ _ (λ _. I) (λ n.
        let h : found S t p ≡ true = not-false (found S t p) n in
        let z : cond {A = ℕ} (ltb 1 (ending S t p).copies) 0 0 ≡ 0 = by_cond (λ x. x ≡ 0) (ltb 1 (ending S t p).copies) _ _ (λ _. refl) (λ _. refl) in record {
          sound = record {
            cut = cut_forget S p t I.sound.cut;
            filled = all_forget S (λ i q n. 0 < n) p (λ i q n y _. omega arith) t I.sound.filled;
            agree = all_forget S (λ i q n. f i ≡ some q) p (λ i q n _ y. y) t I.sound.agree;
            inside = I.sound.inside;
            light = omega (arith, I.sound.light, mass_forget S p t I.sound.filled);
            numbers = λ j. omega (arith, I.sound.numbers j, sum_forget S (λ i q n. 0) (λ b. is b j) p t, holds_freed u (freed S p t) j I.sound.proper, z);
            fits = omega (arith, I.sound.fits, sum_forget S (λ i q n. 0) (λ b. 1) p t, sizes_freed u (freed S p t) I.sound.proper, z);
            proper = proper_freed u (freed S p t) (λ b y. freed_below S p t b (capacity - 1) (holds u b) y (I.sound.numbers b)) I.sound.proper;
          };
          kept_is = I.kept_is;
          number_is = λ v. rw (sym (I.kept_is i) ∙ e) (omega (arith, I.number_is v, copies_forget S L p t v I.sound.filled h));
        })

    -- EVERY CALL
    pub inv_call : (W : World S) (K : Counts S) (c : Call S) → Inv W K → After c K (call S capacity W c)
    inv_call W K (put i x) I = inv_put W K i x I
    inv_call W K (add i ws) I = by_cond (After (add i ws) K) (leb indices i) _ _ (λ _. I) (λ _. inv_point (add i ws) K W (W.table i) _ I
        (λ p e. by_cond (After (add i ws) K) (eqb (total_of S W.tree) limit) _ _ (λ _. I) (λ m. inv_enter W.table W.tree W.free K i p ws I e (eqb-false _ _ m))))
    inv_call W K (delete i) I = by_cond (After (delete i) K) (leb indices i) _ _ (λ _. I) (λ _. inv_point (delete i) K W (W.table i) _ I
        (λ p e. inv_leave W.table W.tree W.free K i p I e))
    inv_call W K (query q) I = go (ask S capacity W q)
      where
        go : (a : Answer S) → After (query q) K (a, W)
        go a = by_cond (λ x. Inv W x) (succeeded S a) K K (λ _. I) (λ _. I)

    pub sound_call : (W : World S) (c : Call S) → Sound S capacity W → Sound S capacity (call S capacity W c).1
    sound_call W c h = (inv_call W (record { kept = W.table; number = λ v. sum_of S (λ i q n. cond (same q v) n 0) (λ b. 0) W.tree }) c
        (record { sound = h; kept_is = λ i. refl; number_is = λ v. refl })).sound

  -- FRESH
  pub inv_fresh : 2 ≤ capacity → Inv (fresh S capacity) (nothing S)
  inv_fresh h = record {
    sound = record {
      cut = tt;
      filled = tt;
      agree = tt;
      inside = λ i p e. nonsense (cc);
      light = omega arith;
      numbers = λ j. omega (arith, holds_fresh (capacity - 1) j);
      fits = omega (arith, sizes_fresh (capacity - 1));
      proper = proper_fresh (capacity - 1);
    };
    kept_is = λ i. refl;
    number_is = λ v. refl;
  }
