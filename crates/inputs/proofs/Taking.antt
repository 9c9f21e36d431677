-- What reads take of an input, one after another, and where it stands in the text. Laws.
use Rattle.std.proofs.Common.{◌≡◌, ℕ, ◌+◌, ◌≤◌, List, [], ◌++◌, length, take, drop, sym, ap, ◌∙◌, subst, append-nil, length-take-le, take-append-drop, drop_at}
use borrow.Rule.Slice.PartMut.{put_mid, post_of}
use Rattle.std.specs.declared.option.Option.{Option}
use Rattle.std.specs.Io.KnownBytes.{Consumes}
use Rattle.std.proofs.KnownBytes.{Consumes-trans}
use Rattle.std.proofs.lemmas.List.{drop-take, take-append-le, take-take}

-- what a read wrote behind k bytes stands there
pub behind : (k m n : ℕ) (xs ys : List ℕ) → k ≤ length xs → n ≤ length ys → drop k (take (k + n) (put_mid k m xs ys)) ≡ take n ys
behind k m n xs ys h l =
    drop-take k n (put_mid k m xs ys) ∙ ap (take n) (drop_at (take k xs) (ys ++ post_of k m xs) k (length-take-le k xs h)) ∙ take-append-le n ys (post_of k m xs) l

module _ (a b c : Option (List ℕ)) (k : ℕ) (before after : List ℕ) (had : Consumes a b (take k before)) (kept : take k after ≡ take k before) where
  pub takes_more : (n : ℕ) → k ≤ n → Consumes b c (drop k (take n after)) → Consumes a c (take n after)
  takes_more n h w =
      subst (Consumes a c) (ap (λ l. l ++ drop k (take n after)) (sym kept ∙ sym (take-take k n after h)) ∙ take-append-drop k (take n after))
      (Consumes-trans a b c (take k before) (drop k (take n after)) had w)

  pub takes_none : Consumes b c [] → Consumes a c (take k after)
  takes_none w = subst (Consumes a c) (append-nil (take k before) ∙ sym kept) (Consumes-trans a b c (take k before) [] had w)
