-- A report by the first coordinates of its query and the first of the working rows is that of all, and so is what it leaves; its answer's numbers are the report's. Assumes nothing.
use mathlib.Core.Path.{◌≡◌, refl, sym, ap, ◌∙◌}
use mathlib.Core.Bool.{false, not}
use mathlib.Core.Option.{Option, none, some}
use mathlib.Core.List.{List, [], ◌∷◌, ◌++◌, map, append_assoc}
use Prim.Native.Nat.{ℕ, ◌+◌, ◌*◌, ◌≤◌, min, zero-le}
use native.Mathlib.Omega.{arith}
use lib.Dec.{eqb, leb, ltb}
use lib.ListN.{length, take, drop, length-map, length-take, take-append-drop}
use lib.Seq.{sets, take_at, drop-append-le, length-take-le}
use lib.Ieee.{Float, binary32, of_bits}
use borrow.Author.Tests.{leb-true, leb-false, ltb-true, ltb-false, lt-ltb, le-ltb, ne_eqb}
use Rattle.limits.specs.Limits.{width, capacity_limit}
use Rattle.little.specs.Little.{bytes_of}
use Rattle.cuttree.specs.Tree.{Tree, walk}
use Rattle.cuttree.specs.Run.{World}
use Rattle.cuttree.proofs.Tests.{by-test, by_cond, cond_true, cond_false}
use Rattle.cuttree.proofs.Leaves.{walk_leaves}
use Rattle.wholetree.specs.Reading.{Reading, reading}
use Rattle.wholetree.specs.Whole.{whole, tab}
use Rattle.wholetree.proofs.Readings.{tab_length}
use Rattle.treestore.specs.Arrays.{NodeStore}
use Rattle.randomcuttree.specs.declared.RCFTree.{RCFTree}
use Rattle.randomcuttree.specs.State.{State}
use Rattle.randomcuttree.proofs.Given.{walks_of}
use Rattle.answers.specs.Said.{filled}
use Rattle.answers.proofs.Told.{filled_length}
use Rattle.std.specs.Prelude.{Result}
use Rattle.refusals.specs.declared.Refusal.{Refusal}
use Rattle.refusals.specs.Refusals.{number as refusal_number}
use Rattle.nodeview.specs.Report.{ReportRow, ReportRefusal, report_number, coordinate_count, bad_coordinate, tree_empty, few_rows, Report, refused, rows, refuse, row_at, rows_of, report_in, report_of}
use Rattle.nodeview.specs.Told.{numbers_of, refusal_told, report_says, rows_after, ReportTold, SomeReportRead}
use Rattle.nodeview.specs.Walking.{tree_walked, Left, MemoryLeft}
use Rattle.runlayout.specs.Layout.{number, coordinates_at}
use Rattle.runreports.specs.Numbers.{row_numbers, report_numbers, ReportWidth}
use Rattle.runreports.specs.Written.{five_of, lent_numbers, rows_in, answer_numbers, ReportAt}

-- ---- the numbers of an answer
pub report_width : ReportWidth
report_width n (refused r) = omega (arith, filled_length (5 * n) [])
report_width n (rows rs) = omega (arith, filled_length (5 * n) (row_numbers rs))

rows_lent : (rs : List ReportRow) → lent_numbers (map numbers_of rs) ≡ row_numbers rs
rows_lent [] = refl
rows_lent (r ∷ rs) = ap {B = List ℕ} (λ l. five_of (numbers_of r) ++ l) (rows_lent rs)

told_number : (r : ReportRefusal) → refusal_number (refusal_told r) ≡ report_number r
told_number coordinate_count = refl
told_number bad_coordinate = refl
told_number tree_empty = refl
told_number few_rows = refl

answer_is : (n : ℕ) (x : Report) (work : List (List ℕ)) → answer_numbers n (report_says x) (rows_after x work) ≡ report_numbers n x
answer_is n (refused r) work = ap {B = List ℕ} (λ k. k ∷ 0 ∷ filled (5 * n) []) (told_number r)
answer_is n (rows rs) work =
    ap {B = List ℕ} (λ l. 0 ∷ length rs ∷ filled (5 * n) (lent_numbers l)) (take_at (map numbers_of rs) (drop (length rs) work) (length rs) (length-map rs numbers_of))
    ∙ ap {B = List ℕ} (λ l. 0 ∷ length rs ∷ filled (5 * n) l) (rows_lent rs)

-- ---- the rows lent
-- how many rows a report has
abbrev count : Report → ℕ
count x = rows_in (report_says x)

module _ (d c : ℕ) (W : World (whole d)) where
  -- no more than those lent
  in_lent : (o : Option (Tree (whole d))) (n : ℕ) (p : Reading) → count (report_in d c o n p) ≤ n
  in_lent none n p = zero-le
  in_lent (some t) n p = by_cond (λ x. count x ≤ n) (ltb n (walk (whole d) t p)) _ _ (λ _. zero-le) (λ e. omega (arith, ltb-false n (walk (whole d) t p) e, tab_length (walk (whole d) t p) (row_at d c t p)))

  within_lent : (n : ℕ) (xs : List Float) → count (report_of d c W n xs) ≤ n
  within_lent n xs =
      by_cond (λ x. count x ≤ n) (not ((whole d).counted xs)) _ _ (λ _. zero-le)
      (λ _. by_cond (λ x. count x ≤ n) (not ((whole d).good xs)) _ _ (λ _. zero-le) (λ _. in_lent W.tree n ((whole d).point xs)))

-- the first n of the working rows are lent, and those beyond them stay
joined : (x : Report) (n : ℕ) (work : List (List ℕ)) → n ≤ length work → count x ≤ n → rows_after x (take n work) ++ drop n work ≡ rows_after x work
joined (refused z) n work h k = take-append-drop n work
joined (rows rs) n work h k =
    append_assoc (map numbers_of rs) (drop (length rs) (take n work)) (drop n work)
    ∙ ap (λ (l : List (List ℕ)). map numbers_of rs ++ l) (sym (drop-append-le (length rs) (take n work) (drop n work) (omega (arith, length-take n work))) ∙ ap (drop (length rs)) (take-append-drop n work))

-- ---- a state's world
module _ {d c : ℕ} {s : Float} {W : World (whole d)} {tree : RCFTree} {a : NodeStore} {points : List (List Float)} {marks : List ℕ} (S : State d c s W tree a points marks) where
  -- no walk has more nodes than a tree has leaves
  walk_few : (t : Tree (whole d)) → W.tree ≡ some t → (p : Reading) → walk (whole d) t p ≤ capacity_limit
  walk_few t T p = omega (arith, walk_leaves (whole d) t p, (walks_of S T p p.row refl).few, S.limits.3)

  -- so that as many rows are as good as more
  in_few : (o : Option (Tree (whole d))) → W.tree ≡ o → (n m : ℕ) (p : Reading) → m ≡ min n capacity_limit → report_in d c o m p ≡ report_in d c o n p
  in_few none T n m p e = refl
  in_few (some t) T n m p e = ap (λ b. refuse few_rows b (rows (rows_of d c t p))) (by-test (ltb n (walk (whole d) t p))
      (λ f. lt-ltb m (walk (whole d) t p) (omega (arith, e, ltb-true n (walk (whole d) t p) f)) ∙ sym f)
      (λ f. le-ltb m (walk (whole d) t p) (omega (arith, e, walk_few t T p, ltb-false n (walk (whole d) t p) f)) ∙ sym f))

  few_rows_lem : (n m : ℕ) (xs : List Float) → m ≡ min n capacity_limit → report_of d c W m xs ≡ report_of d c W n xs
  few_rows_lem n m xs e = ap (λ (x : Report). refuse coordinate_count (not ((whole d).counted xs)) (refuse bad_coordinate (not ((whole d).good xs)) x)) (in_few W.tree refl n m ((whole d).point xs) e)

  -- the first nine coordinates are all, or there are more than any tree's channels, and so are the first nine
  first_or_long : {P : Type 0} (f : ℕ → Float) (m k : ℕ) → k ≡ min m (width + 1) → (tab k f ≡ tab m f → P) → ((whole d).counted (tab k f) ≡ false → (whole d).counted (tab m f) ≡ false → P) → P
  first_or_long f m k e g h = by-test (leb m (width + 1))
      (λ t. g (ap (λ (j : ℕ). tab j f) (omega (arith, e, leb-true m (width + 1) t))))
      (λ t. let long = leb-false m (width + 1) t in h (uncounted k (λ x. omega (arith, x, e, S.limits.1, long))) (uncounted m (λ x. omega (arith, x, S.limits.1, long))))
    where
      uncounted : (j : ℕ) → (j ≡ d → ⊥) → eqb (length (tab j f)) d ≡ false
      uncounted j h = ne_eqb (length (tab j f)) d (λ x. h (sym (tab_length j f) ∙ x))

  -- so many are refused whatever they are, and nothing is walked
  few_coordinates : (n : ℕ) (f : ℕ → Float) (m k : ℕ) → k ≡ min m (width + 1) → report_of d c W n (tab k f) ≡ report_of d c W n (tab m f)
  few_coordinates n f m k e = first_or_long f m k e (ap (report_of d c W n)) (λ x y. cond_true _ _ _ (ap not x) ∙ sym (cond_true _ _ _ (ap not y)))

  few_walked : (boxes : List (List (List Float))) (path : List (List ℕ)) (chances : List Float) (path' : List (List ℕ)) (chances' : List Float) (f : ℕ → Float) (m k : ℕ) → k ≡ min m (width + 1)
      → Left d c tree.cached boxes (tree_walked d W (tab k f)) (reading (tab k f)) path chances path' chances'
      → Left d c tree.cached boxes (tree_walked d W (tab m f)) (reading (tab m f)) path chances path' chances'
  few_walked boxes path chances path' chances' f m k e left = first_or_long f m k e
      (λ x. rw x at left)
      (λ x y. rw (cond_false _ _ _ y) (rw (cond_false _ _ _ x) at left))

-- ---- the report at a place, with the first m of the working rows lent, which are all or as many as were asked for
module _ (tree : RCFTree) (nodes : List (List ℕ)) (cuts : List Float) (copies : List ℕ) (points : List (List Float)) (boxes : List (List (List Float))) (xs : List Float) (n m : ℕ) (few : m ≡ min n capacity_limit) (work lent lent' : List (List ℕ)) (fits : m ≤ length work) (e : lent ≡ take m work)
    (r : Result ℕ Refusal) (told : ReportTold tree nodes cuts copies points boxes xs lent r lent') where
  pub rows_limit : SomeReportRead tree nodes cuts copies points boxes → rows_in r ≤ length lent
  rows_limit P =
      let S = P.state in
      let D = told S.channels S.capacity S.share S.world P.lent P.marks S.state P.read in
      omega (arith, ap rows_in D.answer, within_lent S.channels S.capacity S.world (length lent) xs)

  -- the numbers read at the place, and what is written
  pub report_there : (run : List ℕ) (p out j k : ℕ) (answers answers' : List ℕ) → n ≡ number run (p + 1) → j ≡ number run (p + 2) → k ≡ min j (width + 1)
      → xs ≡ tab k (λ (i : ℕ). of_bits binary32 (number run (p + 3 + i))) → answers' ≡ sets answers (4 * out) (bytes_of (answer_numbers n r lent'))
      → ReportAt tree nodes cuts copies points boxes run p out answers work answers' (lent' ++ drop m work)
  report_there run p out j k answers answers' asked f g h w d c s W a marks S R =
      let D = told d c s W a marks S R in
      let x = report_of d c W (number run (p + 1)) (coordinates_at run p) in
      let long : length lent ≡ m = ap length e ∙ length-take-le m work fits in
      let same : report_of d c W (length lent) xs ≡ x = ap (λ (i : ℕ). report_of d c W i xs) long ∙ few_rows_lem S n m xs few ∙ ap (report_of d c W n) h ∙ few_coordinates S n _ j k g ∙ ap (λ (i : ℕ). report_of d c W n (tab i (λ (q : ℕ). of_bits binary32 (number run (p + 3 + q))))) f ∙ ap (λ (i : ℕ). report_of d c W i (coordinates_at run p)) asked in
      let within : count x ≤ m = omega (arith, ap count same, within_lent d c W (length lent) xs, long) in
      let answer : r ≡ report_says x = D.answer ∙ ap report_says same in
      let after : lent' ≡ rows_after x lent = D.after ∙ ap (λ (y : Report). rows_after y lent) same in
      let said : answer_numbers n r lent' ≡ report_numbers (number run (p + 1)) x = rw (answer, after, asked) (answer_is (number run (p + 1)) x lent) in
      record { numbers = w ∙ ap (λ (l : List ℕ). sets answers (4 * out) (bytes_of l)) said; rows = ap (λ (l : List (List ℕ)). l ++ drop m work) (after ∙ ap (rows_after x) e) ∙ joined x m work fits within }

pub memory_there : (tree : RCFTree) (nodes : List (List ℕ)) (cuts : List Float) (copies : List ℕ) (points : List (List Float)) (boxes : List (List (List Float))) (xs : List Float) (path : List (List ℕ)) (chances : List Float) (path' : List (List ℕ)) (chances' : List Float)
    (run : List ℕ) (p j k : ℕ) → j ≡ number run (p + 2) → k ≡ min j (width + 1) → xs ≡ tab k (λ (i : ℕ). of_bits binary32 (number run (p + 3 + i)))
    → MemoryLeft tree nodes cuts copies points boxes xs path chances path' chances' → MemoryLeft tree nodes cuts copies points boxes (coordinates_at run p) path chances path' chances'
memory_there tree nodes cuts copies points boxes xs path chances path' chances' run p j k e f g left d c s W a marks S R =
    few_walked S boxes path chances path' chances' (λ (i : ℕ). of_bits binary32 (number run (p + 3 + i))) (number run (p + 2)) k (f ∙ ap (λ (i : ℕ). min i (width + 1)) e) (rw g at (left d c s W a marks S R))
