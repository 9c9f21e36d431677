-- The calls on a bare tree and its table: what each answers, what it leaves, and document 01's refusals in their order.
use Rattle.std.specs.Prelude.{Bool, cond, not, List, [], ◌∷◌, ℕ, ◌+◌, ◌-◌, eqb, leb, ltb, length, get_or}
use Rattle.std.proofs.Math.Option.{Option, none, some}
use Rattle.cuttree.specs.Setting.{Setting, Cut}
use Rattle.intervalstoremanager.specs.Stack.{next, after_get, after_release, fresh as fresh_numbers}
use Rattle.cuttree.specs.Tree.{Tree, leaf, branch, is, id, lo, hi, sum_of, leaves, mass, ending, found, walk, insert, add_copy, forget, freed}

-- of puts, adds, deletes, arrivals and queries; `bad_weight` is an arrival's alone
pub data Refusal : Type 0 where
  index_above : Refusal
  coordinate_count : Refusal
  bad_coordinate : Refusal
  index_is_leaf : Refusal
  never_written : Refusal
  full : Refusal
  few_words : Refusal
  tree_empty : Refusal
  not_held : Refusal
  bad_weight : Refusal
  no_such_node : Refusal

-- document 01's numbers
abbrev pub number_of : Refusal → ℕ
number_of index_above = 5
number_of coordinate_count = 6
number_of bad_coordinate = 7
number_of index_is_leaf = 8
number_of never_written = 9
number_of full = 10
number_of few_words = 11
number_of tree_empty = 12
number_of not_held = 13
number_of bad_weight = 14
number_of no_such_node = 16

-- "copies of a leaf, and a branch's channel, cut, children, mass and box", each of an id
pub data Query : Type 0 where
  copies_of : ℕ → Query
  branch_of : ℕ → Query
  box_of : ℕ → Query

module _ (S : Setting) where
  open S use {Coord, Chan, Point, Word, Raw, counted, good, point, no_word, indices, limit}

  pub record Row : Type 0 where
    pub cut : Cut S
    pub left : ℕ
    pub right : ℕ
    pub mass : ℕ

  pub record Box : Type 0 where
    pub lower : Chan → Coord
    pub upper : Chan → Coord

  pub data Call : Type 0 where
    put : ℕ → Raw → Call
    add : ℕ → List Word → Call
    delete : ℕ → Call
    query : Query → Call

  -- "the leaf's point index; for add also the words taken"
  pub data Answer : Type 0 where
    refused : Refusal → Answer
    written : Answer
    added : ℕ → ℕ → Answer
    deleted : ℕ → Answer
    copies_are : ℕ → Answer
    branch_is : Row → Answer
    box_is : Box → Answer

  -- the readings table, the tree, and the branch numbers that it doesn't use
  pub record World : Type 0 where
    pub table : ℕ → Option Point
    pub tree : Option (Tree S)
    pub free : List (ℕ × ℕ)

  -- refused, with nothing changed, if the condition holds
  abbrev pub refuse : World → Refusal → Bool → Answer × World → Answer × World
  refuse W n b x = cond b (refused n, W) x

  abbrev pub with_tree : World → Option (Tree S) → List (ℕ × ℕ) → World
  with_tree W o u = record { table = W.table; tree = o; free = u }

  -- PUT
  abbrev pub write : (ℕ → Option Point) → ℕ → Point → ℕ → Option Point
  write f i p j = cond (eqb j i) (some p) (f j)

  abbrev pub is_leaf : Option (Tree S) → ℕ → Bool
  is_leaf o i = ltb 0 (sum_of S (λ j q n. is j i) (λ b. 0) o)

  -- ADD AND DELETE: of an index that is written, by its point
  abbrev pub with_point : World → Option Point → (Point → Answer × World) → Answer × World
  with_point W none g = (refused never_written, W)
  with_point W (some p) g = g p

  -- the copies held
  abbrev pub total_of : Option (Tree S) → ℕ
  total_of o = sum_of S (λ i q n. n) (λ b. 0) o

  abbrev pub after_freed : List (ℕ × ℕ) → Option ℕ → List (ℕ × ℕ)
  after_freed u none = u
  after_freed u (some b) = after_release u b

  abbrev pub leave : World → Option (Tree S) → Point → Answer × World
  leave W none p = (refused tree_empty, W)
  leave W (some t) p = refuse W not_held (not (found S t p)) (deleted (ending S t p).index, with_tree W (forget S p t) (after_freed W.free (freed S p t)))

  -- QUERIES
  abbrev pub or_else : Option (Tree S) → Option (Tree S) → Option (Tree S)
  or_else none y = y
  or_else (some x) y = some x

  abbrev pub copies_found : Option (Tree S) → Answer
  copies_found none = refused no_such_node
  copies_found (some (leaf i q n)) = copies_are n
  copies_found (some (branch b k l r)) = refused no_such_node

  abbrev pub box_found : Option (Tree S) → Answer
  box_found none = refused no_such_node
  box_found (some (leaf i q n)) = refused no_such_node
  box_found (some (branch b k l r)) = box_is (record { lower = lo S (branch b k l r); upper = hi S (branch b k l r) })

  -- a tree of capacity c
  module _ (c : ℕ) where
    -- "a tree fresh from an accepted making and a table with nothing written"
    abbrev pub fresh : World
    fresh = record { table = λ i. none; tree = none; free = fresh_numbers (c - 1) }

    abbrev pub enter : World → Option (Tree S) → ℕ → Point → List Word → Answer × World
    enter W none i p ws = (added i 0, with_tree W (some (leaf i p 1)) W.free)
    enter W (some t) i p ws =
        cond (found S t p) (added (ending S t p).index 0, with_tree W (some (add_copy S p t)) W.free)
        (refuse W full (leb c (leaves S t))
        (refuse W few_words (ltb (length ws) (walk S t p))
        (added i (walk S t p), with_tree W (some (insert S (next W.free) i p (λ n. get_or ws n no_word) t)) (after_get W.free))))

    -- the node of an id, if the tree has it
    abbrev pub look : Tree S → ℕ → Option (Tree S)
    look (leaf i q n) x = cond (eqb (i + c) x) (some (leaf i q n)) none
    look (branch b k l r) x = cond (eqb b x) (some (branch b k l r)) (or_else (look l x) (look r x))

    abbrev pub look_in : Option (Tree S) → ℕ → Option (Tree S)
    look_in none x = none
    look_in (some t) x = look t x

    abbrev pub branch_found : Option (Tree S) → Answer
    branch_found none = refused no_such_node
    branch_found (some (leaf i q n)) = refused no_such_node
    branch_found (some (branch b k l r)) = branch_is (record { cut = k; left = id S c l; right = id S c r; mass = mass S (branch b k l r) })

    abbrev pub ask : World → Query → Answer
    ask W (copies_of x) = copies_found (look_in W.tree x)
    ask W (branch_of x) = branch_found (look_in W.tree x)
    ask W (box_of x) = box_found (look_in W.tree x)

    -- THE CALLS: each row of the refusal table from left to right
    abbrev pub call : World → Call → Answer × World
    call W (put i x) =
        refuse W index_above (leb indices i)
        (refuse W coordinate_count (not (counted x))
        (refuse W bad_coordinate (not (good x))
        (refuse W index_is_leaf (is_leaf W.tree i)
        (written, record { table = write W.table i (point x); tree = W.tree; free = W.free }))))
    call W (add i ws) =
        refuse W index_above (leb indices i)
        (with_point W (W.table i) (λ p. refuse W full (eqb (total_of W.tree) limit) (enter W W.tree i p ws)))
    call W (delete i) =
        refuse W index_above (leb indices i)
        (with_point W (W.table i) (λ p. leave W W.tree p))
    call W (query q) = (ask W q, W)

    -- a list of calls: their answers, and the world that the last one leaves
    abbrev pub answers : World → List Call → List Answer
    answers W [] = []
    answers W (d ∷ ds) = (call W d).0 ∷ answers (call W d).1 ds

    abbrev pub world_after : World → List Call → World
    world_after W [] = W
    world_after W (d ∷ ds) = world_after (call W d).1 ds
