-- What a cut tree is over: coordinates, channels, points, words, and the drawing of a cut. Nothing above asks more of them than `Laws`.
use Rattle.std.specs.Prelude.{◌≡◌, Bool, true, false, not, ◌&&◌, ◌||◌, ℕ}

-- "a cut is a channel and an f32 value, handed about as one record"
pub record CutOf (Chan Coord : Type 0) : Type 0 where
  pub channel : Chan
  pub value : Coord

pub record Setting : Type 1 where
  pub Coord : Type 0
  pub Chan : Type 0
  pub Point : Type 0
  pub Word : Type 0
  -- the coordinates that a put brings, not yet tested
  pub Raw : Type 0
  -- a coordinate at or below another
  pub le : Coord → Coord → Bool
  -- a point's coordinate in a channel
  pub at : Point → Chan → Coord
  -- two points are the same value
  pub same : Point → Point → Bool
  -- the cut that a word draws along the sides of a box (lower ends, upper ends) with a point in it
  pub draw : (Chan → Coord) → (Chan → Coord) → Point → Word → CutOf Chan Coord
  -- stands for the words beyond a list's end, which no add takes
  pub no_word : Word
  -- as many coordinates as channels (6); every coordinate good (7); the point of coordinates that pass both
  pub counted : Raw → Bool
  pub good : Raw → Bool
  pub point : Raw → Point
  -- the number of point indices (1,024), and of copies that a tree holds at most (65,535)
  pub indices : ℕ
  pub limit : ℕ

module _ (S : Setting) where
  open S use {Coord, Chan, Point, Word, le, at, same, draw}

  abbrev pub Cut : Type 0
  Cut = CutOf Chan Coord

  -- "at or below the cut"
  abbrev pub below : Cut → Point → Bool
  below k p = le (at p k.channel) k.value

  -- "the cut parts if point ≤ cut < box minimum, or box maximum ≤ cut < point"
  abbrev pub parts : Cut → (Chan → Coord) → (Chan → Coord) → Point → Bool
  parts k low high p = (below k p && not (le (low k.channel) k.value)) || (le (high k.channel) k.value && not (below k p))

  -- what the theorems ask: `le` is a total order, `same` tells values apart that differ in a channel, and a cut drawn at a leaf of
  -- another value always parts (so that the branch seeded with 17 is never reached)
  pub record Laws : Type 0 where
    pub le_trans : (a b c : Coord) → le a b ≡ true → le b c ≡ true → le a c ≡ true
    pub le_total : (a b : Coord) → le a b ≡ false → le b a ≡ true
    pub le_antisym : (a b : Coord) → le a b ≡ true → le b a ≡ true → a ≡ b
    pub same_refl : (p : Point) → same p p ≡ true
    pub same_cong : (p q : Point) → same p q ≡ true → (v : Point) → same p v ≡ same q v
    pub same_at : (p q : Point) → same p q ≡ true → (d : Chan) → at p d ≡ at q d
    pub parts_leaf : (p q : Point) (w : Word) → same q p ≡ false → parts (draw (at q) (at q) p w) (at q) (at q) p ≡ true
