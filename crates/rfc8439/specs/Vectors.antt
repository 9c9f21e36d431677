-- A vector of RFC 8439 in its line (VECTORS.md), and how many of a text's lines hold. Definitions.
use Rattle.std.specs.Prelude.{Bool, ◌&&◌, cond, List, [], ◌∷◌, ℕ, ◌+◌, ◌%◌, ◌^◌, eqb, length, take, drop, unwrap_or, bytes_eq}
use Rattle.text.specs.Numbers.{bits_of}
use Rattle.hexbytes.specs.Hex.{is_hex, hex_bytes}
use Rattle.chacha20.specs.Block.{chacha20_block}

-- eight digits are a number of 32 bits
abbrev pub counter_of : List ℕ → ℕ
counter_of field = unwrap_or (bits_of field) 0 % 2 ^ 32

-- the digits of a line's fields, by their places
module _ (line : List ℕ) where
  abbrev pub key : List ℕ
  key = take 64 (drop 0 line)

  abbrev pub counter : List ℕ
  counter = take 8 (drop 65 line)

  abbrev pub nonce : List ℕ
  nonce = take 24 (drop 74 line)

  abbrev pub block : List ℕ
  block = take 128 (drop 99 line)

  -- whether the line is a vector, and its block is that of its key, counter and nonce
  unfoldable pub holds : Bool
  holds =
      eqb (length line) 227 && (is_hex 32 key && (is_hex 12 nonce && (is_hex 64 block
      && bytes_eq (chacha20_block (hex_bytes key) (counter_of counter) (hex_bytes nonce)) (hex_bytes block))))

-- how many of lines hold
abbrev pub holding : List (List ℕ) → ℕ
holding [] = 0
holding (l ∷ ls) = cond (holds l) 1 0 + holding ls
