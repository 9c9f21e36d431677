-- `rfc8439::line_holds` meets its contract. Assumes nothing.
use lib.ListN.{replicate}
use Rattle.rfc8439.proofs.Lines.{other_length, no_key, no_nonce, no_block, compared}
use Rattle.rfc8439.specs.Vectors.{key, nonce, block}
use Rattle.hexbytes.proofs.Digits.{read_tells}
use Rattle.rfc8439.proofs.line_holds.Goals as goal

pub returns-then-line-ne-LINE : goal.returns-then-line-ne-LINE
returns-then-line-ne-LINE c = other_length c.args.line.now c.if-line-ne-LINE.true

pub returns-then-not-read_hex : goal.returns-then-not-read_hex
returns-then-not-read_hex c = let line = c.args.line.now in
    no_key line c.if-line-ne-LINE.false (read_tells (key line) (replicate 32 0) _ _ c.read_hex.ensures).tells c.if-not-read_hex.true

pub returns-then-not-read_hex-2 : goal.returns-then-not-read_hex-2
returns-then-not-read_hex-2 c = let line = c.args.line.now in
    no_nonce line c.if-line-ne-LINE.false (read_tells (key line) (replicate 32 0) _ _ c.read_hex.ensures).tells c.if-not-read_hex.false (read_tells (nonce line) (replicate 12 0) _ _ c.read_hex-2.ensures).tells c.if-not-read_hex-2.true

pub returns-then-not-read_hex-3 : goal.returns-then-not-read_hex-3
returns-then-not-read_hex-3 c = let line = c.args.line.now in
    no_block line c.if-line-ne-LINE.false (read_tells (key line) (replicate 32 0) _ _ c.read_hex.ensures).tells c.if-not-read_hex.false (read_tells (nonce line) (replicate 12 0) _ _ c.read_hex-2.ensures).tells c.if-not-read_hex-2.false (read_tells (block line) (replicate 64 0) _ _ c.read_hex-3.ensures).tells c.if-not-read_hex-3.true

pub returns : goal.returns
returns c = let line = c.args.line.now in
    let k = read_tells (key line) (replicate 32 0) _ _ c.read_hex.ensures in
    let n = read_tells (nonce line) (replicate 12 0) _ _ c.read_hex-2.ensures in
    let b = read_tells (block line) (replicate 64 0) _ _ c.read_hex-3.ensures in
    let key-good = c.if-not-read_hex.false in
    let nonce-good = c.if-not-read_hex-2.false in
    let block-good = c.if-not-read_hex-3.false in
    compared line c.if-line-ne-LINE.false k.tells key-good n.tells nonce-good b.tells block-good _ _ _ _ (k.holds key-good) c.counter_of.ensures (n.holds nonce-good) (b.holds block-good) _ c.agrees.ensures
