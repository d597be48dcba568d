use Rattle.std.proofs.Common.{◌≡◌, ◌-◌, ◌%◌, length, take, arith, ◌∙◌}
use Rattle.std.proofs.lemmas.List.{take-append-drop, length-take-le}
use Rattle.md4_hash.proofs.Blocks.{md4_split}
use Rattle.md4_hash.proofs.md4.Goals as goal

pub returns : goal.returns
returns c =
    let m = c.args.bytes.now in
    let whole : length (take (length m - length m % 64) m) % 64 ≡ 0 = omega (arith, length-take-le (length m - length m % 64) m (omega arith)) in
    c.finish.ensures
    ∙ rw (c.take_blocks.ensures, c.split_at.ensures.front, c.split_at.ensures.back) (md4_split m _ _ (take-append-drop _ m) whole)
