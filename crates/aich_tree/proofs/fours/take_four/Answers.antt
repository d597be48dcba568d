use Rattle.std.proofs.Common.{◌≡◌, ◌++◌, arith}
use Rattle.std.proofs.lemmas.List.{take-append-drop}
use Rattle.part_sizes.specs.declared.block.TheConstants.{BLOCK}
use Rattle.aich_tree.proofs.StreamLemmas.{HoldsLeaves-four, four_parts}
use Rattle.aich_tree.proofs.fours.take_four.Goals as goal

pub returns-clause-holds : goal.returns-clause-holds
returns-clause-holds c =
    let fed = c.args.fed.now.bytes in
    let all = c.args.blocks.now in
    let a = c.split_at.result.0.now in
    let o = c.split_at.result.1.now in
    let b = c.split_at-2.result.0.now in
    let p = c.split_at-2.result.1.now in
    let d = c.split_at-3.result.0.now in
    let e = c.split_at-3.result.1.now in
    let first : a ++ o ≡ all = rw (c.split_at.ensures.front, c.split_at.ensures.back) (take-append-drop BLOCK all) in
    let second : b ++ p ≡ o = rw (c.split_at-2.ensures.front, c.split_at-2.ensures.back) (take-append-drop BLOCK o) in
    let third : d ++ e ≡ p = rw (c.split_at-3.ensures.front, c.split_at-3.ensures.back) (take-append-drop BLOCK p) in
    rw (
      c.push_reserved-4.ensures.items,
      c.push_reserved-3.ensures.items,
      c.push_reserved-2.ensures.items,
      c.push_reserved.ensures.items,
      c.digests.ensures,
      c.note.ensures,
      ← four_parts fed all a o b p d e first second third,
    )
    (HoldsLeaves-four c.args.leaves.now.items c.args._block.now fed a b d e c.requires.holds c.requires.begins c.requires.in_part
    (omega (arith, c.split_at.ensures.front_len)) (omega (arith, c.split_at-2.ensures.front_len)) (omega (arith, c.split_at-3.ensures.front_len))
    (omega (arith, c.requires.whole, c.split_at.ensures.back_len, c.split_at-2.ensures.back_len, c.split_at-3.ensures.back_len)))
