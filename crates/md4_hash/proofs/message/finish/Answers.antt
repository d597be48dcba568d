use Rattle.std.proofs.Common.{◌≡◌, ◌+◌, ◌-◌, ◌≤◌, length, arith, ap, ◌∙◌}
use Rattle.md4_hash.specs.Md4.{after, digest, zeros_after}
use Rattle.md4_hash.proofs.Blocks.{padded_rest}
use Rattle.md4_hash.proofs.message.finish.Goals as goal
use Rattle.md4_hash.proofs.message.finish.Goals.{then-used-le-BLOCK_LEN, else-used-le-BLOCK_LEN}

pub returns : goal.returns
returns c =
    let end = c.if-used-le-BLOCK_LEN.end in
    let place : length c.args.rest.now + zeros_after c.args.total + 1 ≡ end - 8 =
    elim c.if-used-le-BLOCK_LEN.branch [ then-used-le-BLOCK_LEN w ↦ omega arith | else-used-le-BLOCK_LEN w ↦ omega arith ] in
    let fits : end ≤ 128 =
    elim c.if-used-le-BLOCK_LEN.branch [ then-used-le-BLOCK_LEN w ↦ omega arith | else-used-le-BLOCK_LEN w ↦ omega arith ] in
    c.digest.ensures
    ∙ ap digest
    (c.take_blocks.ensures
    ∙ ap (after c.args.registers)
    (rw (c.copy_from_slice.ensures.after, c.copy_from_slice-2.ensures.after, c.to_le_bytes.ensures)
    (padded_rest c.args.rest.now _ (zeros_after c.args.total) (end - 8) _ 128 end place (omega arith) (omega arith))))
