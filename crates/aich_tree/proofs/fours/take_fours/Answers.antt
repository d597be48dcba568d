use Rattle.std.proofs.Common.{◌≡◌, ◌+◌, ◌-◌, ◌*◌, length, arith, sym, ap, ◌∙◌}
use Rattle.part_sizes.specs.declared.block.TheConstants.{BLOCK}
use Rattle.aich_tree.specs.Leaves.{ended_count}
use Rattle.aich_tree.proofs.StreamLemmas.{length-ended_leaves, ended-count_grows, ended-count_four}
use Rattle.aich_tree.proofs.fours.take_fours.Goals as goal

pub take_four-requires-clause-room : goal.take_four-requires-clause-room
take_four-requires-clause-room c =
    let place = c.turns.place in
    let more = length c.turns.rest.now - 4 * BLOCK in
    let long : length c.turns.leaves.items ≡ ended_count place =
    ap length c.turns.invariant.holds.ended
    ∙ length-ended_leaves c.turns.fed.bytes
    ∙ ap ended_count (sym c.turns.invariant.counted) in
    let next = ended-count_four place c.if-place-eq0.true c.if-place-le-PART.true in
    let grows = ended-count_grows (place + 4 * BLOCK) more in
    let all : place + 4 * BLOCK + more ≡ c.args.at + length c.args.piece.now = omega (arith, c.turns.invariant.left, c.turns-test.true) in
    omega (arith, long, next, grows, ap ended_count all, c.turns.invariant.space)
