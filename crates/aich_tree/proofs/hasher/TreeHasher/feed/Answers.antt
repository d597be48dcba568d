use Rattle.std.proofs.Common.{◌≡◌, length, arith, sym, ap, ◌∙◌}
use Rattle.aich_tree.specs.Leaves.{ended_count}
use Rattle.aich_tree.proofs.StreamLemmas.{length-ended_leaves, ended-count_grows}
use Rattle.aich_tree.proofs.hasher.TreeHasher.feed.Goals as goal

pub overflow_sub-ended : goal.overflow_sub-ended
overflow_sub-ended c =
    let long : length c.self.inside.leaves.items ≡ ended_count c.self.inside.at =
    ap length c.self.invariant.holds.ended
    ∙ length-ended_leaves c.self.inside.fed.bytes
    ∙ ap ended_count (sym c.self.invariant.counted) in
    let grows = ended-count_grows c.self.inside.at (length c.args.piece.now) in
    omega (arith, long, grows, c.len.ensures, c.ended_count-ended.ensures)
