use Rattle.std.proofs.Common.{◌≡◌, ◌+◌, ◌-◌, ◌<◌, ◌++◌, ℕ, List, length, take, drop, arith, sym, ap, ◌∙◌, length-append}
use Rattle.std.proofs.lemmas.List.{append_assoc, take-append-drop}
use Rattle.aich_tree.specs.Leaves.{ended_count, room_behind}
use Rattle.aich_tree.proofs.StreamLemmas.{length-ended_leaves, ended-count_next, ended-count_grows, HoldsLeaves-next, HoldsLeaves-more}
use Rattle.aich_tree.proofs.stream.absorb.Goals as goal

pub push_reserved-requires : goal.push_reserved-requires
push_reserved-requires c =
    let place = c.ends.place in
    let room = c.ends.room in
    let more = length c.ends.rest.now - room in
    let long : length c.ends.leaves.items ≡ ended_count place =
    ap length c.ends.invariant.holds.ended
    ∙ length-ended_leaves c.ends.fed.bytes
    ∙ ap ended_count (sym c.ends.invariant.counted) in
    let next = ended-count_next place room c.ends.invariant.room_is in
    let grows = ended-count_grows (place + room) more in
    let all : place + room + more ≡ place + length c.ends.rest.now = omega arith in
    omega (arith, long, next, grows, ap ended_count all, c.ends.invariant.space)

pub ends-preserved : goal.ends-preserved
ends-preserved c =
    let fed = c.ends.fed.bytes in
    let rest = c.ends.rest.now in
    let room = c.ends.room in
    let front = c.split_at.result.0.now in
    let longer = ap length c.note.ensures ∙ length-append fed front in
    let full : length front ≡ room_behind (length fed) =
    c.split_at.ensures.front_len ∙ c.ends.invariant.room_is ∙ ap room_behind c.ends.invariant.counted in
    let left : c.ends.place + room + length c.split_at.result.1.now ≡ c.ends.place + length rest = omega arith in
    record {
      counted = omega (arith, longer);
      room_is = c.room_behind-room-in-ends.ensures.value;
      left = omega arith;
      whole =
          rw (c.note.ensures, c.split_at.ensures.front, c.split_at.ensures.back)
          (append_assoc fed (take room rest) (drop room rest)
          ∙ ap (λ (end : List ℕ). fed ++ end) (take-append-drop room rest)
          ∙ c.ends.invariant.whole);
      space = omega (arith, ap ended_count left, c.ends.invariant.space, c.push_reserved.ensures.capacity);
      holds =
          rw (c.push_reserved.ensures.items, c.note.ensures, c.replace-full.ensures.after)
          (HoldsLeaves-next c.ends.leaves.items c.ends.block c.new.result c.finalize.result fed front c.ends.invariant.holds full
          (λ b h. c.finalize.ensures (b ++ front) (rw c.replace-full.ensures.value (c.update.ensures b h)))
          c.new.ensures);
    }

pub returns-clause-holds : goal.returns-clause-holds
returns-clause-holds c =
    let fed = c.ends.fed.bytes in
    let rest = c.ends.rest.now in
    let room : c.ends.room ≡ room_behind (length fed) = c.ends.invariant.room_is ∙ ap room_behind c.ends.invariant.counted in
    let short : length rest < room_behind (length fed) = omega (arith, room) in
    rw (← c.ends.invariant.whole)
    (HoldsLeaves-more c.ends.leaves.items c.ends.block c.update-2.new.self fed rest c.ends.invariant.holds short
    (λ b h. c.update-2.ensures b h))
