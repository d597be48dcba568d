use Rattle.std.proofs.Common.{◌≡◌, ◌<◌, [], ◌++◌, ℕ, List, length, take, arith, sym, ap, ◌∙◌, length-append}
use Rattle.std.proofs.lemmas.List.{append-nil}
use Rattle.md4_hash.specs.Md4.{md4}
use Rattle.part_sizes.specs.declared.part.TheConstants.{PART}
use Rattle.part_hashset.proofs.WholeParts.{step-whole, step-behind, whole_hashes-none, open_part-all}
use Rattle.part_hashset.proofs.parts.absorb.Goals as goal

pub loop-room-preserved : goal.loop-room-preserved
loop-room-preserved c =
    let members = c.loop-room.members.items in
    let part = c.loop-room.part in
    let rest = c.loop-room.rest.now in
    let room = c.loop-room.room in
    let empty : c.replace-full.new.dest ≡ [] = c.replace-full.ensures.after ∙ c.new.ensures in
    let none : length c.replace-full.new.dest ≡ 0 = ap length empty in
    let fits = c.loop-room-test.true in
    let digest : c.finalize.result ≡ md4 (part ++ take room rest) =
    c.finalize.ensures
    ∙ ap md4 (c.replace-full.ensures.value ∙ c.update.ensures ∙ ap (λ (front : List ℕ). part ++ front) c.split_at.ensures.front) in
    record {
      filled = omega arith;
      some = omega arith;
      space = omega arith;
      whole =
          rw (c.push_reserved.ensures.items, digest, empty, c.split_at.ensures.back)
          (step-whole members part rest room c.loop-room.invariant.filled fits ∙ c.loop-room.invariant.whole);
      behind =
          rw (empty, c.split_at.ensures.back)
          (step-behind part rest room c.loop-room.invariant.filled fits ∙ c.loop-room.invariant.behind);
    }

pub returns-clause-members : goal.returns-clause-members
returns-clause-members c =
    let part = c.loop-room.part in
    let rest = c.loop-room.rest.now in
    let short : length (part ++ rest) < PART = omega (arith, length-append part rest) in
    sym (append-nil c.loop-room.members.items)
    ∙ ap (λ (behind : List (List ℕ)). c.loop-room.members.items ++ behind) (sym (whole_hashes-none (part ++ rest) short))
    ∙ c.loop-room.invariant.whole

pub returns-clause-part : goal.returns-clause-part
returns-clause-part c =
    let part = c.loop-room.part in
    let rest = c.loop-room.rest.now in
    let short : length (part ++ rest) < PART = omega (arith, length-append part rest) in
    c.update-2.ensures ∙ sym (open_part-all (part ++ rest) short) ∙ c.loop-room.invariant.behind
