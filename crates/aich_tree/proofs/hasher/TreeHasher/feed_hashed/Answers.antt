use Rattle.std.proofs.Common.{◌≡◌, ℕ, ◌%◌, length, ap, ◌∙◌, sym, arith, length-append}
use Rattle.part_sizes.specs.declared.part.TheConstants.{PART}
use Rattle.part_sizes.specs.declared.block.TheConstants.{BLOCK}
use Rattle.aich_tree.specs.Hashing.{Hashing}
use Rattle.aich_tree.specs.Leaves.{room_behind}
use Rattle.aich_tree.proofs.StreamLemmas.{HoldsLeaves-hashed}
use Rattle.aich_tree.proofs.hasher.TreeHasher.feed_hashed.Goals as goal

pub invariant_of-self-2 : goal.invariant_of-self-2
invariant_of-self-2 c =
    let m = c.self.inside.fed.bytes in
    let block = c.args.block.now in
    let size = ap (λ (h : Hashing). h.size) c.self.view_is in
    let fed = ap (λ (h : Hashing). length h.fed) c.self.view_is in
    let begins : length m % PART % BLOCK ≡ 0 = ap (λ (n : ℕ). n % PART % BLOCK) fed ∙ c.requires.begins in
    let whole : length block ≡ room_behind (length m) = c.requires.whole ∙ ap room_behind (sym fed) in
    let longer = length-append m block in
    rw (c.in_ok-push.ensures.items, c.note.ensures)
    (record {
      sized = c.self.invariant.sized;
      fits = omega (arith, size, fed, c.requires.room, c.self.invariant.counted);
      counted = omega (arith, longer, c.self.invariant.counted);
      holds = HoldsLeaves-hashed _ _ c.args.hash m block c.self.invariant.holds begins whole c.requires.hashed;
    })
