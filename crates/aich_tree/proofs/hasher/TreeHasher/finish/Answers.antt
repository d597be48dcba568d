use Rattle.std.proofs.Common.{◌≡◌, ◌<◌, ◌%◌, length, arith, ap, ◌∙◌}
use Rattle.sha1.specs.Sha1.{sha1}
use Rattle.part_sizes.specs.declared.part.TheConstants.{PART}
use Rattle.part_sizes.specs.declared.block.TheConstants.{BLOCK}
use Rattle.aich_tree.specs.Hashing.{Hashing}
use Rattle.aich_tree.specs.Leaves.{open_block}
use Rattle.aich_tree.proofs.StreamLemmas.{leaves_of-ended, leaves_of-open}
use Rattle.aich_tree.proofs.hasher.TreeHasher.finish.Goals as goal
use Rattle.aich_tree.proofs.hasher.TreeHasher.finish.Goals.{then-size-gt0, else-size-gt0}

pub new-requires-clause-leaves : goal.new-requires-clause-leaves
new-requires-clause-leaves c =
    let bytes = c.self.inside.fed.bytes in
    let size = ap (λ (h : Hashing). h.size) c.self.view_is in
    let fed = ap (λ (h : Hashing). length h.fed) c.self.view_is in
    let all : length bytes ≡ c.self.inside.size = omega (arith, size, fed, c.requires) in
    elim c.if-size-gt0.branch [
      | then-size-gt0 w ↦
          let digest : w.finalize.result ≡ sha1 (open_block bytes) = w.finalize.ensures (open_block bytes) c.self.invariant.holds.opened in
          let some : 0 < length bytes % PART % BLOCK = omega (arith, all) in
          rw (w.leaves-is, w.push_reserved.ensures.items, c.reserve.ensures.items, c.self.invariant.holds.ended, digest)
          (leaves_of-open bytes some)
      | else-size-gt0 w ↦
          let none : length bytes % PART % BLOCK ≡ 0 = omega (arith, all) in
          rw (w.leaves-is, c.reserve.ensures.items)
          (c.self.invariant.holds.ended ∙ leaves_of-ended bytes none)
    ]
