use Rattle.std.proofs.Common.{◌≡◌, ℕ, ◌%◌, length, ap, ◌∙◌, arith, length-append}
use Rattle.part_sizes.specs.declared.part.TheConstants.{PART}
use Rattle.aich_tree.specs.Hashing.{Hashing}
use Rattle.aich_tree.proofs.StreamLemmas.{HoldsLeaves-behind}
use Rattle.aich_tree.proofs.hasher.TreeHasher.append.Goals as goal

pub invariant_of-self-2 : goal.invariant_of-self-2
invariant_of-self-2 c =
    let m = c.self.inside.fed.bytes in
    let y = c.other.inside.fed.bytes in
    let size = ap (λ (h : Hashing). h.size) c.self.view_is in
    let fed = ap (λ (h : Hashing). length h.fed) c.self.view_is in
    let more = ap (λ (h : Hashing). length h.fed) c.other.view_is in
    let begins : length m % PART ≡ 0 = ap (λ (n : ℕ). n % PART) fed ∙ c.requires.begins in
    let longer = length-append m y in
    rw (c.in_ok-extend_from_slice.ensures.items, c.deref.ensures.value, c.append.ensures)
    (record {
      sized = c.self.invariant.sized;
      fits = omega (arith, size, fed, more, c.requires.room, c.self.invariant.counted, c.other.invariant.counted);
      counted = omega (arith, longer, c.self.invariant.counted, c.other.invariant.counted);
      holds = HoldsLeaves-behind _ _ _ _ m y c.self.invariant.holds c.other.invariant.holds begins;
    })
