use Rattle.std.proofs.Common.{◌≡◌, ℕ, ◌%◌, ◌<◌, List, length, ap, ◌∙◌, arith}
use Rattle.part_sizes.specs.declared.part.TheConstants.{PART}
use Rattle.part_hashset.proofs.WholeParts.{HoldsParts-whole, HoldsParts-open}
use Rattle.part_hashset.proofs.hasher.SetHasher.append.Goals as goal

pub invariant_of-self : goal.invariant_of-self
invariant_of-self c =
    let m = c.self.inside.fed.bytes in
    let begins : length m % PART ≡ 0 = ap (λ (bytes : List ℕ). length bytes % PART) c.self.view_is ∙ c.requires.begins in
    let short : length c.args.part < PART = omega (arith, c.requires.counted) in
    rw (c.append.ensures, c.fed.ensures, c.requires.counted)
    (HoldsParts-open c.self.inside.members.items _ _ m c.args.part c.self.invariant begins short)

pub invariant_of-self-2 : goal.invariant_of-self-2
invariant_of-self-2 c =
    let m = c.self.inside.fed.bytes in
    let begins : length m % PART ≡ 0 = ap (λ (bytes : List ℕ). length bytes % PART) c.self.view_is ∙ c.requires.begins in
    let full : length c.args.part ≡ PART = omega (arith, c.requires.counted, c.requires.one) in
    rw (c.push_reserved.ensures.items, c.reserve.ensures.items, c.finalize.ensures, c.append-2.ensures, c.fed-2.ensures)
    (HoldsParts-whole c.self.inside.members.items _ _ m c.args.part c.self.invariant begins full)
