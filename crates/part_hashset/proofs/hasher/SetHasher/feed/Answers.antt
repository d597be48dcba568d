use Rattle.std.proofs.Common.{◌++◌, ℕ, List, length, sym, ap, ◌∙◌}
use Rattle.part_hashset.specs.WholeParts.{whole_hashes}
use Rattle.part_hashset.proofs.WholeParts.{length-open_part, HoldsParts-append}
use Rattle.part_hashset.proofs.hasher.SetHasher.feed.Goals as goal

pub absorb-requires-clause-filled : goal.absorb-requires-clause-filled
absorb-requires-clause-filled c =
    ap length c.self.invariant.open_part_of ∙ length-open_part c.self.inside.fed.bytes ∙ sym c.self.invariant.filled_to

pub invariant_of-self-2 : goal.invariant_of-self-2
invariant_of-self-2 c =
    let members = c.absorb.ensures.members
    ∙ ap (λ (before : List (List ℕ)). before ++ whole_hashes (c.self.inside.part ++ c.args.piece.now)) c.reserve.ensures.items in
    rw c.note.ensures
    (HoldsParts-append _ _ _ _ _ _ c.self.inside.fed.bytes c.args.piece.now c.self.invariant members c.absorb.ensures.part c.filled_after-self-inside.ensures)
