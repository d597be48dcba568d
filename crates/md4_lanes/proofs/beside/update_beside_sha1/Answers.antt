use Rattle.std.proofs.Common.{◌≡◌, ◌%◌, ℕ, ◌<◌, List, length, refl, ap, ◌∙◌, arith}
use Rattle.md4_hash.specs.Md4.{after}
use Rattle.sha1_lanes.specs.Lanes.{pick}
use Rattle.sha1_lanes.proofs.LaneLemmas.{below_four}
use Rattle.md4_lanes.proofs.beside.update_beside_sha1.Goals as goal

pub append_blocks-requires-clause-found : goal.append_blocks-requires-clause-found
append_blocks-requires-clause-found c =
    c.take_messages-state.ensures.md4 ∙ ap (λ (r : List ℕ). after r c.args.long.now) c.registers-registers.ensures

pub returns-clause-sha1 : goal.returns-clause-sha1
returns-clause-sha1 c =
    let long : (j : ℕ) → j < 4 → length (pick j c.args.m0.now c.args.m1.now c.args.m2.now c.args.m3.now) ≡ length c.args.m0.now =
    below_four _ refl c.requires.second c.requires.third c.requires.fourth in
    c.finish.ensures c.args.m0.now c.args.m1.now c.args.m2.now c.args.m3.now (λ j lt. (long j lt, c.take_messages-state.ensures.sha1 j lt))
