use Rattle.std.proofs.Common.{refl, ap, sym, ◌∙◌}
use Rattle.sha1.specs.Sha1.{compress, rounds, add_state}
use Rattle.sha1_lanes.specs.Lanes.{five, pick}
use Rattle.md4_lanes.proofs.BesideLemmas.{after-four}
use Rattle.md4_lanes.proofs.beside.take_blocks.Goals as goal

pub returns-clause-sha1 : goal.returns-clause-sha1
unfolding compress rounds
returns-clause-sha1 c = λ j lt.
    let b = pick j c.args.b0.now c.args.b1.now c.args.b2.now c.args.b3.now in
    let h = five j c.args.state.now in
    let s20 = c.first_rounds-v20.ensures.rounds j lt b h (c.load_block-w.ensures j lt, refl) in
    let s40 = c.parity_rounds-v40.ensures.rounds j lt b h s20 in
    let s60 = c.majority_rounds-v60.ensures.rounds j lt b h s40 in
    let s80 = c.last_rounds-v80.ensures.rounds j lt b h s60 in
    c.add_state.ensures j lt ∙ ap (add_state h) s80.1

pub returns-clause-md4 : goal.returns-clause-md4
returns-clause-md4 c =
    rw (
      c.last_rounds-v80.ensures.block,
      c.majority_rounds-v60.ensures.block,
      c.parity_rounds-v40.ensures.block,
      c.first_rounds-v20.ensures.block,
      c.split_at-3.ensures.front,
      c.split_at-3.ensures.back,
      c.split_at-2.ensures.front,
      c.split_at-2.ensures.back,
      c.split_at.ensures.front,
      c.split_at.ensures.back,
    ) (sym (after-four c.args.registers.now c.args.quad.now c.requires.quad))
