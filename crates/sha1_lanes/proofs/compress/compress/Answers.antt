use Rattle.std.proofs.Common.{refl, ap, ◌∙◌}
use Rattle.sha1.specs.Sha1.{compress, rounds, add_state}
use Rattle.sha1_lanes.specs.Lanes.{five, pick}
use Rattle.sha1_lanes.proofs.compress.compress.Goals as goal

pub returns : goal.returns
unfolding compress rounds
returns c = λ j lt.
    let b = pick j c.args.b0.now c.args.b1.now c.args.b2.now c.args.b3.now in
    let h = five j c.args.state.now in
    let s16 = c.first_rounds-v16.ensures j lt b h (c.load_block-w.ensures j lt, refl) in
    let s20 = c.choose_four-v20.ensures j lt b h s16 in
    let s40 = c.parity_rounds-v40.ensures j lt b h s20 in
    let s60 = c.majority_rounds-v60.ensures j lt b h s40 in
    let s80 = c.last_rounds-v80.ensures j lt b h s60 in
    c.add_state.ensures j lt ∙ ap (add_state h) s80.1
