use Rattle.std.proofs.Common.{◌+◌, ◌%◌, slice_index, ap, ◌∙◌, refl}
use Rattle.std.proofs.lemmas.List.{map-set}
use Rattle.std.specs.Int.{w32, rotate_left}
use Rattle.sha1_lanes.proofs.LaneLemmas.{slice_index-lane}
use Rattle.sha1_lanes.proofs.compress.next_word.Goals as goal

pub returns-clause-value : goal.returns-clause-value
returns-clause-value c = λ j lt.
    let w = c.args.w.now in
    let t = c.args.t in
    c.turn-word.ensures j lt
    ∙ ap (λ x. rotate_left w32 x 1) (c.mix-sum.ensures j lt)
    ∙ rw (slice_index-lane w j ((t + 13) % 16), slice_index-lane w j ((t + 8) % 16), slice_index-lane w j ((t + 2) % 16), slice_index-lane w j (t % 16)) refl

pub returns-clause-window : goal.returns-clause-window
returns-clause-window c = λ j lt. map-set (λ v. slice_index v j) c.args.w.now (c.args.t % 16) c.turn-word.result
