use Rattle.std.proofs.Common.{add-zero, ◌≡◌, ◌+◌, ◌*◌, [], ◌∷◌}
use Rattle.sha1.specs.Sha1.{word_at}
use Rattle.sha1_lanes.specs.Lanes.{lane_at, pick}
use Rattle.sha1_lanes.proofs.LaneLemmas.{below_four}
use Rattle.sha1_lanes.proofs.word.columns.Goals as goal

pub returns : goal.returns
returns c = λ j k lt below.
    below_four (λ k. lane_at (c.load.result ∷ c.load-2.result ∷ c.load-3.result ∷ c.load-4.result ∷ []) k j
    ≡ word_at (pick j c.args.b0.now c.args.b1.now c.args.b2.now c.args.b3.now) (c.args.at + 4 * k))
    (rw add-zero (c.load.ensures j lt)) (c.load-2.ensures j lt) (c.load-3.ensures j lt) (c.load-4.ensures j lt) k below
