use Rattle.std.proofs.Common.{◌≡◌, [], ◌∷◌}
use Rattle.md4_hash.specs.Md4.{word}
use Rattle.sha1_lanes.specs.Lanes.{lane_at, pick}
use Rattle.sha1_lanes.proofs.LaneLemmas.{below_sixteen}
use Rattle.md4_lanes.proofs.block.load_block.Goals as goal

pub returns : goal.returns
returns c = λ j lt.
    below_sixteen (λ k. lane_at (c.load.result ∷ c.load-2.result ∷ c.load-3.result ∷ c.load-4.result ∷ c.load-5.result ∷ c.load-6.result ∷ c.load-7.result ∷ c.load-8.result ∷ c.load-9.result ∷ c.load-10.result ∷ c.load-11.result ∷ c.load-12.result ∷ c.load-13.result ∷ c.load-14.result ∷ c.load-15.result ∷ c.load-16.result ∷ []) k j ≡ word (pick j c.args.b0.now c.args.b1.now c.args.b2.now c.args.b3.now) k) (c.load.ensures j lt) (c.load-2.ensures j lt) (c.load-3.ensures j lt) (c.load-4.ensures j lt) (c.load-5.ensures j lt) (c.load-6.ensures j lt) (c.load-7.ensures j lt) (c.load-8.ensures j lt) (c.load-9.ensures j lt) (c.load-10.ensures j lt) (c.load-11.ensures j lt) (c.load-12.ensures j lt) (c.load-13.ensures j lt) (c.load-14.ensures j lt) (c.load-15.ensures j lt) (c.load-16.ensures j lt)
