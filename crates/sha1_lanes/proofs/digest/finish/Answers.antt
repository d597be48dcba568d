use Rattle.std.proofs.Common.{◌≡◌, ℕ, List, ◌<◌, ◌/◌, refl, arith, ◌∙◌}
use Rattle.sha1.specs.Sha1.{hash_after, compress, padding, digest_bytes, sha1}
use Rattle.sha1_lanes.specs.Lanes.{five, pick, IsBehind}
use Rattle.sha1_lanes.proofs.LaneLemmas.{sha1_whole, below_four}
use Rattle.sha1_lanes.proofs.digest.finish.Goals as goal

pub returns : goal.returns
returns c = λ m0 m1 m2 m3 behind.
    let n = c.args.len in
    let one : (j : ℕ) → j < 4 → pick j (padding n) (padding n) (padding n) (padding n) ≡ padding n = below_four _ refl refl refl refl in
    let digest : (j : ℕ) → j < 4 → digest_bytes (five j c.compress.new.state) 5 ≡ sha1 (pick j m0 m1 m2 m3) =
    λ j lt.
    sha1_whole (pick j m0 m1 m2 m3) _ n (behind j lt).0 c.requires
    (c.compress.ensures j lt ∙ rw ((behind j lt).1, c.last_block-last.ensures, one j lt) refl) in
    rw (
      c.lane_digest.ensures,
      c.lane_digest-2.ensures,
      c.lane_digest-3.ensures,
      c.lane_digest-4.ensures,
      digest 0 (omega arith),
      digest 1 (omega arith),
      digest 2 (omega arith),
      digest 3 (omega arith),
    ) refl
