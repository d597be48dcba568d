use Rattle.std.proofs.Common.{◌≡◌, ◌∷◌, [], List, ℕ, length, slice_index, arith, refl}
use Rattle.sha1_lanes.proofs.LaneLemmas.{below_four, four_lanes}
use Rattle.md4_lanes.proofs.message.gather.Goals as goal

pub returns : goal.returns
returns c =
    let each : (r : List ℕ) → length r ≡ 4 → slice_index r 0 ∷ slice_index r 1 ∷ slice_index r 2 ∷ slice_index r 3 ∷ [] ≡ r =
    four_lanes (λ r. slice_index r 0 ∷ slice_index r 1 ∷ slice_index r 2 ∷ slice_index r 3 ∷ [] ≡ r) (λ a b c d. refl) in
    below_four _ (each c.args.r0 (omega arith)) (each c.args.r1 (omega arith)) (each c.args.r2 (omega arith)) (each c.args.r3 (omega arith))
