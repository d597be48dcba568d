use Rattle.std.proofs.Common.{◌≡◌, ℕ, ◌*◌, List, [], ◌∷◌, slice_index, refl, arith}
use Rattle.sha1.specs.Sha1.{word_at}
use Rattle.sha1.proofs.Schedule.{IsWindow_first}
use Rattle.sha1_lanes.specs.Lanes.{lane_at, pick}
use Rattle.sha1_lanes.proofs.LaneLemmas.{below_sixteen}
use Rattle.sha1_lanes.proofs.compress.load_block.Goals as goal

pub returns : goal.returns
returns c = λ j lt.
    let b : List ℕ = pick j c.args.b0.now c.args.b1.now c.args.b2.now c.args.b3.now in
    let w : List ℕ = lane_at c.columns.result 0 j ∷ lane_at c.columns.result 1 j ∷ lane_at c.columns.result 2 j ∷ lane_at c.columns.result 3 j ∷ lane_at c.columns-2.result 0 j ∷ lane_at c.columns-2.result 1 j ∷ lane_at c.columns-2.result 2 j ∷ lane_at c.columns-2.result 3 j ∷ lane_at c.columns-3.result 0 j ∷ lane_at c.columns-3.result 1 j ∷ lane_at c.columns-3.result 2 j ∷ lane_at c.columns-3.result 3 j ∷ lane_at c.columns-4.result 0 j ∷ lane_at c.columns-4.result 1 j ∷ lane_at c.columns-4.result 2 j ∷ lane_at c.columns-4.result 3 j ∷ [] in
    IsWindow_first b w refl
    (below_sixteen (λ k. slice_index w k ≡ word_at b (4 * k)) (c.columns.ensures j 0 lt (omega arith)) (c.columns.ensures j 1 lt (omega arith)) (c.columns.ensures j 2 lt (omega arith)) (c.columns.ensures j 3 lt (omega arith)) (c.columns-2.ensures j 0 lt (omega arith)) (c.columns-2.ensures j 1 lt (omega arith)) (c.columns-2.ensures j 2 lt (omega arith)) (c.columns-2.ensures j 3 lt (omega arith)) (c.columns-3.ensures j 0 lt (omega arith)) (c.columns-3.ensures j 1 lt (omega arith)) (c.columns-3.ensures j 2 lt (omega arith)) (c.columns-3.ensures j 3 lt (omega arith)) (c.columns-4.ensures j 0 lt (omega arith)) (c.columns-4.ensures j 1 lt (omega arith)) (c.columns-4.ensures j 2 lt (omega arith)) (c.columns-4.ensures j 3 lt (omega arith)))
