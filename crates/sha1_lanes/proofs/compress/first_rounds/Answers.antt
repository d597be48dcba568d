use Rattle.std.proofs.Common.{arith}
use Rattle.sha1_lanes.proofs.LaneLemmas.{IsFirstAt_at}
use Rattle.sha1_lanes.proofs.compress.first_rounds.Goals as goal

pub returns : goal.returns
returns c = λ j lt b h held.
    let s1 = c.first_four-v1.ensures j lt b h held in
    let s2 = c.first_four-v2.ensures j lt b h (IsFirstAt_at b h _ _ _ _ (omega arith) s1) in
    let s3 = c.first_four-v3.ensures j lt b h (IsFirstAt_at b h _ _ _ _ (omega arith) s2) in
    let s4 = c.first_four.ensures j lt b h (IsFirstAt_at b h _ _ _ _ (omega arith) s3) in
    IsFirstAt_at b h _ _ _ _ (omega arith) s4
