use Rattle.std.proofs.Common.{arith}
use Rattle.aich_packet.proofs.Judged.{answer-found, answer-count, answer-only}
use Rattle.aich_packet.proofs.checking.prove.Goals as goal

pub returns-clause-found : goal.returns-clause-found
returns-clause-found c =
    answer-found c.args.size c.args.root c.args.part c.args.packet.now c.judge.result (λ i. omega (arith, c.type_inv.packet i)) c.judge.ensures.fault c.judge.ensures.leaves

pub returns-clause-count : goal.returns-clause-count
returns-clause-count c =
    answer-count c.args.size c.args.part c.args.packet.now c.judge.result c.requires.size c.requires.exists c.judge.ensures.leaves

pub returns-clause-only : goal.returns-clause-only
returns-clause-only c =
    answer-only c.args.size c.args.root c.args.part c.args.packet.now c.judge.result c.requires.size c.judge.ensures.fault c.judge.ensures.leaves
