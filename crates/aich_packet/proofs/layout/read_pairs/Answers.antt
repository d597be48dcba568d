use Rattle.std.proofs.Common.{ℕ, drop, arith, ap, ◌∙◌}
use Rattle.aich_packet.specs.Layout.{pairs_from}
use Rattle.aich_packet.proofs.Pairs.{pairs_from-next, pairs_from-done, counted}
use Rattle.aich_packet.proofs.layout.read_pairs.Goals as goal

pub loop-preserved : goal.loop-preserved
loop-preserved c =
    record {
      there = omega arith;
      read =
          rw (c.in_ok-push.ensures.items, c.read_pair.ensures, c.split_at.ensures.back)
          (pairs_from-next c.loop.pairs.items c.args.count c.loop.counter c.loop.rest.now (pairs_from c.args.count (drop 2 c.args.bytes.now)) (omega arith) c.loop.invariant.read);
    }

pub returns : goal.returns
returns c =
    let count = counted c.args.bytes.now c.args.count c.requires in
    pairs_from-done c.loop.pairs.items c.args.count c.loop.counter c.loop.rest.now (pairs_from c.args.count (drop 2 c.args.bytes.now)) c.loop-test.false c.loop.invariant.read
    ∙ ap (λ (n : ℕ). pairs_from n (drop 2 c.args.bytes.now)) count
