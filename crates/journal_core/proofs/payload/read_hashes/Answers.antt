use Rattle.std.proofs.Common.{◌≡◌, ◌∷◌, [], length, ap, sym, ◌∙◌, subst, arith, length-append, length-take-le}
use Rattle.journal_core.specs.Records.{AreHashes}
use Rattle.journal_core.proofs.Payloads.{hashes-push, hashes-read}
use Rattle.journal_core.proofs.payload.read_hashes.Goals as goal

pub loop-preserved : goal.loop-preserved
loop-preserved c =
    let q = c.loop.hashes.items in
    let h = c.read_hash.result in
    let rest = c.loop.rest.now in
    let items = c.in_ok-push.ensures.items in
    let long : length h ≡ 16 = ap length c.read_hash.ensures ∙ length-take-le 16 rest (omega arith) in
    record {
      count = omega (arith, ap length items, length-append q (h ∷ []), c.loop.invariant.count);
      long = subst AreHashes (sym items) (hashes-push q h c.loop.invariant.long long);
      left = omega arith;
      spelled = rw (items, c.split_at.ensures.back) (hashes-read q h c.args.bytes.now rest c.loop.invariant.spelled c.read_hash.ensures);
    }
