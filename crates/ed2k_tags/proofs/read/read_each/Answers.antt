use Rattle.std.proofs.Common.{◌≡◌, ◌++◌, ◌∷◌, []}
use Rattle.ed2k_tags.specs.Reading.{tags_from}
use Rattle.ed2k_tags.proofs.Loop.{goes_on, stops_at, is_done}
use Rattle.ed2k_tags.proofs.read.read_each.Goals as goal

pub returns-in-Err : goal.returns-in-Err
returns-in-Err c =
    stops_at c.in-Err.stop c.at.result c.saturating_sub.result c.loop.tags.items c.args.end c.args.count c.loop.counter c.loop.rest.now (tags_from c.args.end c.args.count c.args.bytes.now) c.loop-test.true c.in-Err.ensures c.loop.invariant c.saturating_sub.ensures c.at.ensures

pub loop-preserved : goal.loop-preserved
loop-preserved c =
    let e : c.push.new.self.items ≡ c.loop.tags.items ++ c.in-Ok.tag ∷ [] = c.in_ok-push-in-Ok.ensures.items in
    rw e (goes_on c.loop.tags.items c.args.end c.args.count c.loop.counter c.loop.rest.now c.in-Ok.tag c.in-Ok.after.now (tags_from c.args.end c.args.count c.args.bytes.now) c.loop-test.true c.in-Ok.ensures c.loop.invariant)

pub returns : goal.returns
returns c = is_done c.loop.tags.items c.args.end c.args.count c.loop.counter c.loop.rest.now (tags_from c.args.end c.args.count c.args.bytes.now) c.loop-test.false c.loop.invariant
