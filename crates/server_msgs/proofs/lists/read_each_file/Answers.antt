use Rattle.std.proofs.Common.{◌≡◌, ◌++◌, ◌∷◌, []}
use Rattle.server_msgs.specs.Lists.{each_from, file_at}
use Rattle.server_msgs.proofs.Each.{goes_on, stops, is_done}
use Rattle.server_msgs.proofs.lists.read_each_file.Goals as goal

pub returns-in-Err : goal.returns-in-Err
returns-in-Err c = stops (file_at c.args.end) c.in-Err.fault c.loop.files.items c.args.count c.loop.counter c.loop.rest.now (each_from (file_at c.args.end) c.args.count c.args.bytes.now) c.loop-test.true c.in-Err.ensures c.loop.invariant

pub loop-preserved : goal.loop-preserved
loop-preserved c =
    let e : c.push.new.self.items ≡ c.loop.files.items ++ c.in-Ok.file ∷ [] = c.in_ok-push-in-Ok.ensures.items in
    rw e (goes_on (file_at c.args.end) c.loop.files.items c.args.count c.loop.counter c.loop.rest.now c.in-Ok.file c.in-Ok.after.now (each_from (file_at c.args.end) c.args.count c.args.bytes.now) c.loop-test.true c.in-Ok.ensures c.loop.invariant)

pub returns : goal.returns
returns c = is_done (file_at c.args.end) c.loop.files.items c.args.count c.loop.counter c.loop.rest.now (each_from (file_at c.args.end) c.args.count c.args.bytes.now) c.loop-test.false c.loop.invariant
