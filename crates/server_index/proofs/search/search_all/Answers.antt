use Rattle.search_expr.specs.Query.{query}
use Rattle.server_index.specs.Asked.{asks}
use Rattle.server_index.proofs.FoundLemmas.{found_turn}
use Rattle.server_index.proofs.search.search_all.Goals as goal

pub loop-spot-preserved : goal.loop-spot-preserved
loop-spot-preserved c = (
  tt,
  tt,
  c.in_ok-consider.ensures.full,
  found_turn (asks (query c.args.expr.now)) c.args.after.now c.loop-spot.last c.consider.new.last c.loop-spot.out.items c.consider.new.out.items _ (c.in-Some.spot.now, c.in-Some.file.now) c.loop-spot.spot-iterator c.next.new.self
      c.in-Some.ensures.steps c.in_ok-consider.ensures.ok c.loop-spot.invariant.3,
)
