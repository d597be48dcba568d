use Rattle.std.proofs.Common.{arith, sym, ◌∙◌}
use Rattle.aich_packet.proofs.Pairs.{twice-here, twice-next}
use Rattle.aich_packet.proofs.judging.find_twice.Goals as goal

pub returns-then-have : goal.returns-then-have
returns-then-have c =
    let here = sym c.have.ensures ∙ c.if-have.true in
    sym (twice-here c.args.pairs.now c.loop-place.place _ (omega arith) here) ∙ c.loop-place.invariant

pub loop-place-preserved : goal.loop-place-preserved
loop-place-preserved c =
    let new = sym c.have.ensures ∙ c.if-have.false in
    sym (twice-next c.args.pairs.now c.loop-place.place _ (omega arith) new) ∙ c.loop-place.invariant
