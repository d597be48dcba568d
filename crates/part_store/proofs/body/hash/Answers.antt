use Rattle.std.proofs.Common.{◌∙◌, arith}
use Rattle.part_store.proofs.Bytes.{hashed-more}
use Rattle.part_store.proofs.body.hash.Goals as goal

pub reading-preserved : goal.reading-preserved
reading-preserved g c = record {
  above = omega arith;
  within = omega (arith, c.in_ok-n.ensures.bound);
  same = c.read_some.ensures.files ∙ c.reading.invariant.same;
  hashed = hashed-more _ _ _ _ _ _ _ _ c.reading.invariant.above c.read_some.ensures.files c.reading.invariant.hashed c.in_ok-n.ensures.content c.update.ensures;
  reads = omega (arith, c.in_ok-n.ensures.reads, c.reading.invariant.reads);
  made = omega (arith, c.read_some.ensures.made, c.reading.invariant.made);
  honest = c.read_some.ensures.honest ∙ c.reading.invariant.honest;
  placed = c.read_some.ensures.placed ∙ c.reading.invariant.placed;
  clean = c.in_ok-n.ensures.clean ∙ c.reading.invariant.clean;
}
