use Rattle.std.proofs.Common.{[], ◌∷◌, ◌++◌, ◌∙◌, ap}
use Rattle.std.specs.Prelude.{Option}
use Rattle.server_index.specs.Live.{File}
use Rattle.server_index.specs.Files.{file_at}
use Rattle.server_index.proofs.SweptLemmas.{swept_away}
use Rattle.server_index.proofs.offers.settle.Goals as goal

pub loop-spot-preserved-in-Some-old : goal.loop-spot-preserved-in-Some-old
loop-spot-preserved-in-Some-old c = (
  c.withdraw.ensures.listed,
  swept_away (file_at c.args.live.now.entries) _ _ c.loop-spot.gone.items c.pop.new.self.items c.in-Some.spot c.in-Some-old.file
      (c.in-Some.ensures.items ∙ ap (λ (o : Option File). c.pop.new.self.items ++ (c.in-Some.spot, o) ∷ []) c.in-Some-old.is)
      c.withdraw.ensures.fewer (rw c.name.ensures at c.withdraw.ensures.gone) c.loop-spot.invariant.1,
)
