use Rattle.std.proofs.Common.{[], ◌∷◌}
use Rattle.std.proofs.lemmas.Grind.{replicate_next}
use Rattle.ed2k_bench.proofs.turns.Tally.note.Goals as goal

pub returns-then-self-lt18446744073709551615 : goal.returns-then-self-lt18446744073709551615
returns-then-self-lt18446744073709551615 c = (0 ∷ [], replicate_next c.args.self.now.turns 0)
