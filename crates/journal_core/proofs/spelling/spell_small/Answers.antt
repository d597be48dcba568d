use Rattle.std.proofs.Common.{ℕ, ◌∙◌, subst, sym, ap, List, ◌∷◌, ◌++◌, [], take, arith, length, ◌+◌}
use Rattle.byteorder.specs.Endian.{little_bytes}
use Rattle.journal_core.specs.Records.{HasFewBits, Spells, bitmap}
use Rattle.journal_core.specs.declared.record.Record.{Record}
use Rattle.journal_core.proofs.Spelled.{spells-recovered}
use Rattle.journal_core.proofs.spelling.spell_small.Goals as goal

pub returns-in-Recovered-clause-written : goal.returns-in-Recovered-clause-written
returns-in-Recovered-clause-written c =
    subst (λ (r : Record). Spells r (take c.put_small-in-Recovered.result.1 c.put_small-in-Recovered.result.0)) (sym c.in-Recovered.is)
    (spells-recovered c.in-Recovered.part c.in-Recovered.kept _ (omega arith) (subst HasFewBits c.in-Recovered.is c.requires.bits)
    (c.put_small-in-Recovered.ensures.written ∙ ap (λ (l : List ℕ). 4 ∷ (little_bytes 4 (2 + length l) ++ (little_bytes 2 c.in-Recovered.part ++ l)) ++ 0 ∷ []) (c.map_of.ensures ∙ ap bitmap c.as_slice.ensures)))
