use Rattle.std.proofs.Common.{◌∙◌, ℕ, List, sym, subst}
use Rattle.part_sizes.specs.declared.span.Span.{Span}
use Rattle.journal_core.specs.Records.{Spells}
use Rattle.journal_core.specs.declared.record.Record.{Record}
use Rattle.journal_core.specs.declared.record.Record.TheVariants.{Filled, Set}
use Rattle.journal_core.proofs.Spelled.{spells-filled, spells-set}
use Rattle.journal_core.proofs.spelling.spell.Goals as goal

pub returns-in_ok-spell_set-in-Set : goal.returns-in_ok-spell_set-in-Set
returns-in_ok-spell_set-in-Set c =
    let done = c.in_ok-spell_set-in-Set.ensures in
    let spelled : Spells (Set c.as_slice.result.now) c.new.result = spells-set c.as_slice.result.now c.new.result done.hashes done.few (c.new.ensures ∙ done.written) in
    let same : Spells (Set c.in-Set.set) c.new.result = subst (λ (q : List (List ℕ)). Spells (Set q) c.new.result) c.as_slice.ensures spelled in
    subst (λ (r : Record). Spells r c.new.result) (sym c.in-Set.is) same

pub returns-in_ok-spell_filled-in-Filled : goal.returns-in_ok-spell_filled-in-Filled
returns-in_ok-spell_filled-in-Filled c =
    let done = c.in_ok-spell_filled-in-Filled.ensures in
    let now = c.as_slice-in-Filled.result.now in
    let bytes = c.new-in-Filled.result in
    let spelled : Spells (Filled now) bytes = spells-filled now bytes done.spans done.few (c.new-in-Filled.ensures ∙ done.written) in
    let same : Spells (Filled c.in-Filled.spans) bytes = subst (λ (q : List Span). Spells (Filled q) bytes) c.as_slice-in-Filled.ensures spelled in
    subst (λ (r : Record). Spells r bytes) (sym c.in-Filled.is) same
