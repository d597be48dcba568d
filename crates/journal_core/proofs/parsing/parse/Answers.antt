use Rattle.std.proofs.Common.{ℕ, List, subst}
use Rattle.journal_core.specs.Walks.{IsWalked}
use Rattle.journal_core.proofs.Assembled.{is-loaded, stops-at}
use Rattle.journal_core.proofs.Steps.{rest-whole}
use Rattle.journal_core.proofs.parsing.parse.Goals as goal

pub returns-in-Whole-clause-read : goal.returns-in-Whole-clause-read
returns-in-Whole-clause-read c kept =
    let log = c.args.log.now in
    let h = c.in-Ok.header in
    let walked = subst (λ (l : List ℕ). IsWalked h l c.in_ok-records.field-0) (rest-whole log 54) c.in_ok-records.ensures in
    let found = rw c.in-Whole.is at walked in
    is-loaded log h c.in-Whole.records.items c.in-Whole.at (c.in-Ok.ensures.read kept) c.in-Ok.ensures.long found.0 found.1

pub returns-in-Broken-clause-read : goal.returns-in-Broken-clause-read
returns-in-Broken-clause-read c kept =
    let log = c.args.log.now in
    let h = c.in-Ok.header in
    let walked = subst (λ (l : List ℕ). IsWalked h l c.in_ok-records.field-0) (rest-whole log 54) c.in_ok-records.ensures in
    let found = rw c.in-Broken.is at walked in
    stops-at log h found.0 c.in-Broken.at (c.in-Ok.ensures.read kept) c.in-Ok.ensures.long found.1 found.2
