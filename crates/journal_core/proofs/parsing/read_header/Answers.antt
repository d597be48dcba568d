use Rattle.std.proofs.Common.{◌∙◌, ℕ, List, take, ap, subst, arith}
use Rattle.journal_core.specs.Headers.{IsRoot}
use Rattle.journal_core.specs.declared.header.Header.{Header}
use Rattle.journal_core.proofs.Heads.{is-head, size-is}
use Rattle.journal_core.proofs.Steps.{rest-whole}
use Rattle.journal_core.proofs.parsing.read_header.Goals as goal

pub returns-clause-read : goal.returns-clause-read
returns-clause-read c kept =
    let log = c.args.log.now in
    let h : Header = record { size = c.read_u64-size.result; hash = c.read_hash.result; root = c.read_root.result } in
    is-head log h kept (omega arith) (omega arith, omega arith) (size-is log h.size c.read_u64-size.ensures)
    (c.read_hash.ensures ∙ ap (take 16) (rest-whole log 17))
    (subst (λ (l : List ℕ). IsRoot h.root (take 21 l)) (rest-whole log 33) c.read_root.ensures)
