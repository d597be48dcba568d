use Rattle.std.proofs.Common.{◌++◌, take, drop, ap, sym, ◌∙◌, take-append-drop}
use Rattle.std.proofs.lemmas.List.{drop-drop}
use Rattle.ed2k_outside.proofs.mem_wire.take_from.Goals as goal

-- the bytes left are those that were read, and then the rest
pub returns-clause-bytes : goal.returns-clause-bytes
returns-clause-bytes c =
    let rest = drop c.args.taken c.args.input.now in
    let n = c.copy_from.result in
    sym (take-append-drop n rest) ∙ ap (λ bytes. bytes ++ drop n rest) (sym c.copy_from.ensures.content)
    ∙ ap (λ bytes. take n c.copy_from.new.buf ++ bytes) (drop-drop n c.args.taken c.args.input.now)
