use Rattle.std.proofs.Common.{◌<◌, arith}
use Rattle.std.proofs.lemmas.List.Elements.{All-from_get_or}
use Rattle.ed2k_link.proofs.print.print_name.Goals as goal

pub returns-clause-bytes : goal.returns-clause-bytes
returns-clause-bytes c = All-from_get_or (λ byte. byte < 256) c.args.name.now 0 (λ i within. omega (arith, c.type_inv.name i))
