use Rattle.std.proofs.Common.{arith}
use Rattle.ed2k_tags.specs.TagLaws.{is_found, is_read}
use Rattle.ed2k_tags.proofs.read.tags_at.Goals as goal

pub returns-clause-found : goal.returns-clause-found
returns-clause-found c = is_found c.args.end c.args.bytes.now c.read_list.result (λ i. omega (arith, c.type_inv.bytes i)) c.read_list.ensures

pub returns-clause-only : goal.returns-clause-only
returns-clause-only c = λ tags text rest h e. is_read c.args.end c.args.bytes.now c.read_list.result tags text rest c.read_list.ensures h e
