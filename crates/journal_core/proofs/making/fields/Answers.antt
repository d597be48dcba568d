use Rattle.journal_core.proofs.Fielding.{fields-none, fields-some}
use Rattle.journal_core.proofs.making.fields.Goals as goal

pub returns-in-Some : goal.returns-in-Some
returns-in-Some c =
    fields-some c.args.header.now c.write_u64.new.buf c.copy_from_slice.new.self c.in-Some.root c.copy_from_slice-in-Some.new.self c.requires.size c.in-Some.is
    c.write_u64.ensures c.copy_from_slice.ensures.after c.copy_from_slice.ensures.len c.copy_from_slice-in-Some.ensures.after c.copy_from_slice-in-Some.ensures.len

pub returns-in_default : goal.returns-in_default
returns-in_default c =
    fields-none c.args.header.now c.write_u64.new.buf c.copy_from_slice.new.self c.requires.size c.in_default.is
    c.write_u64.ensures c.copy_from_slice.ensures.after c.copy_from_slice.ensures.len
