use Rattle.std.proofs.Common.{◌++◌, length, take}
use Rattle.std.specs.List.{flat_map}
use Rattle.std.proofs.lemmas.Result.{err_from_is_err_and}
use Rattle.std.proofs.Transfers.{starts_with_of_append, starts_with_trans}
use Rattle.byteorder.specs.Endian.{little_bytes}
use Rattle.ed2k_tags.specs.Spelling.{spell}
use Rattle.ed2k_tags.proofs.write.append_tags.Goals as goal

pub returns-in_err-append_tag-clause-refused : goal.returns-in_err-append_tag-clause-refused
returns-in_err-append_tag-clause-refused c =
    let front = starts_with_of_append c.loop-tag.out.items c.args.out.now.items (little_bytes 4 (length c.args.tags.now) ++ flat_map spell (take c.loop-tag.tag-index c.args.tags.now)) c.loop-tag.invariant in
    let p = err_from_is_err_and c.from_residual-in_err-append_tag.result c.from_residual-in_err-append_tag.ensures.1 in
    rw p.1 (starts_with_trans c.append_tag.new.out.items c.loop-tag.out.items c.args.out.now.items c.in_err-append_tag.ensures.refused front)
