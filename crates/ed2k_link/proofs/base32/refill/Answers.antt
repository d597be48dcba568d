use Rattle.std.proofs.Common.{◌<◌, arith, length}
use Rattle.std.proofs.lemmas.Int.Digits.{number_more}
use Rattle.ed2k_link.proofs.Letters.{read_byte, read_low}
use Rattle.ed2k_link.proofs.base32.refill.Goals as goal

pub returns-clause-low : goal.returns-clause-low
returns-clause-low c =
    let small : c.from.result < 256 = omega (arith, c.from.ensures, c.fits-root c.args.old.next) in
    read_low c.args.old.count c.args.old.value c.from.result c.requires.low small

pub returns-clause-same : goal.returns-clause-same
returns-clause-same c = λ n h.
    let within : c.args.old.next < length c.args.root.now = omega (arith, c.requires.more c.if-old-ge5.false, c.told-root) in
    rw (number_more 256 c.args.root.now c.args.old.next within, ← c.from.ensures)
    (read_byte n c.args.old.count c.args.old.value c.from.result _ h)
