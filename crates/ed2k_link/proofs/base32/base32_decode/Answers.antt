use Rattle.std.proofs.Common.{◌∙◌, sym}
use Rattle.ed2k_link.proofs.Letters.{spells_from_number}
use Rattle.ed2k_link.proofs.base32.base32_decode.Goals as goal

pub returns-then-is_letters : goal.returns-then-is_letters
returns-then-is_letters c =
    spells_from_number c.args.text.now c.bytes_of.result c.if-text-eq32.true (sym c.is_letters.ensures ∙ c.if-is_letters.true)
    c.bytes_of.ensures.bytes c.bytes_of.ensures.count c.bytes_of.ensures.number
