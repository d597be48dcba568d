-- The types of tags, and how each lays out a value. The eMule Protocol Specification (Kulbak, Bickson,
-- 2005), on tags; eMule 0.50a for the later types.
use Rattle.std.specs.Prelude.{ℕ, ◌-◌, Option, Some, None, nat_le, ◌==◌, ◌&&◌, if◌then◌else◌}
use Rattle.ed2k_tags.specs.declared.layout.Layout.{Layout}
use Rattle.ed2k_tags.specs.declared.layout.Layout.TheVariants.{Hash, LongText, Four, Raw, Unread, Two, One, Eight, BareText}

abbrev pub layout_of : ℕ → Option Layout
layout_of kind =
    if kind == 0x01 then Some Hash
    else if kind == 0x02 then Some LongText
    else if kind == 0x03 then Some Four
    else if kind == 0x04 then Some Raw
    else if kind == 0x07 then Some Unread
    else if kind == 0x08 then Some Two
    else if kind == 0x09 then Some One
    else if kind == 0x0B then Some Eight
    else if nat_le 0x11 kind && nat_le kind 0x20 then Some (BareText (kind - 0x10))
    else None

-- the bit of a tag's first byte that says that its name is one byte; the others are the tag's type
abbrev pub short_bit : ℕ
short_bit = 0x80
