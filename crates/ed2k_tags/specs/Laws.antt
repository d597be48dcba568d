-- What holds of each tag, whatever writes and reads it.
use Rattle.std.specs.Prelude.{◌≡◌, ◌<◌, ◌≤◌, ◌^◌, List, length, true}
use Rattle.std.specs.List.{list_all, AllByRecursion}
use Rattle.ed2k_tags.specs.declared.read.TheConstants.{TAG_LIMIT}
use Rattle.ed2k_tags.specs.declared.tag.Tag.{Tag}
use Rattle.ed2k_tags.specs.declared.tag.Value.{Value}
use Rattle.ed2k_tags.specs.declared.tag.Value.TheVariants.{Id, Number, Raw4}
use Rattle.ed2k_tags.specs.Grammar.{IsTagList}
use Rattle.ed2k_tags.specs.Spelling.{has_spelling, spell_tags}

-- what the type of a value keeps
abbrev pub IsTypedValue : Value → Type 0
IsTypedValue (Id hash) = length hash ≡ 16
IsTypedValue (Number n) = n < 2 ^ 64
IsTypedValue (Raw4 raw) = length raw ≡ 4
IsTypedValue _ = Unit {0}

abbrev pub IsTyped : Tag → Type 0
IsTyped tag = IsTypedValue tag.value

-- what is written is a spelling, which is read again
abbrev pub WrittenIsSpelled : Type 0
WrittenIsSpelled =
    (tags : List Tag) → length tags ≤ TAG_LIMIT → AllByRecursion IsTyped tags → list_all has_spelling tags ≡ true →
    IsTagList tags (spell_tags tags)
