-- A list of tags from left to right, and the first fault that stands in it.
use Rattle.std.specs.Prelude.{◌≡◌, ◌≢◌, ℕ, zero, suc, ◌-◌, ◌%◌, List, [], ◌∷◌, length, Option, Result, Ok, Err, nat_lt, if◌then◌else◌}
use Rattle.ed2k_tags.specs.declared.read.TheConstants.{TAG_LIMIT}
use Rattle.ed2k_tags.specs.declared.fault.Stop.{Stop}
use Rattle.ed2k_tags.specs.declared.fault.Stop.TheVariants as stops
use Rattle.ed2k_tags.specs.declared.fault.TagFault.{TagFault}
use Rattle.ed2k_tags.specs.declared.fault.TagFault.TheVariants.{TooMany, Cut, BadType, NoMemory}
use Rattle.ed2k_tags.specs.declared.layout.Layout.{Layout}
use Rattle.ed2k_tags.specs.declared.layout.Layout.TheVariants.{Hash, LongText, Four, Raw, Unread, Two, One, Eight, BareText}
use Rattle.ed2k_tags.specs.declared.tag.Tag.{Tag}
use Rattle.ed2k_tags.specs.declared.tag.Value.{Value}
use Rattle.ed2k_tags.specs.declared.tag.Value.TheVariants.{Id, Text, Number, Raw4, Blob}
use Rattle.ed2k_tags.specs.Fields.{number_at, bytes_at, counted_at, made, or}
use Rattle.ed2k_tags.specs.Layout.{layout_of, short_bit}

infixl 10 ◌>>=◌
abbrev pub ◌>>=◌ : {A B E : Type 0} → Result A E → (A → Result B E) → Result B E
(Ok x) >>= f = f x
(Err e) >>= f = Err e

-- What a function answered, seen by view, is what reading gives, unless memory was refused.
abbrev pub Gives : {X Y E : Type 0} → E → (X → Y) → Result X E → Result Y E → Type 0
Gives memory view (Ok x) read = read ≡ Ok (view x)
Gives memory view (Err e) read = e ≢ memory → read ≡ Err e

-- a value that is laid out so
abbrev pub value_at : Layout → List ℕ → Option (Value × List ℕ)
value_at Hash bytes = made Id (bytes_at 16 bytes)
value_at LongText bytes = made Text (counted_at 2 bytes)
value_at Four bytes = made Number (number_at 4 bytes)
value_at Raw bytes = made Raw4 (bytes_at 4 bytes)
value_at Unread bytes = made Blob (counted_at 4 bytes)
value_at Two bytes = made Number (number_at 2 bytes)
value_at One bytes = made Number (number_at 1 bytes)
value_at Eight bytes = made Number (number_at 8 bytes)
value_at (BareText count) bytes = made Text (bytes_at count bytes)

-- a name behind this first byte
abbrev pub name_at : ℕ → List ℕ → Option (List ℕ × List ℕ)
name_at first bytes = if nat_lt first short_bit then counted_at 2 bytes else bytes_at 1 bytes

-- a tag, whose type is judged before its name and its value
unfoldable pub tag_at : List ℕ → Result (Tag × List ℕ) Stop
tag_at bytes = do
  first ← or stops.Short (number_at 1 bytes)
  layout ← or (stops.BadType (first.0 % short_bit)) (layout_of (first.0 % short_bit))
  name ← or stops.Short (name_at first.0 first.1)
  value ← or stops.Short (value_at layout name.1)
  Ok (record { name = name.0; value = value.0 }, value.1)

-- why the tag at a place isn't read
abbrev pub placed : ℕ → Stop → TagFault
placed place stops.Short = Cut place
placed place (stops.BadType kind) = BadType kind
placed place stops.NoMemory = NoMemory

abbrev pub at_place : {A : Type 0} → ℕ → Result A Stop → Result A TagFault
at_place place (Ok x) = Ok x
at_place place (Err stop) = Err (placed place stop)

-- so many tags in bytes that end at a place
unfoldable pub tags_from : ℕ → ℕ → List ℕ → Result (List Tag × List ℕ) TagFault
tags_from end zero bytes = Ok ([], bytes)
tags_from end (suc count) bytes = do
  first ← at_place (end - length bytes) (tag_at bytes)
  others ← tags_from end count first.1
  Ok (first.0 ∷ others.0, others.1)

-- a count of four bytes, which the limit bounds, and as many tags, in bytes that end at a place
unfoldable pub list_at : ℕ → List ℕ → Result (List Tag × List ℕ) TagFault
list_at end bytes = do
  count ← or (Cut (end - length bytes)) (number_at 4 bytes)
  if nat_lt TAG_LIMIT count.0 then Err (TooMany count.0) else tags_from end count.0 count.1
