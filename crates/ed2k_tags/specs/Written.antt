-- What is written is a spelling.
use Rattle.std.proofs.Common.{◌≡◌, ℕ, ◌^◌, ◌<◌, ◌%◌, Bool, true, false, ltb, List, [], ◌∷◌, length, Some, refl, arith, inl, inr, ◌&&◌}
use Rattle.std.specs.List.{flat_map, list_all, AllByRecursion}
use Rattle.std.proofs.lemmas.Bool.{cases_lt, le-ltb, ltb-true, lt-ltb}
use Rattle.std.proofs.lemmas.List.Concat.{flat_map-cons}
use Rattle.byteorder.specs.Endian.{little_bytes}
use Rattle.ed2k_tags.specs.declared.layout.Layout.{Layout}
use Rattle.ed2k_tags.specs.declared.layout.Layout.TheVariants.{Hash, LongText, Four, Raw, Unread, Eight}
use Rattle.ed2k_tags.specs.declared.tag.Tag.{Tag}
use Rattle.ed2k_tags.specs.declared.tag.Value.{Value}
use Rattle.ed2k_tags.specs.declared.tag.Value.TheVariants.{Id, Text, Number, Raw4, Blob}
use Rattle.ed2k_tags.specs.Grammar.{IsValue, IsTag, AreTags}
use Rattle.ed2k_tags.specs.Layout.{layout_of, short_bit}
use Rattle.ed2k_tags.specs.Laws.{IsTypedValue, IsTyped, WrittenIsSpelled}
use Rattle.ed2k_tags.specs.Fields.{counted}
use Rattle.ed2k_tags.specs.Spelling.{value_type, spell_value, spell, fits_value, has_spelling}

-- a value as it is written has the type that is written before it
record IsWritten (value : Value) (type : ℕ) (bytes : List ℕ) : Type 0 where
  layout : Layout
  typed : layout_of (type % short_bit) ≡ Some layout
  long : type < short_bit
  valued : IsValue layout value bytes

written_value : (value : Value) → IsTypedValue value → fits_value value ≡ true → IsWritten value (value_type value) (spell_value value)
written_value (Id hash) typed fits = record { layout = Hash; typed = refl; long = omega arith; valued = (typed, refl) }
written_value (Text text) typed fits = record { layout = LongText; typed = refl; long = omega arith; valued = (ltb-true _ _ fits, refl) }
written_value (Number n) typed fits = elim (cases_lt n (2 ^ 32)) [
  | inl lt ↦
      let small : ltb n (2 ^ 32) ≡ true = lt-ltb _ _ lt in
      let it : IsWritten (Number n) 0x03 (little_bytes 4 n) = record { layout = Four; typed = refl; long = omega arith; valued = (lt, refl) } in
      rw small it
  | inr le ↦
      let large : ltb n (2 ^ 32) ≡ false = le-ltb _ _ le in
      let it : IsWritten (Number n) 0x0B (little_bytes 8 n) = record { layout = Eight; typed = refl; long = omega arith; valued = (typed, refl) } in
      rw large it
]
written_value (Raw4 raw) typed fits = record { layout = Raw; typed = refl; long = omega arith; valued = (typed, refl) }
written_value (Blob blob) typed fits = record { layout = Unread; typed = refl; long = omega arith; valued = (ltb-true _ _ fits, refl) }

both : (a b : Bool) → (a && b) ≡ true → (a ≡ true) × (b ≡ true)
both true b e = (refl, e)
both false b e = absurd cc

written_tag : (tag : Tag) → IsTyped tag → has_spelling tag ≡ true → IsTag tag (spell tag)
written_tag tag typed fits =
    let parts = both (ltb (length tag.name) (2 ^ 16)) (fits_value tag.value) fits in
    let w = written_value tag.value typed parts.1 in
    record {
      first = value_type tag.value;
      layout = w.layout;
      name = counted 2 tag.name;
      value = spell_value tag.value;
      typed = w.typed;
      is_byte = omega (arith, w.long);
      named = inl (w.long, (ltb-true _ _ parts.0, refl));
      valued = w.valued;
      spelled = refl;
    }

written_tags : (tags : List Tag) → AllByRecursion IsTyped tags → list_all has_spelling tags ≡ true → AreTags tags (flat_map spell tags)
written_tags [] typed fits = refl
written_tags (tag ∷ tags) typed fits =
    let parts = both (has_spelling tag) (list_all has_spelling tags) fits in
    (spell tag, flat_map spell tags, written_tag tag typed.0 parts.0, written_tags tags typed.1 parts.1, flat_map-cons spell tag tags)

pub written_list : WrittenIsSpelled
written_list tags few typed fits = record { body = flat_map spell tags; count = few; each = written_tags tags typed fits; spelled = refl }
