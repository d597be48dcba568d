-- A tag that is spelled is read again, and what is read as a tag is spelled so.
use Rattle.std.proofs.Common.{◌≡◌, ◌≢◌, ℕ, zero, suc, ◌+◌, ◌-◌, ◌≤◌, ◌%◌, Bool, true, false, cond, ltb, List, [], ◌∷◌, ◌++◌, length, take, drop, Bor, Option, Some, None, Result, Ok, Err, refl, sym, ap, subst, ◌∙◌, append_assoc, arith, inl, inr}
use Rattle.std.specs.Global.{Vec}
use Rattle.std.specs.Prelude.{IfOk}
use Rattle.std.proofs.lemmas.List.{drop_at, length-append, length-drop, drop-drop, take_all}
use Rattle.std.proofs.lemmas.Bool.{cases_lt, ltb-false, le-ltb, lt-ltb}
use Rattle.byteorder.specs.Endian.{little_bytes}
use Rattle.ed2k_tags.specs.declared.read.TheConstants.{TAG_LIMIT}
use Rattle.ed2k_tags.specs.declared.fault.Stop.{Stop}
use Rattle.ed2k_tags.specs.declared.fault.Stop.TheVariants as stops
use Rattle.ed2k_tags.specs.declared.fault.TagFault.{TagFault}
use Rattle.ed2k_tags.specs.declared.fault.TagFault.TheVariants.{TooMany, Cut, NoMemory}
use Rattle.ed2k_tags.specs.declared.layout.Layout.{Layout}
use Rattle.ed2k_tags.specs.declared.layout.Layout.TheVariants.{Hash, LongText, Four, Raw, Unread, Two, One, Eight, BareText}
use Rattle.ed2k_tags.specs.declared.tag.Tag.{Tag}
use Rattle.ed2k_tags.specs.declared.tag.Value.{Value}
use Rattle.ed2k_tags.specs.declared.tag.Value.TheVariants.{Id, Text, Number, Raw4, Blob}
use Rattle.ed2k_tags.specs.Fields.{number_at, bytes_at, counted_at, made, or}
use Rattle.ed2k_tags.specs.Grammar.{IsValue, IsName, IsTag, AreTags, IsTagList}
use Rattle.ed2k_tags.specs.Layout.{layout_of, short_bit}
use Rattle.ed2k_tags.specs.Reading.{◌>>=◌, Gives, name_at, value_at, tag_at, at_place, tags_from, list_at}
use Rattle.ed2k_tags.specs.FieldLaws.{IsBytes, number_again, bytes_again, counted_again, Takes, one, two, four, eight, number_takes, bytes_takes, counted_takes, made_some}

-- ---- what is spelled is read again

value_again : (layout : Layout) (value : Value) (text rest : List ℕ) → IsValue layout value text → value_at layout (text ++ rest) ≡ Some (value, rest)
value_again Hash (Id hash) text rest h = ap (λ (x : List ℕ). value_at Hash (x ++ rest)) h.1 ∙ ap (made Id) (bytes_again 16 hash rest h.0)
value_again LongText (Text t) text rest h = ap (λ (x : List ℕ). value_at LongText (x ++ rest)) h.1 ∙ ap (made Text) (counted_again 2 t rest h.0)
value_again (BareText count) (Text t) text rest h = ap (λ (x : List ℕ). value_at (BareText count) (x ++ rest)) h.1 ∙ ap (made Text) (bytes_again count t rest h.0)
value_again One (Number n) text rest h = ap (λ (x : List ℕ). value_at One (x ++ rest)) h.1 ∙ ap (made Number) (number_again 1 n rest h.0)
value_again Two (Number n) text rest h = ap (λ (x : List ℕ). value_at Two (x ++ rest)) h.1 ∙ ap (made Number) (number_again 2 n rest h.0)
value_again Four (Number n) text rest h = ap (λ (x : List ℕ). value_at Four (x ++ rest)) h.1 ∙ ap (made Number) (number_again 4 n rest h.0)
value_again Eight (Number n) text rest h = ap (λ (x : List ℕ). value_at Eight (x ++ rest)) h.1 ∙ ap (made Number) (number_again 8 n rest h.0)
value_again Raw (Raw4 raw) text rest h = ap (λ (x : List ℕ). value_at Raw (x ++ rest)) h.1 ∙ ap (made Raw4) (bytes_again 4 raw rest h.0)
value_again Unread (Blob blob) text rest h = ap (λ (x : List ℕ). value_at Unread (x ++ rest)) h.1 ∙ ap (made Blob) (counted_again 4 blob rest h.0)
value_again _ _ text rest h = absurd h

name_again : (first : ℕ) (name text rest : List ℕ) → IsName first name text → name_at first (text ++ rest) ≡ Some (name, rest)
name_again first name text rest (inl h) =
    let short : ltb first short_bit ≡ true = lt-ltb _ _ h.0 in
    rw short (ap (λ (x : List ℕ). counted_at 2 (x ++ rest)) h.1.1 ∙ counted_again 2 name rest h.1.0)
name_again first name text rest (inr h) =
    let long : ltb first short_bit ≡ false = le-ltb _ _ h.0 in
    rw long (ap (λ (x : List ℕ). bytes_at 1 (x ++ rest)) h.1.1 ∙ bytes_again 1 name rest h.1.0)

first_again : (first : ℕ) (rest : List ℕ) → number_at 1 (first ∷ rest) ≡ Some (first, rest)
first_again first rest =
    let long : ltb (length (first ∷ rest)) 1 ≡ false = le-ltb _ _ (omega arith) in
    rw long (ap (λ (n : ℕ). Some (n, rest)) (omega arith))

pub tag_again : (tag : Tag) (text rest : List ℕ) → IsTag tag text → tag_at (text ++ rest) ≡ Ok (tag, rest)
unfolding tag_at
tag_again tag text rest h =
    let whole : text ++ rest ≡ h.first ∷ (h.name ++ (h.value ++ rest)) = ap (λ (x : List ℕ). x ++ rest) h.spelled ∙ ap (λ (x : List ℕ). h.first ∷ x) (append_assoc h.name h.value rest) in
    ap tag_at whole
    ∙ rw (first_again h.first (h.name ++ (h.value ++ rest)), h.typed, name_again h.first tag.name h.name (h.value ++ rest) h.named, value_again h.layout tag.value h.value rest h.valued) refl

pub tags_again : (end : ℕ) (tags : List Tag) (text rest : List ℕ) → AreTags tags text → tags_from end (length tags) (text ++ rest) ≡ Ok (tags, rest)
unfolding tags_from
tags_again end [] text rest h = ap (λ (x : List ℕ). tags_from end 0 (x ++ rest)) h
tags_again end (tag ∷ tags) text rest h =
    let whole : text ++ rest ≡ h.0 ++ (h.1 ++ rest) = ap (λ (x : List ℕ). x ++ rest) h.4 ∙ append_assoc h.0 h.1 rest in
    ap (tags_from end (suc (length tags))) whole
    ∙ rw (tag_again tag h.0 (h.1 ++ rest) h.2, tags_again end tags h.1 rest h.3) refl

pub list_again : (end : ℕ) (tags : List Tag) (text rest : List ℕ) → IsTagList tags text → list_at end (text ++ rest) ≡ Ok (tags, rest)
unfolding list_at
list_again end tags text rest h =
    let few : ltb TAG_LIMIT (length tags) ≡ false = le-ltb _ _ h.count in
    let whole : text ++ rest ≡ little_bytes 4 (length tags) ++ (h.body ++ rest) = ap (λ (x : List ℕ). x ++ rest) h.spelled ∙ append_assoc (little_bytes 4 (length tags)) h.body rest in
    ap (list_at end) whole
    ∙ rw (number_again 4 (length tags) (h.body ++ rest) (omega (arith, h.count)), few) (tags_again end tags h.body rest h.each)

-- ---- what is read is spelled so

value_takes : (layout : Layout) (bytes : List ℕ) (value : Value) (rest : List ℕ) → IsBytes bytes → value_at layout bytes ≡ Some (value, rest) → Takes (IsValue layout value) bytes rest
value_takes Hash bytes value rest fits e =
    let a = made_some Id (bytes_at 16 bytes) value rest e in
    subst (λ (v : Value). Takes (IsValue Hash v) bytes rest) a.2 (bytes_takes 16 bytes a.0 rest fits a.1)
value_takes LongText bytes value rest fits e =
    let a = made_some Text (counted_at 2 bytes) value rest e in
    subst (λ (v : Value). Takes (IsValue LongText v) bytes rest) a.2 (counted_takes 2 two bytes a.0 rest fits a.1)
value_takes Four bytes value rest fits e =
    let a = made_some Number (number_at 4 bytes) value rest e in
    subst (λ (v : Value). Takes (IsValue Four v) bytes rest) a.2 (number_takes 4 four bytes a.0 rest fits a.1)
value_takes Raw bytes value rest fits e =
    let a = made_some Raw4 (bytes_at 4 bytes) value rest e in
    subst (λ (v : Value). Takes (IsValue Raw v) bytes rest) a.2 (bytes_takes 4 bytes a.0 rest fits a.1)
value_takes Unread bytes value rest fits e =
    let a = made_some Blob (counted_at 4 bytes) value rest e in
    subst (λ (v : Value). Takes (IsValue Unread v) bytes rest) a.2 (counted_takes 4 four bytes a.0 rest fits a.1)
value_takes Two bytes value rest fits e =
    let a = made_some Number (number_at 2 bytes) value rest e in
    subst (λ (v : Value). Takes (IsValue Two v) bytes rest) a.2 (number_takes 2 two bytes a.0 rest fits a.1)
value_takes One bytes value rest fits e =
    let a = made_some Number (number_at 1 bytes) value rest e in
    subst (λ (v : Value). Takes (IsValue One v) bytes rest) a.2 (number_takes 1 one bytes a.0 rest fits a.1)
value_takes Eight bytes value rest fits e =
    let a = made_some Number (number_at 8 bytes) value rest e in
    subst (λ (v : Value). Takes (IsValue Eight v) bytes rest) a.2 (number_takes 8 eight bytes a.0 rest fits a.1)
value_takes (BareText count) bytes value rest fits e =
    let a = made_some Text (bytes_at count bytes) value rest e in
    subst (λ (v : Value). Takes (IsValue (BareText count) v) bytes rest) a.2 (bytes_takes count bytes a.0 rest fits a.1)

name_takes : (first : ℕ) (bytes name rest : List ℕ) → IsBytes bytes → name_at first bytes ≡ Some (name, rest) → Takes (IsName first name) bytes rest
name_takes first bytes name rest fits e = elim (cases_lt first short_bit) [
  | inl lt ↦
      let short : ltb first short_bit ≡ true = lt-ltb _ _ lt in
      let found : counted_at 2 bytes ≡ Some (name, rest) = sym (ap (λ (b : Bool). cond b (counted_at 2 bytes) (bytes_at 1 bytes)) short) ∙ e in
      let t = counted_takes 2 two bytes name rest fits found in
      record { text = t.text; is = inl (lt, t.is); parts = t.parts; rest_fits = t.rest_fits }
  | inr le ↦
      let long : ltb first short_bit ≡ false = le-ltb _ _ le in
      let found : bytes_at 1 bytes ≡ Some (name, rest) = sym (ap (λ (b : Bool). cond b (counted_at 2 bytes) (bytes_at 1 bytes)) long) ∙ e in
      let t = bytes_takes 1 bytes name rest fits found in
      record { text = t.text; is = inr (le, t.is); parts = t.parts; rest_fits = t.rest_fits }
]

-- the value of a step that did not fail
bind_ok : {A B E : Type 0} (r : Result A E) (f : A → Result B E) (y : B) → (r >>= f) ≡ Ok y → (x : A) × (r ≡ Ok x) × (f x ≡ Ok y)
bind_ok (Ok x) f y e = (x, refl, e)
bind_ok (Err d) f y e = absurd cc

or_ok : {A E : Type 0} (refusal : E) (o : Option A) (x : A) → or refusal o ≡ Ok x → o ≡ Some x
or_ok refusal None x e = absurd cc
or_ok refusal (Some found) x e = ap (λ a. Some a) (ok_is refusal found x e)
  where
    ok_is : {A E : Type 0} (refusal : E) (x y : A) → or refusal (Some x) ≡ Ok y → x ≡ y
    ok_is refusal x y e = cc

done_is : {A : Type 0} (x y : A) → (let r : Result A Stop = Ok x in r) ≡ Ok y → x ≡ y
done_is x y e = cc

moved : (bytes : List ℕ) (x y : Tag × List ℕ) → x ≡ y → Takes (IsTag x.0) bytes x.1 → Takes (IsTag y.0) bytes y.1
moved bytes x y e taken = subst (λ (p : Tag × List ℕ). Takes (IsTag p.0) bytes p.1) e taken

pub tag_takes : (bytes : List ℕ) (tag : Tag) (rest : List ℕ) → IsBytes bytes → tag_at bytes ≡ Ok (tag, rest) → Takes (IsTag tag) bytes rest
unfolding tag_at
tag_takes bytes tag rest fits e =
    let a = bind_ok (or stops.Short (number_at 1 bytes)) (λ first. or (stops.BadType (first.0 % short_bit)) (layout_of (first.0 % short_bit)) >>= λ layout. or stops.Short (name_at first.0 first.1) >>= λ name. or stops.Short (value_at layout name.1) >>= λ value. Ok (record { name = name.0; value = value.0 }, value.1)) (tag, rest) e in
    let b = bind_ok (or (stops.BadType (a.0.0 % short_bit)) (layout_of (a.0.0 % short_bit))) (λ layout. or stops.Short (name_at a.0.0 a.0.1) >>= λ name. or stops.Short (value_at layout name.1) >>= λ value. Ok (record { name = name.0; value = value.0 }, value.1)) (tag, rest) a.2 in
    let n = bind_ok (or stops.Short (name_at a.0.0 a.0.1)) (λ name. or stops.Short (value_at b.0 name.1) >>= λ value. Ok (record { name = name.0; value = value.0 }, value.1)) (tag, rest) b.2 in
    let v = bind_ok (or stops.Short (value_at b.0 n.0.1)) (λ value. Ok (record { name = n.0.0; value = value.0 }, value.1)) (tag, rest) n.2 in
    let t0 = number_takes 1 one bytes a.0.0 a.0.1 fits (or_ok stops.Short (number_at 1 bytes) a.0 a.1) in
    let t1 = name_takes a.0.0 a.0.1 n.0.0 n.0.1 t0.rest_fits (or_ok stops.Short (name_at a.0.0 a.0.1) n.0 n.1) in
    let t2 = value_takes b.0 n.0.1 v.0.0 v.0.1 t1.rest_fits (or_ok stops.Short (value_at b.0 n.0.1) v.0 v.1) in
    let byte : little_bytes 1 a.0.0 ≡ a.0.0 ∷ [] = ap (λ (x : ℕ). x ∷ []) (omega (arith, t0.is.0)) in
    let whole : bytes ≡ (a.0.0 ∷ t1.text ++ t2.text) ++ v.0.1 =
    t0.parts ∙ ap (λ (x : List ℕ). x ++ a.0.1) (t0.is.1 ∙ byte) ∙ ap (λ (x : List ℕ). a.0.0 ∷ x) (t1.parts ∙ ap (λ (x : List ℕ). t1.text ++ x) t2.parts ∙ sym (append_assoc t1.text t2.text v.0.1)) in
    let made_tag : Tag = record { name = n.0.0; value = v.0.0 } in
    let taken : Takes (IsTag made_tag) bytes v.0.1 = record {
      text = a.0.0 ∷ t1.text ++ t2.text;
      is = record {
        first = a.0.0;
        layout = b.0;
        name = t1.text;
        value = t2.text;
        typed = or_ok (stops.BadType (a.0.0 % short_bit)) (layout_of (a.0.0 % short_bit)) b.0 b.1;
        is_byte = t0.is.0;
        named = t1.is;
        valued = t2.is;
        spelled = refl;
      };
      parts = whole;
      rest_fits = t2.rest_fits;
    } in
    let pair_is : (made_tag, v.0.1) ≡ (tag, rest) = done_is (made_tag, v.0.1) (tag, rest) v.2 in
    moved bytes (made_tag, v.0.1) (tag, rest) pair_is taken

-- the tags, as many as were counted
abbrev pub AreCounted : ℕ → List Tag → List ℕ → Type 0
AreCounted count tags text = AreTags tags text × (length tags ≡ count)

abbrev pairs_tags : List Tag → List ℕ → Result (List Tag × List ℕ) TagFault
pairs_tags tags rest = Ok (tags, rest)

tags_is : (x y : List Tag × List ℕ) → pairs_tags x.0 x.1 ≡ Ok y → x ≡ y
tags_is x y e = cc

tag_ok : (place : ℕ) (r : Result (Tag × List ℕ) Stop) (x : Tag × List ℕ) → at_place place r ≡ Ok x → r ≡ Ok x
tag_ok place (Ok y) x e = ap (λ (z : Tag × List ℕ). Ok z) (inner place y x e)
  where
    inner : (place : ℕ) (y x : Tag × List ℕ) → at_place place (Ok y) ≡ Ok x → y ≡ x
    inner place y x e = cc
tag_ok place (Err stop) x e = absurd cc

pub tags_takes : (end count : ℕ) (bytes : List ℕ) (x : List Tag × List ℕ) → IsBytes bytes → tags_from end count bytes ≡ Ok x → Takes (AreCounted count x.0) bytes x.1
unfolding tags_from
tags_takes end zero bytes x fits e =
    let none : Takes (AreCounted 0 []) bytes bytes = record { text = []; is = (refl, refl); parts = refl; rest_fits = fits } in
    subst (λ (y : List Tag × List ℕ). Takes (AreCounted 0 y.0) bytes y.1) (tags_is ([], bytes) x e) none
tags_takes end (suc count) bytes x fits e =
    let a = bind_ok (at_place (end - length bytes) (tag_at bytes)) (λ first. tags_from end count first.1 >>= λ others. Ok (first.0 ∷ others.0, others.1)) x e in
    let b = bind_ok (tags_from end count a.0.1) (λ others. Ok (a.0.0 ∷ others.0, others.1)) x a.2 in
    let t0 = tag_takes bytes a.0.0 a.0.1 fits (tag_ok (end - length bytes) (tag_at bytes) a.0 a.1) in
    let t1 = tags_takes end count a.0.1 b.0 t0.rest_fits b.1 in
    let both : Takes (AreCounted (suc count) (a.0.0 ∷ b.0.0)) bytes b.0.1 = record {
      text = t0.text ++ t1.text;
      is = ((t0.text, t1.text, t0.is, t1.is.0, refl), ap suc t1.is.1);
      parts = t0.parts ∙ ap (λ (r : List ℕ). t0.text ++ r) t1.parts ∙ sym (append_assoc t0.text t1.text b.0.1);
      rest_fits = t1.rest_fits;
    } in
    subst (λ (y : List Tag × List ℕ). Takes (AreCounted (suc count) y.0) bytes y.1) (tags_is (a.0.0 ∷ b.0.0, b.0.1) x b.2) both

guard_ok : {A : Type 0} (b : Bool) (d : TagFault) (r : Result A TagFault) (x : A) → cond b (Err d) r ≡ Ok x → (b ≡ false) × (r ≡ Ok x)
guard_ok true d r x e = absurd cc
guard_ok false d r x e = (refl, e)

pub list_takes : (end : ℕ) (bytes : List ℕ) (x : List Tag × List ℕ) → IsBytes bytes → list_at end bytes ≡ Ok x → Takes (IsTagList x.0) bytes x.1
unfolding list_at
list_takes end bytes x fits e =
    let a = bind_ok (or (Cut (end - length bytes)) (number_at 4 bytes)) (λ count. cond (ltb TAG_LIMIT count.0) (Err (TooMany count.0)) (tags_from end count.0 count.1)) x e in
    let g = guard_ok (ltb TAG_LIMIT a.0.0) (TooMany a.0.0) (tags_from end a.0.0 a.0.1) x a.2 in
    let few : a.0.0 ≤ TAG_LIMIT = ltb-false _ _ g.0 in
    let t0 = number_takes 4 four bytes a.0.0 a.0.1 fits (or_ok (Cut (end - length bytes)) (number_at 4 bytes) a.0 a.1) in
    let t1 = tags_takes end a.0.0 a.0.1 x t0.rest_fits g.1 in
    record {
      text = little_bytes 4 a.0.0 ++ t1.text;
      is = record {
        body = t1.text;
        count = subst (λ (k : ℕ). k ≤ TAG_LIMIT) (sym t1.is.1) few;
        each = t1.is.0;
        spelled = ap (λ (k : ℕ). little_bytes 4 k ++ t1.text) (sym t1.is.1);
      };
      parts = t0.parts ∙ ap (λ (t : List ℕ). t ++ a.0.1) t0.is.1 ∙ ap (λ (r : List ℕ). little_bytes 4 a.0.0 ++ r) t1.parts ∙ sym (append_assoc (little_bytes 4 a.0.0) t1.text x.1);
      rest_fits = t1.rest_fits;
    }

-- what a reader of a list answered, as what it found
abbrev pub view : Vec Tag × Bor (List ℕ) → List Tag × List ℕ
view x = (x.0.items, x.1.now)

pub is_found : (end : ℕ) (bytes : List ℕ) (r : Result (Vec Tag × Bor (List ℕ)) TagFault) → IsBytes bytes → Gives NoMemory view r (list_at end bytes) → IfOk r (λ x. (text : List ℕ) × IsTagList x.0.items text × (bytes ≡ text ++ x.1.now))
is_found end bytes (Ok x) fits given =
    let t = list_takes end bytes (view x) fits given in
    (t.text, t.is, t.parts)
is_found end bytes (Err fault) fits given = tt

pub is_read : (end : ℕ) (bytes : List ℕ) (r : Result (Vec Tag × Bor (List ℕ)) TagFault) (tags : List Tag) (text rest : List ℕ) → Gives NoMemory view r (list_at end bytes) → IsTagList tags text → bytes ≡ text ++ rest → Gives NoMemory view r (pairs_tags tags rest)
is_read end bytes r tags text rest given h e = subst (λ (f : Result (List Tag × List ℕ) TagFault). Gives NoMemory view r f) (ap (list_at end) e ∙ list_again end tags text rest h) given

-- the place after a list that was found
pub after_list : (bytes text rest : List ℕ) (at place : ℕ) → at ≤ length bytes → drop at bytes ≡ text ++ rest → place ≡ length bytes - length rest → (place ≡ at + length text) × (drop place bytes ≡ rest)
after_list bytes text rest at place within e is =
    let lengths : length bytes - at ≡ length text + length rest = sym (length-drop at bytes) ∙ ap length e ∙ length-append text rest in
    let whole : place ≡ at + length text = omega (arith, lengths, is, within) in
    let front : drop (length text) (drop at bytes) ≡ rest = ap (drop (length text)) e ∙ drop_at text rest (length text) refl in
    let joined : drop (length text) (drop at bytes) ≡ drop (at + length text) bytes = drop-drop (length text) at bytes ∙ ap (λ (k : ℕ). drop k bytes) (omega arith) in
    (whole, ap (λ (k : ℕ). drop k bytes) whole ∙ sym joined ∙ front)

-- what was found, by the place after it
pub found_place : (bytes after : List ℕ) (at place : ℕ) (tags : List Tag) → at ≤ length bytes → place ≡ length bytes - length after → (text : List ℕ) × IsTagList tags text × (drop at bytes ≡ text ++ after)
    → (text : List ℕ) × IsTagList tags text × (place ≡ at + length text) × (drop at bytes ≡ text ++ drop place bytes)
found_place bytes after at place tags within is found =
    let w = after_list bytes found.0 after at place within found.2 is in
    (found.0, found.1, w.0, found.2 ∙ ap (λ (r : List ℕ). found.0 ++ r) (sym w.1))

pub read_place : (bytes after : List ℕ) (at place : ℕ) (found tags : List Tag) (text rest : List ℕ) → at ≤ length bytes → place ≡ length bytes - length after → drop at bytes ≡ text ++ rest
    → pairs_tags tags rest ≡ pairs_tags found after → (tags ≡ found) × (at + length text ≡ place)
read_place bytes after at place found tags text rest within is e same =
    let pair : (tags, rest) ≡ (found, after) = tags_is (tags, rest) (found, after) same in
    let rest_is : rest ≡ after = ap (λ (x : List Tag × List ℕ). x.1) pair in
    let w = after_list bytes text after at place within (e ∙ ap (λ (r : List ℕ). text ++ r) rest_is) is in
    (ap (λ (x : List Tag × List ℕ). x.0) pair, sym w.0)

abbrev place_of : List Tag → ℕ → Result (List Tag × ℕ) TagFault
place_of tags place = Ok (tags, place)

pub same_place : (bytes after : List ℕ) (at place : ℕ) (found tags : List Tag) (text rest : List ℕ) → at ≤ length bytes → place ≡ length bytes - length after → drop at bytes ≡ text ++ rest
    → pairs_tags tags rest ≡ pairs_tags found after → place_of tags (at + length text) ≡ place_of found place
same_place bytes after at place found tags text rest within is e same =
    let w = read_place bytes after at place found tags text rest within is e same in
    ap (λ (ts : List Tag). place_of ts (at + length text)) w.0 ∙ ap (place_of found) w.1

-- what is read isn't refused
pub not_refused : (tags : List Tag) (rest : List ℕ) (place : ℕ) (fault : TagFault) → (fault ≢ NoMemory → pairs_tags tags rest ≡ Err fault) → fault ≢ NoMemory → place_of tags place ≡ Err fault
not_refused tags rest place fault h other = absurd (apart (h other))
  where
    apart : {tags : List Tag} {rest : List ℕ} {fault : TagFault} → pairs_tags tags rest ≡ Err fault → ⊥
    apart e = cc

-- the bytes from a place on, as the code cuts them
pub tail_is : (bytes : List ℕ) (at : ℕ) → take (length bytes - at) (drop at bytes) ≡ drop at bytes
tail_is bytes at = take_all (length bytes - at) (drop at bytes) (omega (arith, length-drop at bytes))

pub found_tail : (bytes after : List ℕ) (at : ℕ) (tags : List Tag) → (text : List ℕ) × IsTagList tags text × (take (length bytes - at) (drop at bytes) ≡ text ++ after)
    → (text : List ℕ) × IsTagList tags text × (drop at bytes ≡ text ++ after)
found_tail bytes after at tags found = (found.0, found.1, sym (tail_is bytes at) ∙ found.2)
