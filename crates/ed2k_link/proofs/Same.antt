-- A text writes one link, and a text that writes a link has no fault.
use Rattle.std.proofs.Common.{◌≡◌, ◌∙◌, refl, sym, ap, subst, ℕ, true, List, [], ◌∷◌, map, drop, Option, Some, None, is_some}
use Rattle.percent_encoding.specs.Percent.{percent_decode}
use Rattle.ed2k_link.proofs.Letters.{spells_one}
use Rattle.ed2k_link.proofs.Lists.{hashes_pass}
use Rattle.ed2k_link.specs.Fields.{hash_of, AreParts, are_parts, IsRoot, is_root, WriteFields, field_fault, part_texts, root_texts}
use Rattle.ed2k_link.specs.Grammar.{Link, Write, item, items_of, item_fault, fault_of}
use Rattle.ed2k_link.specs.Name.{is_name}
use Rattle.ed2k_link.proofs.Reading.{printed_writes}
use Rattle.ed2k_link.specs.Printed.{printed, IsReadBack}
use Rattle.ed2k_link.specs.Same.{IsSame}
use Rattle.ed2k_link.specs.Size.{size_of}
use Rattle.ed2k_link.specs.declared.link.FileLink.{FileLink}

some_one : {X : Type 0} (a b : X) → Some a ≡ Some b → a ≡ b
some_one a b h = cc

map_some_one : (xs ys : List (List ℕ)) → map (λ x. Some x) xs ≡ map (λ x. Some x) ys → xs ≡ ys
map_some_one [] [] h = refl
map_some_one [] (y ∷ ys) h = absurd (cc)
map_some_one (x ∷ xs) [] h = absurd (cc)
map_some_one (x ∷ xs) (y ∷ ys) h =
    let here : x ≡ y = cc in
    let rest : map (λ z. Some z) xs ≡ map (λ z. Some z) ys = cc in
    rw (here, map_some_one xs ys rest) refl

parts_one : (texts a b : List (List ℕ)) → AreParts texts a → AreParts texts b → a ≡ b
parts_one [] a b h k = h ∙ sym k
parts_one (t ∷ []) a b h k = map_some_one a b (sym h ∙ k)
parts_one (t ∷ u ∷ texts) a b h k = absurd h

root_one : (texts : List (List ℕ)) (a b : Option (List ℕ)) → IsRoot texts a → IsRoot texts b → a ≡ b
root_one [] a b h k = h ∙ sym k
root_one (t ∷ []) None b h k = absurd h
root_one (t ∷ []) (Some r) None h k = absurd k
root_one (t ∷ []) (Some r) (Some s) h k = ap (λ x. Some x) (spells_one t r s h k)
root_one (t ∷ u ∷ texts) a b h k = absurd h

pub link_one : (text : List ℕ) (a b : FileLink) → Link text a → Link text b → IsSame a b
link_one text a b first second = record {
  same_name = sym first.items.file_name ∙ second.items.file_name;
  same_size = some_one a.size b.size (sym first.items.file_size ∙ second.items.file_size);
  same_hash = some_one a.hash b.hash (sym first.items.file_hash ∙ second.items.file_hash);
  same_parts = parts_one _ a.parts b.parts first.items.rest.part_hashes second.items.rest.part_hashes;
  same_root = root_one _ a.root b.root first.items.rest.root_hash second.items.rest.root_hash;
}

pub printed_same : (a b : FileLink) → IsSame a b → printed a ≡ printed b
printed_same a b same = rw (same.same_name, same.same_size, same.same_hash, same.same_parts, same.same_root) refl

-- what the grammar takes has no fault
parts_are : (texts parts : List (List ℕ)) → AreParts texts parts → are_parts texts ≡ true
parts_are [] parts h = refl
parts_are (t ∷ []) parts h = hashes_pass _ _ h
parts_are (t ∷ u ∷ texts) parts h = absurd h

root_is : (texts : List (List ℕ)) (root : Option (List ℕ)) → IsRoot texts root → is_root texts ≡ true
root_is [] root h = refl
root_is (t ∷ []) None h = absurd h
root_is (t ∷ []) (Some r) h = h.letters
root_is (t ∷ u ∷ texts) root h = absurd h

no_field_fault : (items : List (List ℕ)) (parts : List (List ℕ)) (root : Option (List ℕ)) → WriteFields items parts root → field_fault items ≡ None
no_field_fault items parts root h =
    rw (parts_are (part_texts items) parts h.part_hashes, root_is (root_texts items) root h.root_hash, h.ended) refl

no_item_fault : (items : List (List ℕ)) (link : FileLink) → Write items link → item_fault items ≡ None
no_item_fault items link h =
    let name : is_name (percent_decode (item items 0)) ≡ true = rw h.file_name link.is_named in
    let size : is_some (size_of (item items 1)) ≡ true = ap is_some h.file_size in
    let hash : is_some (hash_of (item items 2)) ≡ true = ap is_some h.file_hash in
    rw (name, size, hash) (no_field_fault (drop 3 items) link.parts link.root h.rest)

pub no_fault : (text : List ℕ) (link : FileLink) → Link text link → fault_of text ≡ None
no_fault text link h = rw h.begun (no_item_fault (items_of text) link h.items)

-- a text that is the printed form writes the link, and is what each link prints that it writes
pub text_writes : (text : List ℕ) (link : FileLink) → text ≡ printed link → IsReadBack link → Link text link
text_writes text link form back =
    subst (λ t. Link t link) (sym form) (printed_writes link back.name_bytes back.hash_text back.part_texts back.root_text)

pub text_alone : (text : List ℕ) (link : FileLink) → text ≡ printed link → IsReadBack link
    → (other : FileLink) → Link text other → IsSame other link
text_alone text link form back other reads = link_one text other link reads (text_writes text link form back)

pub text_fixed : (text : List ℕ) (link : FileLink) → text ≡ printed link → IsReadBack link
    → (other : FileLink) → Link text other → printed other ≡ text
text_fixed text link form back other reads = printed_same other link (text_alone text link form back other reads) ∙ sym form
