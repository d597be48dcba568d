-- Values behind a key, and hashes, of a list as far as it was read.
use Rattle.std.proofs.Common.{◌≡◌, ◌∙◌, refl, sym, ap, ℕ, zero, suc, ◌+◌, ◌<◌, Bool, true, false, ◌||◌, arith, List, [], ◌∷◌, ◌++◌, map, length, take, get_or, Option, Some, None, MatchOption, is_some, append_assoc, append-nil, ◌≤◌}
use Rattle.std.proofs.lemmas.List.{take_more, take-map, get_or-map, take_all}
use Rattle.std.proofs.lemmas.List.Elements.{filter_map-append}
use Rattle.std.proofs.lemmas.List.Folds.{list_all_at}
use Rattle.std.specs.Borrow.{Bor}
use Rattle.std.specs.List.{filter_map, list_all, list_any, before_first, position_or_len, join_with_byte}
use Rattle.std.specs.Option.{option_map, option_to_list}
use Rattle.ed2k_link.specs.Fields.{hash_of, is_hash}
use Rattle.ed2k_link.specs.Items.{values, texts, is_end}
use Rattle.ed2k_link.specs.Prefix.{after_prefix}
use Rattle.ed2k_link.specs.Fields.{IsFound}
use Rattle.ed2k_link.specs.declared.fields.Found.{Found}

pub map_app : {X Y : Type 0} (f : X → Y) (xs ys : List X) → map f (xs ++ ys) ≡ map f xs ++ map f ys
map_app f [] ys = refl
map_app f (x ∷ xs) ys = ap (λ zs. f x ∷ zs) (map_app f xs ys)

pub map_more : {X Y : Type 0} (f : X → Y) (xs : List X) (i : ℕ) (d : X) → i < length xs
    → map f (take (i + 1) xs) ≡ map f (take i xs) ++ f (get_or xs i d) ∷ []
map_more f xs i d h = rw (take_more xs i d h) (map_app f (take i xs) (get_or xs i d ∷ []))

filter_map_one : (key text : List ℕ) → filter_map (after_prefix key) (text ∷ []) ≡ option_to_list (after_prefix key text)
filter_map_one key text = elim (after_prefix key text) as (λ o. filter_map (λ x. o) (text ∷ []) ≡ option_to_list o) [
  | None ↦ refl
  | Some x ↦ refl
]

pub values_more : (key : List ℕ) (fields : List (Bor (List ℕ))) (i : ℕ) (d : Bor (List ℕ)) → i < length fields
    → values key (texts (take (i + 1) fields)) ≡ values key (texts (take i fields)) ++ option_to_list (after_prefix key (get_or fields i d).now)
values_more key fields i d h =
    rw (map_more (λ (item : Bor (List ℕ)). item.now) fields i d h)
    (filter_map-append (after_prefix key) (texts (take i fields)) ((get_or fields i d).now ∷ [])
    ∙ ap (λ vs. values key (texts (take i fields)) ++ vs) (filter_map_one key (get_or fields i d).now))

pub find_more : (key : List ℕ) (fields : List (Bor (List ℕ))) (i : ℕ) (d : Bor (List ℕ)) (next : Found) (r : Option (Bor (List ℕ)))
    → i < length fields → option_map (λ (x : Bor (List ℕ)). x.now) r ≡ after_prefix key (get_or fields i d).now
    → IsFound (values key (texts (take i fields)) ++ option_to_list (option_map (λ (x : Bor (List ℕ)). x.now) r)) next
    → IsFound (values key (texts (take (i + 1) fields))) next
find_more key fields i d next r within value found = rw (values_more key fields i d within, ← value) found

pub shown_is : (r : Option (Bor (List ℕ))) (o : Option (List ℕ)) → MatchOption r (o ≡ None) (λ x. o ≡ Some x.now)
    → option_map (λ (x : Bor (List ℕ)). x.now) r ≡ o
shown_is None o h = sym h
shown_is (Some x) o h = sym h

pub hashes_pass : (texts : List (List ℕ)) (hashes : List (List ℕ)) → map hash_of texts ≡ map Some hashes → list_all is_hash texts ≡ true
hashes_pass [] hashes h = refl
hashes_pass (text ∷ texts) [] h = cc
hashes_pass (text ∷ texts) (hash ∷ hashes) h =
    let here : hash_of text ≡ Some hash = cc in
    let rest : map hash_of texts ≡ map Some hashes = cc in
    rw (ap is_some here, hashes_pass texts hashes rest) refl

neither : (a b : Bool) → (a || b) ≡ false → (a ≡ false) × (b ≡ false)
neither true b h = absurd (cc)
neither false b h = (refl, h)

-- the first that passes is where the front before it has none
pub first_at : {X : Type 0} (p : X → Bool) (xs : List X) (i : ℕ) (d : X) → i < length xs → list_any p (take i xs) ≡ false
    → p (get_or xs i d) ≡ true → (take i xs ≡ before_first p xs) × (list_any p xs ≡ true)
first_at p [] i d low none here = absurd (omega arith)
first_at p (x ∷ xs) zero d low none here = (rw here refl, rw here refl)
first_at p (x ∷ xs) (suc i) d low none here =
    let parts = neither (p x) (list_any p (take i xs)) none in
    let less : i < length xs = omega arith in
    let rest = first_at p xs i d less parts.1 here in
    let step : position_or_len p (x ∷ xs) ≡ suc (position_or_len p xs) = rw parts.0 (omega arith) in
    (rw (step, rest.0) refl, rw (parts.0, rest.1) refl)

-- where none passes, all stand before the first
pub before_none : {X : Type 0} (p : X → Bool) (xs : List X) → list_any p xs ≡ false → xs ≡ before_first p xs
before_none p [] none = refl
before_none p (x ∷ xs) none =
    let parts = neither (p x) (list_any p xs) none in
    let step : position_or_len p (x ∷ xs) ≡ suc (position_or_len p xs) = rw parts.0 (omega arith) in
    rw step (ap (λ ys. x ∷ ys) (before_none p xs parts.1))

length_texts : (items : List (Bor (List ℕ))) → length (texts items) ≡ length items
length_texts [] = refl
length_texts (x ∷ items) = ap suc (length_texts items)

pub first_text : (items : List (Bor (List ℕ))) (i : ℕ) (d : Bor (List ℕ)) → i < length items → list_any is_end (texts (take i items)) ≡ false
    → is_end (get_or items i d).now ≡ true → (texts (take i items) ≡ before_first is_end (texts items)) × (list_any is_end (texts items) ≡ true)
first_text items i d within none here =
    let front : take i (texts items) ≡ texts (take i items) = take-map (λ (x : Bor (List ℕ)). x.now) i items in
    let at_place : get_or (texts items) i [] ≡ (get_or items i d).now = get_or-map (λ (x : Bor (List ℕ)). x.now) items i d [] within in
    let inside : i < length (texts items) = rw (length_texts items) within in
    let first = first_at is_end (texts items) i [] inside (rw front none) (rw at_place here) in
    (sym front ∙ first.0, first.1)

pub no_end : (items : List (Bor (List ℕ))) (i : ℕ) → length items ≤ i → list_any is_end (texts (take i items)) ≡ false
    → texts items ≡ before_first is_end (texts items)
no_end items i all none = before_none is_end (texts items) (rw (take_all i items all) at none)

pub hashes_more : (pieces : List (Bor (List ℕ))) (i : ℕ) (d : Bor (List ℕ)) (before after : List (List ℕ)) (hash : List ℕ) → i < length pieces
    → map hash_of (texts (take i pieces)) ≡ map Some before → hash_of (get_or pieces i d).now ≡ Some hash → after ≡ before ++ hash ∷ []
    → map hash_of (texts (take (i + 1) pieces)) ≡ map Some after
hashes_more pieces i d before after hash within same here more =
    ap (map hash_of) (map_more (λ (x : Bor (List ℕ)). x.now) pieces i d within)
    ∙ map_app hash_of (texts (take i pieces)) ((get_or pieces i d).now ∷ [])
    ∙ rw (same, here) (sym (rw more (map_app (λ x. Some x) before (hash ∷ []))))

pub hash_fails : (pieces : List (Bor (List ℕ))) (i : ℕ) (d : Bor (List ℕ)) → i < length pieces
    → hash_of (get_or pieces i d).now ≡ None → list_all is_hash (texts pieces) ≡ false
hash_fails pieces i d within none =
    let inside : i < length (texts pieces) = rw (length_texts pieces) within in
    let at_place : get_or (texts pieces) i [] ≡ (get_or pieces i d).now = get_or-map (λ (x : Bor (List ℕ)). x.now) pieces i d [] within in
    list_all_at is_hash (texts pieces) i [] inside (rw (at_place, none) refl)

-- one more behind the byte between
join_snoc : (c : ℕ) (x : List ℕ) (xs : List (List ℕ)) (y : List ℕ) → join_with_byte c ((x ∷ xs) ++ y ∷ []) ≡ (join_with_byte c (x ∷ xs) ++ c ∷ []) ++ y
join_snoc c x [] y = sym (append_assoc x (c ∷ []) y)
join_snoc c x (z ∷ zs) y =
    ap (λ rest. x ++ c ∷ rest) (join_snoc c z zs y) ∙ (simp append_assoc)

pub joined_first : (f : List ℕ → List ℕ) (hashes : List (List ℕ)) (i : ℕ) (d old before after : List ℕ) → i < length hashes → i ≡ 0
    → before ≡ old ++ join_with_byte 58 (map f (take i hashes)) → after ≡ before ++ f (get_or hashes i d)
    → after ≡ old ++ join_with_byte 58 (map f (take (i + 1) hashes))
joined_first f hashes i d old before after within none so_far more =
    let start : take i hashes ≡ [] = ap (λ k. take k hashes) none in
    rw (map_more f hashes i d within, start) (more ∙ (rw (so_far, start) (rw append-nil refl)))

regroup : (a b c d : List ℕ) → ((a ++ b) ++ c) ++ d ≡ a ++ ((b ++ c) ++ d)
regroup a b c d = simp append_assoc

pub joined_more : (f : List ℕ → List ℕ) (hashes : List (List ℕ)) (i : ℕ) (d old before middle after : List ℕ) → i < length hashes → 0 < i
    → before ≡ old ++ join_with_byte 58 (map f (take i hashes)) → middle ≡ before ++ 58 ∷ [] → after ≡ middle ++ f (get_or hashes i d)
    → after ≡ old ++ join_with_byte 58 (map f (take (i + 1) hashes))
joined_more f [] i d old before middle after within some so_far colon more = absurd (omega arith)
joined_more f (x ∷ hashes) zero d old before middle after within some so_far colon more = absurd (omega arith)
joined_more f (x ∷ hashes) (suc i) d old before middle after within some so_far colon more =
    let last = f (get_or (x ∷ hashes) (suc i) d) in
    let front = join_with_byte 58 (f x ∷ map f (take i hashes)) in
    let whole = join_snoc 58 (f x) (map f (take i hashes)) last in
    rw (map_more f (x ∷ hashes) (suc i) d within)
    (more ∙ ap (λ xs. xs ++ last) (colon ∙ ap (λ xs. xs ++ 58 ∷ []) so_far)
    ∙ regroup old front (58 ∷ []) last ∙ ap (λ rest. old ++ rest) (sym whole))
