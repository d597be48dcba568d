-- A message that is written is read again.
use Rattle.std.proofs.Common.{◌≡◌, ℕ, zero, suc, ◌+◌, ◌-◌, ◌*◌, ◌/◌, ◌%◌, ◌^◌, ◌<◌, ◌≤◌, min, replicate, Bool, ◌&&◌, true, false, cond, eqb, ltb, List, [], ◌∷◌, ◌++◌, length, take, drop, get_or, Some, Ok, refl, sym, ap, ◌∙◌, append_assoc, arith, rules, inl, inr}
use Rattle.std.specs.List.{flat_map, AllByRecursion}
use Rattle.std.proofs.lemmas.List.{append-nil, take_at, length-append, take_all, get_or_append_left}
use Rattle.std.proofs.Math.Seq.{take-suc, drop-append-add, get_or-append_seam}
use Rattle.std.proofs.lemmas.Bool.{cases_lt, le-ltb, ltb-true, ne_eqb, eq-eqb}
use Rattle.std.proofs.lemmas.List.Concat.{flat_map-cons}
use Rattle.byteorder.specs.Endian.{little_bytes}
use Rattle.part_sizes.specs.declared.span.Span.{Span}
use Rattle.ed2k_tags.specs.Fields.{number_at, bytes_at, counted_at, counted}
use Rattle.ed2k_tags.specs.FieldLaws.{number_again, bytes_again, bytes_whole, counted_whole, four_is, two_is}
use Rattle.ed2k_tags.specs.Reading.{list_at}
use Rattle.ed2k_tags.specs.TagLaws.{list_again}
use Rattle.ed2k_tags.specs.Written.{written_list}
use Rattle.ed2k_tags.specs.Spelling.{spell_tags}
use Rattle.client_msgs.specs.declared.msg.Hello.{Hello}
use Rattle.client_msgs.specs.declared.msg.PeerMsg.{PeerMsg}
use Rattle.client_msgs.specs.declared.msg.PeerMsg.TheVariants as msgs
use Rattle.client_msgs.specs.Lists.{hashes_of, bit_at, bits_of, used}
use Rattle.client_msgs.specs.Reading.{hello_at, greeting, hello_answer, sending_part, request_parts, file_status, set_answer, name_answer, rank, aich_request, aich_answer, root_answer, of_hash, message}
use Rattle.client_msgs.specs.Spelling.{spell_hello, three, ranges, byte_of, bit_value, bitmap, bitmap_of, payload_of, counts_fit, HasForm, IsRange}
use Rattle.client_msgs.specs.Laws.{IsHash, IsRoot, IsTypedHello, IsTypedMsg, as_read, WrittenIsRead}

of_hash_again : (msg : List ℕ → PeerMsg) (hash : List ℕ) → IsHash hash → of_hash msg hash ≡ Ok (msg hash)
of_hash_again msg hash len = rw (bytes_whole 16 hash len) refl

-- a hello's fields, in bytes that end at a place
hello_again : (end : ℕ) (h : Hello) → IsTypedHello h → HasForm (msgs.Hello h) → counts_fit (msgs.Hello h) ≡ true → hello_at end (spell_hello h) ≡ Ok h
unfolding hello_at
hello_again end h t form fits =
    let regrouped : spell_hello h ≡ h.user ++ (little_bytes 4 h.id ++ (little_bytes 2 h.port ++ (spell_tags h.tags ++ (little_bytes 4 h.server_ip ++ little_bytes 2 h.server_port)))) = simp append_assoc in
    ap (hello_at end) regrouped
    ∙ rw (
      bytes_again 16 h.user (little_bytes 4 h.id ++ (little_bytes 2 h.port ++ (spell_tags h.tags ++ (little_bytes 4 h.server_ip ++ little_bytes 2 h.server_port)))) t.user,
      number_again 4 h.id (little_bytes 2 h.port ++ (spell_tags h.tags ++ (little_bytes 4 h.server_ip ++ little_bytes 2 h.server_port))) t.id,
      number_again 2 h.port (spell_tags h.tags ++ (little_bytes 4 h.server_ip ++ little_bytes 2 h.server_port)) t.port,
      list_again end h.tags (spell_tags h.tags) (little_bytes 4 h.server_ip ++ little_bytes 2 h.server_port) (written_list h.tags form t.tags fits),
      four_is h.server_ip t.server_ip,
      two_is h.server_port t.server_port,
    ) refl

first_again : (first : ℕ) (rest : List ℕ) → number_at 1 (first ∷ rest) ≡ Some (first, rest)
first_again first rest =
    let long : ltb (length (first ∷ rest)) 1 ≡ false = le-ltb _ _ (omega arith) in
    rw long (ap (λ (n : ℕ). Some (n, rest)) (omega arith))

greeting_again : (h : Hello) → IsTypedHello h → HasForm (msgs.Hello h) → counts_fit (msgs.Hello h) ≡ true → greeting (0x10 ∷ spell_hello h) ≡ Ok (msgs.Hello h)
unfolding greeting
greeting_again h t form fits = rw (first_again 0x10 (spell_hello h), hello_again (length (0x10 ∷ spell_hello h)) h t form fits) refl

hello_answer_again : (h : Hello) → IsTypedHello h → HasForm (msgs.Hello h) → counts_fit (msgs.Hello h) ≡ true → hello_answer (spell_hello h) ≡ Ok (msgs.HelloAnswer h)
unfolding hello_answer
hello_answer_again h t form fits = rw (hello_again (length (spell_hello h)) h t form fits) refl

sending_part_again : (hash : List ℕ) (start end : ℕ) (piece : List ℕ) → IsHash hash → start < 2 ^ 32 → end < 2 ^ 32 → end ≡ start + length piece
    → sending_part (hash ++ little_bytes 4 start ++ little_bytes 4 end ++ piece) ≡ Ok (msgs.SendingPart hash start end piece)
unfolding sending_part
sending_part_again hash start end piece th ts te form =
    let regrouped : hash ++ little_bytes 4 start ++ little_bytes 4 end ++ piece ≡ hash ++ (little_bytes 4 start ++ (little_bytes 4 end ++ piece)) = simp append_assoc in
    let fits : eqb end (start + length piece) ≡ true = eq-eqb end (start + length piece) form in
    ap sending_part regrouped
    ∙ rw (bytes_again 16 hash (little_bytes 4 start ++ (little_bytes 4 end ++ piece)) th, number_again 4 start (little_bytes 4 end ++ piece) ts, number_again 4 end piece te, fits) refl

name_again : (hash name : List ℕ) → IsHash hash → length name < 2 ^ 16 → name_answer (hash ++ counted 2 name) ≡ Ok (msgs.NameAnswer hash name)
unfolding name_answer
name_again hash name th lt = rw (bytes_again 16 hash (counted 2 name) th, counted_whole 2 name lt) refl

rank_again : (place : ℕ) (rest : List ℕ) → place < 2 ^ 16 → rank (little_bytes 2 place ++ rest) ≡ Ok (msgs.Rank place)
unfolding rank
rank_again place rest lt = rw (number_again 2 place rest lt) refl

aich_request_again : (hash : List ℕ) (part : ℕ) (root : List ℕ) → IsHash hash → part < 2 ^ 16 → IsRoot root → aich_request (hash ++ little_bytes 2 part ++ root) ≡ Ok (msgs.AichRequest hash part root)
unfolding aich_request
aich_request_again hash part root th tp tr =
    ap aich_request (append_assoc hash (little_bytes 2 part) root)
    ∙ rw (bytes_again 16 hash (little_bytes 2 part ++ root) th, number_again 2 part root tp, bytes_whole 20 root tr) refl

aich_answer_again : (hash : List ℕ) (part : ℕ) (root packet : List ℕ) → IsHash hash → part < 2 ^ 16 → IsRoot root → aich_answer (hash ++ little_bytes 2 part ++ root ++ packet) ≡ Ok (msgs.AichAnswer hash part root packet)
unfolding aich_answer
aich_answer_again hash part root packet th tp tr =
    let regrouped : hash ++ little_bytes 2 part ++ root ++ packet ≡ hash ++ (little_bytes 2 part ++ (root ++ packet)) = simp append_assoc in
    let more : eqb (length (little_bytes 2 part ++ (root ++ packet))) 0 ≡ false = ne_eqb _ _ (λ e. omega (arith, e)) in
    ap aich_answer regrouped
    ∙ rw (bytes_again 16 hash (little_bytes 2 part ++ (root ++ packet)) th, more, number_again 2 part (root ++ packet) tp, bytes_again 20 root packet tr) refl

aich_refused_again : (hash : List ℕ) → IsHash hash → aich_answer hash ≡ Ok (msgs.AichRefused hash)
unfolding aich_answer
aich_refused_again hash th = rw (bytes_whole 16 hash th) refl

root_again : (hash root : List ℕ) → IsHash hash → IsRoot root → root_answer (hash ++ root) ≡ Ok (msgs.RootAnswer hash root)
unfolding root_answer
root_again hash root th tr = rw (bytes_again 16 hash root th, bytes_whole 20 root tr) refl

-- ---- ranges

used_is : (s e : ℕ) → ¬ ((s ≡ 0) × (e ≡ 0)) → used s e ≡ record { s = s; e = e } ∷ []
used_is zero zero h = absurd (h (refl, refl))
used_is zero (suc e) h = let n : eqb (suc e) 0 ≡ false = ne_eqb (suc e) 0 (λ x. omega (arith, x)) in first_of (simp n, search rules)
used_is (suc s) e h = let n : eqb (suc s) 0 ≡ false = ne_eqb (suc s) 0 (λ x. omega (arith, x)) in first_of (simp n, search rules)

six_again : (hash : List ℕ) (s1 s2 s3 e1 e2 e3 : ℕ) → IsHash hash → s1 < 2 ^ 32 → s2 < 2 ^ 32 → s3 < 2 ^ 32 → e1 < 2 ^ 32 → e2 < 2 ^ 32 → e3 < 2 ^ 32
    → request_parts (hash ++ (three s1 s2 s3 ++ three e1 e2 e3)) ≡ Ok (msgs.RequestParts hash (used s1 e1 ++ used s2 e2 ++ used s3 e3))
unfolding request_parts
six_again hash s1 s2 s3 e1 e2 e3 th t1 t2 t3 u1 u2 u3 =
    let r6 = little_bytes 4 e3 in
    let r5 : List ℕ = little_bytes 4 e2 ++ r6 in
    let r4 : List ℕ = little_bytes 4 e1 ++ r5 in
    let r3 : List ℕ = little_bytes 4 s3 ++ r4 in
    let r2 : List ℕ = little_bytes 4 s2 ++ r3 in
    let r1 : List ℕ = little_bytes 4 s1 ++ r2 in
    rw (bytes_again 16 hash r1 th, four_is s1 t1, four_is s2 t2, four_is s3 t3, four_is e1 u1, four_is e2 u2, four_is e3 u3) refl

request_again : (hash : List ℕ) (spans : List Span) → IsHash hash → length spans ≤ 3 → AllByRecursion IsRange spans → request_parts (hash ++ ranges spans) ≡ Ok (msgs.RequestParts hash spans)
unfolding ranges
request_again hash [] th few each = six_again hash 0 0 0 0 0 0 th (omega arith) (omega arith) (omega arith) (omega arith) (omega arith) (omega arith)
request_again hash (a ∷ []) th few each =
    six_again hash a.s 0 0 a.e 0 0 th each.0.0 (omega arith) (omega arith) each.0.1 (omega arith) (omega arith)
    ∙ ap (λ (l : List Span). Ok (msgs.RequestParts hash l)) (rw (used_is a.s a.e each.0.2) refl)
request_again hash (a ∷ b ∷ []) th few each =
    six_again hash a.s b.s 0 a.e b.e 0 th each.0.0 each.1.0.0 (omega arith) each.0.1 each.1.0.1 (omega arith)
    ∙ ap (λ (l : List Span). Ok (msgs.RequestParts hash l)) (rw (used_is a.s a.e each.0.2, used_is b.s b.e each.1.0.2) refl)
request_again hash (a ∷ b ∷ c ∷ []) th few each =
    six_again hash a.s b.s c.s a.e b.e c.e th each.0.0 each.1.0.0 each.1.1.0.0 each.0.1 each.1.0.1 each.1.1.0.1
    ∙ ap (λ (l : List Span). Ok (msgs.RequestParts hash l)) (rw (used_is a.s a.e each.0.2, used_is b.s b.e each.1.0.2, used_is c.s c.e each.1.1.0.2) refl)
request_again hash (a ∷ b ∷ c ∷ d ∷ more) th few each = absurd (omega arith)

-- ---- sets

abbrev joined : List (List ℕ) → List ℕ
joined set = flat_map (λ (part : List ℕ). part) set

joined_length : (set : List (List ℕ)) → AllByRecursion IsHash set → length (joined set) ≡ 16 * length set
joined_length [] each = refl
joined_length (h ∷ hs) each = ap length (flat_map-cons (λ (part : List ℕ). part) h hs) ∙ omega (arith, length-append h (joined hs), each.0, joined_length hs each.1)

hash_at : (set : List (List ℕ)) (k : ℕ) → AllByRecursion IsHash set → k < length set → take 16 (drop (16 * k) (joined set)) ≡ get_or set k []
hash_at [] k each lt = absurd (omega arith)
hash_at (h ∷ hs) zero each lt = ap (take 16) (flat_map-cons (λ (part : List ℕ). part) h hs) ∙ take_at h (joined hs) 16 each.0
hash_at (h ∷ hs) (suc k) each lt =
    let place : 16 * suc k ≡ length h + 16 * k = omega (arith, each.0) in
    ap (take 16) (ap (λ (n : ℕ). drop n (joined (h ∷ hs))) place ∙ ap (drop (length h + 16 * k)) (flat_map-cons (λ (part : List ℕ). part) h hs) ∙ drop-append-add h (joined hs) (16 * k))
    ∙ hash_at hs k each.1 (omega arith)

hashes_front : (set : List (List ℕ)) (k : ℕ) → AllByRecursion IsHash set → k ≤ length set → hashes_of k (joined set) ≡ take k set
hashes_front set zero each le = refl
hashes_front set (suc k) each le =
    let lt : k < length set = omega arith in
    rw (hashes_front set k each (omega arith), hash_at set k each lt) (sym (take-suc set k [] lt))

set_again : (hash : List ℕ) (set : List (List ℕ)) → IsHash hash → AllByRecursion IsHash set → length set < 2 ^ 16 → set_answer (hash ++ little_bytes 2 (length set) ++ joined set) ≡ Ok (msgs.SetAnswer hash set)
unfolding set_answer
set_again hash set th each lt =
    let whole : hashes_of (length set) (joined set) ≡ set = hashes_front set (length set) each (omega arith) ∙ take_all (length set) set (omega arith) in
    ap set_answer (append_assoc hash (little_bytes 2 (length set)) (joined set))
    ∙ rw (bytes_again 16 hash (little_bytes 2 (length set) ++ joined set) th, number_again 2 (length set) (joined set) lt, bytes_whole (16 * length set) (joined set) (joined_length set each), whole) refl

-- ---- bitmaps

bitmap_length : (n : ℕ) (bits : List Bool) → length (bitmap_of n bits) ≡ n
bitmap_length zero bits = refl
bitmap_length (suc n) bits = omega (arith, length-append (bitmap_of n bits) (byte_of bits n ∷ []), bitmap_length n bits)

byte_at_place : (n : ℕ) (bits : List Bool) (k : ℕ) → k < n → get_or (bitmap_of n bits) k 0 ≡ byte_of bits k
byte_at_place zero bits k lt = absurd (omega arith)
byte_at_place (suc n) bits k lt = elim (cases_lt k n) [
  | inl below ↦
      let inside : k < length (bitmap_of n bits) = omega (arith, bitmap_length n bits) in
      get_or_append_left (bitmap_of n bits) (byte_of bits n ∷ []) 0 k inside ∙ byte_at_place n bits k below
  | inr above ↦
      let e : k ≡ n = omega arith in
      let at_end : get_or (bitmap_of n bits ++ byte_of bits n ∷ []) (length (bitmap_of n bits)) 0 ≡ byte_of bits n = get_or-append_seam (bitmap_of n bits) (byte_of bits n) [] 0 in
      ap (λ (i : ℕ). get_or (bitmap_of (suc n) bits) i 0) (e ∙ sym (bitmap_length n bits)) ∙ at_end ∙ ap (byte_of bits) (sym e)
]

-- each bit of a byte

sum_0 : (a b c d e f g h : ℕ) → a ≤ 1 → b ≤ 1 → c ≤ 1 → d ≤ 1 → e ≤ 1 → f ≤ 1 → g ≤ 1 → h ≤ 1 → (a + 2 * b + 4 * c + 8 * d + 16 * e + 32 * f + 64 * g + 128 * h) / 1 % 2 ≡ a
sum_0 a b c d e f g h la lb lc ld le lf lg lh = omega arith

sum_1 : (a b c d e f g h : ℕ) → a ≤ 1 → b ≤ 1 → c ≤ 1 → d ≤ 1 → e ≤ 1 → f ≤ 1 → g ≤ 1 → h ≤ 1 → (a + 2 * b + 4 * c + 8 * d + 16 * e + 32 * f + 64 * g + 128 * h) / 2 % 2 ≡ b
sum_1 a b c d e f g h la lb lc ld le lf lg lh = omega arith

sum_2 : (a b c d e f g h : ℕ) → a ≤ 1 → b ≤ 1 → c ≤ 1 → d ≤ 1 → e ≤ 1 → f ≤ 1 → g ≤ 1 → h ≤ 1 → (a + 2 * b + 4 * c + 8 * d + 16 * e + 32 * f + 64 * g + 128 * h) / 4 % 2 ≡ c
sum_2 a b c d e f g h la lb lc ld le lf lg lh = omega arith

sum_3 : (a b c d e f g h : ℕ) → a ≤ 1 → b ≤ 1 → c ≤ 1 → d ≤ 1 → e ≤ 1 → f ≤ 1 → g ≤ 1 → h ≤ 1 → (a + 2 * b + 4 * c + 8 * d + 16 * e + 32 * f + 64 * g + 128 * h) / 8 % 2 ≡ d
sum_3 a b c d e f g h la lb lc ld le lf lg lh = omega arith

sum_4 : (a b c d e f g h : ℕ) → a ≤ 1 → b ≤ 1 → c ≤ 1 → d ≤ 1 → e ≤ 1 → f ≤ 1 → g ≤ 1 → h ≤ 1 → (a + 2 * b + 4 * c + 8 * d + 16 * e + 32 * f + 64 * g + 128 * h) / 16 % 2 ≡ e
sum_4 a b c d e f g h la lb lc ld le lf lg lh = omega arith

sum_5 : (a b c d e f g h : ℕ) → a ≤ 1 → b ≤ 1 → c ≤ 1 → d ≤ 1 → e ≤ 1 → f ≤ 1 → g ≤ 1 → h ≤ 1 → (a + 2 * b + 4 * c + 8 * d + 16 * e + 32 * f + 64 * g + 128 * h) / 32 % 2 ≡ f
sum_5 a b c d e f g h la lb lc ld le lf lg lh = omega arith

sum_6 : (a b c d e f g h : ℕ) → a ≤ 1 → b ≤ 1 → c ≤ 1 → d ≤ 1 → e ≤ 1 → f ≤ 1 → g ≤ 1 → h ≤ 1 → (a + 2 * b + 4 * c + 8 * d + 16 * e + 32 * f + 64 * g + 128 * h) / 64 % 2 ≡ g
sum_6 a b c d e f g h la lb lc ld le lf lg lh = omega arith

sum_7 : (a b c d e f g h : ℕ) → a ≤ 1 → b ≤ 1 → c ≤ 1 → d ≤ 1 → e ≤ 1 → f ≤ 1 → g ≤ 1 → h ≤ 1 → (a + 2 * b + 4 * c + 8 * d + 16 * e + 32 * f + 64 * g + 128 * h) / 128 % 2 ≡ h
sum_7 a b c d e f g h la lb lc ld le lf lg lh = omega arith

at_most_one : (b : Bool) → cond b 1 0 ≤ 1
at_most_one true = omega arith
at_most_one false = omega arith

is_one : (b : Bool) → eqb (cond b 1 0) 1 ≡ b
is_one true = refl
is_one false = refl

bit_read : (bits : List Bool) (k r : ℕ) → r < 8 → eqb (byte_of bits k / 2 ^ r % 2) 1 ≡ get_or bits (8 * k + r) false
unfolding byte_of
bit_read bits k zero lt = ap (λ (n : ℕ). eqb n 1) (sum_0 (bit_value bits (8 * k)) (bit_value bits (8 * k + 1)) (bit_value bits (8 * k + 2)) (bit_value bits (8 * k + 3)) (bit_value bits (8 * k + 4)) (bit_value bits (8 * k + 5)) (bit_value bits (8 * k + 6)) (bit_value bits (8 * k + 7)) (at_most_one (get_or bits (8 * k) false)) (at_most_one (get_or bits (8 * k + 1) false)) (at_most_one (get_or bits (8 * k + 2) false)) (at_most_one (get_or bits (8 * k + 3) false)) (at_most_one (get_or bits (8 * k + 4) false)) (at_most_one (get_or bits (8 * k + 5) false)) (at_most_one (get_or bits (8 * k + 6) false)) (at_most_one (get_or bits (8 * k + 7) false))) ∙ is_one (get_or bits (8 * k) false) ∙ ap (λ (i : ℕ). get_or bits i false) (omega arith)
bit_read bits k (suc zero) lt = ap (λ (n : ℕ). eqb n 1) (sum_1 (bit_value bits (8 * k)) (bit_value bits (8 * k + 1)) (bit_value bits (8 * k + 2)) (bit_value bits (8 * k + 3)) (bit_value bits (8 * k + 4)) (bit_value bits (8 * k + 5)) (bit_value bits (8 * k + 6)) (bit_value bits (8 * k + 7)) (at_most_one (get_or bits (8 * k) false)) (at_most_one (get_or bits (8 * k + 1) false)) (at_most_one (get_or bits (8 * k + 2) false)) (at_most_one (get_or bits (8 * k + 3) false)) (at_most_one (get_or bits (8 * k + 4) false)) (at_most_one (get_or bits (8 * k + 5) false)) (at_most_one (get_or bits (8 * k + 6) false)) (at_most_one (get_or bits (8 * k + 7) false))) ∙ is_one (get_or bits (8 * k + 1) false) ∙ ap (λ (i : ℕ). get_or bits i false) (omega arith)
bit_read bits k (suc (suc zero)) lt = ap (λ (n : ℕ). eqb n 1) (sum_2 (bit_value bits (8 * k)) (bit_value bits (8 * k + 1)) (bit_value bits (8 * k + 2)) (bit_value bits (8 * k + 3)) (bit_value bits (8 * k + 4)) (bit_value bits (8 * k + 5)) (bit_value bits (8 * k + 6)) (bit_value bits (8 * k + 7)) (at_most_one (get_or bits (8 * k) false)) (at_most_one (get_or bits (8 * k + 1) false)) (at_most_one (get_or bits (8 * k + 2) false)) (at_most_one (get_or bits (8 * k + 3) false)) (at_most_one (get_or bits (8 * k + 4) false)) (at_most_one (get_or bits (8 * k + 5) false)) (at_most_one (get_or bits (8 * k + 6) false)) (at_most_one (get_or bits (8 * k + 7) false))) ∙ is_one (get_or bits (8 * k + 2) false) ∙ ap (λ (i : ℕ). get_or bits i false) (omega arith)
bit_read bits k (suc (suc (suc zero))) lt = ap (λ (n : ℕ). eqb n 1) (sum_3 (bit_value bits (8 * k)) (bit_value bits (8 * k + 1)) (bit_value bits (8 * k + 2)) (bit_value bits (8 * k + 3)) (bit_value bits (8 * k + 4)) (bit_value bits (8 * k + 5)) (bit_value bits (8 * k + 6)) (bit_value bits (8 * k + 7)) (at_most_one (get_or bits (8 * k) false)) (at_most_one (get_or bits (8 * k + 1) false)) (at_most_one (get_or bits (8 * k + 2) false)) (at_most_one (get_or bits (8 * k + 3) false)) (at_most_one (get_or bits (8 * k + 4) false)) (at_most_one (get_or bits (8 * k + 5) false)) (at_most_one (get_or bits (8 * k + 6) false)) (at_most_one (get_or bits (8 * k + 7) false))) ∙ is_one (get_or bits (8 * k + 3) false) ∙ ap (λ (i : ℕ). get_or bits i false) (omega arith)
bit_read bits k (suc (suc (suc (suc zero)))) lt = ap (λ (n : ℕ). eqb n 1) (sum_4 (bit_value bits (8 * k)) (bit_value bits (8 * k + 1)) (bit_value bits (8 * k + 2)) (bit_value bits (8 * k + 3)) (bit_value bits (8 * k + 4)) (bit_value bits (8 * k + 5)) (bit_value bits (8 * k + 6)) (bit_value bits (8 * k + 7)) (at_most_one (get_or bits (8 * k) false)) (at_most_one (get_or bits (8 * k + 1) false)) (at_most_one (get_or bits (8 * k + 2) false)) (at_most_one (get_or bits (8 * k + 3) false)) (at_most_one (get_or bits (8 * k + 4) false)) (at_most_one (get_or bits (8 * k + 5) false)) (at_most_one (get_or bits (8 * k + 6) false)) (at_most_one (get_or bits (8 * k + 7) false))) ∙ is_one (get_or bits (8 * k + 4) false) ∙ ap (λ (i : ℕ). get_or bits i false) (omega arith)
bit_read bits k (suc (suc (suc (suc (suc zero))))) lt = ap (λ (n : ℕ). eqb n 1) (sum_5 (bit_value bits (8 * k)) (bit_value bits (8 * k + 1)) (bit_value bits (8 * k + 2)) (bit_value bits (8 * k + 3)) (bit_value bits (8 * k + 4)) (bit_value bits (8 * k + 5)) (bit_value bits (8 * k + 6)) (bit_value bits (8 * k + 7)) (at_most_one (get_or bits (8 * k) false)) (at_most_one (get_or bits (8 * k + 1) false)) (at_most_one (get_or bits (8 * k + 2) false)) (at_most_one (get_or bits (8 * k + 3) false)) (at_most_one (get_or bits (8 * k + 4) false)) (at_most_one (get_or bits (8 * k + 5) false)) (at_most_one (get_or bits (8 * k + 6) false)) (at_most_one (get_or bits (8 * k + 7) false))) ∙ is_one (get_or bits (8 * k + 5) false) ∙ ap (λ (i : ℕ). get_or bits i false) (omega arith)
bit_read bits k (suc (suc (suc (suc (suc (suc zero)))))) lt = ap (λ (n : ℕ). eqb n 1) (sum_6 (bit_value bits (8 * k)) (bit_value bits (8 * k + 1)) (bit_value bits (8 * k + 2)) (bit_value bits (8 * k + 3)) (bit_value bits (8 * k + 4)) (bit_value bits (8 * k + 5)) (bit_value bits (8 * k + 6)) (bit_value bits (8 * k + 7)) (at_most_one (get_or bits (8 * k) false)) (at_most_one (get_or bits (8 * k + 1) false)) (at_most_one (get_or bits (8 * k + 2) false)) (at_most_one (get_or bits (8 * k + 3) false)) (at_most_one (get_or bits (8 * k + 4) false)) (at_most_one (get_or bits (8 * k + 5) false)) (at_most_one (get_or bits (8 * k + 6) false)) (at_most_one (get_or bits (8 * k + 7) false))) ∙ is_one (get_or bits (8 * k + 6) false) ∙ ap (λ (i : ℕ). get_or bits i false) (omega arith)
bit_read bits k (suc (suc (suc (suc (suc (suc (suc zero))))))) lt = ap (λ (n : ℕ). eqb n 1) (sum_7 (bit_value bits (8 * k)) (bit_value bits (8 * k + 1)) (bit_value bits (8 * k + 2)) (bit_value bits (8 * k + 3)) (bit_value bits (8 * k + 4)) (bit_value bits (8 * k + 5)) (bit_value bits (8 * k + 6)) (bit_value bits (8 * k + 7)) (at_most_one (get_or bits (8 * k) false)) (at_most_one (get_or bits (8 * k + 1) false)) (at_most_one (get_or bits (8 * k + 2) false)) (at_most_one (get_or bits (8 * k + 3) false)) (at_most_one (get_or bits (8 * k + 4) false)) (at_most_one (get_or bits (8 * k + 5) false)) (at_most_one (get_or bits (8 * k + 6) false)) (at_most_one (get_or bits (8 * k + 7) false))) ∙ is_one (get_or bits (8 * k + 7) false) ∙ ap (λ (i : ℕ). get_or bits i false) (omega arith)
bit_read bits k (suc (suc (suc (suc (suc (suc (suc (suc r)))))))) lt = absurd (omega arith)

bits_front : (bits : List Bool) (k : ℕ) → k ≤ length bits → bits_of k (bitmap bits) ≡ take k bits
bits_front bits zero le = refl
bits_front bits (suc k) le =
    let lt : k < length bits = omega arith in
    let inside : k / 8 < (length bits + 7) / 8 = omega arith in
    let low : k % 8 < 8 = omega arith in
    let place : 8 * (k / 8) + k % 8 ≡ k = omega arith in
    let bit : bit_at (bitmap bits) k ≡ get_or bits k false =
    ap (λ (n : ℕ). eqb (n / 2 ^ (k % 8) % 2) 1) (byte_at_place ((length bits + 7) / 8) bits (k / 8) inside)
    ∙ bit_read bits (k / 8) (k % 8) low ∙ ap (λ (i : ℕ). get_or bits i false) place in
    rw (bits_front bits k (omega arith), bit) (sym (take-suc bits k false lt))

status_again : (hash : List ℕ) (count : ℕ) (bits : List Bool) → IsHash hash → count < 2 ^ 16 → length bits ≡ count → file_status (hash ++ little_bytes 2 count ++ bitmap bits) ≡ Ok (msgs.FileStatus hash count bits)
unfolding file_status
status_again hash count bits th tc len =
    let size : length (bitmap bits) ≡ (count + 7) / 8 = bitmap_length ((length bits + 7) / 8) bits ∙ ap (λ (n : ℕ). (n + 7) / 8) len in
    let whole : bits_of count (bitmap bits) ≡ bits = bits_front bits count (omega arith) ∙ take_all count bits (omega arith) in
    ap file_status (append_assoc hash (little_bytes 2 count) (bitmap bits))
    ∙ rw (bytes_again 16 hash (little_bytes 2 count ++ bitmap bits) th, number_again 2 count (bitmap bits) tc, bytes_whole ((count + 7) / 8) (bitmap bits) size, whole) refl

-- ---- all messages

pub again : WrittenIsRead
unfolding payload_of
again (msgs.Hello hello) t form fits = greeting_again hello t form fits
again (msgs.HelloAnswer hello) t form fits = hello_answer_again hello t form fits
again (msgs.SendingPart hash start end piece) t form fits = sending_part_again hash start end piece t.0 t.1 t.2 form
again (msgs.RequestParts hash spans) t form fits = request_again hash spans t form.0 form.1
again (msgs.NoFile hash) t form fits = of_hash_again msgs.NoFile hash t
again (msgs.SetFile hash) t form fits = of_hash_again msgs.SetFile hash t
again (msgs.FileStatus hash count bits) t form fits = status_again hash count bits t.0 t.1 form
again (msgs.SetRequest hash) t form fits = of_hash_again msgs.SetRequest hash t
again (msgs.SetAnswer hash set) t form fits = set_again hash set t.0 t.1 (ltb-true _ _ fits)
again (msgs.StartUpload hash) t form fits = of_hash_again msgs.StartUpload hash t
again msgs.Accept t form fits = refl
again msgs.Cancel t form fits = refl
again msgs.OutOfParts t form fits = refl
again (msgs.NameRequest hash) t form fits = of_hash_again msgs.NameRequest hash t
again (msgs.NameAnswer hash name) t form fits = name_again hash name t (ltb-true _ _ fits)
again (msgs.Rank place) t form fits = rank_again (min place 65535) (replicate 10 0) (omega arith)
again (msgs.AichRequest hash part root) t form fits = aich_request_again hash part root t.0 t.1 t.2
again (msgs.AichAnswer hash part root packet) t form fits = aich_answer_again hash part root packet t.0 t.1 t.2
again (msgs.AichRefused hash) t form fits = aich_refused_again hash t
again (msgs.RootAnswer hash root) t form fits = root_again hash root t.0 t.1
again (msgs.RootRequest hash) t form fits = of_hash_again msgs.RootRequest hash t
again (msgs.Other protocol opcode) t form fits = form.1
