-- How records are spelled.
use Rattle.std.proofs.Common.{◌≡◌, ℕ, zero, suc, ◌+◌, ◌*◌, ◌/◌, ◌%◌, ◌^◌, ◌<◌, ◌≤◌, Bool, true, false, List, [], ◌∷◌, ◌++◌, length, take, get_or, refl, sym, ap, ◌∙◌, subst, arith, append_assoc, append-nil, length-append, take-suc, if◌then◌else◌}
use Rattle.byteorder.specs.Endian.{little_bytes}
use Rattle.byteorder.specs.Numbers.{length-bytes_low_first}
use Rattle.part_sizes.specs.declared.span.Span.{Span}
use Rattle.journal_core.specs.Records.{AreHashes, AreSpans, IsMap, Spells, bit_of, bitmap, byte_of, payload_of, spell_hashes, spell_spans}
use Rattle.journal_core.specs.declared.record.Record.TheVariants.{Set, Filled, Judged, Recovered, Dropped}

-- each bit of a byte

abbrev sum_of : (ℕ → ℕ) → ℕ
sum_of f = f 0 + 2 * f 1 + 4 * f 2 + 8 * f 3 + 16 * f 4 + 32 * f 5 + 64 * f 6 + 128 * f 7

module _ (f : ℕ → ℕ) (low : (i : ℕ) → f i ≤ 1) where
  sum-bit : (r : ℕ) → r < 8 → sum_of f / 2 ^ r % 2 ≡ f r
  sum-bit zero lt = omega (arith, low 0, low 1, low 2, low 3, low 4, low 5, low 6, low 7)
  sum-bit (suc zero) lt = omega (arith, low 0, low 1, low 2, low 3, low 4, low 5, low 6, low 7)
  sum-bit (suc (suc zero)) lt = omega (arith, low 0, low 1, low 2, low 3, low 4, low 5, low 6, low 7)
  sum-bit (suc (suc (suc zero))) lt = omega (arith, low 0, low 1, low 2, low 3, low 4, low 5, low 6, low 7)
  sum-bit (suc (suc (suc (suc zero)))) lt = omega (arith, low 0, low 1, low 2, low 3, low 4, low 5, low 6, low 7)
  sum-bit (suc (suc (suc (suc (suc zero))))) lt = omega (arith, low 0, low 1, low 2, low 3, low 4, low 5, low 6, low 7)
  sum-bit (suc (suc (suc (suc (suc (suc zero)))))) lt = omega (arith, low 0, low 1, low 2, low 3, low 4, low 5, low 6, low 7)
  sum-bit (suc (suc (suc (suc (suc (suc (suc zero))))))) lt = omega (arith, low 0, low 1, low 2, low 3, low 4, low 5, low 6, low 7)
  sum-bit (suc (suc (suc (suc (suc (suc (suc (suc r)))))))) lt = absurd (omega arith)

at_most_one : (b : Bool) → (n : ℕ) → n ≡ (if b then 1 else 0) → n ≤ 1
at_most_one true n is = omega (arith, is)
at_most_one false n is = omega (arith, is)

bit-low : (kept : List Bool) (k : ℕ) → bit_of kept k ≤ 1
bit-low kept k = at_most_one (get_or kept k false) (bit_of kept k) refl

byte-bit : (kept : List Bool) (k r : ℕ) → r < 8 → byte_of kept k / 2 ^ r % 2 ≡ bit_of kept (8 * k + r)
byte-bit kept k r lt =
    let first : bit_of kept (8 * k) ≡ bit_of kept (8 * k + 0) = ap (bit_of kept) (omega arith) in
    ap (λ (n : ℕ). (n + 2 * bit_of kept (8 * k + 1) + 4 * bit_of kept (8 * k + 2) + 8 * bit_of kept (8 * k + 3) + 16 * bit_of kept (8 * k + 4) + 32 * bit_of kept (8 * k + 5) + 64 * bit_of kept (8 * k + 6) + 128 * bit_of kept (8 * k + 7)) / 2 ^ r % 2) first
    ∙ sum-bit (λ (i : ℕ). bit_of kept (8 * k + i)) (λ i. bit-low kept (8 * k + i)) r lt

map-byte : (kept : List Bool) (k : ℕ) → k < 7 → get_or (bitmap kept) k 0 ≡ byte_of kept k
map-byte kept zero lt = refl
map-byte kept (suc zero) lt = refl
map-byte kept (suc (suc zero)) lt = refl
map-byte kept (suc (suc (suc zero))) lt = refl
map-byte kept (suc (suc (suc (suc zero)))) lt = refl
map-byte kept (suc (suc (suc (suc (suc zero))))) lt = refl
map-byte kept (suc (suc (suc (suc (suc (suc zero)))))) lt = refl
map-byte kept (suc (suc (suc (suc (suc (suc (suc k))))))) lt = absurd (omega arith)

pub is-map : (kept : List Bool) → length kept ≤ 53 → IsMap kept (bitmap kept)
is-map kept few = record {
  long = refl;
  few = few;
  bits = λ k below.
      let place : 8 * (k / 8) + k % 8 ≡ k = omega arith in
      ap (λ (n : ℕ). n / 2 ^ (k % 8) % 2) (map-byte kept (k / 8) (omega (arith, below, few)))
      ∙ byte-bit kept (k / 8) (k % 8) (omega arith) ∙ ap (bit_of kept) place;
}

-- lists, of which one more is spelled

pub hashes-append : (q r : List (List ℕ)) → spell_hashes (q ++ r) ≡ spell_hashes q ++ spell_hashes r
hashes-append [] r = refl
hashes-append (h ∷ q) r = ap (λ (l : List ℕ). h ++ l) (hashes-append q r) ∙ sym (append_assoc h (spell_hashes q) (spell_hashes r))

pub hashes-more : (q : List (List ℕ)) (k : ℕ) (d : List ℕ) (start out end : List ℕ) → k < length q → out ≡ start ++ spell_hashes (take k q)
    → end ≡ out ++ get_or q k d → end ≡ start ++ spell_hashes (take (k + 1) q)
hashes-more q k d start out end below is ends =
    let one = get_or q k d in
    let next : k + 1 ≡ suc k = omega arith in
    let more : spell_hashes (take (k + 1) q) ≡ spell_hashes (take k q) ++ one =
    ap (λ (n : ℕ). spell_hashes (take n q)) next ∙ ap spell_hashes (take-suc q k d below) ∙ hashes-append (take k q) (one ∷ [])
    ∙ ap (λ (l : List ℕ). spell_hashes (take k q) ++ l) (append-nil one) in
    ends ∙ ap (λ (l : List ℕ). l ++ one) is ∙ append_assoc start (spell_hashes (take k q)) one ∙ ap (λ (l : List ℕ). start ++ l) (sym more)

pub spans-append : (q r : List Span) → spell_spans (q ++ r) ≡ spell_spans q ++ spell_spans r
spans-append [] r = refl
spans-append (h ∷ q) r =
    ap (λ (l : List ℕ). little_bytes 8 h.s ++ (little_bytes 8 h.e ++ l)) (spans-append q r)
    ∙ ap (λ (l : List ℕ). little_bytes 8 h.s ++ l) (sym (append_assoc (little_bytes 8 h.e) (spell_spans q) (spell_spans r)))
    ∙ sym (append_assoc (little_bytes 8 h.s) (little_bytes 8 h.e ++ spell_spans q) (spell_spans r))

pub spans-more : (q : List Span) (k : ℕ) (d : Span) (start out mid end : List ℕ) → k < length q → out ≡ start ++ spell_spans (take k q)
    → mid ≡ out ++ little_bytes 8 (get_or q k d).s → end ≡ mid ++ little_bytes 8 (get_or q k d).e → end ≡ start ++ spell_spans (take (k + 1) q)
spans-more q k d start out mid end below is middle ends =
    let one = get_or q k d in
    let next : k + 1 ≡ suc k = omega arith in
    let more : spell_spans (take (k + 1) q) ≡ (spell_spans (take k q) ++ little_bytes 8 one.s) ++ little_bytes 8 one.e =
    ap (λ (n : ℕ). spell_spans (take n q)) next ∙ ap spell_spans (take-suc q k d below) ∙ spans-append (take k q) (one ∷ [])
    ∙ ap (λ (l : List ℕ). spell_spans (take k q) ++ (little_bytes 8 one.s ++ l)) (append-nil (little_bytes 8 one.e))
    ∙ sym (append_assoc (spell_spans (take k q)) (little_bytes 8 one.s) (little_bytes 8 one.e)) in
    ends ∙ ap (λ (l : List ℕ). l ++ little_bytes 8 one.e) (middle ∙ ap (λ (l : List ℕ). l ++ little_bytes 8 one.s) is ∙ append_assoc start (spell_spans (take k q)) (little_bytes 8 one.s))
    ∙ append_assoc start (spell_spans (take k q) ++ little_bytes 8 one.s) (little_bytes 8 one.e) ∙ ap (λ (l : List ℕ). start ++ l) (sym more)

pub are-hashes : (q : List (List ℕ)) → ((k : ℕ) → k < length q → length (get_or q k []) ≡ 16) → AreHashes q
are-hashes [] long = tt
are-hashes (h ∷ q) long = (long 0 (omega arith), are-hashes q (λ k below. long (suc k) (omega (arith, below))))

pub spans-push : (q : List Span) (one : Span) → AreSpans q → one.s < 2 ^ 64 → one.e < 2 ^ 64 → AreSpans (q ++ one ∷ [])
spans-push [] one fit s e = (s, e, tt)
spans-push (h ∷ q) one fit s e = (fit.0, fit.1, spans-push q one fit.2 s e)

pub spans-fit : (q : List Span) (k : ℕ) (d : Span) → k < length q → AreSpans (take k q) → (get_or q k d).s < 2 ^ 64 → (get_or q k d).e < 2 ^ 64 → AreSpans (take (k + 1) q)
spans-fit q k d below fit s e =
    let next : k + 1 ≡ suc k = omega arith in
    let more : take (k + 1) q ≡ take k q ++ get_or q k d ∷ [] = ap (λ (n : ℕ). take n q) next ∙ take-suc q k d below in
    subst AreSpans (sym more) (spans-push (take k q) (get_or q k d) fit s e)

pub hashes-long : (q : List (List ℕ)) → AreHashes q → length (spell_hashes q) ≡ 16 * length q
hashes-long [] are = refl
hashes-long (h ∷ q) are = omega (arith, length-append h (spell_hashes q), are.0, hashes-long q are.1)

pub spans-long : (q : List Span) → length (spell_spans q) ≡ 16 * length q
spans-long [] = refl
spans-long (h ∷ q) =
    omega (
      arith,
      length-append (little_bytes 8 h.s) (little_bytes 8 h.e ++ spell_spans q),
      length-append (little_bytes 8 h.e) (spell_spans q),
      length-bytes_low_first 0 8 h.s,
      length-bytes_low_first 0 8 h.e,
      spans-long q,
    )

-- the records

pub spells-set : (q : List (List ℕ)) (bytes : List ℕ) → AreHashes q → length q ≤ 65535
    → bytes ≡ 1 ∷ (little_bytes 4 (2 + 16 * length q) ++ (little_bytes 2 (length q) ++ spell_hashes q)) ++ 0 ∷ [] → Spells (Set q) bytes
spells-set q bytes are few is =
    let long : length (payload_of (Set q)) ≡ 2 + 16 * length q = omega (arith, length-append (little_bytes 2 (length q)) (spell_hashes q), length-bytes_low_first 0 2 (length q), hashes-long q are) in
    record {
      is = record { payload = payload_of (Set q); is = (omega (arith, few), are, refl); fits = omega (arith, long, few); whole = refl };
      whole = is ∙ ap (λ (n : ℕ). 1 ∷ (little_bytes 4 n ++ payload_of (Set q)) ++ 0 ∷ []) (sym long);
    }

pub spells-filled : (q : List Span) (bytes : List ℕ) → AreSpans q → length q ≤ 268435455
    → bytes ≡ 2 ∷ (little_bytes 4 (4 + 16 * length q) ++ (little_bytes 4 (length q) ++ spell_spans q)) ++ 0 ∷ [] → Spells (Filled q) bytes
spells-filled q bytes are few is =
    let long : length (payload_of (Filled q)) ≡ 4 + 16 * length q = omega (arith, length-append (little_bytes 4 (length q)) (spell_spans q), length-bytes_low_first 0 4 (length q), spans-long q) in
    record {
      is = record { payload = payload_of (Filled q); is = (omega (arith, few), are, refl); fits = omega (arith, long, few); whole = refl };
      whole = is ∙ ap (λ (n : ℕ). 2 ∷ (little_bytes 4 n ++ payload_of (Filled q)) ++ 0 ∷ []) (sym long);
    }

pub part-long : (i : ℕ) (rest : List ℕ) → length (little_bytes 2 i ++ rest) ≡ 2 + length rest
part-long i rest = omega (arith, length-append (little_bytes 2 i) rest, length-bytes_low_first 0 2 i)

abbrev small_text : ℕ → ℕ → List ℕ → List ℕ
small_text kind i rest = kind ∷ (little_bytes 4 (2 + length rest) ++ (little_bytes 2 i ++ rest)) ++ 0 ∷ []

small-whole : (kind i : ℕ) (rest bytes : List ℕ) → bytes ≡ small_text kind i rest
    → bytes ≡ kind ∷ (little_bytes 4 (length (little_bytes 2 i ++ rest)) ++ (little_bytes 2 i ++ rest)) ++ 0 ∷ []
small-whole kind i rest bytes is = is ∙ ap (λ (n : ℕ). kind ∷ (little_bytes 4 n ++ (little_bytes 2 i ++ rest)) ++ 0 ∷ []) (sym (part-long i rest))

pub spells-judged : (i : ℕ) (d bytes : List ℕ) → i < 65536 → length d ≡ 16 → bytes ≡ small_text 3 i d → Spells (Judged i d) bytes
spells-judged i d bytes low long is = record {
  is = record { payload = payload_of (Judged i d); is = (low, long, refl); fits = omega (arith, part-long i d, long); whole = refl };
  whole = small-whole 3 i d bytes is;
}

pub spells-recovered : (i : ℕ) (kept : List Bool) (bytes : List ℕ) → i < 65536 → length kept ≤ 53 → bytes ≡ small_text 4 i (bitmap kept) → Spells (Recovered i kept) bytes
spells-recovered i kept bytes low few is = record {
  is = record { payload = payload_of (Recovered i kept); is = (low, bitmap kept, is-map kept few, refl); fits = omega (arith, part-long i (bitmap kept)); whole = refl };
  whole = small-whole 4 i (bitmap kept) bytes is;
}

pub spells-dropped : (i : ℕ) (bytes : List ℕ) → i < 65536 → bytes ≡ small_text 5 i [] → Spells (Dropped i) bytes
spells-dropped i bytes low is = record {
  is = record { payload = payload_of (Dropped i); is = (low, refl); fits = omega (arith, part-long i []); whole = refl };
  whole = small-whole 5 i [] bytes is;
}
