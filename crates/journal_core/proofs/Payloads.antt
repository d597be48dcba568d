-- How payloads are read.
use Rattle.std.proofs.Common.{◌≡◌, ◌≢◌, ℕ, ◌+◌, ◌*◌, ◌<◌, List, [], ◌∷◌, ◌++◌, length, take, drop, sym, ap, ◌∙◌, arith, append_assoc, append-nil, length-append, take-append-drop}
use Rattle.std.proofs.lemmas.List.{drop-drop}
use Rattle.byteorder.specs.Endian.{little_bytes}
use Rattle.byteorder.specs.Numbers.{length-bytes_low_first}
use Rattle.part_sizes.specs.declared.span.Span.{Span}
use Rattle.journal_core.specs.Parses.{Means}
use Rattle.journal_core.specs.Records.{AreHashes, spell_hashes, spell_spans}
use Rattle.journal_core.specs.declared.record.Record.{Record}
use Rattle.journal_core.specs.declared.record.Record.TheVariants.{Set, Filled, Judged, Recovered, Dropped}
use Rattle.journal_core.proofs.Spelled.{hashes-append, hashes-long, spans-append, spans-long}
use Rattle.journal_core.proofs.Unique.{field-same}

-- lists, of which one more is read

pub hashes-push : (q : List (List ℕ)) (h : List ℕ) → AreHashes q → length h ≡ 16 → AreHashes (q ++ h ∷ [])
hashes-push [] h are long = (long, tt)
hashes-push (first ∷ q) h are long = (are.0, hashes-push q h are.1 long)

pub hashes-read : (q : List (List ℕ)) (h bytes rest : List ℕ) → bytes ≡ spell_hashes q ++ rest → h ≡ take 16 rest → bytes ≡ spell_hashes (q ++ h ∷ []) ++ drop 16 rest
hashes-read q h bytes rest spelled is =
    let one : spell_hashes (h ∷ []) ≡ h = append-nil h in
    spelled
    ∙ ap (λ (l : List ℕ). spell_hashes q ++ l) (sym (take-append-drop 16 rest) ∙ ap (λ (l : List ℕ). l ++ drop 16 rest) (sym is))
    ∙ sym (append_assoc (spell_hashes q) h (drop 16 rest))
    ∙ ap (λ (l : List ℕ). l ++ drop 16 rest) (ap (λ (l : List ℕ). spell_hashes q ++ l) (sym one) ∙ sym (hashes-append q (h ∷ [])))

pub spans-read : (q : List Span) (s e : ℕ) (bytes rest : List ℕ) → bytes ≡ spell_spans q ++ rest → rest ≡ little_bytes 8 s ++ drop 8 rest → drop 8 rest ≡ little_bytes 8 e ++ drop 8 (drop 8 rest)
    → bytes ≡ spell_spans (q ++ record { s = s; e = e } ∷ []) ++ drop 16 rest
spans-read q s e bytes rest spelled first second =
    let behind : drop 8 (drop 8 rest) ≡ drop 16 rest = drop-drop 8 8 rest in
    let split : rest ≡ (little_bytes 8 s ++ little_bytes 8 e) ++ drop 16 rest =
    first ∙ ap (λ (l : List ℕ). little_bytes 8 s ++ l) (second ∙ ap (λ (l : List ℕ). little_bytes 8 e ++ l) behind)
    ∙ sym (append_assoc (little_bytes 8 s) (little_bytes 8 e) (drop 16 rest)) in
    let span : Span = record { s = s; e = e } in
    let one : little_bytes 8 s ++ little_bytes 8 e ≡ spell_spans (span ∷ []) = ap (λ (l : List ℕ). little_bytes 8 s ++ l) (sym (append-nil (little_bytes 8 e))) in
    spelled ∙ ap (λ (l : List ℕ). spell_spans q ++ l) split
    ∙ sym (append_assoc (spell_spans q) (little_bytes 8 s ++ little_bytes 8 e) (drop 16 rest))
    ∙ ap (λ (l : List ℕ). l ++ drop 16 rest) (ap (λ (l : List ℕ). spell_spans q ++ l) one ∙ sym (spans-append q (span ∷ [])))

-- a payload whose length isn't that of its count

pub not-set : (n count : ℕ) (payload : List ℕ) → count < 65536 → payload ≡ little_bytes 2 count ++ drop 2 payload → length payload ≢ 2 + 16 * count
    → (r : Record) → Means n 1 payload r → ⊥
not-set n count payload low is other (Set q) m =
    let same = field-same 2 count (length q) (drop 2 payload) (spell_hashes q) low m.is.0 (sym is ∙ m.is.2) in
    other (omega (arith, ap length m.is.2, length-append (little_bytes 2 (length q)) (spell_hashes q), length-bytes_low_first 0 2 (length q), hashes-long q m.is.1, same.0))
not-set n count payload low is other (Filled q) m = absurd (omega (arith, m.kinds))
not-set n count payload low is other (Judged i d) m = absurd (omega (arith, m.kinds))
not-set n count payload low is other (Recovered i kept) m = absurd (omega (arith, m.kinds))
not-set n count payload low is other (Dropped i) m = absurd (omega (arith, m.kinds))

pub not-filled : (n count : ℕ) (payload : List ℕ) → count < 4294967296 → payload ≡ little_bytes 4 count ++ drop 4 payload → length payload ≢ 4 + 16 * count
    → (r : Record) → Means n 2 payload r → ⊥
not-filled n count payload low is other (Filled q) m =
    let same = field-same 4 count (length q) (drop 4 payload) (spell_spans q) low m.is.0 (sym is ∙ m.is.2) in
    other (omega (arith, ap length m.is.2, length-append (little_bytes 4 (length q)) (spell_spans q), length-bytes_low_first 0 4 (length q), spans-long q, same.0))
not-filled n count payload low is other (Set q) m = absurd (omega (arith, m.kinds))
not-filled n count payload low is other (Judged i d) m = absurd (omega (arith, m.kinds))
not-filled n count payload low is other (Recovered i kept) m = absurd (omega (arith, m.kinds))
not-filled n count payload low is other (Dropped i) m = absurd (omega (arith, m.kinds))
