-- Records that are read one behind another.
use Rattle.std.proofs.Common.{◌≡◌, ◌≢◌, ℕ, suc, ◌+◌, ◌-◌, ◌<◌, ◌≤◌, ◌^◌, List, [], ◌∷◌, ◌++◌, length, get_or, take, drop, refl, sym, ap, ◌∙◌, subst, arith, append_assoc, length-append, length-drop, length-take-le, take-append-drop}
use Rattle.std.proofs.Math.Seq.{take-add}
use Rattle.std.proofs.lemmas.List.{drop-drop, drop_all, drop_more, take_all, take_at}
use Rattle.std.proofs.lemmas.List.Sums.{fold-append}
use Rattle.byteorder.specs.Endian.{little_bytes}
use Rattle.byteorder.specs.Numbers.{length-bytes_low_first}
use Rattle.journal_core.specs.Faults.{IsBadTail, IsBadRecord}
use Rattle.journal_core.specs.Gates.{IsClosed}
use Rattle.journal_core.specs.LogFile.{aim_of}
use Rattle.journal_core.specs.Parses.{BitsFit, Means}
use Rattle.journal_core.specs.Records.{AreSpelled, IsPayload, IsSpelling, kind_of}
use Rattle.journal_core.specs.States.{AreLegal, MayFollow, State, after, nothing, state_of}
use Rattle.journal_core.specs.Walks.{IsCut, Walked}
use Rattle.journal_core.specs.declared.header.Header.{Header}
use Rattle.journal_core.specs.declared.record.Record.{Record}
use Rattle.journal_core.proofs.Held.{legal-push, spelled-push}
use Rattle.journal_core.proofs.Unique.{chunk-same, field-same, record-same}

pub rest-whole : (bytes : List ℕ) (n : ℕ) → take (length bytes - n) (drop n bytes) ≡ drop n bytes
rest-whole bytes n = take_all (length bytes - n) (drop n bytes) (omega (arith, length-drop n bytes))

pub is-cut : (bytes : List ℕ) (len : ℕ) → 5 ≤ length bytes → len ≤ length bytes - 5 → len < 256 ^ 4
    → take (length bytes - 1) (drop 1 bytes) ≡ little_bytes 4 len ++ drop 4 (take (length bytes - 1) (drop 1 bytes))
    → IsCut bytes (get_or bytes 0 0) (take (5 + len - 5) (drop 5 bytes))
is-cut bytes len long within fits read =
    let kind = get_or bytes 0 0 in
    let behind = drop 5 bytes in
    let same : 5 + len - 5 ≡ len = omega arith in
    let payload = take (5 + len - 5) behind in
    let is : payload ≡ take len behind = ap (λ (k : ℕ). take k behind) same in
    let sized : length payload ≡ len = ap length is ∙ length-take-le len behind (omega (arith, length-drop 5 bytes, within, long)) in
    let numbered : drop 1 bytes ≡ little_bytes 4 len ++ behind =
    subst (λ (l : List ℕ). l ≡ little_bytes 4 len ++ drop 4 l) (rest-whole bytes 1) read ∙ ap (λ (l : List ℕ). little_bytes 4 len ++ l) (drop-drop 4 1 bytes) in
    let split : behind ≡ payload ++ drop len behind = sym (take-append-drop len behind) ∙ ap (λ (l : List ℕ). l ++ drop len behind) (sym is) in
    record {
      rest = drop len behind;
      fits = omega (arith, sized, fits);
      whole =
          drop_more bytes 0 0 (omega (arith, long))
          ∙ ap (λ (l : List ℕ). kind ∷ l) (
          numbered
          ∙ ap (λ (l : List ℕ). little_bytes 4 len ++ l) split
          ∙ ap (λ (n : ℕ). little_bytes 4 n ++ (payload ++ drop len behind)) (sym sized)
          ∙ sym (append_assoc (little_bytes 4 (length payload)) payload (drop len behind))
          );
    }

-- what a record's spelling at the front says of the payload that was cut off
pub means-of : (n kind : ℕ) (bytes payload text rest : List ℕ) (r : Record) → IsCut bytes kind payload → IsSpelling r text → bytes ≡ text ++ rest → BitsFit n r → Means n kind payload r
means-of n kind bytes payload text rest r cut sp is bits =
    let whole : kind_of r ∷ ((little_bytes 4 (length sp.payload) ++ sp.payload) ++ rest) ≡ kind ∷ ((little_bytes 4 (length payload) ++ payload) ++ cut.rest) = ap (λ (l : List ℕ). l ++ rest) (sym sp.whole) ∙ sym is ∙ cut.whole in
    let kinds : kind_of r ≡ kind = cc in
    let behind : (little_bytes 4 (length sp.payload) ++ sp.payload) ++ rest ≡ (little_bytes 4 (length payload) ++ payload) ++ cut.rest = cc in
    let far = field-same 4 (length sp.payload) (length payload) (sp.payload ++ rest) (payload ++ cut.rest) sp.fits cut.fits (sym (append_assoc (little_bytes 4 (length sp.payload)) sp.payload rest) ∙ behind ∙ append_assoc (little_bytes 4 (length payload)) payload cut.rest) in
    let both = chunk-same (length sp.payload) sp.payload payload rest cut.rest refl (sym far.0) far.1 in
    record { kinds = kinds; is = subst (IsPayload r) both.0 sp.is; bits = bits }

-- and the other way round
pub spelling-of : (n kind : ℕ) (bytes payload : List ℕ) (r : Record) → IsCut bytes kind payload → Means n kind payload r → IsSpelling r (take (5 + length payload) bytes) × (5 + length payload ≤ length bytes)
spelling-of n kind bytes payload r cut m =
    let text = kind ∷ (little_bytes 4 (length payload) ++ payload) in
    let long : length text ≡ 5 + length payload = omega (arith, length-append (little_bytes 4 (length payload)) payload, length-bytes_low_first 0 4 (length payload)) in
    let front : take (5 + length payload) bytes ≡ text = ap (take (5 + length payload)) cut.whole ∙ take_at text cut.rest (5 + length payload) long in (
      record { payload = payload; is = m.is; fits = cut.fits; whole = front ∙ ap (λ (k : ℕ). k ∷ (little_bytes 4 (length payload) ++ payload)) (sym m.kinds) },
      omega (arith, ap length cut.whole, length-append text cut.rest, long),
    )

-- no other record means the same payload
pub means-once : (n kind : ℕ) (payload : List ℕ) (r s : Record) → Means n kind payload r → Means n kind payload s → r ≡ s
means-once n kind payload r s m k = record-same n r s payload payload (m.kinds ∙ sym k.kinds) m.bits k.bits m.is k.is refl

-- a gate and what stands behind it
pub at-gate : (bytes : List ℕ) (at : ℕ) → at < length bytes → drop at bytes ≡ get_or bytes at 0 ∷ drop (at + 1) bytes
at-gate bytes at lt = drop_more bytes at 0 lt

pub walked-more : (h : Header) (bytes : List ℕ) (rs : List Record) (at len : ℕ) (r : Record) (next : List Record) → Walked h bytes rs at → at < length bytes → get_or bytes at 0 ≡ 1
    → IsSpelling r (take len (drop (at + 1) bytes)) → MayFollow (aim_of h) (state_of h.size rs) r → len ≤ length (drop (at + 1) bytes)
    → next ≡ rs ++ r ∷ [] → Walked h bytes next (at + (1 + len))
walked-more h bytes rs at len r next w lt gate sp may within is =
    let text = take len (drop (at + 1) bytes) in
    let more : 1 + len ≡ suc len = omega arith in
    let piece : take (1 + len) (drop at bytes) ≡ 1 ∷ text =
    ap (λ (k : ℕ). take k (drop at bytes)) more ∙ ap (take (suc len)) (at-gate bytes at lt) ∙ ap (λ (k : ℕ). k ∷ text) gate in
    let front : take (at + (1 + len)) bytes ≡ take at bytes ++ 1 ∷ text = take-add at (1 + len) bytes ∙ ap (λ (l : List ℕ). take at bytes ++ l) piece in
    let spelled : AreSpelled (rs ++ r ∷ []) (take (at + (1 + len)) bytes) = subst (AreSpelled (rs ++ r ∷ [])) (sym front) (spelled-push rs (take at bytes) r text w.spelled sp) in
    record {
      spelled = subst (λ (q : List Record). AreSpelled q (take (at + (1 + len)) bytes)) (sym is) spelled;
      legal = subst (AreLegal (aim_of h) nothing) (sym is) (legal-push (aim_of h) nothing rs r w.legal may);
      within = omega (arith, within, length-drop (at + 1) bytes, lt);
    }

pub state-more : (n : ℕ) (rs next : List Record) (r : Record) (s t : State) → s ≡ state_of n rs → t ≡ after n s r → next ≡ rs ++ r ∷ [] → t ≡ state_of n next
state-more n rs next r s t was is more =
    is ∙ ap (λ (u : State). after n u r) was ∙ sym (fold-append (after n) nothing rs (r ∷ [])) ∙ ap (state_of n) (sym more)

pub bad-gate : (h : Header) (s : State) (bytes : List ℕ) (at : ℕ) → at < length bytes → get_or bytes at 0 ≡ 1 → IsBadRecord h s (drop (at + 1) bytes) → IsBadTail h s (drop at bytes)
bad-gate h s bytes at lt gate bad = subst (IsBadTail h s) (sym (at-gate bytes at lt)) (gate, bad)

pub bad-end : (h : Header) (s : State) (bytes : List ℕ) (at : ℕ) → length bytes ≤ at → IsBadTail h s (drop at bytes)
bad-end h s bytes at le = subst (IsBadTail h s) (sym (drop_all at bytes le)) tt

pub closed-gate : (bytes : List ℕ) (at : ℕ) → at < length bytes → get_or bytes at 0 ≢ 1 → IsClosed (drop at bytes)
closed-gate bytes at lt shut = subst IsClosed (sym (at-gate bytes at lt)) shut
