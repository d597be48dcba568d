-- A right head with enough bytes behind it is a frame.
use Rattle.std.proofs.Common.{◌≡◌, ℕ, zero, suc, ◌+◌, ◌-◌, ◌<◌, ◌≤◌, List, [], ◌∷◌, ◌++◌, length, take, drop, get_or, refl, sym, ap, ◌∙◌, arith}
use Rattle.std.proofs.lemmas.List.{length-take-le, take-append-drop}
use Rattle.std.proofs.lemmas.Nat.{le_bytes_4}
use Rattle.byteorder.specs.Endian.{little_bytes, little_number}
use Rattle.ed2k_frame.specs.Front.{IsFrameAt}
use Rattle.ed2k_frame.specs.Whole.{IsWhole}

-- four bytes spell the number that they are
four_bytes : (a b c d n : ℕ) → a < 256 → b < 256 → c < 256 → d < 256 → n ≡ little_number 4 (a ∷ b ∷ c ∷ d ∷ []) → little_bytes 4 n ≡ a ∷ b ∷ c ∷ d ∷ []
four_bytes a b c d n ha hb hc hd e =
    le_bytes_4 (a ∷ b ∷ c ∷ d ∷ []) n refl (below a b c d ha hb hc hd) (omega (arith, e))
  where
    below : (a b c d : ℕ) → a < 256 → b < 256 → c < 256 → d < 256 → (i : ℕ) → get_or (a ∷ b ∷ c ∷ d ∷ []) i 0 < 256
    below a b c d ha hb hc hd zero = ha
    below a b c d ha hb hc hd (suc zero) = hb
    below a b c d ha hb hc hd (suc (suc zero)) = hc
    below a b c d ha hb hc hd (suc (suc (suc zero))) = hd
    below a b c d ha hb hc hd (suc (suc (suc (suc i)))) = omega arith

-- a right head with this length field and as many bytes is a frame, and the rest follows it
pub whole_is_frame : (bytes : List ℕ) (n : ℕ) (payload : List ℕ) → ((i : ℕ) → get_or bytes i 0 < 256) → IsWhole n bytes → payload ≡ take (n + 5 - 6) (drop 6 bytes) → IsFrameAt (record { protocol = get_or bytes 0 0; opcode = get_or bytes 5 0; payload = payload }) bytes (drop (n + 5) bytes)
whole_is_frame [] n payload fits whole e = absurd whole
whole_is_frame (p ∷ []) n payload fits whole e = absurd (omega (arith, whole.3))
whole_is_frame (p ∷ a ∷ []) n payload fits whole e = absurd (omega (arith, whole.3))
whole_is_frame (p ∷ a ∷ b ∷ []) n payload fits whole e = absurd (omega (arith, whole.3))
whole_is_frame (p ∷ a ∷ b ∷ c ∷ []) n payload fits whole e = absurd (omega (arith, whole.3))
whole_is_frame (p ∷ a ∷ b ∷ c ∷ d ∷ []) n payload fits whole e =
    absurd (omega (arith, whole.3, whole.1.0))
whole_is_frame (p ∷ a ∷ b ∷ c ∷ d ∷ o ∷ more) n payload fits whole e =
    let m = n + 5 - 6 in
    let end : n + 5 ≡ suc (suc (suc (suc (suc (suc m))))) = omega (arith, whole.1.0) in
    let enough : m ≤ length more = omega (arith, whole.3, whole.1.0) in
    let size : length payload + 1 ≡ n = ap (λ (bs : List ℕ). length bs + 1) e ∙ ap (λ k. k + 1) (length-take-le m more enough) ∙ omega (arith, whole.1.0) in
    let field : little_bytes 4 (length payload + 1) ≡ a ∷ b ∷ c ∷ d ∷ [] =
    four_bytes a b c d (length payload + 1) (fits 1) (fits 2) (fits 3) (fits 4) (size ∙ whole.2) in
    let parts : payload ++ drop m more ≡ more = ap (λ (bs : List ℕ). bs ++ drop m more) e ∙ take-append-drop m more in
    let spelled : (p ∷ little_bytes 4 (length payload + 1)) ++ o ∷ (payload ++ drop m more) ≡ p ∷ a ∷ b ∷ c ∷ d ∷ o ∷ more =
    ap (λ (bs : List ℕ). (p ∷ bs) ++ o ∷ (payload ++ drop m more)) field ∙ ap (λ (bs : List ℕ). p ∷ a ∷ b ∷ c ∷ d ∷ o ∷ bs) parts in
    rw end (record {
      valid = record { protocol = whole.0; fits = omega (arith, size, whole.1.1) };
      spelled = sym spelled;
    })
