-- What the two writes of an append leave of a log.
use Rattle.std.proofs.Common.{◌≡◌, ◌≢◌, ℕ, ◌+◌, ◌≤◌, List, [], ◌∷◌, ◌++◌, length, get_or, take, drop, refl, sym, ap, ◌∙◌, subst, inl, inr, arith, append_assoc, length-append, take-append-drop}
use Rattle.std.proofs.lemmas.Bool.{cases_eq}
use Rattle.std.proofs.lemmas.List.{take_at, drop_at, drop_more}
use Rattle.ed2k_outside.specs.Crashes.{Torn}
use Rattle.ed2k_outside.specs.Files.{overwritten}
use Rattle.journal_core.specs.Gates.{EndsAt, Grown, IsClosed, IsEither}

-- the record stands behind the gate, which is closed
pub record Staged (front spelled log : List ℕ) : Type 0 where
  pub gate : ℕ
  pub rest : List ℕ
  pub closed : gate ≢ 1
  pub whole : log ≡ front ++ gate ∷ (spelled ++ rest)

-- a closed gate is a byte
record IsByte (front log : List ℕ) : Type 0 where
  byte : ℕ
  rest : List ℕ
  closed : byte ≢ 1
  whole : log ≡ front ++ byte ∷ rest

as-byte : (front log : List ℕ) → EndsAt front log → IsByte front log
as-byte front log e = by_tail e.tail e.closed e.whole
  where
    by_tail : (tail : List ℕ) → IsClosed tail → log ≡ front ++ tail → IsByte front log
    by_tail [] closed whole = absurd closed
    by_tail (byte ∷ rest) closed whole = record { byte = byte; rest = rest; closed = closed; whole = whole }

shut-behind : (front : List ℕ) (byte : ℕ) (rest : List ℕ) → byte ≢ 1 → EndsAt front (front ++ byte ∷ rest)
shut-behind front byte rest closed = record { tail = byte ∷ rest; closed = closed; whole = refl }

front-byte : (front : List ℕ) (gate byte : ℕ) (rest : List ℕ) → gate ≡ length front → take (gate + 1) (front ++ byte ∷ rest) ≡ front ++ byte ∷ []
front-byte front gate byte rest at =
    ap (take (gate + 1)) (sym (append_assoc front (byte ∷ []) rest)) ∙ take_at (front ++ byte ∷ []) rest (gate + 1) (omega (arith, length-append front (byte ∷ [])))

rest-byte : (front : List ℕ) (gate byte : ℕ) (rest : List ℕ) → gate ≡ length front → drop (gate + 1) (front ++ byte ∷ rest) ≡ rest
rest-byte front gate byte rest at =
    ap (drop (gate + 1)) (sym (append_assoc front (byte ∷ []) rest)) ∙ drop_at (front ++ byte ∷ []) rest (gate + 1) (omega (arith, length-append front (byte ∷ [])))

pub reaches : (front log : List ℕ) (gate : ℕ) → gate ≡ length front → EndsAt front log → gate + 1 ≤ length log
reaches front log gate at e = let b = as-byte front log e in omega (arith, ap length b.whole, length-append front (b.byte ∷ b.rest))

-- what is torn behind a closed gate doesn't matter
pub torn-behind : (front old new : List ℕ) (gate n : ℕ) → gate ≡ length front → EndsAt front old → Torn (gate + 1) n old new → EndsAt front new
torn-behind front old new gate n at e torn =
    let b = as-byte front old e in
    let kept : take (gate + 1) new ≡ front ++ b.byte ∷ [] = torn.before ∙ ap (take (gate + 1)) b.whole ∙ front-byte front gate b.byte b.rest at in
    let whole : new ≡ front ++ b.byte ∷ drop (gate + 1) new =
    sym (take-append-drop (gate + 1) new) ∙ ap (λ (l : List ℕ). l ++ drop (gate + 1) new) kept ∙ append_assoc front (b.byte ∷ []) (drop (gate + 1) new) in
    record { tail = b.byte ∷ drop (gate + 1) new; closed = b.closed; whole = whole }

pub written-behind : (front old spelled : List ℕ) (gate : ℕ) → gate ≡ length front → EndsAt front old → Staged front spelled (overwritten old (gate + 1) spelled)
written-behind front old spelled gate at e =
    let b = as-byte front old e in
    let rest = drop (gate + 1 + length spelled) old in
    record {
      gate = b.byte;
      rest = rest;
      closed = b.closed;
      whole = ap (λ (l : List ℕ). l ++ spelled ++ rest) (ap (take (gate + 1)) b.whole ∙ front-byte front gate b.byte b.rest at) ∙ append_assoc (front ++ b.byte ∷ []) spelled rest ∙ append_assoc front (b.byte ∷ []) (spelled ++ rest);
    }

-- the gate may be any byte: where it is 1, the record counts
opened-or-not : (front text rest : List ℕ) (byte : ℕ) → IsEither front text (front ++ byte ∷ ((text ++ 0 ∷ []) ++ rest))
opened-or-not front text rest byte = elim (cases_eq byte 1) [
  | inl is ↦ inr (record { tail = 0 ∷ rest; closed = λ no. omega arith; whole = ap (λ (b : ℕ). front ++ b ∷ ((text ++ 0 ∷ []) ++ rest)) is ∙ ap (λ (l : List ℕ). front ++ 1 ∷ l) (append_assoc text (0 ∷ []) rest) })
  | inr shut ↦ inl (shut-behind front byte ((text ++ 0 ∷ []) ++ rest) shut)
]

pub torn-gate : (front text old new : List ℕ) (gate : ℕ) → gate ≡ length front → Staged front (text ++ 0 ∷ []) old → Torn gate 1 old new → IsEither front text new
torn-gate front text old new gate at s torn =
    let behind = (text ++ 0 ∷ []) ++ s.rest in
    let long : gate + 1 ≤ length old = omega (arith, ap length s.whole, length-append front (s.gate ∷ behind)) in
    let byte = get_or new gate 0 in
    let rest : drop (gate + 1) new ≡ behind = torn.after ∙ ap (drop (gate + 1)) s.whole ∙ rest-byte front gate s.gate behind at in
    let back : drop gate new ≡ byte ∷ behind = drop_more new gate 0 (omega (arith, torn.no_shorter)) ∙ ap (λ (l : List ℕ). byte ∷ l) rest in
    let fore : take gate new ≡ front = torn.before ∙ ap (take gate) s.whole ∙ take_at front (s.gate ∷ behind) gate (sym at) in
    let whole : new ≡ front ++ byte ∷ behind = sym (take-append-drop gate new) ∙ ap (λ (l : List ℕ). l ++ drop gate new) fore ∙ ap (λ (l : List ℕ). front ++ l) back in
    subst (λ (l : List ℕ). IsEither front text l) (sym whole) (opened-or-not front text s.rest byte)

pub written-gate : (front text old : List ℕ) (gate : ℕ) → gate ≡ length front → Staged front (text ++ 0 ∷ []) old → Grown front text (overwritten old gate (1 ∷ []))
written-gate front text old gate at s =
    let behind = (text ++ 0 ∷ []) ++ s.rest in
    record {
      tail = 0 ∷ s.rest;
      closed = λ no. omega arith;
      whole =
          ap (λ (l : List ℕ). l ++ (1 ∷ []) ++ drop (gate + 1) old) (ap (take gate) s.whole ∙ take_at front (s.gate ∷ behind) gate (sym at))
          ∙ ap (λ (l : List ℕ). front ++ (1 ∷ []) ++ l) (ap (drop (gate + 1)) s.whole ∙ rest-byte front gate s.gate behind at)
          ∙ append_assoc front (1 ∷ []) behind
          ∙ ap (λ (l : List ℕ). front ++ 1 ∷ l) (append_assoc text (0 ∷ []) s.rest);
    }
