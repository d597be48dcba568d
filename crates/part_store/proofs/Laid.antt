-- What a write leaves of the body.
use Rattle.std.proofs.Common.{◌≡◌, ◌⊎◌, ℕ, ◌+◌, ◌-◌, ◌*◌, ◌<◌, ◌≤◌, Bool, true, false, not, List, ◌++◌, length, take, drop, Option, Some, None, IfSome, refl, sym, ap, ◌∙◌, subst, inl, inr, arith, length-append, length-drop, append_assoc, ◌^◌, Result, Ok, Err, MatchResult, is_err}
use Rattle.std.specs.Bool.{then_some}
use Rattle.std.proofs.lemmas.List.{drop-drop, drop-take, drop_at, take_at, take-take, length-take, length-take-le}
use Rattle.ed2k_outside.specs.Causes.{Rose, HasCause, IfKnown}
use Rattle.ed2k_outside.specs.Crashes.{Torn}
use Rattle.ed2k_outside.specs.Files.{Files, file_of, overwritten, Writes, InFile}
use Rattle.ed2k_outside.specs.declared.vault.Which.TheVariants.{Body}
use Rattle.md4_hash.specs.Md4.{md4}
use Rattle.part_hashset.specs.declared.aim.Aim.{Aim}
use Rattle.part_sizes.specs.declared.part.TheConstants.{PART}
use Rattle.part_sizes.specs.Part.{part, IsSize}
use Rattle.reserve_core.specs.Desk.{IsRefused, span_at}
use Rattle.reserve_core.specs.Events.{events}
use Rattle.reserve_core.specs.Held.{may_write}
use Rattle.reserve_core.specs.Legal.{IsLegal}
use Rattle.reserve_core.specs.Verdicts.{verdict_of}
use Rattle.reserve_core.specs.declared.event.Entry.{Entry}
use Rattle.reserve_core.specs.declared.event.Event.{Event}
use Rattle.reserve_core.specs.declared.fault.DeskFault.TheVariants.{NotHeld}
use Rattle.part_sizes.specs.declared.span.Span.{Span}
use Rattle.reserve_core.proofs.Writable.{writable, writable_unjudged}
use Rattle.part_store.specs.Body.{Stored, Fits, BodyFits}

-- the bytes outside a range of n bytes, and the length, are as they were
pub record Elsewhere (at n : ℕ) (old new : List ℕ) : Type 0 where
  pub front : take at new ≡ take at old
  pub behind : drop (at + n) new ≡ drop (at + n) old
  pub long : length new ≡ length old

front_part : (i k : ℕ) (bytes : List ℕ) → (i + 1) * PART ≤ k → part bytes i ≡ part (take k bytes) i
front_part i k bytes within =
    sym (drop-take (i * PART) PART bytes)
    ∙ ap (drop (i * PART)) (sym (take-take (i * PART + PART) k bytes (omega arith)))
    ∙ drop-take (i * PART) PART (take k bytes)

part_behind : (i k : ℕ) (bytes : List ℕ) → k ≤ i * PART → part bytes i ≡ take PART (drop (i * PART - k) (drop k bytes))
part_behind i k bytes within =
    let at : i * PART ≡ k + (i * PART - k) = omega arith in
    ap (take PART) (ap (λ (j : ℕ). drop j bytes) at ∙ sym (drop-drop (i * PART - k) k bytes))

pub part-elsewhere : (at n i : ℕ) (old new : List ℕ) → Elsewhere at n old new → (at + n ≤ i * PART) ⊎ ((i + 1) * PART ≤ at) → part new i ≡ part old i
part-elsewhere at n i old new same apart =
    elim apart [
      | inl past ↦ part_behind i (at + n) new past ∙ ap (λ (bytes : List ℕ). take PART (drop (i * PART - (at + n)) bytes)) same.behind ∙ sym (part_behind i (at + n) old past)
      | inr before ↦ front_part i at new before ∙ ap (λ (bytes : List ℕ). part bytes i) same.front ∙ sym (front_part i at old before)
    ]

fits-elsewhere : (aim : Aim) (h : List Event) (first : Option (List ℕ)) (at n : ℕ) (old new : List ℕ) → Elsewhere at n old new → ((i : ℕ) (d : List ℕ) → verdict_of h i ≡ Some d → (at + n ≤ i * PART) ⊎ ((i + 1) * PART ≤ at)) → Fits aim h first old → Fits aim h first new
fits-elsewhere aim h first at n old new same apart fits = record {
  sized = same.long ∙ fits.sized;
  verdicts = λ began i d is. fits.verdicts began i d is ∙ ap md4 (sym (part-elsewhere at n i old new same (apart i d is)));
}

pub laid : (at : ℕ) (piece old : List ℕ) → at + length piece ≤ length old → Elsewhere at (length piece) old (overwritten old at piece)
laid at piece old within = record {
  front =
      ap (take at) (append_assoc (take at old) piece (drop (at + length piece) old))
      ∙ take_at (take at old) (piece ++ drop (at + length piece) old) at (length-take-le at old (omega arith));
  behind = drop_at (take at old ++ piece) (drop (at + length piece) old) (at + length piece) (omega (arith, length-append (take at old) piece, length-take at old));
  long = omega (arith, length-append (take at old ++ piece) (drop (at + length piece) old), length-append (take at old) piece, length-take at old, length-drop (at + length piece) old);
}

pub torn : (at n : ℕ) (old new : List ℕ) → at + n ≤ length old → Torn at n old new → Elsewhere at n old new
torn at n old new within t = record { front = t.before; behind = t.after; long = omega (arith, t.no_shorter, t.no_longer) }

-- what the code knows as it writes
pub record Lawful (aim : Aim) (log : List Entry) (p at : ℕ) (piece : List ℕ) : Type 0 where
  pub legal : IsLegal aim log
  pub may : may_write (events log) p (span_at at piece) ≡ true

body-laid : (aim : Aim) (log : List Entry) (p at : ℕ) (piece : List ℕ) (first : Option (List ℕ)) (old files : Option Files) → Lawful aim log p at piece → BodyFits aim log first old → IfKnown (Writes Body at piece) old files → BodyFits aim log first files
body-laid aim log p at piece first None None lawful fits goes = tt
body-laid aim log p at piece first None (Some files) lawful fits goes = absurd (cc)
body-laid aim log p at piece first (Some old) None lawful fits goes = absurd goes
body-laid aim log p at piece first (Some old) (Some files) lawful fits goes =
    let w = writable aim log p (span_at at piece) lawful.legal lawful.may in
    let within : at + length piece ≤ length old.body = omega (arith, w.within, fits.sized) in
    let body : files.body ≡ overwritten old.body at piece = ap (λ (f : Files). f.body) goes in
    subst (λ (bytes : List ℕ). Fits aim (events log) first bytes) (sym body)
    (fits-elsewhere aim (events log) first at (length piece) old.body (overwritten old.body at piece) (laid at piece old.body within) (λ i d is. writable_unjudged aim log p i (span_at at piece) d lawful.legal lawful.may is) fits)

body-torn : (aim : Aim) (log : List Entry) (p at : ℕ) (piece : List ℕ) (first : Option (List ℕ)) (old files : Option Files) → Lawful aim log p at piece → BodyFits aim log first old → IfKnown (InFile Body (Torn at (length piece))) old files → BodyFits aim log first files
body-torn aim log p at piece first None None lawful fits goes = tt
body-torn aim log p at piece first None (Some files) lawful fits goes = absurd (cc)
body-torn aim log p at piece first (Some old) None lawful fits goes = absurd goes
body-torn aim log p at piece first (Some old) (Some files) lawful fits goes =
    let w = writable aim log p (span_at at piece) lawful.legal lawful.may in
    let within : at + length piece ≤ length old.body = omega (arith, w.within, fits.sized) in
    fits-elsewhere aim (events log) first at (length piece) old.body files.body (torn at (length piece) old.body files.body within goes.0) (λ i d is. writable_unjudged aim log p i (span_at at piece) d lawful.legal lawful.may is) fits

-- whether the write failed or not
pub body-written : {T E : Type 0} (aim : Aim) (log : List Entry) (p at : ℕ) (piece : List ℕ) (first : Option (List ℕ)) (old files : Option Files) (r : Result T E) → Lawful aim log p at piece → BodyFits aim log first old
    → MatchResult r (λ _. IfKnown (Writes Body at piece) old files) (λ _. IfKnown (InFile Body (Torn at (length piece))) old files) → BodyFits aim log first files
body-written aim log p at piece first old files (Ok x) lawful fits goes = body-laid aim log p at piece first old files lawful fits goes
body-written aim log p at piece first old files (Err e) lawful fits goes = body-torn aim log p at piece first old files lawful fits goes

pub rose-of : {T E : Type 0} {before now : ℕ} (r : Result T E) → is_err r ≡ true → HasCause before now r → Rose before now
rose-of (Ok x) failed cause = absurd (cc)
rose-of (Err e) failed cause = cause.failed

pub begins-within : (aim : Aim) (log : List Entry) (p at : ℕ) (piece : List ℕ) (first : Option (List ℕ)) (old : Option Files) → Lawful aim log p at piece → BodyFits aim log first old → IfSome old (λ files. at ≤ length (file_of Body files))
begins-within aim log p at piece first None lawful fits = tt
begins-within aim log p at piece first (Some old) lawful fits =
    let w = writable aim log p (span_at at piece) lawful.legal lawful.may in
    omega (arith, w.some, w.within, fits.sized)

-- what is seen is what is kept
pub legal-inside : {V : Type 0} (inside now : Stored V) → inside ≡ now → IsLegal now.aim now.log → IsLegal inside.aim inside.log
legal-inside {V = V} inside now same legal = subst (λ (s : Stored V). IsLegal s.aim s.log) (sym same) legal

may-if : (b : Bool) → then_some (not b) NotHeld ≡ None → b ≡ true
may-if true none = refl
may-if false none = absurd (cc)

pub lawful-at : (aim : Aim) (log : List Entry) (p at end : ℕ) (piece : List ℕ) → IsLegal aim log → then_some (not (may_write (events log) p (record { s = at; e = end }))) NotHeld ≡ None → end ≡ at + length piece → Lawful aim log p at piece
lawful-at aim log p at end piece legal none same =
    let span = λ (n : ℕ). let r : Span = record { s = at; e = n } in r in
    record { legal = legal; may = ap (λ (n : ℕ). may_write (events log) p (span n)) (sym same) ∙ may-if (may_write (events log) p (span end)) none }

-- a span whose end is no number of 64 bits lies in no file
pub too-long : {V : Type 0} (inside now : Stored V) (p at : ℕ) (piece : List ℕ) → inside ≡ now → IsSize inside.aim.size → IsLegal now.aim now.log → (at + length piece < 2 ^ 64 → ⊥)
    → IsRefused (then_some (not (may_write (events now.log) p (span_at at piece))) NotHeld) NotHeld
too-long inside now p at piece same size legal long =
    let n : inside.aim.size ≡ now.aim.size = ap (λ s. s.aim.size) same in
    elim (may_write (events now.log) p (span_at at piece)) as (λ b. may_write (events now.log) p (span_at at piece) ≡ b → IsRefused (then_some (not b) NotHeld) NotHeld) [
      | true ↦ λ may. let w = writable now.aim now.log p (span_at at piece) legal may in absurd (long (omega (arith, size.1, w.within)))
      | false ↦ λ may. inr refl
    ] refl
