-- A write of the body: what a crash leaves rests on the log, since nothing that is durable or judged may be written.
use Rattle.std.proofs.Common.{◌≡◌, ℕ, ◌+◌, ◌-◌, ◌<◌, ◌≤◌, Bool, true, false, nat_lt, List, [], length, get_or, slice_get, Option, Some, is_some, refl, sym, ap, ◌∙◌, subst, inl, inr, arith}
use Rattle.std.specs.Bool.{then_some}
use Rattle.std.proofs.lemmas.Bool.{both_ways, cases_Bool}
use Rattle.std.proofs.lemmas.Bool.Decides.{nat_tests}
use Rattle.std.proofs.lemmas.List.{get_or-drop, get_or-take}
use Rattle.std.proofs.lemmas.Option.{slice_get-get_or, slice_get_past}
use Rattle.ed2k_outside.specs.Crashes.{CrashView, Crashes, Torn}
use Rattle.ed2k_outside.specs.Files.{Files, InFile}
use Rattle.ed2k_outside.specs.declared.vault.Which.TheVariants.{Body}
use Rattle.journal_core.specs.LogFile.{Stands}
use Rattle.md4_hash.specs.Md4.{md4}
use Rattle.part_hashset.specs.declared.aim.Aim.{Aim}
use Rattle.part_sizes.specs.Span.{has}
use Rattle.part_sizes.proofs.Laws.{between_has}
use Rattle.part_store.specs.Durable.{RestsOn, Same, durable}
use Rattle.part_store.specs.Outlasts.{header_of}
use Rattle.part_store.proofs.Carried.{Carries, carried, rests, rests-beside}
use Rattle.part_store.proofs.Laid.{Elsewhere, Lawful, part-elsewhere, torn}
use Rattle.part_store.proofs.Stepping.{Before, Stepped, image-rests}
use Rattle.reserve_core.specs.Desk.{span_at}
use Rattle.reserve_core.specs.Events.{events}
use Rattle.reserve_core.specs.Filled.{is_durable, is_filled}
use Rattle.reserve_core.specs.declared.event.Entry.{Entry}
use Rattle.reserve_core.specs.declared.event.Event.TheVariants as event
use Rattle.reserve_core.proofs.Durable.{durable-filled}
use Rattle.reserve_core.proofs.Writable.{writable, writable_unfilled, writable_unjudged}

-- bytes outside a range that alone has changed

get-same : (xs ys : List ℕ) (x : ℕ) → length xs ≡ length ys → get_or xs x 0 ≡ get_or ys x 0 → slice_get xs x ≡ slice_get ys x
get-same xs ys x long same = elim (cases_Bool (nat_lt x (length xs))) [
  | inl within ↦
      let below : x < length xs = grind (arith, nat_tests) in
      slice_get-get_or xs x 0 below ∙ ap (λ (k : ℕ). Some k) same ∙ sym (slice_get-get_or ys x 0 (omega (arith, below, long)))
  | inr past ↦
      let above : length xs ≤ x = grind (arith, nat_tests) in
      slice_get_past xs x above ∙ sym (slice_get_past ys x (omega (arith, above, long)))
]

before-range : (at n x : ℕ) (old new : List ℕ) → Elsewhere at n old new → x < at → get_or new x 0 ≡ get_or old x 0
before-range at n x old new same below = sym (get_or-take at new x 0 below) ∙ ap (λ (l : List ℕ). get_or l x 0) same.front ∙ get_or-take at old x 0 below

behind-range : (at n x : ℕ) (old new : List ℕ) → Elsewhere at n old new → at + n ≤ x → get_or new x 0 ≡ get_or old x 0
behind-range at n x old new same above =
    let there : at + n + (x - (at + n)) ≡ x = omega (arith, above) in
    ap (λ (k : ℕ). get_or new k 0) (sym there) ∙ sym (get_or-drop (at + n) new (x - (at + n)) 0)
    ∙ ap (λ (l : List ℕ). get_or l (x - (at + n)) 0) same.behind
    ∙ get_or-drop (at + n) old (x - (at + n)) 0 ∙ ap (λ (k : ℕ). get_or old k 0) there

pub get-elsewhere : (at : ℕ) (piece : List ℕ) (x : ℕ) (old new : List ℕ) → Elsewhere at (length piece) old new → has (span_at at piece) x ≡ false → slice_get new x ≡ slice_get old x
get-elsewhere at piece x old new same out =
    get-same new old x same.long
    (elim (cases_Bool (nat_lt x at)) [
      | inl before ↦ before-range at (length piece) x old new same (grind (arith, nat_tests))
      | inr not_before ↦ behind-range at (length piece) x old new same (grind (arith, nat_tests))
    ])

-- nothing that is durable lies in what may be written
apart : (aim : Aim) (log : List Entry) (p at : ℕ) (piece : List ℕ) → Lawful aim log p at piece → (x : ℕ) → is_durable aim.size (events log) x ≡ true → has (span_at at piece) x ≡ false
apart aim log p at piece lawful x durable = elim (cases_Bool (has (span_at at piece) x)) [
  | inl inside ↦
      let between = between_has (span_at at piece) x inside in
      absurd (both_ways (is_filled aim.size (events log) x) (writable_unfilled aim log p x (span_at at piece) lawful.legal lawful.may between.0 between.1) (durable-filled aim.size (events log) x durable))
  | inr out ↦ out
]

-- bytes that a write changes in its range alone have what they had
pub carries-written : (aim : Aim) (log : List Entry) (p at : ℕ) (piece body bytes next : List ℕ) → Lawful aim log p at piece → Elsewhere at (length piece) bytes next
    → Carries aim.size (events log) body bytes → Carries aim.size (events log) body next
carries-written aim log p at piece body bytes next lawful same carries = record {
  sized = same.long ∙ carries.sized;
  verdicts = λ i d is.
      carries.verdicts i d is
      ∙ ap md4 (sym (part-elsewhere at (length piece) i bytes next same (writable_unjudged aim log p i (span_at at piece) d lawful.legal lawful.may is)));
  same = λ x here none. get-elsewhere at piece x bytes next same (apart aim log p at piece lawful x here) ∙ carries.same x here none;
}

-- the body itself has them, too
pub same-written : (aim : Aim) (log : List Entry) (p at : ℕ) (piece body now : List ℕ) → Lawful aim log p at piece → Elsewhere at (length piece) body now → Same aim.size body (events log) [] now
same-written aim log p at piece body now lawful same = λ x here none. sym (get-elsewhere at piece x body now same (apart aim log p at piece lawful x here))

untouched : (here : Bool) → is_some (then_some here true) ≡ false → here ≡ false
untouched true is = absurd (cc)
untouched false is = refl

-- what a call that writes may leave: a file that a crash might have left before, torn in the range
pub record MayTear (old : CrashView) (at n : ℕ) (c : Files) : Type 0 where
  pub was : Files
  pub there : old.image was
  pub tears : InFile Body (Torn at n) was c

-- what such a call may leave rests on the log, beside the body as the call began
pub torn-leaves : (aim : Aim) (root : Option (List ℕ)) (log : List Entry) (p at : ℕ) (piece body : List ℕ) (made : ℕ) (old : CrashView)
    → Lawful aim log p at piece → Before aim root log made body old.since
    → ((t : ℕ) (c : Files) → t ≤ made → old.image c → old.since t c)
    → (c : Files) → MayTear old at (length piece) c → RestsOn (header_of aim root) (events log) body c
torn-leaves aim root log p at piece body made old lawful was counts c may =
    let on = image-rests aim root log body made old.image old.since was.legal.events was.above counts was.survives may.was may.there in
    let w = writable aim log p (span_at at piece) lawful.legal lawful.may in
    let within : at + length piece ≤ length may.was.body = omega (arith, w.within, on.sound.sized) in
    rests
    (subst (λ (l : List ℕ). Stands (header_of aim root) l (durable aim.size (events log))) (sym may.tears.1) on.sound.log)
    (carries-written aim log p at piece body may.was.body c.body lawful (torn at (length piece) may.was.body c.body within may.tears.0) (carried on))

pub write-steps : (aim : Aim) (root : Option (List ℕ)) (log : List Entry) (p at : ℕ) (piece body now : List ℕ) (made : ℕ) (old new : CrashView)
    → Lawful aim log p at piece → Before aim root log made body old.since → Elsewhere at (length piece) body now
    → ((t : ℕ) (c : Files) → t ≤ made → old.image c → old.since t c)
    → Crashes (InFile Body (Torn at (length piece))) made old new
    → Stepped aim root (events log) (event.Write p (span_at at piece)) made old.since new.since body now (MayTear old at (length piece))
write-steps aim root log p at piece body now made old new lawful was same counts call = record {
  passes = λ t c early left. elim (call.since t c early left) [
    | inl past ↦ inl past
    | inr own ↦ inr (record { was = own.0; there = own.1; tears = own.2 })
  ];
  leaves = λ x out. get-elsewhere at piece x body now same (untouched (has (span_at at piece) x) out);
  either = λ c may. inl (rests-beside (same-written aim log p at piece body now lawful same) (torn-leaves aim root log p at piece body made old lawful was counts c may));
}
