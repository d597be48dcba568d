-- A record is appended to the log file: what a crash leaves rests on the log before, or with its event.
use Rattle.std.proofs.Common.{◌≡◌, ◌⊎◌, ℕ, ◌≤◌, List, [], ◌∷◌, ◌++◌, ◌+◌, length, replicate, Option, Some, None, IfSome, refl, sym, ap, ◌∙◌, subst, inl, inr}
use Rattle.std.proofs.lemmas.List.{length-replicate}
use Rattle.ed2k_outside.specs.Crashes.{CrashView}
use Rattle.ed2k_outside.specs.Files.{Files}
use Rattle.ed2k_outside.specs.Runs.{Ran}
use Rattle.journal_core.specs.Appends.{IsMeant, MayHave}
use Rattle.journal_core.specs.Gates.{Grown, IsEither}
use Rattle.journal_core.specs.LogFile.{Stands}
use Rattle.journal_core.specs.Records.{IsSpelling, Spells, text_of}
use Rattle.journal_core.specs.States.{State}
use Rattle.journal_core.specs.declared.header.Header.{Header}
use Rattle.journal_core.specs.declared.record.Record.{Record}
use Rattle.journal_core.proofs.Held.{front_of, grown-gate, stands-at, stands-ends, stands-grown, stands-kept}
use Rattle.part_hashset.specs.declared.aim.Aim.{Aim}
use Rattle.part_store.specs.Durable.{RestsOn, durable}
use Rattle.part_store.specs.Outlasts.{StandsTo, header_of}
use Rattle.part_store.proofs.Carried.{Carries, carried, rests}
use Rattle.part_store.proofs.Followed.{Recorded}
use Rattle.part_store.proofs.Stepping.{Before, Stepped, image-rests}
use Rattle.reserve_core.specs.Events.{events}
use Rattle.reserve_core.specs.declared.event.Entry.{Entry}
use Rattle.reserve_core.specs.declared.event.Event.{Event}

-- the log file has the record or hasn't, beside bytes that have what is promised either way
pub appended : (aim : Aim) (root : Option (List ℕ)) (h : List Event) (e : Event) (r : Record) (told text body : List ℕ) (c : Files) (st : Stands (header_of aim root) told (durable aim.size h))
    → Recorded aim root h e r → IsSpelling r text → IsEither (front_of st) text c.log → Carries aim.size h body c.body → Carries aim.size (h ++ e ∷ []) body c.body
    → RestsOn (header_of aim root) h body c ⊎ RestsOn (header_of aim root) (h ++ e ∷ []) body c
appended aim root h e r told text body c st recorded is either carries gained = elim either [
  | inl ends ↦ inl (rests (stands-kept st ends) carries)
  | inr grown ↦ inr (rests (subst (λ (s : State). Stands (header_of aim root) c.log s) (sym recorded.tells) (stands-grown st r text is recorded.follows grown)) gained)
]

-- what the run of an append leaves is a step, where each image's bytes have what the event promises, too
pub append-steps : (aim : Aim) (root : Option (List ℕ)) (log : List Entry) (e : Event) (r : Record) (told text body : List ℕ) (made : ℕ) (old new : CrashView) (Q : Files → Type 0) (st : Stands (header_of aim root) told (durable aim.size (events log)))
    → Before aim root log made body old.since → Recorded aim root (events log) e r → IsSpelling r text
    → ((t : ℕ) (c : Files) → t ≤ made → old.image c → old.since t c)
    → ((was : Files) → old.image was → Carries aim.size (events log) body was.body → Carries aim.size (events log ++ e ∷ []) body was.body)
    → Ran made old new (MayHave old (front_of st) text) Q
    → Stepped aim root (events log) e made old.since new.since body body (MayHave old (front_of st) text)
append-steps aim root log e r told text body made old new Q st was recorded is counts gains run = record {
  passes = run.each;
  leaves = λ x out. refl;
  either = λ c may.
      let carries = carried (image-rests aim root log body made old.image old.since was.legal.events was.above counts was.survives may.was may.there) in
      let gained = gains may.was may.there carries in
      appended aim root (events log) e r told text body c st recorded is may.log
      (subst (λ (b : List ℕ). Carries aim.size (events log) body b) (sym may.body) carries)
      (subst (λ (b : List ℕ). Carries aim.size (events log ++ e ∷ []) body b) (sym may.body) gained);
}

-- what an append has to be given

pub meant-some : (header : Header) (s : State) (gate : ℕ) (r : Record) (spelled : List ℕ) (f : Files) → Spells r spelled → (to : StandsTo header f.log s gate) → IsMeant gate spelled (Some f) (front_of to.0) (text_of r)
meant-some header s gate r spelled f spells to = record { at = to.1 ∙ stands-at to.0; closed = spells.whole; ends = stands-ends to.0 }

-- where the vault tells its files, the bytes up to the gate are those that its log file has
pub meant : (header : Header) (s : State) (gate : ℕ) (r : Record) (spelled : List ℕ) (files : Option Files) → Spells r spelled → IfSome files (λ f. StandsTo header f.log s gate)
    → (front : List ℕ) × (text : List ℕ) × IsMeant gate spelled files front text
meant header s gate r spelled None spells to = (replicate gate 0, text_of r, record { at = sym (length-replicate gate 0); closed = spells.whole; ends = tt })
meant header s gate r spelled (Some f) spells to = (front_of to.0, text_of r, meant-some header s gate r spelled f spells to)

-- the log file stands for what is durable after the event, and ends at the next gate
pub appended-stands : (aim : Aim) (root : Option (List ℕ)) (h : List Event) (e : Event) (r : Record) (gate later : ℕ) (spelled told log : List ℕ) (to : StandsTo (header_of aim root) told (durable aim.size h) gate)
    → Recorded aim root h e r → Spells r spelled → later ≡ gate + length spelled → Grown (front_of to.0) (text_of r) log → StandsTo (header_of aim root) log (durable aim.size (h ++ e ∷ [])) later
appended-stands aim root h e r gate later spelled told log to recorded spells at grown =
    let st = stands-grown to.0 r (text_of r) spells.is recorded.follows grown in
    let next : later ≡ st.gate = at ∙ ap (λ (k : ℕ). k + length spelled) to.1 ∙ ap (λ (l : List ℕ). to.0.gate + length l) spells.whole ∙ sym (grown-gate to.0 r (text_of r) spells.is recorded.follows grown) in
    subst (λ (s : State). StandsTo (header_of aim root) log s later) (sym recorded.tells) (st, next)
