-- What a part file keeps of its log file, after a call that writes the body.
use Rattle.std.proofs.Common.{◌≡◌, ℕ, ◌+◌, ◌≤◌, Bool, true, false, List, length, Option, Some, None, Result, Ok, Err, MatchResult, is_err, IfSome, IsFalse, IsTrue, sym, ap, ◌∙◌, subst, arith}
use Rattle.std.proofs.lemmas.Bool.{true≢false}
use Rattle.ed2k_outside.specs.Causes.{IfKnown}
use Rattle.ed2k_outside.specs.Crashes.{CrashView, Crashes, IsDurable, Torn}
use Rattle.ed2k_outside.specs.Files.{Files, InFile, Writes, file_of, overwritten}
use Rattle.ed2k_outside.specs.declared.vault.Which.TheVariants.{Body, Log}
use Rattle.part_hashset.specs.declared.aim.Aim.{Aim}
use Rattle.part_store.specs.Body.{BeganTrue}
use Rattle.part_store.specs.Durable.{durable}
use Rattle.part_store.specs.Outlasts.{LogKeeps, Outlasts, StandsTo, header_of}
use Rattle.part_store.proofs.Carried.{rests-as, rests-beside}
use Rattle.part_store.proofs.DurableSteps.{durable-write}
use Rattle.part_store.proofs.Laid.{Elsewhere, Lawful, laid, torn}
use Rattle.part_store.proofs.Leaving.{MayTear, same-written, torn-leaves, write-steps}
use Rattle.part_store.proofs.Recording.{began-added}
use Rattle.part_store.proofs.Stepping.{Before, before-of, outlasts-added, outlasts-failed}
use Rattle.reserve_core.specs.Desk.{span_at}
use Rattle.reserve_core.specs.Events.{events}
use Rattle.reserve_core.specs.Seen.{added, newest_calls}
use Rattle.reserve_core.specs.declared.event.Entry.{Entry}
use Rattle.reserve_core.specs.declared.event.Event.TheVariants as event
use Rattle.reserve_core.proofs.Latest.{events-added}
use Rattle.reserve_core.proofs.Writable.{writable}

-- what a call knows as it writes a piece into the body
pub record MayLay (aim : Aim) (log : List Entry) (made p at : ℕ) (piece : List ℕ) (files : Option Files) (old : CrashView) : Type 0 where
  pub lawful : Lawful aim log p at piece
  pub above : newest_calls 0 log ≤ made
  pub sized : IfSome files (λ f. length f.body ≡ aim.size)
  pub counts : (t : ℕ) (c : Files) → t ≤ made → old.image c → old.since t c

-- a file of the right size has room for the piece
room : (aim : Aim) (log : List Entry) (p at : ℕ) (piece body : List ℕ) → Lawful aim log p at piece → length body ≡ aim.size → at + length piece ≤ length body
room aim log p at piece body lawful sized =
    let w = writable aim log p (span_at at piece) lawful.legal lawful.may in
    omega (arith, w.within, sized)

-- so the write begins within the body
pub may-begin : {aim : Aim} {log : List Entry} {made p at : ℕ} {piece : List ℕ} {old : CrashView} (files : Option Files) → MayLay aim log made p at piece files old → IfSome files (λ f. at ≤ length (file_of Body f))
may-begin None may = tt
may-begin {aim = aim} {log = log} {p = p} {at = at} {piece = piece} (Some f) may = omega (arith, room aim log p at piece f.body may.lawful may.sized)

torn-log : (at n : ℕ) (f : Files) (made : ℕ) (old new : CrashView) → IsDurable Log (Some f) old → Crashes (InFile Body (Torn at n)) made old new → (c : Files) → new.image c → c.log ≡ f.log
torn-log at n f made old new synced call c left = let from = call.image c left in from.2.1 ∙ synced from.0 from.1

-- the entry of a write that was done
written-outlasts : (aim : Aim) (root : Option (List ℕ)) (log : List Entry) (made calls p at : ℕ) (piece : List ℕ) (broken : Bool) (body now : List ℕ) (old new : CrashView)
    → Lawful aim log p at piece → Before aim root log made body old.since → Elsewhere at (length piece) body now
    → ((t : ℕ) (c : Files) → t ≤ made → old.image c → old.since t c) → ((c : Files) → new.since calls c → new.image c)
    → Crashes (InFile Body (Torn at (length piece))) made old new
    → Outlasts aim root (added log calls (event.Write p (span_at at piece))) broken now new.since
written-outlasts aim root log made calls p at piece broken body now old new lawful was same counts only call =
    outlasts-added aim root log calls (event.Write p (span_at at piece)) broken made old.since new.since body now (MayTear old at (length piece)) was
    (write-steps aim root log p at piece body now made old new lawful was same counts call)
    (λ c left.
    let from = call.image c (only c left) in
    let may : MayTear old at (length piece) c = record { was = from.0; there = from.1; tears = from.2 } in
    rests-as (durable-write aim.size (events log) p (span_at at piece))
    (rests-beside (same-written aim log p at piece body now lawful same) (torn-leaves aim root log p at piece body made old lawful was counts c may)))

-- after a write the log file is still as a read gives it
pub synced-written : (at : ℕ) (piece : List ℕ) (made : ℕ) (files now : Option Files) (old new : CrashView) → IfKnown (Writes Body at piece) files now → IsDurable Log files old
    → Crashes (InFile Body (Torn at (length piece))) made old new → IsDurable Log now new
synced-written at piece made None None old new goes synced call = λ c left. tt
synced-written at piece made None (Some g) old new goes synced call = absurd (cc)
synced-written at piece made (Some f) None old new goes synced call = absurd goes
synced-written at piece made (Some f) (Some g) old new goes synced call = λ c left. torn-log at (length piece) f made old new synced call c left ∙ sym (ap (λ (k : Files). k.log) goes)

write-made : (aim : Aim) (root : Option (List ℕ)) (log : List Entry) (gate made calls p at : ℕ) (piece : List ℕ) (broken : Bool) (first : Option (List ℕ)) (files now : Option Files) (honest : Bool) (old new : CrashView) → IsFalse broken
    → MayLay aim log made p at piece files old → IfKnown (Writes Body at piece) files now
    → (IsTrue honest → Crashes (InFile Body (Torn at (length piece))) made old new) → (IsTrue honest → IsDurable Log now new) → ((c : Files) → new.since calls c → new.image c)
    → LogKeeps aim root log gate broken first files honest old → LogKeeps aim root (added log calls (event.Write p (span_at at piece))) gate broken first now honest new
write-made aim root log gate made calls p at piece broken first None None honest old new works may goes call synced only keeps = record {
  low = keeps.low;
  stands = λ works. tt;
  synced = λ works. synced;
  outlasts = λ is began. tt;
}
write-made aim root log gate made calls p at piece broken first None (Some g) honest old new works may goes call synced only keeps = absurd (cc)
write-made aim root log gate made calls p at piece broken first (Some f) None honest old new works may goes call synced only keeps = absurd goes
write-made aim root log gate made calls p at piece broken first (Some f) (Some g) honest old new works may goes call synced only keeps =
    let e = event.Write p (span_at at piece) in
    let log_same : g.log ≡ f.log = ap (λ (k : Files). k.log) goes in
    let body : g.body ≡ overwritten f.body at piece = ap (λ (k : Files). k.body) goes in
    let same : Elsewhere at (length piece) f.body g.body = subst (λ (b : List ℕ). Elsewhere at (length piece) f.body b) (sym body) (laid at piece f.body (room aim log p at piece f.body may.lawful may.sized)) in
    let state : durable aim.size (events (added log calls e)) ≡ durable aim.size (events log) = ap (durable aim.size) (events-added log calls e) ∙ durable-write aim.size (events log) p (span_at at piece) in
    record {
      low = keeps.low;
      stands = λ works. subst (λ (l : List ℕ). StandsTo (header_of aim root) l (durable aim.size (events (added log calls e))) gate) (sym log_same)
          (subst (λ s. StandsTo (header_of aim root) f.log s gate) (sym state) (keeps.stands works));
      synced = λ works. synced;
      outlasts = λ is began.
          written-outlasts aim root log made calls p at piece broken f.body g.body old new may.lawful
          (before-of may.lawful.legal may.above works (keeps.outlasts is (began-added log calls e first began)))
          same may.counts only (call is);
    }

pub keeps-write-made : {aim : Aim} {root : Option (List ℕ)} {log : List Entry} {gate made p at : ℕ} {piece : List ℕ} {broken : Bool} {first : Option (List ℕ)} {files now : Option Files} {honest : Bool} {old new : CrashView} (calls : ℕ) → IsFalse broken
    → MayLay aim log made p at piece files old → IfKnown (Writes Body at piece) files now
    → (IsTrue honest → Crashes (InFile Body (Torn at (length piece))) made old new) → ((c : Files) → new.since calls c → new.image c)
    → LogKeeps aim root log gate broken first files honest old → LogKeeps aim root (added log calls (event.Write p (span_at at piece))) gate broken first now honest new
keeps-write-made {aim = aim} {root = root} {log = log} {gate = gate} {made = made} {p = p} {at = at} {piece = piece} {broken = broken} {first = first} {files = files} {now = now} {honest = honest} {old = old} {new = new} calls works may goes call only keeps =
    write-made aim root log gate made calls p at piece broken first files now honest old new works may goes call
    (λ is. synced-written at piece made files now old new goes (keeps.synced works is) (call is)) only keeps

-- a write that failed: its event may follow the log
write-failed : (aim : Aim) (root : Option (List ℕ)) (log : List Entry) (gate made p at : ℕ) (piece : List ℕ) (broken : Bool) (first : Option (List ℕ)) (files now : Option Files) (honest : Bool) (old new : CrashView) → IsFalse broken
    → MayLay aim log made p at piece files old → IfKnown (InFile Body (Torn at (length piece))) files now
    → (IsTrue honest → Crashes (InFile Body (Torn at (length piece))) made old new)
    → LogKeeps aim root log gate broken first files honest old → IsTrue honest → BeganTrue (events log) first → IfSome now (λ f. Outlasts aim root log true f.body new.since)
write-failed aim root log gate made p at piece broken first files None honest old new works may goes call keeps is began = tt
write-failed aim root log gate made p at piece broken first None (Some g) honest old new works may goes call keeps is began = absurd (cc)
write-failed aim root log gate made p at piece broken first (Some f) (Some g) honest old new works may goes call keeps is began =
    let was : Before aim root log made f.body old.since = before-of may.lawful.legal may.above works (keeps.outlasts is began) in
    let same : Elsewhere at (length piece) f.body g.body = torn at (length piece) f.body g.body (room aim log p at piece f.body may.lawful may.sized) goes.0 in
    outlasts-failed aim root log (event.Write p (span_at at piece)) made old.since new.since f.body g.body (MayTear old at (length piece)) was
    (write-steps aim root log p at piece f.body g.body made old new may.lawful was same may.counts (call is)) may.lawful.may

pub keeps-write-failed : {aim : Aim} {root : Option (List ℕ)} {log : List Entry} {gate made p at : ℕ} {piece : List ℕ} {broken : Bool} {first : Option (List ℕ)} {files now : Option Files} {honest : Bool} {old new : CrashView} → IsFalse broken
    → MayLay aim log made p at piece files old → IfKnown (InFile Body (Torn at (length piece))) files now
    → (IsTrue honest → Crashes (InFile Body (Torn at (length piece))) made old new)
    → LogKeeps aim root log gate broken first files honest old → LogKeeps aim root log gate true first now honest new
keeps-write-failed {aim = aim} {root = root} {log = log} {gate = gate} {made = made} {p = p} {at = at} {piece = piece} {broken = broken} {first = first} {files = files} {now = now} {honest = honest} {old = old} {new = new} works may goes call keeps = record {
  low = λ whole. absurd (true≢false whole);
  stands = λ whole. absurd (true≢false whole);
  synced = λ whole. absurd (true≢false whole);
  outlasts = write-failed aim root log gate made p at piece broken first files now honest old new works may goes call keeps;
}

-- what the vault's write did, by its answer

pub laid-of : {T E : Type 0} (at : ℕ) (piece : List ℕ) (files now : Option Files) (r : Result T E) → is_err r ≡ false
    → MatchResult r (λ _. IfKnown (Writes Body at piece) files now) (λ _. IfKnown (InFile Body (Torn at (length piece))) files now) → IfKnown (Writes Body at piece) files now
laid-of at piece files now (Ok x) ok goes = goes
laid-of at piece files now (Err e) ok goes = absurd (cc)

pub torn-of : {T E : Type 0} (at : ℕ) (piece : List ℕ) (files now : Option Files) (r : Result T E) → is_err r ≡ true
    → MatchResult r (λ _. IfKnown (Writes Body at piece) files now) (λ _. IfKnown (InFile Body (Torn at (length piece))) files now) → IfKnown (InFile Body (Torn at (length piece))) files now
torn-of at piece files now (Ok x) failed goes = absurd (cc)
torn-of at piece files now (Err e) failed goes = goes
