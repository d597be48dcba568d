-- What a part file keeps of its log file, after a call that appends a record or writes the body.
use Rattle.std.proofs.Common.{◌≡◌, ℕ, ◌+◌, ◌<◌, ◌≤◌, ◌^◌, Bool, true, List, [], ◌∷◌, ◌++◌, length, Option, Some, None, IfSome, IsFalse, IsTrue, sym, subst}
use Rattle.std.proofs.lemmas.Bool.{true≢false}
use Rattle.ed2k_outside.specs.Crashes.{CrashView, IsDurable}
use Rattle.ed2k_outside.specs.Files.{Files}
use Rattle.ed2k_outside.specs.Runs.{Ran}
use Rattle.ed2k_outside.specs.declared.vault.Which.TheVariants.{Log}
use Rattle.journal_core.specs.Appends.{IsMeant, MayHave}
use Rattle.journal_core.specs.Gates.{Grown}
use Rattle.journal_core.specs.LogFile.{Stands}
use Rattle.journal_core.specs.Records.{Spells, text_of}
use Rattle.journal_core.specs.declared.record.Record.{Record}
use Rattle.journal_core.proofs.Held.{front_of}
use Rattle.part_hashset.specs.declared.aim.Aim.{Aim}
use Rattle.part_store.specs.Body.{BeganTrue, body_of}
use Rattle.part_store.specs.Durable.{RestsOn, durable}
use Rattle.part_store.specs.Outlasts.{LogKeeps, Outlasts, StandsTo, header_of}
use Rattle.part_store.proofs.Appending.{append-steps, appended-stands, meant-some}
use Rattle.part_store.proofs.Carried.{Carries, carried, rests}
use Rattle.part_store.proofs.Followed.{Recorded}
use Rattle.part_store.proofs.Gaining.{Gains}
use Rattle.part_store.proofs.Kept.{began-before}
use Rattle.part_store.proofs.Stepping.{Before, Stepped, before-of, image-rests, outlasts-added, outlasts-failed}
use Rattle.reserve_core.specs.Events.{events}
use Rattle.reserve_core.specs.Legal.{IsLegal}
use Rattle.reserve_core.specs.Seen.{added, newest_calls}
use Rattle.reserve_core.specs.declared.event.Entry.{Entry}
use Rattle.reserve_core.specs.declared.event.Event.{Event}
use Rattle.reserve_core.proofs.Latest.{events-added}

-- What a call knows as it appends a record for its event: this moment is one of those since an earlier
-- call, and where the vault is honest, the bytes of whatever a crash may leave now have what the event promises.
pub record Ready (aim : Aim) (root : Option (List ℕ)) (log : List Entry) (made : ℕ) (e : Event) (r : Record) (spelled : List ℕ) (files : Option Files) (honest : Bool) (old : CrashView) : Type 0 where
  pub legal : IsLegal aim log
  pub above : newest_calls 0 log ≤ made
  pub recorded : Recorded aim root (events log) e r
  pub spells : Spells r spelled
  pub counts : (t : ℕ) (c : Files) → t ≤ made → old.image c → old.since t c
  pub gains : IsTrue honest → Gains aim.size (events log) e files old

-- the run of an append leaves the record, or none
abbrev pub IsRun : ℕ → List ℕ → Option Files → Bool → ℕ → CrashView → CrashView → Type 0
IsRun gate spelled files honest made old new =
    (front text : List ℕ) → IsMeant gate spelled files front text → IsTrue honest → Ran made old new (MayHave old front text) (MayHave old front text)

-- what an append is that answered Ok
pub record IsAppended (gate later : ℕ) (spelled : List ℕ) (files now : Option Files) (honest : Bool) (new : CrashView) : Type 0 where
  pub at : later ≡ gate + length spelled
  pub low : later + 1 < 2 ^ 64
  pub grown : (front text : List ℕ) → IsMeant gate spelled files front text → IfSome now (λ f. Grown front text f.log)
  pub synced : IsTrue honest → IsDurable Log now new

some-same : {X : Type 0} (a b : X) → Some a ≡ Some b → a ≡ b
some-same a b same = cc

pub began-added : (log : List Entry) (calls : ℕ) (e : Event) (first : Option (List ℕ)) → BeganTrue (events (added log calls e)) first → BeganTrue (events log) first
began-added log calls e first began = began-before (events log) e first (subst (λ (h : List Event). BeganTrue h first) (events-added log calls e) began)

steps-of : (aim : Aim) (root : Option (List ℕ)) (log : List Entry) (gate : ℕ) (made : ℕ) (e : Event) (r : Record) (spelled : List ℕ) (f : Files) (honest : Bool) (old new : CrashView) (to : StandsTo (header_of aim root) f.log (durable aim.size (events log)) gate)
    → Ready aim root log made e r spelled (Some f) honest old → Before aim root log made f.body old.since → IsTrue honest → IsRun gate spelled (Some f) honest made old new
    → Stepped aim root (events log) e made old.since new.since f.body f.body (MayHave old (front_of to.0) (text_of r))
steps-of aim root log gate made e r spelled f honest old new to ready was is run =
    append-steps aim root log e r f.log (text_of r) f.body made old new (MayHave old (front_of to.0) (text_of r)) to.0 was ready.recorded ready.spells.is ready.counts (ready.gains is)
    (run (front_of to.0) (text_of r) (meant-some (header_of aim root) (durable aim.size (events log)) gate r spelled f ready.spells to) is)

-- each image after an append that is done rests on the log with the event
newly-rests : (aim : Aim) (root : Option (List ℕ)) (log : List Entry) (gate later made : ℕ) (e : Event) (r : Record) (spelled : List ℕ) (f g : Files) (honest : Bool) (old new : CrashView) (to : StandsTo (header_of aim root) f.log (durable aim.size (events log)) gate)
    → Ready aim root log made e r spelled (Some f) honest old → Before aim root log made f.body old.since → IsTrue honest → IsRun gate spelled (Some f) honest made old new
    → Stands (header_of aim root) g.log (durable aim.size (events log ++ e ∷ [])) → IsDurable Log (Some g) new
    → (c : Files) → new.image c → RestsOn (header_of aim root) (events log ++ e ∷ []) f.body c
newly-rests aim root log gate later made e r spelled f g honest old new to ready was is run stands synced c left =
    let may = (run (front_of to.0) (text_of r) (meant-some (header_of aim root) (durable aim.size (events log)) gate r spelled f ready.spells to) is).now c left in
    let carries = carried (image-rests aim root log f.body made old.image old.since was.legal.events was.above ready.counts was.survives may.was may.there) in
    rests
    (subst (λ (l : List ℕ). Stands (header_of aim root) l (durable aim.size (events log ++ e ∷ []))) (sym (synced c left)) stands)
    (subst (λ (b : List ℕ). Carries aim.size (events log ++ e ∷ []) f.body b) (sym may.body) (ready.gains is may.was may.there carries))

-- an append that is done, and its entry
append-made : (aim : Aim) (root : Option (List ℕ)) (log : List Entry) (gate later made calls : ℕ) (e : Event) (r : Record) (spelled : List ℕ) (broken : Bool) (first : Option (List ℕ)) (files now : Option Files) (honest : Bool) (old new : CrashView) → IsFalse broken
    → Ready aim root log made e r spelled files honest old → IsRun gate spelled files honest made old new → IsAppended gate later spelled files now honest new
    → ((c : Files) → new.since calls c → new.image c) → body_of now ≡ body_of files
    → LogKeeps aim root log gate broken first files honest old → LogKeeps aim root (added log calls e) later broken first now honest new
append-made aim root log gate later made calls e r spelled broken first None None honest old new works ready run done only body keeps = record {
  low = λ works. done.low;
  stands = λ works. tt;
  synced = λ works. done.synced;
  outlasts = λ is began. tt;
}
append-made aim root log gate later made calls e r spelled broken first None (Some g) honest old new works ready run done only body keeps = absurd (cc)
append-made aim root log gate later made calls e r spelled broken first (Some f) None honest old new works ready run done only body keeps = absurd (cc)
append-made aim root log gate later made calls e r spelled broken first (Some f) (Some g) honest old new works ready run done only body keeps =
    let header = header_of aim root in
    let same : f.body ≡ g.body = sym (some-same g.body f.body body) in
    let to = keeps.stands works in
    let grown = done.grown (front_of to.0) (text_of r) (meant-some header (durable aim.size (events log)) gate r spelled f ready.spells to) in
    let stands = appended-stands aim root (events log) e r gate later spelled f.log g.log to ready.recorded ready.spells done.at grown in
    record {
      low = λ works. done.low;
      stands = λ works. subst (λ (h : List Event). StandsTo header g.log (durable aim.size h) later) (sym (events-added log calls e)) stands;
      synced = λ works. done.synced;
      outlasts = λ is began.
          let was : Before aim root log made f.body old.since = before-of ready.legal ready.above works (keeps.outlasts is (began-added log calls e first began)) in
          subst (λ (b : List ℕ). Outlasts aim root (added log calls e) broken b new.since) same
          (outlasts-added aim root log calls e broken made old.since new.since f.body f.body (MayHave old (front_of to.0) (text_of r)) was
          (steps-of aim root log gate made e r spelled f honest old new to ready was is run)
          (λ c left. newly-rests aim root log gate later made e r spelled f g honest old new to ready was is run stands.0 (done.synced is) c (only c left)));
    }

pub keeps-append-made : {aim : Aim} {root : Option (List ℕ)} {log : List Entry} {gate later made : ℕ} {e : Event} {r : Record} {spelled : List ℕ} {broken : Bool} {first : Option (List ℕ)} {files now : Option Files} {honest : Bool} {old new : CrashView} (calls : ℕ) → IsFalse broken
    → Ready aim root log made e r spelled files honest old → IsRun gate spelled files honest made old new → IsAppended gate later spelled files now honest new
    → ((c : Files) → new.since calls c → new.image c) → body_of now ≡ body_of files
    → LogKeeps aim root log gate broken first files honest old → LogKeeps aim root (added log calls e) later broken first now honest new
keeps-append-made {aim = aim} {root = root} {log = log} {gate = gate} {later = later} {made = made} {e = e} {r = r} {spelled = spelled} {broken = broken} {first = first} {files = files} {now = now} {honest = honest} {old = old} {new = new} calls works ready run done only body keeps =
    append-made aim root log gate later made calls e r spelled broken first files now honest old new works ready run done only body keeps

-- an append that failed: its event may follow the log
append-failed : (aim : Aim) (root : Option (List ℕ)) (log : List Entry) (gate made : ℕ) (e : Event) (r : Record) (spelled : List ℕ) (broken : Bool) (first : Option (List ℕ)) (files now : Option Files) (honest : Bool) (old new : CrashView) → IsFalse broken
    → Ready aim root log made e r spelled files honest old → IsRun gate spelled files honest made old new → body_of now ≡ body_of files
    → LogKeeps aim root log gate broken first files honest old → IsTrue honest → BeganTrue (events log) first → IfSome now (λ f. Outlasts aim root log true f.body new.since)
append-failed aim root log gate made e r spelled broken first files None honest old new works ready run body keeps is began = tt
append-failed aim root log gate made e r spelled broken first None (Some g) honest old new works ready run body keeps is began = absurd (cc)
append-failed aim root log gate made e r spelled broken first (Some f) (Some g) honest old new works ready run body keeps is began =
    let to = keeps.stands works in
    let was : Before aim root log made f.body old.since = before-of ready.legal ready.above works (keeps.outlasts is began) in
    subst (λ (b : List ℕ). Outlasts aim root log true b new.since) (sym (some-same g.body f.body body))
    (outlasts-failed aim root log e made old.since new.since f.body f.body (MayHave old (front_of to.0) (text_of r)) was
    (steps-of aim root log gate made e r spelled f honest old new to ready was is run) ready.recorded.allowed)

pub keeps-append-failed : {aim : Aim} {root : Option (List ℕ)} {log : List Entry} {gate made : ℕ} {e : Event} {r : Record} {spelled : List ℕ} {broken : Bool} {first : Option (List ℕ)} {files now : Option Files} {honest : Bool} {old new : CrashView} (later : ℕ) → IsFalse broken
    → Ready aim root log made e r spelled files honest old → IsRun gate spelled files honest made old new → body_of now ≡ body_of files
    → LogKeeps aim root log gate broken first files honest old → LogKeeps aim root log later true first now honest new
keeps-append-failed {aim = aim} {root = root} {log = log} {gate = gate} {made = made} {e = e} {r = r} {spelled = spelled} {broken = broken} {first = first} {files = files} {now = now} {honest = honest} {old = old} {new = new} later works ready run body keeps = record {
  low = λ whole. absurd (true≢false whole);
  stands = λ whole. absurd (true≢false whole);
  synced = λ whole. absurd (true≢false whole);
  outlasts = append-failed aim root log gate made e r spelled broken first files now honest old new works ready run body keeps;
}
