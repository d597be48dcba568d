-- What a part file keeps of its log file, over calls that don't write it.
use Rattle.std.proofs.Common.{◌≡◌, ℕ, ◌≤◌, Bool, true, false, List, [], ◌∷◌, ◌++◌, Option, Some, None, IfSome, IsFalse, IsTrue, if◌then◌else◌, refl, sym, ap, ◌∙◌, subst, inl}
use Rattle.std.proofs.lemmas.Bool.{true≢false}
use Rattle.ed2k_outside.specs.Crashes.{CrashView}
use Rattle.ed2k_outside.specs.Files.{Files}
use Rattle.ed2k_outside.specs.Runs.{Idle}
use Rattle.journal_core.specs.States.{State}
use Rattle.part_hashset.specs.declared.aim.Aim.{Aim}
use Rattle.part_store.specs.Body.{BeganTrue}
use Rattle.part_store.specs.Durable.{durable}
use Rattle.part_store.specs.Outlasts.{LogKeeps, Outlasts, StandsTo, header_of}
use Rattle.part_store.proofs.Carried.{rests-as}
use Rattle.part_store.proofs.DurableSteps.{IsSilent, durable-silent}
use Rattle.part_store.proofs.Kept.{began-before}
use Rattle.part_store.proofs.Stepping.{Before, before-of, early, image-rests, outlasts-added}
use Rattle.reserve_core.specs.Events.{events}
use Rattle.reserve_core.specs.Legal.{IsLegal}
use Rattle.reserve_core.specs.Seen.{added, newest_calls}
use Rattle.reserve_core.specs.declared.event.Entry.{Entry}
use Rattle.reserve_core.specs.declared.event.Event.{Event}
use Rattle.reserve_core.proofs.Latest.{events-added}

pub if-some : {X : Type 0} {P Q : X → Type 0} (o : Option X) → ((x : X) → P x → Q x) → IfSome o P → IfSome o Q
if-some None each told = tt
if-some (Some x) each told = each x told

-- the same is kept along equations of what it is kept of
pub keeps-as : {aim same : Aim} {root : Option (List ℕ)} {log new : List Entry} {gate : ℕ} {broken : Bool} {first : Option (List ℕ)} {files left : Option Files} {honest still : Bool} {crash : CrashView}
    → same ≡ aim → new ≡ log → left ≡ files → still ≡ honest → LogKeeps aim root log gate broken first files honest crash → LogKeeps same root new gate broken first left still crash
keeps-as {aim = aim} {same = same} {root = root} {log = log} {new = new} {gate = gate} {broken = broken} {first = first} {files = files} {left = left} {honest = honest} {still = still} {crash = crash} aims logs file awake keeps =
    subst (λ (a : Aim). LogKeeps a root new gate broken first left still crash) (sym aims)
    (subst (λ (l : List Entry). LogKeeps aim root l gate broken first left still crash) (sym logs)
    (subst (λ (f : Option Files). LogKeeps aim root log gate broken first f still crash) (sym file)
    (subst (λ (h : Bool). LogKeeps aim root log gate broken first files h crash) (sym awake) keeps)))

-- less may be left
pub outlasts-past : (aim : Aim) (root : Option (List ℕ)) (log : List Entry) (broken : Bool) (body : List ℕ) (made : ℕ) (since next : ℕ → Files → Type 0)
    → IsLegal aim log → newest_calls 0 log ≤ made → ((t : ℕ) (c : Files) → t ≤ made → next t c → since t c)
    → Outlasts aim root log broken body since → Outlasts aim root log broken body next
outlasts-past aim root log broken body made since next legal above past o = record {
  open_call = o.open_call;
  none = o.none;
  allowed = o.allowed;
  survives = λ front entry behind cut c left.
      o.survives front entry behind cut c (past entry.calls c (early log front entry behind made legal.calls above cut) left);
}

-- after calls that leave the files, and what a crash may leave
pub keeps-idle : {aim : Aim} {root : Option (List ℕ)} {log : List Entry} {gate : ℕ} {broken : Bool} {first : Option (List ℕ)} {files : Option Files} {honest : Bool} {old new : CrashView} (made : ℕ)
    → IsLegal aim log → newest_calls 0 log ≤ made → (IsTrue honest → Idle made old new)
    → LogKeeps aim root log gate broken first files honest old → LogKeeps aim root log gate broken first files honest new
keeps-idle {aim = aim} {root = root} {log = log} {broken = broken} {files = files} {old = old} {new = new} made legal above idle keeps = record {
  low = keeps.low;
  stands = keeps.stands;
  synced = λ works honest c left. keeps.synced works honest c ((idle honest).now c left);
  outlasts = λ honest began.
      if-some files (λ f o. outlasts-past aim root log broken f.body made old.since new.since legal above (idle honest).past o) (keeps.outlasts honest began);
}

silent-outlasts : (aim : Aim) (root : Option (List ℕ)) (log : List Entry) (e : Event) (broken : Bool) (body : List ℕ) (made : ℕ) (crash : CrashView)
    → IsSilent aim.size e → IsLegal aim log → newest_calls 0 log ≤ made → IsFalse broken
    → ((t : ℕ) (c : Files) → t ≤ made → crash.image c → crash.since t c) → ((c : Files) → crash.since made c → crash.image c)
    → Outlasts aim root log broken body crash.since → Outlasts aim root (added log made e) broken body crash.since
silent-outlasts aim root log e broken body made crash silent legal above works counts only o =
    let was : Before aim root log made body crash.since = before-of legal above works o in
    outlasts-added aim root log made e broken made crash.since crash.since body body (λ c. ⊥) was
    (record { passes = λ t c le left. inl left; leaves = λ x out. refl; either = λ c none. absurd none })
    (λ c left. rests-as (durable-silent aim.size (events log) e silent) (image-rests aim root log body made crash.image crash.since legal.events above counts was.survives c (only c left)))

-- after an entry that is silent, which makes no call of the vault
pub keeps-silent : {aim : Aim} {root : Option (List ℕ)} {log : List Entry} {gate : ℕ} {broken : Bool} {first : Option (List ℕ)} {files : Option Files} {honest : Bool} {crash : CrashView} (e : Event) (made : ℕ)
    → IsSilent aim.size e → IsLegal aim log → newest_calls 0 log ≤ made → IsFalse broken
    → ((t : ℕ) (c : Files) → t ≤ made → crash.image c → crash.since t c) → ((c : Files) → crash.since made c → crash.image c)
    → LogKeeps aim root log gate broken first files honest crash → LogKeeps aim root (added log made e) gate broken first files honest crash
keeps-silent {aim = aim} {root = root} {log = log} {gate = gate} {broken = broken} {first = first} {files = files} {crash = crash} e made silent legal above works counts only keeps =
    let same : events (added log made e) ≡ events log ++ e ∷ [] = events-added log made e in
    let state : durable aim.size (events (added log made e)) ≡ durable aim.size (events log) = ap (durable aim.size) same ∙ durable-silent aim.size (events log) e silent in
    record {
      low = keeps.low;
      stands = λ whole. if-some files (λ f told. subst (λ (s : State). StandsTo (header_of aim root) f.log s gate) (sym state) told) (keeps.stands whole);
      synced = keeps.synced;
      outlasts = λ honest began.
          if-some files (λ f o. silent-outlasts aim root log e broken f.body made crash silent legal above works counts only o)
          (keeps.outlasts honest (began-before (events log) e first (subst (λ (h : List Event). BeganTrue h first) same began)));
    }

-- the entry of a silent call that was Ok is added, and else nothing
pub keeps-silent-if : {aim : Aim} {root : Option (List ℕ)} {log new : List Entry} {gate : ℕ} {broken : Bool} {first : Option (List ℕ)} {files : Option Files} {honest : Bool} {crash : CrashView} {calls made : ℕ} (e : Event) (b : Bool)
    → IsSilent aim.size e → IsLegal aim log → newest_calls 0 log ≤ made → IsFalse broken
    → ((t : ℕ) (c : Files) → t ≤ made → crash.image c → crash.since t c) → ((c : Files) → crash.since made c → crash.image c)
    → calls ≡ made → new ≡ (if b then added log calls e else log)
    → LogKeeps aim root log gate broken first files honest crash → LogKeeps aim root new gate broken first files honest crash
keeps-silent-if {log = log} {made = made} e true silent legal above works counts only count is keeps =
    keeps-as refl (is ∙ ap (λ (k : ℕ). added log k e) count) refl refl (keeps-silent e made silent legal above works counts only keeps)
keeps-silent-if e false silent legal above works counts only count is keeps = keeps-as refl is refl refl keeps

-- a call failed that left the files, and what a crash may leave: no event may follow the log
pub keeps-broken : {aim : Aim} {root : Option (List ℕ)} {log : List Entry} {gate : ℕ} {broken : Bool} {first : Option (List ℕ)} {files : Option Files} {honest : Bool} {crash : CrashView}
    → LogKeeps aim root log gate broken first files honest crash → LogKeeps aim root log gate true first files honest crash
keeps-broken {aim = aim} {root = root} {log = log} {files = files} {crash = crash} keeps = record {
  low = λ works. absurd (true≢false works);
  stands = λ works. absurd (true≢false works);
  synced = λ works. absurd (true≢false works);
  outlasts = λ honest began.
      if-some files (λ f o. let still : Outlasts aim root log true f.body crash.since = record { open_call = o.open_call; none = λ works. absurd (true≢false works); allowed = o.allowed; survives = o.survives } in still)
      (keeps.outlasts honest began);
}
