-- The calls of a part file are those of a desk.
use Rattle.std.proofs.Common.{◌≡◌, ℕ, Bool, true, false, not, ◌&&◌, List, [], ◌∷◌, ◌++◌, length, Option, None, Some, Result, Ok, Err, is_ok, ◌<◌, IsTrue, IfOk, IfErr, IfSome, MatchResult, if◌then◌else◌, refl, sym, ap, ◌∙◌, subst, inl, inr, arith}
use Rattle.std.proofs.lemmas.List.{append-nil, map-append}
use Rattle.ed2k_outside.specs.Causes.{IfKnown}
use Rattle.ed2k_outside.specs.Crashes.{Torn}
use Rattle.ed2k_outside.specs.Files.{Files, InFile, Writes, overwritten}
use Rattle.ed2k_outside.specs.declared.vault.Which.TheVariants.{Body}
use Rattle.md4_hash.specs.Md4.{md4}
use Rattle.part_sizes.specs.Part.{part}
use Rattle.part_hashset.specs.declared.aim.Aim.{Aim}
use Rattle.reserve_core.specs.Desk.{AddsOrRefuses, Answered, AreTrue, IsDeskCall, LaysBody, is_outside, own, span_at}
use Rattle.part_sizes.specs.declared.span.Span.{Span}
use Rattle.reserve_core.specs.Choice.{pick_of}
use Rattle.reserve_core.specs.Events.{events}
use Rattle.reserve_core.specs.Filled.{IsFullPart, is_uncommitted}
use Rattle.reserve_core.specs.Held.{is_holder}
use Rattle.reserve_core.specs.Seen.{added}
use Rattle.reserve_core.specs.declared.core_state.Written.{Written}
use Rattle.reserve_core.specs.declared.desk.DeskAsk.{DeskAsk}
use Rattle.reserve_core.specs.declared.desk.DeskAsk.TheVariants as ask
use Rattle.reserve_core.specs.declared.desk.Answer.{Answer}
use Rattle.reserve_core.specs.declared.desk.Answer.TheVariants as answer
use Rattle.reserve_core.specs.declared.event.Entry.{Entry}
use Rattle.reserve_core.specs.declared.event.Event.{Event}
use Rattle.reserve_core.specs.declared.event.Event.TheVariants as event
use Rattle.reserve_core.specs.declared.fault.DeskFault.{DeskFault}
use Rattle.reserve_core.specs.declared.fault.DeskFault.TheVariants as fault
use Rattle.reserve_core.specs.declared.verdict.Verdict.{Verdict as Judgement}
use Rattle.reserve_core.proofs.Latest.{events-added}
use Rattle.reserve_core.proofs.Writable.{released_none}
use Rattle.part_store.specs.Body.{WritesPiece, body_of}
use Rattle.part_store.specs.Calls.{Judges, Logs, Replies}
use Rattle.part_store.specs.Solo.{faults_of}

-- no other peer adds anything
served : (aim : Aim) (p : ℕ) (ask : DeskAsk) (answer : Answer) (old new mine : List Entry) (body later : Option (List ℕ)) → new ≡ old ++ mine → Answered aim p (events old) ask answer (events mine)
    → IfSome body (λ bytes. AreTrue bytes (events mine)) → IfKnown (LaysBody ask answer) body later → IsDeskCall aim p true ask answer old new body later
served aim p ask answer old new mine body later grows answered judged laid = record {
  others = [];
  mine = mine;
  grows = grows ∙ ap (λ (l : List Entry). l ++ mine) (sym (append-nil old));
  foreign = refl;
  none_else = λ _. refl;
  answered = subst (λ (l : List Entry). Answered aim p (events l) ask answer (events mine)) (sym (append-nil old)) answered;
  judged = judged;
  laid = laid;
}

-- a step that leaves each body may be none
goes-same : (step : List ℕ → List ℕ → Type 0) (body : Option (List ℕ)) → ((bytes : List ℕ) → step bytes bytes) → IfKnown step body body
goes-same step None leaves = refl
goes-same step (Some bytes) leaves = leaves bytes

leaves : (ask : DeskAsk) (answer : Answer) (old new : Option Files) → ((bytes : List ℕ) → LaysBody ask answer bytes bytes) → new ≡ old → IfKnown (LaysBody ask answer) (body_of old) (body_of new)
leaves ask answer old new each same =
    subst (λ (files : Option Files). IfKnown (LaysBody ask answer) (body_of old) (body_of files)) (sym same) (goes-same (LaysBody ask answer) (body_of old) each)

judges-none : (body : Option (List ℕ)) (h : List Event) → ((bytes : List ℕ) → AreTrue bytes h) → IfSome body (λ bytes. AreTrue bytes h)
judges-none None h each = tt
judges-none (Some bytes) h each = each bytes

-- what a call adds
abbrev pub mine_of : {T : Type 0} → ℕ → Event → Result T DeskFault → List Entry
mine_of calls e (Ok x) = (let entry : Entry = record { calls = calls; event = e } in entry) ∷ []
mine_of calls e (Err cause) = []

grown : {T : Type 0} (old new : List Entry) (calls : ℕ) (e : Event) (r : Result T DeskFault) → Logs old new calls e r → new ≡ old ++ mine_of calls e r
grown old new calls e (Ok x) log = log
grown old new calls e (Err cause) log = log ∙ sym (append-nil old)

adds : {T : Type 0} (aim : Aim) (old : List Entry) (calls : ℕ) (e : Event) (r : Result T DeskFault) → Replies aim old e r → AddsOrRefuses aim (events old) e r (events (mine_of calls e r))
adds aim old calls e (Ok x) reply = (reply, refl)
adds aim old calls e (Err cause) reply = (reply, refl)

events-grown : (old new mine : List Entry) → new ≡ old ++ mine → events new ≡ events old ++ events mine
events-grown old new mine grows = ap events grows ∙ map-append (λ (entry : Entry). entry.event) old mine

-- an event that is no verdict judges nothing
plain : {T : Type 0} (calls : ℕ) (e : Event) (r : Result T DeskFault) (body : Option (List ℕ)) → ((bytes : List ℕ) → AreTrue bytes (e ∷ [])) → IfSome body (λ bytes. AreTrue bytes (events (mine_of calls e r)))
plain calls e (Ok x) body each = judges-none body (e ∷ []) each
plain calls e (Err cause) body each = judges-none body [] (λ bytes. tt)

pub hashes-served : (aim : Aim) (p calls : ℕ) (set : List (List ℕ)) (old new : List Entry) (files files2 : Option Files) (r : Result (Unit {0}) DeskFault) → Replies aim old (event.Hashes set) r → Logs old new calls (event.Hashes set) r → files2 ≡ files
    → IsDeskCall aim p true (ask.Hashes set) (answer.Hashes r) old new (body_of files) (body_of files2)
hashes-served aim p calls set old new files files2 r reply log same =
    let e = event.Hashes set in
    served aim p (ask.Hashes set) (answer.Hashes r) old new (mine_of calls e r) (body_of files) (body_of files2) (grown old new calls e r log) (adds aim old calls e r reply)
    (plain calls e r (body_of files) (λ bytes. tt)) (leaves (ask.Hashes set) (answer.Hashes r) files files2 (λ bytes. refl) same)

pub offer-served : (aim : Aim) (p calls : ℕ) (bits : List Bool) (old new : List Entry) (files files2 : Option Files) (r : Result (Unit {0}) DeskFault) → Replies aim old (event.Offer p bits) r → Logs old new calls (event.Offer p bits) r → files2 ≡ files
    → IsDeskCall aim p true (ask.Offer bits) (answer.Offer r) old new (body_of files) (body_of files2)
offer-served aim p calls bits old new files files2 r reply log same =
    let e = event.Offer p bits in
    served aim p (ask.Offer bits) (answer.Offer r) old new (mine_of calls e r) (body_of files) (body_of files2) (grown old new calls e r log) (adds aim old calls e r reply)
    (plain calls e r (body_of files) (λ bytes. tt)) (leaves (ask.Offer bits) (answer.Offer r) files files2 (λ bytes. refl) same)

pub reserve-served : (aim : Aim) (p calls : ℕ) (old new : List Entry) (files files2 : Option Files) (r : Result (List Span) DeskFault) → Replies aim old (event.Reserve p (pick_of aim.size (events old) p)) r
    → Logs old new calls (event.Reserve p (pick_of aim.size (events old) p)) r → IfOk r (λ spans. spans ≡ pick_of aim.size (events old) p) → files2 ≡ files
    → IsDeskCall aim p true ask.Reserve (answer.Reserve r) old new (body_of files) (body_of files2)
reserve-served aim p calls old new files files2 r reply log spans same =
    let e = event.Reserve p (pick_of aim.size (events old) p) in
    served aim p ask.Reserve (answer.Reserve r) old new (mine_of calls e r) (body_of files) (body_of files2) (grown old new calls e r log) (adds aim old calls e r reply, spans)
    (plain calls e r (body_of files) (λ bytes. tt)) (leaves ask.Reserve (answer.Reserve r) files files2 (λ bytes. refl) same)

-- the bytes that a write leaves

abbrev IsLeft : ℕ → ℕ → DeskFault → List ℕ → List ℕ → Type 0
IsLeft at size cause old new = (cause ≡ fault.Fault → Torn at size old new) × ((cause ≡ fault.Fault → ⊥) → new ≡ old)

abbrev LaidBy : {T : Type 0} → ℕ → List ℕ → Result T DeskFault → List ℕ → List ℕ → Type 0
LaidBy at piece result old new = MatchResult result (λ _. new ≡ overwritten old at piece) (λ cause. IsLeft at (length piece) cause old new)

laid-ok : (at : ℕ) (piece : List ℕ) (old new : Option Files) → IfKnown (Writes Body at piece) old new → IfKnown (λ bytes bytes2. bytes2 ≡ overwritten bytes at piece) (body_of old) (body_of new)
laid-ok at piece None new goes = ap body_of goes
laid-ok at piece (Some old) None goes = absurd goes
laid-ok at piece (Some old) (Some new) goes = ap (λ (f : Files). f.body) goes

laid-fault : (at size : ℕ) (old new : Option Files) → IfKnown (InFile Body (Torn at size)) old new → IfKnown (IsLeft at size fault.Fault) (body_of old) (body_of new)
laid-fault at size None new goes = ap body_of goes
laid-fault at size (Some old) None goes = absurd goes
laid-fault at size (Some old) (Some new) goes = (λ is. goes.0, λ none. absurd (none refl))

laid-none : (at size : ℕ) (cause : DeskFault) (old new : Option Files) → (cause ≡ fault.Fault → ⊥) → new ≡ old → IfKnown (IsLeft at size cause) (body_of old) (body_of new)
laid-none at size cause old new other same =
    subst (λ (files : Option Files). IfKnown (IsLeft at size cause) (body_of old) (body_of files)) (sym same)
    (goes-same (IsLeft at size cause) (body_of old) (λ bytes. (λ is. absurd (other is), λ none. refl)))

laid-err : (at size : ℕ) (cause : DeskFault) (old new : Option Files) → (cause ≡ fault.Fault → IfKnown (InFile Body (Torn at size)) old new) → ((cause ≡ fault.Fault → ⊥) → new ≡ old)
    → IfKnown (IsLeft at size cause) (body_of old) (body_of new)
laid-err at size fault.Fault old new torn kept = laid-fault at size old new (torn refl)
laid-err at size _ old new torn kept = laid-none at size _ old new (λ e. cc) (kept (λ e. cc))

laid-by : {T : Type 0} (at : ℕ) (piece : List ℕ) (r : Result T DeskFault) (old new : Option Files) → WritesPiece at piece r old new → IfKnown (LaidBy at piece r) (body_of old) (body_of new)
laid-by at piece (Ok x) old new lays = laid-ok at piece old new lays
laid-by at piece (Err cause) old new lays = laid-err at (length piece) cause old new lays.0 lays.1

pub write-served : (aim : Aim) (p calls at : ℕ) (piece : List ℕ) (old new : List Entry) (files files2 : Option Files) (r : Result Written DeskFault) → Replies aim old (event.Write p (span_at at piece)) r → Logs old new calls (event.Write p (span_at at piece)) r
    → IfOk r (λ written. IsFullPart aim.size (events new) at written.full) → WritesPiece at piece r files files2
    → IsDeskCall aim p true (ask.Write at piece) (answer.Write r) old new (body_of files) (body_of files2)
write-served aim p calls at piece old new files files2 r reply log full lays =
    let e = event.Write p (span_at at piece) in
    let grows = grown old new calls e r log in
    served aim p (ask.Write at piece) (answer.Write r) old new (mine_of calls e r) (body_of files) (body_of files2) grows
    (adds aim old calls e r reply, subst (λ (h : List Event). IfOk r (λ written. IsFullPart aim.size h at written.full)) (events-grown old new (mine_of calls e r) grows) full)
    (plain calls e r (body_of files) (λ bytes. tt)) (laid-by at piece r files files2 lays)

pub dropped-served : (aim : Aim) (p calls i : ℕ) (old new : List Entry) (files files2 : Option Files) (r : Result (Unit {0}) DeskFault) → Replies aim old (event.Dropped i) r → Logs old new calls (event.Dropped i) r → files2 ≡ files
    → IsDeskCall aim p true (ask.DropPart i) (answer.DropPart r) old new (body_of files) (body_of files2)
dropped-served aim p calls i old new files files2 r reply log same =
    let e = event.Dropped i in
    served aim p (ask.DropPart i) (answer.DropPart r) old new (mine_of calls e r) (body_of files) (body_of files2) (grown old new calls e r log) (adds aim old calls e r reply)
    (plain calls e r (body_of files) (λ bytes. tt)) (leaves (ask.DropPart i) (answer.DropPart r) files files2 (λ bytes. refl) same)

-- a verdict is true of the body
judged-true : (calls i : ℕ) (digest : List ℕ) (r : Result Judgement DeskFault) (files : Option Files) → IfSome files (λ files. IfOk r (λ _. digest ≡ md4 (part files.body i)))
    → IfSome (body_of files) (λ bytes. AreTrue bytes (events (mine_of calls (event.Verdict i digest) r)))
judged-true calls i digest r None hashed = tt
judged-true calls i digest (Ok x) (Some files) hashed = (hashed, tt)
judged-true calls i digest (Err cause) (Some files) hashed = tt

pub verify-served : (aim : Aim) (p calls i : ℕ) (old new : List Entry) (files files2 : Option Files) (r : Result Judgement DeskFault) → Replies aim old (event.Verdict i []) r → Judges aim i files calls old new r → files2 ≡ files
    → IsDeskCall aim p true (ask.Verify i) (answer.Verify r) old new (body_of files) (body_of files2)
verify-served aim p calls i old new files files2 r reply judges same =
    let e = event.Verdict i judges.digest in
    served aim p (ask.Verify i) (answer.Verify r) old new (mine_of calls e r) (body_of files) (body_of files2) (grown old new calls e r judges.log) (judges.digest, adds aim old calls e r reply, judges.verdict)
    (judged-true calls i judges.digest r files judges.hashed) (leaves (ask.Verify i) (answer.Verify r) files files2 (λ bytes. refl) same)

-- an event that is added where a test says so

mine_if : Bool → ℕ → Event → List Entry
mine_if true calls e = (let entry : Entry = record { calls = calls; event = e } in entry) ∷ []
mine_if false calls e = []

grown-if : (old new : List Entry) (calls : ℕ) (e : Event) (b : Bool) → new ≡ (if b then added old calls e else old) → new ≡ old ++ mine_if b calls e
unfolding mine_if
grown-if old new calls e true log = log
grown-if old new calls e false log = log ∙ sym (append-nil old)

events-if : (b : Bool) (calls : ℕ) (e : Event) → events (mine_if b calls e) ≡ (if b then e ∷ [] else [])
unfolding mine_if
events-if true calls e = refl
events-if false calls e = refl

plain-if : (b : Bool) (calls : ℕ) (e : Event) (body : Option (List ℕ)) → ((bytes : List ℕ) → AreTrue bytes (e ∷ [])) → IfSome body (λ bytes. AreTrue bytes (events (mine_if b calls e)))
unfolding mine_if
plain-if true calls e body each = judges-none body (e ∷ []) each
plain-if false calls e body each = judges-none body [] (λ bytes. tt)

pub commit-served : (aim : Aim) (p calls : ℕ) (old new : List Entry) (files files2 : Option Files) (r : Result (Unit {0}) DeskFault) → IfErr r (λ fault. IsTrue (is_outside fault))
    → new ≡ (if is_ok r && is_uncommitted (events old) then added old calls event.Commit else old) → files2 ≡ files → IsDeskCall aim p true ask.Commit (answer.Commit r) old new (body_of files) (body_of files2)
commit-served aim p calls old new files files2 (Ok x) refused log same =
    let b = is_uncommitted (events old) in
    served aim p ask.Commit (answer.Commit (Ok x)) old new (mine_if b calls event.Commit) (body_of files) (body_of files2) (grown-if old new calls event.Commit b log) (events-if b calls event.Commit)
    (plain-if b calls event.Commit (body_of files) (λ bytes. tt)) (leaves ask.Commit (answer.Commit (Ok x)) files files2 (λ bytes. refl) same)
commit-served aim p calls old new files files2 (Err cause) refused log same =
    served aim p ask.Commit (answer.Commit (Err cause)) old new [] (body_of files) (body_of files2) (log ∙ sym (append-nil old)) (refused, refl)
    (judges-none (body_of files) [] (λ bytes. tt)) (leaves ask.Commit (answer.Commit (Err cause)) files files2 (λ bytes. refl) same)

pub release-served : (aim : Aim) (p calls : ℕ) (broken : Bool) (old new : List Entry) (files files2 : Option Files) → new ≡ (if not broken && is_holder (events old) p then added old calls (event.Release p) else old)
    → files2 ≡ files → IsDeskCall aim p true ask.Release answer.Release old new (body_of files) (body_of files2)
release-served aim p calls true old new files files2 log same =
    served aim p ask.Release answer.Release old new [] (body_of files) (body_of files2) (log ∙ sym (append-nil old)) (inr refl)
    (judges-none (body_of files) [] (λ bytes. tt)) (leaves ask.Release answer.Release files files2 (λ bytes. refl) same)
release-served aim p calls false old new files files2 log same =
    let b = is_holder (events old) p in
    served aim p ask.Release answer.Release old new (mine_if b calls (event.Release p)) (body_of files) (body_of files2) (grown-if old new calls (event.Release p) b log) (inl (events-if b calls (event.Release p)))
    (plain-if b calls (event.Release p) (body_of files) (λ bytes. tt)) (leaves ask.Release answer.Release files files2 (λ bytes. refl) same)

freed : (old new : List Entry) (p calls : ℕ) (b : Bool) → is_holder (events old) p ≡ b → new ≡ (if b then added old calls (event.Release p) else old) → is_holder (events new) p ≡ false
freed old new p calls true is log = ap (λ (l : List Entry). is_holder (events l) p) log ∙ ap (λ (h : List Event). is_holder h p) (events-added old calls (event.Release p)) ∙ released_none (events old) p
freed old new p calls false is log = ap (λ (l : List Entry). is_holder (events l) p) log ∙ is

-- a store that failed releases nothing
pub released-quiet : (old new : List Entry) (p calls : ℕ) (broken : Bool) → new ≡ (if not broken && is_holder (events old) p then added old calls (event.Release p) else old)
    → 0 < faults_of broken → own (events new) p ≡ own (events old) p
released-quiet old new p calls true log failed = ap (λ (l : List Entry). own (events l) p) log
released-quiet old new p calls false log failed = absurd (omega (arith, failed))

pub released-free : (old new : List Entry) (p calls : ℕ) (broken : Bool) → new ≡ (if not broken && is_holder (events old) p then added old calls (event.Release p) else old)
    → faults_of broken ≡ 0 → is_holder (events new) p ≡ false
released-free old new p calls true log whole = absurd (omega arith)
released-free old new p calls false log whole = freed old new p calls (is_holder (events old) p) refl log
