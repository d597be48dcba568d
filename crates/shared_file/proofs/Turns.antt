-- A turn of a peer: the file is taken, called once, and given back.
use Rattle.std.proofs.Common.{◌≡◌, ◌≢◌, ℕ, ◌+◌, ◌<◌, ◌≤◌, ◌&&◌, Bool, true, false, List, [], ◌∷◌, ◌++◌, length, Option, None, Some, Result, Ok, Err, IsTrue, IsFalse, not, MatchResult, if◌then◌else◌, inl, inr, ⊎_elim, is_ok, ne_eqb, refl, sym, ap, subst, ◌∙◌, arith}
use Rattle.std.proofs.lemmas.List.{append-nil}
use Rattle.atomic_table.specs.declared.shared.Seat.{Seat}
use Rattle.part_hashset.specs.declared.aim.Aim.{Aim}
use Rattle.reserve_core.specs.Choice.{pick_of}
use Rattle.reserve_core.specs.Desk.{AddsOrRefuses, Answered, IsDeskCall, commit_events, is_outside, is_own, own, span_at}
use Rattle.reserve_core.specs.Filled.{is_uncommitted}
use Rattle.reserve_core.specs.Held.{is_holder}
use Rattle.reserve_core.specs.declared.desk.DeskAsk.TheVariants as asks
use Rattle.reserve_core.specs.declared.desk.Answer.TheVariants as answers
use Rattle.reserve_core.specs.declared.event.Event.TheVariants as event
use Rattle.reserve_core.specs.declared.fault.DeskFault.{DeskFault}
use Rattle.reserve_core.specs.declared.fault.DeskFault.TheVariants as faults
use Rattle.reserve_core.specs.Seen.{added}
use Rattle.part_store.proofs.Served.{release-served, released-free}
use Rattle.part_store.specs.Calls.{Breaks, Logs}
use Rattle.part_store.specs.Solo.{faults_of}
use Rattle.reserve_core.specs.Events.{events}
use Rattle.reserve_core.specs.declared.desk.Answer.{Answer}
use Rattle.reserve_core.specs.declared.desk.DeskAsk.{DeskAsk}
use Rattle.reserve_core.specs.declared.event.Entry.{Entry}
use Rattle.reserve_core.specs.declared.event.Event.{Event}
use Rattle.turn_lock.specs.Views.{BeginsWith, IsFree, IsSamePass, birth_of, first_number, first_row, later, owned_of, row_of, seen_of, start_of, start_row}
use Rattle.turn_lock.specs.declared.known.Known.{Known}
use Rattle.turn_lock.specs.declared.known.Stage.{Stage}
use Rattle.turn_lock.specs.declared.known.Stage.TheVariants.{Idle, Waits, Holds, Calls, Spent}
use Rattle.turn_lock.proofs.Lists.{begins_through, none_some}
use Rattle.shared_file.specs.Notes.{entries, marks, noted}
use Rattle.ed2k_outside.specs.declared.vault.Vault as vault
use Rattle.part_store.proofs.Origins.{told_back}
use Rattle.part_store.specs.Body.{Stored}
use Rattle.part_store.specs.Origin.{Origin, origin_code, origin_in, origin_of}
use Rattle.shared_file.specs.Peers.{HasRow, HasStart, Looks, SeesMark, Serves, at_rest, has_none, is_idle, seen_log, seen_marks, wanted_of}
use Rattle.shared_file.specs.Turns.{Marks, Steps}
use Rattle.shared_file.specs.declared.noted.Noted.{Noted}
use Rattle.shared_file.proofs.NoteLemmas.{entries_append, marks_append, noted_entries, noted_marks, noted_more, noted_same, one_if, own_longer, own_more}

-- what lies behind the log that was seen
pub entries_begin : (now seen : List Noted) (begins : BeginsWith now seen) → entries now ≡ entries seen ++ entries begins.0
entries_begin now seen begins = ap entries begins.1 ∙ entries_append seen begins.0

pub marks_grow : (now seen : List Noted) → BeginsWith now seen → marks seen ≤ marks now
marks_grow now seen begins = omega (arith, ap marks begins.1, marks_append seen begins.0)

no_length : {A : Type 0} (l : List A) → length l ≡ 0 → l ≡ []
no_length [] none = refl
no_length (x ∷ l) none = absurd (omega arith)

-- others added nothing of a peer whose row is all that the log has of it
pub others_foreign : (n : ℕ) (before others : List Entry) (row : List Event) → row ≡ own (events (before ++ others)) n → length row ≤ length (own (events before) n) → own (events others) n ≡ []
others_foreign n before others row is has =
    let all = own_longer n before others in
    let size : length row ≡ length (own (events before) n) + length (own (events others) n) = ap length is ∙ all in
    no_length (own (events others) n) (omega (arith, size, has))

by_two : {P : Type 0} (b : Bool) → (b ≡ true → P) → (b ≡ false → P) → P
by_two true holds fails = holds refl
by_two false holds fails = fails refl

fault_not_broken : {X : Type 0} (r : Result X DeskFault) → r ≡ Err faults.Fault → r ≡ Err faults.Broken → ⊥
fault_not_broken r fault broken = cc

not_own : (e : Event) (m : ℕ) → is_own m e ≡ false → own (e ∷ []) m ≡ []
not_own e m is = ap (λ (b : Bool). if b then e ∷ [] else []) is

adds_others : {X : Type 0} (aim : Aim) (h : List Event) (e : Event) (r : Result X DeskFault) (added : List Event) (m : ℕ) → AddsOrRefuses aim h e r added → is_own m e ≡ false → own added m ≡ []
adds_others aim h e (Ok x) added m adds other = ap (λ (l : List Event). own l m) adds.1 ∙ not_own e m other
adds_others aim h e (Err cause) added m adds other = ap (λ (l : List Event). own l m) adds.1

if_others : (b : Bool) (e : Event) (added : List Event) (m : ℕ) → added ≡ (if b then e ∷ [] else []) → is_own m e ≡ false → own added m ≡ []
if_others true e added m is other = ap (λ (l : List Event). own l m) is ∙ not_own e m other
if_others false e added m is other = ap (λ (l : List Event). own l m) is

commit_others : {X : Type 0} (h : List Event) (r : Result X DeskFault) (added : List Event) (m : ℕ) → MatchResult r (λ _. added ≡ commit_events h) (λ cause. IsTrue (is_outside cause) × (added ≡ [])) → own added m ≡ []
commit_others h (Ok x) added m is = if_others (is_uncommitted h) event.Commit added m is refl
commit_others h (Err cause) added m is = ap (λ (l : List Event). own l m) is.1

-- a call adds no event of another number
answered_others : (aim : Aim) (n : ℕ) (h : List Event) (ask : DeskAsk) (answer : Answer) (added : List Event) → Answered aim n h ask answer added → (m : ℕ) → m ≢ n → own added m ≡ []
answered_others aim n h asks.HasSet (answers.HasSet kept) added is m other = ap (λ (l : List Event). own l m) is.1
answered_others aim n h asks.Holds (answers.Holds holds) added is m other = ap (λ (l : List Event). own l m) is.1
answered_others aim n h (asks.NextFailed from) (answers.NextFailed found) added is m other = ap (λ (l : List Event). own l m) is.1
answered_others aim n h (asks.Hashes set) (answers.Hashes r) added is m other = adds_others aim h (event.Hashes set) r added m is refl
answered_others aim n h (asks.Offer bits) (answers.Offer r) added is m other = adds_others aim h (event.Offer n bits) r added m is (ne_eqb n m (λ e. other (sym e)))
answered_others aim n h asks.Reserve (answers.Reserve r) added is m other = adds_others aim h (event.Reserve n (pick_of aim.size h n)) r added m is.0 (ne_eqb n m (λ e. other (sym e)))
answered_others aim n h (asks.Write at piece) (answers.Write r) added is m other = adds_others aim h (event.Write n (span_at at piece)) r added m is.0 (ne_eqb n m (λ e. other (sym e)))
answered_others aim n h asks.Release answers.Release added is m other = ⊎_elim (λ e. if_others (is_holder h n) (event.Release n) added m e (ne_eqb n m (λ e. other (sym e)))) (λ e. ap (λ (l : List Event). own l m) e) is
answered_others aim n h asks.Commit (answers.Commit r) added is m other = commit_others h r added m is
answered_others aim n h (asks.Verify i) (answers.Verify r) added is m other = adds_others aim h (event.Verdict i is.0) r added m is.1 refl
answered_others aim n h (asks.DropPart i) (answers.DropPart r) added is m other = adds_others aim h (event.Dropped i) r added m is refl
answered_others aim n h _ _ added is m other = absurd is

-- what is said of a step is said of the peer that saw less before it
served_later : {V : Type 0} (aim : Aim) (n : ℕ) (ask : DeskAsk) (answer : Answer) (seen others : List Entry) (old new : Stored V) (now : List Entry) → old.aim ≡ aim → old.log ≡ seen ++ others → new.log ≡ now → own (events others) n ≡ []
    → Steps n ask answer old new → IsDeskCall aim n false ask answer seen now None None
served_later aim n ask answer seen others old new now wanted is same foreign steps = record {
  others = others;
  mine = steps.mine;
  grows = sym same ∙ (steps.grows ∙ ap (λ (l : List Entry). l ++ steps.mine) is);
  foreign = foreign;
  none_else = λ is. absurd (cc);
  answered = subst (λ (a : Aim). Answered a n (events (seen ++ others)) ask answer (events steps.mine)) wanted (subst (λ (l : List Entry). Answered old.aim n (events l) ask answer (events steps.mine)) is steps.answered);
  judged = tt;
  laid = refl;
}

rest_none : {A : Type 0} (l : List A) → has_none l ≡ true → l ≡ []
rest_none [] is = refl
rest_none (x ∷ l) is = absurd (cc)

both_left : (a b : Bool) → (a && b) ≡ true → a ≡ true
both_left true b is = refl
both_left false b is = is

both_right : (a b : Bool) → (a && b) ≡ true → b ≡ true
both_right true b is = is
both_right false b is = absurd (cc)

first_of : (owned : List (ℕ × List Event)) (n : ℕ) (row : List Event) (more : List (ℕ × List Event)) → owned ≡ (n, row) ∷ more → (first_row owned ≡ row) × (later owned ≡ more)
first_of owned n row more is = (ap first_row is, ap later is)

pub joined_row : (owned more all : List (ℕ × List Event)) (n : ℕ) → first_number owned ≡ Some n → all ≡ owned ++ more → first_row all ≡ first_row owned
joined_row [] more all n first is = none_some n first
joined_row (e ∷ owned) more all n first is = ap first_row is

-- the other rows are as they were
others_kept : (n : ℕ) (aim : Aim) (ask : DeskAsk) (answer : Answer) (log log2 : List Entry) (body body2 : Option (List ℕ)) → IsDeskCall aim n true ask answer log log2 body body2 → (m : ℕ) → m ≢ n → own (events log2) m ≡ own (events log) m
others_kept n aim ask answer log log2 body body2 served m other =
    let mine = answered_others aim n (events (log ++ served.others)) ask answer (events served.mine) served.answered m other in
    let before : log ++ served.others ≡ log = ap (λ (l : List Entry). log ++ l) (served.none_else refl) ∙ append-nil log in
    ap (λ (l : List Entry). own (events l) m) served.grows ∙ (own_more m (log ++ served.others) served.mine ∙ (ap (λ (l : List Event). own (events (log ++ served.others)) m ++ l) mine ∙
    (append-nil (own (events (log ++ served.others)) m) ∙ ap (λ (l : List Entry). own (events l) m) before)))

-- the file as it is given back begins with all that was seen of it
laid_begins : {X : Type 0} (n : ℕ) (aim : Aim) (ask : DeskAsk) (answer : Answer) (log log2 : List Entry) (broken broken2 : Bool) (before now : ℕ) (body body2 : Option (List ℕ)) (r : Result X DeskFault)
    → IsDeskCall aim n true ask answer log log2 body body2 → ((cause : DeskFault) → r ≡ Err cause → log2 ≡ log) → Breaks broken broken2 before now r → BeginsWith (noted log2 broken2) (noted log broken)
laid_begins n aim ask answer log log2 false broken2 before now body body2 r served stays breaks =
    let before : log ++ served.others ≡ log = ap (λ (l : List Entry). log ++ l) (served.none_else refl) ∙ append-nil log in
    subst (λ (l : List Entry). BeginsWith (noted l broken2) (noted log false)) (sym (served.grows ∙ ap (λ (l : List Entry). l ++ served.mine) before)) (noted_more log served.mine broken2)
laid_begins n aim ask answer log log2 true broken2 before now body body2 r served stays breaks =
    let told : r ≡ Err faults.Broken = breaks.broken.1 refl in
    let same : log2 ≡ log = stays faults.Broken told in
    let stuck : broken2 ≡ true = breaks.breaks.1 (inl refl) in
    subst (λ (l : List Entry). BeginsWith (noted l broken2) (noted log true)) (sym same) (subst (λ (b : Bool). BeginsWith (noted log b) (noted log true)) (sym stuck) (noted_same log true))

-- a call as a desk of one peer would serve it is a step of the peer with this number
pub call_steps : {V X : Type 0} (n : ℕ) (ask : DeskAsk) (answer : Answer) (old new : Stored V) (before now : ℕ) (body body2 : Option (List ℕ)) (r : Result X DeskFault)
    → IsDeskCall old.aim n true ask answer old.log new.log body body2 → ((cause : DeskFault) → r ≡ Err cause → new.log ≡ old.log) → Breaks old.broken new.broken before now r → Steps n ask answer old new
call_steps n ask answer old new before now body body2 r served stays breaks =
    let log = old.log in
    let same : log ++ served.others ≡ log = ap (λ (l : List Entry). log ++ l) (served.none_else refl) ∙ append-nil log in
    record {
      mine = served.mine;
      grows = served.grows ∙ ap (λ (l : List Entry). l ++ served.mine) same;
      answered = subst (λ (l : List Entry). Answered old.aim n (events l) ask answer (events served.mine)) same served.answered;
      begins = laid_begins n old.aim ask answer log new.log old.broken new.broken before now body body2 r served stays breaks;
      others = others_kept n old.aim ask answer log new.log body body2 served;
    }

-- a call that is refused leaves the log
pub stays_logged : {X : Type 0} (old new : List Entry) (calls : ℕ) (e : Event) (r : Result X DeskFault) → Logs old new calls e r → (cause : DeskFault) → r ≡ Err cause → new ≡ old
stays_logged old new calls e (Ok x) log cause is = absurd (cc)
stays_logged old new calls e (Err fault) log cause is = log

pub stays_committed : {X : Type 0} (old new : List Entry) (calls : ℕ) (r : Result X DeskFault) → new ≡ (if is_ok r && is_uncommitted (events old) then added old calls event.Commit else old) → (cause : DeskFault) → r ≡ Err cause → new ≡ old
stays_committed old new calls (Ok x) log cause is = absurd (cc)
stays_committed old new calls (Err fault) log cause is = log

none_broken : {X : Type 0} (old new : Bool) (before now : ℕ) (r : Result X DeskFault) → Breaks old new before now r → (r ≡ Err faults.Fault → ⊥) → (r ≡ Err faults.Broken → ⊥) → new ≡ false
none_broken old true before now r breaks not_fault not_broken =
    ⊎_elim (λ was. absurd (not_broken (breaks.broken.1 was))) (λ is. absurd (not_fault is)) (breaks.breaks.0 refl)
none_broken old false before now r breaks not_fault not_broken = refl

pub call_marks : {X : Type 0} (broken broken2 : Bool) (before now : ℕ) (r : Result X DeskFault) → Breaks broken broken2 before now r → Marks r broken broken2
call_marks broken broken2 before now r breaks = record {
  failed = λ is. (by_two broken (λ holds. absurd (fault_not_broken r is (breaks.broken.1 holds))) (λ fails. fails), breaks.breaks.1 (inr is));
  stuck = λ is. (breaks.broken.0 is, breaks.breaks.1 (inl (breaks.broken.0 is)));
  works = λ not_fault not_broken. none_broken broken broken2 before now r breaks not_fault not_broken;
}

release_begins : (log log2 mine : List Entry) (calls n : ℕ) (broken : Bool) → log2 ≡ log ++ mine → log2 ≡ (if not broken && is_holder (events log) n then added log calls (event.Release n) else log) → BeginsWith (noted log2 broken) (noted log broken)
release_begins log log2 mine calls n false grows is = subst (λ (l : List Entry). BeginsWith (noted l false) (noted log false)) (sym grows) (noted_more log mine false)
release_begins log log2 mine calls n true grows is = subst (λ (l : List Entry). BeginsWith (noted l true) (noted log true)) (sym is) (noted_same log true)

pub release_steps : {V : Type 0} (n calls : ℕ) (old new : Stored V) → new.broken ≡ old.broken → new.log ≡ (if not old.broken && is_holder (events old.log) n then added old.log calls (event.Release n) else old.log)
    → Steps n asks.Release answers.Release old new
release_steps n calls old new stays is =
    let log = old.log in
    let served = release-served old.aim n calls old.broken log new.log None None is refl in
    let same : log ++ served.others ≡ log = ap (λ (l : List Entry). log ++ l) (served.none_else refl) ∙ append-nil log in
    let grows : new.log ≡ log ++ served.mine = served.grows ∙ ap (λ (l : List Entry). l ++ served.mine) same in
    record {
      mine = served.mine;
      grows = grows;
      answered = subst (λ (l : List Entry). Answered old.aim n (events l) asks.Release answers.Release (events served.mine)) same served.answered;
      begins = subst (λ (b : Bool). BeginsWith (noted new.log b) (noted log old.broken)) (sym stays) (release_begins log new.log served.mine calls n old.broken grows is);
      others = others_kept n old.aim asks.Release answers.Release log new.log None None served;
    }

pub release_free : (n calls : ℕ) (log log2 : List Entry) (broken broken2 : Bool) → broken2 ≡ broken → log2 ≡ (if not broken && is_holder (events log) n then added log calls (event.Release n) else log) → IsFalse broken2 → IsFalse (is_holder (events log2) n)
release_free n calls log log2 broken broken2 stays is fails = released-free log log2 n calls broken is (ap faults_of (sym stays ∙ fails))

-- a question changes nothing
pub question_steps : {V : Type 0} (n : ℕ) (ask : DeskAsk) (answer : Answer) (file : Stored V) → Answered file.aim n (events file.log) ask answer [] → Steps n ask answer file file
question_steps n ask answer file answered = record {
  mine = [];
  grows = sym (append-nil file.log);
  answered = answered;
  begins = noted_same file.log file.broken;
  others = λ m other. refl;
}

-- the aim of a part file whose birth is known
pub born_aim : {V : Type 0} (vault : vault.Ghosts V) (file : Stored V) (birth : List ℕ) → origin_code (origin_of vault file) ≡ birth → file.aim ≡ (origin_in birth).aim
born_aim vault file birth is = ap (λ (o : Origin). o.aim) (sym (told_back (origin_of vault file)) ∙ ap origin_in is)

module _ {T : Type 0} where
  rest_idle : (stage : Stage T) → is_idle stage ≡ true → stage ≡ Idle
  rest_idle Idle is = refl
  rest_idle (Waits t) is = absurd (cc)
  rest_idle (Holds t x) is = absurd (cc)
  rest_idle (Calls t) is = absurd (cc)
  rest_idle Spent is = absurd (cc)

  pub rest_free : (s : Seat (Option T) (Known T Noted Event)) → at_rest s ≡ true → IsFree s
  rest_free s is = (rest_idle s.me.0.stage (both_left (is_idle s.me.0.stage) (has_none s.me.1) is), rest_none s.me.1 (both_right (is_idle s.me.0.stage) (has_none s.me.1) is))

  pub free_rest : (s : Seat (Option T) (Known T Noted Event)) → IsFree s → at_rest s ≡ true
  free_rest s free = ap (λ (stage : Stage T). is_idle stage && has_none s.me.1) free.0 ∙ ap has_none free.1

  -- a peer that saw more still has its start
  pub start_kept : (rows : T → ℕ → List Event) (old new : Seat (Option T) (Known T Noted Event)) → start_of new ≡ start_of old → BeginsWith (seen_of new) (seen_of old) → HasStart rows old → HasStart rows new
  start_kept rows old new same begins has n =
      let longer = own_longer n (seen_log old) (entries begins.0) in
      let grown : length (own (events (seen_log new)) n) ≡ length (own (events (seen_log old ++ entries begins.0)) n) = ap (λ (l : List Entry). length (own (events l) n)) (entries_begin (seen_of new) (seen_of old) begins) in
      let start : length (start_row rows (start_of new) n) ≡ length (start_row rows (start_of old) n) = ap (λ (s : Option T). length (start_row rows s n)) same in
      omega (arith, longer, grown, start, has n)

  pub row_kept : (old new : Seat (Option T) (Known T Noted Event)) (n : ℕ) → row_of new ≡ row_of old → BeginsWith (seen_of new) (seen_of old) → HasRow old n → HasRow new n
  row_kept old new n same begins has =
      let longer = own_longer n (seen_log old) (entries begins.0) in
      let grown : length (own (events (seen_log new)) n) ≡ length (own (events (seen_log old ++ entries begins.0)) n) = ap (λ (l : List Entry). length (own (events l) n)) (entries_begin (seen_of new) (seen_of old) begins) in
      omega (arith, longer, grown, ap length same, has)

  pub row_exact : (s : Seat (Option T) (Known T Noted Event)) (n : ℕ) → row_of s ≡ own (events (seen_log s)) n → HasRow s n
  row_exact s n is = omega (arith, ap length is)

  -- a turn, from the file as it was taken to the file as it is given back
  pub turn_serves : {V : Type 0} (n : ℕ) (ask : DeskAsk) (answer : Answer) (old mid new : Seat (Option T) (Known T Noted Event)) (taken laid : Stored V)
      → taken.aim ≡ wanted_of old → HasRow old n → row_of old ≡ own (events taken.log) n → BeginsWith (noted taken.log taken.broken) (seen_of old) → owned_of mid ≡ owned_of old → IsSamePass old mid
      → Steps n ask answer taken laid
      → seen_of new ≡ noted laid.log laid.broken → owned_of new ≡ (n, own (events laid.log) n) ∷ later (owned_of mid) → IsSamePass mid new
      → Serves n ask answer old new
  unfolding served_later
  turn_serves n ask answer old mid new taken laid wanted has row begins owned same steps seen2 owned2 same2 =
      let others = entries begins.0 in
      let before = seen_log old in
      let is : taken.log ≡ before ++ others = sym (noted_entries taken.log taken.broken) ∙ entries_begin (noted taken.log taken.broken) (seen_of old) begins in
      let foreign = others_foreign n before others (row_of old) (row ∙ ap (λ (l : List Entry). own (events l) n) is) has in
      let now : laid.log ≡ seen_log new = sym (noted_entries laid.log laid.broken) ∙ ap entries (sym seen2) in
      let first = first_of (owned_of new) n (own (events laid.log) n) (later (owned_of mid)) owned2 in
      let through = begins_through (noted laid.log laid.broken) (noted taken.log taken.broken) (seen_of old) steps.begins begins in
      let birth : birth_of new ≡ birth_of old = same2.1 ∙ same.1 in
      record {
        same = record {
          wanted = ap (λ (b : List ℕ). (origin_in b).aim) birth;
          peer = refl;
          origin = birth;
          alone = refl;
        };
        served = served_later (wanted_of old) n ask answer before others taken laid (seen_log new) wanted is now foreign steps;
        row = first.0 ∙ (ap (λ (l : List Entry). own (events l) n) steps.grows ∙ (own_more n taken.log steps.mine ∙ ap (λ (l : List Event). l ++ own (events steps.mine) n) (sym row)));
        exact = first.0 ∙ ap (λ (l : List Entry). own (events l) n) now;
        begins = (through.0, seen2 ∙ through.1);
        marked = marks_grow (seen_of new) (seen_of old) (through.0, seen2 ∙ through.1);
        joined = first.1 ∙ ap later owned;
        pass = (same2.0 ∙ same.0, birth, same2.2 ∙ same.2);
      }

  -- a turn in which the file is only asked
  pub turn_looks : (n : ℕ) (old mid new : Seat (Option T) (Known T Noted Event)) (log : List Entry) (broken : Bool)
      → HasRow old n → row_of old ≡ own (events log) n → BeginsWith (noted log broken) (seen_of old) → owned_of mid ≡ owned_of old → IsSamePass old mid
      → seen_of new ≡ noted log broken → owned_of new ≡ (n, own (events log) n) ∷ later (owned_of mid) → IsSamePass mid new → Looks n old new
  turn_looks n old mid new log broken has row begins owned same seen2 owned2 same2 =
      let others = entries begins.0 in
      let before = seen_log old in
      let is : log ≡ before ++ others = sym (noted_entries log broken) ∙ entries_begin (noted log broken) (seen_of old) begins in
      let now : log ≡ seen_log new = sym (noted_entries log broken) ∙ ap entries (sym seen2) in
      let first = first_of (owned_of new) n (own (events log) n) (later (owned_of mid)) owned2 in
      record {
        others = others;
        grows = sym now ∙ is;
        foreign = others_foreign n before others (row_of old) (row ∙ ap (λ (l : List Entry). own (events l) n) is) has;
        row = first.0 ∙ sym row;
        exact = first.0 ∙ ap (λ (l : List Entry). own (events l) n) now;
        begins = (begins.0, seen2 ∙ begins.1);
        marked = marks_grow (seen_of new) (seen_of old) (begins.0, seen2 ∙ begins.1);
        joined = first.1 ∙ ap later owned;
        pass = (same2.0 ∙ same.0, same2.1 ∙ same.1, same2.2 ∙ same.2);
      }

  -- what failed is seen by its mark
  pub turn_marks : {X : Type 0} (old new : Seat (Option T) (Known T Noted Event)) (log log2 : List Entry) (broken broken2 : Bool) (r : Result X DeskFault)
      → BeginsWith (noted log broken) (seen_of old) → seen_of new ≡ noted log2 broken2 → Marks r broken broken2 → SeesMark r old new
  turn_marks old new log log2 broken broken2 r begins seen told =
      let one : IsTrue broken2 → seen_marks new ≡ 1 = λ is. ap marks seen ∙ (noted_marks log2 broken2 ∙ ap one_if is) in
      record {
        fault = λ is.
            let none : marks (noted log broken) ≡ 0 = noted_marks log broken ∙ ap one_if (told.failed is).0 in
            let sum : marks (noted log broken) ≡ marks (seen_of old) + marks begins.0 = ap marks begins.1 ∙ marks_append (seen_of old) begins.0 in
            (omega (arith, none, sum), one (told.failed is).1);
        broken = λ is. one (told.stuck is).1;
        works = λ not_fault not_broken. ap marks seen ∙ (noted_marks log2 broken2 ∙ ap one_if (told.works not_fault not_broken));
      }

  -- what the peer keeps after its turn
  pub turn_keeps : (k n : ℕ) (mid new : Seat (Option T) (Known T Noted Event)) (log : List Entry) (broken : Bool) → seen_of new ≡ noted log broken → owned_of new ≡ (k, own (events log) k) ∷ later (owned_of mid) → n ≡ k → HasRow new n
  turn_keeps k n mid new log broken seen owned same =
      let now : log ≡ seen_log new = sym (noted_entries log broken) ∙ ap entries (sym seen) in
      let exact : row_of new ≡ own (events (seen_log new)) k = (first_of (owned_of new) k (own (events log) k) (later (owned_of mid)) owned).0 ∙ ap (λ (l : List Entry). own (events l) k) now in
      row_exact new n (exact ∙ ap (own (events (seen_log new))) (sym same))

  pub turn_starts : (rows : T → ℕ → List Event) (old mid new : Seat (Option T) (Known T Noted Event)) (first second : List Noted) → BeginsWith first (seen_of old) → BeginsWith second first → seen_of new ≡ second
      → start_of mid ≡ start_of old → start_of new ≡ start_of mid → HasStart rows old → HasStart rows new
  turn_starts rows old mid new first second begins more seen same same2 has =
      let through = begins_through second first (seen_of old) more begins in
      start_kept rows old new (same2 ∙ same) (through.0, seen ∙ through.1) has

  -- where the peer has seen no mark, the file isn't broken
  pub unmarked : (s : Seat (Option T) (Known T Noted Event)) (log : List Entry) (broken : Bool) → seen_of s ≡ noted log broken → seen_marks s ≡ 0 → IsFalse broken
  unmarked s log true seen none = let one : marks (noted log true) ≡ 1 = noted_marks log true in absurd (omega (arith, one, none, ap marks seen))
  unmarked s log false seen none = refl

  pub seen_is : (s : Seat (Option T) (Known T Noted Event)) (log : List Entry) (broken : Bool) → seen_of s ≡ noted log broken → seen_log s ≡ log
  seen_is s log broken seen = ap entries seen ∙ noted_entries log broken

  -- the first peer
  pub new_keeps : (n : ℕ) (s : Seat (Option T) (Known T Noted Event)) (log : List Entry) (broken : Bool) → seen_of s ≡ noted log broken → owned_of s ≡ (0, own (events log) 0) ∷ [] → n ≡ 0 → HasRow s n
  new_keeps n s log broken seen owned first =
      row_exact s n (ap first_row owned ∙ (ap (λ (l : List Entry). own (events l) 0) (sym (seen_is s log broken seen)) ∙ ap (own (events (seen_log s))) (sym first)))

  pub new_starts : (rows : T → ℕ → List Event) (s : Seat (Option T) (Known T Noted Event)) (value : T) (log : List Entry) (broken : Bool) → seen_of s ≡ noted log broken → start_of s ≡ Some value → ((n : ℕ) → rows value n ≡ own (events log) n)
      → HasStart rows s
  new_starts rows s value log broken seen start is n =
      let row : length (start_row rows (start_of s) n) ≡ length (own (events log) n) = ap (λ (v : Option T). length (start_row rows v n)) start ∙ ap length (is n) in
      let all : length (own (events (seen_log s)) n) ≡ length (own (events log) n) = ap (λ (l : List Entry). length (own (events l) n)) (seen_is s log broken seen) in
      omega (arith, row, all)

-- where a peer has seen the mark, the file is broken
pub marked_broken : (log : List Entry) (broken : Bool) (seen : List Noted) → BeginsWith (noted log broken) seen → 0 < marks seen → IsTrue broken
marked_broken log true seen begins some = refl
marked_broken log false seen begins some =
    let none : marks (noted log false) ≡ 0 = noted_marks log false in
    let fewer = marks_grow (noted log false) seen begins in absurd (omega (arith, none, fewer, some))
