-- How one round goes on with those before it.
use Rattle.std.proofs.Common.{◌≡◌, ◌⊎◌, ◌∙◌, refl, sym, ap, subst, inl, inr, ℕ, zero, suc, ◌+◌, ◌-◌, ◌<◌, ◌≤◌, ◌++◌, ◌&&◌, Bool, true, false, not, List, [], ◌∷◌, length, Option, None, Some, Result, Ok, Err, is_ok, IsTrue, IsFalse, IfSome, OnOk, arith}
use Rattle.std.proofs.lemmas.Bool.{both_ways}
use Rattle.std.specs.List.{All, list_all, list_any}
use Rattle.std.proofs.Math.Seq.{drop-length}
use Rattle.std.proofs.lemmas.List.{append-nil}
use Rattle.std.proofs.lemmas.List.Elements.{filter-append}
use Rattle.ed2k_link.proofs.Letters.{table_at}
use Rattle.ed2k_outside.specs.Causes.{IfKnown}
use Rattle.part_hashset.specs.declared.aim.Aim.{Aim}
use Rattle.part_sizes.specs.Part.{data_parts}
use Rattle.peer_fetch.specs.Fetches.{Due, EndsWith, Inside, IsToldAs, Talk, due_now, log_alone, standing}
use Rattle.peer_fetch.specs.Machine.{due, is_ready}
use Rattle.peer_fetch.specs.Moves.{Draws, IsBlamed, Later, Outside, bytes_to_come}
use Rattle.peer_fetch.specs.Plan.{Plan, Begin, Paused}
use Rattle.peer_fetch.specs.Serves.{Agrees, IsFromOutside}
use Rattle.peer_fetch.specs.Talk.{BeginsFirst, heard}
use Rattle.peer_fetch.specs.declared.cause.Cause.{Cause}
use Rattle.peer_fetch.specs.declared.cause.Cause.TheVariants as causes
use Rattle.peer_fetch.specs.declared.machine.SessionState.{SessionState}
use Rattle.peer_fetch.specs.declared.machine.SessionState.TheVariants as state
use Rattle.peer_fetch.specs.declared.peer_end.PeerEnd.{PeerEnd}
use Rattle.peer_fetch.specs.declared.session.Session.{Session}
use Rattle.peer_fetch.proofs.Fetches.{talk_stands, talks_join}
use Rattle.peer_fetch.proofs.ServingWalk.{served_is_whole}
use Rattle.peer_fetch.proofs.ServingWhole.{agrees_later, agrees_whole}
use Rattle.reserve_core.proofs.VerifiedFull.{verified_full}
use Rattle.peer_fetch.proofs.Pauses.{IsOwnLog, begun, idle, own_log, own_log_on}
use Rattle.reserve_core.specs.Desk.{is_own, own}
use Rattle.reserve_core.specs.Events.{events}
use Rattle.reserve_core.specs.Filled.{is_uncommitted}
use Rattle.reserve_core.specs.Held.{is_holder}
use Rattle.reserve_core.specs.Moved.{moved, moves}
use Rattle.reserve_core.specs.Verdicts.{is_verified, parts}
use Rattle.reserve_core.specs.declared.event.Entry.{Entry}
use Rattle.reserve_core.specs.declared.event.Event.{Event}
use Rattle.reserve_core.specs.Legal.{AreLegal}
use Rattle.ed2k_node.specs.Left.{GoesOn, HasNoFailed, IsComplete, IsSettled}
use Rattle.ed2k_node.specs.Rounds.{HasGiven, HasNoMore, Rounds}
use Rattle.ed2k_node.specs.Served.{ServesFile, IsStopped}
use Rattle.ed2k_node.specs.Talks.{RunsRound, TalksTo}
use Rattle.ed2k_node.specs.declared.rounds.TheConstants.{BUDGET}
use Rattle.ed2k_node.proofs.DueGiven.{given}
use Rattle.ed2k_node.proofs.Foreign.{holders_stay}

-- before the first round
pub record AtStart (aim : Aim) (start from : Due) (first old : Outside) (opened before : Inside) : Type 0 where
  pub session : Session
  pub names : session.aim ≡ aim
  pub begins : start.plan ≡ Begin session
  pub same_due : from ≡ start
  pub same_outside : old ≡ first
  pub same_inside : before ≡ opened

-- between two rounds: the talk so far ended because nothing was left to reserve, and what it left is settled;
-- it wasn't one over a stream that serves the file, since that ends with the whole file
pub record Between (aim : Aim) (start from : Due) (first old : Outside) (opened before : Inside) : Type 0 where
  pub session : Session
  pub pauses : from.plan ≡ Paused session
  pub talk : Talk aim 0 (standing start first (log_alone opened.log)) (standing from old (log_alone before.log)) causes.NoBlock
  pub settled : IsSettled aim before.log
  pub whole : HasNoFailed aim before.log
  pub free : IsFalse (is_holder before.log 0)
  pub unserved : (file : List ℕ) → ServesFile aim file opened first.ahead → ⊥

abbrev pub Going : Aim → Due → Due → Outside → Outside → Inside → Inside → Type 0
Going aim start from first old opened before = AtStart aim start from first old opened before ⊎ Between aim start from first old opened before

-- ---- the talk so far and that of one round more are one talk

own-still : (h more : List Event) (p : ℕ) → own more p ≡ [] → own (h ++ more) p ≡ own h p
own-still h more p none = filter-append (is_own p) h more ∙ (ap (λ (l : List Event). own h p ++ l) none ∙ append-nil (own h p))

-- what was settled behind a call is no part of the talk
settled-behind : (aim : Aim) (start to : Due) (first new : Outside) (opened paused : Inside) (now : List Event) (cause : Cause)
    → GoesOn paused.log now → Talk aim 0 (standing start first opened) (standing to new paused) cause → Talk aim 0 (standing start first (log_alone opened.log)) (standing to new (log_alone now)) cause
settled-behind aim start to first new opened paused now cause on talk =
    subst (λ (h : List Event). Talk aim 0 (standing start first (log_alone opened.log)) (standing to new (log_alone h)) cause) (sym on.grows)
    (talk_stands aim 0 (standing start first opened) (standing to new paused) on.more cause talk (own-still paused.log on.more 0 (on.foreign 0)))

talk-from-start : (aim : Aim) (start from to : Due) (first old new : Outside) (opened before paused : Inside) (cause : Cause)
    → AtStart aim start from first old opened before → Talk aim 0 (standing from old before) (standing to new paused) cause → Talk aim 0 (standing start first opened) (standing to new paused) cause
talk-from-start aim start from to first old new opened before paused cause at talk =
    subst (λ (d : Due). Talk aim 0 (standing d first opened) (standing to new paused) cause) at.same_due
    (subst (λ (o : Outside). Talk aim 0 (standing from o opened) (standing to new paused) cause) at.same_outside
    (subst (λ (i : Inside). Talk aim 0 (standing from old i) (standing to new paused) cause) at.same_inside talk))

talk-on : (aim : Aim) (start from to : Due) (first old new : Outside) (opened before paused : Inside) (cause : Cause)
    → Between aim start from first old opened before → Talk aim 0 (standing from old before) (standing to new paused) cause
    → Talk aim 0 (standing start first (log_alone opened.log)) (standing to new (log_alone paused.log)) cause
talk-on aim start from to first old new opened before paused cause between talk =
    talks_join aim 0 (standing start first (log_alone opened.log)) (standing from old (log_alone before.log)) (standing to new paused) [] before cause
    between.talk (sym (append-nil before.log)) refl talk

pub talk_so_far : (aim : Aim) (start from to : Due) (first old new : Outside) (opened before paused : Inside) (now : List Event) (cause : Cause)
    → Going aim start from first old opened before → GoesOn paused.log now → Talk aim 0 (standing from old before) (standing to new paused) cause
    → Talk aim 0 (standing start first (log_alone opened.log)) (standing to new (log_alone now)) cause
talk_so_far aim start from to first old new opened before paused now cause going on talk = elim going [
  | inl at ↦ settled-behind aim start to first new opened paused now cause on (talk-from-start aim start from to first old new opened before paused cause at talk)
  | inr between ↦ settled-behind aim start to first new (log_alone opened.log) (log_alone paused.log) now cause on (talk-on aim start from to first old new opened before paused cause between talk)
]

pub talks_to : (aim : Aim) (start from : Due) (first old new : Outside) (opened before now : Inside) (met : PeerEnd) (s : Session) (at : SessionState)
    → Going aim start from first old opened before → RunsRound aim (standing from old before) (standing (due_now s at) new now) met → TalksTo aim (standing start first (log_alone opened.log)) new now.log met
talks_to aim start from first old new opened before now met s at going ran =
    let fetched = ran.fetched in
    let called = fetched.called in
    record {
      to = fetched.to;
      cause = called.cause;
      talk = talk_so_far aim start from fetched.to first old new opened before ran.paused now.log called.cause going ran.settles called.talk;
      told_as = called.told_as;
      offered = fetched.offered;
    }

-- ---- the first round over a stream that serves the file

told-stopped : (cause told : Cause) → IsToldAs cause told → IsStopped cause → IsStopped told
told-stopped cause told said stopped = elim said [
  | inl same ↦ subst IsStopped (sym same) stopped
  | inr wanted ↦ subst IsStopped (sym wanted) tt
]

-- what stops it is the wire, the store or want of memory: the bytes are too few to use up the budget
outside-stopped : (cause told : Cause) → IsToldAs cause told → (told ≡ causes.Spent → ⊥) → IsFromOutside cause → IsStopped told
outside-stopped causes.WireFault told said unspent outside = told-stopped causes.WireFault told said tt
outside-stopped causes.StoreFault told said unspent outside = told-stopped causes.StoreFault told said tt
outside-stopped causes.NoMemory told said unspent outside = told-stopped causes.NoMemory told said tt
outside-stopped causes.Spent told said unspent outside = elim said [
  | inl same ↦ absurd (unspent same)
  | inr wanted ↦ subst IsStopped (sym wanted) tt
]
outside-stopped _ told said unspent outside = absurd outside

draws-few : (old new : Outside) (ahead_now : Option (List ℕ)) (stream : List ℕ) → old.ahead ≡ Some stream → new.ahead ≡ ahead_now → Draws old new → old.taken ≡ 0 → new.taken ≤ length stream
draws-few old new None stream is is-now draws fresh =
    let goes = subst (λ (a : Option (List ℕ)). IfKnown (λ bytes bytes_now. new.taken + (length bytes_now - length new.unread) ≡ old.taken + (length bytes - length old.unread)) a new.ahead) is draws in
    absurd (subst (λ (a : Option (List ℕ)). IfKnown (λ bytes bytes_now. new.taken + (length bytes_now - length new.unread) ≡ old.taken + (length bytes - length old.unread)) (Some stream) a) is-now goes)
draws-few old new (Some left) stream is is-now draws fresh =
    let goes = subst (λ (a : Option (List ℕ)). IfKnown (λ bytes bytes_now. new.taken + (length bytes_now - length new.unread) ≡ old.taken + (length bytes - length old.unread)) a new.ahead) is draws in
    let few = subst (λ (a : Option (List ℕ)). IfKnown (λ bytes bytes_now. new.taken + (length bytes_now - length new.unread) ≡ old.taken + (length bytes - length old.unread)) (Some stream) a) is-now goes in
    omega (arith, few, fresh)

-- every part is verified, so each is full, and the body is the file
verified-body : (aim : Aim) (file : List ℕ) (paused now : Inside) → length file ≡ aim.size → Agrees aim file paused → GoesOn paused.log now.log → now.body ≡ paused.body
    → AreLegal aim now.log → IsComplete aim now.log → now.body ≡ Some file
verified-body aim file paused now sized agrees on same legal all =
    agrees_whole aim file now sized (agrees_later aim file paused now same (on.fills_none aim.size) agrees)
    (λ i within. verified_full aim now.log i legal (table_at (is_verified aim now.log) (data_parts aim.size) all i within))

-- what a round over a stream that serves the file comes to: where every part is verified, the body is the file, and
-- that is so unless the session was stopped
pub record ServesRound (aim : Aim) (file : List ℕ) (now : Inside) (cause : Cause) : Type 0 where
  pub body : IsComplete aim now.log → now.body ≡ Some file
  pub ends : IsStopped cause ⊎ IsComplete aim now.log

pub first_served : (aim : Aim) (start from : Due) (first old new : Outside) (opened before now : Inside) (met : PeerEnd) (s : Session) (at : SessionState) (faults : ℕ)
    → AtStart aim start from first old opened before → RunsRound aim (standing from old before) (standing (due_now s at) new now) met → IsTrue opened.alone → first.taken ≡ 0 → IsBlamed BUDGET faults met.cause old new
    → AreLegal aim now.log → (file : List ℕ) → ServesFile aim file opened first.ahead → ServesRound aim file now met.cause
first_served aim start from first old new opened before now met s at faults begins ran alone fresh blamed legal file served =
    let called = ran.fetched.called in
    let talk = talk-from-start aim start from ran.fetched.to first old new opened before ran.paused called.cause begins called.talk in
    let whole = served_is_whole aim begins.session file served.body served.coming.stream (standing start first opened) (standing ran.fetched.to new ran.paused) called.cause
    begins.names served.coming.sized served.coming.hashed begins.begins served.is_new alone served.told served.made served.coming.comes served.coming.serves
    talk in
    let draws = subst (λ (o : Outside). Draws o new) begins.same_outside called.draws in
    let few = draws-few first new new.ahead served.coming.stream served.coming.comes refl draws fresh in
    let unspent : met.cause ≡ causes.Spent → ⊥ = λ spent. let full = blamed.spent spent in omega (arith, full.0, few, served.coming.short) in
    record {
      body = λ all. verified-body aim file ran.paused now served.coming.sized whole.0 ran.settles ran.body legal all;
      ends = elim whole.1 [
        | inl outside ↦ inl (outside-stopped called.cause met.cause called.told_as unspent outside)
        | inr done ↦ inr (ran.stays done.1.verified)
      ];
    }

-- ---- a round behind which the peer is alive

told-alive : (cause told : Cause) → IsToldAs cause told → told ≡ causes.NoBlock → cause ≡ causes.NoBlock
told-alive cause told said is = elim said [
  | inl same ↦ sym same ∙ is
  | inr wanted ↦ let other : causes.NoMemory ≡ causes.NoBlock = sym wanted ∙ is in absurd (cc)
]

ready-pauses : (s : Session) (at : SessionState) (plan : Plan) → plan ≡ due s at → IsTrue (is_ready at) → EndsWith plan causes.NoBlock → plan ≡ Paused s
ready-pauses s state.Fresh plan is ready ends = absurd (subst (λ (q : Plan). EndsWith q causes.NoBlock) is ends)
ready-pauses s state.Paused plan is ready ends = is
ready-pauses s _ plan is ready ends = absurd (cc)

alive-talk : (aim : Aim) (from : Due) (old new : Outside) (before now : Inside) (met : PeerEnd) (s : Session) (at : SessionState) → (ran : RunsRound aim (standing from old before) (standing (due_now s at) new now) met)
    → IsTrue met.alive → met.cause ≡ causes.NoBlock → Talk aim 0 (standing from old before) (standing (due_now s at) new ran.paused) causes.NoBlock
alive-talk aim from old new before now met s at ran alive is =
    let called = ran.fetched.called in
    subst (λ (d : Due). Talk aim 0 (standing from old before) (standing d new ran.paused) causes.NoBlock) (ran.fetched.goes_on alive)
    (subst (λ (c : Cause). Talk aim 0 (standing from old before) (standing ran.fetched.to new ran.paused) c) (told-alive called.cause met.cause called.told_as is) called.talk)

-- what is to be told of a round behind which a next one is due
pub record Leaves (aim : Aim) (h : List Event) : Type 0 where
  pub settled : IsSettled aim h
  pub whole : HasNoFailed aim h
  pub free : IsFalse (is_holder h 0)
  pub incomplete : IsComplete aim h → ⊥

pub between_after : (aim : Aim) (start from : Due) (first old new : Outside) (opened before now : Inside) (met : PeerEnd) (s : Session) (at : SessionState) (faults : ℕ)
    → Going aim start from first old opened before → RunsRound aim (standing from old before) (standing (due_now s at) new now) met → IsTrue met.alive → IsTrue (is_ready at) → met.cause ≡ causes.NoBlock → Leaves aim now.log
    → IsTrue opened.alone → first.taken ≡ 0 → IsBlamed BUDGET faults met.cause old new → AreLegal aim now.log → Between aim start (due_now s at) first new opened now
between_after aim start from first old new opened before now met s at faults going ran alive ready is leaves alone fresh blamed legal =
    let talk = alive-talk aim from old new before now met s at ran alive is in
    record {
      session = s;
      pauses = ready-pauses s at (due s at) refl ready talk.ends;
      talk = talk_so_far aim start from (due_now s at) first old new opened before ran.paused now.log causes.NoBlock going ran.settles talk;
      settled = leaves.settled;
      whole = leaves.whole;
      free = leaves.free;
      unserved = λ file served. elim going [
        | inl begins ↦ elim (first_served aim start from first old new opened before now met s at faults begins ran alone fresh blamed legal file served).ends [
          | inl stopped ↦ subst IsStopped is stopped
          | inr all ↦ leaves.incomplete all
        ]
        | inr between ↦ between.unserved file served
      ];
    }

-- ---- each round but the last takes a message

begun-some : (aim : Aim) (from to : Due) (old new : Outside) (before paused : Inside) (cause : Cause) (s : Session) → cause ≡ causes.NoBlock → from.plan ≡ Begin s
    → (talk : Talk aim 0 (standing from old before) (standing to new paused) cause) → 1 ≤ heard talk.acts
begun-some aim from to old new before paused cause s is plan =
    subst (λ (c : Cause). (talk : Talk aim 0 (standing from old before) (standing to new paused) c) → 1 ≤ heard talk.acts) (sym is)
    (λ talk. begun aim 0 from to old new before paused s talk plan)

idle-same : (aim : Aim) (from to : Due) (old new : Outside) (before paused : Inside) (cause : Cause) (s : Session) → cause ≡ causes.NoBlock → from.plan ≡ Paused s
    → IsTrue before.alone → IsFalse (is_uncommitted before.log) → IsFalse (is_holder before.log 0)
    → (talk : Talk aim 0 (standing from old before) (standing to new paused) cause) → heard talk.acts ≡ 0 → paused.log ≡ before.log
idle-same aim from to old new before paused cause s is plan alone committed free =
    subst (λ (c : Cause). (talk : Talk aim 0 (standing from old before) (standing to new paused) c) → heard talk.acts ≡ 0 → paused.log ≡ before.log) (sym is)
    (λ talk none. idle aim 0 from to old new before paused s talk plan none alone committed free)

none-or-some : (n : ℕ) → (n ≡ 0) ⊎ (1 ≤ n)
none-or-some zero = inl refl
none-or-some (suc n) = inr (omega arith)

unmoved : (aim : Aim) (h now : List Event) → now ≡ h → moved aim now (length h) ≡ false
unmoved aim h now is =
    subst (λ (g : List Event). moved aim g (length h) ≡ false) (sym is) (ap (list_any (moves aim h)) (drop-length h))

pub shrinks : (aim : Aim) (start from : Due) (first old new : Outside) (opened before now : Inside) (met : PeerEnd) (s : Session) (at : SessionState) (place : ℕ)
    → Going aim start from first old opened before → (ran : RunsRound aim (standing from old before) (standing (due_now s at) new now) met) → IsTrue before.alone → met.cause ≡ causes.NoBlock
    → place ≡ length before.log → IsTrue (moved aim now.log place) → bytes_to_come BUDGET new < bytes_to_come BUDGET old
shrinks aim start from first old new opened before now met s at place going ran alone is here moves_now =
    let called = ran.fetched.called in
    let to = ran.fetched.to in
    let ended = told-alive called.cause met.cause called.told_as is in
    let some : 1 ≤ heard called.talk.acts = elim going [
      | inl begins ↦ begun-some aim from to old new before ran.paused called.cause begins.session ended (ap (λ (d : Due). d.plan) begins.same_due ∙ begins.begins) called.talk
      | inr between ↦ elim (none-or-some (heard called.talk.acts)) [
        | inl none ↦
            let paused = idle-same aim from to old new before ran.paused called.cause between.session ended between.pauses alone between.settled.committed between.free called.talk none in
            let rests = ran.rests (subst (IsSettled aim) (sym paused) between.settled) (subst (HasNoFailed aim) (sym paused) between.whole) in
            let still = unmoved aim before.log now.log (rests ∙ paused) in
            let moves_here : moved aim now.log (length before.log) ≡ true = subst (λ (n : ℕ). moved aim now.log n ≡ true) here moves_now in
            absurd (both_ways (moved aim now.log (length before.log)) still moves_here)
        | inr heard_some ↦ heard_some
      ]
    ] in
    omega (arith, called.fewer, some)

-- ---- behind the last round none is due

pub one_peer : (says : PeerEnd → Type 0) (met : PeerEnd) → says met → All says (met ∷ [])
one_peer says met said zero d within = said
one_peer says met said (suc k) d within = absurd (omega (arith, within))

-- the test of a next round, where the store works and all was settled
pub none_due : (aim : Aim) (log : List Entry) (met : PeerEnd) (alive settled broken complete moves_now : Bool)
    → (alive && (settled && (not broken && (not complete && moves_now)))) ≡ false → met.alive ≡ alive → IsTrue settled → IsFalse broken
    → (complete ≡ true → IsComplete aim (events log)) → met.number ≡ Some 0 → (IsTrue met.alive → moves_now ≡ false → HasGiven aim (events log) 0) → Rounds aim log (met ∷ [])
none_due aim log met false settled broken complete moves_now ends is ok works all number given = inr (inr (one_peer (HasNoMore aim log) met (λ alive. let dead : true ≡ false = sym alive ∙ is in absurd (cc))))
none_due aim log met true false broken complete moves_now ends is ok works all number given = absurd (cc)
none_due aim log met true true true complete moves_now ends is ok works all number given = absurd (cc)
none_due aim log met true true false true moves_now ends is ok works all number given = inl (all refl)
none_due aim log met true true false false moves_now ends is ok works all number given =
    inr (inr (one_peer (HasNoMore aim log) met (λ alive. subst (λ (n : Option ℕ). IfSome n (HasGiven aim (events log))) (sym number) (given alive ends))))

-- ---- what is seen of the wire over all rounds

pub later_on : (budget : ℕ) (first old new : Outside) → Later budget first old → Later budget old new → Later budget first new
later_on budget first old new one two = record {
  read_faults = omega (arith, one.read_faults, two.read_faults);
  write_faults = omega (arith, one.write_faults, two.write_faults);
  taken = omega (arith, one.taken, two.taken);
  within = omega (arith, one.within, two.within);
  short = λ short. two.short (one.short short);
}

pub blamed_on : (budget faults : ℕ) (cause : Cause) (first old new : Outside) → Later budget first old → IsBlamed budget faults cause old new → IsBlamed budget faults cause first new
blamed_on budget faults cause first old new one blamed = record {
  wire = λ is. elim (blamed.wire is) [
    | inl writes ↦ inl (omega (arith, writes, one.write_faults))
    | inr reads ↦ inr (omega (arith, reads.0, one.read_faults), reads.1)
  ];
  ended = blamed.ended;
  frame = blamed.frame;
  spent = blamed.spent;
  store = blamed.store;
  linked = blamed.linked;
}

-- ---- the test of a next round

-- what it says where one is due
pub record IsDue (alive settled broken complete moves_now : Bool) : Type 0 where
  pub alive_now : alive ≡ true
  pub settled_now : settled ≡ true
  pub works : broken ≡ false
  pub lacks : complete ≡ false
  pub moved_now : moves_now ≡ true

pub due_all : (alive settled broken complete moves_now : Bool) → (alive && (settled && (not broken && (not complete && moves_now)))) ≡ true → IsDue alive settled broken complete moves_now
due_all true true false false true is = record { alive_now = refl; settled_now = refl; works = refl; lacks = refl; moved_now = refl }
due_all false settled broken complete moves_now is = absurd (cc)
due_all true false broken complete moves_now is = absurd (cc)
due_all true true true complete moves_now is = absurd (cc)
due_all true true false true moves_now is = absurd (cc)
due_all true true false false false is = absurd (cc)

pub ok_says : {T E P : Type 0} (result : Result T E) → is_ok result ≡ true → OnOk result P → P
ok_says (Ok done) is said = said
ok_says (Err fault) is said = absurd (cc)

pub lacks_some : (aim : Aim) (h : List Event) → list_all (is_verified aim h) (parts aim.size) ≡ false → IsComplete aim h → ⊥
lacks_some aim h lacks all = both_ways (list_all (is_verified aim h) (parts aim.size)) lacks all

-- no event of another peer's own is added
pub owned_on : (aim : Aim) (from : Due) (old new : Outside) (before now : Inside) (met : PeerEnd) (s : Session) (at : SessionState) → (ran : RunsRound aim (standing from old before) (standing (due_now s at) new now) met)
    → IsTrue before.alone → IsOwnLog 0 before.log → IsOwnLog 0 now.log
owned_on aim from old new before now met s at ran alone owned =
    let called = ran.fetched.called in
    subst (IsOwnLog 0) (sym ran.settles.grows)
    (own_log_on 0 ran.paused.log ran.settles.more ran.settles.foreign
    (own_log aim 0 from ran.fetched.to old new before ran.paused called.cause called.talk alone owned))

-- ---- behind the last round

given-ended : (aim : Aim) (from to : Due) (old new : Outside) (before paused : Inside) (h : List Event) (cause : Cause) → cause ≡ causes.NoBlock
    → (talk : Talk aim 0 (standing from old before) (standing to new paused) cause) → BeginsFirst talk.acts → IsTrue before.alone → IsOwnLog 0 before.log → IsFalse (is_holder paused.log 0)
    → GoesOn paused.log h → AreLegal aim h → IsFalse (moved aim h (length before.log)) → IsSettled aim h → HasNoFailed aim h → HasGiven aim h 0
given-ended aim from to old new before paused h cause is =
    subst (λ (c : Cause). (talk : Talk aim 0 (standing from old before) (standing to new paused) c) → BeginsFirst talk.acts → IsTrue before.alone → IsOwnLog 0 before.log → IsFalse (is_holder paused.log 0)
    → GoesOn paused.log h → AreLegal aim h → IsFalse (moved aim h (length before.log)) → IsSettled aim h → HasNoFailed aim h → HasGiven aim h 0) (sym is)
    (given aim 0 from to old new before paused h)

pub has_given : (aim : Aim) (from : Due) (old new : Outside) (before now : Inside) (met : PeerEnd) (s : Session) (at : SessionState) (place : ℕ)
    → (ran : RunsRound aim (standing from old before) (standing (due_now s at) new now) met) → IsTrue before.alone → IsOwnLog 0 before.log → AreLegal aim now.log → IsSettled aim now.log → HasNoFailed aim now.log
    → IsFalse (is_holder now.log 0) → place ≡ length before.log → met.cause ≡ causes.NoBlock → moved aim now.log place ≡ false → HasGiven aim now.log 0
has_given aim from old new before now met s at place ran alone owned legal settled whole free here is still =
    let called = ran.fetched.called in
    given-ended aim from ran.fetched.to old new before ran.paused now.log called.cause (told-alive called.cause met.cause called.told_as is)
    called.talk called.begins alone owned (sym (holders_stay ran.paused.log now.log 0 ran.settles) ∙ free) ran.settles legal
    (subst (λ (n : ℕ). moved aim now.log n ≡ false) here still) settled whole
