-- What is left of a talk, and each of its steps: a message sent, a call of the desk, a message that comes.
use Rattle.std.proofs.Common.{◌≡◌, ◌⊎◌, ℕ, suc, ◌≤◌, List, [], ◌∷◌, ◌++◌, length, Option, None, Some, Err, IsTrue, unwrap_or, sym, subst, arith, inl, inr}
use Rattle.client_msgs.specs.declared.msg.PeerMsg.{PeerMsg}
use Rattle.part_hashset.specs.declared.aim.Aim.{Aim}
use Rattle.reserve_core.specs.Desk.{Answered, AreTrue, IsRefused, LaysBody, is_outside}
use Rattle.reserve_core.specs.declared.desk.Answer.{Answer}
use Rattle.reserve_core.specs.declared.desk.Answer.TheVariants as answers
use Rattle.reserve_core.specs.declared.desk.DeskAsk.{DeskAsk}
use Rattle.reserve_core.specs.declared.desk.DeskAsk.TheVariants as asks
use Rattle.reserve_core.specs.declared.event.Event.{Event}
use Rattle.reserve_core.specs.declared.fault.DeskFault.{DeskFault}
use Rattle.reserve_core.specs.declared.fault.DeskFault.TheVariants as faults
use Rattle.peer_fetch.specs.Fetches.{Chained, EndsWith, LaysPieces}
use Rattle.peer_fetch.specs.Plan.{Plan, Send, Ask, Last, Read, Ended}
use Rattle.peer_fetch.specs.Serves.{IsFromOutside}
use Rattle.peer_fetch.specs.Table.{commit_cause, ends_by, finish, end_or, row}
use Rattle.peer_fetch.specs.Talk.{Act, Begins, Sends, Breaks, Asks, Takes, Stops, IsBreak, Reads, Run}
use Rattle.peer_fetch.specs.declared.cause.Cause.{Cause}
use Rattle.peer_fetch.specs.declared.cause.Cause.TheVariants as causes
use Rattle.peer_fetch.specs.declared.session.Session.{Session}
use Rattle.peer_fetch.proofs.ServingAsks.{IsTrueTo, agrees_asked}
use Rattle.peer_fetch.proofs.ServingBody.{BodyAgrees}
use Rattle.peer_fetch.proofs.ServingReads.{Spells, stopped, taken}

-- how a talk about a file ends
pub record End : Type 0 where
  pub aim : Aim
  pub file : List ℕ
  pub to : Plan
  pub found : Cause
  pub log : List Event
  pub body : List ℕ

-- What is left of the talk of peer 0, with what is due, the messages that are to come, the log and the body: at
-- most so many acts. The body has the file's byte at each filled position.
pub record Rest (end : End) (most : ℕ) (plan : Plan) (msgs : List PeerMsg) (h : List Event) (body : List ℕ) : Type 0 where
  pub acts : List Act
  pub short : length acts ≤ most
  pub runs : Run plan acts end.to
  pub ends : EndsWith end.to end.found
  pub bytes : List ℕ
  pub spells : Spells bytes msgs
  pub left : Option (List ℕ)
  pub reads : Reads acts (Some bytes) left
  pub chained : Chained end.aim 0 h acts end.log
  pub lays : LaysPieces body acts end.body
  pub agrees : BodyAgrees end.aim.size end.file h body

-- the talk ends by a cause from outside, and the body has the file's byte at each filled position
pub record Outside (end : End) : Type 0 where
  pub cause : IsFromOutside end.found
  pub agrees : BodyAgrees end.aim.size end.file end.log end.body

-- the talk ends so, or a fact holds
abbrev pub Unless : End → Type 0 → Type 0
Unless end holds = Outside end ⊎ holds

pub go_on : (end : End) {A B : Type 0} → Unless end A → (A → Unless end B) → Unless end B
go_on end (inl outside) next = inl outside
go_on end (inr holds) next = next holds

-- a talk doesn't end where something is due
pub ends_at : (plan to : Plan) (found : Cause) → plan ≡ to → EndsWith to found → EndsWith plan found
ends_at plan to found same ends = subst (λ (p : Plan). EndsWith p found) (sym same) ends

-- the cause of the end

ended : (to : Plan) (found cause : Cause) (acts : List Act) → Run (Ended cause) acts to → EndsWith to found → IsFromOutside cause → IsFromOutside found
ended to found cause [] runs ends outside = subst (λ (c : Cause). IsFromOutside c) (sym (ends_at (Ended cause) to found runs ends)) outside
ended to found cause (Begins ∷ acts) runs ends outside = absurd runs.0
ended to found cause (Sends msg ∷ acts) runs ends outside = absurd runs.0
ended to found cause (Breaks msg part why ∷ acts) runs ends outside = absurd runs.0
ended to found cause (Asks ask answer new ∷ acts) runs ends outside = absurd runs.0
ended to found cause (Takes msg ∷ acts) runs ends outside = absurd runs.0
ended to found cause (Stops why ∷ acts) runs ends outside = absurd runs.0

by_fault : (fault : DeskFault) (cause : Cause) → IsFromOutside cause → IsFromOutside (unwrap_or (ends_by fault) cause)
by_fault faults.Fault cause outside = tt
by_fault faults.Broken cause outside = tt
by_fault faults.NoMemory cause outside = tt
by_fault _ cause outside = outside

by_commit : (answer : Answer) (cause : Cause) → IsFromOutside cause → IsFromOutside (unwrap_or (commit_cause answer) cause)
by_commit (answers.Commit (Err fault)) cause outside = by_fault fault cause outside
by_commit _ cause outside = outside

committing : (to : Plan) (found cause : Cause) (acts : List Act) → Run (Last asks.Commit (λ answer. Ended (unwrap_or (commit_cause answer) cause))) acts to → EndsWith to found → IsFromOutside cause → IsFromOutside found
committing to found cause [] runs ends outside = absurd (ends_at (Last asks.Commit (λ answer. Ended (unwrap_or (commit_cause answer) cause))) to found runs ends)
committing to found cause (Begins ∷ acts) runs ends outside = absurd runs.0
committing to found cause (Sends msg ∷ acts) runs ends outside = absurd runs.0
committing to found cause (Breaks msg part why ∷ acts) runs ends outside = absurd runs.0
committing to found cause (Asks ask answer new ∷ acts) runs ends outside = ended to found (unwrap_or (commit_cause answer) cause) acts runs.1 ends (by_commit answer cause outside)
committing to found cause (Takes msg ∷ acts) runs ends outside = absurd runs.0
committing to found cause (Stops why ∷ acts) runs ends outside = absurd runs.0

finished_by : (to : Plan) (found cause : Cause) (acts : List Act) → Run (finish cause) acts to → EndsWith to found → IsFromOutside cause → IsFromOutside found
finished_by to found cause [] runs ends outside = absurd (ends_at (finish cause) to found runs ends)
finished_by to found cause (Begins ∷ acts) runs ends outside = absurd runs.0
finished_by to found cause (Sends msg ∷ acts) runs ends outside = absurd runs.0
finished_by to found cause (Breaks msg part why ∷ acts) runs ends outside = absurd runs.0
finished_by to found cause (Asks ask answer new ∷ acts) runs ends outside = committing to found cause acts runs.1 ends outside
finished_by to found cause (Takes msg ∷ acts) runs ends outside = absurd runs.0
finished_by to found cause (Stops why ∷ acts) runs ends outside = absurd runs.0

-- the body at the end

nothing_more : (n : ℕ) (file : List ℕ) (h log : List Event) (body now : List ℕ) → log ≡ h → now ≡ body → BodyAgrees n file h body → BodyAgrees n file log now
nothing_more n file h log body now same is agrees =
    subst (λ (es : List Event). BodyAgrees n file es now) (sym same) (subst (λ (bytes : List ℕ). BodyAgrees n file h bytes) (sym is) agrees)

ended_agrees : (aim : Aim) (file : List ℕ) (to : Plan) (cause : Cause) (h log : List Event) (body now : List ℕ) (acts : List Act) → Run (Ended cause) acts to → Chained aim 0 h acts log → LaysPieces body acts now
    → BodyAgrees aim.size file h body → BodyAgrees aim.size file log now
ended_agrees aim file to cause h log body now [] runs chained lays agrees = nothing_more aim.size file h log body now chained lays agrees
ended_agrees aim file to cause h log body now (act ∷ acts) runs chained lays agrees = absurd runs.0

-- a call that is no write
call_agrees : (aim : Aim) (file : List ℕ) (h : List Event) (body : List ℕ) (ask asked : DeskAsk) (answer : Answer) (new : List Event) (mid : List ℕ) → asked ≡ ask → IsTrueTo aim file h ask → Answered aim 0 h asked answer new → LaysBody asked answer body mid
    → BodyAgrees aim.size file h body → BodyAgrees aim.size file (h ++ new) mid
call_agrees aim file h body ask asked answer new mid same of answered laid agrees =
    agrees_asked aim file h body ask answer new mid of (subst (λ (a : DeskAsk). Answered aim 0 h a answer new) same answered) (subst (λ (a : DeskAsk). LaysBody a answer body mid) same laid) agrees

committing_agrees : (aim : Aim) (file : List ℕ) (to : Plan) (cause : Cause) (h log : List Event) (body now : List ℕ) (acts : List Act) → Run (Last asks.Commit (λ answer. Ended (unwrap_or (commit_cause answer) cause))) acts to → Chained aim 0 h acts log → LaysPieces body acts now
    → BodyAgrees aim.size file h body → BodyAgrees aim.size file log now
committing_agrees aim file to cause h log body now [] runs chained lays agrees = nothing_more aim.size file h log body now chained lays agrees
committing_agrees aim file to cause h log body now (Begins ∷ acts) runs chained lays agrees = absurd runs.0
committing_agrees aim file to cause h log body now (Sends msg ∷ acts) runs chained lays agrees = absurd runs.0
committing_agrees aim file to cause h log body now (Breaks msg part why ∷ acts) runs chained lays agrees = absurd runs.0
committing_agrees aim file to cause h log body now (Asks ask answer new ∷ acts) runs chained lays agrees =
    ended_agrees aim file to (unwrap_or (commit_cause answer) cause) (h ++ new) log lays.1 now acts runs.1 chained.1 lays.3 (call_agrees aim file h body asks.Commit ask answer new lays.1 runs.0 tt chained.0 lays.2 agrees)
committing_agrees aim file to cause h log body now (Takes msg ∷ acts) runs chained lays agrees = absurd runs.0
committing_agrees aim file to cause h log body now (Stops why ∷ acts) runs chained lays agrees = absurd runs.0

finished_agrees : (aim : Aim) (file : List ℕ) (to : Plan) (cause : Cause) (h log : List Event) (body now : List ℕ) (acts : List Act) → Run (finish cause) acts to → Chained aim 0 h acts log → LaysPieces body acts now
    → BodyAgrees aim.size file h body → BodyAgrees aim.size file log now
finished_agrees aim file to cause h log body now [] runs chained lays agrees = nothing_more aim.size file h log body now chained lays agrees
finished_agrees aim file to cause h log body now (Begins ∷ acts) runs chained lays agrees = absurd runs.0
finished_agrees aim file to cause h log body now (Sends msg ∷ acts) runs chained lays agrees = absurd runs.0
finished_agrees aim file to cause h log body now (Breaks msg part why ∷ acts) runs chained lays agrees = absurd runs.0
finished_agrees aim file to cause h log body now (Asks ask answer new ∷ acts) runs chained lays agrees =
    committing_agrees aim file to cause (h ++ new) log lays.1 now acts runs.1 chained.1 lays.3 (call_agrees aim file h body asks.Release ask answer new lays.1 runs.0 tt chained.0 lays.2 agrees)
finished_agrees aim file to cause h log body now (Takes msg ∷ acts) runs chained lays agrees = absurd runs.0
finished_agrees aim file to cause h log body now (Stops why ∷ acts) runs chained lays agrees = absurd runs.0

-- the end

finished : (end : End) (cause : Cause) (h : List Event) (body : List ℕ) (acts : List Act) → IsFromOutside cause → Run (finish cause) acts end.to → EndsWith end.to end.found → Chained end.aim 0 h acts end.log → LaysPieces body acts end.body
    → BodyAgrees end.aim.size end.file h body → Outside end
finished end cause h body acts outside runs ends chained lays agrees = record {
  cause = finished_by end.to end.found cause acts runs ends outside;
  agrees = finished_agrees end.aim end.file end.to cause h end.log body end.body acts runs chained lays agrees;
}

pub over : {end : End} {most : ℕ} {msgs : List PeerMsg} {h : List Event} {body : List ℕ} (cause : Cause) → IsFromOutside cause → Rest end most (Ended cause) msgs h body → Outside end
over {end} {most} {msgs} {h} {body} cause outside r = record {
  cause = ended end.to end.found cause r.acts r.runs r.ends outside;
  agrees = ended_agrees end.aim end.file end.to cause h end.log body end.body r.acts r.runs r.chained r.lays r.agrees;
}

stops : {end : End} {most : ℕ} {msgs : List PeerMsg} {h : List Event} {body : List ℕ} (cause : Cause) → IsFromOutside cause → Rest end most (finish cause) msgs h body → Outside end
stops {end} {most} {msgs} {h} {body} cause outside r = finished end cause h body r.acts outside r.runs r.ends r.chained r.lays r.agrees

-- a cause from outside that the desk tells ends the session
pub broke : {end : End} {most : ℕ} {msgs : List PeerMsg} {h : List Event} {body : List ℕ} (on : Plan) (fault : DeskFault) → IsTrue (is_outside fault) → Rest end most (end_or on fault) msgs h body → Outside end
broke on faults.Broken outside r = stops causes.StoreFault tt r
broke on faults.Fault outside r = stops causes.StoreFault tt r
broke on faults.NoMemory outside r = stops causes.NoMemory tt r
broke on _ outside r = absurd (cc)

-- a call that its log doesn't refuse is refused from outside
pub from_outside : (cause : Option DeskFault) (fault : DeskFault) → cause ≡ None → IsRefused cause fault → IsTrue (is_outside fault)
from_outside cause why none (inl outside) = outside
from_outside cause why none (inr told) = absurd (cc)

-- one more act may come
pub slack : {end : End} {most : ℕ} {plan : Plan} {msgs : List PeerMsg} {h : List Event} {body : List ℕ} → Rest end most plan msgs h body → Rest end (suc most) plan msgs h body
slack r = record { acts = r.acts; short = let few = r.short in omega arith; runs = r.runs; ends = r.ends; bytes = r.bytes; spells = r.spells; left = r.left; reads = r.reads; chained = r.chained; lays = r.lays; agrees = r.agrees }

-- the log and the body by other names
pub at_log : {end : End} {most : ℕ} {plan : Plan} {msgs : List PeerMsg} {body : List ℕ} (h g : List Event) → h ≡ g → Rest end most plan msgs h body → Rest end most plan msgs g body
at_log {end} {most} {plan} {msgs} {body} h g same r = subst (λ (log : List Event). Rest end most plan msgs log body) same r

pub at_body : {end : End} {most : ℕ} {plan : Plan} {msgs : List PeerMsg} {h : List Event} (body other : List ℕ) → body ≡ other → Rest end most plan msgs h body → Rest end most plan msgs h other
at_body {end} {most} {plan} {msgs} {h} body other same r = subst (λ (bytes : List ℕ). Rest end most plan msgs h bytes) same r

pub at_plan : {end : End} {most : ℕ} {msgs : List PeerMsg} {h : List Event} {body : List ℕ} (plan other : Plan) → plan ≡ other → Rest end most plan msgs h body → Rest end most other msgs h body
at_plan {end} {most} {msgs} {h} {body} plan other same r = subst (λ (p : Plan). Rest end most p msgs h body) same r

-- a message that is due is sent

broken_off : (cause : Cause) → IsBreak cause → IsFromOutside cause
broken_off causes.WireFault is = tt
broken_off causes.NoMemory is = tt
broken_off _ is = absurd is

sent_by : (end : End) (most : ℕ) (msg : PeerMsg) (next : Plan) (msgs : List PeerMsg) (h : List Event) (body bytes : List ℕ) (left : Option (List ℕ)) (acts : List Act) → length acts ≤ most → Run (Send msg next) acts end.to
    → EndsWith end.to end.found → Spells bytes msgs → Reads acts (Some bytes) left → Chained end.aim 0 h acts end.log → LaysPieces body acts end.body → BodyAgrees end.aim.size end.file h body → Unless end (Rest end most next msgs h body)
sent_by end most msg next msgs h body bytes left [] short runs ends spells reads chained lays agrees = absurd (ends_at (Send msg next) end.to end.found runs ends)
sent_by end most msg next msgs h body bytes left (Begins ∷ acts) short runs ends spells reads chained lays agrees = absurd runs.0
sent_by end most msg next msgs h body bytes left (Sends said ∷ acts) short runs ends spells reads chained lays agrees =
    inr (record { acts = acts; short = omega arith; runs = runs.1; ends = ends; bytes = bytes; spells = spells; left = left; reads = reads; chained = chained; lays = lays; agrees = agrees })
sent_by end most msg next msgs h body bytes left (Breaks said part cause ∷ acts) short runs ends spells reads chained lays agrees =
    inl (finished end cause h body acts (broken_off cause runs.0.1) runs.1 ends chained lays agrees)
sent_by end most msg next msgs h body bytes left (Asks ask answer new ∷ acts) short runs ends spells reads chained lays agrees = absurd runs.0
sent_by end most msg next msgs h body bytes left (Takes got ∷ acts) short runs ends spells reads chained lays agrees = absurd runs.0
sent_by end most msg next msgs h body bytes left (Stops cause ∷ acts) short runs ends spells reads chained lays agrees = absurd runs.0

pub sent : {end : End} {most : ℕ} {msgs : List PeerMsg} {h : List Event} {body : List ℕ} (msg : PeerMsg) (next : Plan) → Rest end most (Send msg next) msgs h body → Unless end (Rest end most next msgs h body)
sent {end} {most} {msgs} {h} {body} msg next r = sent_by end most msg next msgs h body r.bytes r.left r.acts r.short r.runs r.ends r.spells r.reads r.chained r.lays r.agrees

-- the desk is asked

pub record Asked (end : End) (most : ℕ) (ask : DeskAsk) (next : Answer → Plan) (msgs : List PeerMsg) (h : List Event) (body : List ℕ) : Type 0 where
  pub answer : Answer
  pub new : List Event
  pub mid : List ℕ
  pub answered : Answered end.aim 0 h ask answer new
  pub judged : AreTrue body new
  pub laid : LaysBody ask answer body mid
  pub rest : Rest end most (next answer) msgs (h ++ new) mid

answered_by : (end : End) (most : ℕ) (ask got : DeskAsk) (next : Answer → Plan) (msgs : List PeerMsg) (h : List Event) (body bytes : List ℕ) (left : Option (List ℕ)) (answer : Answer) (new : List Event) (acts : List Act) → length acts ≤ most → got ≡ ask → Run (next answer) acts end.to
    → EndsWith end.to end.found → Spells bytes msgs → Reads acts (Some bytes) left → Chained end.aim 0 h (Asks got answer new ∷ acts) end.log → LaysPieces body (Asks got answer new ∷ acts) end.body → BodyAgrees end.aim.size end.file h body → IsTrueTo end.aim end.file h ask → Asked end most ask next msgs h body
answered_by end most ask got next msgs h body bytes left answer new acts short same runs ends spells reads chained lays agrees of = record {
  answer = answer;
  new = new;
  mid = lays.1;
  answered = subst (λ (a : DeskAsk). Answered end.aim 0 h a answer new) same chained.0;
  judged = lays.0;
  laid = subst (λ (a : DeskAsk). LaysBody a answer body lays.1) same lays.2;
  rest = record { acts = acts; short = short; runs = runs; ends = ends; bytes = bytes; spells = spells; left = left; reads = reads; chained = chained.1; lays = lays.3; agrees = call_agrees end.aim end.file h body ask got answer new lays.1 same of chained.0 lays.2 agrees };
}

asked_by : (end : End) (most : ℕ) (ask : DeskAsk) (next : Answer → Plan) (msgs : List PeerMsg) (h : List Event) (body bytes : List ℕ) (left : Option (List ℕ)) (acts : List Act) → length acts ≤ suc most → Run (Ask ask next) acts end.to
    → EndsWith end.to end.found → Spells bytes msgs → Reads acts (Some bytes) left → Chained end.aim 0 h acts end.log → LaysPieces body acts end.body → BodyAgrees end.aim.size end.file h body → IsTrueTo end.aim end.file h ask → Asked end most ask next msgs h body
asked_by end most ask next msgs h body bytes left [] short runs ends spells reads chained lays agrees of = absurd (ends_at (Ask ask next) end.to end.found runs ends)
asked_by end most ask next msgs h body bytes left (Begins ∷ acts) short runs ends spells reads chained lays agrees of = absurd runs.0
asked_by end most ask next msgs h body bytes left (Sends said ∷ acts) short runs ends spells reads chained lays agrees of = absurd runs.0
asked_by end most ask next msgs h body bytes left (Breaks said part cause ∷ acts) short runs ends spells reads chained lays agrees of = absurd runs.0
asked_by end most ask next msgs h body bytes left (Asks got answer new ∷ acts) short runs ends spells reads chained lays agrees of =
    answered_by end most ask got next msgs h body bytes left answer new acts (omega arith) runs.0 runs.1 ends spells reads chained lays agrees of
asked_by end most ask next msgs h body bytes left (Takes got ∷ acts) short runs ends spells reads chained lays agrees of = absurd runs.0
asked_by end most ask next msgs h body bytes left (Stops cause ∷ acts) short runs ends spells reads chained lays agrees of = absurd runs.0

pub asked : {end : End} {most : ℕ} {msgs : List PeerMsg} {h : List Event} {body : List ℕ} (ask : DeskAsk) (next : Answer → Plan) → IsTrueTo end.aim end.file h ask → Rest end (suc most) (Ask ask next) msgs h body → Asked end most ask next msgs h body
asked {end} {most} {msgs} {h} {body} ask next of r = asked_by end most ask next msgs h body r.bytes r.left r.acts r.short r.runs r.ends r.spells r.reads r.chained r.lays r.agrees of

-- one of the two calls at the end

asked_last_by : (end : End) (most : ℕ) (ask : DeskAsk) (next : Answer → Plan) (msgs : List PeerMsg) (h : List Event) (body bytes : List ℕ) (left : Option (List ℕ)) (acts : List Act) → length acts ≤ suc most → Run (Last ask next) acts end.to
    → EndsWith end.to end.found → Spells bytes msgs → Reads acts (Some bytes) left → Chained end.aim 0 h acts end.log → LaysPieces body acts end.body → BodyAgrees end.aim.size end.file h body → IsTrueTo end.aim end.file h ask → Asked end most ask next msgs h body
asked_last_by end most ask next msgs h body bytes left [] short runs ends spells reads chained lays agrees of = absurd (ends_at (Last ask next) end.to end.found runs ends)
asked_last_by end most ask next msgs h body bytes left (Begins ∷ acts) short runs ends spells reads chained lays agrees of = absurd runs.0
asked_last_by end most ask next msgs h body bytes left (Sends said ∷ acts) short runs ends spells reads chained lays agrees of = absurd runs.0
asked_last_by end most ask next msgs h body bytes left (Breaks said part cause ∷ acts) short runs ends spells reads chained lays agrees of = absurd runs.0
asked_last_by end most ask next msgs h body bytes left (Asks got answer new ∷ acts) short runs ends spells reads chained lays agrees of =
    answered_by end most ask got next msgs h body bytes left answer new acts (omega arith) runs.0 runs.1 ends spells reads chained lays agrees of
asked_last_by end most ask next msgs h body bytes left (Takes got ∷ acts) short runs ends spells reads chained lays agrees of = absurd runs.0
asked_last_by end most ask next msgs h body bytes left (Stops cause ∷ acts) short runs ends spells reads chained lays agrees of = absurd runs.0

pub asked_last : {end : End} {most : ℕ} {msgs : List PeerMsg} {h : List Event} {body : List ℕ} (ask : DeskAsk) (next : Answer → Plan) → IsTrueTo end.aim end.file h ask → Rest end (suc most) (Last ask next) msgs h body → Asked end most ask next msgs h body
asked_last {end} {most} {msgs} {h} {body} ask next of r = asked_last_by end most ask next msgs h body r.bytes r.left r.acts r.short r.runs r.ends r.spells r.reads r.chained r.lays r.agrees of

-- a message comes

heard_as : (end : End) (most : ℕ) (s : Session) (msg got : PeerMsg) (msgs : List PeerMsg) (h : List Event) (body bytes : List ℕ) (left mid : Option (List ℕ)) (acts : List Act) → length acts ≤ most → Run (row s got) acts end.to
    → EndsWith end.to end.found → got ≡ msg → mid ≡ Some bytes → Spells bytes msgs → Reads acts mid left → Chained end.aim 0 h acts end.log → LaysPieces body acts end.body → BodyAgrees end.aim.size end.file h body → Rest end most (row s msg) msgs h body
heard_as end most s msg got msgs h body bytes left mid acts short runs ends same is spells reads chained lays agrees = record {
  acts = acts;
  short = short;
  runs = subst (λ (m : PeerMsg). Run (row s m) acts end.to) same runs;
  ends = ends;
  bytes = bytes;
  spells = spells;
  left = left;
  reads = subst (λ (o : Option (List ℕ)). Reads acts o left) is reads;
  chained = chained;
  lays = lays;
  agrees = agrees;
}

heard_by : (end : End) (most : ℕ) (s : Session) (msg : PeerMsg) (msgs : List PeerMsg) (h : List Event) (body bytes : List ℕ) (left : Option (List ℕ)) (acts : List Act) → length acts ≤ suc most → Run (Read s) acts end.to
    → EndsWith end.to end.found → Spells bytes (msg ∷ msgs) → Reads acts (Some bytes) left → Chained end.aim 0 h acts end.log → LaysPieces body acts end.body → BodyAgrees end.aim.size end.file h body → Unless end (Rest end most (row s msg) msgs h body)
heard_by end most s msg msgs h body bytes left [] short runs ends spells reads chained lays agrees = absurd (ends_at (Read s) end.to end.found runs ends)
heard_by end most s msg msgs h body bytes left (Begins ∷ acts) short runs ends spells reads chained lays agrees = absurd runs.0
heard_by end most s msg msgs h body bytes left (Sends said ∷ acts) short runs ends spells reads chained lays agrees = absurd runs.0
heard_by end most s msg msgs h body bytes left (Breaks said part cause ∷ acts) short runs ends spells reads chained lays agrees = absurd runs.0
heard_by end most s msg msgs h body bytes left (Asks ask answer new ∷ acts) short runs ends spells reads chained lays agrees = absurd runs.0
heard_by end most s msg msgs h body bytes left (Takes got ∷ acts) short runs ends spells reads chained lays agrees =
    let one = taken bytes msg got msgs reads.0 spells reads.1 in
    inr (heard_as end most s msg got msgs h body one.bytes left reads.0 acts (omega arith) runs.1 ends one.same one.is one.later reads.2 chained lays agrees)
heard_by end most s msg msgs h body bytes left (Stops cause ∷ acts) short runs ends spells reads chained lays agrees =
    inl (finished end cause h body acts (stopped bytes msg msgs cause spells runs.0 reads.0) runs.1 ends chained lays agrees)

pub heard : {end : End} {most : ℕ} {msgs : List PeerMsg} {h : List Event} {body : List ℕ} (s : Session) (msg : PeerMsg) → Rest end (suc most) (Read s) (msg ∷ msgs) h body → Unless end (Rest end most (row s msg) msgs h body)
heard {end} {most} {msgs} {h} {body} s msg r = heard_by end most s msg msgs h body r.bytes r.left r.acts r.short r.runs r.ends r.spells r.reads r.chained r.lays r.agrees
