-- Acts that follow one another.
use Rattle.std.proofs.Common.{◌≡◌, ℕ, ◌+◌, ◌-◌, ◌≤◌, List, [], ◌∷◌, ◌++◌, Ok, IfSome, IsTrue, refl, ap, sym, subst, ◌∙◌, append_assoc, length, arith}
use Rattle.std.specs.Io.KnownBytes.{append_known}
use Rattle.std.proofs.lemmas.List.{append-nil}
use Rattle.client_msgs.specs.Spelling.{spell_msg}
use Rattle.client_msgs.specs.declared.msg.PeerMsg.{PeerMsg}
use Rattle.client_msgs.specs.declared.msg.PeerMsg.TheVariants as msgs
use Rattle.client_msgs.specs.Own.{own as own_hello}
use Rattle.peer_fetch.specs.Machine.{Gives, begun, due, is_saying}
use Rattle.peer_fetch.specs.Moves.{AreOfTheWire, Draws, SendsOnly, Moves, Outside, Receives, bytes_to_come, link_state}
use Rattle.peer_fetch.specs.Plan.{Plan, Begin, Send, Ask, Last, Read, Paused, Ended}
use Rattle.peer_fetch.specs.Table.{finish, row, start}
use Rattle.framed_wire.specs.Sending.{IsFront}
use Rattle.peer_fetch.specs.Talk.{Act, Begins, Sends, Breaks, Asks, Takes, Stops, MayCome, after, Run, IsStop, IsBreak, Leaves, heard, spelled}
use Rattle.peer_fetch.specs.Within.{ReadsWithin, StopsWithin}
use Rattle.peer_fetch.specs.declared.cause.Cause.{Cause}
use Rattle.peer_fetch.specs.declared.cause.Cause.TheVariants as causes
use Rattle.peer_fetch.specs.declared.machine.SessionState.{SessionState}
use Rattle.peer_fetch.specs.declared.machine.SessionState.TheVariants as state
use Rattle.peer_fetch.specs.declared.machine.Next.{Next}
use Rattle.peer_fetch.specs.declared.machine.Next.TheVariants as next
use Rattle.peer_fetch.specs.declared.session.Session.{Session}
use Rattle.peer_fetch.proofs.Known.{append_twice, append_nothing}
use Rattle.peer_fetch.proofs.Within.{draws_on, draws_same, within_on}

pub run_on : (from mid to : Plan) (acts more : List Act) → Run from acts mid → Run mid more to → Run from (acts ++ more) to
run_on from mid to [] more here further = subst (λ plan. Run plan more to) (sym here) further
run_on from mid to (act ∷ acts) more (fits, here) further = (fits, run_on (after from act) mid to acts more here further)

pub spelled_on : (acts more : List Act) → spelled (acts ++ more) ≡ spelled acts ++ spelled more
spelled_on [] more = refl
spelled_on (Begins ∷ acts) more = spelled_on acts more
spelled_on (Sends msg ∷ acts) more = ap (λ bytes. spell_msg msg ++ bytes) (spelled_on acts more) ∙ sym (append_assoc (spell_msg msg) (spelled acts) (spelled more))
spelled_on (Breaks msg part cause ∷ acts) more = ap (λ bytes. part ++ bytes) (spelled_on acts more) ∙ sym (append_assoc part (spelled acts) (spelled more))
spelled_on (Asks ask answer added ∷ acts) more = spelled_on acts more
spelled_on (Takes msg ∷ acts) more = spelled_on acts more
spelled_on (Stops cause ∷ acts) more = spelled_on acts more

of_the_wire_on : (acts more : List Act) → AreOfTheWire acts → AreOfTheWire more → AreOfTheWire (acts ++ more)
of_the_wire_on [] more here further = further
of_the_wire_on (Begins ∷ acts) more here further = absurd here
of_the_wire_on (Sends msg ∷ acts) more here further = of_the_wire_on acts more here further
of_the_wire_on (Breaks msg part cause ∷ acts) more here further = of_the_wire_on acts more here further
of_the_wire_on (Asks ask answer added ∷ acts) more here further = absurd here
of_the_wire_on (Takes msg ∷ acts) more here further = of_the_wire_on acts more here further
of_the_wire_on (Stops cause ∷ acts) more here further = of_the_wire_on acts more here further

pub heard_on : (acts more : List Act) → heard (acts ++ more) ≡ heard acts + heard more
heard_on [] more = omega arith
heard_on (Begins ∷ acts) more = heard_on acts more
heard_on (Sends msg ∷ acts) more = heard_on acts more
heard_on (Breaks msg part cause ∷ acts) more = heard_on acts more
heard_on (Asks ask answer added ∷ acts) more = heard_on acts more
heard_on (Takes msg ∷ acts) more = omega (arith, heard_on acts more)
heard_on (Stops cause ∷ acts) more = heard_on acts more

pub fewer_on : (budget : ℕ) (acts more : List Act) (old mid new : Outside) → bytes_to_come budget mid + heard acts ≤ bytes_to_come budget old → bytes_to_come budget new + heard more ≤ bytes_to_come budget mid →
    bytes_to_come budget new + heard (acts ++ more) ≤ bytes_to_come budget old
fewer_on budget acts more old mid new here further = omega (arith, heard_on acts more, here, further)

held_room : (budget : ℕ) (old new : Outside) → SendsOnly old new → bytes_to_come budget old ≡ bytes_to_come budget new
held_room budget old new holds = ap (λ n. (budget - n) + length old.unread) (sym holds.taken) ∙ ap (λ rest. (budget - new.taken) + length rest) (sym holds.unread)

-- nothing was done yet
pub moves_none : (budget : ℕ) (plan : Plan) (old : Outside) (given : Next) (session : Session) (at : SessionState) → Gives plan given session at → Moves budget plan old (link_state session at old) given
moves_none budget plan old given session at gives = record {
  acts = [];
  end = plan;
  runs = refl;
  gives = gives;
  of_the_wire = tt;
  reads = (refl, refl);
  fewer = omega arith;
  draws = draws_same old old refl refl refl;
  sends = sym (append_nothing old.sent);
}

-- one more act
moves_by : (budget : ℕ) (from : Plan) (old mid new : Outside) (given given2 : Next) (s s2 : Session) (at at2 : SessionState) (act : Act) →
    (moves : Moves budget from old (link_state s at mid) given) → MayCome moves.end act → AreOfTheWire (act ∷ []) → ReadsWithin (bytes_to_come budget mid) (bytes_to_come budget new) (act ∷ []) mid.ahead new.ahead →
    bytes_to_come budget new + heard (act ∷ []) ≤ bytes_to_come budget mid → Draws mid new → new.sent ≡ append_known mid.sent (spelled (act ∷ [])) → Gives (after moves.end act) given2 s2 at2 → Moves budget from old (link_state s2 at2 new) given2
moves_by budget from old mid new given given2 s s2 at at2 act moves fits wire reads fewer draws sends gives = record {
  acts = moves.acts ++ act ∷ [];
  end = after moves.end act;
  runs = run_on from moves.end (after moves.end act) moves.acts (act ∷ []) moves.runs (fits, refl);
  gives = gives;
  of_the_wire = of_the_wire_on moves.acts (act ∷ []) moves.of_the_wire wire;
  reads = within_on (bytes_to_come budget old) (bytes_to_come budget mid) (bytes_to_come budget new) moves.acts (act ∷ []) old.ahead mid.ahead new.ahead moves.reads reads;
  fewer = fewer_on budget moves.acts (act ∷ []) old mid new moves.fewer fewer;
  draws = draws_on old mid new moves.draws draws;
  sends = sends ∙ ap (λ known. append_known known (spelled (act ∷ []))) moves.sends ∙ append_twice old.sent (spelled moves.acts) (spelled (act ∷ [])) ∙ ap (append_known old.sent) (sym (spelled_on moves.acts (act ∷ [])));
}

-- what the machine gives tells what is due
sends_due : (plan : Plan) (msg : PeerMsg) (s : Session) (at : SessionState) → Gives plan (next.Send msg) s at → (rest : Plan) × (plan ≡ Send msg rest) × IsTrue (is_saying at) × (due s at ≡ rest)
sends_due (Begin t) msg s at gives = absurd gives
sends_due (Send said rest) msg s at (given, saying, then) = (rest, cc, saying, then)
sends_due (Ask ask then) msg s at (given, asking, answers) = cc
sends_due (Last ask then) msg s at (given, asking, answers) = cc
sends_due (Read t) msg s at (given, same, waits) = cc
sends_due (Paused t) msg s at (given, same, waits) = cc
sends_due (Ended cause) msg s at (given, same) = cc

reads_due : (plan : Plan) (s : Session) (at : SessionState) → Gives plan next.Read s at → plan ≡ Read s
reads_due (Begin t) s at gives = absurd gives
reads_due (Send said rest) s at (given, saying, then) = cc
reads_due (Ask ask then) s at (given, asking, answers) = cc
reads_due (Last ask then) s at (given, asking, answers) = cc
reads_due (Read t) s at (given, same, waits) = cc
reads_due (Paused t) s at (given, same, waits) = cc
reads_due (Ended cause) s at (given, same) = cc

begun_due : (s : Session) (at : SessionState) → IsTrue (is_saying at) → begun (due s at) ≡ due s at
begun_due s state.Sent saying = refl
begun_due s state.Named saying = refl
begun_due s _ saying = cc

held_draws : (old new : Outside) → SendsOnly old new → Draws old new
held_draws old new holds = draws_same old new holds.ahead holds.taken holds.unread

pub moves_sends : (budget : ℕ) (from : Plan) (old mid new : Outside) (msg : PeerMsg) (given : Next) (s s2 : Session) (at at2 : SessionState) →
    Moves budget from old (link_state s at mid) (next.Send msg) → SendsOnly mid new → new.sent ≡ append_known mid.sent (spell_msg msg) →
    Gives (begun (due s at)) given s2 at2 → Moves budget from old (link_state s2 at2 new) given
moves_sends budget from old mid new msg given s s2 at at2 moves holds sent gives =
    let (rest, is, saying, then) = sends_due moves.end msg s at moves.gives in
    let room = held_room budget mid new holds in
    moves_by budget from old mid new (next.Send msg) given s s2 at at2 (Sends msg) moves
    (subst (λ plan. MayCome plan (Sends msg)) (sym is) refl)
    tt
    (room, sym holds.ahead)
    (omega (arith, room))
    (held_draws mid new holds)
    (sent ∙ ap (append_known mid.sent) (sym (append-nil (spell_msg msg))))
    (subst (λ plan. Gives (after plan (Sends msg)) given s2 at2) (sym is) (subst (λ plan. Gives plan given s2 at2) (begun_due s at saying ∙ then) gives))

pub moves_breaks : (budget : ℕ) (from : Plan) (old mid new : Outside) (msg : PeerMsg) (part : List ℕ) (cause : Cause) (given : Next) (s s2 : Session) (at at2 : SessionState) →
    Moves budget from old (link_state s at mid) (next.Send msg) → IsBreak cause → IsFront part (spell_msg msg) → SendsOnly mid new → new.sent ≡ append_known mid.sent part →
    Gives (finish cause) given s2 at2 → Moves budget from old (link_state s2 at2 new) given
moves_breaks budget from old mid new msg part cause given s s2 at at2 moves breaks front holds sent gives =
    let (rest, is, saying, then) = sends_due moves.end msg s at moves.gives in
    let room = held_room budget mid new holds in
    moves_by budget from old mid new (next.Send msg) given s s2 at at2 (Breaks msg part cause) moves
    (subst (λ plan. MayCome plan (Breaks msg part cause)) (sym is) (refl, breaks, front))
    tt
    (room, sym holds.ahead)
    (omega (arith, room))
    (held_draws mid new holds)
    (sent ∙ ap (append_known mid.sent) (sym (append-nil part)))
    (subst (λ plan. Gives (after plan (Breaks msg part cause)) given s2 at2) (sym is) gives)

pub moves_takes : (budget : ℕ) (from : Plan) (old mid new : Outside) (msg : PeerMsg) (given : Next) (s s2 : Session) (at at2 : SessionState) →
    Moves budget from old (link_state s at mid) next.Read → Receives budget (Ok msg) mid new → Draws mid new → new.sent ≡ mid.sent →
    Gives (row s msg) given s2 at2 → Moves budget from old (link_state s2 at2 new) given
moves_takes budget from old mid new msg given s s2 at at2 moves (comes, room, less) draws sent gives =
    let is = reads_due moves.end s at moves.gives in
    moves_by budget from old mid new next.Read given s s2 at at2 (Takes msg) moves
    (subst (λ plan. MayCome plan (Takes msg)) (sym is) tt)
    tt
    (new.ahead, comes, bytes_to_come budget new, room, (refl, refl))
    (omega (arith, less))
    draws
    (sent ∙ sym (append_nothing mid.sent))
    (subst (λ plan. Gives (after plan (Takes msg)) given s2 at2) (sym is) gives)

pub moves_stops : (budget : ℕ) (from : Plan) (old mid new : Outside) (cause : Cause) (given : Next) (s s2 : Session) (at at2 : SessionState) →
    Moves budget from old (link_state s at mid) next.Read → IsStop cause → IfSome mid.ahead (StopsWithin (bytes_to_come budget mid) cause) → Leaves cause mid.ahead new.ahead → bytes_to_come budget new ≤ bytes_to_come budget mid → Draws mid new → new.sent ≡ mid.sent →
    Gives (finish cause) given s2 at2 → Moves budget from old (link_state s2 at2 new) given
moves_stops budget from old mid new cause given s s2 at at2 moves stops stands leaves fewer draws sent gives =
    let is = reads_due moves.end s at moves.gives in
    moves_by budget from old mid new next.Read given s s2 at at2 (Stops cause) moves
    (subst (λ plan. MayCome plan (Stops cause)) (sym is) stops)
    tt
    (stands, new.ahead, leaves, bytes_to_come budget new, fewer, (refl, refl))
    (omega (arith, fewer))
    draws
    (sent ∙ sym (append_nothing mid.sent))
    (subst (λ plan. Gives (after plan (Stops cause)) given s2 at2) (sym is) gives)

-- no memory was there for the hello
pub moves_unsaid : (budget : ℕ) (s s2 : Session) (old : Outside) (given : Next) (at2 : SessionState) → Gives (finish causes.NoMemory) given s2 at2 → Moves budget (start s) old (link_state s2 at2 old) given
moves_unsaid budget s s2 old given at2 gives = record {
  acts = Breaks (msgs.Hello own_hello) [] causes.NoMemory ∷ [];
  end = finish causes.NoMemory;
  runs = ((refl, tt, (spell_msg (msgs.Hello own_hello), refl)), refl);
  gives = gives;
  of_the_wire = tt;
  reads = (refl, refl);
  fewer = omega arith;
  draws = draws_same old old refl refl refl;
  sends = sym (append_nothing old.sent);
}
