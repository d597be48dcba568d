-- Calls of the desk, one after another.
use Rattle.std.proofs.Common.{◌≡◌, ℕ, ◌+◌, ◌≤◌, Bool, Option, None, Some, Ok, Err, IfSome, List, [], ◌∷◌, ◌++◌, length, IsTrue, refl, ap, sym, subst, ◌∙◌, append_assoc, length-append, inl, inr, arith}
use Rattle.std.specs.List.{filter}
use Rattle.std.specs.Io.KnownBytes.{append_known}
use Rattle.std.proofs.lemmas.List.{append-nil, map-append}
use Rattle.std.proofs.lemmas.List.Elements.{filter-append}
use Rattle.ed2k_outside.specs.Causes.{IfKnown}
use Rattle.part_hashset.specs.declared.aim.Aim.{Aim}
use Rattle.reserve_core.specs.Desk.{Answered, AreTrue, IsDeskCall, LaysBody, is_own, own}
use Rattle.reserve_core.specs.Events.{events}
use Rattle.reserve_core.specs.declared.desk.Answer.{Answer}
use Rattle.reserve_core.specs.declared.desk.Answer.TheVariants as answers
use Rattle.reserve_core.specs.declared.desk.DeskAsk.{DeskAsk}
use Rattle.reserve_core.specs.declared.desk.DeskAsk.TheVariants as asks
use Rattle.reserve_core.specs.declared.event.Entry.{Entry}
use Rattle.reserve_core.specs.declared.event.Event.{Event}
use Rattle.peer_fetch.specs.Fetches.{AnsweredAt, Called, Chained, Due, EndsWith, Fetches, Grows, InLog, Inside, LaysPieces, LaysIn, Talk, TalkStands, TalksJoin, due_in_call, due_now, newest, offered_in, standing}
use Rattle.peer_fetch.specs.Machine.{Gives, IsOfferAt, begun, due, is_ready, offers, on_answer}
use Rattle.peer_fetch.specs.Moves.{AreOfTheWire, Moves, Outside, bytes_to_come, link_state}
use Rattle.peer_fetch.specs.Plan.{Plan, Begin, Send, Ask, Last, Read, Paused, Ended}
use Rattle.peer_fetch.specs.Talk.{Act, Begins, Sends, Breaks, Asks, Takes, Stops, MayCome, after, Run, Reads, added, spelled}
use Rattle.peer_fetch.specs.declared.cause.Cause.{Cause}
use Rattle.peer_fetch.specs.declared.cause.Cause.TheVariants as causes
use Rattle.peer_fetch.specs.declared.machine.SessionState.{SessionState}
use Rattle.peer_fetch.specs.declared.machine.SessionState.TheVariants as state
use Rattle.peer_fetch.specs.declared.machine.Next.{Next}
use Rattle.peer_fetch.specs.declared.machine.Next.TheVariants as next
use Rattle.peer_fetch.specs.declared.session.Session.{Session}
use Rattle.peer_fetch.proofs.Known.{append_twice}
use Rattle.peer_fetch.proofs.Moves.{fewer_on, run_on, spelled_on}
use Rattle.peer_fetch.proofs.Within.{draws_on, reads_of, within_on}

pub reads_on : (acts more : List Act) (old mid new : Option (List ℕ)) → Reads acts old mid → Reads more mid new → Reads (acts ++ more) old new
reads_on [] more old mid new here further = subst (λ known. Reads more known new) (sym here) further
reads_on (Begins ∷ acts) more old mid new here further = reads_on acts more old mid new here further
reads_on (Sends msg ∷ acts) more old mid new here further = reads_on acts more old mid new here further
reads_on (Breaks msg part cause ∷ acts) more old mid new here further = reads_on acts more old mid new here further
reads_on (Asks ask answer added ∷ acts) more old mid new here further = reads_on acts more old mid new here further
reads_on (Takes msg ∷ acts) more old mid new (next, comes, here) further = (next, comes, reads_on acts more next mid new here further)
reads_on (Stops cause ∷ acts) more old mid new (stands, next, leaves, here) further = (stands, next, leaves, reads_on acts more next mid new here further)

-- acts of the wire alone ask nothing
wire_in_log : (aim : Aim) (p : ℕ) (h : List Event) (place : ℕ) (acts : List Act) → AreOfTheWire acts → InLog aim p h place place acts
wire_in_log aim p h place [] wire = refl
wire_in_log aim p h place (Begins ∷ acts) wire = absurd wire
wire_in_log aim p h place (Sends msg ∷ acts) wire = wire_in_log aim p h place acts wire
wire_in_log aim p h place (Breaks msg part cause ∷ acts) wire = wire_in_log aim p h place acts wire
wire_in_log aim p h place (Asks ask answer new ∷ acts) wire = absurd wire
wire_in_log aim p h place (Takes msg ∷ acts) wire = wire_in_log aim p h place acts wire
wire_in_log aim p h place (Stops cause ∷ acts) wire = wire_in_log aim p h place acts wire

wire_adds : (acts : List Act) → AreOfTheWire acts → added acts ≡ []
wire_adds [] wire = refl
wire_adds (Begins ∷ acts) wire = absurd wire
wire_adds (Sends msg ∷ acts) wire = wire_adds acts wire
wire_adds (Breaks msg part cause ∷ acts) wire = wire_adds acts wire
wire_adds (Asks ask answer new ∷ acts) wire = absurd wire
wire_adds (Takes msg ∷ acts) wire = wire_adds acts wire
wire_adds (Stops cause ∷ acts) wire = wire_adds acts wire

added_on : (acts more : List Act) → added (acts ++ more) ≡ added acts ++ added more
added_on [] more = refl
added_on (Begins ∷ acts) more = added_on acts more
added_on (Sends msg ∷ acts) more = added_on acts more
added_on (Breaks msg part cause ∷ acts) more = added_on acts more
added_on (Asks ask answer new ∷ acts) more = ap (λ events. new ++ events) (added_on acts more) ∙ sym (append_assoc new (added acts) (added more))
added_on (Takes msg ∷ acts) more = added_on acts more
added_on (Stops cause ∷ acts) more = added_on acts more

in_log_on : (aim : Aim) (p : ℕ) (h : List Event) (place mid last : ℕ) (acts more : List Act) → InLog aim p h place mid acts → InLog aim p h mid last more → InLog aim p h place last (acts ++ more)
in_log_on aim p h place mid last [] more here further = subst (λ from. InLog aim p h from last more) (sym here) further
in_log_on aim p h place mid last (Begins ∷ acts) more here further = in_log_on aim p h place mid last acts more here further
in_log_on aim p h place mid last (Sends msg ∷ acts) more here further = in_log_on aim p h place mid last acts more here further
in_log_on aim p h place mid last (Breaks msg part cause ∷ acts) more here further = in_log_on aim p h place mid last acts more here further
in_log_on aim p h place mid last (Asks ask answer new ∷ acts) more (next, at, here) further = (next, at, in_log_on aim p h next mid last acts more here further)
in_log_on aim p h place mid last (Takes msg ∷ acts) more here further = in_log_on aim p h place mid last acts more here further
in_log_on aim p h place mid last (Stops cause ∷ acts) more here further = in_log_on aim p h place mid last acts more here further

answered_later : (aim : Aim) (p : ℕ) (h more : List Event) (place next : ℕ) (ask : DeskAsk) (answer : Answer) (new : List Event) → AnsweredAt aim p h place next ask answer new → AnsweredAt aim p (h ++ more) place next ask answer new
answered_later aim p h more place next ask answer new at = record {
  before = at.before;
  later = at.later ++ more;
  log = ap (λ log. log ++ more) at.log ∙ append_assoc (at.before ++ new) at.later more;
  behind = at.behind;
  then = at.then;
  answered = at.answered;
}

-- answers to calls that began behind one place did so behind an earlier one
in_log_from : (aim : Aim) (p : ℕ) (h : List Event) (place earlier last : ℕ) (acts : List Act) → earlier ≤ place → InLog aim p h place last acts → (until : ℕ) × (until ≤ last) × InLog aim p h earlier until acts
in_log_from aim p h place earlier last [] behind here = (earlier, omega (arith, here), refl)
in_log_from aim p h place earlier last (Begins ∷ acts) behind here = in_log_from aim p h place earlier last acts behind here
in_log_from aim p h place earlier last (Sends msg ∷ acts) behind here = in_log_from aim p h place earlier last acts behind here
in_log_from aim p h place earlier last (Breaks msg part cause ∷ acts) behind here = in_log_from aim p h place earlier last acts behind here
in_log_from aim p h place earlier last (Asks ask answer new ∷ acts) behind (next, at, here) =
    let sooner : AnsweredAt aim p h earlier next ask answer new = record {
      before = at.before;
      later = at.later;
      log = at.log;
      behind = omega (arith, at.behind);
      then = at.then;
      answered = at.answered;
    } in
    (last, omega arith, (next, sooner, here))
in_log_from aim p h place earlier last (Takes msg ∷ acts) behind here = in_log_from aim p h place earlier last acts behind here
in_log_from aim p h place earlier last (Stops cause ∷ acts) behind here = in_log_from aim p h place earlier last acts behind here

wire_chained : (aim : Aim) (p : ℕ) (h : List Event) (acts : List Act) → AreOfTheWire acts → Chained aim p h acts h
wire_chained aim p h [] wire = refl
wire_chained aim p h (Begins ∷ acts) wire = absurd wire
wire_chained aim p h (Sends msg ∷ acts) wire = wire_chained aim p h acts wire
wire_chained aim p h (Breaks msg part cause ∷ acts) wire = wire_chained aim p h acts wire
wire_chained aim p h (Asks ask answer new ∷ acts) wire = absurd wire
wire_chained aim p h (Takes msg ∷ acts) wire = wire_chained aim p h acts wire
wire_chained aim p h (Stops cause ∷ acts) wire = wire_chained aim p h acts wire

chained_on : (aim : Aim) (p : ℕ) (h mid now : List Event) (acts more : List Act) → Chained aim p h acts mid → Chained aim p mid more now → Chained aim p h (acts ++ more) now
chained_on aim p h mid now [] more here further = subst (λ log. Chained aim p log more now) here further
chained_on aim p h mid now (Begins ∷ acts) more here further = chained_on aim p h mid now acts more here further
chained_on aim p h mid now (Sends msg ∷ acts) more here further = chained_on aim p h mid now acts more here further
chained_on aim p h mid now (Breaks msg part cause ∷ acts) more here further = chained_on aim p h mid now acts more here further
chained_on aim p h mid now (Asks ask answer new ∷ acts) more (answered, here) further = (answered, chained_on aim p (h ++ new) mid now acts more here further)
chained_on aim p h mid now (Takes msg ∷ acts) more here further = chained_on aim p h mid now acts more here further
chained_on aim p h mid now (Stops cause ∷ acts) more here further = chained_on aim p h mid now acts more here further

wire_lays : (body : List ℕ) (acts : List Act) → AreOfTheWire acts → LaysPieces body acts body
wire_lays body [] wire = refl
wire_lays body (Begins ∷ acts) wire = absurd wire
wire_lays body (Sends msg ∷ acts) wire = wire_lays body acts wire
wire_lays body (Breaks msg part cause ∷ acts) wire = wire_lays body acts wire
wire_lays body (Asks ask answer new ∷ acts) wire = absurd wire
wire_lays body (Takes msg ∷ acts) wire = wire_lays body acts wire
wire_lays body (Stops cause ∷ acts) wire = wire_lays body acts wire

wire_lays_in : (body : Option (List ℕ)) (acts : List Act) → AreOfTheWire acts → LaysIn acts body body
wire_lays_in None acts wire = refl
wire_lays_in (Some body) acts wire = wire_lays body acts wire

lays_on : (body mid now : List ℕ) (acts more : List Act) → LaysPieces body acts mid → LaysPieces mid more now → LaysPieces body (acts ++ more) now
lays_on body mid now [] more here further = subst (λ bytes. LaysPieces bytes more now) here further
lays_on body mid now (Begins ∷ acts) more here further = lays_on body mid now acts more here further
lays_on body mid now (Sends msg ∷ acts) more here further = lays_on body mid now acts more here further
lays_on body mid now (Breaks msg part cause ∷ acts) more here further = lays_on body mid now acts more here further
lays_on body mid now (Asks ask answer new ∷ acts) more (judged, next, laid, here) further = (judged, next, laid, lays_on next mid now acts more here further)
lays_on body mid now (Takes msg ∷ acts) more here further = lays_on body mid now acts more here further
lays_on body mid now (Stops cause ∷ acts) more here further = lays_on body mid now acts more here further

lays_in_on : (body mid now : Option (List ℕ)) (acts more : List Act) → LaysIn acts body mid → LaysIn more mid now → LaysIn (acts ++ more) body now
lays_in_on None mid now acts more here further = subst (λ bytes. LaysIn more bytes now) here further
lays_in_on (Some body) None now acts more here further = absurd here
lays_in_on (Some body) (Some mid) None acts more here further = absurd further
lays_in_on (Some body) (Some mid) (Some now) acts more here further = lays_on body mid now acts more here further

-- a call, and then acts of the wire
ask_lays : (body now : Option (List ℕ)) (ask : DeskAsk) (answer : Answer) (mine : List Event) (acts : List Act) → IfSome body (λ bytes. AreTrue bytes mine) → IfKnown (LaysBody ask answer) body now → AreOfTheWire acts →
    LaysIn (Asks ask answer mine ∷ acts) body now
ask_lays None now ask answer mine acts judged laid wire = laid
ask_lays (Some body) None ask answer mine acts judged laid wire = absurd laid
ask_lays (Some body) (Some now) ask answer mine acts judged laid wire = (judged, now, laid, wire_lays now acts wire)

wire_offers : (before : List Bool) (acts : List Act) → AreOfTheWire acts → newest before acts ≡ before
wire_offers before [] wire = refl
wire_offers before (Begins ∷ acts) wire = absurd wire
wire_offers before (Sends msg ∷ acts) wire = wire_offers before acts wire
wire_offers before (Breaks msg part cause ∷ acts) wire = wire_offers before acts wire
wire_offers before (Asks ask answer new ∷ acts) wire = absurd wire
wire_offers before (Takes msg ∷ acts) wire = wire_offers before acts wire
wire_offers before (Stops cause ∷ acts) wire = wire_offers before acts wire

newest_on : (before : List Bool) (acts more : List Act) → newest before (acts ++ more) ≡ newest (newest before acts) more
newest_on before [] more = refl
newest_on before (Begins ∷ acts) more = newest_on before acts more
newest_on before (Sends msg ∷ acts) more = newest_on before acts more
newest_on before (Breaks msg part cause ∷ acts) more = newest_on before acts more
newest_on before (Asks ask answer new ∷ acts) more = newest_on (offered_in ask answer before) acts more
newest_on before (Takes msg ∷ acts) more = newest_on before acts more
newest_on before (Stops cause ∷ acts) more = newest_on before acts more

offer_taken : (bits before : List Bool) (answer : Answer) → offered_in (asks.Offer bits) answer before ≡ offers before (state.Offers bits) answer
offer_taken bits before (answers.Offer (Ok done)) = refl
offer_taken bits before (answers.Offer (Err refused)) = refl
offer_taken bits before _ = refl

asked_offers : (at : SessionState) (ask : DeskAsk) (answer : Answer) (before : List Bool) → IsOfferAt at ask → offered_in ask answer before ≡ offers before at answer
asked_offers (state.Offers bits) ask answer before is =
    subst (λ (a : DeskAsk). offered_in a answer before ≡ offers before (state.Offers bits) answer) (sym is) (offer_taken bits before answer)
asked_offers _ (asks.Offer bits) answer before is = absurd is
asked_offers _ _ answer before is = refl

-- answers by a log are answers by a longer one
pub in_log_later : (aim : Aim) (p : ℕ) (h more : List Event) (place last : ℕ) (acts : List Act) → InLog aim p h place last acts → InLog aim p (h ++ more) place last acts
in_log_later aim p h more place last [] here = here
in_log_later aim p h more place last (Begins ∷ acts) here = in_log_later aim p h more place last acts here
in_log_later aim p h more place last (Sends msg ∷ acts) here = in_log_later aim p h more place last acts here
in_log_later aim p h more place last (Breaks msg part cause ∷ acts) here = in_log_later aim p h more place last acts here
in_log_later aim p h more place last (Asks ask answer new ∷ acts) (next, at, here) = (next, answered_later aim p h more place next ask answer new at, in_log_later aim p h more next last acts here)
in_log_later aim p h more place last (Takes msg ∷ acts) here = in_log_later aim p h more place last acts here
in_log_later aim p h more place last (Stops cause ∷ acts) here = in_log_later aim p h more place last acts here

-- what was asked is due, and what is due then follows
asks_due : (plan : Plan) (ask : DeskAsk) (s : Session) (at : SessionState) (answer : Answer) (new : List Event) → Gives plan (next.Ask ask) s at → MayCome plan (Asks ask answer new) × (on_answer s at answer ≡ after plan (Asks ask answer new))
asks_due (Begin t) ask s at answer new gives = absurd gives
asks_due (Send msg rest) ask s at answer new (given, saying, then) = cc
asks_due (Ask asked then) ask s at answer new (given, asking, answers) = (cc, answers answer)
asks_due (Last asked then) ask s at answer new (given, asking, answers) = (cc, answers answer)
asks_due (Read t) ask s at answer new (given, same, waits) = cc
asks_due (Paused t) ask s at answer new (given, same, waits) = cc
asks_due (Ended cause) ask s at answer new (given, same) = cc

pub fetches_begun : (budget : ℕ) (aim : Aim) (p : ℕ) (from : Due) (old new : Outside) (here : Inside) (given : Next) (s : Session) (at : SessionState) → Moves budget from.plan old (link_state s at new) given → s.offered ≡ from.offered → Fetches budget aim p from old new here here given s at
fetches_begun budget aim p from old new here given s at moves same = record {
  acts = moves.acts;
  end = moves.end;
  runs = moves.runs;
  gives = moves.gives;
  reads = moves.reads;
  fewer = moves.fewer;
  draws = moves.draws;
  sends = moves.sends;
  in_log = wire_in_log aim p here.log (length here.log) moves.acts moves.of_the_wire;
  grows = ([], sym (append-nil here.log));
  own_events = sym (append-nil (own here.log p)) ∙ ap (λ new. own here.log p ++ filter (is_own p) new) (sym (wire_adds moves.acts moves.of_the_wire));
  chained = λ _. wire_chained aim p here.log moves.acts moves.of_the_wire;
  lays = wire_lays_in here.body moves.acts moves.of_the_wire;
  offers = same ∙ sym (wire_offers from.offered moves.acts moves.of_the_wire);
}

pub grows_on : (before mid now : List Event) → Grows before mid → Grows mid now → Grows before now
grows_on before mid now (more, here) (further, there) = (more ++ further, there ∙ ap (λ log. log ++ further) here ∙ append_assoc before more further)

-- what an ask adds to the log of a peer's own events
pub own_grows : (p : ℕ) (h others mine first : List Event) → own h p ≡ first → own others p ≡ [] → own ((h ++ others) ++ mine) p ≡ first ++ filter (is_own p) mine
own_grows p h others mine first before foreign =
    filter-append (is_own p) (h ++ others) mine ∙ ap (λ front. front ++ filter (is_own p) mine) (filter-append (is_own p) h others ∙ ap (λ tail. own h p ++ tail) foreign ∙ append-nil (own h p) ∙ before)

-- where nobody else added, an ask follows right on the log
ask_chained : (aim : Aim) (p : ℕ) (h others mine h2 : List Event) (ask : DeskAsk) (answer : Answer) (acts : List Act) → others ≡ [] → h2 ≡ (h ++ others) ++ mine → Answered aim p (h ++ others) ask answer mine → AreOfTheWire acts →
    Chained aim p h (Asks ask answer mine ∷ acts) h2
ask_chained aim p h others mine h2 ask answer acts none grows answered wire =
    let same : h ++ others ≡ h = ap (λ tail. h ++ tail) none ∙ append-nil h in (
      subst (λ log. Answered aim p log ask answer mine) same answered,
      subst (λ log. Chained aim p (h ++ mine) acts log) (sym (grows ∙ ap (λ log. log ++ mine) same)) (wire_chained aim p (h ++ mine) acts wire),
    )

module _ (budget : ℕ) (aim : Aim) (p : ℕ) (from : Due) (old mid new : Outside) (before here now : Inside) (others mine : List Event) (ask : DeskAsk) (answer : Answer) (s s2 : Session) (at at2 : SessionState) (given : Next) where
  -- an ask, and what the wire brought behind it
  pub asks_more : Fetches budget aim p from old mid before here (next.Ask ask) s at → now.log ≡ (here.log ++ others) ++ mine → own others p ≡ [] → (IsTrue before.alone → others ≡ []) →
      Answered aim p (here.log ++ others) ask answer mine → IfSome here.body (λ bytes. AreTrue bytes mine) → IfKnown (LaysBody ask answer) here.body now.body →
      Moves budget (on_answer s at answer) mid (link_state s2 at2 new) given → IsOfferAt at ask → s2.offered ≡ offers s.offered at answer → Fetches budget aim p from old new before now given s2 at2
  asks_more fetches grows foreign none_else answered judged laid moves offer same =
      let act = Asks ask answer mine in
      let due_then = asks_due fetches.end ask s at answer mine fetches.gives in
      let longer : now.log ≡ here.log ++ (others ++ mine) = grows ∙ append_assoc here.log others mine in
      let placed : AnsweredAt aim p now.log (length here.log) (length now.log) ask answer mine = record {
        before = here.log ++ others;
        later = [];
        log = grows ∙ sym (append-nil ((here.log ++ others) ++ mine));
        behind = omega (arith, length-append here.log others);
        then = ap length grows;
        answered = answered;
      } in
      let in_here = subst (λ log. InLog aim p log (length before.log) (length here.log) fetches.acts) (sym longer) (in_log_later aim p here.log (others ++ mine) (length before.log) (length here.log) fetches.acts fetches.in_log) in
      let more_added : added (act ∷ moves.acts) ≡ mine = ap (λ tail. mine ++ tail) (wire_adds moves.acts moves.of_the_wire) ∙ append-nil mine in
      record {
        acts = fetches.acts ++ act ∷ moves.acts;
        end = moves.end;
        runs = run_on from.plan fetches.end moves.end fetches.acts (act ∷ moves.acts) fetches.runs (due_then.0, subst (λ plan. Run plan moves.acts moves.end) due_then.1 moves.runs);
        gives = moves.gives;
        reads = within_on (bytes_to_come budget old) (bytes_to_come budget mid) (bytes_to_come budget new) fetches.acts (act ∷ moves.acts) old.ahead mid.ahead new.ahead fetches.reads moves.reads;
        fewer = fewer_on budget fetches.acts (act ∷ moves.acts) old mid new fetches.fewer moves.fewer;
        draws = draws_on old mid new fetches.draws moves.draws;
        sends = moves.sends ∙ ap (λ known. append_known known (spelled moves.acts)) fetches.sends ∙ append_twice old.sent (spelled fetches.acts) (spelled moves.acts) ∙ ap (append_known old.sent) (sym (spelled_on fetches.acts (act ∷ moves.acts)));
        in_log = in_log_on aim p now.log (length before.log) (length here.log) (length now.log) fetches.acts (act ∷ moves.acts) in_here (length now.log, placed, wire_in_log aim p now.log (length now.log) moves.acts moves.of_the_wire);
        grows = grows_on before.log here.log now.log fetches.grows (others ++ mine, longer);
        own_events = ap (λ log. own log p) grows ∙ own_grows p here.log others mine (own before.log p ++ filter (is_own p) (added fetches.acts)) fetches.own_events foreign
            ∙ append_assoc (own before.log p) (filter (is_own p) (added fetches.acts)) (filter (is_own p) mine)
            ∙ ap (λ tail. own before.log p ++ tail) (sym (filter-append (is_own p) (added fetches.acts) mine))
            ∙ ap (λ events. own before.log p ++ filter (is_own p) (added fetches.acts ++ events)) (sym more_added)
            ∙ ap (λ events. own before.log p ++ filter (is_own p) events) (sym (added_on fetches.acts (act ∷ moves.acts)));
        chained = λ alone. chained_on aim p before.log here.log now.log fetches.acts (act ∷ moves.acts) (fetches.chained alone)
            (ask_chained aim p here.log others mine now.log ask answer moves.acts (none_else alone) grows answered moves.of_the_wire);
        lays = lays_in_on before.body here.body now.body fetches.acts (act ∷ moves.acts) fetches.lays (ask_lays here.body now.body ask answer mine moves.acts judged laid moves.of_the_wire);
        offers = same ∙ ap (λ known. offers known at answer) fetches.offers
            ∙ sym (asked_offers at ask answer (newest from.offered fetches.acts) offer)
            ∙ sym (wire_offers (offered_in ask answer (newest from.offered fetches.acts)) moves.acts moves.of_the_wire)
            ∙ sym (newest_on from.offered fetches.acts (act ∷ moves.acts));
      }

pub events-append : (a b : List Entry) → events (a ++ b) ≡ events a ++ events b
events-append a b = map-append (λ (entry : Entry). entry.event) a b

-- the same for a call of a desk
pub served_more : (budget : ℕ) (aim : Aim) (p : ℕ) (from : Due) (old mid new : Outside) (before here now : Inside) (h h2 : List Entry) (alone : Bool) (ask : DeskAsk) (answer : Answer) (s s2 : Session) (at at2 : SessionState) (given : Next) →
    Fetches budget aim p from old mid before here (next.Ask ask) s at → here.log ≡ events h → now.log ≡ events h2 → before.alone ≡ alone → IsDeskCall aim p alone ask answer h h2 here.body now.body →
    Moves budget (on_answer s at answer) mid (link_state s2 at2 new) given → IsOfferAt at ask → s2.offered ≡ offers s.offered at answer → Fetches budget aim p from old new before now given s2 at2
served_more budget aim p from old mid new before here now h h2 alone ask answer s s2 at at2 given fetches seen seen2 same_alone served moves offer same =
    let front : events (h ++ served.others) ≡ here.log ++ events served.others = events-append h served.others ∙ ap (λ log. log ++ events served.others) (sym seen) in
    let grows : now.log ≡ (here.log ++ events served.others) ++ events served.mine =
    seen2 ∙ ap events served.grows ∙ events-append (h ++ served.others) served.mine ∙ ap (λ log. log ++ events served.mine) front in
    let none_else : IsTrue before.alone → events served.others ≡ [] = λ is. ap events (served.none_else (sym same_alone ∙ is)) in
    asks_more budget aim p from old mid new before here now (events served.others) (events served.mine) ask answer s s2 at at2 given
    fetches grows served.foreign none_else (subst (λ log. Answered aim p log ask answer (events served.mine)) front served.answered) served.judged served.laid moves offer same

nothing_judged : (body : Option (List ℕ)) → IfSome body (λ bytes. AreTrue bytes [])
nothing_judged None = tt
nothing_judged (Some bytes) = tt

nothing_laid : (step : List ℕ → List ℕ → Type 0) (body : Option (List ℕ)) → ((bytes : List ℕ) → step bytes bytes) → IfKnown step body body
nothing_laid step None same = refl
nothing_laid step (Some bytes) same = same bytes

-- a call that adds nothing, and sees nothing new
pub served_same : (aim : Aim) (p : ℕ) (alone : Bool) (ask : DeskAsk) (answer : Answer) (h : List Entry) (body : Option (List ℕ)) → Answered aim p (events h) ask answer [] → ((bytes : List ℕ) → LaysBody ask answer bytes bytes) →
    IsDeskCall aim p alone ask answer h h body body
served_same aim p alone ask answer h body answered leaves = record {
  others = [];
  mine = [];
  grows = sym (append-nil (h ++ []) ∙ append-nil h);
  foreign = refl;
  none_else = λ _. refl;
  answered = subst (λ log. Answered aim p (events log) ask answer []) (sym (append-nil h)) answered;
  judged = nothing_judged body;
  laid = nothing_laid (LaysBody ask answer) body leaves;
}

-- an end is due
ends_due : (plan : Plan) (cause : Cause) (s : Session) (at : SessionState) → Gives plan (next.End cause) s at → EndsWith plan cause
ends_due (Begin t) cause s at gives = absurd gives
ends_due (Send msg rest) cause s at (given, saying, then) = cc
ends_due (Ask ask then) cause s at (given, asking, answers) = cc
ends_due (Last ask then) cause s at (given, asking, answers) = cc
ends_due (Read t) cause s at (given, same, waits) = cc
ends_due (Paused t) cause s at (given, same, waits) = cc
ends_due (Ended found) cause s at (given, same) = cc

may_begin : (s : Session) (at : SessionState) → IsTrue (is_ready at) → MayCome (due s at) Begins × (begun (due s at) ≡ after (due s at) Begins)
may_begin s state.Fresh ready = (tt, refl)
may_begin s state.Paused ready = (tt, refl)
may_begin s _ ready = cc

-- and then it is what is due now
pub end_due : (plan : Plan) (cause : Cause) (s : Session) (at : SessionState) → Gives plan (next.End cause) s at → plan ≡ due s at
end_due (Begin t) cause s at gives = absurd gives
end_due (Send msg rest) cause s at (given, saying, then) = cc
end_due (Ask ask then) cause s at (given, asking, answers) = cc
end_due (Last ask then) cause s at (given, asking, answers) = cc
end_due (Read t) cause s at (given, same, waits) = cc
end_due (Paused t) cause s at (given, same, waits) = sym (ap (due s) waits ∙ ap Paused same)
end_due (Ended found) cause s at (given, same) = sym (ap (due s) same)

pub call_ends : (budget : ℕ) (aim : Aim) (p : ℕ) (old new : Outside) (before now : Inside) (cause : Cause) (s s2 : Session) (at at2 : SessionState) → IsTrue (is_ready at) →
    Fetches budget aim p (due_in_call s at) old new before now (next.End cause) s2 at2 → Called budget aim p (standing (due_now s at) old before) (standing (due_now s2 at2) new now) cause
call_ends budget aim p old new before now cause s s2 at at2 ready fetches =
    let begins = may_begin s at ready in
    let ended = end_due fetches.end cause s2 at2 fetches.gives in
    let runs : Run (begun (due s at)) fetches.acts (due s2 at2) = subst (λ plan. Run (begun (due s at)) fetches.acts plan) ended fetches.runs in
    let talk : Talk aim p (standing (due_now s at) old before) (standing (due_now s2 at2) new now) cause = record {
      acts = Begins ∷ fetches.acts;
      place = length now.log;
      runs = (begins.0, subst (λ plan. Run plan fetches.acts (due s2 at2)) begins.1 runs);
      ends = subst (λ plan. EndsWith plan cause) ended (ends_due fetches.end cause s2 at2 fetches.gives);
      reads = reads_of (bytes_to_come budget old) (bytes_to_come budget new) fetches.acts old.ahead new.ahead fetches.reads;
      sends = fetches.sends;
      in_log = fetches.in_log;
      within = omega arith;
      grows = fetches.grows;
      own_events = fetches.own_events;
      chained = fetches.chained;
      lays = fetches.lays;
      offers = fetches.offers;
    } in
    record { cause = cause; talk = talk; begins = tt; told_as = inl refl; within = fetches.reads; fewer = fetches.fewer; draws = fetches.draws }

-- no memory was there for what is told beside the cause
pub called_short : (budget : ℕ) (aim : Aim) (p : ℕ) (from to : Due) (old new : Outside) (before now : Inside) (told : Cause) → Called budget aim p (standing from old before) (standing to new now) told → Called budget aim p (standing from old before) (standing to new now) causes.NoMemory
called_short budget aim p from to old new before now told called = record { cause = called.cause; talk = called.talk; begins = called.begins; told_as = inr refl; within = called.within; fewer = called.fewer; draws = called.draws }

pub talk_stands : TalkStands
talk_stands aim p old new more cause talk same = let before = old.inside in let now = new.inside in record {
  acts = talk.acts;
  place = talk.place;
  runs = talk.runs;
  ends = talk.ends;
  reads = talk.reads;
  sends = talk.sends;
  in_log = in_log_later aim p now.log more (length before.log) talk.place talk.acts talk.in_log;
  within = omega (arith, length-append now.log more, talk.within);
  grows = grows_on before.log now.log (now.log ++ more) talk.grows (more, refl);
  own_events = same ∙ talk.own_events;
  chained = λ alone. absurd (cc);
  lays = refl;
  offers = talk.offers;
}

pub talks_join : TalksJoin
talks_join aim p at_first at_pause at_last more again cause talk further same talk2 =
    let from = at_first.due in
    let mid = at_pause.due in
    let to = at_last.due in
    let first = at_first.outside in
    let middle = at_pause.outside in
    let last = at_last.outside in
    let before = at_first.inside in
    let paused = at_pause.inside in
    let now = at_last.inside in
    let (later, grew) = talk2.grows in
    let after_pause : now.log ≡ paused.log ++ (more ++ later) = grew ∙ ap (λ log. log ++ later) further ∙ append_assoc paused.log more later in
    let size : length again.log ≡ length paused.log + length more = ap length further ∙ length-append paused.log more in
    let size2 : length now.log ≡ length again.log + length later = ap length grew ∙ length-append again.log later in
    let in_here = subst (λ log. InLog aim p log (length before.log) talk.place talk.acts) (sym after_pause) (in_log_later aim p paused.log (more ++ later) (length before.log) talk.place talk.acts talk.in_log) in
    let earlier : talk.place ≤ length again.log = omega (arith, talk.within, size) in
    let (until, below, in_then) = in_log_from aim p now.log (length again.log) talk.place talk2.place talk2.acts earlier talk2.in_log in
    record {
      acts = talk.acts ++ talk2.acts;
      place = until;
      runs = run_on from.plan mid.plan to.plan talk.acts talk2.acts talk.runs talk2.runs;
      ends = talk2.ends;
      reads = reads_on talk.acts talk2.acts first.ahead middle.ahead last.ahead talk.reads talk2.reads;
      sends = talk2.sends ∙ ap (λ known. append_known known (spelled talk2.acts)) talk.sends ∙ append_twice first.sent (spelled talk.acts) (spelled talk2.acts) ∙ ap (append_known first.sent) (sym (spelled_on talk.acts talk2.acts));
      in_log = in_log_on aim p now.log (length before.log) talk.place until talk.acts talk2.acts in_here in_then;
      within = omega (arith, below, talk2.within);
      grows = grows_on before.log paused.log now.log talk.grows (more ++ later, after_pause);
      own_events = talk2.own_events ∙ ap (λ front. front ++ filter (is_own p) (added talk2.acts)) (same ∙ talk.own_events)
          ∙ append_assoc (own before.log p) (filter (is_own p) (added talk.acts)) (filter (is_own p) (added talk2.acts))
          ∙ ap (λ tail. own before.log p ++ tail) (sym (filter-append (is_own p) (added talk.acts) (added talk2.acts)))
          ∙ ap (λ events. own before.log p ++ filter (is_own p) events) (sym (added_on talk.acts talk2.acts));
      chained = λ alone. absurd (cc);
      lays = refl;
      offers = talk2.offers ∙ ap (λ bits. newest bits talk2.acts) talk.offers ∙ sym (newest_on from.offered talk.acts talk2.acts);
    }
