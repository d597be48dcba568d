-- A session over a new store and a stream that serves the file ends with the whole file.
use Rattle.std.proofs.Common.{◌≡◌, ◌⊎◌, ℕ, zero, suc, ◌+◌, ◌*◌, ◌<◌, ◌≤◌, Bool, true, false, not, ◌&&◌, ◌||◌, ◌==◌, nat_le, List, [], ◌∷◌, ◌++◌, length, map, replicate, get_or, if◌then◌else◌, IsTrue, Option, None, Some, refl, ap, sym, ◌∙◌, subst, arith, inl, inr}
use Rattle.std.specs.Bool.{then_some}
use Rattle.std.specs.List.{list_any, range_with_len}
use Rattle.std.specs.Option.{option_or}
use Rattle.std.specs.Str.{bytes_eq}
use Rattle.std.proofs.lemmas.Bool.{both_ways}
use Rattle.std.proofs.lemmas.Bool.Decides.{nat_tests}
use Rattle.client_msgs.specs.Own.{own as own_hello}
use Rattle.client_msgs.specs.declared.msg.PeerMsg.{PeerMsg}
use Rattle.client_msgs.specs.declared.msg.PeerMsg.TheVariants as messages
use Rattle.client_msgs.specs.declared.msg.Hello.{Hello}
use Rattle.ed2k_outside.specs.Causes.{IfKnown}
use Rattle.md4_hash.specs.Md4.{md4}
use Rattle.part_hashset.specs.HashSet.{set_of}
use Rattle.part_hashset.specs.declared.aim.Aim.{Aim}
use Rattle.part_sizes.specs.Part.{part, data_parts, part_range}
use Rattle.part_sizes.specs.Span.{has}
use Rattle.part_sizes.specs.declared.part.TheConstants.{PART}
use Rattle.part_sizes.proofs.Laws.{has_between}
use Rattle.reserve_core.specs.Choice.{offer_by}
use Rattle.reserve_core.specs.Events.{latest}
use Rattle.reserve_core.specs.Filled.{is_filled}
use Rattle.reserve_core.specs.Held.{holds_of}
use Rattle.reserve_core.specs.Tells.{is_recovered}
use Rattle.part_hashset.specs.Goals.{is_nil}
use Rattle.reserve_core.specs.Verdicts.{kept_set, lacks_set, verdict_of}
use Rattle.reserve_core.specs.declared.desk.Answer.TheVariants as answers
use Rattle.reserve_core.specs.declared.desk.DeskAsk.TheVariants as asks
use Rattle.reserve_core.specs.declared.event.Event.{Event}
use Rattle.reserve_core.specs.declared.event.Event.TheVariants.{Hashes, Offer, Opened}
use Rattle.reserve_core.proofs.Latest.{set-same}
use Rattle.peer_fetch.specs.Fetches.{Due, Inside, LaysPieces, Talk, standing}
use Rattle.peer_fetch.specs.Moves.{Outside}
use Rattle.peer_fetch.specs.Plan.{Plan, Begin, Send, Ask, Read}
use Rattle.peer_fetch.specs.Serves.{Agrees, AreTurns, IsFromOutside, IsNewFor, IsWhole, ServedIsWhole, Serves, nothing, set_answers}
use Rattle.peer_fetch.specs.Table.{goes_to, with_offer, has_parts, offer_answered, row, has_set_answered, hashes_answered, start_upload}
use Rattle.peer_fetch.specs.Talk.{Reads}
use Rattle.peer_fetch.specs.declared.cause.Cause.{Cause}
use Rattle.peer_fetch.specs.declared.cause.Cause.TheVariants as causes
use Rattle.peer_fetch.specs.declared.session.Place.TheVariants as place
use Rattle.peer_fetch.specs.declared.session.Session.{Session}
use Rattle.peer_fetch.proofs.ServingAnswers.{after_begin, after_has_set, after_hashes, after_offer, on_offer}
use Rattle.peer_fetch.proofs.ServingBody.{BodyAgrees, agrees_file, not_full}
use Rattle.peer_fetch.proofs.ServingChoice.{Same}
use Rattle.peer_fetch.proofs.ServingLog.{AreRight, IsFile, hashes_refusal, ours, set_some}
use Rattle.peer_fetch.proofs.ServingPieces.{At}
use Rattle.peer_fetch.proofs.ServingSteps.{End, Rest, Unless, at_log, at_plan, go_on, heard, sent, slack}
use Rattle.peer_fetch.proofs.ServingTurns.{Whole, all_of, at_msgs, served_all}

-- all parts are offered
abbrev all_parts : Aim → List Bool
all_parts aim = replicate (data_parts aim.size) true

-- the log for which the stream was made
abbrev first_log : Aim → List Event
first_log aim = Opened nothing ∷ Offer 0 (all_parts aim) ∷ []

-- the log before the first turn
record Ready (aim : Aim) (file : List ℕ) (h : List Event) (body : List ℕ) : Type 0 where
  at : At aim file h (first_log aim) body
  none : holds_of h ≡ []

-- nothing was filled and nothing judged
record IsNew (aim : Aim) (file : List ℕ) (h : List Event) : Type 0 where
  right : AreRight file h
  unrecovered : list_any is_recovered h ≡ false
  set : PART ≤ aim.size → kept_set h ≡ set_of file
  unfilled : (x : ℕ) → is_filled aim.size h x ≡ false
  unjudged : (i : ℕ) → verdict_of h i ≡ None
  same : Same aim.size h (first_log aim)
  offered : latest (offer_by 0) h ≡ Some (all_parts aim)
  none : holds_of h ≡ []

has_first : (n i : ℕ) → i < data_parts n → has (part_range n i) (i * PART) ≡ true
has_first n i exists = has_between (part_range n i) (i * PART) (omega arith) (omega arith)

ready : (aim : Aim) (file : List ℕ) (h : List Event) (body : List ℕ) → length body ≡ aim.size → IsNew aim file h → Ready aim file h body
ready aim file h body long new = record {
  at = record {
    sound = record {
      right = new.right;
      unrecovered = new.unrecovered;
      set = new.set;
      judged = λ i exists. new.unjudged i ∙ ap (λ b. then_some b (md4 (part file i))) (sym (not_full aim.size h i (i * PART) (has_first aim.size i exists) (new.unfilled (i * PART))));
    };
    agrees = record { long = long; same = λ x filled. absurd (both_ways (is_filled aim.size h x) (new.unfilled x) filled) };
    same = new.same;
    offered = new.offered;
  };
  none = new.none;
}

or_none : {X : Type 0} (o : Option X) → option_or o None ≡ o
or_none None = refl
or_none (Some x) = refl

new_small : (aim : Aim) (file : List ℕ) → (PART ≤ aim.size → ⊥) → IsNew aim file (Opened nothing ∷ Offer 0 (all_parts aim) ∷ [])
new_small aim file small = record {
  right = (tt, (tt, tt));
  unrecovered = refl;
  set = λ large. absurd (small large);
  unfilled = λ x. refl;
  unjudged = λ i. refl;
  same = record { filled = λ x. refl; held = refl; offers = λ p. refl; offerers = refl };
  offered = refl;
  none = refl;
}

new_kept : (aim : Aim) (file : List ℕ) → IsNew aim file (Opened nothing ∷ Hashes (set_of file) ∷ Offer 0 (all_parts aim) ∷ [])
new_kept aim file = record {
  right = (tt, (tt, (tt, tt)));
  unrecovered = refl;
  set = λ large. refl;
  unfilled = λ x. refl;
  unjudged = λ i. refl;
  same = record { filled = λ x. refl; held = refl; offers = λ p. or_none (latest (offer_by p) (first_log aim)); offerers = refl };
  offered = refl;
  none = refl;
}

new_asked : (aim : Aim) (file : List ℕ) → IsNew aim file (Opened nothing ∷ Offer 0 (all_parts aim) ∷ Hashes (set_of file) ∷ [])
new_asked aim file = record {
  right = (tt, (tt, (tt, tt)));
  unrecovered = refl;
  set = λ large. refl;
  unfilled = λ x. refl;
  unjudged = λ i. refl;
  same = record { filled = λ x. refl; held = refl; offers = λ p. refl; offerers = refl };
  offered = refl;
  none = refl;
}

-- What follows from a new log: where no set is wanted the log is ready behind the offer, and else behind the set.
record IsFor (aim : Aim) (file : List ℕ) (h : List Event) (body : List ℕ) : Type 0 where
  agrees : BodyAgrees aim.size file h body
  kept : lacks_set aim.size h ≡ false → Ready aim file (h ++ Offer 0 (all_parts aim) ∷ []) body
  asked : lacks_set aim.size h ≡ true → Ready aim file ((h ++ Offer 0 (all_parts aim) ∷ []) ++ Hashes (set_of file) ∷ []) body

for_nothing : (aim : Aim) (file body : List ℕ) → length body ≡ aim.size → IsFor aim file (Opened nothing ∷ []) body
for_nothing aim file body long = record {
  agrees = record { long = long; same = λ x filled. absurd (cc) };
  kept = λ has. ready aim file (Opened nothing ∷ Offer 0 (all_parts aim) ∷ []) body long (new_small aim file (λ large. below (nat_le PART aim.size) has (grind (arith, nat_tests))));
  asked = λ lacks. ready aim file (Opened nothing ∷ Offer 0 (all_parts aim) ∷ Hashes (set_of file) ∷ []) body long (new_asked aim file);
}
  where
    below : (b : Bool) → (b && true) ≡ false → b ≡ true → ⊥
    below true has large = absurd (cc)
    below false has large = absurd (cc)

for_kept : (aim : Aim) (file body : List ℕ) → IsFile aim file → length body ≡ aim.size → IsFor aim file (Opened nothing ∷ Hashes (set_of file) ∷ []) body
for_kept aim file body is long = record {
  agrees = record { long = long; same = λ x filled. absurd (cc) };
  kept = λ has. ready aim file (Opened nothing ∷ Hashes (set_of file) ∷ Offer 0 (all_parts aim) ∷ []) body long (new_kept aim file);
  asked = λ lacks. absurd (never lacks);
}
  where
    both_true : (a b : Bool) → (a && b) ≡ true → (a ≡ true) × (b ≡ true)
    both_true true b e = (refl, e)
    both_true false b e = absurd (cc)

    never : lacks_set aim.size (Opened nothing ∷ Hashes (set_of file) ∷ []) ≡ true → ⊥
    never lacks =
        let both = both_true (nat_le PART aim.size) (is_nil (set_of file)) lacks in
        let test = both.0 in
        let large : PART ≤ aim.size = grind (arith, nat_tests) in
        both_ways (is_nil (set_of file)) (set_some aim file is large) both.1

for_new : (aim : Aim) (file : List ℕ) (h : List Event) (body : List ℕ) → IsFile aim file → length body ≡ aim.size → IsNewFor (set_of file) h → IsFor aim file h body
for_new aim file h body is long (inl same) = subst (λ (log : List Event). IsFor aim file log body) (sym same) (for_nothing aim file body long)
for_new aim file h body is long (inr same) = subst (λ (log : List Event). IsFor aim file log body) (sym same) (for_kept aim file body is long)

-- the upload is asked for and granted, and the first turn begins
uploads : (end : End) (most : ℕ) (s : Session) (h : List Event) (body : List ℕ) (turns : List (List PeerMsg)) → IsFile end.aim end.file → s.aim ≡ end.aim → Ready end.aim end.file h body → AreTurns end.aim end.file 0 (first_log end.aim) turns
    → Rest end most (start_upload s) (messages.Accept ∷ all_of turns) h body → Unless end (Whole end)
uploads end most s h body turns is aim ready are rest =
    let t = goes_to place.Slot s in
    go_on end (sent (messages.StartUpload s.aim.hash) (Read t) rest) (λ waits.
    go_on end (heard t messages.Accept (slack waits)) (λ granted.
    (served_all end is most).at_turn t h (first_log end.aim) body turns aim ready.at ready.none are granted))

own_hash : (s : Session) (aim : Aim) → s.aim ≡ aim → bytes_eq aim.hash s.aim.hash ≡ true
own_hash s aim same = ours aim.hash s.aim.hash (sym (ap (λ (a : Aim). a.hash) same))

-- the set is asked for and kept
asks_set : (end : End) (most : ℕ) (s : Session) (h : List Event) (body : List ℕ) (turns : List (List PeerMsg)) → IsFile end.aim end.file → s.aim ≡ end.aim → PART ≤ end.aim.size → is_nil (kept_set h) ≡ true
    → Ready end.aim end.file (h ++ Hashes (set_of end.file) ∷ []) body → AreTurns end.aim end.file 0 (first_log end.aim) turns
    → Rest end most (has_set_answered s (answers.HasSet false)) (messages.SetAnswer end.aim.hash (set_of end.file) ∷ messages.Accept ∷ all_of turns) h body → Unless end (Whole end)
asks_set end most s h body turns is aim large none ready are rest =
    let t = goes_to place.Set s in
    let set = set_of end.file in
    let msg : PeerMsg = messages.SetAnswer end.aim.hash set in
    let ask : Plan = Ask (asks.Hashes set) (hashes_answered t) in
    go_on end (sent (messages.SetRequest s.aim.hash) (Read t) rest) (λ waits.
    go_on end (heard t msg (slack waits)) (λ answer.
    go_on end (after_hashes t set (hashes_refusal end.aim end.file h is large none) (slack (at_plan (row t msg) ask (ap (λ (b : Bool). if b then ask else Read t) (own_hash s end.aim aim)) answer))) (λ kept.
    uploads end most t (h ++ Hashes set ∷ []) body turns is aim ready are kept)))

-- behind the offer

abbrev behind_offer : Aim → List ℕ → Bool → List (List PeerMsg) → List PeerMsg
behind_offer aim file wants turns = set_answers aim file wants ++ messages.Accept ∷ all_of turns

large_offer : (end : End) (most : ℕ) (s : Session) (h : List Event) (body : List ℕ) (turns : List (List PeerMsg)) (wants : Bool) → IsFile end.aim end.file → s.aim ≡ end.aim → PART ≤ end.aim.size → is_nil (kept_set h) ≡ wants
    → (wants ≡ false → Ready end.aim end.file h body) → (wants ≡ true → Ready end.aim end.file (h ++ Hashes (set_of end.file) ∷ []) body) → AreTurns end.aim end.file 0 (first_log end.aim) turns
    → Rest end most (has_set_answered s (answers.HasSet (not wants))) (behind_offer end.aim end.file wants turns) h body → Unless end (Whole end)
large_offer end most s h body turns true is aim large none kept asked are rest = asks_set end most s h body turns is aim large none (asked refl) are rest
large_offer end most s h body turns false is aim large none kept asked are rest = uploads end most s h body turns is aim (kept refl) are rest

-- whether a set is needed, and kept
offer_made : (end : End) (most : ℕ) (s : Session) (h : List Event) (body : List ℕ) (turns : List (List PeerMsg)) (large : Bool) → nat_le PART end.aim.size ≡ large → IsFile end.aim end.file → s.aim ≡ end.aim
    → IsFor end.aim end.file h body → AreTurns end.aim end.file 0 (first_log end.aim) turns
    → Rest end most (if large then Ask asks.HasSet (has_set_answered s) else start_upload s) (behind_offer end.aim end.file (lacks_set end.aim.size h) turns) (h ++ Offer 0 (all_parts end.aim) ∷ []) body → Unless end (Whole end)
offer_made end most s h body turns true test is aim for are rest =
    let log : List Event = h ++ Offer 0 (all_parts end.aim) ∷ [] in
    let large : PART ≤ end.aim.size = grind (arith, nat_tests) in
    let set : kept_set log ≡ kept_set h = set-same h (Offer 0 (all_parts end.aim)) refl in
    let lacks : lacks_set end.aim.size h ≡ is_nil (kept_set log) = ap (λ b. b && is_nil (kept_set h)) test ∙ sym (ap is_nil set) in
    large_offer end most s log body turns (is_nil (kept_set log)) is aim large refl
    (λ has. for.kept (lacks ∙ has)) (λ none. for.asked (lacks ∙ none)) are
    (at_msgs (behind_offer end.aim end.file (lacks_set end.aim.size h) turns) (behind_offer end.aim end.file (is_nil (kept_set log)) turns) (ap (λ b. behind_offer end.aim end.file b turns) lacks) (after_has_set s (slack rest)))
offer_made end most s h body turns false test is aim for are rest =
    let lacks : lacks_set end.aim.size h ≡ false = ap (λ b. b && is_nil (kept_set h)) test in
    uploads end most s (h ++ Offer 0 (all_parts end.aim) ∷ []) body turns is aim (for.kept lacks) are
    (at_msgs (behind_offer end.aim end.file (lacks_set end.aim.size h) turns) (messages.Accept ∷ all_of turns) (ap (λ b. behind_offer end.aim end.file b turns) lacks) rest)

named_from : (from k : ℕ) → map (λ part. 0 == 0 || get_or [] part false) (range_with_len from k) ≡ replicate k true
named_from from zero = refl
named_from from (suc k) = ap (λ bits. true ∷ bits) (named_from (from + 1) k)

named_all : (n : ℕ) → has_parts n 0 [] ≡ replicate (data_parts n) true
named_all n = named_from 0 (data_parts n)

-- the peer says that it has all parts
status_comes : (end : End) (most : ℕ) (s : Session) (h : List Event) (body : List ℕ) (turns : List (List PeerMsg)) → IsFile end.aim end.file → s.aim ≡ end.aim → IsFor end.aim end.file h body → AreTurns end.aim end.file 0 (first_log end.aim) turns
    → Rest end most (Read (goes_to place.Status s)) (messages.FileStatus end.aim.hash 0 [] ∷ behind_offer end.aim end.file (lacks_set end.aim.size h) turns) h body → Unless end (Whole end)
status_comes end most s h body turns is aim for are rest =
    let t = goes_to place.Status s in
    let bits = has_parts s.aim.size 0 [] in
    let msg : PeerMsg = messages.FileStatus end.aim.hash 0 [] in
    let ask : Plan = Ask (asks.Offer bits) (offer_answered t bits) in
    let all : bits ≡ all_parts end.aim = named_all s.aim.size ∙ ap all_parts aim in
    let sized : nat_le PART s.aim.size ≡ nat_le PART end.aim.size = ap (λ (a : Aim). nat_le PART a.size) aim in
    let u = with_offer bits t in
    go_on end (heard t msg (slack rest)) (λ status.
    go_on end (after_offer t bits (slack (at_plan (row t msg) ask (ap (λ (b : Bool). if b then ask else Read t) (own_hash s end.aim aim)) status))) (λ taken.
    offer_made end most u h body turns (nat_le PART end.aim.size) refl is aim for are
    (at_log (h ++ Offer 0 bits ∷ []) (h ++ Offer 0 (all_parts end.aim) ∷ []) (ap (λ b. h ++ Offer 0 b ∷ []) all)
    (at_plan (on_offer t bits) (if nat_le PART end.aim.size then Ask asks.HasSet (has_set_answered u) else start_upload u) (ap (λ (b : Bool). if b then Ask asks.HasSet (has_set_answered u) else start_upload u) sized) taken))))

-- from the hello on
walks : (end : End) (most : ℕ) (s : Session) (h : List Event) (body : List ℕ) (hello : Hello) (name : List ℕ) (turns : List (List PeerMsg)) → IsFile end.aim end.file → s.aim ≡ end.aim → IsFor end.aim end.file h body → AreTurns end.aim end.file 0 (first_log end.aim) turns
    → Rest end most (Begin s) (messages.HelloAnswer hello ∷ messages.NameAnswer end.aim.hash name ∷ messages.FileStatus end.aim.hash 0 [] ∷ behind_offer end.aim end.file (lacks_set end.aim.size h) turns) h body → Unless end (Whole end)
walks end most s h body hello name turns is aim for are rest =
    let t = goes_to place.Hello s in
    let u = goes_to place.Status t in
    go_on end (sent (messages.Hello own_hello) (Read t) (after_begin s rest)) (λ said.
    go_on end (heard t (messages.HelloAnswer hello) (slack said)) (λ answered.
    go_on end (sent (messages.NameRequest s.aim.hash) (Send (messages.SetFile s.aim.hash) (Read u)) answered) (λ one.
    go_on end (sent (messages.SetFile s.aim.hash) (Read u) one) (λ both.
    go_on end (heard u (messages.NameAnswer end.aim.hash name) (slack both)) (λ told.
    status_comes end most t h body turns is aim for are told)))))

-- the talk of a session that begins, as what is left of it
record Tells (aim : Aim) (file : List ℕ) (to : Due) (now : Inside) (found : Cause) : Type 0 where
  bytes : List ℕ
  body : now.body ≡ Some bytes
  ends : (let end : End = record { aim = aim; file = file; to = to.plan; found = found; log = now.log; body = bytes } in Unless end (Whole end))

told_body : (aim : Aim) (file : List ℕ) (s : Session) (offers : List Bool) (to : Due) (old new : Outside) (before now : Inside) (found : Cause) (body stream : List ℕ) (last : Option (List ℕ)) → now.body ≡ last
    → IsFile aim file → s.aim ≡ aim → IsFor aim file before.log body → IsTrue before.alone → old.ahead ≡ Some stream → Serves stream aim file (lacks_set aim.size before.log)
    → (talk : Talk aim 0 (standing (record { plan = Begin s; offered = offers }) old before) (standing to new now) found) → IfKnown (λ b c. LaysPieces b talk.acts c) (Some body) last → Tells aim file to now found
told_body aim file s offers to old new before now found body stream None is_last is same for alone ahead serves talk lays = absurd lays
told_body aim file s offers to old new before now found body stream (Some bytes) is_last is same for alone ahead serves talk lays =
    let end : End = record { aim = aim; file = file; to = to.plan; found = found; log = now.log; body = bytes } in
    record {
      bytes = bytes;
      body = is_last;
      ends = walks end (length talk.acts) s before.log body serves.hello serves.name serves.turns is same for serves.in_turn
          (record {
            acts = talk.acts;
            short = omega arith;
            runs = talk.runs;
            ends = talk.ends;
            bytes = stream;
            spells = record { frames = serves.frames; spelled = serves.spelled; read = serves.read };
            left = new.ahead;
            reads = subst (λ (o : Option (List ℕ)). Reads talk.acts o new.ahead) ahead talk.reads;
            chained = talk.chained alone;
            lays = lays;
            agrees = for.agrees;
          });
    }

agrees_told : (aim : Aim) (file : List ℕ) (now : Inside) (bytes : List ℕ) → now.body ≡ Some bytes → BodyAgrees aim.size file now.log bytes → Agrees aim file now
agrees_told aim file now bytes told agrees = record { body = bytes; told = told; sized = agrees.long; same = agrees.same }

whole_or_not : (aim : Aim) (file : List ℕ) (to : Due) (now : Inside) (found : Cause) (bytes : List ℕ) → now.body ≡ Some bytes
    → length file ≡ aim.size
    → (let end : End = record { aim = aim; file = file; to = to.plan; found = found; log = now.log; body = bytes } in Unless end (Whole end)) → Agrees aim file now × (IsFromOutside found ⊎ ((found ≡ causes.NoBlock) × IsWhole aim file now))
whole_or_not aim file to now found bytes last sized (inl outside) = (agrees_told aim file now bytes last outside.agrees, inl outside.cause)
whole_or_not aim file to now found bytes last sized (inr whole) =
    (agrees_told aim file now bytes last (agrees_file aim.size file now.log bytes sized whole.body), inr (whole.cause, record { verified = whole.verified; body = last ∙ ap Some whole.body }))

pub served_is_whole : ServedIsWhole
served_is_whole aim session file body stream at_first at_last found same whole hash begins fresh alone told long ahead serves talk_here =
    let offers = at_first.due.offered in
    let to = at_last.due in
    let old = at_first.outside in
    let new = at_last.outside in
    let before = at_first.inside in
    let now = at_last.inside in
    let talk = subst (λ (plan : Plan). Talk aim 0 (standing (record { plan = plan; offered = offers }) old before) at_last found) begins talk_here in
    let is : IsFile aim file = record { whole = whole; hash = hash } in
    let tells = told_body aim file session offers to old new before now found body stream now.body refl is same (for_new aim file before.log body is long fresh) alone ahead serves talk
    (subst (λ (o : Option (List ℕ)). IfKnown (λ b c. LaysPieces b talk.acts c) o now.body) told talk.lays) in
    whole_or_not aim file to now found tells.bytes tells.body whole tells.ends
