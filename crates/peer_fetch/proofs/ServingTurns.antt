-- A session that is served goes turn by turn and piece by piece to the whole file.
use Rattle.std.proofs.Common.{◌≡◌, ◌⊎◌, ℕ, zero, suc, ◌<◌, ◌≤◌, Bool, true, false, not, nat_lt, List, [], ◌∷◌, ◌++◌, length, if◌then◌else◌, IsTrue, Option, None, Some, Ok, unwrap_or, refl, ap, sym, ◌∙◌, subst, arith, inl, inr, append-nil, append_assoc}
use Rattle.std.specs.Bool.{then_some}
use Rattle.std.specs.List.{flat_map, list_all}
use Rattle.std.specs.Str.{bytes_eq}
use Rattle.std.proofs.lemmas.Bool.Decides.{nat_tests}
use Rattle.client_msgs.specs.declared.msg.PeerMsg.{PeerMsg}
use Rattle.client_msgs.specs.declared.msg.PeerMsg.TheVariants.{RequestParts, SendingPart}
use Rattle.ed2k_outside.specs.Files.{overwritten}
use Rattle.md4_hash.specs.Md4.{md4}
use Rattle.part_hashset.specs.HashSet.{set_of}
use Rattle.part_hashset.specs.declared.aim.Aim.{Aim}
use Rattle.part_sizes.specs.Part.{part, data_parts, part_of}
use Rattle.part_sizes.specs.declared.part.TheConstants.{PART}
use Rattle.part_sizes.specs.declared.span.Span.{Span}
use Rattle.part_sizes.proofs.Laws.{part_of_exists, part_within}
use Rattle.reserve_core.specs.Refusals.{first_cause, no_spans, refusal}
use Rattle.reserve_core.specs.Choice.{pick_of}
use Rattle.reserve_core.specs.Desk.{commit_events, span_at, verdict_on}
use Rattle.reserve_core.specs.Filled.{full_part, is_full, is_part_uncommitted, is_uncommitted, open_by, open_in_by}
use Rattle.reserve_core.specs.Held.{holds_of, is_holder, may_write}
use Rattle.reserve_core.specs.Verdicts.{is_verified, kept_set, parts, verdict_of}
use Rattle.reserve_core.specs.declared.desk.Answer.TheVariants as answers
use Rattle.reserve_core.specs.declared.desk.DeskAsk.TheVariants as asks
use Rattle.reserve_core.specs.declared.event.Event.{Event}
use Rattle.reserve_core.specs.declared.event.Event.TheVariants.{Commit, Reserve, Verdict, Write}
use Rattle.reserve_core.specs.declared.fault.DeskFault.TheVariants.{NoBlock, NotHeld}
use Rattle.reserve_core.specs.declared.verdict.Verdict.TheVariants.{Verified}
use Rattle.reserve_core.proofs.Latest.{latest-told, set-same}
use Rattle.reserve_core.proofs.Quiet.{holds-same, verdict-same}
use Rattle.reserve_core.proofs.VerifiedFull.{full_of}
use Rattle.peer_fetch.specs.Fetches.{EndsWith}
use Rattle.peer_fetch.specs.Plan.{Plan, Ask, Read}
use Rattle.peer_fetch.specs.Serves.{AreTurns, Covers, fills}
use Rattle.peer_fetch.specs.Table.{part_filled, goes_to, holds_answered, verify_answered, look, row, turn, write_answered}
use Rattle.peer_fetch.specs.Table.{commit_answered as on_commit}
use Rattle.peer_fetch.specs.Talk.{Act, Run}
use Rattle.peer_fetch.specs.declared.cause.Cause.TheVariants as causes
use Rattle.peer_fetch.specs.declared.session.Place.TheVariants as place
use Rattle.peer_fetch.specs.declared.session.Session.{Session}
use Rattle.peer_fetch.proofs.ServingAnswers.{EndsHere, Judged, after_commit, after_look, after_no_block, after_pause, after_paused, after_reserve, after_verify, after_write}
use Rattle.peer_fetch.proofs.ServingBody.{agrees_written, body_is, part_agrees}
use Rattle.peer_fetch.proofs.ServingChoice.{all_filled, pick_same}
use Rattle.peer_fetch.proofs.ServingHolds.{begins_turn, holds_nothing, is_holding, may_fill, span}
use Rattle.peer_fetch.proofs.ServingLog.{IsFile, all_verified, ours, reserve_refusal, verdict_is, verdict_refusal}
use Rattle.peer_fetch.proofs.ServingPieces.{Ahead, At, Coming, IsPieceIn, Piece, ahead_still, all_offered, at_commit, at_judged, at_reserved, at_written, file_piece, holds_commit, holds_verdict, judged_log, piece_in, piece_of, span_of, still_full, was_unjudged}
use Rattle.peer_fetch.proofs.ServingSteps.{End, Rest, Unless, at_log, at_plan, ends_at, go_on, heard, sent, slack}

-- the session ended because nothing is left to reserve, and the file is whole
pub record Whole (end : End) : Type 0 where
  pub cause : end.found ≡ causes.NoBlock
  pub verified : IsTrue (list_all (is_verified end.aim end.log) (parts end.aim.size))
  pub body : end.body ≡ end.file

abbrev pub all_of : List (List PeerMsg) → List PeerMsg
all_of turns = flat_map (λ msgs. msgs) turns

-- with at most so many acts to come a session that is served is stopped from outside, or has the whole file
pub record Served (end : End) (most : ℕ) : Type 0 where
  pub at_turn : (s : Session) (h g : List Event) (body : List ℕ) (turns : List (List PeerMsg)) → s.aim ≡ end.aim → At end.aim end.file h g body → holds_of h ≡ [] → AreTurns end.aim end.file 0 g turns
      → Rest end most (turn s) (all_of turns) h body → Unless end (Whole end)
  pub at_pieces : (s : Session) (h g : List Event) (body : List ℕ) (msgs : List PeerMsg) (turns : List (List PeerMsg)) → s.aim ≡ end.aim → At end.aim end.file h g body → Coming end.aim end.file h msgs → AreTurns end.aim end.file 0 (g ++ fills 0 msgs) turns
      → Rest end most (Read (goes_to place.Pieces s)) (msgs ++ all_of turns) h body → Unless end (Whole end)

pub at_msgs : {end : End} {most : ℕ} {plan : Plan} {h : List Event} {body : List ℕ} (msgs other : List PeerMsg) → msgs ≡ other → Rest end most plan msgs h body → Rest end most plan other h body
at_msgs {end} {most} {plan} {h} {body} msgs other same r = subst (λ (ms : List PeerMsg). Rest end most plan ms h body) same r

-- no act is left

no_act : (plan to : Plan) (acts : List Act) → length acts ≤ 0 → Run plan acts to → plan ≡ to
no_act plan to [] short runs = runs
no_act plan to (act ∷ acts) short runs = absurd (omega arith)

over_early : {end : End} {plan : Plan} {msgs : List PeerMsg} {h : List Event} {body : List ℕ} → Rest end zero plan msgs h body → EndsWith plan end.found
over_early {end} {plan} r = ends_at plan end.to end.found (no_act plan end.to r.acts r.short r.runs) r.ends

served_none : (end : End) → Served end zero
served_none end = record {
  at_turn = λ s h g body turns aim at none are rest. absurd (over_early rest);
  at_pieces = λ s h g body msgs turns aim at coming are rest. absurd (over_early rest);
}

-- behind a piece

looked : (end : End) (most : ℕ) (s : Session) (h g : List Event) (body : List ℕ) (msgs : List PeerMsg) (turns : List (List PeerMsg)) → Served end most → s.aim ≡ end.aim → At end.aim end.file h g body
    → Ahead end.aim end.file h msgs → AreTurns end.aim end.file 0 (g ++ fills 0 msgs) turns → Rest end most (holds_answered (goes_to place.Pieces s) (answers.Holds (is_holder h 0))) (msgs ++ all_of turns) h body → Unless end (Whole end)
looked end most s h g body msgs turns served aim at (inl coming) are rest =
    let t = goes_to place.Pieces s in
    let holding = is_holding end.aim.size h coming.range coming.from coming.spans coming.holding in
    served.at_pieces s h g body msgs turns aim at coming are (at_plan (holds_answered t (answers.Holds (is_holder h 0))) (Read t) (ap (λ b. holds_answered t (answers.Holds b)) holding) rest)
looked end most s h g body msgs turns served aim at (inr (none, over)) are rest =
    let t = goes_to place.Pieces s in
    let nothing = holds_nothing h none in
    let same : g ++ fills 0 msgs ≡ g = ap (λ ms. g ++ fills 0 ms) over ∙ append-nil g in
    served.at_turn t h g body turns aim at none (subst (λ (log : List Event). AreTurns end.aim end.file 0 log turns) same are)
    (at_msgs (msgs ++ all_of turns) (all_of turns) (ap (λ ms. ms ++ all_of turns) over)
    (at_plan (holds_answered t (answers.Holds (is_holder h 0))) (turn t) (ap (λ b. holds_answered t (answers.Holds b)) nothing) rest))

-- a part that the piece filled is judged, and verified

commits : (h : List Event) (from end : ℕ) → commit_events (h ++ Write 0 (span from end) ∷ []) ≡ Commit ∷ []
commits h from end =
    let written : is_uncommitted (h ++ Write 0 (span from end) ∷ []) ≡ true = ap (λ (o : Option Bool). unwrap_or o false) (latest-told open_by h (Write 0 (span from end)) true refl) in
    ap (λ (b : Bool). if b then Commit ∷ [] else []) written

part_exists : (n from end : ℕ) → from < end → end ≤ n → part_of from < data_parts n
part_exists n from end some within = part_of_exists n from (omega arith)

record IsJudged (end : End) (most : ℕ) (s : Session) (msgs : List PeerMsg) (h : List Event) (body : List ℕ) (from to : ℕ) : Type 0 where
  digest : List ℕ
  own : digest ≡ md4 (part end.file (part_of from))
  rest : Rest end most (look s) msgs (judged_log h from to digest) body

judged_as : (end : End) (most : ℕ) (s : Session) (msgs : List PeerMsg) (h : List Event) (body : List ℕ) (from to : ℕ) → IsFile end.aim end.file → (PART ≤ end.aim.size → kept_set ((h ++ Write 0 (span from to) ∷ []) ++ Commit ∷ []) ≡ set_of end.file)
    → part_of from < data_parts end.aim.size → part body (part_of from) ≡ part end.file (part_of from)
    → Judged end most s (part_of from) msgs ((h ++ Write 0 (span from to) ∷ []) ++ Commit ∷ []) body → IsJudged end most s msgs h body from to
judged_as end most s msgs h body from to is kept exists same verdict =
    let log : List Event = (h ++ Write 0 (span from to) ∷ []) ++ Commit ∷ [] in
    let own : verdict.digest ≡ md4 (part end.file (part_of from)) = verdict.is ∙ ap md4 same in
    let verified : verdict_on end.aim log (part_of from) verdict.digest ≡ Verified = verdict_is end.aim end.file log (part_of from) verdict.digest is kept exists own in
    record {
      digest = verdict.digest;
      own = own;
      rest = at_plan (verify_answered s (part_of from) (answers.Verify (Ok (verdict_on end.aim log (part_of from) verdict.digest)))) (look s) (ap (λ v. verify_answered s (part_of from) (answers.Verify (Ok v))) verified) verdict.rest;
    }

part_judged : (end : End) (most : ℕ) (s : Session) (msgs : List PeerMsg) (h g : List Event) (body : List ℕ) (from to : ℕ) (bytes : List ℕ) → IsFile end.aim end.file → At end.aim end.file h g body → IsPieceIn end.aim.size end.file h from to bytes
    → is_full end.aim.size (h ++ Write 0 (span from to) ∷ []) (part_of from) ≡ true
    → Rest end most (Ask asks.Commit (on_commit s (part_of from))) msgs (h ++ Write 0 (span from to) ∷ []) (overwritten body from bytes)
    → Unless end (IsJudged end most s msgs h (overwritten body from bytes) from to)
part_judged end most s msgs h g body from to bytes is at piece full rest =
    let n = end.aim.size in
    let j = part_of from in
    let w : List Event = h ++ Write 0 (span from to) ∷ [] in
    let exists : j < data_parts n = part_exists n from to piece.of.some piece.of.within in
    let kept : PART ≤ n → kept_set (w ++ Commit ∷ []) ≡ set_of end.file = λ large. set-same w Commit refl ∙ set-same h (Write 0 (span from to)) refl ∙ at.sound.set large in
    let still : is_full n (w ++ Commit ∷ []) j ≡ true = still_full n w Commit j (λ x. refl) ∙ full in
    let durable : is_part_uncommitted n (w ++ Commit ∷ []) j ≡ false = ap (λ (o : Option Bool). unwrap_or o false) (latest-told (open_in_by n j) w Commit false refl) in
    let unjudged : verdict_of (w ++ Commit ∷ []) j ≡ None = verdict-same w Commit j refl ∙ verdict-same h (Write 0 (span from to)) j refl ∙ was_unjudged end.aim end.file h from to bytes at.sound piece exists in
    let agrees = agrees_written n end.file h body 0 from to bytes (span from to) piece.of refl at.agrees in
    let same = part_agrees n end.file w (overwritten body from bytes) j is.whole agrees full in
    go_on end (after_commit s j (slack rest)) (λ asked.
    go_on end (after_verify s j (λ digest. verdict_refusal end.aim end.file (w ++ Commit ∷ []) j digest is kept still durable unjudged) (slack (at_log (w ++ commit_events w) (w ++ Commit ∷ []) (ap (λ es. w ++ es) (commits h from to)) asked)))
    (λ verdict. inr (judged_as end most s msgs h (overwritten body from bytes) from to is kept exists same verdict)))

-- a piece is taken

after_piece : (end : End) (g : List Event) (msgs later : List PeerMsg) (hash : List ℕ) (from to : ℕ) (bytes : List ℕ) (turns : List (List PeerMsg)) → msgs ≡ SendingPart hash from to bytes ∷ later
    → AreTurns end.aim end.file 0 (g ++ fills 0 msgs) turns → AreTurns end.aim end.file 0 ((g ++ Write 0 (span from to) ∷ []) ++ fills 0 later) turns
after_piece end g msgs later hash from to bytes turns is are =
    subst (λ (log : List Event). AreTurns end.aim end.file 0 log turns) (ap (λ ms. g ++ fills 0 ms) is ∙ sym (append_assoc g (Write 0 (span from to) ∷ []) (fills 0 later))) are

filled_or : (end : End) (most : ℕ) (s : Session) (h g : List Event) (body : List ℕ) (msgs : List PeerMsg) (turns : List (List PeerMsg)) (p : Piece end.aim end.file h msgs) (full : Bool)
    → is_full end.aim.size (h ++ Write 0 (span p.from p.end) ∷ []) (part_of p.from) ≡ full → Served end most → IsFile end.aim end.file → s.aim ≡ end.aim → At end.aim end.file h g body → AreTurns end.aim end.file 0 (g ++ fills 0 msgs) turns
    → Rest end most (part_filled (goes_to place.Pieces s) (then_some full (part_of p.from))) (p.later ++ all_of turns) (h ++ Write 0 (span p.from p.end) ∷ []) (overwritten body p.from p.bytes) → Unless end (Whole end)
filled_or end most s h g body msgs turns p false open_part served is aim at are rest =
    let t = goes_to place.Pieces s in
    let w : List Event = h ++ Write 0 (span p.from p.end) ∷ [] in
    let piece = piece_in end.aim end.file h msgs is.whole p in
    looked end most s w (g ++ Write 0 (span p.from p.end) ∷ []) (overwritten body p.from p.bytes) p.later turns served aim
    (at_written end.aim end.file h g body p.from p.end p.bytes piece open_part at) p.ahead (after_piece end g msgs p.later p.hash p.from p.end p.bytes turns p.is are) (after_look t (slack rest))
filled_or end most s h g body msgs turns p true full served is aim at are rest =
    let t = goes_to place.Pieces s in
    let j = part_of p.from in
    let w : List Event = h ++ Write 0 (span p.from p.end) ∷ [] in
    let piece = piece_in end.aim end.file h msgs is.whole p in
    go_on end (part_judged end most t (p.later ++ all_of turns) h g body p.from p.end p.bytes is at piece full rest) (λ v.
    looked end most s (judged_log h p.from p.end v.digest) (g ++ Write 0 (span p.from p.end) ∷ []) (overwritten body p.from p.bytes) p.later turns served aim
    (at_judged end.aim end.file h g body p.from p.end p.bytes v.digest piece full v.own at)
    (ahead_still end.aim end.file (w ++ Commit ∷ []) (Verdict j v.digest) p.later (holds_verdict j v.digest) (λ x. refl) (ahead_still end.aim end.file w Commit p.later holds_commit (λ x. refl) p.ahead))
    (after_piece end g msgs p.later p.hash p.from p.end p.bytes turns p.is are) (after_look t (slack v.rest)))

piece_taken : (end : End) (most : ℕ) (s : Session) (h g : List Event) (body : List ℕ) (msgs : List PeerMsg) (turns : List (List PeerMsg)) (p : Piece end.aim end.file h msgs) → Served end most → IsFile end.aim end.file
    → s.aim ≡ end.aim → At end.aim end.file h g body → AreTurns end.aim end.file 0 (g ++ fills 0 msgs) turns
    → Rest end most (Ask (asks.Write p.from p.bytes) (write_answered (goes_to place.Pieces s))) (p.later ++ all_of turns) h body → Unless end (Whole end)
piece_taken end most s h g body msgs turns p served is aim at are rest =
    let n = end.aim.size in
    let t = goes_to place.Pieces s in
    let piece = piece_in end.aim end.file h msgs is.whole p in
    let whole_span = span_of n end.file h p.from p.end p.bytes piece in
    let may : may_write h 0 (span_at p.from p.bytes) ≡ true = ap (may_write h 0) whole_span ∙ may_fill n h p.range p.from p.end p.spans p.holding p.some p.within in
    let allowed : refusal end.aim h (Write 0 (span_at p.from p.bytes)) ≡ None = ap (λ b. then_some (not b) NotHeld) may in
    go_on end (after_write t p.from p.bytes (file_piece n end.file h p.from p.end p.bytes piece) allowed (slack rest)) (λ r.
    filled_or end most s h g body msgs turns p (is_full n (h ++ Write 0 (span p.from p.end) ∷ []) (part_of p.from)) refl served is aim at are
    (subst (λ (q : Span). Rest end most (part_filled t (full_part n (h ++ Write 0 q ∷ []) p.from)) (p.later ++ all_of turns) (h ++ Write 0 q ∷ []) (overwritten body p.from p.bytes)) whole_span r))

pieces_step : (end : End) (most : ℕ) (s : Session) (h g : List Event) (body : List ℕ) (msgs : List PeerMsg) (turns : List (List PeerMsg)) → Served end most → IsFile end.aim end.file → s.aim ≡ end.aim → At end.aim end.file h g body
    → Coming end.aim end.file h msgs → AreTurns end.aim end.file 0 (g ++ fills 0 msgs) turns → Rest end (suc most) (Read (goes_to place.Pieces s)) (msgs ++ all_of turns) h body → Unless end (Whole end)
pieces_step end most s h g body msgs turns served is aim at coming are rest =
    let t = goes_to place.Pieces s in
    let p = piece_of end.aim end.file h msgs coming in
    let msg : PeerMsg = SendingPart p.hash p.from p.end p.bytes in
    let own : bytes_eq p.hash s.aim.hash ≡ true = ours p.hash s.aim.hash (p.ours ∙ sym (ap (λ (a : Aim). a.hash) aim)) in
    go_on end (heard t msg (at_msgs (msgs ++ all_of turns) (msg ∷ (p.later ++ all_of turns)) (ap (λ ms. ms ++ all_of turns) p.is) rest)) (λ r.
    piece_taken end most s h g body msgs turns p served is aim at are
    (at_plan (row t msg) (Ask (asks.Write p.from p.bytes) (write_answered t)) (ap (λ (b : Bool). if b then Ask (asks.Write p.from p.bytes) (write_answered t) else Read t) own) r))

-- a turn

committed_at : (aim : Aim) (file : List ℕ) (h g : List Event) (body : List ℕ) → At aim file h g body → At aim file (h ++ commit_events h) g body
committed_at aim file h g body at =
    elim (is_uncommitted h) as (λ b. At aim file (h ++ (if b then Commit ∷ [] else [])) g body) [
      | true ↦ at_commit aim file h g body at
      | false ↦ subst (λ (log : List Event). At aim file log g body) (sym (append-nil h)) at
    ]

committed_holds : (h : List Event) → holds_of h ≡ [] → holds_of (h ++ commit_events h) ≡ []
committed_holds h none =
    elim (is_uncommitted h) as (λ b. holds_of (h ++ (if b then Commit ∷ [] else [])) ≡ []) [
      | true ↦ holds-same h Commit holds_commit ∙ none
      | false ↦ ap holds_of (append-nil h) ∙ none
    ]

whole_here : (end : End) (h g : List Event) (body : List ℕ) → IsFile end.aim end.file → At end.aim end.file h g body → holds_of h ≡ [] → pick_of end.aim.size g 0 ≡ [] → EndsHere end h body → Whole end
whole_here end h g body is at none chosen ends =
    let n = end.aim.size in
    let nothing : pick_of n h 0 ≡ [] = pick_same n h g 0 at.same ∙ chosen in
    let every = λ (x : ℕ) (within : x < n). all_filled n h 0 x nothing none (λ i exists. all_offered end.aim end.file h g body i at exists) within in
    record {
      cause = ends.cause;
      verified = ap (λ (log : List Event). list_all (is_verified end.aim log) (parts n)) ends.log ∙ all_verified end.aim end.file h is at.sound (λ i exists. full_of n h i (λ x here. every x (part_within n i x here)));
      body = ends.bytes ∙ body_is n end.file h body is.whole at.agrees every;
    }

ends_or_goes_on : (end : End) (most : ℕ) (s : Session) (h g : List Event) (body : List ℕ) → Served end most → IsFile end.aim end.file → s.aim ≡ end.aim → At end.aim end.file h g body → holds_of h ≡ [] → pick_of end.aim.size g 0 ≡ []
    → EndsHere end h body ⊎ Rest end most (turn s) [] h body → Unless end (Whole end)
ends_or_goes_on end most s h g body served is aim at none chosen (inl ends) = inr (whole_here end h g body is at none chosen ends)
ends_or_goes_on end most s h g body served is aim at none chosen (inr rest) = served.at_turn s h g body [] aim at none chosen rest

last_turn : (end : End) (most : ℕ) (s : Session) (h g : List Event) (body : List ℕ) → Served end most → IsFile end.aim end.file → s.aim ≡ end.aim → At end.aim end.file h g body → holds_of h ≡ [] → pick_of end.aim.size g 0 ≡ []
    → Rest end (suc most) (turn s) [] h body → Unless end (Whole end)
last_turn end most s h g body served is aim at none chosen rest =
    let n = end.aim.size in
    let nothing : pick_of n h 0 ≡ [] = pick_same n h g 0 at.same ∙ chosen in
    let told : refusal end.aim h (Reserve 0 (pick_of n h 0)) ≡ Some NoBlock =
    reserve_refusal end.aim end.file h 0 (pick_of n h 0) is at.sound ∙ ap (λ ps. first_cause (then_some (no_spans ps) NoBlock ∷ [])) nothing in
    go_on end (after_no_block s told rest) (λ r.
    go_on end (after_pause s (holds_nothing h none) (slack (slack r))) (λ q.
    ends_or_goes_on end most s (h ++ commit_events h) g body served is aim (committed_at end.aim end.file h g body at) (committed_holds h none) chosen (after_paused s (slack q))))

next_turn : (end : End) (most : ℕ) (s : Session) (h g : List Event) (body : List ℕ) (msgs : List PeerMsg) (turns : List (List PeerMsg)) (spans : List Span) → pick_of end.aim.size h 0 ≡ spans → pick_of end.aim.size g 0 ≡ spans
    → Served end most → IsFile end.aim end.file → s.aim ≡ end.aim → At end.aim end.file h g body → holds_of h ≡ [] → AreTurns end.aim end.file 0 g (msgs ∷ turns)
    → Rest end (suc most) (turn s) (msgs ++ all_of turns) h body → Unless end (Whole end)
next_turn end most s h g body msgs turns [] chosen same served is aim at none are rest = absurd (are.0 same)
next_turn end most s h g body msgs turns (r ∷ spans) chosen same served is aim at none are rest =
    let n = end.aim.size in
    let e : Event = Reserve 0 (r ∷ spans) in
    let allowed : refusal end.aim h (Reserve 0 (pick_of n h 0)) ≡ None =
    reserve_refusal end.aim end.file h 0 (pick_of n h 0) is at.sound ∙ ap (λ ps. first_cause (then_some (no_spans ps) NoBlock ∷ [])) chosen in
    let covers : Covers end.aim end.file (r ∷ spans) msgs = subst (λ (rs : List Span). Covers end.aim end.file rs msgs) same are.1 in
    let coming : Coming end.aim end.file (h ++ e ∷ []) msgs = record {
      range = r;
      from = r.s;
      spans = spans;
      holding = begins_turn n h r spans chosen none;
      first = covers.0;
      rest = covers.1;
      joined = covers.2;
      brings = covers.3;
      covers = covers.4;
    } in
    let later : AreTurns end.aim end.file 0 ((g ++ e ∷ []) ++ fills 0 msgs) turns =
    subst (λ (log : List Event). AreTurns end.aim end.file 0 log turns) (ap (λ rs. g ++ Reserve 0 rs ∷ fills 0 msgs) same ∙ sym (append_assoc g (e ∷ []) (fills 0 msgs))) are.2 in
    go_on end (after_reserve s allowed rest) (λ q.
    go_on end (sent (RequestParts s.aim.hash (pick_of n h 0)) (Read (goes_to place.Pieces s)) q) (λ reading.
    served.at_pieces s (h ++ e ∷ []) (g ++ e ∷ []) body msgs turns aim (at_reserved end.aim end.file h g body (r ∷ spans) at) coming later
    (at_log (h ++ Reserve 0 (pick_of n h 0) ∷ []) (h ++ e ∷ []) (ap (λ rs. h ++ Reserve 0 rs ∷ []) chosen) reading)))

turn_step : (end : End) (most : ℕ) (s : Session) (h g : List Event) (body : List ℕ) (turns : List (List PeerMsg)) → Served end most → IsFile end.aim end.file → s.aim ≡ end.aim → At end.aim end.file h g body → holds_of h ≡ []
    → AreTurns end.aim end.file 0 g turns → Rest end (suc most) (turn s) (all_of turns) h body → Unless end (Whole end)
turn_step end most s h g body [] served is aim at none are rest = last_turn end most s h g body served is aim at none are rest
turn_step end most s h g body (msgs ∷ turns) served is aim at none are rest =
    next_turn end most s h g body msgs turns (pick_of end.aim.size h 0) refl (sym (pick_same end.aim.size h g 0 at.same)) served is aim at none are rest

pub served_all : (end : End) → IsFile end.aim end.file → (most : ℕ) → Served end most
served_all end is zero = served_none end
served_all end is (suc most) =
    let before = served_all end is most in
    record {
      at_turn = λ s h g body turns aim at none are rest. turn_step end most s h g body turns before is aim at none are rest;
      at_pieces = λ s h g body msgs turns aim at coming are rest. pieces_step end most s h g body msgs turns before is aim at coming are rest;
    }
