-- What follows each call of the desk, where its log refuses nothing.
use Rattle.std.proofs.Common.{◌≡◌, ◌⊎◌, ℕ, suc, ◌≤◌, Bool, false, not, List, [], ◌∷◌, ◌++◌, length, Option, None, Some, Ok, Err, IsTrue, if◌then◌else◌, nat_le, refl, ap, ◌∙◌, subst, arith, inl, inr, append-nil}
use Rattle.client_msgs.specs.declared.msg.PeerMsg.{PeerMsg}
use Rattle.client_msgs.specs.declared.msg.PeerMsg.TheVariants as messages
use Rattle.ed2k_outside.specs.Files.{overwritten}
use Rattle.md4_hash.specs.Md4.{md4}
use Rattle.part_sizes.specs.Part.{part}
use Rattle.part_sizes.specs.declared.part.TheConstants.{PART}
use Rattle.reserve_core.specs.Refusals.{refusal}
use Rattle.reserve_core.specs.Choice.{pick_of}
use Rattle.reserve_core.specs.Desk.{Answered, AreTrue, LaysBody, commit_events, is_outside, release_events, span_at, verdict_on}
use Rattle.reserve_core.specs.Filled.{full_part}
use Rattle.reserve_core.specs.Held.{is_holder}
use Rattle.part_hashset.specs.Goals.{is_nil}
use Rattle.reserve_core.specs.Verdicts.{kept_set}
use Rattle.reserve_core.specs.declared.desk.Answer.{Answer}
use Rattle.reserve_core.specs.declared.desk.Answer.TheVariants as answers
use Rattle.reserve_core.specs.declared.desk.DeskAsk.TheVariants as asks
use Rattle.reserve_core.specs.declared.event.Event.{Event}
use Rattle.reserve_core.specs.declared.event.Event.TheVariants.{Hashes, Offer, Reserve, Write, Release, Verdict}
use Rattle.reserve_core.specs.declared.fault.DeskFault.{DeskFault}
use Rattle.reserve_core.specs.declared.fault.DeskFault.TheVariants as faults
use Rattle.peer_fetch.specs.Fetches.{Chained, EndsWith, LaysPieces}
use Rattle.peer_fetch.specs.Plan.{Plan, Begin, Send, Ask, Last, Read, Paused}
use Rattle.peer_fetch.specs.Table.{commit_cause, ends_by, part_filled, goes_to, holds_answered, verify_answered, with_offer, look, offer_answered, pause, end_pause, reserve_answered, has_set_answered, hashes_answered, start, start_upload, turn, write_answered}
use Rattle.peer_fetch.specs.Table.{commit_answered as on_commit}
use Rattle.peer_fetch.specs.Talk.{Act, Begins, Sends, Breaks, Asks, Takes, Stops, Reads, Run}
use Rattle.peer_fetch.specs.declared.cause.Cause.TheVariants as causes
use Rattle.peer_fetch.specs.declared.session.Place.TheVariants as place
use Rattle.peer_fetch.specs.declared.session.Session.{Session}
use Rattle.peer_fetch.proofs.ServingAsks.{IsFilePiece}
use Rattle.peer_fetch.proofs.ServingBody.{BodyAgrees}
use Rattle.peer_fetch.proofs.ServingReads.{Spells}
use Rattle.peer_fetch.proofs.ServingSteps.{End, Outside, Rest, Unless, asked, asked_last, at_body, at_log, at_plan, broke, ends_at, from_outside, over}

-- nothing was added, or this
unchanged : {end : End} {most : ℕ} {plan : Plan} {msgs : List PeerMsg} (h new : List Event) (body mid : List ℕ) → new ≡ [] → mid ≡ body → Rest end most plan msgs (h ++ new) mid → Rest end most plan msgs h body
unchanged h new body mid none same rest = at_log (h ++ new) h (ap (λ es. h ++ es) none ∙ append-nil h) (at_body mid body same rest)

grown : {end : End} {most : ℕ} {plan : Plan} {msgs : List PeerMsg} (h new more : List Event) (body mid : List ℕ) → new ≡ more → mid ≡ body → Rest end most plan msgs (h ++ new) mid → Rest end most plan msgs (h ++ more) body
grown h new more body mid is same rest = at_log (h ++ new) (h ++ more) (ap (λ es. h ++ es) is) (at_body mid body same rest)

-- the offer

abbrev pub on_offer : Session → List Bool → Plan
on_offer s bits = if nat_le PART s.aim.size then Ask asks.HasSet (has_set_answered (with_offer bits s)) else start_upload (with_offer bits s)

by_offer : {end : End} {most : ℕ} {msgs : List PeerMsg} (h : List Event) (body : List ℕ) (s : Session) (bits : List Bool) (answer : Answer) (new : List Event) (mid : List ℕ)
    → Answered end.aim 0 h (asks.Offer bits) answer new → LaysBody (asks.Offer bits) answer body mid → Rest end most (offer_answered s bits answer) msgs (h ++ new) mid → Unless end (Rest end most (on_offer s bits) msgs (h ++ Offer 0 bits ∷ []) body)
by_offer h body s bits (answers.Offer (Ok done)) new mid answered laid rest = inr (grown h new (Offer 0 bits ∷ []) body mid answered.1 laid rest)
by_offer h body s bits (answers.Offer (Err why)) new mid answered laid rest = inl (broke (Read s) why (from_outside None why refl answered.0) rest)
by_offer h body s bits _ new mid answered laid rest = absurd answered

pub after_offer : {end : End} {most : ℕ} {msgs : List PeerMsg} {h : List Event} {body : List ℕ} (s : Session) (bits : List Bool) → Rest end (suc most) (Ask (asks.Offer bits) (offer_answered s bits)) msgs h body → Unless end (Rest end most (on_offer s bits) msgs (h ++ Offer 0 bits ∷ []) body)
after_offer {h = h} {body = body} s bits rest = let r = asked (asks.Offer bits) (offer_answered s bits) tt rest in by_offer h body s bits r.answer r.new r.mid r.answered r.laid r.rest

-- whether a set is kept

by_has_set : {end : End} {most : ℕ} {msgs : List PeerMsg} (h : List Event) (body : List ℕ) (s : Session) (answer : Answer) (new : List Event) (mid : List ℕ)
    → Answered end.aim 0 h asks.HasSet answer new → LaysBody asks.HasSet answer body mid → Rest end most (has_set_answered s answer) msgs (h ++ new) mid → Rest end most (has_set_answered s (answers.HasSet (not (is_nil (kept_set h))))) msgs h body
by_has_set h body s (answers.HasSet kept) new mid answered laid rest =
    at_plan (has_set_answered s (answers.HasSet kept)) (has_set_answered s (answers.HasSet (not (is_nil (kept_set h))))) (ap (λ b. has_set_answered s (answers.HasSet b)) answered.0) (unchanged h new body mid answered.1 laid rest)
by_has_set h body s _ new mid answered laid rest = absurd answered

pub after_has_set : {end : End} {most : ℕ} {msgs : List PeerMsg} {h : List Event} {body : List ℕ} (s : Session) → Rest end (suc most) (Ask asks.HasSet (has_set_answered s)) msgs h body → Rest end most (has_set_answered s (answers.HasSet (not (is_nil (kept_set h))))) msgs h body
after_has_set {h = h} {body = body} s rest = let r = asked asks.HasSet (has_set_answered s) tt rest in by_has_set h body s r.answer r.new r.mid r.answered r.laid r.rest

-- the set

set_broke : {end : End} {most : ℕ} {msgs : List PeerMsg} {h : List Event} {body : List ℕ} (s : Session) (why : DeskFault) → IsTrue (is_outside why) → Rest end most (hashes_answered s (answers.Hashes (Err why))) msgs h body → Outside end
set_broke s faults.Broken outside rest = broke (Read s) faults.Broken outside rest
set_broke s faults.Fault outside rest = broke (Read s) faults.Fault outside rest
set_broke s faults.NoMemory outside rest = broke (Read s) faults.NoMemory outside rest
set_broke s _ outside rest = absurd (cc)

by_hashes : {end : End} {most : ℕ} {msgs : List PeerMsg} (h : List Event) (body : List ℕ) (s : Session) (set : List (List ℕ)) (answer : Answer) (new : List Event) (mid : List ℕ) → refusal end.aim h (Hashes set) ≡ None
    → Answered end.aim 0 h (asks.Hashes set) answer new → LaysBody (asks.Hashes set) answer body mid → Rest end most (hashes_answered s answer) msgs (h ++ new) mid → Unless end (Rest end most (start_upload s) msgs (h ++ Hashes set ∷ []) body)
by_hashes h body s set (answers.Hashes (Ok done)) new mid none answered laid rest = inr (grown h new (Hashes set ∷ []) body mid answered.1 laid rest)
by_hashes {end = end} h body s set (answers.Hashes (Err why)) new mid none answered laid rest = inl (set_broke s why (from_outside (refusal end.aim h (Hashes set)) why none answered.0) rest)
by_hashes h body s set _ new mid none answered laid rest = absurd answered

pub after_hashes : {end : End} {most : ℕ} {msgs : List PeerMsg} {h : List Event} {body : List ℕ} (s : Session) (set : List (List ℕ)) → refusal end.aim h (Hashes set) ≡ None → Rest end (suc most) (Ask (asks.Hashes set) (hashes_answered s)) msgs h body → Unless end (Rest end most (start_upload s) msgs (h ++ Hashes set ∷ []) body)
after_hashes {h = h} {body = body} s set none rest = let r = asked (asks.Hashes set) (hashes_answered s) tt rest in by_hashes h body s set r.answer r.new r.mid none r.answered r.laid r.rest

-- the ranges of a turn

reserve_broke : {end : End} {most : ℕ} {msgs : List PeerMsg} {h : List Event} {body : List ℕ} (s : Session) (why : DeskFault) → IsTrue (is_outside why) → Rest end most (reserve_answered s (answers.Reserve (Err why))) msgs h body → Outside end
reserve_broke s faults.Broken outside rest = broke (Read s) faults.Broken outside rest
reserve_broke s faults.Fault outside rest = broke (Read s) faults.Fault outside rest
reserve_broke s faults.NoMemory outside rest = broke (Read s) faults.NoMemory outside rest
reserve_broke s _ outside rest = absurd (cc)

by_reserve : {end : End} {most : ℕ} {msgs : List PeerMsg} (h : List Event) (body : List ℕ) (s : Session) (answer : Answer) (new : List Event) (mid : List ℕ) → refusal end.aim h (Reserve 0 (pick_of end.aim.size h 0)) ≡ None
    → Answered end.aim 0 h asks.Reserve answer new → LaysBody asks.Reserve answer body mid → Rest end most (reserve_answered s answer) msgs (h ++ new) mid
    → Unless end (Rest end most (Send (messages.RequestParts s.aim.hash (pick_of end.aim.size h 0)) (Read (goes_to place.Pieces s))) msgs (h ++ Reserve 0 (pick_of end.aim.size h 0) ∷ []) body)
by_reserve {end = end} h body s (answers.Reserve (Ok spans)) new mid none answered laid rest =
    inr (at_plan (Send (messages.RequestParts s.aim.hash spans) (Read (goes_to place.Pieces s))) (Send (messages.RequestParts s.aim.hash (pick_of end.aim.size h 0)) (Read (goes_to place.Pieces s)))
    (ap (λ rs. Send (messages.RequestParts s.aim.hash rs) (Read (goes_to place.Pieces s))) answered.1)
    (grown h new (Reserve 0 (pick_of end.aim.size h 0) ∷ []) body mid answered.0.1 laid rest))
by_reserve {end = end} h body s (answers.Reserve (Err why)) new mid none answered laid rest = inl (reserve_broke s why (from_outside (refusal end.aim h (Reserve 0 (pick_of end.aim.size h 0))) why none answered.0.0) rest)
by_reserve h body s _ new mid none answered laid rest = absurd answered

pub after_reserve : {end : End} {most : ℕ} {msgs : List PeerMsg} {h : List Event} {body : List ℕ} (s : Session) → refusal end.aim h (Reserve 0 (pick_of end.aim.size h 0)) ≡ None → Rest end (suc most) (turn s) msgs h body
    → Unless end (Rest end most (Send (messages.RequestParts s.aim.hash (pick_of end.aim.size h 0)) (Read (goes_to place.Pieces s))) msgs (h ++ Reserve 0 (pick_of end.aim.size h 0) ∷ []) body)
after_reserve {h = h} {body = body} s none rest = let r = asked asks.Reserve (reserve_answered s) tt rest in by_reserve h body s r.answer r.new r.mid none r.answered r.laid r.rest

-- nothing is left to reserve

no_block_or : {end : End} {most : ℕ} {msgs : List PeerMsg} {h : List Event} {body : List ℕ} (s : Session) (why : DeskFault) (told : Option DeskFault) → told ≡ Some faults.NoBlock → IsTrue (is_outside why) ⊎ (told ≡ Some why)
    → Rest end most (reserve_answered s (answers.Reserve (Err why))) msgs h body → Unless end (Rest end most (pause s) msgs h body)
no_block_or s why told none (inl outside) rest = inl (reserve_broke s why outside rest)
no_block_or s why told none (inr is) rest =
    let same : why ≡ faults.NoBlock = cc in
    inr (at_plan (reserve_answered s (answers.Reserve (Err why))) (pause s) (ap (λ w. reserve_answered s (answers.Reserve (Err w))) same) rest)

by_no_block : {end : End} {most : ℕ} {msgs : List PeerMsg} (h : List Event) (body : List ℕ) (s : Session) (answer : Answer) (new : List Event) (mid : List ℕ) → refusal end.aim h (Reserve 0 (pick_of end.aim.size h 0)) ≡ Some faults.NoBlock
    → Answered end.aim 0 h asks.Reserve answer new → LaysBody asks.Reserve answer body mid → Rest end most (reserve_answered s answer) msgs (h ++ new) mid → Unless end (Rest end most (pause s) msgs h body)
by_no_block h body s (answers.Reserve (Ok spans)) new mid none answered laid rest = let ok = answered.0.0 in absurd (cc)
by_no_block {end = end} h body s (answers.Reserve (Err why)) new mid none answered laid rest =
    no_block_or s why (refusal end.aim h (Reserve 0 (pick_of end.aim.size h 0))) none answered.0.0 (unchanged h new body mid answered.0.1 laid rest)
by_no_block h body s _ new mid none answered laid rest = absurd answered

pub after_no_block : {end : End} {most : ℕ} {msgs : List PeerMsg} {h : List Event} {body : List ℕ} (s : Session) → refusal end.aim h (Reserve 0 (pick_of end.aim.size h 0)) ≡ Some faults.NoBlock → Rest end (suc most) (turn s) msgs h body → Unless end (Rest end most (pause s) msgs h body)
after_no_block {h = h} {body = body} s none rest = let r = asked asks.Reserve (reserve_answered s) tt rest in by_no_block h body s r.answer r.new r.mid none r.answered r.laid r.rest

-- a piece

by_write : {end : End} {most : ℕ} {msgs : List PeerMsg} (h : List Event) (body : List ℕ) (s : Session) (at : ℕ) (piece : List ℕ) (answer : Answer) (new : List Event) (mid : List ℕ) → refusal end.aim h (Write 0 (span_at at piece)) ≡ None
    → Answered end.aim 0 h (asks.Write at piece) answer new → LaysBody (asks.Write at piece) answer body mid → Rest end most (write_answered s answer) msgs (h ++ new) mid
    → Unless end (Rest end most (part_filled s (full_part end.aim.size (h ++ Write 0 (span_at at piece) ∷ []) at)) msgs (h ++ Write 0 (span_at at piece) ∷ []) (overwritten body at piece))
by_write {end = end} h body s at piece (answers.Write (Ok written)) new mid none answered laid rest =
    let e : Event = Write 0 (span_at at piece) in
    let full : written.full ≡ full_part end.aim.size (h ++ e ∷ []) at = answered.1.is ∙ ap (λ es. full_part end.aim.size (h ++ es) at) answered.0.1 in
    inr (at_plan (part_filled s written.full) (part_filled s (full_part end.aim.size (h ++ e ∷ []) at)) (ap (part_filled s) full) (grown h new (e ∷ []) (overwritten body at piece) mid answered.0.1 laid rest))
by_write {end = end} h body s at piece (answers.Write (Err why)) new mid none answered laid rest = inl (broke (Read s) why (from_outside (refusal end.aim h (Write 0 (span_at at piece))) why none answered.0.0) rest)
by_write h body s at piece _ new mid none answered laid rest = absurd answered

pub after_write : {end : End} {most : ℕ} {msgs : List PeerMsg} {h : List Event} {body : List ℕ} (s : Session) (at : ℕ) (piece : List ℕ) → IsFilePiece end.aim.size end.file h at piece → refusal end.aim h (Write 0 (span_at at piece)) ≡ None → Rest end (suc most) (Ask (asks.Write at piece) (write_answered s)) msgs h body
    → Unless end (Rest end most (part_filled s (full_part end.aim.size (h ++ Write 0 (span_at at piece) ∷ []) at)) msgs (h ++ Write 0 (span_at at piece) ∷ []) (overwritten body at piece))
after_write {h = h} {body = body} s at piece of none rest = let r = asked (asks.Write at piece) (write_answered s) of rest in by_write h body s at piece r.answer r.new r.mid none r.answered r.laid r.rest

-- a full part is made durable and judged

by_commit : {end : End} {most : ℕ} {msgs : List PeerMsg} (h : List Event) (body : List ℕ) (s : Session) (i : ℕ) (answer : Answer) (new : List Event) (mid : List ℕ)
    → Answered end.aim 0 h asks.Commit answer new → LaysBody asks.Commit answer body mid → Rest end most (on_commit s i answer) msgs (h ++ new) mid → Unless end (Rest end most (Ask (asks.Verify i) (verify_answered s i)) msgs (h ++ commit_events h) body)
by_commit h body s i (answers.Commit (Ok done)) new mid answered laid rest = inr (grown h new (commit_events h) body mid answered laid rest)
by_commit h body s i (answers.Commit (Err why)) new mid answered laid rest = inl (broke (look s) why answered.0 rest)
by_commit h body s i _ new mid answered laid rest = absurd answered

pub after_commit : {end : End} {most : ℕ} {msgs : List PeerMsg} {h : List Event} {body : List ℕ} (s : Session) (i : ℕ) → Rest end (suc most) (Ask asks.Commit (on_commit s i)) msgs h body → Unless end (Rest end most (Ask (asks.Verify i) (verify_answered s i)) msgs (h ++ commit_events h) body)
after_commit {h = h} {body = body} s i rest = let r = asked asks.Commit (on_commit s i) tt rest in by_commit h body s i r.answer r.new r.mid r.answered r.laid r.rest

-- the verdict is of the body as it is
pub record Judged (end : End) (most : ℕ) (s : Session) (i : ℕ) (msgs : List PeerMsg) (h : List Event) (body : List ℕ) : Type 0 where
  pub digest : List ℕ
  pub is : digest ≡ md4 (part body i)
  pub rest : Rest end most (verify_answered s i (answers.Verify (Ok (verdict_on end.aim h i digest)))) msgs (h ++ Verdict i digest ∷ []) body

by_verify : {end : End} {most : ℕ} {msgs : List PeerMsg} (h : List Event) (body : List ℕ) (s : Session) (i : ℕ) (answer : Answer) (new : List Event) (mid : List ℕ) → ((digest : List ℕ) → refusal end.aim h (Verdict i digest) ≡ None)
    → Answered end.aim 0 h (asks.Verify i) answer new → AreTrue body new → LaysBody (asks.Verify i) answer body mid → Rest end most (verify_answered s i answer) msgs (h ++ new) mid → Unless end (Judged end most s i msgs h body)
by_verify {end = end} {most = most} {msgs = msgs} h body s i (answers.Verify (Ok verdict)) new mid none answered true_of laid rest =
    let e : Event = Verdict i answered.0 in
    let told : AreTrue body (e ∷ []) = subst (λ (es : List Event). AreTrue body es) answered.1.1 true_of in
    inr (record {
      digest = answered.0;
      is = told.0;
      rest = at_plan (verify_answered s i (answers.Verify (Ok verdict))) (verify_answered s i (answers.Verify (Ok (verdict_on end.aim h i answered.0)))) (ap (λ v. verify_answered s i (answers.Verify (Ok v))) answered.2) (grown h new (e ∷ []) body mid answered.1.1 laid rest);
    })
by_verify {end = end} h body s i (answers.Verify (Err why)) new mid none answered true_of laid rest = inl (broke (look s) why (from_outside (refusal end.aim h (Verdict i answered.0)) why (none answered.0) answered.1.0) rest)
by_verify h body s i _ new mid none answered true_of laid rest = absurd answered

pub after_verify : {end : End} {most : ℕ} {msgs : List PeerMsg} {h : List Event} {body : List ℕ} (s : Session) (i : ℕ) → ((digest : List ℕ) → refusal end.aim h (Verdict i digest) ≡ None) → Rest end (suc most) (Ask (asks.Verify i) (verify_answered s i)) msgs h body → Unless end (Judged end most s i msgs h body)
after_verify {h = h} {body = body} s i none rest = let r = asked (asks.Verify i) (verify_answered s i) tt rest in by_verify h body s i r.answer r.new r.mid none r.answered r.judged r.laid r.rest

-- whether ranges are left

by_holds : {end : End} {most : ℕ} {msgs : List PeerMsg} (h : List Event) (body : List ℕ) (s : Session) (answer : Answer) (new : List Event) (mid : List ℕ)
    → Answered end.aim 0 h asks.Holds answer new → LaysBody asks.Holds answer body mid → Rest end most (holds_answered s answer) msgs (h ++ new) mid → Rest end most (holds_answered s (answers.Holds (is_holder h 0))) msgs h body
by_holds h body s (answers.Holds holding) new mid answered laid rest =
    at_plan (holds_answered s (answers.Holds holding)) (holds_answered s (answers.Holds (is_holder h 0))) (ap (λ b. holds_answered s (answers.Holds b)) answered.0) (unchanged h new body mid answered.1 laid rest)
by_holds h body s _ new mid answered laid rest = absurd answered

pub after_look : {end : End} {most : ℕ} {msgs : List PeerMsg} {h : List Event} {body : List ℕ} (s : Session) → Rest end (suc most) (look s) msgs h body → Rest end most (holds_answered s (answers.Holds (is_holder h 0))) msgs h body
after_look {h = h} {body = body} s rest = let r = asked asks.Holds (holds_answered s) tt rest in by_holds h body s r.answer r.new r.mid r.answered r.laid r.rest

-- the two calls at a pause

none_released : (h : List Event) (new : List Event) → is_holder h 0 ≡ false → (new ≡ release_events h 0) ⊎ (new ≡ []) → new ≡ []
none_released h new free (inl is) = is ∙ ap (λ (b : Bool). if b then Release 0 ∷ [] else []) free
none_released h new free (inr none) = none

by_release : {end : End} {most : ℕ} {msgs : List PeerMsg} (h : List Event) (body : List ℕ) (s : Session) (answer : Answer) (new : List Event) (mid : List ℕ) → is_holder h 0 ≡ false
    → Answered end.aim 0 h asks.Release answer new → LaysBody asks.Release answer body mid → Rest end most (Last asks.Commit (λ a. end_pause s (commit_cause a))) msgs (h ++ new) mid → Rest end most (Last asks.Commit (λ a. end_pause s (commit_cause a))) msgs h body
by_release h body s answers.Release new mid free answered laid rest = unchanged h new body mid (none_released h new free answered) laid rest
by_release h body s _ new mid free answered laid rest = absurd answered

pause_broke : {end : End} {most : ℕ} {msgs : List PeerMsg} {h : List Event} {body : List ℕ} (s : Session) (why : DeskFault) → IsTrue (is_outside why) → Rest end most (end_pause s (ends_by why)) msgs h body → Outside end
pause_broke s faults.Broken outside rest = over causes.StoreFault tt rest
pause_broke s faults.Fault outside rest = over causes.StoreFault tt rest
pause_broke s faults.NoMemory outside rest = over causes.NoMemory tt rest
pause_broke s _ outside rest = absurd (cc)

by_last_commit : {end : End} {most : ℕ} {msgs : List PeerMsg} (h : List Event) (body : List ℕ) (s : Session) (answer : Answer) (new : List Event) (mid : List ℕ)
    → Answered end.aim 0 h asks.Commit answer new → LaysBody asks.Commit answer body mid → Rest end most (end_pause s (commit_cause answer)) msgs (h ++ new) mid → Unless end (Rest end most (Paused s) msgs (h ++ commit_events h) body)
by_last_commit h body s (answers.Commit (Ok done)) new mid answered laid rest = inr (grown h new (commit_events h) body mid answered laid rest)
by_last_commit h body s (answers.Commit (Err why)) new mid answered laid rest = inl (pause_broke s why answered.0 rest)
by_last_commit h body s _ new mid answered laid rest = absurd answered

pub after_pause : {end : End} {most : ℕ} {msgs : List PeerMsg} {h : List Event} {body : List ℕ} (s : Session) → is_holder h 0 ≡ false → Rest end (suc (suc most)) (pause s) msgs h body → Unless end (Rest end most (Paused s) msgs (h ++ commit_events h) body)
after_pause {h = h} {body = body} s free rest =
    let first = asked_last asks.Release (λ _. Last asks.Commit (λ a. end_pause s (commit_cause a))) tt rest in
    let released_all = by_release h body s first.answer first.new first.mid free first.answered first.laid first.rest in
    let last = asked_last asks.Commit (λ a. end_pause s (commit_cause a)) tt released_all in
    by_last_commit h body s last.answer last.new last.mid last.answered last.laid last.rest

-- a paused session ends, or another call of it begins

pub record EndsHere (end : End) (h : List Event) (body : List ℕ) : Type 0 where
  pub cause : end.found ≡ causes.NoBlock
  pub log : end.log ≡ h
  pub bytes : end.body ≡ body

paused_by : (end : End) (most : ℕ) (s : Session) (msgs : List PeerMsg) (h : List Event) (body bytes : List ℕ) (left : Option (List ℕ)) (acts : List Act) → length acts ≤ suc most → Run (Paused s) acts end.to
    → EndsWith end.to end.found → Spells bytes msgs → Reads acts (Some bytes) left → Chained end.aim 0 h acts end.log → LaysPieces body acts end.body → BodyAgrees end.aim.size end.file h body → EndsHere end h body ⊎ Rest end most (turn s) msgs h body
paused_by end most s msgs h body bytes left [] short runs ends spells reads chained lays agrees = inl (record { cause = ends_at (Paused s) end.to end.found runs ends; log = chained; bytes = lays })
paused_by end most s msgs h body bytes left (Begins ∷ acts) short runs ends spells reads chained lays agrees =
    inr (record { acts = acts; short = omega arith; runs = runs.1; ends = ends; bytes = bytes; spells = spells; left = left; reads = reads; chained = chained; lays = lays; agrees = agrees })
paused_by end most s msgs h body bytes left (Sends msg ∷ acts) short runs ends spells reads chained lays agrees = absurd runs.0
paused_by end most s msgs h body bytes left (Breaks msg part cause ∷ acts) short runs ends spells reads chained lays agrees = absurd runs.0
paused_by end most s msgs h body bytes left (Asks ask answer new ∷ acts) short runs ends spells reads chained lays agrees = absurd runs.0
paused_by end most s msgs h body bytes left (Takes msg ∷ acts) short runs ends spells reads chained lays agrees = absurd runs.0
paused_by end most s msgs h body bytes left (Stops cause ∷ acts) short runs ends spells reads chained lays agrees = absurd runs.0

pub after_paused : {end : End} {most : ℕ} {msgs : List PeerMsg} {h : List Event} {body : List ℕ} (s : Session) → Rest end (suc most) (Paused s) msgs h body → EndsHere end h body ⊎ Rest end most (turn s) msgs h body
after_paused {end} {most} {msgs} {h} {body} s r = paused_by end most s msgs h body r.bytes r.left r.acts r.short r.runs r.ends r.spells r.reads r.chained r.lays r.agrees

-- the first call begins

begun_by : (end : End) (most : ℕ) (s : Session) (msgs : List PeerMsg) (h : List Event) (body bytes : List ℕ) (left : Option (List ℕ)) (acts : List Act) → length acts ≤ most → Run (Begin s) acts end.to
    → EndsWith end.to end.found → Spells bytes msgs → Reads acts (Some bytes) left → Chained end.aim 0 h acts end.log → LaysPieces body acts end.body → BodyAgrees end.aim.size end.file h body → Rest end most (start s) msgs h body
begun_by end most s msgs h body bytes left [] short runs ends spells reads chained lays agrees = absurd (ends_at (Begin s) end.to end.found runs ends)
begun_by end most s msgs h body bytes left (Begins ∷ acts) short runs ends spells reads chained lays agrees =
    record { acts = acts; short = omega arith; runs = runs.1; ends = ends; bytes = bytes; spells = spells; left = left; reads = reads; chained = chained; lays = lays; agrees = agrees }
begun_by end most s msgs h body bytes left (Sends msg ∷ acts) short runs ends spells reads chained lays agrees = absurd runs.0
begun_by end most s msgs h body bytes left (Breaks msg part cause ∷ acts) short runs ends spells reads chained lays agrees = absurd runs.0
begun_by end most s msgs h body bytes left (Asks ask answer new ∷ acts) short runs ends spells reads chained lays agrees = absurd runs.0
begun_by end most s msgs h body bytes left (Takes msg ∷ acts) short runs ends spells reads chained lays agrees = absurd runs.0
begun_by end most s msgs h body bytes left (Stops cause ∷ acts) short runs ends spells reads chained lays agrees = absurd runs.0

pub after_begin : {end : End} {most : ℕ} {msgs : List PeerMsg} {h : List Event} {body : List ℕ} (s : Session) → Rest end most (Begin s) msgs h body → Rest end most (start s) msgs h body
after_begin {end} {most} {msgs} {h} {body} s r = begun_by end most s msgs h body r.bytes r.left r.acts r.short r.runs r.ends r.spells r.reads r.chained r.lays r.agrees
