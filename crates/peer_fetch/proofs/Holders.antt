-- Whether a peer holds a range is told by its own events alone.
use Rattle.std.proofs.Common.{◌≡◌, ℕ, Bool, true, false, ◌||◌, cond, if◌then◌else◌, List, [], ◌∷◌, ◌++◌, map, Option, None, Ok, Err, IsTrue, IsFalse, refl, ap, sym, subst, ◌∙◌, ◌==◌}
use Rattle.std.specs.List.{filter, list_any}
use Rattle.std.proofs.lemmas.Bool.{eqb-true}
use Rattle.std.proofs.lemmas.List.{append-nil}
use Rattle.std.proofs.lemmas.List.Elements.{filter-append}
use Rattle.std.proofs.lemmas.List.Folds.{list_any-append}
use Rattle.part_hashset.specs.declared.aim.Aim.{Aim}
use Rattle.part_sizes.specs.declared.span.Span.{Span}
use Rattle.reserve_core.specs.Desk.{Answered, IsDeskCall, is_own, own}
use Rattle.reserve_core.specs.Events.{events, greatest, raise}
use Rattle.reserve_core.specs.Filled.{is_uncommitted}
use Rattle.reserve_core.specs.Held.{hold_after, is_holder, is_open, is_release, reserved_holds, reserved_by, written_by}
use Rattle.reserve_core.specs.declared.desk.Answer.{Answer}
use Rattle.reserve_core.specs.declared.desk.Answer.TheVariants as answers
use Rattle.reserve_core.specs.declared.desk.DeskAsk.{DeskAsk}
use Rattle.reserve_core.specs.declared.desk.DeskAsk.TheVariants as asks
use Rattle.reserve_core.specs.declared.event.Entry.{Entry}
use Rattle.reserve_core.specs.declared.event.Event.{Event}
use Rattle.reserve_core.specs.declared.event.Event.TheVariants as event
use Rattle.reserve_core.specs.declared.event.Event.TheVariants.{Reserve, Write, Release}
use Rattle.reserve_core.specs.declared.hold.Hold.{Hold}
use Rattle.peer_fetch.specs.Machine.{Gives, IsLastAt, is_at_end, is_released, is_ready}
use Rattle.peer_fetch.specs.Plan.{Plan, Begin, Send, Ask, Last, Read, Paused, Ended}
use Rattle.peer_fetch.specs.declared.cause.Cause.{Cause}
use Rattle.peer_fetch.specs.declared.machine.SessionState.{SessionState}
use Rattle.peer_fetch.specs.declared.machine.SessionState.TheVariants as state
use Rattle.peer_fetch.specs.declared.machine.Next.TheVariants as next
use Rattle.peer_fetch.specs.declared.session.Session.{Session}
use Rattle.peer_fetch.proofs.Fetches.{events-append, own_grows}

abbrev has_open : ℕ → List Hold → Bool
has_open p holds = list_any (λ hold. hold.peer == p) (filter is_open holds)

has_open-append : (p : ℕ) (a b : List Hold) → has_open p (a ++ b) ≡ has_open p a || has_open p b
has_open-append p a b = ap (list_any (λ (hold : Hold). hold.peer == p)) (filter-append is_open a b) ∙ list_any-append (λ (hold : Hold). hold.peer == p) (filter is_open a) (filter is_open b)

not_release : (p : ℕ) (e : Event) → IsFalse (is_own p e) → IsFalse (is_release p e)
not_release p (Release q) other = other
not_release p _ other = refl

not_written : (p : ℕ) (r : Span) (e : Event) → IsFalse (is_own p e) → written_by p r e ≡ None
not_written p r (Write q s) other = rw other refl
not_written p r _ other = refl

releases_step : (p : ℕ) (e : Event) (h : List Event) (owned : Bool) → is_own p e ≡ owned → list_any (is_release p) h ≡ list_any (is_release p) (own h p) →
    is_release p e || list_any (is_release p) h ≡ list_any (is_release p) (cond owned (e ∷ own h p) (own h p))
releases_step p e h true is same = ap (λ b. is_release p e || b) same
releases_step p e h false is same = ap (λ b. b || list_any (is_release p) h) (not_release p e is) ∙ same

releases_own : (p : ℕ) (h : List Event) → list_any (is_release p) h ≡ list_any (is_release p) (own h p)
releases_own p [] = refl
releases_own p (e ∷ h) = releases_step p e h (is_own p e) refl (releases_own p h)

greatest_step : (p : ℕ) (r : Span) (e : Event) (h : List Event) (owned : Bool) → is_own p e ≡ owned → greatest (written_by p r) r.s h ≡ greatest (written_by p r) r.s (own h p) →
    raise (written_by p r e) (greatest (written_by p r) r.s h) ≡ greatest (written_by p r) r.s (cond owned (e ∷ own h p) (own h p))
greatest_step p r e h true is same = ap (raise (written_by p r e)) same
greatest_step p r e h false is same = ap (λ o. raise o (greatest (written_by p r) r.s h)) (not_written p r e is) ∙ same

greatest_own : (p : ℕ) (r : Span) (h : List Event) → greatest (written_by p r) r.s h ≡ greatest (written_by p r) r.s (own h p)
greatest_own p r [] = refl
greatest_own p r (e ∷ h) = greatest_step p r e h (is_own p e) refl (greatest_own p r h)

holds_own : (p : ℕ) (h : List Event) (spans : List Span) → map (hold_after p h) spans ≡ map (hold_after p (own h p)) spans
holds_own p h [] = refl
holds_own p h (r ∷ spans) =
    let at : hold_after p h r ≡ hold_after p (own h p) r = ap (λ (n : ℕ). let k : Hold = record { peer = p; whole = r; from = n } in k) (greatest_own p r h) in
    ap (λ k. k ∷ map (hold_after p h) spans) at ∙ ap (λ ks. hold_after p (own h p) r ∷ ks) (holds_own p h spans)

reserve_own : (p : ℕ) (h : List Event) (spans : List Span) → reserved_by (Reserve p spans) h ≡ reserved_by (Reserve p spans) (own h p)
reserve_own p h spans =
    ap (λ (b : Bool). if b then [] else map (hold_after p h) spans) (releases_own p h)
    ∙ ap (λ ks. if list_any (is_release p) (own h p) then [] else ks) (holds_own p h spans)

reserved_own : (p : ℕ) (e : Event) (h : List Event) → IsTrue (is_own p e) → reserved_by e h ≡ reserved_by e (own h p)
reserved_own p (Reserve q spans) h mine =
    let is : p ≡ q = sym (eqb-true q p mine) in
    subst (λ n. reserved_by (Reserve n spans) h ≡ reserved_by (Reserve n spans) (own h p)) is (reserve_own p h spans)
reserved_own p _ h mine = refl

open_step : (p q : ℕ) (k : Hold) (ks : List Hold) (b : Bool) → k.peer ≡ q → IsFalse (q == p) → list_any (λ (hold : Hold). hold.peer == p) ks ≡ false → list_any (λ (hold : Hold). hold.peer == p) (cond b (k ∷ ks) ks) ≡ false
open_step p q k ks true is other none = ap (λ n. (n == p) || list_any (λ (hold : Hold). hold.peer == p) ks) is ∙ ap (λ b. b || list_any (λ (hold : Hold). hold.peer == p) ks) other ∙ none
open_step p q k ks false is other none = none

foreign_holds : (p q : ℕ) (h : List Event) (spans : List Span) → IsFalse (q == p) → IsFalse (has_open p (map (hold_after q h) spans))
foreign_holds p q h [] other = refl
foreign_holds p q h (r ∷ spans) other =
    open_step p q (hold_after q h r) (filter is_open (map (hold_after q h) spans)) (is_open (hold_after q h r)) refl other (foreign_holds p q h spans other)

foreign_step : (p q : ℕ) (h : List Event) (spans : List Span) (b : Bool) → IsFalse (q == p) → IsFalse (has_open p (if b then [] else map (hold_after q h) spans))
foreign_step p q h spans true other = refl
foreign_step p q h spans false other = foreign_holds p q h spans other

foreign_reserved : (p : ℕ) (e : Event) (h : List Event) → IsFalse (is_own p e) → IsFalse (has_open p (reserved_by e h))
foreign_reserved p (Reserve q spans) h other = foreign_step p q h spans (list_any (is_release q) h) other
foreign_reserved p _ h other = refl

holder_step : (p : ℕ) (e : Event) (h : List Event) (owned : Bool) → is_own p e ≡ owned → has_open p (reserved_holds h) ≡ has_open p (reserved_holds (own h p)) →
    has_open p (reserved_by e h) || has_open p (reserved_holds h) ≡ has_open p (reserved_holds (cond owned (e ∷ own h p) (own h p)))
holder_step p e h true is same =
    ap (λ ks. has_open p ks || has_open p (reserved_holds h)) (reserved_own p e h is)
    ∙ ap (λ b. has_open p (reserved_by e (own h p)) || b) same
    ∙ sym (has_open-append p (reserved_by e (own h p)) (reserved_holds (own h p)))
holder_step p e h false is same = ap (λ b. b || has_open p (reserved_holds h)) (foreign_reserved p e h is) ∙ same

holder_own : (p : ℕ) (h : List Event) → has_open p (reserved_holds h) ≡ has_open p (reserved_holds (own h p))
holder_own p [] = refl
holder_own p (e ∷ h) = has_open-append p (reserved_by e h) (reserved_holds h) ∙ holder_step p e h (is_own p e) refl (holder_own p h)

-- logs with the same own events tell the same
holder_same : (p : ℕ) (h more : List Event) → own more p ≡ own h p → is_holder more p ≡ is_holder h p
holder_same p h more same = holder_own p more ∙ ap (λ log. has_open p (reserved_holds log)) same ∙ sym (holder_own p h)

commit_foreign : (p : ℕ) (b : Bool) → filter (is_own p) (if b then event.Commit ∷ [] else []) ≡ []
commit_foreign p true = refl
commit_foreign p false = refl

commits_foreign : (aim : Aim) (p : ℕ) (h : List Event) (answer : Answer) (added : List Event) → Answered aim p h asks.Commit answer added → filter (is_own p) added ≡ []
commits_foreign aim p h (answers.Commit (Ok done)) added is = ap (filter (is_own p)) is ∙ commit_foreign p (is_uncommitted h)
commits_foreign aim p h (answers.Commit (Err refused)) added (outside, is) = ap (filter (is_own p)) is
commits_foreign aim p h _ added served = absurd served

-- a commit leaves what the peer holds
commit_same : (aim : Aim) (p : ℕ) (alone : Bool) (answer : Answer) (h h2 : List Entry) (body body2 : Option (List ℕ)) → IsDeskCall aim p alone asks.Commit answer h h2 body body2 → is_holder (events h2) p ≡ is_holder (events h) p
commit_same aim p alone answer h h2 body body2 served =
    let grows : events h2 ≡ (events h ++ events served.others) ++ events served.mine =
    ap events served.grows ∙ events-append (h ++ served.others) served.mine ∙ ap (λ front. front ++ events served.mine) (events-append h served.others) in
    let mine = commits_foreign aim p (events (h ++ served.others)) answer (events served.mine) served.answered in
    holder_same p (events h) (events h2)
    (ap (λ log. own log p) grows ∙ own_grows p (events h) (events served.others) (events served.mine) (own (events h) p) refl served.foreign
    ∙ ap (λ tail. own (events h) p ++ tail) mine ∙ append-nil (own (events h) p))

commit_free : (aim : Aim) (p : ℕ) (alone : Bool) (ask : DeskAsk) (answer : Answer) (h h2 : List Entry) (body body2 : Option (List ℕ)) → ask ≡ asks.Commit → IsFalse (is_holder (events h) p) → IsDeskCall aim p alone ask answer h h2 body body2 → IsFalse (is_holder (events h2) p)
commit_free aim p alone ask answer h h2 body body2 is free served =
    commit_same aim p alone answer h h2 body body2 (subst (λ (a : DeskAsk). IsDeskCall aim p alone a answer h h2 body body2) is served) ∙ free

-- behind the release at the end the peer holds nothing
pub freed : (aim : Aim) (p : ℕ) (alone : Bool) (ask : DeskAsk) (answer : Answer) (h h2 : List Entry) (body body2 : Option (List ℕ)) (at : SessionState) → IsLastAt at ask → IsTrue (is_at_end at) →
    (ask ≡ asks.Release → IsFalse (is_holder (events h2) p)) → (IsTrue (is_released at) → IsFalse (is_holder (events h) p)) → IsDeskCall aim p alone ask answer h h2 body body2 → IsFalse (is_holder (events h2) p)
freed aim p alone ask answer h h2 body body2 (state.EndReleases cause) last end released free served = released last
freed aim p alone ask answer h h2 body body2 state.PauseReleases last end released free served = released last
freed aim p alone ask answer h h2 body body2 (state.EndCommits cause) last end released free served = commit_free aim p alone ask answer h h2 body body2 last (free refl) served
freed aim p alone ask answer h h2 body body2 state.PauseCommits last end released free served = commit_free aim p alone ask answer h h2 body body2 last (free refl) served
freed aim p alone ask answer h h2 body body2 _ last end released free served = absurd (cc)

pub not_begun : {P : Type 0} (at : SessionState) → IsTrue (is_ready at) → IsTrue (is_at_end at) → P
not_begun state.Fresh ready end = absurd (cc)
not_begun state.Paused ready end = absurd (cc)
not_begun _ ready end = absurd (cc)

pub end_free : (plan : Plan) (cause : Cause) (s : Session) (at : SessionState) → Gives plan (next.End cause) s at → IsTrue (is_released at)
end_free (Begin t) cause s at gives = absurd gives
end_free (Send msg rest) cause s at (given, saying, rests) = absurd (cc)
end_free (Ask ask follows) cause s at (given, asking, answers) = absurd (cc)
end_free (Last ask follows) cause s at (given, asking, answers) = absurd (cc)
end_free (Read t) cause s at (given, same, waits) = absurd (cc)
end_free (Paused t) cause s at (given, same, waits) = ap is_released waits
end_free (Ended found) cause s at (given, same) = ap is_released same
