-- A peer whose call ended because nothing was left to reserve has given all that it offered, where nothing moved
-- since the call began.
use Rattle.std.proofs.Common.{◌≡◌, ◌⊎◌, ◌∙◌, refl, sym, ap, subst, inl, inr, ℕ, ◌<◌, Bool, true, false, not, ◌==◌, List, [], ◌∷◌, ◌++◌, length, Option, Some, None, is_none, IsFalse, IsSome, IsTrue, append_assoc, if◌then◌else◌, arith}
use Rattle.std.specs.List.{list_any}
use Rattle.std.proofs.lemmas.Bool.{false≢true}
use Rattle.std.proofs.lemmas.List.{append-nil}
use Rattle.std.proofs.lemmas.List.Elements.{filter-append}
use Rattle.part_hashset.specs.declared.aim.Aim.{Aim}
use Rattle.part_sizes.specs.Part.{data_parts, part_range}
use Rattle.part_sizes.specs.Span.{has}
use Rattle.part_sizes.proofs.Laws.{has_between}
use Rattle.part_sizes.proofs.Positions.{find-positions_none}
use Rattle.peer_fetch.specs.Fetches.{Due, Inside, Talk, standing}
use Rattle.peer_fetch.specs.Moves.{Outside}
use Rattle.peer_fetch.specs.Talk.{BeginsFirst, added}
use Rattle.peer_fetch.specs.declared.cause.Cause.TheVariants as causes
use Rattle.peer_fetch.proofs.Pauses.{IsOwnLog, PausesAt, own_log, pauses_at}
use Rattle.reserve_core.specs.Choice.{offers_part, pick_of}
use Rattle.reserve_core.specs.Desk.{commit_events, is_own, own, release_events}
use Rattle.reserve_core.specs.Filled.{is_filled, is_full, is_uncommitted}
use Rattle.reserve_core.specs.Held.{is_holder}
use Rattle.reserve_core.specs.Legal.{AreLegal, Follows}
use Rattle.reserve_core.specs.Moved.{moved, moves}
use Rattle.part_hashset.specs.Goals.{fails, is_wanted, passes}
use Rattle.reserve_core.specs.Verdicts.{goal, is_verified, lacks_set, verdict_of}
use Rattle.reserve_core.specs.declared.event.Event.{Event}
use Rattle.reserve_core.specs.declared.event.Event.TheVariants.{Release, Commit}
use Rattle.reserve_core.specs.declared.hold.Hold.{Hold}
use Rattle.reserve_core.proofs.Quiet.{holds-same}
use Rattle.ed2k_node.specs.Left.{GoesOn, HasNoFailed, IsSettled}
use Rattle.ed2k_node.specs.Rounds.{HasGiven}
use Rattle.ed2k_node.proofs.DueChoice.{filled_where_empty, nothing_chosen}
use Rattle.ed2k_node.proofs.DueLog.{behind_still, both_still, filled_on, lacks_on, legal_behind, offers_on}

-- ---- a part whose positions are filled is verified, where all is settled and none is failed

full_from : (n : ℕ) (h : List Event) (i : ℕ) → ((x : ℕ) → has (part_range n i) x ≡ true → is_filled n h x ≡ true) → is_full n h i ≡ true
full_from n h i each = ap is_none (find-positions_none (λ x. not (is_filled n h x)) (part_range n i) (λ x here. ap not (each x here)))

passed : (wanted found : Option (List ℕ)) → IsSome found → fails wanted found ≡ false → passes wanted found ≡ true
passed wanted None judged failed = absurd (cc)
passed wanted (Some d) judged failed = turned (is_wanted wanted d) failed
  where
    turned : (b : Bool) → not b ≡ false → b ≡ true
    turned true e = refl
    turned false e = cc

verified : (aim : Aim) (h : List Event) (part : ℕ) → part < data_parts aim.size → IsSettled aim h → HasNoFailed aim h → IsFalse (lacks_set aim.size h) →
    ((x : ℕ) → has (part_range aim.size part) x ≡ true → is_filled aim.size h x ≡ true) → is_verified aim h part ≡ true
verified aim h part exists settled none lacks each =
    passed (goal aim h part) (verdict_of h part) (settled.judged part exists (full_from aim.size h part each) lacks) (none part exists)

-- ---- over a log at which nothing was left to reserve, and what stands behind

start_in : (n i : ℕ) → i < data_parts n → has (part_range n i) (part_range n i).s ≡ true
start_in n i exists = has_between (part_range n i) (part_range n i).s (omega arith) (omega (arith, exists))

-- a log was left with nothing to reserve for its one peer, and goes on with nothing that moves and none of the
-- peer's own events
record IsLeft (aim : Aim) (p : ℕ) (here more h : List Event) : Type 0 where
  owned : IsOwnLog p here
  free : IsFalse (is_holder here p)
  empty : pick_of aim.size here p ≡ []
  lacks : IsFalse (lacks_set aim.size here)
  log : h ≡ here ++ more
  still : IsFalse (list_any (moves aim h) more)
  foreign : own more p ≡ []

filled_here : (aim : Aim) (p : ℕ) (here more h : List Event) → IsLeft aim p here more h → (part x : ℕ) → part < data_parts aim.size → offers_part h p part ≡ true →
    has (part_range aim.size part) x ≡ true → is_filled aim.size here x ≡ true
filled_here aim p here more h left part x exists offers at =
    let offered : offers_part here p part ≡ true = sym (offers_on p part here more left.foreign) ∙ (ap (λ log. offers_part log p part) (sym left.log) ∙ offers) in
    filled_where_empty aim.size here p part x left.owned left.free left.empty exists offered at

given_by : (aim : Aim) (p : ℕ) (here more h : List Event) → AreLegal aim h → IsSettled aim h → HasNoFailed aim h → IsLeft aim p here more h → HasGiven aim h p
given_by aim p [] more h legal settled none left =
    λ part exists offers.
    let start = (part_range aim.size part).s in
    let filled : false ≡ true = filled_here aim p [] more h left part start exists offers (start_in aim.size part exists) in
    absurd (false≢true filled)
given_by aim p (first ∷ front) more h legal settled none left =
    λ part exists offers.
    let follows : Follows aim (first ∷ front) more = legal_behind aim first front more (subst (AreLegal aim) left.log legal) in
    let lacks : IsFalse (lacks_set aim.size h) = ap (lacks_set aim.size) left.log ∙ lacks_on aim (first ∷ front) more follows left.lacks in
    verified aim h part exists settled none lacks
    (λ x at. ap (λ log. is_filled aim.size log x) left.log ∙ (filled_on aim h (first ∷ front) more x follows left.still ∙ filled_here aim p (first ∷ front) more h left part x exists offers at))

-- ---- the release and the commit at the end

released_still : (aim : Aim) (all : List Event) (p : ℕ) (freed : List Event) (holding : Bool) → freed ≡ (if holding then Release p ∷ [] else []) → IsFalse (list_any (moves aim all) freed) → (holding ≡ false) × (freed ≡ [])
released_still aim all p freed true is still = let some : true ≡ false = sym (ap (list_any (moves aim all)) is) ∙ still in absurd (cc)
released_still aim all p freed false is still = (refl, is)

commit_holds : (h : List Event) (p : ℕ) → is_holder (h ++ Commit ∷ []) p ≡ is_holder h p
commit_holds h p = ap (λ (ks : List Hold). list_any (λ hold. hold.peer == p) ks) (holds-same h Commit (record { kept = λ q. refl; still = λ q r. refl; none = refl }))

kept_holds : (h kept : List Event) (p : ℕ) (waiting : Bool) → kept ≡ (if waiting then Commit ∷ [] else []) → is_holder (h ++ kept) p ≡ is_holder h p
kept_holds h kept p true is = ap (λ tail. is_holder (h ++ tail) p) is ∙ commit_holds h p
kept_holds h kept p false is = ap (λ tail. is_holder (h ++ tail) p) is ∙ ap (λ log. is_holder log p) (append-nil h)

none_holds : (h none : List Event) (p : ℕ) → none ≡ [] → is_holder (h ++ none) p ≡ is_holder h p
none_holds h none p is = ap (λ tail. is_holder (h ++ tail) p) is ∙ ap (λ log. is_holder log p) (append-nil h)

keeps_holds : (h kept : List Event) (p : ℕ) → (kept ≡ commit_events h) ⊎ (kept ≡ []) → is_holder (h ++ kept) p ≡ is_holder h p
keeps_holds h kept p keeps = elim keeps [ inl is ↦ kept_holds h kept p (is_uncommitted h) is | inr none ↦ none_holds h kept p none ]

kept_owns : (kept : List Event) (p : ℕ) (waiting : Bool) → kept ≡ (if waiting then Commit ∷ [] else []) → own kept p ≡ []
kept_owns kept p true is = ap (λ log. own log p) is
kept_owns kept p false is = ap (λ log. own log p) is

keeps_owns : (h kept : List Event) (p : ℕ) → (kept ≡ commit_events h) ⊎ (kept ≡ []) → own kept p ≡ []
keeps_owns h kept p keeps = elim keeps [ inl is ↦ kept_owns kept p (is_uncommitted h) is | inr none ↦ ap (λ log. own log p) none ]

own_parts : (p : ℕ) (a b : List Event) → own a p ≡ [] → own b p ≡ [] → own (a ++ b) p ≡ []
own_parts p a b first later = filter-append (is_own p) a b ∙ (ap (λ front. front ++ own b p) first ∙ later)

front_none : (a b : List Event) → a ++ b ≡ [] → a ≡ []
front_none [] b none = refl
front_none (e ∷ a) b none = absurd (cc)

owned_front : (p : ℕ) (a b : List Event) → IsOwnLog p (a ++ b) → IsOwnLog p a
owned_front p a b owned = λ q other. front_none (own a q) (own b q) (sym (filter-append (is_own q) a b) ∙ owned q other)

-- the release gave nothing back, since that moves, and so the peer held nothing
gave_nothing : (aim : Aim) (all here : List Event) (p : ℕ) (freed kept : List Event) → (freed ≡ release_events here p) ⊎ (freed ≡ []) → (kept ≡ commit_events (here ++ freed)) ⊎ (kept ≡ []) →
    IsFalse (list_any (moves aim all) freed) → IsFalse (is_holder ((here ++ freed) ++ kept) p) → IsFalse (is_holder here p) × (freed ≡ [])
gave_nothing aim all here p freed kept frees keeps still free = elim frees [
  | inl is ↦ released_still aim all p freed (is_holder here p) is still
  | inr none ↦ (sym (keeps_holds (here ++ freed) kept p keeps ∙ none_holds here freed p none) ∙ free, none)
]

left_at : (aim : Aim) (p : ℕ) (before more paused h : List Event) → PausesAt aim p before more paused → IsOwnLog p paused → IsFalse (is_holder paused p) → GoesOn paused h → IsFalse (moved aim h (length before)) →
    (rest : List Event) × IsLeft aim p (before ++ more) rest h
left_at aim p before more paused h at owned free on still =
    let here = before ++ more in
    let end = at.freed ++ at.kept in
    let to_end : paused ≡ here ++ end = at.log ∙ append_assoc here at.freed at.kept in
    let log : h ≡ here ++ (end ++ on.more) = on.grows ∙ (ap (λ front. front ++ on.more) to_end ∙ append_assoc here end on.more) in
    let all = behind_still aim h before (more ++ (end ++ on.more)) (log ∙ append_assoc before more (end ++ on.more)) still in
    let later = (both_still aim h more (end ++ on.more) all).1 in
    let last = (both_still aim h end on.more later).0 in
    let gave = gave_nothing aim h here p at.freed at.kept at.frees at.keeps (both_still aim h at.freed at.kept last).0 (ap (λ l. is_holder l p) (sym at.log) ∙ free) in
    let chosen = nothing_chosen aim here p at.refused in (
      end ++ on.more,
      record {
        owned = owned_front p here end (subst (IsOwnLog p) to_end owned);
        free = gave.0;
        empty = chosen.1;
        lacks = chosen.0;
        log = log;
        still = later;
        foreign = own_parts p end on.more (own_parts p at.freed at.kept (ap (λ l. own l p) gave.1) (keeps_owns (here ++ at.freed) at.kept p at.keeps)) (on.foreign p);
      },
    )

-- A call of a session over a file that nobody else uses, and whose log has no event of another peer's own, ended
-- because nothing was left to reserve. The log goes on with no event of a peer's own, nothing moved since the call
-- began, all is settled and no part is failed. Then each part that the peer offered last is verified.
pub given : (aim : Aim) (p : ℕ) (from to : Due) (old new : Outside) (before paused : Inside) (h : List Event) →
    (talk : Talk aim p (standing from old before) (standing to new paused) causes.NoBlock) → BeginsFirst talk.acts → IsTrue before.alone → IsOwnLog p before.log → IsFalse (is_holder paused.log p) →
    GoesOn paused.log h → AreLegal aim h → IsFalse (moved aim h (length before.log)) → IsSettled aim h → HasNoFailed aim h → HasGiven aim h p
given aim p from to old new before paused h talk first alone owned free on legal still settled none =
    let found = pauses_at aim p from to old new before paused talk first alone in
    let more = added found.0.front in
    let left = left_at aim p before.log more paused.log h found.2 (own_log aim p from to old new before paused causes.NoBlock talk alone owned) free on still in
    given_by aim p (before.log ++ more) left.0 h legal settled none left.1
