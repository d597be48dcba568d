-- The invariant after one more entry.
use Rattle.std.proofs.Common.{◌≡◌, ℕ, ◌+◌, ◌≤◌, min, Bool, true, false, not, ◌==◌, if◌then◌else◌, List, [], ◌∷◌, ◌++◌, length, None, refl, ap, sym, ◌∙◌, subst, arith, length-append}
use Rattle.std.specs.List.{filter}
use Rattle.std.proofs.lemmas.List.{length-map}
use Rattle.std.specs.FinSet.{contains}
use Rattle.byte_ranges.specs.RangeSet.{RangeSet}
use Rattle.byte_ranges.specs.Spans.{IsApart, set_of}
use Rattle.byte_ranges.proofs.Members.{contains-set_of}
use Rattle.part_sizes.specs.declared.span.Span.{Span}
use Rattle.reserve_core.specs.Filled.{AreUnsettled, is_durable, is_filled}
use Rattle.part_hashset.specs.declared.aim.Aim.{Aim}
use Rattle.reserve_core.specs.Events.{events}
use Rattle.reserve_core.specs.Legal.{Allowed}
use Rattle.reserve_core.specs.Moved.{moves}
use Rattle.reserve_core.specs.Seen.{newest_calls, added}
use Rattle.reserve_core.specs.Tells.{IsUncommittedAt, IsMovedEnd, OffersStand, Tells, HasRoom, CoreKeeps, has_entry}
use Rattle.reserve_core.specs.Verdicts.{set_by}
use Rattle.reserve_core.specs.declared.event.Entry.{Entry}
use Rattle.reserve_core.specs.declared.event.Event.{Event}
use Rattle.reserve_core.specs.declared.event.Event.TheVariants.{Offer}
use Rattle.reserve_core.specs.Holders.{HoldersStand, holding}
use Rattle.reserve_core.specs.declared.hold.Holder.{Holder}
use Rattle.reserve_core.specs.declared.offers.Offerer.{Offerer}
use Rattle.reserve_core.specs.declared.part_state.PartState.{PartState}
use Rattle.reserve_core.proofs.Counted.{marks-push}
use Rattle.reserve_core.proofs.Latest.{events-added, legal-added, newest-added}
use Rattle.reserve_core.proofs.NewestOffers.{is_offer, offers-renewed, offers-still}
use Rattle.reserve_core.proofs.HolderEdits.{holding-le}
use Rattle.reserve_core.proofs.Quiet.{Quiet, holders-same, tells-quiet, room-taken, set-stands}

-- what a call knows of the core before it adds its entry
pub record Before (aim : Aim) (log : List Entry) (ranges fresh : RangeSet) (holders : List Holder) (states : List PartState) (offers : List Offerer) (place moved_end : ℕ) (flag : Bool) (len capacity calls : ℕ) (e : Event) : Type 0 where
  pub keeps : CoreKeeps aim log ranges fresh holders states offers place moved_end flag len capacity
  pub above : newest_calls 0 log ≤ calls
  pub allowed : Allowed aim (events log) e
  pub other : set_by e ≡ None

pub keeps-renewed : (aim : Aim) (log : List Entry) (ranges more fresh newer : RangeSet) (holders rest : List Holder) (states next : List PartState) (offers renewed : List Offerer) (place moved_end behind : ℕ) (flag now : Bool) (len capacity calls : ℕ) (e : Event)
    → Before aim log ranges fresh holders states offers place moved_end flag len capacity calls e
    → Tells aim (events log ++ e ∷ []) more newer next now → HoldersStand (events log ++ e ∷ []) rest
    → OffersStand (added log calls e) renewed
    → behind ≡ (if moves aim (events log) e then length (events log) + 1 else moved_end)
    → HasRoom aim (events log ++ e ∷ []) (len + 1) capacity (min more.spare newer.spare) (holding rest)
    → CoreKeeps aim (added log calls e) more newer rest next renewed place behind now (len + 1) capacity
keeps-renewed aim log ranges more fresh newer holders rest states next offers renewed place moved_end behind flag now len capacity calls e before tells held stand at room = record {
  legal = legal-added aim log calls e before.keeps.legal before.above before.allowed;
  tells = subst (λ (h : List Event). Tells aim h more newer next now) (sym (events-added log calls e)) tells;
  held = subst (λ (h : List Event). HoldersStand h rest) (sym (events-added log calls e)) held;
  set = set-stands aim.size log calls e place before.other before.keeps.set;
  offers = stand;
  moved_end = subst (λ (h : List Event). IsMovedEnd aim h behind) (sym (events-added log calls e)) (marks-push aim (events log) e moved_end behind before.other at before.keeps.moved_end);
  room = subst (λ (h : List Event). HasRoom aim h (len + 1) capacity (min more.spare newer.spare) (holding rest)) (sym (events-added log calls e)) room;
}

pub keeps-added : (aim : Aim) (log : List Entry) (ranges more fresh newer : RangeSet) (holders rest : List Holder) (states next : List PartState) (offers : List Offerer) (place moved_end behind : ℕ) (flag now : Bool) (len capacity calls : ℕ) (e : Event)
    → Before aim log ranges fresh holders states offers place moved_end flag len capacity calls e
    → is_offer e ≡ false
    → Tells aim (events log ++ e ∷ []) more newer next now → HoldersStand (events log ++ e ∷ []) rest
    → behind ≡ (if moves aim (events log) e then length (events log) + 1 else moved_end)
    → HasRoom aim (events log ++ e ∷ []) (len + 1) capacity (min more.spare newer.spare) (holding rest)
    → CoreKeeps aim (added log calls e) more newer rest next offers place behind now (len + 1) capacity
keeps-added aim log ranges more fresh newer holders rest states next offers place moved_end behind flag now len capacity calls e before none tells held at room =
    keeps-renewed aim log ranges more fresh newer holders rest states next offers offers place moved_end behind flag now len capacity calls e before tells held (offers-still log calls e offers none before.keeps.offers) at room

pub keeps-offer : (aim : Aim) (log : List Entry) (ranges fresh : RangeSet) (holders : List Holder) (states : List PartState) (offers renewed : List Offerer) (place moved_end : ℕ) (flag : Bool) (len capacity slots calls p at : ℕ) (bits : List Bool)
    → Before aim log ranges fresh holders states offers place moved_end flag len capacity calls (Offer p bits)
    → at ≡ length log → renewed ≡ filter (λ (offer : Offerer). not (offer.peer == p)) offers ++ record { peer = p; place = at } ∷ []
    → has_entry len (length holders) (length states) capacity (min ranges.spare fresh.spare) slots ≡ true
    → CoreKeeps aim (added log calls (Offer p bits)) ranges fresh holders states renewed place moved_end flag (len + 1) capacity
keeps-offer aim log ranges fresh holders states offers renewed place moved_end flag len capacity slots calls p at bits before at_is is taken =
    keeps-renewed aim log ranges ranges fresh fresh holders holders states states offers renewed place moved_end moved_end flag flag len capacity calls (Offer p bits) before
    (tells-quiet aim (events log) (Offer p bits) ranges fresh states flag (offer-quiet aim.size p bits) before.keeps.tells)
    (holders-same (events log) (Offer p bits) holders (record { kept = λ q. refl; still = λ q r. refl; none = refl }) before.keeps.held)
    (offers-renewed log calls p at bits offers renewed at_is is before.keeps.offers)
    refl
    (room-taken aim (events log ++ Offer p bits ∷ []) len capacity (min ranges.spare fresh.spare) (length holders) (holding holders) (length states) slots before.keeps.tells.count taken (holding-le holders))
  where
    offer-quiet : (n p : ℕ) (bits : List Bool) → Quiet n (Offer p bits)
    offer-quiet n p bits = record {
      filled = λ x. refl;
      verdict = λ i. refl;
      part = λ i. refl;
      all = refl;
      holds = record { kept = λ q. refl; still = λ q r. refl; none = refl };
      write = refl;
      commit = refl;
      set = refl;
      judged = refl;
      recovered = refl;
    }

-- the place behind an entry that was added
pub moved_end-behind : (log : List Entry) (calls : ℕ) (e : Event) (moved_end : ℕ) → moved_end ≡ length (added log calls e) → moved_end ≡ length (events log) + 1
moved_end-behind log calls e moved_end is =
    let entry : Entry = record { calls = calls; event = e } in
    omega (arith, is, length-append log (entry ∷ []), length-map log (λ (x : Entry). x.event))

pub room-more : (aim : Aim) (h : List Event) (len capacity spare more held : ℕ) → spare ≤ more → HasRoom aim h len capacity spare held → HasRoom aim h len capacity more held
room-more aim h len capacity spare more held above room = record { log = room.log; filled = omega (arith, above, room.filled) }

-- the same state with more room
pub keeps-more : (aim : Aim) (log : List Entry) (ranges more fresh newer : RangeSet) (holders : List Holder) (states : List PartState) (offers : List Offerer) (place moved_end : ℕ) (flag : Bool) (len capacity wider : ℕ)
    → more.size ≡ ranges.size → more.set ≡ ranges.set → newer.size ≡ fresh.size → newer.set ≡ fresh.set
    → min ranges.spare fresh.spare ≤ min more.spare newer.spare → capacity ≤ wider
    → CoreKeeps aim log ranges fresh holders states offers place moved_end flag len capacity → CoreKeeps aim log more newer holders states offers place moved_end flag len wider
keeps-more aim log ranges more fresh newer holders states offers place moved_end flag len capacity wider sized same fresh_sized fresh_same spare room keeps =
    let tells = keeps.tells in record {
      legal = keeps.legal;
      tells = record {
        size = tells.size;
        filled_size = sized ∙ tells.filled_size;
        filled = λ x. ap (λ set. contains set x) same ∙ tells.filled x;
        fresh_size = fresh_sized ∙ tells.fresh_size;
        fresh = λ x. subst (λ (b : Bool). IsUncommittedAt b (is_filled aim.size (events log) x) (is_durable aim.size (events log) x)) (sym (ap (λ set. contains set x) fresh_same)) (tells.fresh x);
        sits = tells.sits;
        clear = tells.clear;
        count = tells.count;
        state = tells.state;
        uncommitted = tells.uncommitted;
        unjudged = tells.unjudged;
        unrecovered = tells.unrecovered;
      };
      held = keeps.held;
      set = keeps.set;
      offers = keeps.offers;
      moved_end = keeps.moved_end;
      room = record { log = omega (arith, keeps.room.log); filled = omega (arith, keeps.room.filled) };
    }

-- the spans of what was written since the last commit
pub are-unsettled : (aim : Aim) (h : List Event) (ranges fresh : RangeSet) (states : List PartState) (flag : Bool) (spans : List Span)
    → Tells aim h ranges fresh states flag → IsApart 0 (fresh.size + 1) spans → set_of spans ≡ fresh.set → AreUnsettled aim.size h spans
are-unsettled aim h ranges fresh states flag spans tells apart same = record {
  apart = subst (λ (n : ℕ). IsApart 0 (n + 1) spans) tells.fresh_size apart;
  each = λ x. sym (contains-set_of spans x) ∙ ap (λ set. contains set x) same ∙ (tells.fresh x).is;
}

pub newest-pushed : (log new : List Entry) (calls : ℕ) (e : Event) → new ≡ added log calls e → newest_calls 0 new ≤ calls
newest-pushed log new calls e is = rw is (omega (arith, newest-added 0 log calls e))
