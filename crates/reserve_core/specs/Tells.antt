-- How the state that is kept stands for the log.
use Rattle.std.specs.Prelude.{◌≡◌, ℕ, zero, suc, ◌+◌, ◌*◌, ◌<◌, ◌≤◌, min, Bool, true, false, not, List, [], length, map, slice_index_or, Some, is_none, IsFalse, nat_lt, nat_le, ◌&&◌, if◌then◌else◌, count_by}
use Rattle.std.specs.FinSet.{contains}
use Rattle.std.specs.List.{All, list_any}
use Rattle.byte_ranges.specs.RangeSet.{RangeSet}
use Rattle.part_hashset.specs.declared.aim.Aim.{Aim}
use Rattle.part_sizes.specs.Part.{IsSize, data_parts, hash_count, part_range, part_of}
use Rattle.reserve_core.specs.Choice.{offer_by, offerers}
use Rattle.reserve_core.specs.Events.{events, latest}
use Rattle.reserve_core.specs.Filled.{is_filled, is_durable, is_full, is_uncommitted, is_part_uncommitted}
use Rattle.reserve_core.specs.Held.{holds_of, is_held}
use Rattle.reserve_core.specs.Holders.{HoldersStand, holding}
use Rattle.reserve_core.specs.Legal.{IsLegal}
use Rattle.reserve_core.specs.Moved.{moved}
use Rattle.part_hashset.specs.Goals.{is_nil}
use Rattle.reserve_core.specs.Verdicts.{goal, is_failure, kept_set, verdict_of, is_failed}
use Rattle.reserve_core.specs.declared.event.Entry.{Entry}
use Rattle.reserve_core.specs.declared.event.Event.{Event}
use Rattle.reserve_core.specs.declared.event.Event.TheVariants.{Opened, Hashes, Offer, Verdict, Recovered}
use Rattle.reserve_core.specs.declared.hold.Hold.{Hold}
use Rattle.reserve_core.specs.declared.hold.Holder.{Holder}
use Rattle.reserve_core.specs.declared.offers.Offerer.{Offerer}
use Rattle.reserve_core.specs.declared.part_state.PartState.{PartState}
use Rattle.part_sizes.specs.declared.part.TheConstants.{PART}

-- how often a part failed, up to eight times
abbrev pub failures : Aim → List Event → ℕ → ℕ
failures aim h i = min 8 (count_by (is_failure (goal aim h i) i) h)

-- what the log says of a part
abbrev pub part_state : Aim → List Event → ℕ → PartState
part_state aim h i = record { verdict = verdict_of h i; uncommitted = is_part_uncommitted aim.size h i; failures = failures aim h i }

-- the range lies in one part, and its place in its span
pub record Sits (n : ℕ) (hold : Hold) : Type 0 where
  pub start : hold.whole.s ≤ hold.from
  pub end : hold.whole.e ≤ (part_range n (part_of hold.whole.s)).e

-- what is filled and not durable is written since the last commit, and what is durable is filled
pub record IsUncommittedAt (fresh filled durable : Bool) : Type 0 where
  pub is : fresh ≡ (filled && not durable)
  pub within : durable ≡ true → filled ≡ true

abbrev pub is_verdict : Event → Bool
is_verdict (Verdict i d) = true
is_verdict _ = false

abbrev pub is_recovered : Event → Bool
is_recovered (Recovered i kept) = true
is_recovered _ = false

-- the state is what the events say; nothing held is filled, nothing is judged before its set is kept, and
-- no call recovers a part yet
pub record Tells (aim : Aim) (h : List Event) (ranges recent : RangeSet) (states : List PartState) (flag : Bool) : Type 0 where
  pub size : IsSize aim.size
  pub filled_size : ranges.size ≡ aim.size
  pub filled : (x : ℕ) → contains ranges.set x ≡ is_filled aim.size h x
  pub fresh_size : recent.size ≡ aim.size
  pub fresh : (x : ℕ) → IsUncommittedAt (contains recent.set x) (is_filled aim.size h x) (is_durable aim.size h x)
  pub sits : All (Sits aim.size) (holds_of h)
  pub clear : (x : ℕ) → is_held h x ≡ true → is_filled aim.size h x ≡ false
  pub count : length states ≡ data_parts aim.size
  pub state : (i : ℕ) (d : PartState) → i < data_parts aim.size → slice_index_or states i d ≡ part_state aim h i
  pub uncommitted : flag ≡ is_uncommitted h
  pub unjudged : PART ≤ aim.size → kept_set h ≡ [] → list_any is_verdict h ≡ false
  pub unrecovered : list_any is_recovered h ≡ false

-- the bits of an offer
abbrev pub bits_in : Event → List Bool
bits_in (Offer p bits) = bits
bits_in _ = []

-- the newest offer of the peer stands at its place of the log
pub record OfferStands (log : List Entry) (offer : Offerer) : Type 0 where
  pub within : offer.place < length log
  pub is : (d : Entry) → latest (offer_by offer.peer) (events log) ≡ Some (bits_in (slice_index_or log offer.place d).event)

-- each peer that offered is kept once, with the place of its newest offer
pub record OffersStand (log : List Entry) (offers : List Offerer) : Type 0 where
  pub peers : map (λ offer. offer.peer) offers ≡ offerers (events log)
  pub each : All (OfferStands log) offers

-- a number is behind the newest entry that moves something
abbrev pub IsMovedEnd : Aim → List Event → ℕ → Type 0
IsMovedEnd aim h moved_end = (from : ℕ) → moved aim h from ≡ nat_lt from moved_end

-- the set that an event keeps
abbrev pub set_in : Event → List (List ℕ)
set_in (Opened o) = o.set
set_in (Hashes q) = q
set_in _ = []

-- the kept set stands at a place of the log, and has the members that a file of the size needs
pub record SetStands (n : ℕ) (log : List Entry) (place : ℕ) : Type 0 where
  pub within : place < length log
  pub is : (d : Entry) → kept_set (events log) ≡ set_in (slice_index_or log place d).event
  pub whole : IsFalse (is_nil (kept_set (events log))) → length (kept_set (events log)) ≡ hash_count n

-- the entries that may come without memory for a part: a Verdict and a Dropped where it is full and not
-- judged, a Dropped where it failed
abbrev pub due : Aim → List Event → ℕ → ℕ
due aim h i =
    if is_none (verdict_of h i) then (if is_full aim.size h i then 2 else 0) else (if is_failed aim h i then 1 else 0)

-- the sum over as many numbers from the first on
abbrev pub sum_over : (ℕ → ℕ) → ℕ → ℕ → ℕ
sum_over f from zero = 0
sum_over f from (suc n) = f from + sum_over f (from + 1) n

abbrev pub dues : Aim → List Event → ℕ
dues aim h = sum_over (due aim h) 0 (data_parts aim.size)

-- there is room in the log for these entries and for a Release of each peer that holds a range, and in the
-- filled positions for each drop
pub record HasRoom (aim : Aim) (h : List Event) (len capacity spare held : ℕ) : Type 0 where
  pub log : len + (held + dues aim h) ≤ capacity
  pub filled : dues aim h ≤ spare

pub record CoreKeeps (aim : Aim) (log : List Entry) (filled fresh : RangeSet) (holders : List Holder)
    (states : List PartState) (peers : List Offerer) (place behind : ℕ) (uncommitted : Bool) (len capacity : ℕ)
    : Type 0 where
  pub legal : IsLegal aim log
  pub tells : Tells aim (events log) filled fresh states uncommitted
  pub held : HoldersStand (events log) holders
  pub set : SetStands aim.size log place
  pub offers : OffersStand log peers
  pub moved_end : IsMovedEnd aim (events log) behind
  pub room : HasRoom aim (events log) len capacity (min filled.spare fresh.spare) (holding holders)

-- room for one more entry beside all that may come, with a Release of each holder, and for one more peer that
-- offers
abbrev pub has_entry : ℕ → ℕ → ℕ → ℕ → ℕ → ℕ → Bool
has_entry len holders states capacity spare slots =
    nat_lt (len + (holders + 2 * states)) capacity && (nat_le (2 * states) spare && nat_lt 0 slots)

-- room for one more filled span beside all that may be dropped
abbrev pub has_fill : ℕ → ℕ → Bool
has_fill states spare = nat_lt (2 * states) spare

-- room for one more entry that reserves, where its peer may be one more holder
abbrev pub has_hold : ℕ → ℕ → ℕ → ℕ → ℕ → ℕ → Bool
has_hold len holders states capacity spare slots = has_entry len (holders + 1) states capacity spare slots
