-- Which rest of a row each state of the machine stands for.
use Rattle.std.specs.Prelude.{◌≡◌, ℕ, ◌<◌, ◌≤◌, Bool, List, true, false, nat_lt, length, Option, Some, None, Result, Ok, Err, unwrap_or, IsTrue, IfSome, ◌||◌, ◌&&◌}
use Rattle.client_msgs.specs.Spelling.{HasForm}
use Rattle.client_msgs.specs.declared.msg.PeerMsg.TheVariants as msgs
use Rattle.part_hashset.specs.declared.aim.Aim.{Aim}
use Rattle.part_sizes.specs.Part.{data_parts}
use Rattle.reserve_core.specs.declared.desk.Answer.{Answer}
use Rattle.reserve_core.specs.declared.desk.Answer.TheVariants as answer
use Rattle.reserve_core.specs.declared.desk.DeskAsk.{DeskAsk}
use Rattle.reserve_core.specs.declared.desk.DeskAsk.TheVariants as ask
use Rattle.reserve_core.specs.declared.fault.DeskFault.{DeskFault}
use Rattle.reserve_core.specs.declared.fault.DeskFault.TheVariants as faults
use Rattle.peer_fetch.specs.Plan.{Plan, Begin, Send, Ask, Last, Read, Paused, Ended}
use Rattle.peer_fetch.specs.Table.{start, turn, goes_to, offer_answered, has_set_answered, hashes_answered, reserve_answered, write_answered, commit_answered, verify_answered, drop_answered, holds_answered, start_upload, commit_cause, end_pause}
use Rattle.peer_fetch.specs.declared.cause.Cause.{Cause}
use Rattle.peer_fetch.specs.declared.cause.Cause.TheVariants as causes
use Rattle.peer_fetch.specs.declared.session.Place.TheVariants as place
use Rattle.peer_fetch.specs.declared.session.Session.{Session}
use Rattle.peer_fetch.specs.declared.machine.SessionState.{SessionState}
use Rattle.peer_fetch.specs.declared.machine.SessionState.TheVariants as state
use Rattle.peer_fetch.specs.declared.machine.Next.{Next}
use Rattle.peer_fetch.specs.declared.machine.Next.TheVariants as next

-- what is due where nothing was asked
abbrev pub due : Session → SessionState → Plan
due s state.Fresh = Begin s
due s state.Waits = Read s
due s state.Sent = Read s
due s state.Named = Send (msgs.SetFile s.aim.hash) (Read (goes_to place.Status s))
due s state.Paused = Paused s
due s (state.Over cause) = Ended cause
due s _ = Read s

-- what is due when a call of the session begins, and then goes on
abbrev pub begun : Plan → Plan
begun (Begin s) = start s
begun (Paused s) = turn s
begun plan = plan

-- what is due after the answer to what was asked
abbrev pub on_answer : Session → SessionState → Answer → Plan
on_answer s (state.Offers bits) answer = offer_answered s bits answer
on_answer s state.AsksSet answer = has_set_answered s answer
on_answer s state.Sets answer = hashes_answered s answer
on_answer s state.Reserves answer = reserve_answered s answer
on_answer s state.Writes answer = write_answered s answer
on_answer s (state.Commits part) answer = commit_answered s part answer
on_answer s (state.Verifies part) answer = verify_answered s part answer
on_answer s state.Drops answer = drop_answered s answer
on_answer s state.Looks answer = holds_answered s answer
on_answer s state.Releases answer = start_upload s
on_answer s (state.EndReleases cause) answer = Last ask.Commit (λ a. Ended (unwrap_or (commit_cause a) cause))
on_answer s (state.EndCommits cause) answer = Ended (unwrap_or (commit_cause answer) cause)
on_answer s state.PauseReleases answer = Last ask.Commit (λ a. end_pause s (commit_cause a))
on_answer s state.PauseCommits answer = end_pause s (commit_cause answer)
on_answer s _ answer = Read s

-- one of the two calls at the end was asked
abbrev pub is_last : SessionState → Bool
is_last (state.EndReleases cause) = true
is_last (state.EndCommits cause) = true
is_last state.PauseReleases = true
is_last state.PauseCommits = true
is_last _ = false

-- the cause that the session ends with, once it begins to end
abbrev pub cause_of : SessionState → Option Cause
cause_of (state.EndReleases cause) = Some cause
cause_of (state.EndCommits cause) = Some cause
cause_of (state.Over cause) = Some cause
cause_of _ = None

-- a cause for which the table ends a session for good; the others come from the wire, its bytes, the budget and
-- the store
abbrev pub is_named : Cause → Bool
is_named causes.NoBlock = false
is_named causes.Ended = false
is_named causes.WireFault = false
is_named (causes.BadFrame fault) = false
is_named (causes.BadMsg fault) = false
is_named causes.Spent = false
is_named causes.StoreFault = false
is_named causes.NoLink = false
is_named _ = true

abbrev pub is_named_if_some : Option Cause → Bool
is_named_if_some None = true
is_named_if_some (Some cause) = is_named cause

-- the session doesn't end, or it ends by a cause that the table names
abbrev pub has_table_cause : SessionState → Bool
has_table_cause at = is_named_if_some (cause_of at)

abbrev pub is_store_cause : Option Cause → Bool
is_store_cause (Some causes.StoreFault) = true
is_store_cause _ = false

-- the store failed, now or before
abbrev pub is_store_fault : DeskFault → Bool
is_store_fault faults.Fault = true
is_store_fault faults.Broken = true
is_store_fault _ = false

abbrev pub tells_store_fault : {T : Type 0} → Result T DeskFault → Bool
tells_store_fault (Err fault) = is_store_fault fault
tells_store_fault _ = false

-- the desk answered that its store failed
abbrev pub is_refusal : Answer → Bool
is_refusal (answer.Hashes result) = tells_store_fault result
is_refusal (answer.Offer result) = tells_store_fault result
is_refusal (answer.Reserve result) = tells_store_fault result
is_refusal (answer.Write result) = tells_store_fault result
is_refusal (answer.Commit result) = tells_store_fault result
is_refusal (answer.Verify result) = tells_store_fault result
is_refusal (answer.DropPart result) = tells_store_fault result
is_refusal _ = false

-- what the peer offers, after the answer to what was asked
abbrev pub offers : List Bool → SessionState → Answer → List Bool
offers old (state.Offers bits) (answer.Offer (Ok done)) = bits
offers old _ _ = old

abbrev pub offered_by : List Bool → SessionState → Option Answer → List Bool
offered_by old at None = old
offered_by old at (Some answer) = offers old at answer

-- an offer is asked with the bits that are kept for it, and nothing else offers
abbrev pub IsOfferAt : SessionState → DeskAsk → Type 0
IsOfferAt (state.Offers bits) asked = asked ≡ ask.Offer bits
IsOfferAt _ (ask.Offer bits) = ⊥
IsOfferAt _ _ = Unit {0}

-- the peer's ranges are given back
abbrev pub is_releasing : SessionState → Bool
is_releasing (state.EndReleases cause) = true
is_releasing state.PauseReleases = true
is_releasing _ = false

-- they were, and what was written is made durable
abbrev pub is_committing : SessionState → Bool
is_committing (state.EndCommits cause) = true
is_committing state.PauseCommits = true
is_committing _ = false

abbrev pub is_over : SessionState → Bool
is_over state.Paused = true
is_over (state.Over cause) = true
is_over _ = false

-- behind the release at the end
abbrev pub is_released : SessionState → Bool
is_released at = is_committing at || is_over at

abbrev pub is_at_end : SessionState → Bool
is_at_end at = is_releasing at || is_committing at

-- the two calls at the end
abbrev pub IsLastAt : SessionState → DeskAsk → Type 0
IsLastAt (state.EndReleases cause) asked = asked ≡ ask.Release
IsLastAt state.PauseReleases asked = asked ≡ ask.Release
IsLastAt (state.EndCommits cause) asked = asked ≡ ask.Commit
IsLastAt state.PauseCommits asked = asked ≡ ask.Commit
IsLastAt _ asked = Unit {0}

-- there is no cause or the table names it, or it is a fault of the store and one was told
abbrev pub may_end_with : Bool → Option Cause → Bool
may_end_with told found = is_named_if_some found || (is_store_cause found && told)

-- something was asked
abbrev pub is_asking : SessionState → Bool
is_asking state.Fresh = false
is_asking state.Waits = false
is_asking state.Sent = false
is_asking state.Named = false
is_asking state.Paused = false
is_asking (state.Over cause) = false
is_asking _ = true

-- a message was given to send, and the session goes on behind it
abbrev pub is_saying : SessionState → Bool
is_saying state.Sent = true
is_saying state.Named = true
is_saying _ = false

-- a call of the session may begin
abbrev pub is_ready : SessionState → Bool
is_ready state.Fresh = true
is_ready state.Paused = true
is_ready _ = false

-- the wire is to be written or read
abbrev pub IsOfTheWire : Next → Type 0
IsOfTheWire (next.Send msg) = Unit {0}
IsOfTheWire next.Read = Unit {0}
IsOfTheWire _ = ⊥

-- The machine gives what the plan says, and what it does then is what the plan says to come.
abbrev pub Gives : Plan → Next → Session → SessionState → Type 0
Gives (Begin s) given session at = ⊥
Gives (Send msg rest) given session at = (given ≡ next.Send msg) × IsTrue (is_saying at) × (due session at ≡ rest)
Gives (Ask ask then) given session at = (given ≡ next.Ask ask) × IsTrue (is_asking at) × ((a : Answer) → on_answer session at a ≡ then a)
Gives (Last ask then) given session at = (given ≡ next.Ask ask) × IsTrue (is_last at) × ((a : Answer) → on_answer session at a ≡ then a)
Gives (Read s) given session at = (given ≡ next.Read) × (session ≡ s) × (at ≡ state.Waits)
Gives (Paused s) given session at = (given ≡ next.End causes.NoBlock) × (session ≡ s) × (at ≡ state.Paused)
Gives (Ended cause) given session at = (given ≡ next.End cause) × (at ≡ state.Over cause)

-- How many more sends and asks may come before the next message, and at least three where something but the
-- two calls at the end is asked.
abbrev pub rank : SessionState → ℕ
rank state.Fresh = 2
rank state.Waits = 0
rank state.Sent = 1
rank state.Named = 2
rank (state.Offers bits) = 4
rank state.AsksSet = 3
rank state.Sets = 3
rank state.Reserves = 3
rank state.Looks = 4
rank state.Drops = 5
rank (state.Verifies part) = 6
rank (state.Commits part) = 7
rank state.Writes = 8
rank state.Releases = 3
rank (state.EndReleases cause) = 2
rank (state.EndCommits cause) = 1
rank state.PauseReleases = 2
rank state.PauseCommits = 1
rank state.Paused = 0
rank (state.Over cause) = 0

-- a part that is to be judged exists
abbrev pub has_part : Aim → SessionState → Bool
has_part aim (state.Commits part) = nat_lt part (data_parts aim.size)
has_part aim (state.Verifies part) = nat_lt part (data_parts aim.size)
has_part aim _ = true

-- an answer as a desk of the file gives it: what is reserved can be asked for, and a part that is full exists
abbrev pub IsFitting : Aim → Answer → Type 0
IsFitting aim (answer.Reserve (Ok spans)) = HasForm (msgs.RequestParts aim.hash spans)
IsFitting aim (answer.Write (Ok written)) = IfSome written.full (λ part. part < data_parts aim.size)
IsFitting aim _ = Unit {0}

-- a call begins where one may, and else what was asked is answered
abbrev pub MayEnter : Aim → SessionState → Option Answer → Type 0
MayEnter aim at None = IsTrue (is_ready at)
MayEnter aim at (Some answer) = IsTrue (is_asking at) × IsFitting aim answer

-- what is due then
abbrev pub entered : Session → SessionState → Option Answer → Plan
entered session at None = begun (due session at)
entered session at (Some answer) = on_answer session at answer

-- what may be asked of a desk of the file
abbrev pub MayAsk : Aim → DeskAsk → Type 0
MayAsk aim (ask.Offer bits) = length bits ≡ data_parts aim.size
MayAsk aim (ask.Verify part) = part < data_parts aim.size
MayAsk aim (ask.DropPart part) = part < data_parts aim.size
MayAsk aim _ = Unit {0}

-- what is given to send can be written, what is asked may be asked, and the machine can go on behind each
abbrev pub MaySay : Aim → Next → SessionState → Type 0
MaySay aim (next.Send msg) at = HasForm msg × IsTrue (is_saying at)
MaySay aim (next.Ask ask) at = MayAsk aim ask × IsTrue (is_asking at) × IsOfferAt at ask × IsLastAt at ask
MaySay aim _ at = Unit {0}

-- a step of the machine keeps to the file, says what may be said, and leaves at most so many to come
pub record StepKeeps (aim : Aim) (most : ℕ) (given : Next) (session : Session) (at : SessionState) : Type 0 where
  pub aim_stays : session.aim ≡ aim
  pub may_say : MaySay aim given at
  pub few : rank at ≤ most
