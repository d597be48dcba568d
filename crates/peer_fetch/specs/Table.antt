-- The download session, row by row. eMule 0.50a, a downloading client's side of a connection.
use Rattle.std.specs.Prelude.{ℕ, Bool, true, false, ◌||◌, ◌==◌, nat_le, nat_lt, List, map, get_or, Option, Some, None, unwrap_or, is_none, Ok, Err, if◌then◌else◌}
use Rattle.std.specs.List.{range_with_len}
use Rattle.std.specs.Option.{option_map}
use Rattle.std.specs.Str.{bytes_eq}
use Rattle.client_msgs.specs.Own.{own as own_hello}
use Rattle.client_msgs.specs.declared.msg.PeerMsg.{PeerMsg}
use Rattle.client_msgs.specs.declared.msg.PeerMsg.TheVariants as msgs
use Rattle.part_sizes.specs.Part.{data_parts, part_count}
use Rattle.part_sizes.specs.declared.part.TheConstants.{PART}
use Rattle.reserve_core.specs.declared.desk.Answer.{Answer}
use Rattle.reserve_core.specs.declared.desk.Answer.TheVariants as answer
use Rattle.reserve_core.specs.declared.desk.DeskAsk.TheVariants as ask
use Rattle.reserve_core.specs.declared.fault.DeskFault.{DeskFault}
use Rattle.reserve_core.specs.declared.fault.DeskFault.TheVariants as fault
use Rattle.reserve_core.specs.declared.verdict.Verdict.TheVariants.{Failed, Verified}
use Rattle.peer_fetch.specs.Plan.{Plan, Send, Ask, Last, Read, Paused, Ended}
use Rattle.peer_fetch.specs.declared.cause.Cause.{Cause}
use Rattle.peer_fetch.specs.declared.cause.Cause.TheVariants as cause
use Rattle.peer_fetch.specs.declared.session.Place.{Place}
use Rattle.peer_fetch.specs.declared.session.Place.TheVariants as place
use Rattle.peer_fetch.specs.declared.session.Session.{Session}

-- the faults of the store and the want of memory, which end every session
abbrev pub ends_by : DeskFault → Option Cause
ends_by fault.Fault = Some cause.StoreFault
ends_by fault.Broken = Some cause.StoreFault
ends_by fault.NoMemory = Some cause.NoMemory
ends_by _ = None

abbrev pub commit_cause : Answer → Option Cause
commit_cause (answer.Commit (Err fault)) = ends_by fault
commit_cause _ = None

-- At each end the peer's ranges are given back, and what was written is made durable.
abbrev pub finish : Cause → Plan
finish cause = Last ask.Release (λ _. Last ask.Commit (λ answer. Ended (unwrap_or (commit_cause answer) cause)))

abbrev pub end_pause : Session → Option Cause → Plan
end_pause s None = Paused s
end_pause s (Some cause) = Ended cause

abbrev pub pause : Session → Plan
pause s = Last ask.Release (λ _. Last ask.Commit (λ answer. end_pause s (commit_cause answer)))

-- any other refusal, where the table does not name it, changes nothing
abbrev pub end_or : Plan → DeskFault → Plan
end_or on fault = unwrap_or (option_map finish (ends_by fault)) on

abbrev pub goes_to : Place → Session → Session
goes_to place s = record s { place = place }

abbrev pub with_offer : List Bool → Session → Session
with_offer bits s = record s { offered = bits }

-- a message names the file that is wanted
abbrev pub is_ours : Session → List ℕ → Bool
is_ours s hash = bytes_eq hash s.aim.hash

-- start: a hello
abbrev pub start : Session → Plan
start s = Send (msgs.Hello own_hello) (Read (goes_to place.Hello s))

-- the file is named
abbrev pub name_file : Session → Plan
name_file s = Send (msgs.NameRequest s.aim.hash) (Send (msgs.SetFile s.aim.hash) (Read (goes_to place.Status s)))

-- hello: after the answer the file is named
abbrev pub on_hello : Session → PeerMsg → Plan
on_hello s (msgs.HelloAnswer hello) = name_file s
on_hello s _ = Read s

abbrev pub start_upload : Session → Plan
start_upload s = Send (msgs.StartUpload s.aim.hash) (Read (goes_to place.Slot s))

-- whether a set is kept: only from one part on one is needed
abbrev pub has_set_answered : Session → Answer → Plan
has_set_answered s (answer.HasSet false) = Send (msgs.SetRequest s.aim.hash) (Read (goes_to place.Set s))
has_set_answered s (answer.HasSet true) = start_upload s
has_set_answered s _ = Read s

abbrev pub offer_answered : Session → List Bool → Answer → Plan
offer_answered s bits (answer.Offer (Ok done)) =
    if nat_le PART s.aim.size then Ask ask.HasSet (has_set_answered (with_offer bits s)) else start_upload (with_offer bits s)
offer_answered s bits (answer.Offer (Err fault)) = end_or (Read s) fault
offer_answered s bits _ = Read s

-- a status counts all parts of the file, or says by a count of 0 that the peer has them all
abbrev pub is_count : Session → ℕ → Bool
is_count s count = count == 0 || (count == part_count s.aim.size)

-- for each part that holds bytes whether the peer has it
abbrev pub has_parts : ℕ → ℕ → List Bool → List Bool
has_parts size count bits = map (λ part. count == 0 || get_or bits part false) (range_with_len 0 (data_parts size))

abbrev pub file_status : Session → List ℕ → ℕ → List Bool → Plan
file_status s hash count bits =
    if is_ours s hash
    then (if is_count s count
    then Ask (ask.Offer (has_parts s.aim.size count bits)) (offer_answered s (has_parts s.aim.size count bits))
    else finish (cause.BadStatus count))
    else Read s

abbrev pub no_file : Session → List ℕ → Plan
no_file s hash = if is_ours s hash then finish cause.NoFile else Read s

-- status: what the peer has is offered
abbrev pub on_status : Session → PeerMsg → Plan
on_status s (msgs.FileStatus hash count bits) = file_status s hash count bits
on_status s (msgs.NoFile hash) = no_file s hash
on_status s _ = Read s

-- a set that is there already is as good
abbrev pub hashes_answered : Session → Answer → Plan
hashes_answered s (answer.Hashes (Ok done)) = start_upload s
hashes_answered s (answer.Hashes (Err fault.AlreadySet)) = start_upload s
hashes_answered s (answer.Hashes (Err (fault.Set found))) = finish (cause.BadSet found)
hashes_answered s (answer.Hashes (Err fault)) = end_or (Read s) fault
hashes_answered s _ = Read s

abbrev pub set_answer : Session → List ℕ → List (List ℕ) → Plan
set_answer s hash set = if is_ours s hash then Ask (ask.Hashes set) (hashes_answered s) else Read s

-- set: the set is kept
abbrev pub on_set : Session → PeerMsg → Plan
on_set s (msgs.SetAnswer hash set) = set_answer s hash set
on_set s (msgs.NoFile hash) = no_file s hash
on_set s _ = Read s

-- turn: ranges are reserved and asked for
abbrev pub reserve_answered : Session → Answer → Plan
reserve_answered s (answer.Reserve (Ok spans)) = Send (msgs.RequestParts s.aim.hash spans) (Read (goes_to place.Pieces s))
reserve_answered s (answer.Reserve (Err fault.NoBlock)) = pause s
reserve_answered s (answer.Reserve (Err fault.Cheat)) = finish cause.Cheat
reserve_answered s (answer.Reserve (Err (fault.Worn part))) = finish (cause.Worn part)
reserve_answered s (answer.Reserve (Err fault)) = end_or (Read s) fault
reserve_answered s _ = Read s

abbrev pub turn : Session → Plan
turn s = Ask ask.Reserve (reserve_answered s)

-- queue: a slot begins a turn
abbrev pub on_slot : Session → PeerMsg → Plan
on_slot s msgs.Accept = turn s
on_slot s (msgs.NoFile hash) = no_file s hash
on_slot s _ = Read s

-- where the peer holds no range any more, a turn begins
abbrev pub holds_answered : Session → Answer → Plan
holds_answered s (answer.Holds false) = turn s
holds_answered s _ = Read s

abbrev pub look : Session → Plan
look s = Ask ask.Holds (holds_answered s)

abbrev pub drop_answered : Session → Answer → Plan
drop_answered s (answer.DropPart (Ok done)) = look s
drop_answered s (answer.DropPart (Err fault)) = end_or (look s) fault
drop_answered s _ = Read s

-- a part that failed is opened again, unless the hash tree's root is known
abbrev pub part_failed : Session → ℕ → Plan
part_failed s part = if is_none s.aim.root then Ask (ask.DropPart part) (drop_answered s) else look s

abbrev pub verify_answered : Session → ℕ → Answer → Plan
verify_answered s part (answer.Verify (Ok Failed)) = part_failed s part
verify_answered s part (answer.Verify (Ok Verified)) = look s
verify_answered s part (answer.Verify (Err fault)) = end_or (look s) fault
verify_answered s part _ = Read s

abbrev pub commit_answered : Session → ℕ → Answer → Plan
commit_answered s part (answer.Commit (Ok done)) = Ask (ask.Verify part) (verify_answered s part)
commit_answered s part (answer.Commit (Err fault)) = end_or (look s) fault
commit_answered s part _ = Read s

-- a part that was filled is judged
abbrev pub part_filled : Session → Option ℕ → Plan
part_filled s (Some part) = Ask ask.Commit (commit_answered s part)
part_filled s None = look s

abbrev pub write_answered : Session → Answer → Plan
write_answered s (answer.Write (Ok written)) = part_filled s written.full
write_answered s (answer.Write (Err fault)) = end_or (Read s) fault
write_answered s _ = Read s

abbrev pub sending_part : Session → List ℕ → ℕ → List ℕ → Plan
sending_part s hash start piece = if is_ours s hash then Ask (ask.Write start piece) (write_answered s) else Read s

-- pieces: each is written, and a peer that has no more slot is asked for one again
abbrev pub on_pieces : Session → PeerMsg → Plan
on_pieces s (msgs.SendingPart hash start end piece) = sending_part s hash start piece
on_pieces s msgs.OutOfParts = Ask ask.Release (λ _. start_upload s)
on_pieces s _ = Read s

-- a message comes
abbrev pub row_at : Place → Session → PeerMsg → Plan
row_at place.Hello s msg = on_hello s msg
row_at place.Status s msg = on_status s msg
row_at place.Set s msg = on_set s msg
row_at place.Slot s msg = on_slot s msg
row_at place.Pieces s msg = on_pieces s msg

abbrev pub row : Session → PeerMsg → Plan
row s msg = row_at s.place s msg
