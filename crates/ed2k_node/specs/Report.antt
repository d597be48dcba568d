-- The text that a download prints: a line for the file, one for its parts, one for each peer, and one for
-- its end.
use Rattle.std.specs.Prelude.{◌≡◌, ◌≢◌, ℕ, ◌+◌, ◌-◌, ◌≤◌, ◌==◌, if◌then◌else◌, List, [], ◌∷◌, ◌++◌, Some, None, Err, sum_by, count_by, decimal, codes}
use Rattle.std.specs.declared.option.Option.{Option}
use Rattle.std.specs.declared.result.Result.{Result}
use Rattle.ed2k_link.specs.Name.{escaped}
use Rattle.ed2k_outside.specs.Causes.{Rose}
use Rattle.ed2k_outside.specs.declared.halves.Sink as sink
use Rattle.part_hashset.specs.declared.aim.Aim.{Aim}
use Rattle.part_sizes.specs.Part.{data_parts}
use Rattle.peer_fetch.specs.declared.cause.Cause.{Cause}
use Rattle.peer_fetch.specs.declared.cause.Cause.TheVariants as cause
use Rattle.peer_fetch.specs.declared.peer_end.PeerEnd.{PeerEnd}
use Rattle.reserve_core.specs.Events.{events}
use Rattle.reserve_core.specs.Verdicts.{is_verified, parts}
use Rattle.reserve_core.specs.declared.event.Entry.{Entry}
use Rattle.reserve_core.specs.declared.event.Event.{Event}
use Rattle.reserve_core.specs.declared.event.Event.TheVariants.{Write}
use Rattle.ed2k_node.specs.Sent.{IsSent, IsBegun}
use Rattle.ed2k_node.specs.Status.{code_of}
use Rattle.ed2k_node.specs.Texts.{line}
use Rattle.ed2k_node.specs.declared.report.ReportFault.{ReportFault}
use Rattle.ed2k_node.specs.declared.report.ReportFault.TheVariants.{Output}
use Rattle.ed2k_node.specs.declared.report.ReportFault.TheVariants as report_fault
use Rattle.ed2k_node.specs.declared.report.Summary.{Summary}
use Rattle.ed2k_node.specs.declared.status.Status.{Status}
use Rattle.ed2k_node.specs.declared.status.Status.TheVariants.{Complete, Incomplete, Vault, NoMemory, Net, BadPart, NoSet}

-- the name of a cause, without what it carries
abbrev pub cause_name : Cause → List ℕ
cause_name cause.NoBlock = codes "NoBlock"
cause_name cause.Ended = codes "Ended"
cause_name cause.WireFault = codes "WireFault"
cause_name (cause.BadFrame _) = codes "BadFrame"
cause_name (cause.BadMsg _) = codes "BadMsg"
cause_name cause.NoFile = codes "NoFile"
cause_name (cause.BadStatus _) = codes "BadStatus"
cause_name (cause.BadSet _) = codes "BadSet"
cause_name cause.Cheat = codes "Cheat"
cause_name (cause.Worn _) = codes "Worn"
cause_name cause.StoreFault = codes "StoreFault"
cause_name cause.Spent = codes "Spent"
cause_name cause.NoLink = codes "NoLink"
cause_name cause.NoMemory = codes "NoMemory"

-- the bytes that an event writes for a peer
abbrev pub bytes_of : ℕ → Event → ℕ
bytes_of p (Write q span) = if q == p then span.e - span.s else 0
bytes_of p _ = 0

-- the bytes of all writes for a peer; none for a peer without a number
abbrev pub bytes_from : List Event → Option ℕ → ℕ
bytes_from h None = 0
bytes_from h (Some p) = sum_by (bytes_of p) h

-- the number of verified parts
abbrev pub verified_count : Aim → List Event → ℕ
verified_count aim h = count_by (is_verified aim h) (parts aim.size)

-- `file NAME`, with the name as it stands in a link
unfoldable pub file_line : List ℕ → List ℕ
file_line name = line (codes "file " ++ escaped name)

-- `parts V/N`: the verified parts of all
unfoldable pub parts_line : Aim → List Event → List ℕ
parts_line aim h = line (codes "parts " ++ decimal (verified_count aim h) ++ codes "/" ++ decimal (data_parts aim.size))

-- `peer K CAUSE BYTES`
unfoldable pub peer_line : List Event → ℕ → PeerEnd → List ℕ
peer_line h place peer =
    line (codes "peer " ++ decimal place ++ codes " " ++ cause_name peer.cause ++ codes " " ++ decimal (bytes_from h peer.number))

-- a line for each peer, in their order, with places from the first on
abbrev pub peer_lines : List Event → ℕ → List PeerEnd → List ℕ
peer_lines h first [] = []
peer_lines h first (peer ∷ peers) = peer_line h first peer ++ peer_lines h (first + 1) peers

-- the last line; there is none where memory was refused
abbrev pub last_line : Status → List ℕ
last_line Complete = line (codes "complete")
last_line Incomplete = line (codes "incomplete")
last_line Vault = line (codes "vault")
last_line NoMemory = []
last_line Net = line (codes "net")
last_line (BadPart part) = line (codes "bad part " ++ decimal part)
last_line NoSet = line (codes "no hash set")

-- the lines before the last; there are none where no store was made
abbrev pub lines_before : List ℕ → Aim → List Entry → List PeerEnd → List ℕ
lines_before name aim [] peers = []
lines_before name aim (entry ∷ log) peers =
    file_line name ++ parts_line aim (events (entry ∷ log)) ++ peer_lines (events (entry ∷ log)) 0 peers

-- what a download tells: its file's name, the file that is wanted, its log and its peers
pub record Findings : Type 0 where
  pub name : List ℕ
  pub aim : Aim
  pub log : List Entry
  pub peers : List PeerEnd

abbrev pub findings : List ℕ → Aim → List Entry → List PeerEnd → Findings
findings name aim log peers = record { name = name; aim = aim; log = log; peers = peers }

-- the same of a summary
abbrev pub findings_of : Summary → Findings
findings_of told = findings told.name.now told.aim told.log.now told.peers.now

-- its lines before the last
abbrev pub lines_of : Findings → List ℕ
lines_of told = lines_before told.name told.aim told.log told.peers

-- those of a summary
abbrev pub lines_in : Summary → List ℕ
lines_in told = lines_of (findings_of told)

-- the whole text
abbrev pub report_of : Findings → Status → List ℕ
report_of told ending = lines_of told ++ last_line ending

-- that of a summary
abbrev pub text_in : Summary → Status → List ℕ
text_in told ending = report_of (findings_of told) ending

-- With the ending's own number the whole text was sent, with 6 a front of it, and with 5 a front of the lines
-- before the last.
pub record IsReported (told : Findings) (ending : Status) (status : ℕ) (old new : Option (List ℕ)) : Type 0 where
  pub whole : status ≢ 5 → status ≢ 6 → (status ≡ code_of ending) × IsSent old new (report_of told ending)
  pub stopped : status ≡ 6 → (ending ≢ NoMemory) × IsBegun old new (report_of told ending)
  pub refused : status ≡ 5 → IsBegun old new (lines_of told)

-- the same, on a sink
abbrev pub IsReportedOn : {O : Type 0} → sink.Ghosts O → Summary → Status → ℕ → O → O → Type 0
IsReportedOn o told ending status old new = IsReported (findings_of told) ending status (o.sent old) (o.sent new)

-- the verified parts of a summary are those of its log
abbrev pub IsCounted : Summary → Type 0
IsCounted told = told.verified ≡ verified_count told.aim (events told.log.now)

-- the line for its parts
abbrev pub own_parts_line : Summary → List ℕ
own_parts_line told = parts_line told.aim (events told.log.now)

-- all lines of the peers
abbrev pub lines_for : List Entry → List PeerEnd → List ℕ
lines_for log peers = peer_lines (events log) 0 peers

-- the count of the output's faults didn't fall, and it rose where the output is named as the cause
pub record HasOutputCause {T : Type 0} (before now : ℕ) (result : Result T ReportFault) : Type 0 where
  pub later : before ≤ now
  pub output : result ≡ Err Output → Rose before now

-- memory was refused
abbrev pub WantsMemory : {T : Type 0} → Result T ReportFault → Type 0
WantsMemory result = result ≡ Err report_fault.NoMemory

-- where memory was refused, no more than a front of this text was sent
abbrev pub SendsNoMore : {T : Type 0} → Result T ReportFault → List ℕ → Option (List ℕ) → Option (List ℕ) → Type 0
SendsNoMore result text old new = WantsMemory result → IsBegun old new text
