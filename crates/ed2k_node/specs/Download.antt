-- What a download did, and what is said of it.
use Rattle.std.specs.Prelude.{◌≡◌, ◌≢◌, ◌⊎◌, ◌↔◌, ◌≤◌, ◌<◌, ◌+◌, ℕ, List, [], ◌∷◌, Option, Some, IfSome, IsFalse}
use Rattle.std.specs.List.{All}
use Rattle.ed2k_link.specs.declared.link.FileLink.{FileLink}
use Rattle.ed2k_outside.specs.Causes.{IfKnown, Rose}
use Rattle.ed2k_outside.specs.Files.{Files}
use Rattle.ed2k_outside.specs.Nets.{Told}
use Rattle.ed2k_outside.specs.declared.addr.Addr.{Addr}
use Rattle.ed2k_outside.specs.declared.net.Net as net
use Rattle.ed2k_outside.specs.declared.vault.Vault as vault
use Rattle.part_hashset.specs.declared.aim.Aim.{Aim}
use Rattle.part_store.specs.Body.{BodyFits, Stored, body_of, log_file_after, log_of}
use Rattle.peer_fetch.specs.Fetches.{Grows, Inside}
use Rattle.peer_fetch.specs.Serves.{nothing}
use Rattle.ed2k_outside.specs.WireMembers.{WireMembers}
use Rattle.peer_fetch.specs.declared.cause.Cause.TheVariants as causes
use Rattle.peer_fetch.specs.declared.peer_end.PeerEnd.{PeerEnd}
use Rattle.reserve_core.specs.Desk.{own}
use Rattle.reserve_core.specs.Events.{events}
use Rattle.reserve_core.specs.Held.{is_holder}
use Rattle.reserve_core.specs.Legal.{IsLegal}
use Rattle.reserve_core.specs.Verdicts.{lacks_set}
use Rattle.reserve_core.specs.declared.event.Entry.{Entry}
use Rattle.reserve_core.specs.declared.event.Event.{Event}
use Rattle.reserve_core.specs.declared.event.Event.TheVariants.{Opened}
use Rattle.ed2k_node.specs.Left.{IsDone, IsSettled}
use Rattle.ed2k_node.specs.Link.{aim_of, opened_log}
use Rattle.ed2k_node.specs.Peers.{FailedOn, IsLinked, IsUnlinked, TalksOver, WithWire}
use Rattle.ed2k_node.specs.Report.{verified_count}
use Rattle.ed2k_node.specs.Rounds.{IsShort, Rounds}
use Rattle.ed2k_node.specs.Run.{ReachesOne}
use Rattle.ed2k_node.specs.Served.{FileServed, IsWholeOr, PeerServes}
use Rattle.ed2k_node.specs.Status.{HasNoWorn, IsOfPeer, IsWorn, LacksSet, rank}
use Rattle.ed2k_node.specs.Talks.{inside_file}
use Rattle.ed2k_node.specs.declared.get.Outcome.{Outcome}
use Rattle.ed2k_node.specs.declared.status.Status.{Status}
use Rattle.ed2k_node.specs.declared.words.Get.{Get}
use Rattle.ed2k_node.specs.declared.status.Status.TheVariants.{Complete, Incomplete, Vault, NoMemory, Net, NoSet}

-- what is asked for: a file, the part hashes that came with it, its place and the peer
pub record Order : Type 0 where
  pub aim : Aim
  pub parts : List (List ℕ)
  pub place : List ℕ
  pub from : Addr

abbrev pub order_at : Aim → List (List ℕ) → List ℕ → Addr → Order
order_at aim parts place from = record { aim = aim; parts = parts; place = place; from = from }

-- the file of a link, at a place, from a peer
abbrev pub order_of : FileLink → List ℕ → Addr → Order
order_of link place from = order_at (aim_of link) link.parts place from

-- the same for the words of a `get` that was read
abbrev pub order : Get → Aim → List (List ℕ) → Order
order get aim parts = order_at aim parts get.place.now get.from

-- the net and the vault, as they are told
pub record Around (W : Type 0) : Type 0 where
  pub net : Option (Told W)
  pub net_faults : ℕ
  pub files : Option Files
  pub placed : Option (List ℕ)
  pub vault_faults : ℕ
  pub calls : ℕ

abbrev pub around : {N W V : Type 0} → net.Ghosts N W → vault.Ghosts V → N → V → Around W
around n v net vault = record {
  net = n.told net;
  net_faults = n.net_faults net;
  files = v.files vault;
  placed = v.placed vault;
  vault_faults = v.faults vault;
  calls = v.made vault;
}

-- what a download did: what stood around it before and after, how it ended, what it did to the file, and what
-- became of the peers
pub record Did (W : Type 0) : Type 0 where
  pub before : Around W
  pub after : Around W
  pub ending : Status
  pub log : List Entry
  pub peers : List PeerEnd

-- what was done where this is left
abbrev pub left_by : {N W V : Type 0} → net.Ghosts N W → vault.Ghosts V → N → V → N → Outcome V → Did W
left_by n v net vault net_now out = record {
  before = around n v net vault;
  after = around n v net_now out.vault;
  ending = out.status;
  log = out.log.items;
  peers = out.peers.items;
}

-- the vault failed
abbrev pub VaultFailed : {W : Type 0} → Did W → Type 0
VaultFailed did = Rose did.before.vault_faults did.after.vault_faults

-- the net failed
abbrev pub NetFailed : {W : Type 0} → Did W → Type 0
NetFailed did = Rose did.before.net_faults did.after.net_faults

-- the vault failed, or the net, or a call on the wire
abbrev pub HasFailed : {W : Type 0} → WireMembers W → Did W → Type 0
HasFailed m did =
    VaultFailed did ⊎ NetFailed did
    ⊎ IfKnown (WithWire (FailedOn m)) did.before.net did.after.net

-- the peer was reached, and its wire given back
abbrev pub Reached : {W : Type 0} → Addr → Did W → Type 0
Reached from did = IfKnown (ReachesOne from) did.before.net did.after.net

-- Nothing that comes before the ending in the order 0, 4, 9, 13, 10, 3 holds, and from 9 on no peer wanted memory.
pub record InTurn {W : Type 0} (aim : Aim) (did : Did W) : Type 0 where
  pub unfailed : 1 < rank did.ending → did.after.vault_faults ≡ did.before.vault_faults
  pub supplied : 1 < rank did.ending → All (λ met. met.cause ≢ causes.NoMemory) did.peers
  pub linked : 2 < rank did.ending → All (λ met. met.cause ≢ causes.NoLink) did.peers
  pub set_kept : 3 < rank did.ending → IsFalse (lacks_set aim.size (events did.log))
  pub unworn : 4 < rank did.ending → HasNoWorn aim did.log

-- only a peer that is told of by its number did something
abbrev pub OwnedBy : List PeerEnd → List Event → Type 0
OwnedBy peers h = (p : ℕ) → All (λ met. met.number ≢ Some p) peers → own h p ≡ []

-- the log begins as that of a store that is new, and with the part hashes of the link where a peer was tried
pub record BeginsLog {W : Type 0} (aim : Aim) (hashes : List (List ℕ)) (did : Did W) : Type 0 where
  pub begins : Grows (Opened nothing ∷ []) (events did.log)
  pub tried : did.peers ≢ [] → Grows (opened_log aim hashes) (events did.log)

-- what is said of a download's log, body and ending
pub record EndsSo {W : Type 0} (aim : Aim) (did : Did W) : Type 0 where
  pub log_file : log_of did.after.files ≡ log_file_after did.log (log_of did.before.files)
  pub later : did.before.vault_faults ≤ did.after.vault_faults
  pub legal : did.log ≢ [] → IsLegal aim did.log
  pub fits : did.log ≢ [] → BodyFits aim did.log (body_of did.before.files) did.after.files
  pub settled : did.ending ≢ NoMemory → IsSettled aim (events did.log) ⊎ VaultFailed did
  pub verified : did.ending ≢ NoMemory → ((did.ending ≡ Complete) ↔ IsDone aim did.log)
  pub vault : did.ending ≡ Vault → VaultFailed did
  pub net : did.ending ≡ Net → NetFailed did × (did.after.net ≡ did.before.net)
  pub set : did.ending ≡ NoSet → LacksSet aim did.log
  pub worn : IsWorn aim did.log did.ending
  pub in_turn : InTurn aim did
  pub owned : OwnedBy did.peers (events did.log)
  pub short : did.ending ≡ Incomplete → IsShort aim did.log did.peers
  pub unlinked : did.ending ≡ Net → All IsUnlinked did.peers
  pub due : did.ending ≢ NoMemory → did.log ≢ [] → Rounds aim did.log did.peers ⊎ VaultFailed did

-- the connect of the peer failed: the net's count rose, and what it tells stayed
pub record FailsToLink {W : Type 0} (met : PeerEnd) (did : Did W) : Type 0 where
  pub unlinked : IsUnlinked met
  pub refused : NetFailed did
  pub still : did.after.net ≡ did.before.net

-- the peer was connected, and has its talk over its wire, where the net tells its wires
pub record Links {W : Type 0} (m : WireMembers W) (aim : Aim) (before : List Event) (met : PeerEnd) (did : Did W) : Type 0 where
  pub linked : IsLinked met
  pub talks : IfKnown (WithWire (TalksOver m aim before (events did.log) met)) did.before.net did.after.net

-- The one peer of a download: its connect failed, or it was connected. A fault of the store is told only where
-- the store failed, and unless it did, the peer holds nothing. The log of the store was this before.
pub record TellsPeer {W : Type 0} (m : WireMembers W) (aim : Aim) (before : List Event) (did : Did W) : Type 0 where
  pub met : PeerEnd
  pub only : did.peers ≡ met ∷ []
  pub linked : FailsToLink met did ⊎ Links m aim before met did
  pub stored : met.cause ≡ causes.StoreFault → VaultFailed did
  pub free : IfSome met.number (λ p. IsFalse (is_holder (events did.log) p)) ⊎ VaultFailed did

-- no peer was tried: the vault failed or memory was refused before, and the net wasn't called
pub record IsUntried {W : Type 0} (did : Did W) : Type 0 where
  pub ended : (did.ending ≡ Vault) ⊎ (did.ending ≡ NoMemory)
  pub nobody : did.peers ≡ []
  pub told : did.after.net ≡ did.before.net
  pub faults : did.after.net_faults ≡ did.before.net_faults

-- the net counted no fault, or the one peer is told not to be connected
abbrev pub Uncounted : {W : Type 0} → Did W → Type 0
Uncounted did =
    (did.after.net_faults ≡ did.before.net_faults) ⊎ ((met : PeerEnd) × (did.peers ≡ met ∷ []) × IsUnlinked met)

-- no store was made: no peer was tried, and the vault was called no more than for one that is made
pub record IsUnmade {W : Type 0} (did : Did W) : Type 0 where
  pub untried : IsUntried did
  pub few : did.after.calls ≤ did.before.calls + 4

-- the body is the file and the download complete, or memory was refused, or something failed
abbrev pub IsWholeIn : {W : Type 0} → WireMembers W → List ℕ → Did W → Type 0
IsWholeIn m bytes did =
    IsWholeOr bytes (did.ending ≡ Complete) (did.ending ≡ NoMemory) (HasFailed m did) did.after.files

-- this was a download of a file from a peer into a store, that had this before
pub record IsDownloadInto {W : Type 0} (m : WireMembers W) (aim : Aim) (from : Addr) (before : Inside) (did : Did W) : Type 0 where
  pub made : did.log ≢ []
  pub grows : Grows before.log (events did.log)
  pub uncounted : Uncounted did
  pub placed : did.after.placed ≡ did.before.placed
  pub ends : EndsSo aim did
  pub peer : TellsPeer m aim before.log did
  pub reached : IsOfPeer did.ending → Reached from did
  pub given_back : (did.after.net ≡ did.before.net) ⊎ Reached from did
  pub served : (bytes : List ℕ) → PeerServes m aim bytes before did.before.net → IsWholeIn m bytes did

-- this was a download of what was asked for
pub record IsDownload {W : Type 0} (m : WireMembers W) (asked : Order) (did : Did W) : Type 0 where
  pub unmade : did.log ≡ [] → IsUnmade did
  pub opened : did.log ≢ [] → BeginsLog asked.aim asked.parts did
  pub uncounted : Uncounted did
  pub placed : did.log ≢ [] → did.after.placed ≡ Some asked.place
  pub kept : (did.after.placed ≡ did.before.placed) ⊎ (did.after.placed ≡ Some asked.place)
  pub ends : EndsSo asked.aim did
  pub peer : did.log ≢ [] → IsUntried did ⊎ TellsPeer m asked.aim (opened_log asked.aim asked.parts) did
  pub reached : IsOfPeer did.ending → Reached asked.from did
  pub given_back : (did.after.net ≡ did.before.net) ⊎ Reached asked.from did
  pub served :
      (bytes : List ℕ) → FileServed m asked.aim asked.parts bytes did.before.files did.before.net → IsWholeIn m bytes did

module _ {N W V : Type 0} (m : WireMembers W) (n : net.Ghosts N W) (v : vault.Ghosts V) where
  -- a download into a store that is there was done
  abbrev pub DownloadsInto : Addr → N → Stored V → N → Outcome V → Type 0
  DownloadsInto from net file net_now out =
      IsDownloadInto m file.aim from (inside_file v.files file) (left_by n v net file.initial net_now out)

  -- a download of what was asked for was done
  pub record Loads (asked : Order) (old : N) (vault : V) (new : N) (out : Outcome V) : Type 0 where
    pub download : IsDownload m asked (left_by n v old vault new out)
    pub verified : out.verified ≡ verified_count asked.aim (events out.log.items)
    pub untried : out.peers.items ≡ [] → new ≡ old
