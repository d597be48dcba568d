-- What a run did for the words of a `get`.
use Rattle.std.specs.Prelude.{◌≡◌, ◌⊎◌, ℕ, List, [], Some, IfSome}
use Rattle.reserve_core.specs.Events.{events}
use Rattle.part_store.specs.Body.{BeganTrue, body_of}
use Rattle.ed2k_link.specs.Grammar.{Link, fault_of}
use Rattle.ed2k_link.specs.declared.fault.LinkFault.{LinkFault}
use Rattle.ed2k_link.specs.declared.link.FileLink.{FileLink}
use Rattle.ed2k_outside.specs.Causes.{Rose}
use Rattle.ed2k_outside.specs.declared.halves.Sink as sink
use Rattle.ed2k_outside.specs.declared.net.Net as net
use Rattle.ed2k_outside.specs.declared.vault.Vault as vault
use Rattle.ed2k_outside.specs.WireMembers.{WireMembers}
use Rattle.ed2k_node.specs.Download.{Did, IsDownload, around, order_of}
use Rattle.ed2k_node.specs.Left.{IsFileOf, IsNeverShared}
use Rattle.ed2k_node.specs.Link.{aim_of}
use Rattle.ed2k_node.specs.Report.{Findings, IsReported, findings}
use Rattle.ed2k_node.specs.Sent.{IsBegun, IsSent}
use Rattle.ed2k_node.specs.Status.{IsGetStatus, code_of}
use Rattle.ed2k_node.specs.Texts.{line, refusal, usage}
use Rattle.ed2k_node.specs.Words.{GetWords, get_of}
use Rattle.ed2k_node.specs.declared.hands.Ended.{Ended}
use Rattle.ed2k_node.specs.declared.hands.Hands.{Hands}
use Rattle.ed2k_node.specs.declared.status.Status.{Status}
use Rattle.ed2k_node.specs.declared.status.Status.TheVariants.{Complete, NoMemory}

-- nothing was called but the output, and nothing was downloaded
pub record IsUncalled {N V B O C : Type 0} (hands : Hands N V B O C) (end : Ended N V B O C) : Type 0 where
  pub uncalled : (end.hands.net ≡ hands.net) × (end.hands.vault ≡ hands.vault)
  pub beside : (end.hands.blobs ≡ hands.blobs) × (end.hands.clock ≡ hands.clock)
  pub early : (end.log.items ≡ []) × (end.peers.items ≡ [])

-- a line was printed with this status, or a front of it where the output failed
pub record PrintsLine {N V B O C : Type 0} (o : sink.Ghosts O) (code : ℕ) (text : List ℕ) (hands : Hands N V B O C) (end : Ended N V B O C) : Type 0 where
  pub status : (end.status ≡ code) ⊎ (end.status ≡ 6)
  pub printed : end.status ≡ code → IsSent (o.sent hands.out) (o.sent end.hands.out) (line text)
  pub begun : end.status ≡ 6 → IsBegun (o.sent hands.out) (o.sent end.hands.out) (line text)
  pub output : end.status ≡ 6 → Rose (o.write_faults hands.out) (o.write_faults end.hands.out)

-- the words were refused, and how they are written was printed
pub record RefusesWords {N V B O C : Type 0} (o : sink.Ghosts O) (hands : Hands N V B O C) (end : Ended N V B O C) : Type 0 where
  pub wrong : PrintsLine o 1 usage hands end
  pub uncalled : IsUncalled hands end

-- the link was refused, and its fault was printed
pub record RefusesLink {N V B O C : Type 0} (o : sink.Ghosts O) (text : List ℕ) (hands : Hands N V B O C) (end : Ended N V B O C) : Type 0 where
  pub fault : LinkFault
  pub bad : fault_of text ≡ Some fault
  pub bad_link : PrintsLine o 2 (refusal fault) hands end
  pub uncalled : IsUncalled hands end

-- there was no memory to read the link
pub record LacksMemory {N V B O C : Type 0} (hands : Hands N V B O C) (end : Ended N V B O C) : Type 0 where
  pub refused : end.status ≡ 5
  pub silent : end.hands.out ≡ hands.out
  pub uncalled : IsUncalled hands end

-- what is told of the download of a link
abbrev pub findings_for : {N V B O C : Type 0} → FileLink → Ended N V B O C → Findings
findings_for link end = findings link.name (aim_of link) end.log.items end.peers.items

module _ {N W V B O C : Type 0} (m : WireMembers W) (n : net.Ghosts N W) (v : vault.Ghosts V) (o : sink.Ghosts O) where
  -- what was done in a run, where it ended so
  abbrev pub did_in : Hands N V B O C → Ended N V B O C → Status → Did W
  did_in hands end ending = record {
    before = around n v hands.net hands.vault;
    after = around n v end.hands.net end.hands.vault;
    ending = ending;
    log = end.log.items;
    peers = end.peers.items;
  }

  -- The file of the link was downloaded, and the report of it was printed. The status is that of the ending, or
  -- 5 or 6 in its place.
  pub record Downloads (link : FileLink) (get : GetWords) (hands : Hands N V B O C) (end : Ended N V B O C) : Type 0 where
    pub ending : Status
    pub download : IsDownload m (order_of link get.place get.from) (did_in hands end ending)
    pub complete :
        ending ≡ Complete → BeganTrue (events end.log.items) (body_of (v.files hands.vault))
        → IfSome (v.files end.hands.vault) (λ files. IsFileOf (aim_of link) files.body)
    pub printed : IsReported (findings_for link end) ending end.status (o.sent hands.out) (o.sent end.hands.out)
    pub status : (end.status ≡ code_of ending) ⊎ (end.status ≡ 5) ⊎ (end.status ≡ 6)
    pub refused : ending ≡ NoMemory → end.status ≡ 5
    pub output : end.status ≡ 6 → Rose (o.write_faults hands.out) (o.write_faults end.hands.out)
    pub untried : end.peers.items ≡ [] → end.hands.net ≡ hands.net
    pub silent : end.status ≡ 5 → end.log.items ≡ [] → end.hands.out ≡ hands.out
    pub beside : (end.hands.blobs ≡ hands.blobs) × (end.hands.clock ≡ hands.clock)

  -- the link was read, and its file was downloaded
  pub record DownloadsOf (get : GetWords) (hands : Hands N V B O C) (end : Ended N V B O C) : Type 0 where
    pub link : FileLink
    pub reads : Link get.link link
    pub downloads : Downloads link get hands end

  -- the link was refused, or there was no memory to read it, or its file was downloaded
  pub record IsGet (get : GetWords) (hands : Hands N V B O C) (end : Ended N V B O C) : Type 0 where
    pub came : RefusesLink o get.link hands end ⊎ LacksMemory hands end ⊎ DownloadsOf get hands end
    pub shared : IsNeverShared end.log.items
    pub listed : IsGetStatus end.status

  -- this was done for the words, where they are those of a `get`
  abbrev pub AnswersGet : List (List ℕ) → Hands N V B O C → Ended N V B O C → Type 0
  AnswersGet words hands end = IfSome (get_of words) (λ get. IsGet get hands end)
