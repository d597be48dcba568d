-- A file that a peer serves whole.
use Rattle.std.specs.Prelude.{◌≡◌, ◌⊎◌, ℕ, ◌<◌, Bool, List, ◌∷◌, length, Option, Some, true}
use Rattle.ed2k_outside.specs.Files.{Files}
use Rattle.ed2k_outside.specs.Nets.{Told}
use Rattle.ed2k_outside.specs.declared.addr.Addr.{Addr}
use Rattle.part_hashset.specs.HashSet.{ed2k, set_of}
use Rattle.part_hashset.specs.declared.aim.Aim.{Aim}
use Rattle.peer_fetch.specs.Fetches.{Inside}
use Rattle.peer_fetch.specs.Serves.{IsNewFor, Serves}
use Rattle.peer_fetch.specs.declared.cause.Cause.{Cause}
use Rattle.peer_fetch.specs.declared.cause.Cause.TheVariants as cause
use Rattle.reserve_core.specs.Verdicts.{lacks_set}
use Rattle.ed2k_outside.specs.WireMembers.{WireMembers}
use Rattle.ed2k_node.specs.Link.{keeps_parts, opened_log}
use Rattle.ed2k_node.specs.declared.rounds.TheConstants.{BUDGET}

-- the bytes to come serve the file, which has the size and hash that are wanted, and are fewer than may be taken
pub record StreamServes (aim : Aim) (file : List ℕ) (lacks : Bool) (ahead : Option (List ℕ)) : Type 0 where
  pub stream : List ℕ
  pub sized : length file ≡ aim.size
  pub hashed : ed2k file ≡ aim.hash
  pub comes : ahead ≡ Some stream
  pub short : length stream < BUDGET
  pub serves : Serves stream aim file lacks

-- what is known before the first round: the store is new and tells its body, and the bytes to come serve the file
pub record ServesFile (aim : Aim) (file : List ℕ) (before : Inside) (ahead : Option (List ℕ)) : Type 0 where
  pub body : List ℕ
  pub is_new : IsNewFor (set_of file) before.log
  pub told : before.body ≡ Some body
  pub made : length body ≡ aim.size
  pub coming : StreamServes aim file (lacks_set aim.size before.log) ahead

-- the wire or the store failed, or memory was wanted
abbrev pub IsStopped : Cause → Type 0
IsStopped cause.WireFault = Unit {0}
IsStopped cause.StoreFault = Unit {0}
IsStopped cause.NoMemory = Unit {0}
IsStopped _ = ⊥

-- the net tells its first wire, and this holds of it
pub record OfFirstWire {W : Type 0} (says : W → Type 0) (net : Option (Told W)) : Type 0 where
  pub told : Told W
  pub wire : W
  pub from : Addr
  pub rest : List (W × Addr)
  pub tells : net ≡ Some told
  pub first : told.left ≡ (wire, from) ∷ rest
  pub holds : says wire

-- the first wire of the net serves the file to the store
abbrev pub PeerServes : {W : Type 0} → WireMembers W → Aim → List ℕ → Inside → Option (Told W) → Type 0
PeerServes m aim file before net = OfFirstWire (λ wire. ServesFile aim file before (m.left wire)) net

-- The first wire of the net serves the file to a store that is made for it: the vault tells its files, and the part
-- hashes of the link are the file's own where they are kept.
pub record FileServed {W : Type 0} (m : WireMembers W) (aim : Aim) (parts : List (List ℕ)) (file : List ℕ) (files : Option Files) (net : Option (Told W)) : Type 0 where
  pub store : Files
  pub tells_files : files ≡ Some store
  pub kept : keeps_parts aim parts ≡ true → parts ≡ set_of file
  pub peer : OfFirstWire (λ wire. StreamServes aim file (lacks_set aim.size (opened_log aim parts)) (m.left wire)) net

-- the body is the file and this holds, or memory was refused, or something failed
abbrev pub IsWholeOr : List ℕ → Type 0 → Type 0 → Type 0 → Option Files → Type 0
IsWholeOr file complete refused failed files = (complete × (store : Files) × (files ≡ Some store) × (store.body ≡ file)) ⊎ refused ⊎ failed
