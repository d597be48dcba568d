-- How a download ends.
use Rattle.std.specs.Prelude.{◌≡◌, ◌≢◌, ◌⊎◌, ◌↔◌, ℕ, List, None, Some, IsTrue, find}
use Rattle.part_hashset.specs.declared.aim.Aim.{Aim}
use Rattle.reserve_core.specs.Events.{events}
use Rattle.reserve_core.specs.Verdicts.{is_worn, lacks_set, parts}
use Rattle.reserve_core.specs.declared.event.Entry.{Entry}
use Rattle.ed2k_node.specs.Left.{IsComplete}
use Rattle.ed2k_node.specs.declared.status.Status.{Status}
use Rattle.ed2k_node.specs.declared.status.Status.TheVariants.{Complete, Incomplete, Vault, NoMemory, Net, BadPart, NoSet}

-- the number that the program ends with
abbrev pub code_of : Status → ℕ
code_of Complete = 0
code_of Incomplete = 3
code_of Vault = 4
code_of NoMemory = 5
code_of Net = 9
code_of (BadPart part) = 10
code_of NoSet = 13

-- the place of an ending in the order 0, 4, 9, 13, 10, 3; 5 is free
abbrev pub rank : Status → ℕ
rank Complete = 0
rank NoMemory = 0
rank Vault = 1
rank Net = 2
rank NoSet = 3
rank (BadPart part) = 4
rank Incomplete = 5

-- where a part is named, it is the least that failed eight times
abbrev pub IsWorn : Aim → List Entry → Status → Type 0
IsWorn aim log (BadPart part) = find (is_worn aim (events log)) (parts aim.size) ≡ Some part
IsWorn aim log Complete = Unit {0}
IsWorn aim log Incomplete = Unit {0}
IsWorn aim log Vault = Unit {0}
IsWorn aim log NoMemory = Unit {0}
IsWorn aim log Net = Unit {0}
IsWorn aim log NoSet = Unit {0}

-- a part is told to be at fault
abbrev pub IsOfParts : Status → Type 0
IsOfParts (BadPart part) = Unit {0}
IsOfParts Incomplete = Unit {0}
IsOfParts _ = ⊥

-- a part failed eight times, and this is the least
abbrev pub HasWorn : Aim → List Entry → Type 0
HasWorn aim log = (part : ℕ) × (find (is_worn aim (events log)) (parts aim.size) ≡ Some part)

-- a hash set is needed, and none is kept
abbrev pub LacksSet : Aim → List Entry → Type 0
LacksSet aim log = IsTrue (lacks_set aim.size (events log))

-- no part failed eight times
abbrev pub HasNoWorn : Aim → List Entry → Type 0
HasNoWorn aim log = find (is_worn aim (events log)) (parts aim.size) ≡ None

-- unless memory was refused, the download is complete exactly where every part is verified
abbrev pub SaysComplete : Aim → List Entry → Status → Type 0
SaysComplete aim log ending = ending ≢ NoMemory → ((ending ≡ Complete) ↔ IsComplete aim (events log))

-- an ending that doesn't wait for what the peer did
abbrev pub IsAtOnce : Status → Type 0
IsAtOnce ending = (ending ≡ NoMemory) ⊎ (ending ≡ Complete) ⊎ (ending ≡ Vault)

-- the peer was reached
abbrev pub IsOfPeer : Status → Type 0
IsOfPeer Complete = Unit {0}
IsOfPeer Incomplete = Unit {0}
IsOfPeer Vault = ⊥
IsOfPeer NoMemory = ⊥
IsOfPeer Net = ⊥
IsOfPeer (BadPart part) = Unit {0}
IsOfPeer NoSet = Unit {0}

-- the number of an end before which the peer was reached
abbrev pub IsPeerCode : ℕ → Type 0
IsPeerCode n = (n ≡ 0) ⊎ (n ≡ 3) ⊎ (n ≡ 10) ⊎ (n ≡ 13)

-- a number of a download's end
abbrev pub IsDownloadStatus : ℕ → Type 0
IsDownloadStatus n = (status : Status) × (n ≡ code_of status)

-- the number of an end before anything was called
abbrev pub IsEarly : ℕ → Type 0
IsEarly n = (n ≡ 1) ⊎ (n ≡ 2)

-- one of the numbers that a `get` ends with
abbrev pub IsGetStatus : ℕ → Type 0
IsGetStatus n = IsEarly n ⊎ (n ≡ 6) ⊎ IsDownloadStatus n
