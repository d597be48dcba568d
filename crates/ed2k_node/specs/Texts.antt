-- The printed texts. Each is one line, which ends with a line feed.
use Rattle.std.specs.Prelude.{ℕ, List, [], ◌∷◌, ◌++◌, codes}
use Rattle.ed2k_link.specs.declared.fault.LinkFault.{LinkFault}
use Rattle.ed2k_link.specs.declared.fault.LinkFault.TheVariants.{NotFile, BadName, BadSize, BadHash, BadParts, BadRoot, BadEnd, NoMemory}

abbrev pub line : List ℕ → List ℕ
line text = text ++ 10 ∷ []

-- for wrong words
abbrev pub usage : List ℕ
usage = codes "usage: ed2k_node get|check|hash|link|sources|look|serve|share|rehearse"

abbrev pub fault_name : LinkFault → List ℕ
fault_name NotFile = codes "NotFile"
fault_name BadName = codes "BadName"
fault_name BadSize = codes "BadSize"
fault_name BadHash = codes "BadHash"
fault_name BadParts = codes "BadParts"
fault_name BadRoot = codes "BadRoot"
fault_name BadEnd = codes "BadEnd"
fault_name NoMemory = codes "NoMemory"

-- for a link, or the size of a file, that is refused
abbrev pub refusal : LinkFault → List ℕ
refusal fault = codes "link " ++ fault_name fault

-- for a blob that failed
abbrev pub blob_text : List ℕ
blob_text = codes "blob"
