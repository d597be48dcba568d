-- What a run answers to the words, and what it prints for it.
use Rattle.std.specs.Prelude.{◌≡◌, ◌⊎◌, ℕ, List, [], Some, None}
use Rattle.std.specs.declared.option.Option.{Option}
use Rattle.ed2k_link.specs.Grammar.{Link, fault_of}
use Rattle.ed2k_link.specs.Printed.{printed}
use Rattle.ed2k_link.specs.declared.fault.LinkFault.{LinkFault}
use Rattle.ed2k_link.specs.declared.fault.LinkFault.TheVariants.{BadSize}
use Rattle.ed2k_link.specs.declared.fault.LinkFault.TheVariants as faults
use Rattle.ed2k_link.specs.declared.link.FileLink.{FileLink}
use Rattle.ed2k_outside.specs.Blobs.{Named}
use Rattle.ed2k_outside.specs.Causes.{IfKnown, Rose}
use Rattle.ed2k_outside.specs.declared.blobs.Blobs as blobs
use Rattle.ed2k_outside.specs.declared.halves.Sink as sink
use Rattle.ed2k_node.specs.Commands.{Asked, AsksNoBlob, HashOf, FormOf, asked_of}
use Rattle.ed2k_node.specs.Hashed.{HashesBlob, FetchesUnfit}
use Rattle.ed2k_node.specs.Sent.{IsSent, IsBegun}
use Rattle.ed2k_node.specs.Texts.{line, usage, refusal, blob_text}
use Rattle.ed2k_node.specs.declared.answer.Reply.{Reply}
use Rattle.ed2k_node.specs.declared.answer.Reply.TheVariants.{Usage, Line, Refused, Blob, NoMemory}

abbrev pub status_of : Reply → ℕ
status_of (Line _) = 0
status_of Usage = 1
status_of (Refused _) = 2
status_of NoMemory = 5
status_of Blob = 11

-- the line that is printed
abbrev pub line_of : Reply → List ℕ
line_of (Line text) = text
line_of Usage = line usage
line_of (Refused fault) = line (refusal fault)
line_of NoMemory = []
line_of Blob = line blob_text

-- the line with the canonical form of the word
pub record IsCanonical (word text : List ℕ) : Type 0 where
  pub link : FileLink
  pub reads : Link word link
  pub says : text ≡ line (printed link)

-- the word's first fault, or that there was no memory to read it
abbrev pub IsFaultOf : List ℕ → LinkFault → Type 0
IsFaultOf word fault = (fault ≡ faults.NoMemory) ⊎ (fault_of word ≡ Some fault)

-- the answer to `link LINK`
abbrev pub IsFormAnswer : List ℕ → Reply → Type 0
IsFormAnswer word (Line text) = IsCanonical word text
IsFormAnswer word Usage = ⊥
IsFormAnswer word (Refused fault) = fault_of word ≡ Some fault
IsFormAnswer word NoMemory = Unit {0}
IsFormAnswer word Blob = ⊥

-- the answer to `hash NAME`, by the blobs left before and after
abbrev pub IsHashAnswer : List ℕ → Option (List Named) → Option (List Named) → Reply → Type 0
IsHashAnswer name old new (Line text) = HashesBlob name old new text
IsHashAnswer name old new Usage = ⊥
IsHashAnswer name old new (Refused fault) = (fault ≡ BadSize) × IfKnown (FetchesUnfit name) old new
IsHashAnswer name old new NoMemory = Unit {0}
IsHashAnswer name old new Blob = Unit {0}

-- a blob's fault is named only where one was counted
abbrev pub HasBlobFault : ℕ → ℕ → Reply → Type 0
HasBlobFault before now answer = answer ≡ Blob → Rose before now

-- the answer to what is asked for
abbrev pub IsRight : Option Asked → Option (List Named) → Option (List Named) → Reply → Type 0
IsRight None old new answer = answer ≡ Usage
IsRight (Some (HashOf name)) old new answer = IsHashAnswer name old new answer
IsRight (Some (FormOf word)) old new answer = IsFormAnswer word answer

-- the answer's line was sent whole, and the status is the answer's
pub record IsPrintedWhole (answer : Reply) (status : ℕ) (old new : Option (List ℕ)) : Type 0 where
  pub ended : status ≡ status_of answer
  pub sent : IsSent old new (line_of answer)

-- a part of it was sent, and the status says that the output failed
pub record IsPrintedInPart (answer : Reply) (status : ℕ) (old new : Option (List ℕ)) : Type 0 where
  pub ended : status ≡ 6
  pub sent : IsBegun old new (line_of answer)

abbrev pub IsPrinted : Reply → ℕ → Option (List ℕ) → Option (List ℕ) → Type 0
IsPrinted answer status old new = IsPrintedWhole answer status old new ⊎ IsPrintedInPart answer status old new

-- An answer was printed: its line was sent whole with the answer's status, or a part of it where the output failed.
pub record Prints {O : Type 0} (o : sink.Ghosts O) (answer : Reply) (status : ℕ) (old new : O) : Type 0 where
  pub printed : IsPrinted answer status (o.sent old) (o.sent new)
  pub listed : (status ≡ status_of answer) ⊎ (status ≡ 6)
  pub sent : status ≡ status_of answer → IsSent (o.sent old) (o.sent new) (line_of answer)
  pub begun : status ≡ 6 → IsBegun (o.sent old) (o.sent new) (line_of answer)
  pub output : status ≡ 6 → Rose (o.write_faults old) (o.write_faults new)

-- an answer is right by the blobs left before and after, and names a blob's fault only where one was counted; words that
-- ask for no blob leave them alone
pub record IsAnswer {B E : Type 0} (b : blobs.Ghosts B E) (words : List (List ℕ)) (old new : B) (answer : Reply) : Type 0 where
  pub right : IsRight (asked_of words) (b.list old) (b.list new) answer
  pub blob : HasBlobFault (b.blobs_faults old) (b.blobs_faults new) answer
  pub unfetched : AsksNoBlob (asked_of words) → new ≡ old

-- the words got their answer, and it was printed
pub record HasAnswered {B E : Type 0} (b : blobs.Ghosts B E) (words : List (List ℕ)) (blobs blobs_after : B) (status : ℕ)
    (old new : Option (List ℕ)) : Type 0 where
  pub answer : Reply
  pub right : IsAnswer b words blobs blobs_after answer
  pub printed : IsPrinted answer status old new

-- the canonical link that was asked for was sent, and nothing else
abbrev pub PrintsLink : Option Asked → Option (List Named) → Option (List Named) → Option (List ℕ) → Option (List ℕ) → Type 0
PrintsLink None blobs blobs_after old new = ⊥
PrintsLink (Some (HashOf name)) blobs blobs_after old new = (text : List ℕ) × HashesBlob name blobs blobs_after text × IsSent old new text
PrintsLink (Some (FormOf word)) blobs blobs_after old new = (text : List ℕ) × IsCanonical word text × IsSent old new text

-- the first fault of the link, or the size of the blob, was sent, and nothing else
abbrev pub PrintsRefusal : Option Asked → Option (List Named) → Option (List Named) → Option (List ℕ) → Option (List ℕ) → Type 0
PrintsRefusal None blobs blobs_after old new = ⊥
PrintsRefusal (Some (HashOf name)) blobs blobs_after old new = IfKnown (FetchesUnfit name) blobs blobs_after × IsSent old new (line (refusal BadSize))
PrintsRefusal (Some (FormOf word)) blobs blobs_after old new = (fault : LinkFault) × (fault_of word ≡ Some fault) × IsSent old new (line (refusal fault))

-- one of the statuses of these commands
abbrev pub IsPlainStatus : ℕ → Type 0
IsPlainStatus n = ((answer : Reply) × (n ≡ status_of answer)) ⊎ (n ≡ 6)
