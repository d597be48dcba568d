-- What holds of each message, whatever writes and reads it.
use Rattle.std.specs.Prelude.{◌≡◌, ℕ, ◌<◌, ◌^◌, min, List, length, true, Ok}
use Rattle.std.specs.List.{AllByRecursion}
use Rattle.ed2k_tags.specs.Laws.{IsTyped}
use Rattle.client_msgs.specs.declared.msg.Hello.{Hello}
use Rattle.client_msgs.specs.declared.msg.PeerMsg.{PeerMsg}
use Rattle.client_msgs.specs.declared.msg.PeerMsg.TheVariants as msgs
use Rattle.client_msgs.specs.Reading.{message}
use Rattle.client_msgs.specs.Spelling.{payload_of, protocol_of, opcode_of, counts_fit, HasForm}

abbrev pub IsHash : List ℕ → Type 0
IsHash hash = length hash ≡ 16

abbrev pub IsRoot : List ℕ → Type 0
IsRoot root = length root ≡ 20

-- what the types of a hello keep
pub record IsTypedHello (hello : Hello) : Type 0 where
  pub user : IsHash hello.user
  pub id : hello.id < 2 ^ 32
  pub port : hello.port < 2 ^ 16
  pub tags : AllByRecursion IsTyped hello.tags
  pub server_ip : hello.server_ip < 2 ^ 32
  pub server_port : hello.server_port < 2 ^ 16

-- what the type of a message keeps
abbrev pub IsTypedMsg : PeerMsg → Type 0
IsTypedMsg (msgs.Hello hello) = IsTypedHello hello
IsTypedMsg (msgs.HelloAnswer hello) = IsTypedHello hello
IsTypedMsg (msgs.SendingPart hash start end piece) = IsHash hash × (start < 2 ^ 32) × (end < 2 ^ 32)
IsTypedMsg (msgs.RequestParts hash spans) = IsHash hash
IsTypedMsg (msgs.NoFile hash) = IsHash hash
IsTypedMsg (msgs.SetFile hash) = IsHash hash
IsTypedMsg (msgs.FileStatus hash count bits) = IsHash hash × (count < 2 ^ 16)
IsTypedMsg (msgs.SetRequest hash) = IsHash hash
IsTypedMsg (msgs.SetAnswer hash set) = IsHash hash × AllByRecursion IsHash set
IsTypedMsg (msgs.StartUpload hash) = IsHash hash
IsTypedMsg (msgs.NameRequest hash) = IsHash hash
IsTypedMsg (msgs.NameAnswer hash name) = IsHash hash
IsTypedMsg (msgs.AichRequest hash part root) = IsHash hash × (part < 2 ^ 16) × IsRoot root
IsTypedMsg (msgs.AichAnswer hash part root packet) = IsHash hash × (part < 2 ^ 16) × IsRoot root
IsTypedMsg (msgs.AichRefused hash) = IsHash hash
IsTypedMsg (msgs.RootAnswer hash root) = IsHash hash × IsRoot root
IsTypedMsg (msgs.RootRequest hash) = IsHash hash
IsTypedMsg _ = Unit {0}

-- what is read of a message that was written: itself, and a rank as two bytes can have it
abbrev pub as_read : PeerMsg → PeerMsg
as_read (msgs.Rank place) = msgs.Rank (min place 65535)
as_read msg = msg

-- what is written is read again
abbrev pub WrittenIsRead : Type 0
WrittenIsRead =
    (msg : PeerMsg) → IsTypedMsg msg → HasForm msg → counts_fit msg ≡ true →
    message (record { protocol = protocol_of msg; opcode = opcode_of msg; payload = payload_of msg }) ≡ Ok (as_read msg)
