-- The messages between clients, as they are read. The eMule Protocol Specification (Kulbak, Bickson, 2005), on
-- messages between clients; eMule 0.50a for the messages of the hash tree.
use Rattle.std.specs.Prelude.{◌≡◌, ℕ, ◌+◌, ◌*◌, ◌/◌, List, ◌++◌, length, Option, Some, None, Result, Ok, Err, ◌==◌, if◌then◌else◌}
use Rattle.ed2k_frame.specs.declared.frame.Frame.{Frame}
use Rattle.ed2k_tags.specs.declared.fault.TagFault.{TagFault}
use Rattle.ed2k_tags.specs.Fields.{number_at, bytes_at, counted_at, or}
use Rattle.ed2k_tags.specs.Reading.{◌>>=◌, list_at}
use Rattle.client_msgs.specs.declared.fault.MsgFault.{MsgFault}
use Rattle.client_msgs.specs.declared.fault.MsgFault.TheVariants.{Compressed, Cut, BadTag, BadRange}
use Rattle.client_msgs.specs.declared.msg.Hello.{Hello}
use Rattle.client_msgs.specs.declared.msg.PeerMsg.{PeerMsg}
use Rattle.client_msgs.specs.declared.msg.PeerMsg.TheVariants as msgs
use Rattle.client_msgs.specs.Lists.{hashes_of, bits_of, used}

-- a field, or Cut where the payload ends within it
abbrev pub field : {A : Type 0} → Option A → Result A MsgFault
field found = or Cut found

abbrev pub tagged : {A : Type 0} → Result A TagFault → Result A MsgFault
tagged (Ok x) = Ok x
tagged (Err fault) = Err (BadTag fault)

-- a field whose rest is read past
abbrev pub alone : {A : Type 0} → Option (A × List ℕ) → Option A
alone None = None
alone (Some found) = Some found.0

-- a message of a file's hash
abbrev pub of_hash : (List ℕ → PeerMsg) → List ℕ → Result PeerMsg MsgFault
of_hash msg payload = field (alone (bytes_at 16 payload)) >>= λ hash. Ok (msg hash)

-- what a client says of itself, in bytes that end at a place
unfoldable pub hello_at : ℕ → List ℕ → Result Hello MsgFault
hello_at end bytes = do
  user ← field (bytes_at 16 bytes)
  id ← field (number_at 4 user.1)
  port ← field (number_at 2 id.1)
  tags ← tagged (list_at end port.1)
  server_ip ← field (number_at 4 tags.1)
  server_port ← field (number_at 2 server_ip.1)
  Ok (record { user = user.0; id = id.0; port = port.0; tags = tags.0; server_ip = server_ip.0; server_port = server_port.0 })

-- a hello's first byte is read past
unfoldable pub greeting : List ℕ → Result PeerMsg MsgFault
greeting payload = do
  first ← field (number_at 1 payload)
  hello ← hello_at (length payload) first.1
  Ok (msgs.Hello hello)

unfoldable pub hello_answer : List ℕ → Result PeerMsg MsgFault
hello_answer payload = do
  hello ← hello_at (length payload) payload
  Ok (msgs.HelloAnswer hello)

unfoldable pub sending_part : List ℕ → Result PeerMsg MsgFault
sending_part payload = do
  hash ← field (bytes_at 16 payload)
  start ← field (number_at 4 hash.1)
  end ← field (number_at 4 start.1)
  if end.0 == start.0 + length end.1 then Ok (msgs.SendingPart hash.0 start.0 end.0 end.1) else Err BadRange

unfoldable pub request_parts : List ℕ → Result PeerMsg MsgFault
request_parts payload = do
  hash ← field (bytes_at 16 payload)
  start1 ← field (number_at 4 hash.1)
  start2 ← field (number_at 4 start1.1)
  start3 ← field (number_at 4 start2.1)
  end1 ← field (number_at 4 start3.1)
  end2 ← field (number_at 4 end1.1)
  end3 ← field (number_at 4 end2.1)
  Ok (msgs.RequestParts hash.0 (used start1.0 end1.0 ++ used start2.0 end2.0 ++ used start3.0 end3.0))

unfoldable pub file_status : List ℕ → Result PeerMsg MsgFault
file_status payload = do
  hash ← field (bytes_at 16 payload)
  count ← field (number_at 2 hash.1)
  bitmap ← field (bytes_at ((count.0 + 7) / 8) count.1)
  Ok (msgs.FileStatus hash.0 count.0 (bits_of count.0 bitmap.0))

unfoldable pub set_answer : List ℕ → Result PeerMsg MsgFault
set_answer payload = do
  hash ← field (bytes_at 16 payload)
  count ← field (number_at 2 hash.1)
  hashes ← field (bytes_at (16 * count.0) count.1)
  Ok (msgs.SetAnswer hash.0 (hashes_of count.0 hashes.0))

unfoldable pub name_answer : List ℕ → Result PeerMsg MsgFault
name_answer payload = do
  hash ← field (bytes_at 16 payload)
  name ← field (counted_at 2 hash.1)
  Ok (msgs.NameAnswer hash.0 name.0)

unfoldable pub long_rank : List ℕ → Result PeerMsg MsgFault
long_rank payload = do
  place ← field (number_at 4 payload)
  Ok (msgs.Rank place.0)

unfoldable pub rank : List ℕ → Result PeerMsg MsgFault
rank payload = do
  place ← field (number_at 2 payload)
  Ok (msgs.Rank place.0)

unfoldable pub aich_request : List ℕ → Result PeerMsg MsgFault
aich_request payload = do
  hash ← field (bytes_at 16 payload)
  part ← field (number_at 2 hash.1)
  root ← field (bytes_at 20 part.1)
  Ok (msgs.AichRequest hash.0 part.0 root.0)

-- a hash alone is a refusal
unfoldable pub aich_answer : List ℕ → Result PeerMsg MsgFault
aich_answer payload = do
  hash ← field (bytes_at 16 payload)
  if length hash.1 == 0 then Ok (msgs.AichRefused hash.0) else do
    part ← field (number_at 2 hash.1)
    root ← field (bytes_at 20 part.1)
    Ok (msgs.AichAnswer hash.0 part.0 root.0 root.1)

unfoldable pub root_answer : List ℕ → Result PeerMsg MsgFault
root_answer payload = do
  hash ← field (bytes_at 16 payload)
  root ← field (bytes_at 20 hash.1)
  Ok (msgs.RootAnswer hash.0 root.0)

-- the messages of the eDonkey protocol
abbrev pub edonkey : ℕ → List ℕ → Result PeerMsg MsgFault
edonkey opcode payload =
    if opcode == 0x01 then greeting payload
    else if opcode == 0x46 then sending_part payload
    else if opcode == 0x47 then request_parts payload
    else if opcode == 0x48 then of_hash msgs.NoFile payload
    else if opcode == 0x4C then hello_answer payload
    else if opcode == 0x4F then of_hash msgs.SetFile payload
    else if opcode == 0x50 then file_status payload
    else if opcode == 0x51 then of_hash msgs.SetRequest payload
    else if opcode == 0x52 then set_answer payload
    else if opcode == 0x54 then of_hash msgs.StartUpload payload
    else if opcode == 0x55 then Ok msgs.Accept
    else if opcode == 0x56 then Ok msgs.Cancel
    else if opcode == 0x57 then Ok msgs.OutOfParts
    else if opcode == 0x58 then of_hash msgs.NameRequest payload
    else if opcode == 0x59 then name_answer payload
    else if opcode == 0x5C then long_rank payload
    else Ok (msgs.Other 0xE3 opcode)

-- the messages of the eMule extension
abbrev pub emule : ℕ → List ℕ → Result PeerMsg MsgFault
emule opcode payload =
    if opcode == 0x40 then Err Compressed
    else if opcode == 0x60 then rank payload
    else if opcode == 0x9B then aich_request payload
    else if opcode == 0x9C then aich_answer payload
    else if opcode == 0x9D then root_answer payload
    else if opcode == 0x9E then of_hash msgs.RootRequest payload
    else Ok (msgs.Other 0xC5 opcode)

abbrev pub message : Frame → Result PeerMsg MsgFault
message frame =
    if frame.protocol == 0xE3 then edonkey frame.opcode frame.payload
    else if frame.protocol == 0xC5 then emule frame.opcode frame.payload
    else Ok (msgs.Other frame.protocol frame.opcode)
