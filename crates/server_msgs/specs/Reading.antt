-- The messages with a server, as they are read. The eMule Protocol Specification (Kulbak, Bickson, 2005), on
-- messages between a client and a server.
use Rattle.std.specs.Prelude.{ℕ, List, Result, Ok, Err, ◌==◌, ◌&&◌, if◌then◌else◌, length}
use Rattle.ed2k_frame.specs.declared.frame.Frame.{Frame}
use Rattle.ed2k_tags.specs.Fields.{number_at, bytes_at, counted_at}
use Rattle.ed2k_tags.specs.Reading.{◌>>=◌, list_at}
use Rattle.search_expr.specs.declared.fault.ExprFault.{ExprFault}
use Rattle.search_expr.specs.Reading.{read_at}
use Rattle.server_msgs.specs.declared.fault.MsgFault.{MsgFault}
use Rattle.server_msgs.specs.declared.fault.MsgFault.TheVariants.{Compressed, BadExpr}
use Rattle.server_msgs.specs.declared.msg.ServerMsg.{ServerMsg}
use Rattle.server_msgs.specs.declared.msg.ServerMsg.TheVariants as msgs
use Rattle.server_msgs.specs.Lists.{field, tagged, files_at, endpoints_at}
use Rattle.server_msgs.specs.Request.{Request, Login, ListRequest, Offer, Search, Disconnect, Sources, Callback, More, Other}

abbrev pub asked : {A : Type 0} → Result A ExprFault → Result A MsgFault
asked (Ok x) = Ok x
asked (Err fault) = Err (BadExpr fault)

-- ---- from a client

unfoldable pub login : List ℕ → Result Request MsgFault
login payload = do
  user ← field (bytes_at 16 payload)
  id ← field (number_at 4 user.1)
  port ← field (number_at 2 id.1)
  tags ← tagged (list_at (length payload) port.1)
  Ok (Login user.0 id.0 port.0 tags.0)

unfoldable pub offer : List ℕ → Result Request MsgFault
offer payload = do
  files ← files_at payload
  Ok (Offer files)

unfoldable pub search : List ℕ → Result Request MsgFault
search payload = do
  found ← asked (read_at payload)
  Ok (Search found.0)

unfoldable pub sources : List ℕ → Result Request MsgFault
sources payload = do
  hash ← field (bytes_at 16 payload)
  Ok (Sources hash.0)

unfoldable pub callback : List ℕ → Result Request MsgFault
callback payload = do
  id ← field (number_at 4 payload)
  Ok (Callback id.0)

abbrev pub request_of : ℕ → List ℕ → Result Request MsgFault
request_of opcode payload =
    if opcode == 0x01 then login payload
    else if opcode == 0x14 then Ok ListRequest
    else if opcode == 0x15 then offer payload
    else if opcode == 0x16 then search payload
    else if opcode == 0x18 then Ok Disconnect
    else if opcode == 0x19 then sources payload
    else if opcode == 0x1C then callback payload
    else if opcode == 0x21 then Ok More
    else Ok (Other 0xE3 opcode)

-- of the eMule extension compressed bytes are refused
abbrev pub client_message : Frame → Result Request MsgFault
client_message frame =
    if frame.protocol == 0xE3 then request_of frame.opcode frame.payload
    else if frame.protocol == 0xC5 && frame.opcode == 0x40 then Err Compressed
    else Ok (Other frame.protocol frame.opcode)

-- ---- from a server

unfoldable pub server_list : List ℕ → Result ServerMsg MsgFault
server_list payload = do
  servers ← endpoints_at payload
  Ok (msgs.List servers)

unfoldable pub results : List ℕ → Result ServerMsg MsgFault
results payload = do
  files ← files_at payload
  Ok (msgs.Results files)

unfoldable pub status : List ℕ → Result ServerMsg MsgFault
status payload = do
  users ← field (number_at 4 payload)
  files ← field (number_at 4 users.1)
  Ok (msgs.Status users.0 files.0)

unfoldable pub callback_asked : List ℕ → Result ServerMsg MsgFault
callback_asked payload = do
  ip ← field (number_at 4 payload)
  port ← field (number_at 2 ip.1)
  Ok (msgs.CallbackAsked ip.0 port.0)

unfoldable pub text : List ℕ → Result ServerMsg MsgFault
text payload = do
  shown ← field (counted_at 2 payload)
  Ok (msgs.Text shown.0)

unfoldable pub id_change : List ℕ → Result ServerMsg MsgFault
id_change payload = do
  id ← field (number_at 4 payload)
  Ok (msgs.IdChange id.0)

unfoldable pub found_sources : List ℕ → Result ServerMsg MsgFault
found_sources payload = do
  hash ← field (bytes_at 16 payload)
  list ← endpoints_at hash.1
  Ok (msgs.FoundSources hash.0 list)

abbrev pub answer_of : ℕ → List ℕ → Result ServerMsg MsgFault
answer_of opcode payload =
    if opcode == 0x32 then server_list payload
    else if opcode == 0x33 then results payload
    else if opcode == 0x34 then status payload
    else if opcode == 0x35 then callback_asked payload
    else if opcode == 0x36 then Ok msgs.CallbackFailed
    else if opcode == 0x38 then text payload
    else if opcode == 0x40 then id_change payload
    else if opcode == 0x42 then found_sources payload
    else Ok (msgs.Other 0xE3 opcode)

abbrev pub server_message : Frame → Result ServerMsg MsgFault
server_message frame =
    if frame.protocol == 0xE3 then answer_of frame.opcode frame.payload
    else if frame.protocol == 0xC5 && frame.opcode == 0x40 then Err Compressed
    else Ok (msgs.Other frame.protocol frame.opcode)
