-- What holds of each message, whatever writes and reads it.
use Rattle.std.specs.Prelude.{◌≡◌, ℕ, ◌<◌, ◌≤◌, ◌^◌, List, length, true, Ok}
use Rattle.std.specs.List.{AllByRecursion}
use Rattle.ed2k_frame.specs.declared.frame.Frame.{Frame}
use Rattle.ed2k_tags.specs.Laws.{IsTyped}
use Rattle.search_expr.specs.Laws as exprs
use Rattle.search_expr.specs.Query.{Query, depth, nodes}
use Rattle.server_msgs.specs.declared.msg.Endpoint.{Endpoint}
use Rattle.server_msgs.specs.declared.msg.FileItem.{FileItem}
use Rattle.server_msgs.specs.declared.msg.ServerMsg.{ServerMsg}
use Rattle.server_msgs.specs.declared.msg.ServerMsg.TheVariants as msgs
use Rattle.server_msgs.specs.Reading.{client_message, server_message}
use Rattle.server_msgs.specs.Request.{Request, Login, Offer, Search, Sources, Callback}
use Rattle.server_msgs.specs.Spelling.{protocol_of, opcode_of, payload_of, lengths_fit, HasForm, answer_protocol, answer_opcode, answer_payload, answer_fits, AnswerHasForm}

abbrev pub IsHash : List ℕ → Type 0
IsHash hash = length hash ≡ 16

-- what the type of a file keeps
pub record IsTypedFile (file : FileItem) : Type 0 where
  pub hash : IsHash file.hash
  pub id : file.id < 2 ^ 32
  pub port : file.port < 2 ^ 16
  pub tags : AllByRecursion IsTyped file.tags

-- what the type of an endpoint keeps
abbrev pub IsTypedEndpoint : Endpoint → Type 0
IsTypedEndpoint endpoint = (endpoint.id < 2 ^ 32) × (endpoint.port < 2 ^ 16)

-- what the type of an expression keeps, and the limits of what is read
pub record IsReadable (expr : Query) : Type 0 where
  pub typed : exprs.IsTyped expr
  pub shallow : depth expr ≤ 64
  pub few : nodes expr ≤ 512

-- what the type of a message keeps, and an expression within the limits
abbrev pub IsTypedRequest : Request → Type 0
IsTypedRequest (Login user id port tags) =
    IsHash user × (id < 2 ^ 32) × (port < 2 ^ 16) × AllByRecursion IsTyped tags
IsTypedRequest (Offer files) = AllByRecursion IsTypedFile files
IsTypedRequest (Search expr) = IsReadable expr
IsTypedRequest (Sources hash) = IsHash hash
IsTypedRequest (Callback id) = id < 2 ^ 32
IsTypedRequest _ = Unit {0}

-- what the type of a message keeps
abbrev pub IsTypedAnswer : ServerMsg → Type 0
IsTypedAnswer (msgs.List servers) = AllByRecursion IsTypedEndpoint servers
IsTypedAnswer (msgs.Results files) = AllByRecursion IsTypedFile files
IsTypedAnswer (msgs.Status users files) = (users < 2 ^ 32) × (files < 2 ^ 32)
IsTypedAnswer (msgs.CallbackAsked ip port) = (ip < 2 ^ 32) × (port < 2 ^ 16)
IsTypedAnswer (msgs.IdChange id) = id < 2 ^ 32
IsTypedAnswer (msgs.FoundSources hash list) = IsHash hash × AllByRecursion IsTypedEndpoint list
IsTypedAnswer _ = Unit {0}

-- the frames of messages
abbrev pub request_frame : Request → Frame
request_frame msg =
    record { protocol = protocol_of msg; opcode = opcode_of msg; payload = payload_of msg }

abbrev pub answer_frame : ServerMsg → Frame
answer_frame msg =
    record { protocol = answer_protocol msg; opcode = answer_opcode msg; payload = answer_payload msg }

-- what is written is read again
abbrev pub RequestIsRead : Type 0
RequestIsRead =
    (msg : Request) → IsTypedRequest msg → HasForm msg → lengths_fit msg ≡ true →
    client_message (request_frame msg) ≡ Ok msg

abbrev pub AnswerIsRead : Type 0
AnswerIsRead =
    (msg : ServerMsg) → IsTypedAnswer msg → AnswerHasForm msg → answer_fits msg ≡ true →
    server_message (answer_frame msg) ≡ Ok msg
