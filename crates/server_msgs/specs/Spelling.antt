-- The messages with a server, as they are written.
use Rattle.std.specs.Prelude.{◌≡◌, ℕ, ◌<◌, ◌≤◌, ◌^◌, nat_lt, List, [], ◌++◌, Bool, true, length, Ok}
use Rattle.std.specs.List.{flat_map, list_all, AllByRecursion}
use Rattle.byteorder.specs.Endian.{little_bytes}
use Rattle.ed2k_frame.specs.declared.frame.TheConstants.{FRAME_LIMIT}
use Rattle.ed2k_frame.specs.declared.frame.Frame.{Frame}
use Rattle.ed2k_frame.specs.Frame.{IsProtocol, head}
use Rattle.ed2k_tags.specs.declared.tag.Tag.{Tag}
use Rattle.ed2k_tags.specs.declared.read.TheConstants.{TAG_LIMIT}
use Rattle.ed2k_tags.specs.Fields.{counted}
use Rattle.ed2k_tags.specs.Spelling.{spell_tags, has_spelling}
use Rattle.search_expr.specs.Spelling as exprs
use Rattle.server_msgs.specs.declared.fault.MsgTooLong.{MsgTooLong}
use Rattle.server_msgs.specs.declared.fault.MsgTooLong.TheVariants.{Long, NoMemory}
use Rattle.server_msgs.specs.declared.msg.Endpoint.{Endpoint}
use Rattle.server_msgs.specs.declared.msg.FileItem.{FileItem}
use Rattle.server_msgs.specs.declared.msg.ServerMsg.{ServerMsg}
use Rattle.server_msgs.specs.declared.msg.ServerMsg.TheVariants as msgs
use Rattle.server_msgs.specs.Reading.{client_message, server_message}
use Rattle.server_msgs.specs.Request.{Request, Login, ListRequest, Offer, Search, Disconnect, Sources, Callback, More, Other}

-- ---- lists

abbrev pub spell_file : FileItem → List ℕ
spell_file file =
    file.hash ++ little_bytes 4 file.id ++ little_bytes 2 file.port ++ spell_tags file.tags

abbrev pub spell_files : List FileItem → List ℕ
spell_files files = little_bytes 4 (length files) ++ flat_map spell_file files

abbrev pub spell_endpoint : Endpoint → List ℕ
spell_endpoint endpoint = little_bytes 4 endpoint.id ++ little_bytes 2 endpoint.port

abbrev pub spell_endpoints : List Endpoint → List ℕ
spell_endpoints list = little_bytes 1 (length list) ++ flat_map spell_endpoint list

-- each length in a file's tags fits the field before it
abbrev pub fits_file : FileItem → Bool
fits_file file = list_all has_spelling file.tags

-- ---- frames

-- a frame without payload
abbrev pub nothing : ℕ → ℕ → Frame
nothing protocol opcode = record { protocol = protocol; opcode = opcode; payload = [] }

-- how a frame goes over the wire
abbrev pub framed : ℕ → ℕ → List ℕ → List ℕ
framed protocol opcode payload = head protocol opcode (length payload) ++ payload

-- a frame has room for the payload, and each list and text in it fits its count
abbrev pub HasRoom : List ℕ → Bool → Type 0
HasRoom payload fits = (length payload < FRAME_LIMIT) × (fits ≡ true)

-- why it isn't written
abbrev pub IsTooLong : MsgTooLong → List ℕ → Bool → Type 0
IsTooLong (Long n) payload fits = (n ≡ length payload) × ¬ HasRoom payload fits
IsTooLong NoMemory payload fits = Unit {0}

-- ---- from a client

abbrev pub spell_login : List ℕ → ℕ → ℕ → List Tag → List ℕ
spell_login user id port tags = user ++ little_bytes 4 id ++ little_bytes 2 port ++ spell_tags tags

unfoldable pub payload_of : Request → List ℕ
payload_of (Login user id port tags) = spell_login user id port tags
payload_of (Offer files) = spell_files files
payload_of (Search expr) = exprs.spell expr
payload_of (Sources hash) = hash
payload_of (Callback id) = little_bytes 4 id
payload_of _ = []

abbrev pub protocol_of : Request → ℕ
protocol_of (Other protocol opcode) = protocol
protocol_of _ = 0xE3

abbrev pub opcode_of : Request → ℕ
opcode_of (Login user id port tags) = 0x01
opcode_of ListRequest = 0x14
opcode_of (Offer files) = 0x15
opcode_of (Search expr) = 0x16
opcode_of Disconnect = 0x18
opcode_of (Sources hash) = 0x19
opcode_of (Callback id) = 0x1C
opcode_of More = 0x21
opcode_of (Other protocol opcode) = opcode

-- each length fits the field that is written before it
abbrev pub lengths_fit : Request → Bool
lengths_fit (Login user id port tags) = list_all has_spelling tags
lengths_fit (Offer files) = list_all fits_file files
lengths_fit (Search expr) = exprs.texts_fit expr
lengths_fit _ = true

abbrev pub spell_request : Request → List ℕ
spell_request msg = framed (protocol_of msg) (opcode_of msg) (payload_of msg)

-- it can be written, and why not
abbrev pub RequestHasRoom : Request → Type 0
RequestHasRoom msg = HasRoom (payload_of msg) (lengths_fit msg)

abbrev pub RequestIsTooLong : MsgTooLong → Request → Type 0
RequestIsTooLong fault msg = IsTooLong fault (payload_of msg) (lengths_fit msg)

abbrev pub HasFewTags : FileItem → Type 0
HasFewTags file = length file.tags ≤ TAG_LIMIT

-- at most as many files, and tags of each, as are read
abbrev pub AreFew : List FileItem → Type 0
AreFew files = (length files ≤ 10000) × AllByRecursion HasFewTags files

-- the form of each message, lengths apart
abbrev pub HasForm : Request → Type 0
HasForm (Login user id port tags) = length tags ≤ TAG_LIMIT
HasForm (Offer files) = AreFew files
HasForm (Other protocol opcode) =
    IsProtocol protocol
    × (client_message (nothing protocol opcode) ≡ Ok (Other protocol opcode))
HasForm _ = Unit {0}

-- ---- from a server

unfoldable pub answer_payload : ServerMsg → List ℕ
answer_payload (msgs.List servers) = spell_endpoints servers
answer_payload (msgs.Results files) = spell_files files
answer_payload (msgs.Status users files) = little_bytes 4 users ++ little_bytes 4 files
answer_payload (msgs.CallbackAsked ip port) = little_bytes 4 ip ++ little_bytes 2 port
answer_payload (msgs.Text text) = counted 2 text
answer_payload (msgs.IdChange id) = little_bytes 4 id ++ little_bytes 4 0
answer_payload (msgs.FoundSources hash list) = hash ++ spell_endpoints list
answer_payload _ = []

abbrev pub answer_protocol : ServerMsg → ℕ
answer_protocol (msgs.Other protocol opcode) = protocol
answer_protocol _ = 0xE3

abbrev pub answer_opcode : ServerMsg → ℕ
answer_opcode (msgs.List servers) = 0x32
answer_opcode (msgs.Results files) = 0x33
answer_opcode (msgs.Status users files) = 0x34
answer_opcode (msgs.CallbackAsked ip port) = 0x35
answer_opcode msgs.CallbackFailed = 0x36
answer_opcode (msgs.Text text) = 0x38
answer_opcode (msgs.IdChange id) = 0x40
answer_opcode (msgs.FoundSources hash list) = 0x42
answer_opcode (msgs.Other protocol opcode) = opcode

abbrev pub answer_fits : ServerMsg → Bool
answer_fits (msgs.List servers) = nat_lt (length servers) 256
answer_fits (msgs.Results files) = list_all fits_file files
answer_fits (msgs.Text text) = nat_lt (length text) (2 ^ 16)
answer_fits (msgs.FoundSources hash list) = nat_lt (length list) 256
answer_fits _ = true

abbrev pub spell_answer : ServerMsg → List ℕ
spell_answer msg = framed (answer_protocol msg) (answer_opcode msg) (answer_payload msg)

-- it can be written, and why not
abbrev pub AnswerHasRoom : ServerMsg → Type 0
AnswerHasRoom msg = HasRoom (answer_payload msg) (answer_fits msg)

abbrev pub AnswerIsTooLong : MsgTooLong → ServerMsg → Type 0
AnswerIsTooLong fault msg = IsTooLong fault (answer_payload msg) (answer_fits msg)

-- the form of each message, lengths apart
abbrev pub AnswerHasForm : ServerMsg → Type 0
AnswerHasForm (msgs.Results files) = AreFew files
AnswerHasForm (msgs.Other protocol opcode) =
    IsProtocol protocol
    × (server_message (nothing protocol opcode) ≡ Ok (msgs.Other protocol opcode))
AnswerHasForm _ = Unit {0}
