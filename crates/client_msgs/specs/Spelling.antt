-- The messages between clients, as they are written.
use Rattle.std.specs.Prelude.{◌≡◌, ℕ, zero, suc, ◌+◌, ◌*◌, ◌/◌, ◌<◌, ◌≤◌, ◌^◌, min, nat_lt, List, [], ◌∷◌, ◌++◌, Bool, true, false, length, replicate, get_or, Ok, if◌then◌else◌}
use Rattle.std.specs.List.{flat_map, list_all, AllByRecursion}
use Rattle.byteorder.specs.Endian.{little_bytes}
use Rattle.part_sizes.specs.declared.span.Span.{Span}
use Rattle.ed2k_frame.specs.declared.frame.TheConstants.{FRAME_LIMIT}
use Rattle.ed2k_frame.specs.Frame.{IsProtocol, head}
use Rattle.ed2k_tags.specs.declared.read.TheConstants.{TAG_LIMIT}
use Rattle.ed2k_tags.specs.Fields.{counted}
use Rattle.ed2k_tags.specs.Spelling.{spell_tags, has_spelling}
use Rattle.client_msgs.specs.declared.fault.MsgTooLong.{MsgTooLong}
use Rattle.client_msgs.specs.declared.fault.MsgTooLong.TheVariants.{Long, NoMemory}
use Rattle.client_msgs.specs.declared.msg.Hello.{Hello}
use Rattle.client_msgs.specs.declared.msg.PeerMsg.{PeerMsg}
use Rattle.client_msgs.specs.declared.msg.PeerMsg.TheVariants as msgs
use Rattle.client_msgs.specs.Reading.{message}

-- what a client says of itself
abbrev pub spell_hello : Hello → List ℕ
spell_hello h =
    h.user ++ little_bytes 4 h.id ++ little_bytes 2 h.port ++ spell_tags h.tags
    ++ little_bytes 4 h.server_ip ++ little_bytes 2 h.server_port

-- the range at a place, where an unused one is 0 to 0
abbrev pub range_at : List Span → ℕ → Span
range_at spans place = get_or spans place (record { s = 0; e = 0 })

-- three numbers of four bytes
abbrev pub three : ℕ → ℕ → ℕ → List ℕ
three a b c = little_bytes 4 a ++ little_bytes 4 b ++ little_bytes 4 c

-- three starts, and then three ends
unfoldable pub ranges : List Span → List ℕ
ranges spans =
    three (range_at spans 0).s (range_at spans 1).s (range_at spans 2).s
    ++ three (range_at spans 0).e (range_at spans 1).e (range_at spans 2).e

-- a bit as a number, and past the end 0
abbrev pub bit_value : List Bool → ℕ → ℕ
bit_value bits place = if get_or bits place false then 1 else 0

-- a byte of eight bits, the lowest first
unfoldable pub byte_of : List Bool → ℕ → ℕ
byte_of bits k =
    bit_value bits (8 * k) + 2 * bit_value bits (8 * k + 1) + 4 * bit_value bits (8 * k + 2)
    + 8 * bit_value bits (8 * k + 3) + 16 * bit_value bits (8 * k + 4) + 32 * bit_value bits (8 * k + 5)
    + 64 * bit_value bits (8 * k + 6) + 128 * bit_value bits (8 * k + 7)

-- the first bytes of a bitmap
abbrev pub bitmap_of : ℕ → List Bool → List ℕ
bitmap_of zero bits = []
bitmap_of (suc n) bits = bitmap_of n bits ++ byte_of bits n ∷ []

abbrev pub bitmap : List Bool → List ℕ
bitmap bits = bitmap_of ((length bits + 7) / 8) bits

-- the payload of each message
unfoldable pub payload_of : PeerMsg → List ℕ
payload_of (msgs.Hello hello) = 0x10 ∷ spell_hello hello
payload_of (msgs.HelloAnswer hello) = spell_hello hello
payload_of (msgs.SendingPart hash start end piece) = hash ++ little_bytes 4 start ++ little_bytes 4 end ++ piece
payload_of (msgs.RequestParts hash spans) = hash ++ ranges spans
payload_of (msgs.NoFile hash) = hash
payload_of (msgs.SetFile hash) = hash
payload_of (msgs.FileStatus hash count bits) = hash ++ little_bytes 2 count ++ bitmap bits
payload_of (msgs.SetRequest hash) = hash
payload_of (msgs.SetAnswer hash set) = hash ++ little_bytes 2 (length set) ++ flat_map (λ (part : List ℕ). part) set
payload_of (msgs.StartUpload hash) = hash
payload_of msgs.Accept = []
payload_of msgs.Cancel = []
payload_of msgs.OutOfParts = []
payload_of (msgs.NameRequest hash) = hash
payload_of (msgs.NameAnswer hash name) = hash ++ counted 2 name
payload_of (msgs.Rank place) = little_bytes 2 (min place 65535) ++ replicate 10 0
payload_of (msgs.AichRequest hash part root) = hash ++ little_bytes 2 part ++ root
payload_of (msgs.AichAnswer hash part root packet) = hash ++ little_bytes 2 part ++ root ++ packet
payload_of (msgs.AichRefused hash) = hash
payload_of (msgs.RootAnswer hash root) = hash ++ root
payload_of (msgs.RootRequest hash) = hash
payload_of (msgs.Other protocol opcode) = []

-- the protocol of each message
abbrev pub protocol_of : PeerMsg → ℕ
protocol_of (msgs.Rank place) = 0xC5
protocol_of (msgs.AichRequest hash part root) = 0xC5
protocol_of (msgs.AichAnswer hash part root packet) = 0xC5
protocol_of (msgs.AichRefused hash) = 0xC5
protocol_of (msgs.RootAnswer hash root) = 0xC5
protocol_of (msgs.RootRequest hash) = 0xC5
protocol_of (msgs.Other protocol opcode) = protocol
protocol_of _ = 0xE3

-- the opcode of each message
abbrev pub opcode_of : PeerMsg → ℕ
opcode_of (msgs.Hello hello) = 0x01
opcode_of (msgs.HelloAnswer hello) = 0x4C
opcode_of (msgs.SendingPart hash start end piece) = 0x46
opcode_of (msgs.RequestParts hash spans) = 0x47
opcode_of (msgs.NoFile hash) = 0x48
opcode_of (msgs.SetFile hash) = 0x4F
opcode_of (msgs.FileStatus hash count bits) = 0x50
opcode_of (msgs.SetRequest hash) = 0x51
opcode_of (msgs.SetAnswer hash set) = 0x52
opcode_of (msgs.StartUpload hash) = 0x54
opcode_of msgs.Accept = 0x55
opcode_of msgs.Cancel = 0x56
opcode_of msgs.OutOfParts = 0x57
opcode_of (msgs.NameRequest hash) = 0x58
opcode_of (msgs.NameAnswer hash name) = 0x59
opcode_of (msgs.Rank place) = 0x60
opcode_of (msgs.AichRequest hash part root) = 0x9B
opcode_of (msgs.AichAnswer hash part root packet) = 0x9C
opcode_of (msgs.AichRefused hash) = 0x9C
opcode_of (msgs.RootAnswer hash root) = 0x9D
opcode_of (msgs.RootRequest hash) = 0x9E
opcode_of (msgs.Other protocol opcode) = opcode

-- the frame of a message
abbrev pub spell_msg : PeerMsg → List ℕ
spell_msg msg = head (protocol_of msg) (opcode_of msg) (length (payload_of msg)) ++ payload_of msg

-- each list fits the count that is written before it
abbrev pub counts_fit : PeerMsg → Bool
counts_fit (msgs.Hello hello) = list_all has_spelling hello.tags
counts_fit (msgs.HelloAnswer hello) = list_all has_spelling hello.tags
counts_fit (msgs.SetAnswer hash set) = nat_lt (length set) (2 ^ 16)
counts_fit (msgs.NameAnswer hash name) = nat_lt (length name) (2 ^ 16)
counts_fit _ = true

-- a frame has room for it, and each of its lists fits its count
abbrev pub HasRoom : PeerMsg → Type 0
HasRoom msg = (length (payload_of msg) < FRAME_LIMIT) × (counts_fit msg ≡ true)

-- why it isn't written
abbrev pub IsTooLong : MsgTooLong → PeerMsg → Type 0
IsTooLong (Long n) msg = (n ≡ length (payload_of msg)) × ¬ HasRoom msg
IsTooLong NoMemory msg = Unit {0}

-- a range that can be asked for: its places fit four bytes, and it isn't 0 to 0
abbrev pub IsRange : Span → Type 0
IsRange span = (span.s < 2 ^ 32) × (span.e < 2 ^ 32) × ¬ ((span.s ≡ 0) × (span.e ≡ 0))

-- the form of each message, lengths apart
abbrev pub HasForm : PeerMsg → Type 0
HasForm (msgs.Hello hello) = length hello.tags ≤ TAG_LIMIT
HasForm (msgs.HelloAnswer hello) = length hello.tags ≤ TAG_LIMIT
HasForm (msgs.SendingPart hash start end piece) = end ≡ start + length piece
HasForm (msgs.RequestParts hash spans) = (length spans ≤ 3) × AllByRecursion IsRange spans
HasForm (msgs.FileStatus hash count bits) = length bits ≡ count
HasForm (msgs.Other protocol opcode) = IsProtocol protocol × (message (record { protocol = protocol; opcode = opcode; payload = [] }) ≡ Ok (msgs.Other protocol opcode))
HasForm _ = Unit {0}
