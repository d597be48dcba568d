-- The lists that messages carry, read one item after another.
use Rattle.std.specs.Prelude.{ℕ, zero, suc, List, [], ◌∷◌, length, Option, Result, Ok, Err, nat_lt, if◌then◌else◌}
use Rattle.ed2k_tags.specs.declared.fault.TagFault.{TagFault}
use Rattle.ed2k_tags.specs.Fields.{number_at, bytes_at, or}
use Rattle.ed2k_tags.specs.Reading.{◌>>=◌, list_at}
use Rattle.server_msgs.specs.declared.fault.MsgFault.{MsgFault}
use Rattle.server_msgs.specs.declared.fault.MsgFault.TheVariants.{Cut, BadTag}
use Rattle.server_msgs.specs.declared.msg.Endpoint.{Endpoint}
use Rattle.server_msgs.specs.declared.msg.FileItem.{FileItem}

-- a field, or Cut where the payload ends within it
abbrev pub field : {A : Type 0} → Option A → Result A MsgFault
field found = or Cut found

abbrev pub tagged : {A : Type 0} → Result A TagFault → Result A MsgFault
tagged (Ok x) = Ok x
tagged (Err fault) = Err (BadTag fault)

-- so many items, one after another
abbrev pub Reader : Type 0 → Type 0
Reader A = List ℕ → Result (A × List ℕ) MsgFault

unfoldable pub each_from : {A : Type 0} → Reader A → ℕ → Reader (List A)
each_from item zero bytes = Ok ([], bytes)
each_from item (suc count) bytes = do
  first ← item bytes
  others ← each_from item count first.1
  Ok (first.0 ∷ others.0, others.1)

-- a file, in bytes that end at a place
unfoldable pub file_at : ℕ → List ℕ → Result (FileItem × List ℕ) MsgFault
file_at end bytes = do
  hash ← field (bytes_at 16 bytes)
  id ← field (number_at 4 hash.1)
  port ← field (number_at 2 id.1)
  tags ← tagged (list_at end port.1)
  Ok (record { hash = hash.0; id = id.0; port = port.0; tags = tags.0 }, tags.1)

-- a count of four bytes, which the limit bounds, and as many files
unfoldable pub files_at : List ℕ → Result (List FileItem) MsgFault
files_at payload = do
  count ← field (number_at 4 payload)
  if nat_lt 10000 count.0 then Err Cut else do
    files ← each_from (file_at (length payload)) count.0 count.1
    Ok files.0

unfoldable pub endpoint_at : List ℕ → Result (Endpoint × List ℕ) MsgFault
endpoint_at bytes = do
  id ← field (number_at 4 bytes)
  port ← field (number_at 2 id.1)
  Ok (record { id = id.0; port = port.0 }, port.1)

-- a count of one byte, and as many endpoints
unfoldable pub endpoints_at : List ℕ → Result (List Endpoint) MsgFault
endpoints_at bytes = do
  count ← field (number_at 1 bytes)
  list ← each_from endpoint_at count.0 count.1
  Ok list.0
