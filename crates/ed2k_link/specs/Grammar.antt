-- Which link a text writes, and what is at fault where it writes none.
use Rattle.std.specs.Prelude.{◌≡◌, ℕ, Bool, List, [], drop, length, codes, nat_eq, not, slice_index_or, Option, Some, is_some, if◌then◌else◌, IsTrue}
use Rattle.std.specs.List.{starts_with}
use Rattle.percent_encoding.specs.Percent.{percent_decode}
use Rattle.ed2k_link.specs.declared.fault.LinkFault.{LinkFault}
use Rattle.ed2k_link.specs.declared.fault.LinkFault.TheVariants.{NotFile, BadName, BadSize, BadHash}
use Rattle.ed2k_link.specs.declared.link.FileLink.{FileLink}
use Rattle.ed2k_link.specs.Fields.{hash_of, WriteFields, field_fault}
use Rattle.ed2k_link.specs.Items.{split_at_bars}
use Rattle.ed2k_link.specs.Name.{is_name}
use Rattle.ed2k_link.specs.Size.{size_of}

abbrev pub head : List ℕ
head = codes "ed2k://|file|"

-- the text begins as a link to a file
abbrev pub is_file : List ℕ → Bool
is_file text = starts_with nat_eq text head

-- the items between the bars, behind the head
abbrev pub items_of : List ℕ → List (List ℕ)
items_of text = split_at_bars (drop (length head) text)

-- an item by its place; an item that is missing is bad just where an empty one is
abbrev pub item : List (List ℕ) → ℕ → List ℕ
item items place = slice_index_or items place []

-- the items write the link: the name with its escapes read, the size, the hash, and what follows
pub record Write (items : List (List ℕ)) (link : FileLink) : Type 0 where
  pub file_name : percent_decode (item items 0) ≡ link.name
  pub file_size : size_of (item items 1) ≡ Some link.size
  pub file_hash : hash_of (item items 2) ≡ Some link.hash
  pub rest : WriteFields (drop 3 items) link.parts link.root

-- the first fault of the items
abbrev pub item_fault : List (List ℕ) → Option LinkFault
item_fault items =
    if not (is_name (percent_decode (item items 0))) then Some BadName
    else if not (is_some (size_of (item items 1))) then Some BadSize
    else if not (is_some (hash_of (item items 2))) then Some BadHash
    else field_fault (drop 3 items)

-- the text writes the link
pub record Link (text : List ℕ) (link : FileLink) : Type 0 where
  pub begun : IsTrue (is_file text)
  pub items : Write (items_of text) link

-- the first fault of a text, and none where it writes a link
abbrev pub fault_of : List ℕ → Option LinkFault
fault_of text = if not (is_file text) then Some NotFile else item_fault (items_of text)
