-- The commands that reach neither the net nor the vault, by their words.
use Rattle.std.specs.Prelude.{◌≡◌, ℕ, ◌&&◌, nat_le, if◌then◌else◌, Bool, List, [], ◌∷◌, length, Option, Some, None, MatchOption, IsTrue, codes}
use Rattle.std.specs.Str.{bytes_eq}
use Rattle.ed2k_link.specs.declared.name.TheConstants.{NAME_LIMIT}
use Rattle.ed2k_node.specs.Words.{is_plain}
use Rattle.ed2k_node.specs.declared.commands.Command.{Command}
use Rattle.ed2k_node.specs.declared.commands.Command.TheVariants.{Hash, Link}

-- what is asked for: the link of the blob of a name, or the canonical form of a link
pub data Asked : Type 0 where
  HashOf : (name : List ℕ) → Asked
  FormOf : (link : List ℕ) → Asked

-- a plain word of 1 byte up to the limit of names
abbrev pub is_blob_name : List ℕ → Bool
is_blob_name word = nat_le 1 (length word) && nat_le (length word) NAME_LIMIT && is_plain word

-- `hash NAME` or `link LINK`
abbrev pub asked_of : List (List ℕ) → Option Asked
asked_of (command ∷ word ∷ []) =
    if bytes_eq command (codes "hash") && is_blob_name word then Some (HashOf word)
    else if bytes_eq command (codes "link") && is_plain word then Some (FormOf word)
    else None
asked_of _ = None

-- it is no blob that is asked for
abbrev pub AsksNoBlob : Option Asked → Type 0
AsksNoBlob (Some (HashOf name)) = ⊥
AsksNoBlob _ = Unit {0}

-- what a command asks for
abbrev pub asked_by : Command → Asked
asked_by (Hash name) = HashOf name.now
asked_by (Link link) = FormOf link.now

-- the name of a command is that of a blob
abbrev pub HasName : Command → Type 0
HasName (Hash name) = IsTrue (is_blob_name name.now)
HasName (Link _) = Unit {0}

-- this was read of words: such a command, or that they are none
abbrev pub IsCommand : Option Command → Option Asked → Type 0
IsCommand found asked = MatchOption found (asked ≡ None) (λ command. asked ≡ Some (asked_by command))
