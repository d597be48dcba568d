-- The first thing that is wrong with recovery data.
use Rattle.std.specs.Prelude.{ℕ, ◌==◌, List, [], ◌∷◌, ◌++◌, length, Bool, Option, Some, None, option_map, not, if◌then◌else◌}
use Rattle.std.specs.List.{list_any, find}
use Rattle.std.specs.Str.{bytes_eq}
use Rattle.aich_packet.specs.declared.fault.PacketFault.{PacketFault}
use Rattle.aich_packet.specs.declared.fault.PacketFault.TheVariants.{Cut, Count, Twice, WrongIdent, RootDiffers}
use Rattle.aich_packet.specs.declared.layout.Pair.{Pair}
use Rattle.aich_packet.specs.Way.{path}
use Rattle.aich_packet.specs.Folding.{folds}
use Rattle.aich_packet.specs.Layout.{is_cut, pairs_of, count_of}
use Rattle.aich_packet.specs.Packet.{idents_of, hash_of}

-- whether an identifier is one of these
abbrev pub is_among : List ℕ → ℕ → Bool
is_among idents ident = list_any (λ other. other == ident) idents

-- the first that stands among those before it
abbrev pub first_twice : List ℕ → List ℕ → Option ℕ
first_twice before [] = None
first_twice before (ident ∷ idents) =
    if is_among before ident then Some ident else first_twice (before ++ ident ∷ []) idents

-- the first that isn't on a path
abbrev pub first_wrong : List ℕ → List ℕ → Option ℕ
first_wrong on idents = find (λ ident. not (is_among on ident)) idents

-- the first of two
abbrev pub or_else : Option PacketFault → Option PacketFault → Option PacketFault
or_else None second = second
or_else (Some fault) second = Some fault

abbrev pub root_fault : List ℕ → List ℕ → Option PacketFault
root_fault found root = if bytes_eq found root then None else Some (RootDiffers found)

-- what is wrong with the identifiers of pairs that are as many as those of a path
abbrev pub idents_fault : List ℕ → List Pair → Option PacketFault
idents_fault on pairs =
    or_else (option_map Twice (first_twice [] (idents_of pairs)))
    (option_map WrongIdent (first_wrong on (idents_of pairs)))

-- what is wrong with such pairs
abbrev pub pairs_fault : ℕ → List ℕ → ℕ → List Pair → Option PacketFault
pairs_fault size root part pairs =
    or_else (idents_fault (path size part) pairs) (root_fault (folds size part (hash_of pairs)) root)

abbrev pub packet_fault : ℕ → List ℕ → ℕ → List ℕ → Option PacketFault
packet_fault size root part bytes =
    if is_cut bytes then Some Cut
    else if not (count_of bytes == length (path size part)) then Some (Count (count_of bytes) (length (path size part)))
    else pairs_fault size root part (pairs_of bytes)
