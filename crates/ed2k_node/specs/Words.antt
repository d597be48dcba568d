-- The words of a command line.
use Rattle.std.specs.declared.alloc.Global.{Global}
use Rattle.std.specs.Prelude.{◌≡◌, ℕ, map, String, string_bytes, if◌then◌else◌, Bool, not, List, [], ◌∷◌, filter, Option, None, Some, MatchOption, nat_eq, codes}
use Rattle.std.specs.Option.{option_and_then, option_map}
use Rattle.std.specs.List.{starts_with}
use Rattle.std.specs.Str.{bytes_eq}
use Rattle.ed2k_outside.specs.declared.addr.Addr.{Addr}
use Rattle.ed2k_link.specs.Prefix.{after_prefix}
use Rattle.ed2k_node.specs.Text.{cut, number_between}
use Rattle.ed2k_node.specs.declared.words.Get.{Get}

-- a word that begins with two dashes is an option, which may stand anywhere after the command
abbrev pub is_option : List ℕ → Bool
is_option word = starts_with nat_eq word (codes "--")

abbrev pub is_plain : List ℕ → Bool
is_plain word = not (is_option word)

abbrev pub octet_of : List ℕ → Option ℕ
octet_of = number_between 0 255

abbrev pub port_of : List ℕ → Option ℕ
port_of = number_between 1 65535

-- `A.B.C.D`
abbrev pub host_of : List ℕ → Option (List ℕ)
host_of text =
    option_and_then (λ (a, bcd).
    option_and_then (λ (b, cd).
    option_and_then (λ (c, d).
    option_and_then (λ first.
    option_and_then (λ second.
    option_and_then (λ third.
    option_map (λ fourth. first ∷ second ∷ third ∷ fourth ∷ [])
    (octet_of d)) (octet_of c)) (octet_of b)) (octet_of a)) (cut 46 cd)) (cut 46 bcd)) (cut 46 text)

-- `A.B.C.D:PORT`
abbrev pub address_of : List ℕ → Option Addr
address_of text =
    option_and_then (λ (host, port).
    option_and_then (λ ip.
    option_map (λ n. record { ip = ip; port = n }) (port_of port)) (host_of host)) (cut 58 text)

-- `--from=A.B.C.D:PORT`
abbrev pub peer_of : List ℕ → Option Addr
peer_of word = option_and_then address_of (after_prefix (codes "--from=") word)

pub record GetWords : Type 0 where
  pub link : List ℕ
  pub place : List ℕ
  pub from : Addr

-- a link, a place that isn't empty, and one peer
abbrev pub download_of : List (List ℕ) → List (List ℕ) → Option GetWords
download_of (link ∷ place ∷ []) (peer ∷ []) =
    if bytes_eq place [] then None
    else option_map (λ from. record { link = link; place = place; from = from }) (peer_of peer)
download_of _ _ = None

abbrev pub asks_of : List (List ℕ) → Option GetWords
asks_of words = download_of (filter is_plain words) (filter is_option words)

-- `get LINK PLACE --from=A.B.C.D:PORT`
abbrev pub get_of : List (List ℕ) → Option GetWords
get_of [] = None
get_of (command ∷ words) = if bytes_eq command (codes "get") then asks_of words else None

-- the words of a command line, as bytes
abbrev pub texts : List (String Global) → List (List ℕ)
texts words = map string_bytes words

-- the words of a `get` that was read
abbrev pub words_of : Get → GetWords
words_of get = record { link = get.link.now; place = get.place.now; from = get.from }

-- this was read of words: a `get`, or that they are none
abbrev pub IsRead : Option Get → Option GetWords → Type 0
IsRead found words = MatchOption found (words ≡ None) (λ get. words ≡ Some (words_of get))
