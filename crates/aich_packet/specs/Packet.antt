-- Recovery data of a part under a root.
use Rattle.std.specs.Prelude.{◌≡◌, ◌≢◌, ℕ, ◌<◌, ◌^◌, ◌==◌, List, [], ◌∷◌, ◌++◌, length, map, replicate, unwrap_or, if◌then◌else◌, IsPermutation}
use Rattle.std.specs.List.{All}
use Rattle.aich_tree.specs.Ident.{node}
use Rattle.aich_packet.specs.declared.layout.Pair.{Pair}
use Rattle.aich_packet.specs.Way.{path, leaves_on}
use Rattle.aich_packet.specs.Folding.{folds}
use Rattle.aich_packet.specs.Layout.{spell}

abbrev pub idents_of : List Pair → List ℕ
idents_of pairs = map (λ pair. pair.ident) pairs

-- the hash that pairs give to an identifier, and zeros where it isn't there
abbrev pub hash_of : List Pair → ℕ → List ℕ
hash_of [] ident = replicate 20 0
hash_of (pair ∷ pairs) ident = if pair.ident == ident then pair.hash else hash_of pairs ident

-- a pair that can be spelled
pub record IsPair (pair : Pair) : Type 0 where
  pub ident : pair.ident < 2 ^ 16
  pub hash : length pair.hash ≡ 20

-- The bytes are recovery data of a part, under this root of a file of this size, and these are the hashes
-- of the part's leaves.
pub record Packet (size : ℕ) (root : List ℕ) (part : ℕ) (bytes : List ℕ) (leaves : List (List ℕ)) : Type 0 where
  pub pairs : List Pair
  pub behind : List ℕ
  -- pairs, and then nothing or two bytes and more
  pub spelled : bytes ≡ spell pairs ++ behind
  pub counted : length pairs < 2 ^ 16
  pub each : All IsPair pairs
  pub ended : length behind ≢ 1
  -- those of the part's path, each once, in any order
  pub on_path : IsPermutation (path size part) (idents_of pairs)
  -- they give the root and the leaves
  pub folded : folds size part (hash_of pairs) ≡ root
  pub leaves_are : leaves ≡ map (hash_of pairs) (leaves_on size part)

-- the pairs of a tree over these bytes, in the order of the path
abbrev pub path_pairs : List ℕ → ℕ → List Pair
path_pairs bytes part = map (λ ident. record { ident = ident; hash = unwrap_or (node bytes ident) [] }) (path (length bytes) part)
