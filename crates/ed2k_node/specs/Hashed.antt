-- What `hash` says of a blob.
use Rattle.std.specs.Prelude.{◌≡◌, ℕ, List, [], length, true, Err, Some, IfSome}
use Rattle.std.specs.declared.option.Option.{Option}
use Rattle.std.specs.declared.result.Result.{Result}
use Rattle.aich_tree.specs.Tree.{tree}
use Rattle.ed2k_link.specs.Printed.{printed}
use Rattle.ed2k_link.specs.declared.link.FileLink.{FileLink}
use Rattle.ed2k_outside.specs.Blobs.{Named, Fetches}
use Rattle.ed2k_outside.specs.Causes.{IfKnown}
use Rattle.part_hashset.specs.HashSet.{ed2k}
use Rattle.part_sizes.specs.Part.{IsSize}
use Rattle.ed2k_node.specs.Texts.{line}
use Rattle.ed2k_node.specs.declared.hash_command.Digest.{Digest}
use Rattle.blob_hasher.specs.declared.fault.HashFault.{HashFault}
use Rattle.blob_hasher.specs.declared.fault.HashFault.TheVariants.{BadSize}

-- the size and the hashes of these bytes
pub record IsDigest (bytes : List ℕ) (digest : Digest) : Type 0 where
  pub sized : digest.size ≡ length bytes
  pub hashed : digest.hash ≡ ed2k bytes
  pub rooted : digest.root ≡ tree bytes true

-- the size and the hashes of the bytes that were read, which are the blob's own where it tells them
pub record DigestsBlob (own : Option (List ℕ)) (digest : Digest) : Type 0 where
  pub bytes : List ℕ
  pub told : IfSome own (λ known. bytes ≡ known)
  pub digests : IsDigest bytes digest

-- the same of the blob that was fetched by the name
pub record DigestsFetched (name : List ℕ) (old new : Option (List Named)) (digest : Digest) : Type 0 where
  pub bytes : List ℕ
  pub fetched : IfKnown (Fetches name (Some bytes)) old new
  pub digests : IsDigest bytes digest

-- the link names the bytes by their name, size, hash and root
pub record IsLinkOf (file_name : List ℕ) (bytes : List ℕ) (link : FileLink) : Type 0 where
  pub named : link.name ≡ file_name
  pub sized : link.size ≡ length bytes
  pub hashed : link.hash ≡ ed2k bytes
  pub without_parts : link.parts ≡ []
  pub rooted : link.root ≡ Some (tree bytes true)

-- the text is the line with the canonical link of the bytes that the blob fetched by the name has
pub record HashesBlob (name : List ℕ) (old new : Option (List Named)) (text : List ℕ) : Type 0 where
  pub bytes : List ℕ
  pub fetched : IfKnown (Fetches name (Some bytes)) old new
  pub link : FileLink
  pub describes : IsLinkOf name bytes link
  pub says : text ≡ line (printed link)

-- the blob fetched by the name has no bytes, or more than a file may have
pub record FetchesUnfit (name : List ℕ) (old new : List Named) : Type 0 where
  pub bytes : List ℕ
  pub fetched : Fetches name (Some bytes) old new
  pub unfit : ¬ IsSize (length bytes)

-- the blob tells that it has no bytes, or more than a file may have
abbrev pub IsUnfit : Option (List ℕ) → Type 0
IsUnfit own = IfSome own (λ bytes. ¬ IsSize (length bytes))

-- a size is refused only where the blob fetched by the name is unfit
abbrev pub RefusesUnfit : {T : Type 0} → List ℕ → Option (List Named) → Option (List Named) → Result T HashFault → Type 0
RefusesUnfit name old new result = result ≡ Err BadSize → IfKnown (FetchesUnfit name) old new
