-- The hashes of a blob.
use Rattle.std.specs.Prelude.{◌≡◌, ℕ, ◌≤◌, List, Err, IfSome}
use Rattle.std.specs.declared.option.Option.{Option}
use Rattle.std.specs.declared.result.Result.{Result}
use Rattle.ed2k_outside.specs.Causes.{Rose}
use Rattle.part_hashset.specs.HashSet.{ed2k, set_of}
use Rattle.blob_hasher.specs.declared.fault.HashFault.{HashFault}
use Rattle.blob_hasher.specs.declared.fault.HashFault.TheVariants.{Blob}
use Rattle.blob_hasher.specs.declared.file.Hashed.{Hashed}

-- the file hash, the hash set and the tree of these bytes
pub record IsHashed (bytes : List ℕ) (hashed : Hashed) : Type 0 where
  pub hash : hashed.hash ≡ ed2k bytes
  pub set : hashed.set ≡ set_of bytes
  pub tree : hashed.tree ≡ bytes

-- those of the bytes that were read, which are the blob's own where it tells them
pub record HashesBlob (own : Option (List ℕ)) (hashed : Hashed) : Type 0 where
  pub bytes : List ℕ
  pub told : IfSome own (λ known. bytes ≡ known)
  pub hashes : IsHashed bytes hashed

-- the count of faults didn't fall, and it rose where the blob is named as the cause
pub record HasBlobCause {T : Type 0} (before now : ℕ) (result : Result T HashFault) : Type 0 where
  pub later : before ≤ now
  pub blob : result ≡ Err Blob → Rose before now
