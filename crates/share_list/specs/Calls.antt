-- What the calls of a list of shared files do.
use Rattle.std.specs.Prelude.{◌≡◌, ℕ, ◌-◌, ◌≤◌, ◌||◌, false, List, [], ◌∷◌, ◌++◌, length, take, drop, Option, Some, Result, slice_get, slice_set, is_err, IfErr, IfSome, OnOk}
use Rattle.ed2k_outside.specs.Causes.{Rose}
use Rattle.part_hashset.specs.HashSet.{ed2k}
use Rattle.part_sizes.specs.Part.{IsSize}
use Rattle.part_sizes.specs.declared.span.Span.{Span}
use Rattle.share_list.specs.Shares.{Shared, IsShared, IsLater}
use Rattle.share_list.specs.declared.fault.ShareFault.{ShareFault}
use Rattle.share_list.specs.declared.fault.ShareFault.TheVariants.{BadSize, BlobFault, NoMemory}

-- a blob goes by a call: it has the bytes that it had, and its count of faults has not fallen
pub record Stays {B : Type 0} (told : B → Option (List ℕ)) (faults : B → ℕ) (old new : B) : Type 0 where
  pub own : told new ≡ told old
  pub later : faults old ≤ faults new

-- a file of this name and hash stands behind the others; it has the blob's bytes, and no read of it has failed
pub record Adds {B : Type 0} (told : B → Option (List ℕ)) (faults : B → ℕ) (name : List ℕ) (blob : B) (hash : List ℕ) (old new : List (Shared B)) : Type 0 where
  pub file : Shared B
  pub behind : new ≡ old ++ file ∷ []
  pub named : file.name ≡ name
  pub hashed : hash ≡ ed2k file.bytes
  pub stays : Stays told faults blob file.blob
  pub fresh : (file.first ≡ file.blob) × (file.failed ≡ false)
  pub shared : IsShared (told file.blob) (faults file.first) (faults file.blob) file.bytes file.failed

-- a blob is refused: for its size only where a file can't have so many bytes, and with their number; as failed only
-- where its count rose; and for want of memory only where a file can have so many
pub record Refuses {B : Type 0} (told : B → Option (List ℕ)) (faults : B → ℕ) (blob back : B) (fault : ShareFault) : Type 0 where
  pub stays : Stays told faults blob back
  pub size : (n : ℕ) → fault ≡ BadSize n → (¬ IsSize n) × IfSome (told blob) (λ bytes. n ≡ length bytes)
  pub failed : fault ≡ BlobFault → Rose (faults blob) (faults back)
  pub memory : fault ≡ NoMemory → IfSome (told blob) (λ bytes. IsSize (length bytes))

-- A read of a file fills the buffer with the bytes of the span, or the file's blob failed. The file keeps all else, and
-- so do the other files.
pub record Reads {B : Type 0} (told : B → Option (List ℕ)) (faults : B → ℕ) (k : ℕ) (span : Span) (old new : List (Shared B)) (result : Result Unit ShareFault) (buffer : List ℕ) : Type 0 where
  pub file : Shared B
  pub before : slice_get old k ≡ Some file
  pub after : Shared B
  pub others : new ≡ slice_set old k after
  pub content : OnOk result (IfSome (told file.blob) (λ bytes. buffer ≡ take (span.e - span.s) (drop span.s bytes)))
  pub same : IsLater told file after
  pub later : faults file.blob ≤ faults after.blob
  pub failed : after.failed ≡ (file.failed || is_err result)
  pub fault : IfErr result (λ fault. (fault ≡ BlobFault) × Rose (faults file.blob) (faults after.blob))

-- the last file left the list, and its blob was given
pub record Pops {B : Type 0} (old new : List (Shared B)) (blob : B) : Type 0 where
  pub file : Shared B
  pub last : old ≡ new ++ file ∷ []
  pub given : blob ≡ file.blob
