-- Shared files, and what the calls of their list do.
use Rattle.std.specs.Prelude.{◌≡◌, ℕ, ◌≤◌, Bool, List, length, Option, IsTrue, IfSome}
use Rattle.blob_hasher.specs.Hashes.{IsHashed}
use Rattle.blob_hasher.specs.declared.file.Hashed.{Hashed}
use Rattle.ed2k_outside.specs.Causes.{Rose}
use Rattle.part_sizes.specs.Part.{IsSize}

-- A shared file is seen as its name, the bytes that were hashed, the blob as it was added and as it is now,
-- and whether a read has failed since.
pub record Shared (B : Type 0) : Type 0 where
  pub name : List ℕ
  pub bytes : List ℕ
  pub first : B
  pub blob : B
  pub failed : Bool

-- What every shared file keeps: it has the bytes of a file; where its blob tells its bytes, they are these; the
-- blob's count of faults has not fallen since the file was added, and where a read has failed it rose.
pub record IsShared (own : Option (List ℕ)) (first_faults faults : ℕ) (bytes : List ℕ) (failed : Bool) : Type 0 where
  pub size : IsSize (length bytes)
  pub told : IfSome own (λ known. bytes ≡ known)
  pub later : first_faults ≤ faults
  pub failed_read : IsTrue failed → Rose first_faults faults

-- and it keeps their size and their hashes
pub record Keeps (size : ℕ) (hashed : Hashed) (own : Option (List ℕ)) (first_faults faults : ℕ) (failed : Bool) : Type 0 where
  pub shared : IsShared own first_faults faults hashed.tree failed
  pub counted : size ≡ length hashed.tree
  pub hashes : IsHashed hashed.tree hashed

-- what a read leaves of a file: all but the blob's count, and whether a read has failed
pub record IsLater {B : Type 0} (told : B → Option (List ℕ)) (old new : Shared B) : Type 0 where
  pub name : new.name ≡ old.name
  pub bytes : new.bytes ≡ old.bytes
  pub first : new.first ≡ old.first
  pub own : told new.blob ≡ told old.blob
