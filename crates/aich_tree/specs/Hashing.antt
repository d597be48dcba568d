-- A file's bytes as they come.
use Rattle.std.specs.Prelude.{◌≡◌, ℕ, ◌≤◌, List, length}
use Rattle.sha1.specs.declared.Sha1.{Sha1}
use Rattle.sha1.specs.Sha1.{Holds}
use Rattle.part_sizes.specs.Part.{IsSize}
use Rattle.aich_tree.specs.Leaves.{ended_leaves, open_block}

-- the size of the file, and the bytes fed so far
pub record Hashing : Type 0 where
  pub size : ℕ
  pub fed : List ℕ

-- the leaves that have ended, and a hasher of the block that is open
pub record HoldsLeaves (leaves : List (List ℕ)) (block : Sha1) (bytes : List ℕ) : Type 0 where
  pub ended : leaves ≡ ended_leaves bytes
  pub opened : Holds block (open_block bytes)

pub record IsHashing (size at : ℕ) (leaves : List (List ℕ)) (block : Sha1) (bytes : List ℕ) : Type 0 where
  pub sized : IsSize size
  pub fits : at ≤ size
  pub counted : at ≡ length bytes
  pub holds : HoldsLeaves leaves block bytes
