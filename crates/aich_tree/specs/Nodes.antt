-- What a tree keeps of a file's bytes.
use Rattle.std.specs.Prelude.{◌≡◌, ℕ, List, true, length}
use Rattle.part_sizes.specs.Part.{IsSize}
use Rattle.aich_tree.specs.Kept.{kept_of}
use Rattle.aich_tree.specs.Leaves.{leaves_of}
use Rattle.aich_tree.specs.Tree.{tree}

-- the leaves' hashes, and those of the parts and of the nodes above them, of which the root is the last
pub record IsTreeOf (size : ℕ) (leaves kept : List (List ℕ)) (root : List ℕ) (bytes : List ℕ) : Type 0 where
  pub sized : IsSize size
  pub counted : size ≡ length bytes
  pub leaves_are : leaves ≡ leaves_of bytes
  pub kept_are : kept ≡ kept_of bytes true
  pub rooted : root ≡ tree bytes true
