-- What hashers were fed of a blob's bytes.
use Rattle.std.specs.Prelude.{◌≡◌, ℕ, ◌+◌, ◌*◌, ◌%◌, ◌≤◌, List, ◌++◌, length, take, drop, IfSome}
use Rattle.std.specs.declared.option.Option.{Option}
use Rattle.part_sizes.specs.declared.part.TheConstants.{PART}
use Rattle.part_sizes.specs.declared.block.TheConstants.{BLOCK}
use Rattle.aich_tree.specs.Leaves.{room_behind}
use Rattle.blob_hasher.specs.declared.part.PartHasher.{PartHasher}
use Rattle.blob_hasher.specs.declared.four_parts.FourParts.{FourParts}
use Rattle.blob_hasher.specs.declared.file.FileHasher.{FileHasher}

-- both hashers of a part were fed these bytes more
pub record Takes (old new : PartHasher) (bytes : List ℕ) : Type 0 where
  pub md4 : new.md4 ≡ old.md4 ++ bytes
  pub size : new.tree.size ≡ old.tree.size
  pub tree : new.tree.fed ≡ old.tree.fed ++ bytes

-- the next block of a part, whose hashers may take it
pub record IsNext (part : PartHasher) (block : List ℕ) : Type 0 where
  pub size : part.tree.size ≡ PART
  pub same : part.md4 ≡ part.tree.fed
  pub begins : length part.md4 % BLOCK ≡ 0
  pub whole : length block ≡ room_behind (length part.md4)
  pub fits : length part.md4 + length block ≤ PART

-- both were fed the first bytes, up to this place, of the part that begins at a place of the blob
pub record IsPart (own : Option (List ℕ)) (start place : ℕ) (part : PartHasher) : Type 0 where
  pub size : part.tree.size ≡ PART
  pub counted : length part.md4 ≡ place
  pub same : part.md4 ≡ part.tree.fed
  pub told : IfSome own (λ bytes. part.md4 ≡ take place (drop start bytes))

-- so it is of each of four parts that follow one another
pub record IsFour (own : Option (List ℕ)) (start place : ℕ) (parts : FourParts) : Type 0 where
  pub first : IsPart own start place parts.first
  pub second : IsPart own (start + PART) place parts.second
  pub third : IsPart own (start + 2 * PART) place parts.third
  pub fourth : IsPart own (start + 3 * PART) place parts.fourth

-- both hashers of a part were fed the same whole part
pub record IsWhole (part : PartHasher) : Type 0 where
  pub same : part.md4 ≡ part.tree.fed
  pub full : length part.md4 ≡ PART

-- the bytes of four parts
abbrev pub all_of : FourParts → List ℕ
all_of parts = parts.first.md4 ++ (parts.second.md4 ++ (parts.third.md4 ++ parts.fourth.md4))

-- both hashers of the file were fed the blob's bytes up to this place
pub record IsFile (own : Option (List ℕ)) (all place : ℕ) (file : FileHasher) : Type 0 where
  pub size : file.tree.size ≡ all
  pub counted : length file.set ≡ place
  pub same : file.set ≡ file.tree.fed
  pub told : IfSome own (λ bytes. file.set ≡ take place bytes)
