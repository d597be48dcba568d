-- The two files of a vault, and what its calls do to them.
use Rattle.std.specs.Prelude.{◌≡◌, ◌⊎◌, ℕ, ◌+◌, ◌-◌, List, ◌++◌, length, take, drop, replicate}
use Rattle.std.specs.declared.result.Result.{Result}
use Rattle.ed2k_outside.specs.Causes.{CountsCall}
use Rattle.ed2k_outside.specs.declared.vault.Which.{Which}
use Rattle.ed2k_outside.specs.declared.vault.Which.TheVariants.{Body, Log}

pub record Files : Type 0 where
  pub body : List ℕ
  pub log : List ℕ

abbrev pub file_of : Which → Files → List ℕ
file_of Body files = files.body
file_of Log files = files.log

-- the same files, but for this one
abbrev pub with_file : Which → List ℕ → Files → Files
with_file Body bytes files = record files { body = bytes }
with_file Log bytes files = record files { log = bytes }

-- the file with the piece over what it held from the place on
abbrev pub overwritten : List ℕ → ℕ → List ℕ → List ℕ
overwritten file at piece = take at file ++ piece ++ drop (at + length piece) file

-- the file cut to n bytes, or filled up to them with zeros
abbrev pub resized : List ℕ → ℕ → List ℕ
resized file n = take n file ++ replicate (n - length file) 0

abbrev pub Writes : Which → ℕ → List ℕ → Files → Files → Type 0
Writes which at piece old new = new ≡ with_file which (overwritten (file_of which old) at piece) old

abbrev pub Resizes : Which → ℕ → Files → Files → Type 0
Resizes which n old new = new ≡ with_file which (resized (file_of which old) n) old

-- the file has its old length or its new one
abbrev pub MayResize : Which → ℕ → Files → Files → Type 0
MayResize which n old new = (new ≡ old) ⊎ Resizes which n old new

-- one file goes by a step, and the other stays
abbrev pub InFile : Which → (List ℕ → List ℕ → Type 0) → Files → Files → Type 0
InFile Body step old new = step old.body new.body × (new.log ≡ old.log)
InFile Log step old new = step old.log new.log × (new.body ≡ old.body)

-- a read of the body counts as one, a read of the log doesn't
abbrev pub CountsRead : {T E : Type 0} → Which → ℕ → ℕ → Result T E → Type 0
CountsRead Body before now result = CountsCall before now result
CountsRead Log before now result = now ≡ before
