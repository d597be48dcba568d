-- What a read at a place gives, and the list of the blobs left.
use Rattle.std.specs.Prelude.{◌≡◌, ◌≢◌, ℕ, ◌<◌, List, take, drop, Some, IfOk, slice_get, remove}
use Rattle.std.specs.declared.option.Option.{Option}
use Rattle.std.specs.declared.result.Result.{Result}

-- a read of n bytes gave those that stand from the place on
abbrev pub ReadsAt : {E : Type 0} → List ℕ → ℕ → Result ℕ E → List ℕ → Type 0
ReadsAt bytes at result buf = IfOk result (λ n. take n buf ≡ take n (drop at bytes))

pub record Named : Type 0 where
  pub name : List ℕ
  pub bytes : List ℕ

-- the first blob of that name is given, with its bytes, and leaves the list
pub record Fetches (name : List ℕ) (bytes : Option (List ℕ)) (old new : List Named) : Type 0 where
  pub index : ℕ
  pub found : (blob : Named) × (slice_get old index ≡ Some blob) × (blob.name ≡ name) × (bytes ≡ Some blob.bytes)
  pub is_first : (k : ℕ) (blob : Named) → k < index → slice_get old k ≡ Some blob → blob.name ≢ name
  pub others : new ≡ remove old index

-- no blob has the name
abbrev pub IsAbsent : List ℕ → List Named → Type 0
IsAbsent name blobs = (k : ℕ) (blob : Named) → slice_get blobs k ≡ Some blob → blob.name ≢ name
