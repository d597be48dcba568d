-- What a payload of a record is read as.
use Rattle.std.specs.Prelude.{◌≡◌, ℕ, ◌<◌, List, length, Option, Some, None}
use Rattle.part_sizes.specs.Block.{block_count}
use Rattle.part_sizes.specs.Part.{data_parts}
use Rattle.journal_core.specs.Records.{IsPayload, kind_of}
use Rattle.journal_core.specs.declared.record.Record.{Record}
use Rattle.journal_core.specs.declared.record.Record.TheVariants.{Recovered}

-- a recovered part of a file of n bytes exists, and has a bit for each of its blocks
abbrev pub BitsFit : ℕ → Record → Type 0
BitsFit n (Recovered i kept) = (i < data_parts n) × (length kept ≡ block_count n i)
BitsFit n _ = Unit {0}

-- a payload of this kind is the record's, in the log of a file of n bytes
pub record Means (n kind : ℕ) (payload : List ℕ) (r : Record) : Type 0 where
  pub kinds : kind_of r ≡ kind
  pub is : IsPayload r payload
  pub bits : BitsFit n r

-- it is this record's, or no record's
abbrev pub IsParsed : ℕ → ℕ → List ℕ → Option Record → Type 0
IsParsed n kind payload (Some r) = Means n kind payload r
IsParsed n kind payload None = (r : Record) → Means n kind payload r → ⊥
