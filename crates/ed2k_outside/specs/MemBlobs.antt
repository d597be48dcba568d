-- What a blob and a list of blobs in memory hold.
use Rattle.std.specs.Prelude.{ℕ, List, String, map, string_bytes}
use Rattle.ed2k_outside.specs.Blobs.{Named}
use Rattle.ed2k_outside.specs.declared.script.Script.{Script}
use Rattle.ed2k_outside.specs.declared.mem_blobs.MemBlob.{MemBlob}
use Rattle.ed2k_outside.specs.declared.mem_blobs.MemBlobs.{MemBlobs}

abbrev pub blob_bytes : MemBlob → List ℕ
blob_bytes blob = blob.bytes.items

abbrev pub blob_script : MemBlob → Script
blob_script blob = blob.script

abbrev pub blob_count : MemBlob → ℕ
blob_count blob = blob.faults

abbrev pub named : {A : Type 0} → String A × MemBlob → Named
named entry = record { name = string_bytes entry.0; bytes = blob_bytes entry.1 }

abbrev pub named_blobs : {A : Type 0} → List (String A × MemBlob) → List Named
named_blobs entries = map named entries

abbrev pub blobs_list : MemBlobs → List Named
blobs_list blobs = named_blobs blobs.list.items

abbrev pub blobs_count : MemBlobs → ℕ
blobs_count blobs = blobs.faults
