-- Every earlier moment of a disk in memory.
use Rattle.std.specs.Prelude.{List, map}
use Rattle.vault_sim.specs.Disks.{moment_of}
use Rattle.vault_sim.specs.Images.{Moment}
use Rattle.vault_sim.specs.declared.past.Past.{Past}

-- the moment before each call, the newest first
abbrev pub moments : Past → List Moment
moments past = map (λ snapshot. moment_of snapshot.value) past.disks.items
