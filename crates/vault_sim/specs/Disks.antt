-- The disk that a vault in memory keeps.
use Rattle.std.specs.Prelude.{◌<◌, ℕ, List, vec_len}
use Rattle.std.specs.Vec.{vec_capacity}
use Rattle.ed2k_outside.specs.Files.{Files}
use Rattle.ed2k_outside.specs.declared.vault.Which.{Which}
use Rattle.ed2k_outside.specs.declared.vault.Which.TheVariants.{Body, Log}
use Rattle.vault_sim.specs.Images.{Moment, Unsettled}
use Rattle.vault_sim.specs.Steps.{asked_of, unmade}
use Rattle.vault_sim.specs.declared.disk.Contents.{Contents}
use Rattle.vault_sim.specs.declared.disk.Disk.{Disk}
use Rattle.vault_sim.specs.declared.disk_file.DiskFile.{DiskFile}

abbrev pub file_bytes : DiskFile → List ℕ
file_bytes file = file.bytes.items

abbrev pub unsettled : DiskFile → Unsettled
unsettled file = record { base = unmade file.steps.items file.bytes.items; asked = asked_of file.steps.items }

-- a call more can be noted without memory
abbrev pub HasRoom : DiskFile → Type 0
HasRoom file = vec_len file.steps < vec_capacity file.steps

abbrev pub file_at : Which → Disk → DiskFile
file_at Body disk = disk.body
file_at Log disk = disk.log

abbrev pub disk_files : Disk → Files
disk_files disk = record { body = file_bytes disk.body; log = file_bytes disk.log }

abbrev pub contents : Contents → Files
contents bytes = record { body = bytes.body.items; log = bytes.log.items }

abbrev pub moment_of : Disk → Moment
moment_of disk = record { made = disk.made; body = unsettled disk.body; log = unsettled disk.log }
