-- A reader and the source that it reads.
use Rattle.std.specs.Prelude.{ℕ, ◌+◌, ◌-◌, List, Option, length}
use Rattle.ed2k_outside.specs.declared.halves.Source as source
use Rattle.framed_wire.specs.Intake.{Intake}
use Rattle.framed_wire.specs.declared.reader.Intake as fields

-- how many bytes were taken, those of them that stand in no frame that was given, those that the source has left,
-- where it tells them, and how often a read of it failed
pub record Inlet : Type 0 where
  pub taken : ℕ
  pub unread : List ℕ
  pub left : Option (List ℕ)
  pub faults : ℕ

abbrev pub inlet : {S : Type 0} → source.Ghosts S → S → Intake → Inlet
inlet members source intake = record {
  taken = intake.taken;
  unread = intake.unread;
  left = members.left source;
  faults = members.read_faults source;
}

-- what callers see of a reader's fields
abbrev pub intake_of : fields.Intake → Intake
intake_of intake = record { taken = intake.taken; unread = intake.reader.rest }

-- how many bytes may still come in frames
abbrev pub to_come : ℕ → Intake → ℕ
to_come budget intake = (budget - intake.taken) + length intake.unread
