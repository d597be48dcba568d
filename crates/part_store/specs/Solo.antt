-- A part file as the desk of its one peer.
use Rattle.std.specs.Prelude.{ℕ, Bool, if◌then◌else◌}

-- the number of the one peer
abbrev pub solo_number : ℕ
solo_number = 0

-- a store counts one fault once it is broken
abbrev pub faults_of : Bool → ℕ
faults_of broken = if broken then 1 else 0
