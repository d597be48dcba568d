-- What the bytes of a log file stand for.
use Rattle.std.specs.Prelude.{◌≡◌, ℕ, List, ◌++◌, length}
use Rattle.part_hashset.specs.declared.aim.Aim.{Aim}
use Rattle.journal_core.specs.Gates.{IsClosed}
use Rattle.journal_core.specs.Headers.{IsHead}
use Rattle.journal_core.specs.Records.{AreSpelled}
use Rattle.journal_core.specs.States.{State, nothing, state_of, AreLegal}
use Rattle.journal_core.specs.declared.header.Header.{Header}
use Rattle.journal_core.specs.declared.record.Record.{Record}

abbrev pub aim_of : Header → Aim
aim_of h = record { size = h.size; hash = h.hash; root = h.root }

-- an open header and open records, ended by the first gate that isn't open, and where that gate stands
pub record Holds (h : Header) (rs : List Record) (gate : ℕ) (log : List ℕ) : Type 0 where
  pub head : List ℕ
  pub front : List ℕ
  pub tail : List ℕ
  pub is_head : IsHead h head
  pub spelled : AreSpelled rs front
  pub closed : IsClosed tail
  pub at : gate ≡ length (head ++ front)
  pub whole : log ≡ (head ++ front) ++ tail

-- the log has this header and legal records, whose fold from the oldest is this state
pub record Stands (h : Header) (log : List ℕ) (s : State) : Type 0 where
  pub records : List Record
  pub gate : ℕ
  pub holds : Holds h records gate log
  pub legal : AreLegal (aim_of h) nothing records
  pub state : state_of h.size records ≡ s
