-- What holds of every legal log.
use Rattle.std.specs.Prelude.{◌≡◌, ℕ, List, IsTrue}
use Rattle.part_hashset.specs.declared.aim.Aim.{Aim}
use Rattle.reserve_core.specs.Events.{events}
use Rattle.reserve_core.specs.Held.{holds}
use Rattle.reserve_core.specs.Legal.{IsLegal}
use Rattle.reserve_core.specs.declared.event.Entry.{Entry}

-- two peers that hold one position are one peer
abbrev pub NoPositionIsHeldTwice : Type 0
NoPositionIsHeldTwice =
    (aim : Aim) (log : List Entry) (p q x : ℕ) → IsLegal aim log
    → IsTrue (holds (events log) p x) → IsTrue (holds (events log) q x) → p ≡ q
