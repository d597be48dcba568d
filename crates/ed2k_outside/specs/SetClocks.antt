-- The seconds that a set clock is to answer.
use Rattle.std.specs.Prelude.{ℕ, List, drop}
use Rattle.ed2k_outside.specs.declared.set_clock.SetClock.{SetClock}

abbrev pub clock_ticks : SetClock → List ℕ
clock_ticks clock = drop clock.next clock.seconds.items
