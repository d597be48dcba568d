-- What a core is seen as, and what its calls say.
use Rattle.std.specs.Prelude.{◌≡◌, ◌≢◌, ℕ, ◌&&◌, Bool, List, [], ◌∷◌, ◌++◌, Some, None, Result, is_ok, if◌then◌else◌, MatchResult}
use Rattle.part_hashset.specs.declared.aim.Aim.{Aim}
use Rattle.reserve_core.specs.Refusals.{refusal}
use Rattle.reserve_core.specs.Events.{events}
use Rattle.reserve_core.specs.Filled.{is_uncommitted}
use Rattle.reserve_core.specs.Held.{is_holder}
use Rattle.reserve_core.specs.declared.event.Entry.{Entry}
use Rattle.reserve_core.specs.declared.event.Event.{Event}
use Rattle.reserve_core.specs.declared.event.Event.TheVariants.{Commit, Release}
use Rattle.reserve_core.specs.declared.fault.DeskFault.{DeskFault}
use Rattle.reserve_core.specs.declared.fault.DeskFault.TheVariants.{NoMemory}

-- the aim, the log, and whether room is taken for one more entry, for one more filled span, and for an entry
-- that reserves up to three spans
pub record Seen : Type 0 where
  pub aim : Aim
  pub log : List Entry
  pub can_add : Bool
  pub can_fill : Bool
  pub can_hold : Bool

-- the number of device calls of the newest entry, or the one given
abbrev pub newest_calls : ℕ → List Entry → ℕ
newest_calls low [] = low
newest_calls low (entry ∷ log) = newest_calls entry.calls log

abbrev pub added : List Entry → ℕ → Event → List Entry
added log calls e = let entry : Entry = record { calls = calls; event = e } in log ++ entry ∷ []

-- a call answers the first refusal of its ask, or that there is no memory, or else Ok
abbrev pub Answers : {T : Type 0} → Seen → Event → Result T DeskFault → Type 0
Answers old ask result =
    MatchResult result
    (λ _. refusal old.aim (events old.log) ask ≡ None)
    (λ fault. fault ≢ NoMemory → refusal old.aim (events old.log) ask ≡ Some fault)

-- a call that needs no memory answers the first refusal of its ask, or else Ok
abbrev pub AnswersByLog : {T : Type 0} → Seen → Event → Result T DeskFault → Type 0
AnswersByLog old ask result =
    MatchResult result
    (λ _. refusal old.aim (events old.log) ask ≡ None)
    (λ fault. refusal old.aim (events old.log) ask ≡ Some fault)

-- the log after a commit: an entry where it is done and something was written since the last one
abbrev pub log_after_commit : Bool → List Entry → ℕ → List Entry
log_after_commit done log calls = if done && is_uncommitted (events log) then added log calls Commit else log

-- the log after a release: an entry where it is done and the peer holds a range
abbrev pub log_after_release : Bool → ℕ → List Entry → ℕ → List Entry
log_after_release done p log calls = if done && is_holder (events log) p then added log calls (Release p) else log

-- a call adds its event where it is Ok, and else leaves the log as it is
abbrev pub Adds : {T : Type 0} → Seen → Seen → ℕ → Event → Result T DeskFault → Type 0
Adds old new calls e result = new.log ≡ (if is_ok result then added old.log calls e else old.log)

-- the call needs no memory
abbrev pub NeedsNone : {T : Type 0} → Result T DeskFault → Type 0
NeedsNone result = MatchResult result (λ _. Unit {0}) (λ fault. fault ≢ NoMemory)
