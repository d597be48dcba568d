-- The answer of each call after a log. The ask is the event that the call would add.
use Rattle.std.specs.Prelude.{Bool, true, false, not, List, [], ◌∷◌, nat_lt, Option, None, find}
use Rattle.std.specs.Bool.{then_some}
use Rattle.std.specs.Option.{option_map, option_or}
use Rattle.part_hashset.specs.HashSet.{set_fault}
use Rattle.part_hashset.specs.declared.aim.Aim.{Aim}
use Rattle.part_sizes.specs.declared.part.TheConstants.{PART}
use Rattle.part_sizes.specs.declared.span.Span.{Span}
use Rattle.reserve_core.specs.Choice.{pick_of}
use Rattle.reserve_core.specs.Filled.{first_unfilled, is_part_uncommitted}
use Rattle.reserve_core.specs.Held.{may_write}
use Rattle.part_hashset.specs.Goals.{is_nil}
use Rattle.reserve_core.specs.Verdicts.{cheats, is_worn, parts, kept_set, lacks_set, verdict_of, is_failed}
use Rattle.reserve_core.specs.declared.event.Event.{Event}
use Rattle.reserve_core.specs.declared.event.Event.TheVariants.{Hashes, Reserve, Write, Verdict, Recovered, Dropped}
use Rattle.reserve_core.specs.declared.fault.DeskFault.{DeskFault}
use Rattle.reserve_core.specs.declared.fault.DeskFault.TheVariants.{NotNeeded, AlreadySet, Set, Cheat, Worn, NoSet, NoBlock, NotHeld, NotFull, NotCommitted, Already, NotFailed}

-- the first of several causes that applies
abbrev pub first_cause : List (Option DeskFault) → Option DeskFault
first_cause [] = None
first_cause (cause ∷ causes) = option_or cause (first_cause causes)

abbrev pub no_spans : List Span → Bool
no_spans [] = true
no_spans (r ∷ rs) = false

-- Why a call is refused, each cause in its order; `None` where it is Ok. What is not named here is never
-- refused.
abbrev pub refusal : Aim → List Event → Event → Option DeskFault
refusal aim h (Hashes set) =
    first_cause (then_some (nat_lt aim.size PART) NotNeeded ∷ then_some (not (is_nil (kept_set h))) AlreadySet ∷ option_map Set (set_fault aim.size aim.hash set) ∷ [])
refusal aim h (Reserve p spans) =
    first_cause (then_some (cheats aim.size h p) Cheat ∷ option_map Worn (find (is_worn aim h) (parts aim.size)) ∷ then_some (lacks_set aim.size h) NoSet ∷ then_some (no_spans (pick_of aim.size h p)) NoBlock ∷ [])
refusal aim h (Write p r) = then_some (not (may_write h p r)) NotHeld
refusal aim h (Verdict i d) =
    first_cause (option_map NotFull (first_unfilled aim.size h i) ∷ then_some (is_part_uncommitted aim.size h i) NotCommitted ∷ then_some (lacks_set aim.size h) NoSet ∷ option_map Already (verdict_of h i) ∷ [])
refusal aim h (Recovered i kept) = then_some (not (is_failed aim h i)) NotFailed
refusal aim h (Dropped i) = then_some (not (is_failed aim h i)) NotFailed
refusal aim h _ = None
