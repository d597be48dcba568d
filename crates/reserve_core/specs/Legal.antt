-- Which logs are legal.
use Rattle.std.specs.Prelude.{◌≡◌, ◌≢◌, ◌⊎◌, ℕ, ◌+◌, ◌<◌, ◌≤◌, Bool, List, [], ◌∷◌, ◌++◌, length, None, IsTrue, IsFalse, IsSome}
use Rattle.byte_ranges.specs.Spans.{IsApart}
use Rattle.part_hashset.specs.HashSet.{ValidSet}
use Rattle.part_hashset.specs.declared.aim.Aim.{Aim}
use Rattle.part_sizes.specs.Block.{block_count}
use Rattle.part_sizes.specs.Part.{data_parts}
use Rattle.part_sizes.specs.declared.small_lists.Pair.{Pair}
use Rattle.part_sizes.specs.declared.part.TheConstants.{PART}
use Rattle.part_sizes.specs.declared.span.Span.{Span}
use Rattle.reserve_core.specs.Choice.{pick_of}
use Rattle.reserve_core.specs.Events.{events, CallsRise}
use Rattle.reserve_core.specs.Filled.{is_full, is_uncommitted, is_part_uncommitted}
use Rattle.reserve_core.specs.Held.{is_holder, may_write}
use Rattle.reserve_core.specs.Verdicts.{cheats, is_worn, kept_set, lacks_set, goal, verdict_of, is_failed}
use Rattle.reserve_core.specs.declared.event.Entry.{Entry}
use Rattle.reserve_core.specs.declared.event.Event.{Event}
use Rattle.reserve_core.specs.declared.event.Event.TheVariants.{Opened, Hashes, Offer, Reserve, Write, Release, Commit, Verdict, Recovered, Dropped}
use Rattle.reserve_core.specs.declared.event.Opened.{Opened as State}

-- the verdicts ascend by part from the first number on, and each is of a part that exists and is full
abbrev pub AreVerdicts : ℕ → List Event → ℕ → List Pair → Type 0
AreVerdicts n h low [] = Unit {0}
AreVerdicts n h low (pair ∷ pairs) =
    (low ≤ pair.part) × (pair.part < data_parts n) × IsTrue (is_full n h pair.part) × AreVerdicts n h (pair.part + 1) pairs

-- A state of the aim: the set is empty, or it is valid and the size is at least one part; the spans are
-- not empty, ascend, do not touch and lie within the size; the verdicts ascend by part, each is of a part
-- that exists and is full, and there is none where a set is needed and not kept.
pub record IsState (aim : Aim) (o : State) : Type 0 where
  pub set : (o.set ≡ []) ⊎ ((PART ≤ aim.size) × ValidSet aim.size aim.hash o.set)
  pub filled : IsApart 0 (aim.size + 1) o.filled
  pub verdicts : AreVerdicts aim.size (Opened o ∷ []) 0 o.verdicts
  pub unjudged : PART ≤ aim.size → o.set ≡ [] → o.verdicts ≡ []

pub record MayHash (aim : Aim) (h : List Event) (set : List (List ℕ)) : Type 0 where
  pub needed : PART ≤ aim.size
  pub none : kept_set h ≡ []
  pub valid : ValidSet aim.size aim.hash set

pub record MayReserve (aim : Aim) (h : List Event) (p : ℕ) (spans : List Span) : Type 0 where
  pub honest : IsFalse (cheats aim.size h p)
  pub not_worn : (i : ℕ) → i < data_parts aim.size → IsFalse (is_worn aim h i)
  pub set : IsFalse (lacks_set aim.size h)
  pub chosen : spans ≡ pick_of aim.size h p
  pub some : spans ≢ []

pub record MayJudge (aim : Aim) (h : List Event) (i : ℕ) : Type 0 where
  pub exists : i < data_parts aim.size
  pub full : IsTrue (is_full aim.size h i)
  pub committed : IsFalse (is_part_uncommitted aim.size h i)
  pub unjudged : verdict_of h i ≡ None
  pub goal_known : IsSome (goal aim h i)

pub record MayRecover (aim : Aim) (h : List Event) (i : ℕ) (kept : List Bool) : Type 0 where
  pub failed : IsTrue (is_failed aim h i)
  pub bits : length kept ≡ block_count aim.size i

-- what is allowed after the events of a log
abbrev pub Allowed : Aim → List Event → Event → Type 0
Allowed aim h (Opened o) = ⊥
Allowed aim h (Hashes set) = MayHash aim h set
Allowed aim h (Offer p bits) = length bits ≡ data_parts aim.size
Allowed aim h (Reserve p spans) = MayReserve aim h p spans
Allowed aim h (Write p r) = IsTrue (may_write h p r)
Allowed aim h (Release p) = IsTrue (is_holder h p)
Allowed aim h Commit = IsTrue (is_uncommitted h)
Allowed aim h (Verdict i d) = MayJudge aim h i
Allowed aim h (Recovered i kept) = MayRecover aim h i kept
Allowed aim h (Dropped i) = (i < data_parts aim.size) × IsTrue (is_failed aim h i)

-- each event is allowed after those before it
abbrev pub Follows : Aim → List Event → List Event → Type 0
Follows aim before [] = Unit {0}
Follows aim before (e ∷ h) = Allowed aim before e × Follows aim (before ++ e ∷ []) h

-- a log begins with an Opened that is a state of the aim
abbrev pub Opens : Aim → Event → Type 0
Opens aim (Opened o) = IsState aim o
Opens aim _ = ⊥

abbrev pub AreLegal : Aim → List Event → Type 0
AreLegal aim [] = ⊥
AreLegal aim (e ∷ h) = Opens aim e × Follows aim (e ∷ []) h

-- the events are legal, and the numbers of device calls never fall
pub record IsLegal (aim : Aim) (log : List Entry) : Type 0 where
  pub events : AreLegal aim (events log)
  pub calls : CallsRise 0 log
