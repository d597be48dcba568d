-- The kept set, verdicts, worn parts, and peers that cheated.
use Rattle.std.specs.Prelude.{ℕ, Bool, false, not, ◌&&◌, ◌||◌, ◌-◌, List, [], ◌∷◌, ◌++◌, nat_le, ◌==◌, get_or, Option, Some, None, unwrap_or, find, is_none, count_by}
use Rattle.std.specs.Bool.{then_some}
use Rattle.std.specs.List.{list_any, list_all, range_with_len}
use Rattle.part_hashset.specs.Goals.{digest_in, fails, goal_in, is_nil, is_wanted, passes}
use Rattle.part_hashset.specs.declared.aim.Aim.{Aim}
use Rattle.part_sizes.specs.Block.{block_count, block_range}
use Rattle.part_sizes.specs.Part.{data_parts}
use Rattle.part_sizes.specs.Span.{has, positions}
use Rattle.part_sizes.specs.declared.part.TheConstants.{PART}
use Rattle.reserve_core.specs.Events.{latest}
use Rattle.reserve_core.specs.Filled.{is_full}
use Rattle.reserve_core.specs.declared.event.Event.{Event}
use Rattle.reserve_core.specs.declared.event.Event.TheVariants.{Opened, Hashes, Write, Verdict, Recovered, Dropped}

-- the parts that hold bytes
abbrev pub parts : ℕ → List ℕ
parts n = range_with_len 0 (data_parts n)

-- these from a number on
abbrev pub parts_from : ℕ → ℕ → List ℕ
parts_from n from = range_with_len from (data_parts n - from)

-- the kept set is that of the Hashes event, else that of the Opened; the empty set is none
abbrev pub set_by : Event → Option (List (List ℕ))
set_by (Opened o) = Some o.set
set_by (Hashes q) = Some q
set_by _ = None

abbrev pub kept_set : List Event → List (List ℕ)
kept_set h = unwrap_or (latest set_by h) []

-- a set is needed from one part on
abbrev pub lacks_set : ℕ → List Event → Bool
lacks_set n h = nat_le PART n && is_nil (kept_set h)

-- the digest that a part is to have, by the kept set
abbrev pub goal : Aim → List Event → ℕ → Option (List ℕ)
goal aim h i = goal_in aim (kept_set h) i

-- the verdict of a part is the digest of its newest Verdict, one of an Opened included, that no Recovered
-- or Dropped of the part follows
abbrev pub verdict_by : ℕ → Event → Option (Option (List ℕ))
verdict_by i (Opened o) = Some (digest_in o.verdicts i)
verdict_by i (Verdict j d) = then_some (j == i) (Some d)
verdict_by i (Recovered j kept) = then_some (j == i) None
verdict_by i (Dropped j) = then_some (j == i) None
verdict_by i _ = None

abbrev pub verdict_of : List Event → ℕ → Option (List ℕ)
verdict_of h i = unwrap_or (latest (verdict_by i) h) None

-- a part is verified where its verdict is the goal, and failed where there is another verdict
abbrev pub is_verified : Aim → List Event → ℕ → Bool
is_verified aim h i = passes (goal aim h i) (verdict_of h i)

abbrev pub is_failed : Aim → List Event → ℕ → Bool
is_failed aim h i = fails (goal aim h i) (verdict_of h i)

-- a part waits to be judged where it is full and has no verdict
abbrev pub is_unjudged : ℕ → List Event → ℕ → Bool
is_unjudged n h i = is_full n h i && is_none (verdict_of h i)

-- the least part of these kinds at or above a number
abbrev pub next_failed : Aim → List Event → ℕ → Option ℕ
next_failed aim h from = find (is_failed aim h) (parts_from aim.size from)

abbrev pub next_unjudged : ℕ → List Event → ℕ → Option ℕ
next_unjudged n h from = find (is_unjudged n h) (parts_from n from)

-- a part is worn where at least eight Verdict events of it have another digest than the goal
abbrev pub is_failure : Option (List ℕ) → ℕ → Event → Bool
is_failure wanted i (Verdict j d) = (j == i) && not (is_wanted wanted d)
is_failure wanted i _ = false

abbrev pub is_worn : Aim → List Event → ℕ → Bool
is_worn aim h i = nat_le 8 (count_by (is_failure (goal aim h i) i) h)

-- who wrote last over a position
abbrev pub writer_by : ℕ → Event → Option ℕ
writer_by x (Write p r) = then_some (has r x) p
writer_by x _ = None

abbrev pub is_writer : ℕ → Option ℕ → Bool
is_writer p None = false
is_writer p (Some q) = q == p

abbrev pub wrote_last : List Event → ℕ → ℕ → Bool
wrote_last h p x = is_writer p (latest (writer_by x) h)

-- The event is a Recovered that leaves out a block, and before it the newest Write over each position of
-- the block is by the peer.
abbrev pub opens_own : ℕ → List Event → ℕ → Event → Bool
opens_own n before p (Recovered i kept) =
    list_any
    (λ k. not (get_or kept k false) && list_all (wrote_last before p) (positions (block_range n i k)))
    (range_with_len 0 (block_count n i))
opens_own n before p _ = false

-- a peer has cheated where some Recovered opened a block that it had written whole
abbrev pub cheats_after : ℕ → ℕ → List Event → List Event → Bool
cheats_after n p before [] = false
cheats_after n p before (e ∷ h) = opens_own n before p e || cheats_after n p (before ++ e ∷ []) h

abbrev pub cheats : ℕ → List Event → ℕ → Bool
cheats n h p = cheats_after n p [] h
