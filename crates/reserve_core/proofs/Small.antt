-- Small logs, each computed: two peers and one block, a piece past a held range, a verdict after a write
-- that is not committed.
use Rattle.std.proofs.Common.{◌≡◌, ℕ, true, List, [], ◌∷◌, Some, None, refl}
use Rattle.part_hashset.specs.declared.aim.Aim.{Aim}
use Rattle.part_sizes.specs.Span.{positions}
use Rattle.part_sizes.specs.declared.span.Span.{Span}
use Rattle.reserve_core.specs.Refusals.{refusal}
use Rattle.reserve_core.specs.Choice.{pick_of}
use Rattle.reserve_core.specs.Filled.{first_unfilled}
use Rattle.reserve_core.specs.Held.{left_of}
use Rattle.reserve_core.specs.declared.event.Event.{Event}
use Rattle.reserve_core.specs.declared.event.Event.TheVariants.{Opened, Offer, Reserve, Write, Release, Commit, Verdict, Dropped}
use Rattle.reserve_core.specs.declared.fault.DeskFault.TheVariants.{NoBlock, NotHeld, NotFull, NotCommitted, Already}

abbrev small : Aim
small = record { size = 3; hash = 1 ∷ []; root = None }

abbrev span : ℕ → ℕ → Span
span s e = record { s = s; e = e }

abbrev opened : Event
opened = Opened (record { set = []; filled = []; verdicts = [] })

-- two peers and one block: the first has it, the second gets nothing until it is released
abbrev offered : List Event
offered = opened ∷ Offer 0 (true ∷ []) ∷ Offer 1 (true ∷ []) ∷ []

abbrev held : List Event
held = opened ∷ Offer 0 (true ∷ []) ∷ Offer 1 (true ∷ []) ∷ Reserve 0 (span 0 3 ∷ []) ∷ []

abbrev released : List Event
released = opened ∷ Offer 0 (true ∷ []) ∷ Offer 1 (true ∷ []) ∷ Reserve 0 (span 0 3 ∷ []) ∷ Release 0 ∷ []

first_picks : pick_of 3 offered 0 ≡ span 0 3 ∷ []
unfolding positions
first_picks = refl

second_waits : refusal small held (Reserve 1 []) ≡ Some NoBlock
unfolding positions
second_waits = refl

second_picks : pick_of 3 released 1 ≡ span 0 3 ∷ []
unfolding positions
second_picks = refl

-- a piece of four bytes at the start of a held range of three, and one of another peer
past_the_range : refusal small held (Write 0 (span 0 4)) ≡ Some NotHeld
past_the_range = refl

of_another : refusal small held (Write 1 (span 0 3)) ≡ Some NotHeld
of_another = refl

a_piece : refusal small held (Write 0 (span 0 2)) ≡ None
a_piece = refl

-- a verdict needs a full part that is committed and not judged
abbrev begun : List Event
begun = opened ∷ Reserve 0 (span 0 3 ∷ []) ∷ Write 0 (span 0 2) ∷ []

abbrev written : List Event
written = opened ∷ Reserve 0 (span 0 3 ∷ []) ∷ Write 0 (span 0 2) ∷ Write 0 (span 2 3) ∷ []

abbrev committed : List Event
committed = opened ∷ Reserve 0 (span 0 3 ∷ []) ∷ Write 0 (span 0 3) ∷ Commit ∷ []

abbrev judged : List Event
judged = opened ∷ Write 0 (span 0 3) ∷ Commit ∷ Verdict 0 (2 ∷ []) ∷ []

abbrev dropped : List Event
dropped = opened ∷ Write 0 (span 0 3) ∷ Commit ∷ Verdict 0 (2 ∷ []) ∷ Dropped 0 ∷ []

left_over : left_of begun 0 ≡ span 2 3 ∷ []
left_over = refl

not_full : refusal small begun (Verdict 0 []) ≡ Some (NotFull 2)
unfolding positions
not_full = refl

not_committed : refusal small written (Verdict 0 []) ≡ Some NotCommitted
unfolding positions
not_committed = refl

may_judge : refusal small committed (Verdict 0 []) ≡ None
unfolding positions
may_judge = refl

judged_once : refusal small judged (Verdict 0 []) ≡ Some (Already (2 ∷ []))
unfolding positions
judged_once = refl

may_drop : refusal small judged (Dropped 0) ≡ None
may_drop = refl

opened_again : first_unfilled 3 dropped 0 ≡ Some 0
unfolding positions
opened_again = refl
