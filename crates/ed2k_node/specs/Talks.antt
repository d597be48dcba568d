-- What is said of a peer: of one round with it, and of all rounds from its first message on.
use Rattle.std.specs.Prelude.{◌≡◌, true, List, Option}
use Rattle.ed2k_outside.specs.Files.{Files}
use Rattle.part_hashset.specs.declared.aim.Aim.{Aim}
use Rattle.part_store.specs.Body.{Stored}
use Rattle.part_store.specs.Body.{body_of}
use Rattle.peer_fetch.specs.Fetches.{Due, Fetched, Inside, IsToldAs, Standing, Talk, log_alone, standing}
use Rattle.peer_fetch.specs.Linked.{Linked, due_of, outside}
use Rattle.peer_fetch.specs.Moves.{Outside}
use Rattle.ed2k_outside.specs.WireMembers.{WireMembers}
use Rattle.peer_fetch.specs.declared.cause.Cause.{Cause}
use Rattle.peer_fetch.specs.declared.peer_end.PeerEnd.{PeerEnd}
use Rattle.reserve_core.specs.Events.{events}
use Rattle.reserve_core.specs.declared.event.Event.{Event}
use Rattle.ed2k_node.specs.Left.{GoesOn, HasNoFailed, IsComplete, IsSettled}
use Rattle.ed2k_node.specs.declared.rounds.TheConstants.{BUDGET}

-- what stands inside a part file that nobody else uses
abbrev pub inside_file : {V : Type 0} → (V → Option Files) → Stored V → Inside
inside_file files file = record { log = events file.log; alone = true; body = body_of (files file.vault) }

-- where a session stands over a part file
abbrev pub standing_over : {W V : Type 0} → WireMembers W → (V → Option Files) → Linked W → Stored V → Standing
standing_over m files link file = standing (due_of link) (outside m link) (inside_file files file)

-- What a round did: a call of the session, and then what it left was settled. That adds nothing where all is
-- settled and no part is failed, leaves what is verified, and leaves the body.
pub record RunsRound (aim : Aim) (old new : Standing) (met : PeerEnd) : Type 0 where
  pub paused : Inside
  pub fetched : Fetched BUDGET aim 0 old (standing new.due new.outside paused) met
  pub settles : GoesOn paused.log new.inside.log
  pub rests : IsSettled aim paused.log → HasNoFailed aim paused.log → new.inside.log ≡ paused.log
  pub stays : IsComplete aim paused.log → IsComplete aim new.inside.log
  pub body : new.inside.body ≡ paused.body

-- The talk with a peer over all rounds, from where they began on, and what is told of it.
pub record TalksTo (aim : Aim) (old : Standing) (new : Outside) (now : List Event) (met : PeerEnd) : Type 0 where
  pub to : Due
  pub cause : Cause
  pub talk : Talk aim 0 old (standing to new (log_alone now)) cause
  pub told_as : IsToldAs cause met.cause
  pub offered : met.offered ≡ to.offered
