-- What rounds with a peer did, over its link and the part file.
use Rattle.std.specs.Prelude.{◌≡◌, ◌⊎◌, ◌↔◌, ◌&&◌, [], ◌∷◌, ℕ, Bool, List, Some, IfErr, IsFalse, IsTrue, OnOk, is_ok, length, not}
use Rattle.std.specs.List.{list_all}
use Rattle.ed2k_outside.specs.declared.vault.Vault as vault
use Rattle.part_store.specs.Body.{Stored, body_of, log_of}
use Rattle.part_store.specs.Solo.{faults_of}
use Rattle.peer_fetch.specs.Fetches.{over_log}
use Rattle.peer_fetch.specs.Linked.{Linked, outside, wanted_by}
use Rattle.peer_fetch.specs.Machine.{is_ready}
use Rattle.peer_fetch.specs.Moves.{Draws, IsBlamed, Later}
use Rattle.ed2k_outside.specs.WireMembers.{WireMembers}
use Rattle.peer_fetch.specs.declared.cause.Cause.TheVariants as causes
use Rattle.reserve_core.specs.Desk.{own}
use Rattle.reserve_core.specs.Events.{events}
use Rattle.reserve_core.specs.Held.{is_holder}
use Rattle.reserve_core.specs.Legal.{IsLegal}
use Rattle.reserve_core.specs.Moved.{moved}
use Rattle.reserve_core.specs.Verdicts.{is_verified, parts}
use Rattle.reserve_core.specs.declared.fault.DeskFault.TheVariants as faults
use Rattle.ed2k_node.specs.Left.{HasNoFailed, IsComplete, IsSettled}
use Rattle.ed2k_node.specs.Rounds.{Rounds}
use Rattle.ed2k_node.specs.Served.{ServesFile, IsStopped}
use Rattle.ed2k_node.specs.Talks.{RunsRound, TalksTo, inside_file, standing_over}
use Rattle.ed2k_node.specs.declared.rounds.Round.{Round}
use Rattle.ed2k_node.specs.declared.rounds.TheConstants.{BUDGET}

-- A next round is due: the peer is alive, a part isn't verified, the store isn't broken, and since the last round
-- began something was added that gives the peer something to do.
abbrev pub is_due : {V : Type 0} → Round → Stored V → Bool
is_due round file =
    round.end.alive && (is_ok round.settled && (not file.broken
    && (not (list_all (is_verified file.aim (events file.log)) (parts file.aim.size)) && moved file.aim (events file.log) round.from)))

module _ {W V : Type 0} (m : WireMembers W) (v : vault.Ghosts V) (link now : Linked W) (file after : Stored V) (round : Round) where
  -- what rounds leave of the link and the store, and what is seen of the cause
  pub record LeavesFile : Type 0 where
    pub aim : after.aim ≡ file.aim
    pub initial : v.faults after.initial ≡ v.faults file.initial
    pub placed : v.placed after.initial ≡ v.placed file.initial
    pub began : body_of (v.files after.initial) ≡ body_of (v.files file.initial)
    pub log_file : log_of (v.files after.initial) ≡ log_of (v.files file.initial)
    pub settled : OnOk round.settled (IsSettled file.aim (events after.log))
    pub cause : IfErr round.settled (λ fault. (fault ≡ faults.NoMemory) ⊎ IsTrue after.broken)
    pub number : round.end.number ≡ Some 0
    pub asked : round.end.asked.items ≡ []
    pub alive : IsTrue round.end.alive ↔ (round.end.cause ≡ causes.NoBlock)
    pub free : IsFalse after.broken → IsFalse (is_holder (events after.log) 0)
    pub later : Later BUDGET (outside m link) (outside m now)
    pub blame : IsBlamed BUDGET (faults_of after.broken) round.end.cause (outside m link) (outside m now)

  -- one round
  pub record IsRound : Type 0 where
    pub ran : RunsRound file.aim (standing_over m v.files link file) (standing_over m v.files now after) round.end
    pub wanted : wanted_by now ≡ after.aim
    pub ready : is_ready now.at ≡ round.end.alive
    pub reopened : OnOk round.settled (HasNoFailed file.aim (events after.log))
    pub legal : IsLegal file.aim after.log
    pub from : round.from ≡ length file.log
    pub leaves : LeavesFile

  -- the peer serves the file: it is whole where all is verified, and all is, or the session was stopped
  pub record ServesAll (bytes : List ℕ) : Type 0 where
    pub body : IsComplete file.aim (events after.log) → (inside_file v.files after).body ≡ Some bytes
    pub ends : IsStopped round.end.cause ⊎ IsComplete file.aim (events after.log)

  -- all rounds, from the first on
  pub record AreRounds : Type 0 where
    pub talk : TalksTo file.aim (over_log (events file.log) (standing_over m v.files link file)) (outside m now) (events after.log) round.end
    pub due : IsTrue (is_ok round.settled) → IsFalse after.broken → Rounds file.aim after.log (round.end ∷ [])
    pub served : (bytes : List ℕ) → ServesFile file.aim bytes (inside_file v.files file) (outside m link).ahead → ServesAll bytes
    pub owned : (p : ℕ) → (p ≡ 0 → ⊥) → own (events after.log) p ≡ []
    pub draws : Draws (outside m link) (outside m now)
    pub leaves : LeavesFile
