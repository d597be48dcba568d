-- What the calls of a part file answer, and what they add to its log.
use Rattle.std.specs.Prelude.{◌≡◌, ◌≢◌, ◌⊎◌, ◌↔◌, ℕ, ◌+◌, ◌≤◌, Bool, List, Option, Some, None, Result, Ok, Err, is_ok, IsTrue, IsFalse, IfOk, IfSome, OnOk, OnErr, MatchResult, if◌then◌else◌}
use Rattle.ed2k_outside.specs.Causes.{Rose}
use Rattle.ed2k_outside.specs.Files.{Files}
use Rattle.md4_hash.specs.Md4.{md4}
use Rattle.part_sizes.specs.Part.{part}
use Rattle.part_hashset.specs.declared.aim.Aim.{Aim}
use Rattle.reserve_core.specs.Choice.{pick_of}
use Rattle.reserve_core.specs.Refusals.{refusal}
use Rattle.reserve_core.specs.Desk.{IsRefused, verdict_on}
use Rattle.reserve_core.specs.Events.{events}
use Rattle.reserve_core.specs.Filled.{is_full, is_part_uncommitted}
use Rattle.reserve_core.specs.Seen.{added}
use Rattle.reserve_core.specs.Verdicts.{goal, verdict_of}
use Rattle.reserve_core.specs.declared.event.Entry.{Entry}
use Rattle.reserve_core.specs.declared.event.Event.{Event}
use Rattle.reserve_core.specs.declared.event.Event.TheVariants as event
use Rattle.reserve_core.specs.declared.fault.DeskFault.{DeskFault}
use Rattle.reserve_core.specs.declared.fault.DeskFault.TheVariants.{Broken, Fault}
use Rattle.reserve_core.specs.declared.verdict.Verdict.{Verdict}
use Rattle.reserve_core.specs.declared.verdict.Verdict.TheVariants.{Verified}
use Rattle.part_store.specs.Body.{Stored}

-- no call changes what the part file was made with
abbrev pub IsSame : {V : Type 0} → Stored V → Stored V → Type 0
IsSame old new = (new.aim ≡ old.aim) × (new.initial ≡ old.initial)

-- a call is refused by the first cause that its log tells, or by one from outside
abbrev pub Replies : {T : Type 0} → Aim → List Entry → Event → Result T DeskFault → Type 0
Replies aim log e result =
    MatchResult result
    (λ _. refusal aim (events log) e ≡ None)
    (λ fault. IsRefused (refusal aim (events log) e) fault)

-- a call that is Ok adds its event, with the number of device calls made by then, and a refused one nothing
abbrev pub Logs : {T : Type 0} → List Entry → List Entry → ℕ → Event → Result T DeskFault → Type 0
Logs old new calls e result = new ≡ (if is_ok result then added old calls e else old)

-- Fault comes only where the vault's count rose in the call. The part file is broken from then on, and each
-- call on a broken one, and on no other, is refused so.
pub record Breaks {T : Type 0} (old new : Bool) (before now : ℕ) (result : Result T DeskFault) : Type 0 where
  pub later : before ≤ now
  pub fault : result ≡ Err Fault → Rose before now
  pub broken : (result ≡ Err Broken) ↔ IsTrue old
  pub breaks : IsTrue new ↔ (IsTrue old ⊎ (result ≡ Err Fault))

-- the same of a part file whose vault counts so
abbrev pub BreaksBy : {V T : Type 0} → (V → ℕ) → Stored V → Stored V → Result T DeskFault → Type 0
BreaksBy faults old new result = Breaks old.broken new.broken (faults old.vault) (faults new.vault) result

-- what a part file reserves for a peer
abbrev pub reservation : {V : Type 0} → Stored V → ℕ → Event
reservation file p = event.Reserve p (pick_of file.aim.size (events file.log) p)

-- a call that is refused for another cause than Fault leaves the vault alone
abbrev pub Spares : {V T : Type 0} → V → V → Result T DeskFault → Type 0
Spares old new result = OnErr result (result ≢ Err Fault → new ≡ old)

-- the vault is called once where the call is Ok, at most once where it is a Fault, and else not at all
pub record CallsOnce {V T : Type 0} (made : V → ℕ) (old new : V) (result : Result T DeskFault) : Type 0 where
  pub at_most_once : made new ≤ made old + 1
  pub once : OnOk result (made new ≡ made old + 1)
  pub spared : Spares old new result

-- the body was read as often as the vault was called, so nothing else was called
abbrev pub OnlyReads : {V : Type 0} → (V → ℕ) → (V → ℕ) → V → V → Type 0
OnlyReads made body_reads old new = made new + body_reads old ≡ made old + body_reads new

-- a part is judged by a digest, which is the MD4 of its bytes in the body where the vault tells them
pub record Judges (aim : Aim) (i : ℕ) (files : Option Files) (calls : ℕ) (old new : List Entry) (result : Result Verdict DeskFault) : Type 0 where
  pub digest : List ℕ
  pub hashed : IfSome files (λ files. IfOk result (λ _. digest ≡ md4 (part files.body i)))
  pub log : Logs old new calls (event.Verdict i digest) result
  pub verdict : IfOk result (λ verdict. verdict ≡ verdict_on aim (events old) i digest)

-- a part passes: it is full, committed and not yet judged, and the MD4 of its bytes is the digest that it is
-- to have
pub record Passes (aim : Aim) (h : List Event) (i : ℕ) (body : List ℕ) : Type 0 where
  pub full : IsTrue (is_full aim.size h i)
  pub committed : IsFalse (is_part_uncommitted aim.size h i)
  pub unjudged : verdict_of h i ≡ None
  pub wanted : goal aim h i ≡ Some (md4 (part body i))

-- the verdict is that a part is verified exactly where the file works, the part passes, and its bytes could be read
abbrev pub VerifiesExactly : {V : Type 0} → Stored V → ℕ → List ℕ → Result Verdict DeskFault → Type 0
VerifiesExactly file i body result =
    (result ≡ Ok Verified) ↔ (IsFalse file.broken × Passes file.aim (events file.log) i body × (result ≢ Err Fault))
