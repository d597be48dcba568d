-- What the answers of the calls below give, for what a part file keeps.
use Rattle.std.proofs.Common.{◌≡◌, ℕ, ◌+◌, ◌<◌, ◌^◌, Bool, true, false, List, length, Option, Some, None, Result, Ok, Err, is_ok, is_err, IfSome, IsTrue, OnOk, OnErr, MatchResult, if◌then◌else◌, refl, ap, ◌∙◌}
use Rattle.ed2k_outside.specs.Crashes.{CrashView, IsDurable}
use Rattle.ed2k_outside.specs.Files.{Files}
use Rattle.ed2k_outside.specs.declared.vault.Which.TheVariants.{Log}
use Rattle.journal_core.specs.Appends.{IsMeant}
use Rattle.journal_core.specs.Gates.{Grown}
use Rattle.part_hashset.specs.declared.aim.Aim.{Aim}
use Rattle.part_store.specs.Body.{body_of}
use Rattle.part_store.proofs.Kept.{clean-of}
use Rattle.part_store.proofs.Recording.{IsAppended}
use Rattle.reserve_core.specs.Events.{events}
use Rattle.reserve_core.specs.Refusals.{refusal}
use Rattle.reserve_core.specs.Seen.{NeedsNone, added}
use Rattle.reserve_core.specs.declared.event.Entry.{Entry}
use Rattle.reserve_core.specs.declared.event.Event.{Event}
use Rattle.reserve_core.specs.declared.fault.DeskFault.{DeskFault}
use Rattle.reserve_core.specs.declared.fault.DeskFault.TheVariants.{NoMemory}

-- the body keeps its size where its bytes stay
pub sized-kept : (n : ℕ) (files now : Option Files) → body_of now ≡ body_of files → IfSome files (λ f. length f.body ≡ n) → IfSome now (λ f. length f.body ≡ n)
sized-kept n files None body sized = tt
sized-kept n None (Some g) body sized = absurd (cc)
sized-kept n (Some f) (Some g) body sized = let same : g.body ≡ f.body = cc in ap length same ∙ sized

-- the core's call adds its entry, where the log tells no refusal
pub adds-ok : {T : Type 0} (cause : Option DeskFault) (r : Result T DeskFault) (old new : List Entry) (calls : ℕ) (e : Event) → cause ≡ None
    → MatchResult r (λ _. cause ≡ None) (λ refused. cause ≡ Some refused) → new ≡ (if is_ok r then added old calls e else old) → new ≡ added old calls e
adds-ok cause (Ok x) old new calls e none answer log = log
adds-ok cause (Err refused) old new calls e none answer log = absurd (cc)

-- and where it may want memory, but was made ready
pub adds-ready : {T : Type 0} (cause : Option DeskFault) (r : Result T DeskFault) (old new : List Entry) (calls : ℕ) (e : Event) → cause ≡ None
    → MatchResult r (λ _. cause ≡ None) (λ refused. (refused ≡ NoMemory → ⊥) → cause ≡ Some refused) → NeedsNone r → new ≡ (if is_ok r then added old calls e else old) → new ≡ added old calls e
adds-ready cause (Ok x) old new calls e none answer ready log = log
adds-ready cause (Err refused) old new calls e none answer ready log = let some : cause ≡ Some refused = answer ready in absurd (cc)

-- the same after the core was asked, which leaves its aim and log
pub adds-as : {T : Type 0} (e : Event) (r : Result T DeskFault) (aim now : Aim) (log old new : List Entry) (calls : ℕ) → now ≡ aim → old ≡ log → refusal aim (events log) e ≡ None
    → MatchResult r (λ _. refusal now (events old) e ≡ None) (λ refused. (refused ≡ NoMemory → ⊥) → refusal now (events old) e ≡ Some refused) → NeedsNone r
    → new ≡ (if is_ok r then added old calls e else old) → new ≡ added log calls e
adds-as e r aim now log old new calls aims same none answer ready is =
    let still : refusal now (events old) e ≡ None = ap (λ (a : Aim). refusal a (events old) e) aims ∙ ap (λ (l : List Entry). refusal aim (events l) e) same ∙ none in
    adds-ready (refusal now (events old) e) r old new calls e still answer ready is ∙ ap (λ (l : List Entry). added l calls e) same

-- a call that is refused for want of memory alone, and was made ready, is Ok
pub ok-ready : {T : Type 0} (r : Result T DeskFault) → OnErr r (r ≡ Err NoMemory) → NeedsNone r → is_ok r ≡ true
ok-ready (Ok x) refused ready = refl
ok-ready (Err cause) refused ready = absurd (ready (let same : cause ≡ NoMemory = cc in same))

-- an append that answered Ok
pub appended-of : {T E : Type 0} (r : Result T E) (gate later : ℕ) (spelled : List ℕ) (files now : Option Files) (honest : Bool) (new : CrashView) → is_err r ≡ false
    → OnOk r (later ≡ gate + length spelled) → OnOk r (later + 1 < 2 ^ 64) → ((front text : List ℕ) → IsMeant gate spelled files front text → OnOk r (IfSome now (λ f. Grown front text f.log)))
    → OnOk r (IsTrue honest → IsDurable Log now new) → IsAppended gate later spelled files now honest new
appended-of r gate later spelled files now honest new ok at low grown synced = record {
  at = clean-of r ok at;
  low = clean-of r ok low;
  grown = λ front text m. clean-of r ok (grown front text m);
  synced = clean-of r ok synced;
}
