-- What whatever a crash may leave has of the bytes that each recorded event promises.
use Rattle.std.proofs.Common.{◌≡◌, ℕ, Bool, List, [], ◌∷◌, ◌++◌, length, Option, Some, None, IfSome}
use Rattle.ed2k_outside.specs.Crashes.{CrashView, IsDurable}
use Rattle.ed2k_outside.specs.Files.{Files}
use Rattle.ed2k_outside.specs.declared.vault.Which.TheVariants.{Body}
use Rattle.md4_hash.specs.Md4.{md4}
use Rattle.part_hashset.specs.declared.aim.Aim.{Aim}
use Rattle.part_sizes.specs.Part.{part}
use Rattle.part_store.proofs.Carried.{Carries, gains-commit, gains-dropped, gains-hashes, gains-recovered, gains-verdict}
use Rattle.reserve_core.specs.Legal.{Allowed}
use Rattle.reserve_core.specs.declared.event.Event.{Event}
use Rattle.reserve_core.specs.declared.event.Event.TheVariants as event

-- the bytes of each image have what the event promises, where they have what the events before it promise
abbrev pub Gains : ℕ → List Event → Event → Option Files → CrashView → Type 0
Gains n h e files old =
    IfSome files (λ f. (was : Files) → old.image was → Carries n h f.body was.body → Carries n (h ++ e ∷ []) f.body was.body)

-- a Commit, where the body was synced
pub commit-gains : (n : ℕ) (h : List Event) (files : Option Files) (old : CrashView) → IsDurable Body files old → Gains n h event.Commit files old
commit-gains n h None old synced = tt
commit-gains n h (Some f) old synced = λ was there carries. gains-commit n h f.body was.body (synced was there) carries

-- a Verdict, where the digest is the MD4 of the part
pub verdict-gains : (aim : Aim) (h : List Event) (i : ℕ) (d : List ℕ) (files : Option Files) (old : CrashView) → Allowed aim h (event.Verdict i d)
    → IfSome files (λ f. length f.body ≡ aim.size) → IfSome files (λ f. d ≡ md4 (part f.body i)) → Gains aim.size h (event.Verdict i d) files old
verdict-gains aim h i d None old may sized hashed = tt
verdict-gains aim h i d (Some f) old may sized hashed = λ was there carries. gains-verdict aim.size i d h f.body was.body may.full may.committed sized hashed carries

pub hashes-gains : (n : ℕ) (h : List Event) (q : List (List ℕ)) (files : Option Files) (old : CrashView) → Gains n h (event.Hashes q) files old
hashes-gains n h q None old = tt
hashes-gains n h q (Some f) old = λ was there carries. gains-hashes n h q f.body was.body carries

pub dropped-gains : (n : ℕ) (h : List Event) (i : ℕ) (files : Option Files) (old : CrashView) → Gains n h (event.Dropped i) files old
dropped-gains n h i None old = tt
dropped-gains n h i (Some f) old = λ was there carries. gains-dropped n h i f.body was.body carries

pub recovered-gains : (n : ℕ) (h : List Event) (i : ℕ) (kept : List Bool) (files : Option Files) (old : CrashView) → Gains n h (event.Recovered i kept) files old
recovered-gains n h i kept None old = tt
recovered-gains n h i kept (Some f) old = λ was there carries. gains-recovered n h i kept f.body was.body carries
