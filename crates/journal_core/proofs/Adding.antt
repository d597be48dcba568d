-- A record is added to the log file of a vault.
use Rattle.std.proofs.Common.{◌≡◌, ℕ, ◌+◌, ◌≤◌, List, [], ◌∷◌, ◌++◌, length, Option, Some, None, IfSome, refl, sym, ap, ◌∙◌, subst, inl, arith}
use Rattle.ed2k_outside.specs.Causes.{IfKnown}
use Rattle.ed2k_outside.specs.Crashes.{CrashView, Crashes, IsDurable, Stays, TellsImage, Torn}
use Rattle.ed2k_outside.specs.Files.{Files, InFile, Writes}
use Rattle.ed2k_outside.specs.Runs.{Ran}
use Rattle.ed2k_outside.specs.declared.vault.Which.TheVariants.{Log}
use Rattle.ed2k_outside.proofs.Runs.{ran-now, ran-on, ran-start}
use Rattle.journal_core.specs.Appends.{IsMeant, MayHave}
use Rattle.journal_core.specs.Gates.{EndsAt, Grown}
use Rattle.journal_core.proofs.Gates.{Staged, reaches, torn-behind, torn-gate, written-behind, written-gate}

-- the body is one that a crash might have left before, and the log has P
pub record Beside (before : CrashView) (P : List ℕ → Type 0) (c : Files) : Type 0 where
  pub was : Files
  pub there : before.image was
  pub body : c.body ≡ was.body
  pub log : P c.log

-- by the logs that are told

told-behind : (gate : ℕ) (spelled front : List ℕ) (old new : Option Files) → gate ≡ length front
    → IfSome old (λ f. EndsAt front f.log) → IfKnown (Writes Log (gate + 1) spelled) old new
    → IfSome new (λ f. Staged front spelled f.log)
told-behind gate spelled front old None at ends goes = tt
told-behind gate spelled front None (Some new) at ends goes = absurd (cc)
told-behind gate spelled front (Some old) (Some new) at ends goes =
    subst (λ (l : List ℕ). Staged front spelled l) (sym (ap (λ (f : Files). f.log) goes)) (written-behind front old.log spelled gate at ends)

told-gate : (gate : ℕ) (text front : List ℕ) (old new : Option Files) → gate ≡ length front
    → IfSome old (λ f. Staged front (text ++ 0 ∷ []) f.log) → IfKnown (Writes Log gate (1 ∷ [])) old new
    → IfSome new (λ f. Grown front text f.log)
told-gate gate text front old None at ends goes = tt
told-gate gate text front None (Some new) at ends goes = absurd (cc)
told-gate gate text front (Some old) (Some new) at ends goes =
    subst (λ (l : List ℕ). Grown front text l) (sym (ap (λ (f : Files). f.log) goes)) (written-gate front text old.log gate at ends)

-- what is durable is what is told
pub durable-log : (files : Option Files) (view : CrashView) (P : List ℕ → Type 0) → TellsImage files view → IsDurable Log files view
    → IfSome files (λ f. P f.log) → (c : Files) → view.image c → P c.log
durable-log None view P tells durable told c left = absurd tells
durable-log (Some files) view P tells durable told c left = subst P (sym (durable c left)) told

pub told-place : (gate : ℕ) (front : List ℕ) (files : Option Files) → gate ≡ length front
    → IfSome files (λ f. EndsAt front f.log) → IfSome files (λ f. gate + 1 ≤ length f.log)
told-place gate front None at ends = tt
told-place gate front (Some files) at ends = reaches front files.log gate at ends

pub told-same : (P : List ℕ → Type 0) (old new : Option Files) → new ≡ old → IfSome old (λ f. P f.log) → IfSome new (λ f. P f.log)
told-same P old new same told = subst (λ (o : Option Files). IfSome o (λ f. P f.log)) (sym same) told

-- the record stands behind its gate, after a write and a sync
pub told-staged : (gate : ℕ) (spelled front text : List ℕ) (old mid new : Option Files) → IsMeant gate spelled old front text
    → IfKnown (Writes Log (gate + 1) spelled) old mid → new ≡ mid → IfSome new (λ f. Staged front (text ++ 0 ∷ []) f.log)
told-staged gate spelled front text old mid new m goes same =
    let written : IfKnown (Writes Log (gate + 1) (text ++ 0 ∷ [])) old mid = subst (λ (l : List ℕ). IfKnown (Writes Log (gate + 1) l) old mid) m.closed goes in
    told-same (Staged front (text ++ 0 ∷ [])) mid new same (told-behind gate (text ++ 0 ∷ []) front old mid m.at m.ends written)

-- and then its gate is opened
pub told-grown : (gate : ℕ) (front text : List ℕ) (old mid new : Option Files) → gate ≡ length front
    → IfSome old (λ f. Staged front (text ++ 0 ∷ []) f.log) → IfKnown (Writes Log gate (1 ∷ [])) old mid → new ≡ mid
    → IfSome new (λ f. Grown front text f.log)
told-grown gate front text old mid new at staged goes same = told-same (Grown front text) mid new same (told-gate gate text front old mid at staged goes)

-- the four calls

abbrev pub IsBefore : List ℕ → CrashView → Files → Type 0
IsBefore front view = Beside view (λ log. EndsAt front log)

before-left : (front text : List ℕ) (view : CrashView) (c : Files) → IsBefore front view c → MayHave view front text c
before-left front text view c b = record { was = b.was; there = b.there; body = b.body; log = inl b.log }

module _ (made gate : ℕ) (front text : List ℕ) (old : CrashView) (at : gate ≡ length front) where
  pub first : (n : ℕ) (new : CrashView) → ((c : Files) → old.image c → EndsAt front c.log)
      → Crashes (InFile Log (Torn (gate + 1) n)) made old new → Ran made old new (MayHave old front text) (IsBefore front old)
  first n new ends call =
      ran-on (ran-start made old (MayHave old front text) (IsBefore front old) (λ c left. record { was = c; there = left; body = refl; log = ends c left })) (omega arith) call
      (λ c d b torn. record { was = b.was; there = b.there; body = torn.1 ∙ b.body; log = torn-behind front d.log c.log gate n at b.log torn.0 })
      (before-left front text old)

  pub second : (later : ℕ) (mid new : CrashView) → Ran made old mid (MayHave old front text) (IsBefore front old) → made ≤ later
      → Crashes Stays later mid new → Ran made old new (MayHave old front text) (IsBefore front old)
  second later mid new so le call = ran-on so le call (λ c d b same. subst (IsBefore front old) (sym same) b) (before-left front text old)

  pub ended-before : (new : CrashView) → Ran made old new (MayHave old front text) (IsBefore front old)
      → Ran made old new (MayHave old front text) (MayHave old front text)
  ended-before new so = ran-now so (λ c left b. before-left front text old c b)

  pub third : (later : ℕ) (mid new : CrashView) → Ran made old mid (MayHave old front text) (IsBefore front old) → made ≤ later
      → ((c : Files) → mid.image c → Staged front (text ++ 0 ∷ []) c.log) → Crashes (InFile Log (Torn gate 1)) later mid new
      → Ran made old new (MayHave old front text) (MayHave old front text)
  third later mid new so le staged call =
      let here : Ran made old mid (MayHave old front text) (Beside old (λ log. Staged front (text ++ 0 ∷ []) log)) =
      ran-now so (λ c left b. record { was = b.was; there = b.there; body = b.body; log = staged c left }) in
      ran-on here le call (λ c d b torn. record { was = b.was; there = b.there; body = torn.1 ∙ b.body; log = torn-gate front text d.log c.log gate at b.log torn.0 }) (λ c left. left)

  pub fourth : (later : ℕ) (mid new : CrashView) → Ran made old mid (MayHave old front text) (MayHave old front text) → made ≤ later
      → Crashes Stays later mid new → Ran made old new (MayHave old front text) (MayHave old front text)
  fourth later mid new so le call = ran-on so le call (λ c d b same. subst (MayHave old front text) (sym same) b) (λ c left. left)
