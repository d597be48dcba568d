-- What a part file keeps of its log file as it is made, new or opened again.
use Rattle.std.proofs.Common.{◌≡◌, ℕ, ◌+◌, ◌<◌, ◌^◌, Bool, true, false, List, [], ◌∷◌, ◌++◌, length, Option, Some, None, IfSome, IsTrue, refl, sym, ap, ◌∙◌, subst, inl, inr}
use Rattle.std.specs.List.{list_any}
use Rattle.ed2k_outside.specs.Crashes.{CrashView, IsDurable}
use Rattle.ed2k_outside.specs.Files.{Files}
use Rattle.ed2k_outside.specs.declared.vault.Which.TheVariants.{Log}
use Rattle.journal_core.specs.Fresh.{IsEmptyStore}
use Rattle.journal_core.specs.LogFile.{Stands}
use Rattle.journal_core.specs.States.{State, nothing}
use Rattle.journal_core.specs.declared.header.Header.{Header}
use Rattle.journal_core.proofs.Held.{alike-is}
use Rattle.part_hashset.specs.Goals.{digest_in}
use Rattle.part_hashset.specs.declared.aim.Aim.{Aim}
use Rattle.part_sizes.specs.Span.{has}
use Rattle.part_store.specs.Body.{AreTrue, BeganTrue}
use Rattle.part_store.specs.Durable.{RestsOn, durable}
use Rattle.part_store.specs.Outlasts.{LogKeeps, Outlasts, Outlives, StandsTo, header_of}
use Rattle.part_store.proofs.Carried.{Carries, rests}
use Rattle.part_store.proofs.LogKept.{if-some}
use Rattle.part_store.proofs.Stepping.{cut-added, outlives-here}
use Rattle.reserve_core.specs.Events.{events}
use Rattle.reserve_core.specs.Seen.{added}
use Rattle.reserve_core.specs.declared.event.Entry.{Entry}
use Rattle.reserve_core.specs.declared.event.Event.{Event}
use Rattle.reserve_core.specs.declared.event.Event.TheVariants.{Opened}
use Rattle.reserve_core.specs.declared.event.Opened.{Opened as Start}

-- the state that a log begins with is what a log file stands for
pub record Shows (s : State) (o : Start) : Type 0 where
  pub set : o.set ≡ s.set
  pub filled : (x : ℕ) → list_any (λ r. has r x) o.filled ≡ s.filled x
  pub verdict : (i : ℕ) → digest_in o.verdicts i ≡ s.verdict i

pub shown : (n : ℕ) (s : State) (o : Start) → Shows s o → durable n (Opened o ∷ []) ≡ s
shown n s o shows = alike-is (durable n (Opened o ∷ [])) s (record { set = shows.set; filled = shows.filled; verdict = shows.verdict })

pub empty-shows : (o : Start) → o.set ≡ [] → o.filled ≡ [] → o.verdicts ≡ [] → Shows nothing o
empty-shows o set filled verdicts = record {
  set = set;
  filled = λ x. ap (λ spans. list_any (λ r. has r x) spans) filled;
  verdict = λ i. ap (λ pairs. digest_in pairs i) verdicts;
}

-- what a crash may leave of a store that was just made
pub rests-empty : (header : Header) (o : Start) (body : List ℕ) (c : Files) → durable header.size (Opened o ∷ []) ≡ nothing → IsEmptyStore header c → RestsOn header (Opened o ∷ []) body c
rests-empty header o body c none empty =
    rests
    (subst (λ (s : State). Stands header c.log s) (sym none) empty.0)
    (record {
      sized = empty.1;
      verdicts = λ i d is. absurd (never d (sym (ap (λ (s : State). s.verdict i) none) ∙ is));
      same = λ x here untouched. absurd (shut (sym (ap (λ (s : State). s.filled x) none) ∙ here));
    })
  where
    never : (d : List ℕ) → None ≡ Some d → ⊥
    never d is = cc

    shut : false ≡ true → ⊥
    shut is = cc

-- what a crash may leave of a store that was opened again, both of whose files are as they are read
pub rests-opened : (header : Header) (o : Start) (s : State) (f c : Files) → durable header.size (Opened o ∷ []) ≡ s → Stands header f.log s → length f.body ≡ header.size → AreTrue (Opened o ∷ []) f.body
    → c.log ≡ f.log → c.body ≡ f.body → RestsOn header (Opened o ∷ []) f.body c
rests-opened header o s f c is stands sized true_of log body =
    rests
    (subst (λ (l : List ℕ). Stands header l (durable header.size (Opened o ∷ []))) (sym log) (subst (λ (t : State). Stands header f.log t) (sym is) stands))
    (subst (λ (b : List ℕ). Carries header.size (Opened o ∷ []) f.body b) (sym body) (record { sized = sized; verdicts = true_of; same = λ x here none. refl }))

begun-outlasts : (aim : Aim) (root : Option (List ℕ)) (o : Start) (calls : ℕ) (body : List ℕ) (since : ℕ → Files → Type 0) → ((c : Files) → since calls c → RestsOn (header_of aim root) (Opened o ∷ []) body c)
    → Outlasts aim root (added [] calls (Opened o)) false body since
begun-outlasts aim root o calls body since each = record {
  open_call = [];
  none = λ works. refl;
  allowed = tt;
  survives = λ front entry behind cut c left.
      let last : Entry = record { calls = calls; event = Opened o } in
      let header = header_of aim root in
      elim (cut-added [] last front entry behind cut) [
        | inl older ↦ absurd (no-entry front entry older.before older.cut)
        | inr newest ↦
            let g : Opened o ∷ [] ≡ events (front ++ entry ∷ []) =
            sym (ap (λ (l : List Entry). events (l ++ entry ∷ [])) newest.all ∙ ap (λ (k : Entry). events (k ∷ [])) newest.is) in
            let rest : [] ≡ events behind ++ [] = sym (ap (λ (l : List Entry). events l ++ []) newest.none) in
            subst (λ (r : List Event). Outlives header (events (front ++ entry ∷ [])) r body c) rest
            (subst (λ (h : List Event). Outlives header h [] body c) g (outlives-here header (Opened o ∷ []) body c (each c (subst (λ (k : Entry). since k.calls c) newest.is left))))
      ];
}
  where
    no-entry : (front : List Entry) (entry : Entry) (before : List Entry) → [] ≡ front ++ entry ∷ before → ⊥
    no-entry [] entry before cut = cc
    no-entry (first ∷ front) entry before cut = cc

-- a log that was just opened
pub keeps-begun : (aim : Aim) (root : Option (List ℕ)) (o : Start) (s : State) (gate calls : ℕ) (first : Option (List ℕ)) (files : Option Files) (honest : Bool) (crash : CrashView)
    → durable aim.size (Opened o ∷ []) ≡ s → gate + 1 < 2 ^ 64 → IfSome files (λ f. StandsTo (header_of aim root) f.log s gate) → (IsTrue honest → IsDurable Log files crash)
    → (IsTrue honest → BeganTrue (Opened o ∷ []) first → IfSome files (λ f. (c : Files) → crash.since calls c → RestsOn (header_of aim root) (Opened o ∷ []) f.body c))
    → LogKeeps aim root (added [] calls (Opened o)) gate false first files honest crash
keeps-begun aim root o s gate calls first files honest crash is low stands synced each = record {
  low = λ works. low;
  stands = λ works. if-some files (λ f to. subst (λ (t : State). StandsTo (header_of aim root) f.log t gate) (sym is) to) stands;
  synced = λ works. synced;
  outlasts = λ honest began. if-some files (λ f rests. begun-outlasts aim root o calls f.body crash.since rests) (each honest began);
}
