-- What a part file keeps, after one more entry.
use Rattle.std.proofs.Common.{◌≡◌, ◌⊎◌, ℕ, ◌≤◌, Bool, true, false, List, [], ◌∷◌, ◌++◌, Option, Some, None, Result, Ok, Err, is_err, IsFalse, IsTrue, OnOk, unwrap_or, ◌==◌, IfSome, if◌then◌else◌, refl, sym, ap, ◌∙◌, subst, inl, inr, arith}
use Rattle.std.proofs.lemmas.Bool.{true≢false}
use Rattle.std.specs.Bool.{then_some}
use Rattle.std.specs.Option.{option_or}
use Rattle.std.proofs.lemmas.Bool.Decides.{nat_tests}
use Rattle.ed2k_outside.specs.Causes.{Rose}
use Rattle.ed2k_outside.specs.Files.{Files}
use Rattle.md4_hash.specs.Md4.{md4}
use Rattle.part_sizes.specs.Part.{part}
use Rattle.part_hashset.specs.declared.aim.Aim.{Aim}
use Rattle.reserve_core.specs.Events.{events, latest}
use Rattle.reserve_core.specs.Seen.{newest_calls, added}
use Rattle.reserve_core.specs.Verdicts.{verdict_by, verdict_of}
use Rattle.reserve_core.specs.declared.event.Entry.{Entry}
use Rattle.reserve_core.specs.declared.event.Event.{Event}
use Rattle.reserve_core.specs.declared.event.Event.TheVariants.{Verdict, Dropped}
use Rattle.reserve_core.proofs.Latest.{events-added, latest-push}
use Rattle.reserve_core.proofs.Quiet.{verdict-same}
use Rattle.part_store.specs.Body.{BeganTrue, BodyFits, FileKeeps, Fits, Identity}

-- each verdict after the event was there before it, or is the MD4 of its part
abbrev pub IsRight : List Event → Event → List ℕ → Type 0
IsRight h e body = (j : ℕ) (d : List ℕ) → verdict_of (h ++ e ∷ []) j ≡ Some d → (verdict_of h j ≡ Some d) ⊎ (d ≡ md4 (part body j))

-- an event behind others changes nothing of how the part file began
pub began-before : (h : List Event) (e : Event) (first : Option (List ℕ)) → BeganTrue (h ++ e ∷ []) first → BeganTrue h first
began-before h e None began = tt
began-before [] e (Some body) began = λ i d is. absurd (cc)
began-before (opened ∷ h) e (Some body) began = began

fits-added : (aim : Aim) (h : List Event) (e : Event) (first : Option (List ℕ)) (body : List ℕ) → IsRight h e body → Fits aim h first body → Fits aim (h ++ e ∷ []) first body
fits-added aim h e first body right fits = record {
  sized = fits.sized;
  verdicts = λ began j d is.
      elim (right j d is) [ inl was ↦ fits.verdicts (began-before h e first began) j d was | inr own ↦ own ];
}

newest-added : (low : ℕ) (log : List Entry) (calls : ℕ) (e : Event) → newest_calls low (added log calls e) ≡ calls
newest-added low [] calls e = refl
newest-added low (entry ∷ log) calls e = newest-added entry.calls log calls e

body-added : (aim : Aim) (log : List Entry) (calls : ℕ) (e : Event) (first : Option (List ℕ)) (files : Option Files) → IfSome files (λ files. IsRight (events log) e files.body) → BodyFits aim log first files
    → BodyFits aim (added log calls e) first files
body-added aim log calls e first None right fits = tt
body-added aim log calls e first (Some files) right fits =
    subst (λ (h : List Event). Fits aim h first files.body) (sym (events-added log calls e)) (fits-added aim (events log) e first files.body right fits)

-- the entry of a call that was Ok is added, and else nothing
keeps-if : {aim now : Aim} {log new : List Entry} {broken : Bool} {initial faults made calls : ℕ} {first : Option (List ℕ)} {files : Option Files} {home here : Identity} (e : Event) (b : Bool)
    → FileKeeps aim log broken initial faults made first files home here → now ≡ aim → calls ≡ made
    → IfSome files (λ files. IsRight (events log) e files.body)
    → new ≡ (if b then added log calls e else log)
    → FileKeeps now new broken initial faults made first files home here
keeps-if {aim = aim} {now = now} {log = log} {new = new} {broken = broken} {initial = initial} {faults = faults} {made = made} {calls = calls} {first = first} {files = files} {home = home} {here = here} e true keeps same count right is =
    subst (λ (a : Aim). FileKeeps a new broken initial faults made first files home here) (sym same)
    (subst (λ (l : List Entry). FileKeeps aim l broken initial faults made first files home here) (sym is)
    (record {
      size = keeps.size;
      body = body-added aim log calls e first files right keeps.body;
      calls = omega (arith, newest-added 0 log calls e, count);
      later = keeps.later;
      failed = keeps.failed;
      works = keeps.works;
      identity = keeps.identity;
    }))
keeps-if {aim = aim} {now = now} {log = log} {new = new} {broken = broken} {initial = initial} {faults = faults} {made = made} {calls = calls} {first = first} {files = files} {home = home} {here = here} e false keeps same count right is =
    subst (λ (a : Aim). FileKeeps a new broken initial faults made first files home here) (sym same)
    (subst (λ (l : List Entry). FileKeeps aim l broken initial faults made first files home here) (sym is) keeps)

silent : (files : Option Files) (log : List Entry) (e : Event) → ((j : ℕ) → verdict_by j e ≡ None) → IfSome files (λ files. IsRight (events log) e files.body)
silent None log e none = tt
silent (Some files) log e none = λ j d is. inl (sym (verdict-same (events log) e j (none j)) ∙ is)

-- an event that says nothing of verdicts
pub keeps-silent : {aim now : Aim} {log new : List Entry} {broken : Bool} {initial faults made calls : ℕ} {first : Option (List ℕ)} {files : Option Files} {home here : Identity} (e : Event) (b : Bool)
    → FileKeeps aim log broken initial faults made first files home here → now ≡ aim → calls ≡ made
    → ((j : ℕ) → verdict_by j e ≡ None)
    → new ≡ (if b then added log calls e else log)
    → FileKeeps now new broken initial faults made first files home here
keeps-silent {log = log} {files = files} e b keeps same count none is = keeps-if e b keeps same count (silent files log e none) is

told : (h : List Event) (e : Event) (j : ℕ) (d : List ℕ) (says : Option (Option (List ℕ))) → verdict_by j e ≡ says → verdict_of (h ++ e ∷ []) j ≡ Some d → unwrap_or (option_or says (latest (verdict_by j) h)) None ≡ Some d
told h e j d says by is = sym (ap (λ o. unwrap_or o None) (latest-push (verdict_by j) h e ∙ ap (λ o. option_or o (latest (verdict_by j) h)) by)) ∙ is

judged-cases : (h : List Event) (i j : ℕ) (digest d body : List ℕ) (same : Bool) → (i == j) ≡ same → digest ≡ md4 (part body i) → unwrap_or (option_or (then_some same (Some digest)) (latest (verdict_by j) h)) None ≡ Some d → (verdict_of h j ≡ Some d) ⊎ (d ≡ md4 (part body j))
judged-cases h i j digest d body true test hashed is =
    let at : i ≡ j = grind (arith, nat_tests) in
    let own : digest ≡ d = cc in
    inr (sym own ∙ hashed ∙ ap (λ (k : ℕ). md4 (part body k)) at)
judged-cases h i j digest d body false test hashed is = inl is

judged-right : (h : List Event) (i : ℕ) (digest body : List ℕ) → digest ≡ md4 (part body i) → IsRight h (Verdict i digest) body
judged-right h i digest body hashed = λ j d is. judged-cases h i j digest d body (i == j) refl hashed (told h (Verdict i digest) j d (then_some (i == j) (Some digest)) refl is)

judged : (files : Option Files) (log : List Entry) (i : ℕ) (digest : List ℕ) → IfSome files (λ files. digest ≡ md4 (part files.body i)) → IfSome files (λ files. IsRight (events log) (Verdict i digest) files.body)
judged None log i digest hashed = tt
judged (Some files) log i digest hashed = judged-right (events log) i digest files.body hashed

-- a verdict with the MD4 of the part
pub keeps-judged : {aim now : Aim} {log new : List Entry} {broken : Bool} {initial faults made calls : ℕ} {first : Option (List ℕ)} {files : Option Files} {home here : Identity} (i : ℕ) (digest : List ℕ) (b : Bool)
    → FileKeeps aim log broken initial faults made first files home here → now ≡ aim → calls ≡ made
    → IfSome files (λ files. digest ≡ md4 (part files.body i))
    → new ≡ (if b then added log calls (Verdict i digest) else log)
    → FileKeeps now new broken initial faults made first files home here
keeps-judged {log = log} {files = files} i digest b keeps same count hashed is = keeps-if (Verdict i digest) b keeps same count (judged files log i digest hashed) is

dropped-cases : (h : List Event) (i j : ℕ) (d body : List ℕ) (same : Bool) → unwrap_or (option_or (then_some same None) (latest (verdict_by j) h)) None ≡ Some d → (verdict_of h j ≡ Some d) ⊎ (d ≡ md4 (part body j))
dropped-cases h i j d body true is = absurd (cc)
dropped-cases h i j d body false is = inl is

dropped : (files : Option Files) (log : List Entry) (i : ℕ) → IfSome files (λ files. IsRight (events log) (Dropped i) files.body)
dropped None log i = tt
dropped (Some files) log i = λ j d is. dropped-cases (events log) i j d files.body (i == j) (told (events log) (Dropped i) j d (then_some (i == j) None) refl is)

-- a drop
pub keeps-dropped : {aim now : Aim} {log new : List Entry} {broken : Bool} {initial faults made calls : ℕ} {first : Option (List ℕ)} {files : Option Files} {home here : Identity} (i : ℕ) (b : Bool)
    → FileKeeps aim log broken initial faults made first files home here → now ≡ aim → calls ≡ made
    → new ≡ (if b then added log calls (Dropped i) else log)
    → FileKeeps now new broken initial faults made first files home here
keeps-dropped {log = log} {files = files} i b keeps same count is = keeps-if (Dropped i) b keeps same count (dropped files log i) is

-- after calls of the vault that leave a body that fits
pub keeps-vault : {aim : Aim} {log : List Entry} {broken : Bool} {initial before faults past made : ℕ} {first : Option (List ℕ)} {old files : Option Files} {home was here : Identity}
    → FileKeeps aim log broken initial before past first old home was → before ≤ faults → past ≤ made → here ≡ was → BodyFits aim log first files → (IsFalse broken → faults ≡ before) → FileKeeps aim log broken initial faults made first files home here
keeps-vault keeps later calls same fits clean = record {
  size = keeps.size;
  body = fits;
  calls = omega (arith, keeps.calls, calls);
  later = omega (arith, keeps.later, later);
  failed = λ broken. omega (arith, keeps.failed broken, later);
  works = λ works. clean works ∙ keeps.works works;
  identity = same ∙ keeps.identity;
}

pub clean-of : {T E P : Type 0} (r : Result T E) → is_err r ≡ false → OnOk r P → P
clean-of (Ok x) ok clean = clean
clean-of (Err e) ok clean = absurd (cc)

pub body-same : (aim : Aim) (log : List Entry) (first : Option (List ℕ)) (old files : Option Files) → files ≡ old → BodyFits aim log first old → BodyFits aim log first files
body-same aim log first old files same fits = subst (λ (f : Option Files). BodyFits aim log first f) (sym same) fits

-- a call of the vault failed
pub keeps-failed : {aim : Aim} {log : List Entry} {broken now : Bool} {initial before faults past made : ℕ} {first : Option (List ℕ)} {old files : Option Files} {home was here : Identity}
    → FileKeeps aim log broken initial before past first old home was → before ≤ faults → Rose before faults → past ≤ made → here ≡ was → BodyFits aim log first files → IsTrue now → FileKeeps aim log now initial faults made first files home here
keeps-failed keeps more rose calls same fits broken = record {
  size = keeps.size;
  body = fits;
  calls = omega (arith, keeps.calls, calls);
  later = omega (arith, keeps.later, more);
  failed = λ broken. omega (arith, keeps.later, rose);
  works = λ works. absurd (true≢false (sym broken ∙ works));
  identity = same ∙ keeps.identity;
}

-- the core was asked
pub keeps-asked : {aim now : Aim} {log asked : List Entry} {broken : Bool} {initial faults made : ℕ} {first : Option (List ℕ)} {files : Option Files} {home here : Identity}
    → FileKeeps aim log broken initial faults made first files home here → now ≡ aim → asked ≡ log → FileKeeps now asked broken initial faults made first files home here
keeps-asked {aim = aim} {now = now} {log = log} {asked = asked} {broken = broken} {initial = initial} {faults = faults} {made = made} {first = first} {files = files} {home = home} {here = here} keeps same alike =
    subst (λ (a : Aim). FileKeeps a asked broken initial faults made first files home here) (sym same)
    (subst (λ (l : List Entry). FileKeeps aim l broken initial faults made first files home here) (sym alike) keeps)
