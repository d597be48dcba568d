-- What a part file keeps as it is made.
use Rattle.std.proofs.Common.{◌≡◌, ℕ, false, List, [], length, replicate, Option, Some, None, Result, Ok, Err, OnOk, is_err, sym, ap, ◌∙◌, subst, arith}
use Rattle.std.proofs.lemmas.List.{length-replicate}
use Rattle.std.proofs.lemmas.Bool.{true≢false}
use Rattle.ed2k_outside.specs.Causes.{IfKnown}
use Rattle.ed2k_outside.specs.Files.{Files}
use Rattle.part_hashset.specs.declared.aim.Aim.{Aim}
use Rattle.part_sizes.specs.Part.{IsSize}
use Rattle.part_sizes.specs.declared.small_lists.Pair.{Pair}
use Rattle.reserve_core.specs.Seen.{added}
use Rattle.part_hashset.specs.Goals.{digest_in}
use Rattle.reserve_core.specs.declared.event.Entry.{Entry}
use Rattle.reserve_core.specs.declared.event.Event.TheVariants.{Opened}
use Rattle.reserve_core.specs.declared.event.Opened.{Opened as State}
use Rattle.part_store.specs.Body.{Identity, Blanks, BodyFits, FileKeeps}

pub blanked : {T E : Type 0} (n : ℕ) (old files : Option Files) (r : Result T E) → false ≡ is_err r → OnOk r (IfKnown (Blanks n) old files) → IfKnown (Blanks n) old files
blanked n old files (Ok x) made goes = goes
blanked n old files (Err e) made goes = absurd (cc)

none-judged : (pairs : List Pair) (i : ℕ) → pairs ≡ [] → digest_in pairs i ≡ None
none-judged pairs i none = ap (λ (p : List Pair). digest_in p i) none

fits-blank : (aim : Aim) (o : State) (calls : ℕ) (first : Option (List ℕ)) (old files : Option Files) → o.verdicts ≡ [] → IfKnown (Blanks aim.size) old files → BodyFits aim (added [] calls (Opened o)) first files
fits-blank aim o calls first None None none goes = tt
fits-blank aim o calls first None (Some files) none goes = absurd (cc)
fits-blank aim o calls first (Some old) None none goes = absurd goes
fits-blank aim o calls first (Some old) (Some files) none goes =
    let body : files.body ≡ replicate aim.size 0 = ap (λ (f : Files). f.body) goes in
    record {
      sized = ap length body ∙ length-replicate aim.size 0;
      verdicts = λ began i d is. let no = none-judged o.verdicts i none in absurd (cc);
    }

pub keeps-made : {aim now : Aim} {log : List Entry} {initial faults calls made : ℕ} {first : Option (List ℕ)} {files : Option Files} {home here : Identity} (old : Option Files) (o : State)
    → IsSize aim.size → now ≡ aim → log ≡ added [] calls (Opened o) → calls ≡ made → initial ≡ faults → o.verdicts ≡ [] → here ≡ home → IfKnown (Blanks aim.size) old files
    → FileKeeps now log false initial faults made first files home here
keeps-made {aim = aim} {now = now} {log = log} {initial = initial} {faults = faults} {calls = calls} {made = made} {first = first} {files = files} {home = home} {here = here} old o size same is count start none alike goes =
    subst (λ (a : Aim). FileKeeps a log false initial faults made first files home here) (sym same)
    (subst (λ (l : List Entry). FileKeeps aim l false initial faults made first files home here) (sym is)
    (record {
      size = size;
      body = fits-blank aim o calls first old files none goes;
      calls = omega arith;
      later = omega arith;
      failed = λ broken. absurd (true≢false (sym broken));
      works = λ works. sym start;
      identity = alike;
    }))
