-- What a part's digest says of the part.
use Rattle.std.proofs.Common.{◌≡◌, ◌≢◌, ◌↔◌, ℕ, ◌-◌, ◌*◌, ◌<◌, ◌≤◌, Bool, true, false, ◌&&◌, nat_lt, nat_le, List, [], ◌∷◌, length, take, drop, min, slice_get, Option, Some, None, is_none, Result, Ok, Err, is_ok, IsFalse, IfOk, IfSome, MatchResult, if◌then◌else◌, refl, sym, ap, ◌∙◌, subst, inr, arith}
use Rattle.std.proofs.lemmas.Bool.Decides.{nat_tests}
use Rattle.std.proofs.lemmas.List.{take_all, length-drop}
use Rattle.std.proofs.lemmas.Slice.Eq.{bytes_eq-Decides}
use Rattle.ed2k_outside.specs.Files.{Files}
use Rattle.md4_hash.specs.Md4.{md4}
use Rattle.part_hashset.specs.declared.aim.Aim.{Aim}
use Rattle.part_sizes.specs.Part.{part, data_parts, part_range}
use Rattle.part_sizes.specs.declared.part.TheConstants.{PART}
use Rattle.part_sizes.specs.declared.span.Span.{Span}
use Rattle.reserve_core.specs.Refusals.{refusal}
use Rattle.reserve_core.specs.Desk.{IsRefused}
use Rattle.reserve_core.specs.Events.{events}
use Rattle.reserve_core.specs.Filled.{first_unfilled}
use Rattle.reserve_core.specs.Seen.{added}
use Rattle.part_hashset.specs.Goals.{is_nil, is_wanted}
use Rattle.reserve_core.specs.Verdicts.{goal, kept_set, lacks_set}
use Rattle.reserve_core.specs.declared.event.Entry.{Entry}
use Rattle.reserve_core.specs.declared.event.Event.{Event}
use Rattle.reserve_core.specs.declared.event.Event.TheVariants.{Verdict}
use Rattle.reserve_core.specs.declared.fault.DeskFault.{DeskFault}
use Rattle.reserve_core.specs.declared.fault.DeskFault.TheVariants.{Fault}
use Rattle.reserve_core.specs.declared.verdict.Verdict.{Verdict as Judgement}
use Rattle.reserve_core.specs.declared.verdict.Verdict.TheVariants.{Verified, Failed}
use Rattle.reserve_core.proofs.Judged.{ready}
use Rattle.part_store.specs.Body.{Stored, BodyFits}
use Rattle.part_store.specs.Calls.{Judges, Passes, Replies}

-- the bytes that are hashed are the part's

take-capped : (k m : ℕ) (xs : List ℕ) → k ≡ min m (length xs) → take k xs ≡ take m xs
take-capped k m xs is =
    elim (nat_le m (length xs)) as (λ b. nat_le m (length xs) ≡ b → take k xs ≡ take m xs) [
      | true ↦ λ test. let same : k ≡ m = grind (arith, nat_tests) in ap (λ (n : ℕ). take n xs) same
      | false ↦ λ test. let short : length xs ≤ m = grind (arith, nat_tests) in take_all k xs (omega arith) ∙ sym (take_all m xs short)
    ] refl

part-bytes : (aim : Aim) (i : ℕ) (body : List ℕ) → length body ≡ aim.size → i < data_parts aim.size → take ((part_range aim.size i).e - (part_range aim.size i).s) (drop (part_range aim.size i).s body) ≡ part body i
part-bytes aim i body sized exists =
    take-capped ((part_range aim.size i).e - (part_range aim.size i).s) PART (drop (i * PART) body) (omega (arith, sized, exists, length-drop (i * PART) body))

abbrev pub IsHashed : List ℕ → Span → Option Files → Type 0
IsHashed digest span files = IfSome files (λ files. digest ≡ md4 (take (span.e - span.s) (drop span.s files.body)))

abbrev pub IsPartHash : List ℕ → ℕ → Option Files → Type 0
IsPartHash digest i files = IfSome files (λ files. digest ≡ md4 (part files.body i))

hashed-part : (aim : Aim) (i : ℕ) (log : List Entry) (digest : List ℕ) (first : Option (List ℕ)) (files : Option Files) → BodyFits aim log first files → i < data_parts aim.size → IsHashed digest (part_range aim.size i) files → IsPartHash digest i files
hashed-part aim i log digest first None fits exists hashed = tt
hashed-part aim i log digest first (Some files) fits exists hashed = hashed ∙ ap md4 (part-bytes aim i files.body fits.sized exists)

pub part-hashed : {V : Type 0} (inside now : Stored V) (aim : Aim) (span : Span) (i : ℕ) (digest : List ℕ) (first : Option (List ℕ)) (old files : Option Files) → inside ≡ now → i < data_parts now.aim.size → aim ≡ inside.aim → span ≡ part_range aim.size i
    → BodyFits inside.aim inside.log first old → files ≡ old → IsHashed digest span files → IsPartHash digest i old
part-hashed {V = V} inside now aim span i digest first old files seen exists same range fits left hashed =
    let there : i < data_parts inside.aim.size = subst (λ (s : Stored V). i < data_parts s.aim.size) (sym seen) exists in
    let is : span ≡ part_range inside.aim.size i = range ∙ ap (λ (a : Aim). part_range a.size i) same in
    hashed-part inside.aim i inside.log digest first old fits there
    (subst (λ (s : Span). IsHashed digest s old) is (subst (λ (f : Option Files). IsHashed digest span f) left hashed))

pub hash-left : (digest : List ℕ) (i : ℕ) (old files : Option Files) → files ≡ old → IsPartHash digest i old → IsPartHash digest i files
hash-left digest i old files left hashed = subst (λ (f : Option Files). IsPartHash digest i f) (sym left) hashed

-- the refusals

refused-of : {T : Type 0} (cause : Option DeskFault) (r : Result T DeskFault) → MatchResult r (λ _. cause ≡ None) (λ fault. cause ≡ Some fault) → MatchResult r (λ _. cause ≡ None) (λ fault. IsRefused cause fault)
refused-of cause (Ok x) match = match
refused-of cause (Err refused) match = inr match

pub caused : (o : Option DeskFault) (a b : DeskFault) → o ≡ Some b → a ≡ b → o ≡ Some a
caused o a b is same = is ∙ ap (λ (c : DeskFault). Some c) (sym same)

pub replies-judged : {V : Type 0} (inside now : Stored V) (i : ℕ) (d : List ℕ) (r : Result Judgement DeskFault) → inside ≡ now
    → MatchResult r (λ _. refusal inside.aim (events inside.log) (Verdict i d) ≡ None) (λ fault. refusal inside.aim (events inside.log) (Verdict i d) ≡ Some fault) → Replies now.aim now.log (Verdict i []) r
replies-judged {V = V} inside now i d r same match =
    subst (λ (s : Stored V). Replies s.aim s.log (Verdict i []) r) same (refused-of (refusal inside.aim (events inside.log) (Verdict i [])) r match)

pub replies-refused : {V : Type 0} (inside now : Stored V) (i : ℕ) (fault : DeskFault) (r : Result Judgement DeskFault) → inside ≡ now
    → refusal inside.aim (events inside.log) (Verdict i []) ≡ Some fault → r ≡ Err fault → Replies now.aim now.log (Verdict i []) r
replies-refused {V = V} inside now i fault r same refused is =
    subst (λ (s : Result Judgement DeskFault). Replies now.aim now.log (Verdict i []) s) (sym is)
    (subst (λ (s : Stored V). IsRefused (refusal s.aim (events s.log) (Verdict i [])) fault) same (inr refused))

-- a part that passes may be judged

some_set : (set : List (List ℕ)) (i : ℕ) (d : List ℕ) → slice_get set i ≡ Some d → is_nil set ≡ false
some_set [] i d is = absurd (cc)
some_set (x ∷ set) i d is = refl

set_known : (aim : Aim) (set : List (List ℕ)) (i : ℕ) (d : List ℕ) (below : Bool) → nat_lt aim.size PART ≡ below → (if below then Some aim.hash else slice_get set i) ≡ Some d → (nat_le PART aim.size && is_nil set) ≡ false
set_known aim set i d true test is = let small : nat_le PART aim.size ≡ false = grind (arith, nat_tests) in rw small refl
set_known aim set i d false test is = let some = some_set set i d is in grind (arith, nat_tests)

none_if : (o : Option ℕ) → is_none o ≡ true → o ≡ None
none_if None is = refl
none_if (Some x) is = absurd (cc)

passes-ready : (aim : Aim) (h : List Event) (i : ℕ) (body : List ℕ) → Passes aim h i body → refusal aim h (Verdict i []) ≡ None
passes-ready aim h i body passes =
    let full : first_unfilled aim.size h i ≡ None = none_if (first_unfilled aim.size h i) passes.full in
    let set : lacks_set aim.size h ≡ false = set_known aim (kept_set h) i (md4 (part body i)) (nat_lt aim.size PART) refl passes.wanted in
    rw (full, passes.committed, set, passes.unjudged) refl

wanted_is : (o : Option (List ℕ)) (d : List ℕ) → is_wanted o d ≡ true → o ≡ Some d
wanted_is None d is = absurd (cc)
wanted_is (Some wanted) d is = ap (λ (bytes : List ℕ). Some bytes) (sym ((bytes_eq-Decides d wanted).0 is))

is_of_wanted : (o : Option (List ℕ)) (d : List ℕ) → o ≡ Some d → is_wanted o d ≡ true
is_of_wanted o d is = subst (λ (p : Option (List ℕ)). is_wanted p d ≡ true) (sym is) ((bytes_eq-Decides d d).1 refl)

-- a judged part is verified exactly where it passes
abbrev pub IsExact : Bool → Aim → List Event → ℕ → List ℕ → Result Judgement DeskFault → Type 0
IsExact broken aim h i body r = (r ≡ Ok Verified) ↔ (IsFalse broken × Passes aim h i body × (r ≢ Err Fault))

refused-exact : (broken : Bool) (aim : Aim) (h : List Event) (i : ℕ) (body : List ℕ) (cause : DeskFault) (r : Result Judgement DeskFault) → refusal aim h (Verdict i []) ≡ Some cause → r ≡ Err cause → IsExact broken aim h i body r
refused-exact broken aim h i body cause r refused is = (
  λ ok. absurd (cc),
  λ passes. let none = passes-ready aim h i body passes.1 in absurd (cc),
)

judged-ok : (aim : Aim) (h : List Event) (i : ℕ) (digest body : List ℕ) (b : Bool) (v : Judgement) → is_wanted (goal aim h i) digest ≡ b → v ≡ (if b then Verified else Failed) → refusal aim h (Verdict i []) ≡ None → digest ≡ md4 (part body i)
    → IsExact false aim h i body (Ok v)
judged-ok aim h i digest body true v test is none hashed =
    let no = ready aim h i none in (
      λ ok. (refl, record { full = ap is_none no.full; committed = no.committed; unjudged = no.unjudged; wanted = wanted_is (goal aim h i) digest test ∙ ap (λ (bytes : List ℕ). Some bytes) hashed }, λ e. cc),
      λ passes. ap (λ (w : Judgement). Ok w) is,
    )
judged-ok aim h i digest body false v test is none hashed = (
  λ ok. absurd (cc),
  λ passes. let yes = is_of_wanted (goal aim h i) digest (passes.1.wanted ∙ ap (λ (bytes : List ℕ). Some bytes) (sym hashed)) in absurd (cc),
)

exact-refused : (broken : Bool) (aim : Aim) (h : List Event) (i : ℕ) (files : Option Files) (cause : DeskFault) (r : Result Judgement DeskFault) → refusal aim h (Verdict i []) ≡ Some cause → r ≡ Err cause → IfSome files (λ files. IsExact broken aim h i files.body r)
exact-refused broken aim h i None cause r refused is = tt
exact-refused broken aim h i (Some files) cause r refused is = refused-exact broken aim h i files.body cause r refused is

pub refused-exactly : {V : Type 0} (files : V → Option Files) (inside now : Stored V) (i : ℕ) (cause : DeskFault) (r : Result Judgement DeskFault) → inside ≡ now
    → refusal inside.aim (events inside.log) (Verdict i []) ≡ Some cause → r ≡ Err cause → IfSome (files now.vault) (λ files. IsExact now.broken now.aim (events now.log) i files.body r)
refused-exactly {V = V} files inside now i cause r seen refused is =
    subst (λ (s : Stored V). IfSome (files s.vault) (λ files. IsExact s.broken s.aim (events s.log) i files.body r)) seen
    (exact-refused inside.broken inside.aim (events inside.log) i (files inside.vault) cause r refused is)

exact-body : (broken : Bool) (aim : Aim) (h : List Event) (i : ℕ) (digest body : List ℕ) (r : Result Judgement DeskFault) → broken ≡ false → refusal aim h (Verdict i []) ≡ None
    → MatchResult r (λ _. refusal aim h (Verdict i digest) ≡ None) (λ fault. refusal aim h (Verdict i digest) ≡ Some fault)
    → IfOk r (λ v. v ≡ (if is_wanted (goal aim h i) digest then Verified else Failed)) → digest ≡ md4 (part body i) → IsExact broken aim h i body r
exact-body true aim h i digest body r whole none match verdict hashed = absurd (cc)
exact-body false aim h i digest body (Ok v) whole none match verdict hashed = judged-ok aim h i digest body (is_wanted (goal aim h i) digest) v refl verdict none hashed
exact-body false aim h i digest body (Err cause) whole none match verdict hashed = absurd (no_cause (refusal aim h (Verdict i [])) cause none match)
  where
    no_cause : (o : Option DeskFault) (cause : DeskFault) → o ≡ None → o ≡ Some cause → ⊥
    no_cause o cause none some = cc

exact-files : (broken : Bool) (aim : Aim) (h : List Event) (i : ℕ) (digest : List ℕ) (files : Option Files) (r : Result Judgement DeskFault) → broken ≡ false → refusal aim h (Verdict i []) ≡ None
    → MatchResult r (λ _. refusal aim h (Verdict i digest) ≡ None) (λ fault. refusal aim h (Verdict i digest) ≡ Some fault)
    → IfOk r (λ v. v ≡ (if is_wanted (goal aim h i) digest then Verified else Failed)) → IsPartHash digest i files → IfSome files (λ files. IsExact broken aim h i files.body r)
exact-files broken aim h i digest None r whole none match verdict hashed = tt
exact-files broken aim h i digest (Some files) r whole none match verdict hashed = exact-body broken aim h i digest files.body r whole none match verdict hashed

pub judged-exactly : {V : Type 0} (files : V → Option Files) (inside now : Stored V) (i : ℕ) (digest : List ℕ) (r : Result Judgement DeskFault) → inside ≡ now → IsFalse now.broken
    → refusal inside.aim (events inside.log) (Verdict i []) ≡ None
    → MatchResult r (λ _. refusal inside.aim (events inside.log) (Verdict i digest) ≡ None) (λ fault. refusal inside.aim (events inside.log) (Verdict i digest) ≡ Some fault)
    → IfOk r (λ v. v ≡ (if is_wanted (goal inside.aim (events inside.log) i) digest then Verified else Failed)) → IsPartHash digest i (files inside.vault)
    → IfSome (files now.vault) (λ files. IsExact now.broken now.aim (events now.log) i files.body r)
judged-exactly {V = V} files inside now i digest r seen whole none match verdict hashed =
    subst (λ (s : Stored V). IfSome (files s.vault) (λ files. IsExact s.broken s.aim (events s.log) i files.body r)) seen
    (exact-files inside.broken inside.aim (events inside.log) i digest (files inside.vault) r (ap (λ (s : Stored V). s.broken) seen ∙ whole) none match verdict hashed)

-- what is recorded

hashed-ok : {T : Type 0} (digest : List ℕ) (i : ℕ) (files : Option Files) (r : Result T DeskFault) → IsPartHash digest i files → IfSome files (λ files. IfOk r (λ _. digest ≡ md4 (part files.body i)))
hashed-ok digest i None r hashed = tt
hashed-ok digest i (Some files) (Ok x) hashed = hashed
hashed-ok digest i (Some files) (Err cause) hashed = tt

pub judges-inside : {V : Type 0} (files : V → Option Files) (inside now : Stored V) (i calls made : ℕ) (digest : List ℕ) (new : List Entry) (r : Result Judgement DeskFault) → inside ≡ now → calls ≡ made
    → IsPartHash digest i (files inside.vault)
    → new ≡ (if is_ok r then added inside.log calls (Verdict i digest) else inside.log)
    → IfOk r (λ v. v ≡ (if is_wanted (goal inside.aim (events inside.log) i) digest then Verified else Failed))
    → Judges now.aim i (files now.vault) made now.log new r
judges-inside {V = V} files inside now i calls made digest new r seen count hashed log verdict =
    subst (λ (s : Stored V). Judges s.aim i (files s.vault) made s.log new r) seen
    (record {
      digest = digest;
      hashed = hashed-ok digest i (files inside.vault) r hashed;
      log = subst (λ (n : ℕ). new ≡ (if is_ok r then added inside.log n (Verdict i digest) else inside.log)) count log;
      verdict = verdict;
    })
