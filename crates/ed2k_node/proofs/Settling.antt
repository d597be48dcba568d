-- What a commit, a verdict and a drop leave to settle.
use Rattle.std.proofs.Common.{◌≡◌, ◌⊎◌, ◌∙◌, refl, sym, ap, subst, inl, inr, ℕ, zero, suc, ◌+◌, ◌-◌, ◌<◌, ◌≤◌, ◌&&◌, ◌==◌, Bool, true, false, not, nat_le, List, [], ◌∷◌, ◌++◌, Option, Some, None, unwrap_or, is_none, find, Result, Ok, Err, IsTrue, IsFalse, IsSome, OnOk, IfErr, if◌then◌else◌, arith}
use Rattle.std.specs.Bool.{then_some}
use Rattle.std.specs.List.{range_with_len}
use Rattle.std.specs.Option.{is_some, option_or, option_map}
use Rattle.std.proofs.lemmas.Bool.{both_ways, cases_Bool, cases_eq}
use Rattle.std.proofs.lemmas.Bool.Decides.{nat_tests}
use Rattle.part_hashset.specs.declared.aim.Aim.{Aim}
use Rattle.part_sizes.specs.Part.{data_parts, part_range}
use Rattle.part_sizes.specs.Span.{has, positions}
use Rattle.part_sizes.specs.declared.part.TheConstants.{PART}
use Rattle.part_sizes.specs.declared.span.Span.{Span}
use Rattle.part_sizes.proofs.Laws.{has_between, between_has}
use Rattle.part_sizes.proofs.Positions.{find-positions_none}
use Rattle.reserve_core.specs.Refusals.{first_cause, refusal}
use Rattle.reserve_core.specs.Desk.{IsRefused, is_outside}
use Rattle.reserve_core.specs.Events.{events, latest}
use Rattle.reserve_core.specs.Filled.{filled_by, first_unfilled, is_filled, is_full, is_part_uncommitted, is_uncommitted, open_by, open_in_by}
use Rattle.reserve_core.specs.Seen.{added}
use Rattle.part_hashset.specs.Goals.{is_nil}
use Rattle.reserve_core.specs.Verdicts.{lacks_set, set_by, verdict_by, verdict_of}
use Rattle.reserve_core.specs.declared.event.Entry.{Entry}
use Rattle.reserve_core.specs.declared.event.Event.{Event}
use Rattle.reserve_core.specs.declared.event.Event.TheVariants.{Opened, Hashes, Offer, Reserve, Write, Release, Commit, Verdict, Recovered, Dropped}
use Rattle.reserve_core.specs.declared.fault.DeskFault.{DeskFault}
use Rattle.reserve_core.specs.declared.fault.DeskFault.TheVariants.{NotFull, NotCommitted, NoSet, Already, Broken, Fault, NoMemory}
use Rattle.reserve_core.proofs.Latest.{events-added, latest-still, latest-told, set-same}
use Rattle.reserve_core.proofs.Quiet.{filled-same, verdict-same}
use Rattle.part_store.specs.Calls.{Breaks}
use Rattle.ed2k_node.specs.Left.{IsJudged, IsNew, IsSettled}

-- ---- a part that is full

not-false : (b : Bool) → not b ≡ false → b ≡ true
not-false true e = refl
not-false false e = cc

none-in-range : (p : ℕ → Bool) (from n : ℕ) → find p (range_with_len from n) ≡ None → (y : ℕ) → from ≤ y → y < from + n → p y ≡ false
none-in-range p from zero none y above below = absurd (omega arith)
none-in-range p from (suc n) none y above below = elim (cases_Bool (p from)) [
  | inl passes ↦ let some : Some from ≡ None = rw passes at none in absurd (cc)
  | inr fails ↦ elim (cases_eq from y) [
    | inl same ↦ subst (λ (k : ℕ). p k ≡ false) same fails
    | inr other ↦ none-in-range p (from + 1) n (rw fails at none) y (omega arith) (omega arith)
  ]
]

none-in-span : (p : ℕ → Bool) (span : Span) → find p (positions span) ≡ None → (y : ℕ) → has span y ≡ true → p y ≡ false
unfolding positions
none-in-span p span none y here =
    let ends = between_has span y here in
    none-in-range p span.s (span.e - span.s) none y ends.0 (omega (arith, ends.1))

at-none : (n : ℕ) (h : List Event) (i x : ℕ) (found : Option ℕ) → first_unfilled n h i ≡ found → is_none found ≡ true → has (part_range n i) x ≡ true → is_filled n h x ≡ true
at-none n h i x None is full here = not-false (is_filled n h x) (none-in-span (λ y. not (is_filled n h y)) (part_range n i) is x here)
at-none n h i x (Some y) is full here = absurd (cc)

full_at : (n : ℕ) (h : List Event) (i x : ℕ) → is_full n h i ≡ true → has (part_range n i) x ≡ true → is_filled n h x ≡ true
full_at n h i x full here = at-none n h i x (first_unfilled n h i) refl full here

full_from : (n : ℕ) (h : List Event) (i : ℕ) → ((x : ℕ) → has (part_range n i) x ≡ true → is_filled n h x ≡ true) → is_full n h i ≡ true
full_from n h i each =
    ap is_none (find-positions_none (λ x. not (is_filled n h x)) (part_range n i) (λ x here. ap not (each x here)))

start_in : (n i : ℕ) → i < data_parts n → has (part_range n i) (part_range n i).s ≡ true
start_in n i exists = has_between (part_range n i) (part_range n i).s (omega arith) (omega (arith, exists))

pub new_is_settled : (aim : Aim) (h : List Event) → IsNew h → IsSettled aim h
new_is_settled aim h new = record {
  committed = new.committed;
  judged = λ i exists full set.
      absurd (both_ways _ (new.empty aim.size (part_range aim.size i).s) (full_at aim.size h i (part_range aim.size i).s full (start_in aim.size i exists)));
}

-- ---- a Commit

commit_after : (old new : List Entry) (calls : ℕ) (open_now : Bool) → is_uncommitted (events old) ≡ open_now → new ≡ (if open_now then added old calls Commit else old) → is_uncommitted (events new) ≡ false
commit_after old new calls true was is = subst (λ (l : List Entry). is_uncommitted (events l) ≡ false) (sym is)
    (subst (λ (h : List Event). is_uncommitted h ≡ false) (sym (events-added old calls Commit))
    (ap (λ (o : Option Bool). unwrap_or o false) (latest-told open_by (events old) Commit false refl)))
commit_after old new calls false was is = subst (λ (l : List Entry). is_uncommitted (events l) ≡ false) (sym is) was

pub committed_now : (old new : List Entry) (calls : ℕ)
    → new ≡ (if is_uncommitted (events old) then added old calls Commit else old) → IsFalse (is_uncommitted (events new))
committed_now old new calls is = commit_after old new calls (is_uncommitted (events old)) refl is

-- ---- a part of which nothing waits for a commit

-- what the newest Write or Commit says, and what it says of a part
abbrev Agrees : Option Bool → Option Bool → Type 0
Agrees None part = part ≡ None
Agrees (Some false) part = part ≡ Some false
Agrees (Some true) part = Unit {0}

agrees-or : (a b c d : Option Bool) → Agrees a b → Agrees c d → Agrees (option_or a c) (option_or b d)
agrees-or None b c d one two = subst (λ (o : Option Bool). Agrees c (option_or o d)) (sym one) two
agrees-or (Some true) b c d one two = tt
agrees-or (Some false) b c d one two = subst (λ (o : Option Bool). option_or o d ≡ Some false) (sym one) refl

agrees-by : (n i : ℕ) (e : Event) → Agrees (open_by e) (open_in_by n i e)
agrees-by n i (Opened o) = refl
agrees-by n i (Hashes set) = refl
agrees-by n i (Offer p bits) = refl
agrees-by n i (Reserve p spans) = refl
agrees-by n i (Write p r) = tt
agrees-by n i (Release p) = refl
agrees-by n i Commit = refl
agrees-by n i (Verdict j d) = refl
agrees-by n i (Recovered j kept) = refl
agrees-by n i (Dropped j) = refl

agrees : (n i : ℕ) (h : List Event) → Agrees (latest open_by h) (latest (open_in_by n i) h)
agrees n i [] = refl
agrees n i (e ∷ h) = agrees-or (latest open_by h) (latest (open_in_by n i) h) (open_by e) (open_in_by n i e) (agrees n i h) (agrees-by n i e)

both-closed : (all part : Option Bool) → Agrees all part → unwrap_or all false ≡ false → unwrap_or part false ≡ false
both-closed None part agree closed = ap (λ (o : Option Bool). unwrap_or o false) agree
both-closed (Some false) part agree closed = ap (λ (o : Option Bool). unwrap_or o false) agree
both-closed (Some true) part agree closed = absurd (cc)

part_committed : (n i : ℕ) (h : List Event) → is_uncommitted h ≡ false → is_part_uncommitted n h i ≡ false
part_committed n i h closed = both-closed (latest open_by h) (latest (open_in_by n i) h) (agrees n i h) closed

-- ---- a Verdict

why : (a : Option ℕ) (b c : Bool) (d : Option (List ℕ)) (fault : DeskFault) → b ≡ false
    → first_cause (option_map NotFull a ∷ then_some b NotCommitted ∷ then_some c NoSet ∷ option_map Already d ∷ []) ≡ Some fault
    → (is_none a ≡ false) ⊎ ((c ≡ true) ⊎ IsSome d)
why (Some x) b c d fault closed is = inl refl
why None true c d fault closed is = absurd (cc)
why None false true d fault closed is = inr (inl refl)
why None false false (Some digest) fault closed is = inr (inr refl)
why None false false None fault closed is = absurd (cc)

refused : (aim : Aim) (h : List Event) (i : ℕ) (fault : DeskFault) → is_uncommitted h ≡ false → refusal aim h (Verdict i []) ≡ Some fault → IsJudged aim h i
refused aim h i fault closed is =
    let cause = why (first_unfilled aim.size h i) (is_part_uncommitted aim.size h i) (lacks_set aim.size h) (verdict_of h i) fault (part_committed aim.size i h closed) is in
    λ full set. elim cause [
      | inl unfilled ↦ absurd (both_ways _ unfilled full)
      | inr other ↦ elim other [ inl lacks ↦ absurd (both_ways _ set lacks) | inr judged ↦ judged ]
    ]

-- an event that keeps no set
lacks-same : (n : ℕ) (h : List Event) (e : Event) → set_by e ≡ None → lacks_set n (h ++ e ∷ []) ≡ lacks_set n h
lacks-same n h e none = ap (λ (set : List (List ℕ)). nat_le PART n && is_nil set) (set-same h e none)

own-verdict : (h : List Event) (i : ℕ) (d : List ℕ) → verdict_of (h ++ Verdict i d ∷ []) i ≡ Some d
own-verdict h i d =
    let test : (i == i) ≡ true = grind (arith, nat_tests) in
    ap (λ (o : Option (Option (List ℕ))). unwrap_or o None) (latest-told (verdict_by i) h (Verdict i d) (Some d) (ap (λ b. then_some b (Some d)) test))

pub judged_ok : (aim : Aim) (old new : List Entry) (calls i : ℕ) (digest : List ℕ) → new ≡ added old calls (Verdict i digest) → IsJudged aim (events new) i
judged_ok aim old new calls i digest is =
    λ full set. subst (λ (l : List Entry). IsSome (verdict_of (events l) i)) (sym is)
    (subst (λ (h : List Event). IsSome (verdict_of h i)) (sym (events-added old calls (Verdict i digest)))
    (ap is_some (own-verdict (events old) i digest)))

pub judged_err : (aim : Aim) (old new : List Entry) (i : ℕ) (fault : DeskFault) → IsFalse (is_uncommitted (events old))
    → IsRefused (refusal aim (events old) (Verdict i [])) fault → new ≡ old → IsFalse (is_outside fault) → IsJudged aim (events new) i
judged_err aim old new i fault closed answer is inside =
    subst (λ (l : List Entry). IsJudged aim (events l) i) (sym is)
    (elim answer [ inl outside ↦ absurd (both_ways _ inside outside) | inr told ↦ refused aim (events old) i fault closed told ])

-- what an event that fills and opens nothing leaves full
full_same : (n : ℕ) (h : List Event) (e : Event) (i : ℕ) → ((x : ℕ) → filled_by n x e ≡ None) → is_full n (h ++ e ∷ []) i ≡ true → is_full n h i ≡ true
full_same n h e i none full = full_from n h i (λ x here. sym (filled-same n h e x (none x)) ∙ full_at n (h ++ e ∷ []) i x full here)

some-still : (h : List Event) (i j : ℕ) (d : List ℕ) → IsSome (verdict_of h j) → IsSome (verdict_of (h ++ Verdict i d ∷ []) j)
some-still h i j d some =
    elim (cases_eq i j) [
      | inl same ↦ subst (λ (k : ℕ). IsSome (verdict_of (h ++ Verdict i d ∷ []) k)) same (ap is_some (own-verdict h i d))
      | inr other ↦
          let test : (i == j) ≡ false = grind (arith, nat_tests) in
          ap is_some (verdict-same h (Verdict i d) j (ap (λ b. then_some b (Some d)) test)) ∙ some
    ]

judged-on : (aim : Aim) (h : List Event) (i j : ℕ) (d : List ℕ) → IsJudged aim h j → IsJudged aim (h ++ Verdict i d ∷ []) j
judged-on aim h i j d judged =
    let same = lacks-same aim.size h (Verdict i d) refl in
    λ full set. some-still h i j d (judged (full_same aim.size h (Verdict i d) j (λ x. refl) full) (sym same ∙ set))

pub judged_still : (aim : Aim) (old new : List Entry) (calls i : ℕ) (digest : List ℕ)
    → new ≡ added old calls (Verdict i digest) → (j : ℕ) → IsJudged aim (events old) j → IsJudged aim (events new) j
judged_still aim old new calls i digest is j judged = subst (λ (l : List Entry). IsJudged aim (events l) j) (sym is)
    (subst (λ (h : List Event). IsJudged aim h j) (sym (events-added old calls (Verdict i digest))) (judged-on aim (events old) i j digest judged))

pub judged_same : (aim : Aim) (old new : List Entry) → new ≡ old → (j : ℕ) → IsJudged aim (events old) j → IsJudged aim (events new) j
judged_same aim old new is j judged = subst (λ (l : List Entry). IsJudged aim (events l) j) (sym is) judged

pub committed_still : (old new : List Entry) (calls i : ℕ) (digest : List ℕ)
    → new ≡ added old calls (Verdict i digest) → IsFalse (is_uncommitted (events old)) → IsFalse (is_uncommitted (events new))
committed_still old new calls i digest is closed = subst (λ (l : List Entry). is_uncommitted (events l) ≡ false) (sym is)
    (subst (λ (h : List Event). is_uncommitted h ≡ false) (sym (events-added old calls (Verdict i digest)))
    (ap (λ (o : Option Bool). unwrap_or o false) (latest-still open_by (events old) (Verdict i digest) refl) ∙ closed))

pub committed_same : (old new : List Entry) → new ≡ old → IsFalse (is_uncommitted (events old)) → IsFalse (is_uncommitted (events new))
committed_same old new is closed = subst (λ (l : List Entry). is_uncommitted (events l) ≡ false) (sym is) closed

-- ---- a Dropped

opened : (n : ℕ) (h : List Event) (i x : ℕ) → has (part_range n i) x ≡ true → is_filled n (h ++ Dropped i ∷ []) x ≡ false
opened n h i x here = ap (λ (o : Option Bool). unwrap_or o false) (latest-told (filled_by n x) h (Dropped i) false (ap (λ b. then_some b false) here))

untouched : (n : ℕ) (h : List Event) (i x : ℕ) → has (part_range n i) x ≡ false → is_filled n (h ++ Dropped i ∷ []) x ≡ is_filled n h x
untouched n h i x out = filled-same n h (Dropped i) x (ap (λ b. then_some b false) out)

outside_of : (n : ℕ) (h : List Event) (i j x : ℕ) → is_full n (h ++ Dropped i ∷ []) j ≡ true → has (part_range n j) x ≡ true → has (part_range n i) x ≡ false
outside_of n h i j x full here = elim (cases_Bool (has (part_range n i) x)) [
  | inl inside ↦ absurd (both_ways _ (opened n h i x inside) (full_at n (h ++ Dropped i ∷ []) j x full here))
  | inr out ↦ out
]

full_before : (n : ℕ) (h : List Event) (i j : ℕ) → is_full n (h ++ Dropped i ∷ []) j ≡ true → is_full n h j ≡ true
full_before n h i j full = full_from n h j (λ x here.
    sym (untouched n h i x (outside_of n h i j x full here)) ∙ full_at n (h ++ Dropped i ∷ []) j x full here)

other_part : (n : ℕ) (h : List Event) (i j : ℕ) → j < data_parts n → is_full n (h ++ Dropped i ∷ []) j ≡ true → i ≡ j → ⊥
other_part n h i j exists full same =
    let start = (part_range n j).s in
    let here = start_in n j exists in
    both_ways _ (subst (λ (k : ℕ). has (part_range n k) start ≡ false) same (outside_of n h i j start full here)) here

dropped-on : (aim : Aim) (h : List Event) (i : ℕ) → IsSettled aim h → IsSettled aim (h ++ Dropped i ∷ [])
dropped-on aim h i settled = record {
  committed = ap (λ (o : Option Bool). unwrap_or o false) (latest-still open_by h (Dropped i) refl) ∙ settled.committed;
  judged = λ j exists full set.
      let test : (i == j) ≡ false = elim (cases_eq i j) [ inl same ↦ absurd (other_part aim.size h i j exists full same) | inr other ↦ grind (arith, nat_tests) ] in
      let verdict = verdict-same h (Dropped i) j (ap (λ b. then_some b None) test) in
      let same = lacks-same aim.size h (Dropped i) refl in
      ap is_some verdict ∙ settled.judged j exists (full_before aim.size h i j full) (sym same ∙ set);
}

pub settled_still : (aim : Aim) (old new : List Entry) (calls i : ℕ)
    → new ≡ added old calls (Dropped i) → IsSettled aim (events old) → IsSettled aim (events new)
settled_still aim old new calls i is settled = subst (λ (l : List Entry). IsSettled aim (events l)) (sym is)
    (subst (IsSettled aim) (sym (events-added old calls (Dropped i))) (dropped-on aim (events old) i settled))

pub settled_same : (aim : Aim) (old new : List Entry) → new ≡ old → IsSettled aim (events old) → IsSettled aim (events new)
settled_same aim old new is settled = subst (λ (l : List Entry). IsSettled aim (events l)) (sym is) settled

-- ---- refusals from outside

outside-is : (fault : DeskFault) → IsTrue (is_outside fault) → (fault ≡ Broken) ⊎ ((fault ≡ Fault) ⊎ (fault ≡ NoMemory))
outside-is Broken out = inl refl
outside-is Fault out = inr (inl refl)
outside-is NoMemory out = inr (inr refl)
outside-is _ out = absurd (cc)

abbrev refuse : (T : Type 0) → DeskFault → Result T DeskFault
refuse T fault = Err fault

-- a call that needs no memory and was refused from outside leaves a broken store
pub outside_breaks : {T : Type 0} (fault : DeskFault) (result : Result T DeskFault) (old new : Bool) (before now : ℕ)
    → result ≡ Err fault → Breaks old new before now result → (result ≡ Err NoMemory → ⊥) → IsTrue (is_outside fault) → IsTrue new
outside_breaks {T} fault result old new before now is breaks memory out = elim (outside-is fault out) [
  | inl broken ↦ breaks.breaks.1 (inl (breaks.broken.0 (is ∙ ap (refuse T) broken)))
  | inr other ↦ elim other [
    | inl failed ↦ breaks.breaks.1 (inr (is ∙ ap (refuse T) failed))
    | inr wanted ↦ absurd (memory (is ∙ ap (refuse T) wanted))
  ]
]

pub on_ok : {T E P Q : Type 0} (result : Result T E) → OnOk result P → (P → Q) → OnOk result Q
on_ok (Ok done) holds go = go holds
on_ok (Err fault) holds go = tt

pub on_err : {T E Q : Type 0} {P : E → Type 0} (result : Result T E) → IfErr result P → ((fault : E) → P fault → Q) → IfErr result (λ fault. Q)
on_err (Ok done) holds go = tt
on_err (Err fault) holds go = go fault holds

pub found_passes : (test : ℕ → Bool) (xs : List ℕ) (x : ℕ) → find test xs ≡ Some x → test x ≡ true
found_passes test [] x is = absurd (cc)
found_passes test (y ∷ xs) x is = elim (cases_Bool (test y)) [
  | inl passes ↦ let here : Some y ≡ Some x = rw passes at is in let same : y ≡ x = cc in subst (λ (k : ℕ). test k ≡ true) same passes
  | inr fails ↦ found_passes test xs x (rw fails at is)
]
