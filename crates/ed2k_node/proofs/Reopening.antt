-- What settling adds to the log, that a part which was opened again is failed no more, and that what is settled stays.
use Rattle.std.proofs.Common.{◌≡◌, ◌∙◌, refl, sym, ap, subst, inl, inr, ℕ, ◌<◌, ◌++◌, ◌==◌, Bool, true, false, not, List, [], ◌∷◌, Option, Some, None, unwrap_or, is_none, IsFalse, IsSome, ◌&&◌, if◌then◌else◌, arith}
use Rattle.std.specs.Bool.{then_some}
use Rattle.std.specs.List.{list_all}
use Rattle.std.specs.Option.{option_or}
use Rattle.std.proofs.lemmas.Bool.{both_ways, cases_eq}
use Rattle.std.proofs.lemmas.Bool.Decides.{nat_tests}
use Rattle.std.proofs.lemmas.List.{append-nil, append_assoc}
use Rattle.std.proofs.lemmas.List.Elements.{filter-append}
use Rattle.ed2k_link.proofs.Letters.{table_at}
use Rattle.part_hashset.specs.declared.aim.Aim.{Aim}
use Rattle.reserve_core.specs.Refusals.{refusal}
use Rattle.reserve_core.specs.Desk.{IsRefused, is_outside, is_own, own}
use Rattle.part_sizes.specs.Part.{part_range}
use Rattle.part_sizes.specs.Span.{has}
use Rattle.reserve_core.specs.Events.{events, latest}
use Rattle.reserve_core.specs.Filled.{filled_by, is_filled, is_uncommitted}
use Rattle.reserve_core.specs.Seen.{added}
use Rattle.part_hashset.specs.Goals.{fails, goal_in, passes}
use Rattle.reserve_core.specs.Verdicts.{goal, is_failed, is_verified, parts, verdict_by, verdict_of}
use Rattle.reserve_core.specs.declared.event.Entry.{Entry}
use Rattle.reserve_core.specs.declared.event.Event.{Event}
use Rattle.reserve_core.specs.declared.event.Event.TheVariants.{Commit, Verdict, Dropped}
use Rattle.reserve_core.specs.declared.fault.DeskFault.{DeskFault}
use Rattle.reserve_core.specs.declared.fault.DeskFault.TheVariants.{NotFailed}
use Rattle.reserve_core.proofs.Latest.{events-added, latest-push, latest-told, set-same}
use Rattle.reserve_core.proofs.Quiet.{filled-same, verdict-same}
use Rattle.reserve_core.proofs.Judged.{ready}
use Rattle.part_sizes.specs.Part.{data_parts}
use Rattle.ed2k_node.specs.Left.{GoesOn, HasNoFailed, IsComplete, IsJudged, IsSettled}

-- ---- what is added

pub goes_same : (old new : List Entry) → new ≡ old → GoesOn (events old) (events new)
goes_same old new is = record {
  more = [];
  grows = ap events is ∙ sym (append-nil (events old));
  foreign = λ p. refl;
  fills_none = λ n x filled. subst (λ (l : List Entry). is_filled n (events l) x ≡ true) is filled;
}

-- an event that fills nothing
FillsNone : Event → Type 0
FillsNone e = (n : ℕ) (h : List Event) (x : ℕ) → is_filled n (h ++ e ∷ []) x ≡ true → is_filled n h x ≡ true

goes_added : (old new : List Entry) (calls : ℕ) (e : Event) → new ≡ added old calls e → ((p : ℕ) → own (e ∷ []) p ≡ []) → FillsNone e → GoesOn (events old) (events new)
unfolding FillsNone
goes_added old new calls e is none fills = record {
  more = e ∷ [];
  grows = ap events is ∙ events-added old calls e;
  foreign = none;
  fills_none = λ n x filled. fills n (events old) x (subst (λ (h : List Event). is_filled n h x ≡ true) (ap events is ∙ events-added old calls e) filled);
}

quiet-fills : (e : Event) → ((n x : ℕ) → filled_by n x e ≡ None) → FillsNone e
unfolding FillsNone
quiet-fills e none n h x filled = sym (filled-same n h e x (none n x)) ∙ filled

opened-if : (before : Option Bool) (inside : Bool) → unwrap_or (option_or (then_some inside false) before) false ≡ true → unwrap_or before false ≡ true
opened-if before true filled = absurd (cc)
opened-if before false filled = filled

drop-fills : (i : ℕ) → FillsNone (Dropped i)
unfolding FillsNone
drop-fills i n h x filled =
    opened-if (latest (filled_by n x) h) (has (part_range n i) x)
    (sym (ap (λ (o : Option Bool). unwrap_or o false) (latest-push (filled_by n x) h (Dropped i))) ∙ filled)

pub goes_judged : (old new : List Entry) (calls i : ℕ) (digest : List ℕ) → new ≡ added old calls (Verdict i digest) → GoesOn (events old) (events new)
goes_judged old new calls i digest is = goes_added old new calls (Verdict i digest) is (λ p. refl) (quiet-fills (Verdict i digest) (λ n x. refl))

pub goes_dropped : (old new : List Entry) (calls i : ℕ) → new ≡ added old calls (Dropped i) → GoesOn (events old) (events new)
goes_dropped old new calls i is = goes_added old new calls (Dropped i) is (λ p. refl) (drop-fills i)

pub goes_committed : (old new : List Entry) (calls : ℕ) (b : Bool) → new ≡ (if b then added old calls Commit else old) → GoesOn (events old) (events new)
goes_committed old new calls true is = goes_added old new calls Commit is (λ p. refl) (quiet-fills Commit (λ n x. refl))
goes_committed old new calls false is = goes_same old new is

pub goes_through : (a b c : List Event) → GoesOn a b → GoesOn b c → GoesOn a c
goes_through a b c one two = record {
  more = one.more ++ two.more;
  grows = two.grows ∙ (ap (λ (h : List Event). h ++ two.more) one.grows ∙ append_assoc a one.more two.more);
  foreign = λ p. filter-append (is_own p) one.more two.more ∙ (ap (λ (h : List Event). h ++ own two.more p) (one.foreign p) ∙ two.foreign p);
  fills_none = λ n x filled. one.fills_none n x (two.fills_none n x filled);
}

-- ---- parts that are failed no more

failed-by : (wanted : Option (List ℕ)) (verdict : Option (List ℕ)) → verdict ≡ None → fails wanted verdict ≡ false
failed-by wanted verdict none = ap (fails wanted) none

dropped-now : (aim : Aim) (h : List Event) (i : ℕ) → is_failed aim (h ++ Dropped i ∷ []) i ≡ false
dropped-now aim h i =
    let test : (i == i) ≡ true = grind (arith, nat_tests) in
    failed-by (goal aim (h ++ Dropped i ∷ []) i) (verdict_of (h ++ Dropped i ∷ []) i)
    (ap (λ (o : Option (Option (List ℕ))). unwrap_or o None) (latest-told (verdict_by i) h (Dropped i) None (ap (λ b. then_some b None) test)))

dropped-other : (aim : Aim) (h : List Event) (i j : ℕ) → is_failed aim h j ≡ false → is_failed aim (h ++ Dropped i ∷ []) j ≡ false
dropped-other aim h i j before = elim (cases_eq i j) [
  | inl same ↦ subst (λ (k : ℕ). is_failed aim (h ++ Dropped i ∷ []) k ≡ false) same (dropped-now aim h i)
  | inr other ↦
      let test : (i == j) ≡ false = grind (arith, nat_tests) in
      let verdict = verdict-same h (Dropped i) j (ap (λ b. then_some b None) test) in
      let same : goal aim (h ++ Dropped i ∷ []) j ≡ goal aim h j = ap (λ (q : List (List ℕ)). goal_in aim q j) (set-same h (Dropped i) refl) in
      ap (λ (wanted : Option (List ℕ)). fails wanted (verdict_of (h ++ Dropped i ∷ []) j)) same ∙ (ap (fails (goal aim h j)) verdict ∙ before)
]

pub reopened_ok : (aim : Aim) (old new : List Entry) (calls i : ℕ) → new ≡ added old calls (Dropped i) → IsFalse (is_failed aim (events new) i)
reopened_ok aim old new calls i is =
    subst (λ (h : List Event). is_failed aim h i ≡ false) (sym (ap events is ∙ events-added old calls (Dropped i))) (dropped-now aim (events old) i)

pub reopened_others : (aim : Aim) (old new : List Entry) (calls i : ℕ) → new ≡ added old calls (Dropped i) → (j : ℕ) → IsFalse (is_failed aim (events old) j) → IsFalse (is_failed aim (events new) j)
reopened_others aim old new calls i is j before =
    subst (λ (h : List Event). is_failed aim h j ≡ false) (sym (ap events is ∙ events-added old calls (Dropped i))) (dropped-other aim (events old) i j before)

pub reopened_same : (aim : Aim) (old new : List Entry) → new ≡ old → (j : ℕ) → IsFalse (is_failed aim (events old) j) → IsFalse (is_failed aim (events new) j)
reopened_same aim old new is j before = subst (λ (l : List Entry). is_failed aim (events l) j ≡ false) (sym is) before

not-failed : (b : Bool) (fault : DeskFault) → then_some (not b) NotFailed ≡ Some fault → b ≡ false
not-failed true fault is = absurd (cc)
not-failed false fault is = refl

pub reopened_err : (aim : Aim) (old new : List Entry) (i : ℕ) (fault : DeskFault)
    → IsRefused (refusal aim (events old) (Dropped i)) fault → new ≡ old → IsFalse (is_outside fault) → IsFalse (is_failed aim (events new) i)
reopened_err aim old new i fault answer is inside = reopened_same aim old new is i (elim answer [
  | inl outside ↦ absurd (both_ways _ inside outside)
  | inr told ↦ not-failed (is_failed aim (events old) i) fault told
])

-- ---- what is settled stays

some-none : {Y : Type 0} (o : Option Y) → IsSome o → o ≡ None → ⊥
some-none None some none = absurd (cc)
some-none (Some y) some none = cc

-- a judged part is not judged again
pub judged_stays : (aim : Aim) (h : List Event) (i : ℕ) → refusal aim h (Verdict i []) ≡ None → IsJudged aim h i → ⊥
judged_stays aim h i free judged =
    let no = ready aim h i free in
    some-none (verdict_of h i) (judged (ap is_none no.full) no.set) no.unjudged

allowed-drop : (b : Bool) → then_some (not b) NotFailed ≡ None → b ≡ true
allowed-drop true free = refl
allowed-drop false free = absurd (cc)

-- a part that isn't failed is not dropped
pub whole_stays : (aim : Aim) (h : List Event) (i : ℕ) → refusal aim h (Dropped i) ≡ None → IsFalse (is_failed aim h i) → ⊥
whole_stays aim h i free whole = both_ways (is_failed aim h i) whole (allowed-drop (is_failed aim h i) free)

passes-some : (wanted found : Option (List ℕ)) → passes wanted found ≡ true → IsSome found
passes-some wanted None pass = absurd (cc)
passes-some wanted (Some d) pass = refl

passes-not-fails : (wanted found : Option (List ℕ)) → passes wanted found ≡ true → fails wanted found ≡ false
passes-not-fails wanted None pass = refl
passes-not-fails wanted (Some d) pass = ap not pass

pub complete_judged : (aim : Aim) (log : List Entry) → IsComplete aim (events log) → (i : ℕ) → i < data_parts aim.size → IsJudged aim (events log) i
complete_judged aim log all i within =
    λ full set. passes-some (goal aim (events log) i) (verdict_of (events log) i) (table_at (is_verified aim (events log)) (data_parts aim.size) all i within)

pub complete_whole : (aim : Aim) (log : List Entry) → IsComplete aim (events log) → HasNoFailed aim (events log)
complete_whole aim log all i within =
    passes-not-fails (goal aim (events log) i) (verdict_of (events log) i) (table_at (is_verified aim (events log)) (data_parts aim.size) all i within)

list_all-same : (p q : ℕ → Bool) → ((i : ℕ) → p i ≡ q i) → (xs : List ℕ) → list_all p xs ≡ list_all q xs
list_all-same p q same [] = refl
list_all-same p q same (x ∷ xs) = ap (λ (b : Bool). b && list_all p xs) (same x) ∙ ap (λ (b : Bool). q x && b) (list_all-same p q same xs)

commit-verified : (aim : Aim) (h : List Event) (i : ℕ) → is_verified aim (h ++ Commit ∷ []) i ≡ is_verified aim h i
commit-verified aim h i =
    let same : goal aim (h ++ Commit ∷ []) i ≡ goal aim h i = ap (λ (q : List (List ℕ)). goal_in aim q i) (set-same h Commit refl) in
    ap (λ (wanted : Option (List ℕ)). passes wanted (verdict_of (h ++ Commit ∷ []) i)) same ∙ ap (passes (goal aim h i)) (verdict-same h Commit i refl)

pub complete_committed : (aim : Aim) (old new : List Entry) (calls : ℕ) (b : Bool) → new ≡ (if b then added old calls Commit else old) → IsComplete aim (events old) → IsComplete aim (events new)
complete_committed aim old new calls true is all =
    subst (λ (h : List Event). list_all (is_verified aim h) (parts aim.size) ≡ true) (sym (ap events is ∙ events-added old calls Commit))
    (list_all-same (is_verified aim (events old ++ Commit ∷ [])) (is_verified aim (events old)) (commit-verified aim (events old)) (parts aim.size) ∙ all)
complete_committed aim old new calls false is all = subst (λ (l : List Entry). IsComplete aim (events l)) (sym is) all

-- ---- settling, call after call: a commit, the verdicts and the drops

none-committed : (old new : List Entry) (calls : ℕ) (b : Bool) → new ≡ (if b then added old calls Commit else old) → b ≡ false → new ≡ old
none-committed old new calls true is closed = absurd (cc)
none-committed old new calls false is closed = is

pub settle_still : (aim one two : Aim) (first mid last now : List Entry) (calls : ℕ) → one ≡ aim → two ≡ aim
    → mid ≡ (if is_uncommitted (events first) then added first calls Commit else first)
    → (((i : ℕ) → i < data_parts one.size → IsJudged one (events mid) i) → last ≡ mid) → (HasNoFailed two (events last) → now ≡ last)
    → IsSettled aim (events first) → HasNoFailed aim (events first) → now ≡ first
settle_still aim one two first mid last now calls is-one is-two commit judge drop settled whole =
    let here = none-committed first mid calls (is_uncommitted (events first)) commit settled.committed in
    let each = subst (λ (l : List Entry). (i : ℕ) → i < data_parts aim.size → IsJudged aim (events l) i) (sym here) settled.judged in
    let judged = judge (subst (λ (a : Aim). (i : ℕ) → i < data_parts a.size → IsJudged a (events mid) i) (sym is-one) each) in
    let whole_last = subst (λ (l : List Entry). HasNoFailed aim (events l)) (sym (judged ∙ here)) whole in
    drop (subst (λ (a : Aim). HasNoFailed a (events last)) (sym is-two) whole_last) ∙ (judged ∙ here)

pub judge_kept : (aim one : Aim) (first mid last : List Entry) (calls : ℕ) → one ≡ aim
    → mid ≡ (if is_uncommitted (events first) then added first calls Commit else first)
    → (((i : ℕ) → i < data_parts one.size → IsJudged one (events mid) i) → last ≡ mid) → IsComplete aim (events first) → IsComplete aim (events last)
judge_kept aim one first mid last calls is-one commit judge all =
    let all_mid = complete_committed aim first mid calls (is_uncommitted (events first)) commit all in
    let judged = judge (subst (λ (a : Aim). (i : ℕ) → i < data_parts a.size → IsJudged a (events mid) i) (sym is-one) (complete_judged aim mid all_mid)) in
    subst (λ (l : List Entry). IsComplete aim (events l)) (sym judged) all_mid

pub settle_kept : (aim one two : Aim) (first mid last now : List Entry) (calls : ℕ) → one ≡ aim → two ≡ aim
    → mid ≡ (if is_uncommitted (events first) then added first calls Commit else first)
    → (((i : ℕ) → i < data_parts one.size → IsJudged one (events mid) i) → last ≡ mid) → (HasNoFailed two (events last) → now ≡ last)
    → IsComplete aim (events first) → IsComplete aim (events now)
settle_kept aim one two first mid last now calls is-one is-two commit judge drop all =
    let all_last = judge_kept aim one first mid last calls is-one commit judge all in
    subst (λ (l : List Entry). IsComplete aim (events l)) (sym (drop (subst (λ (a : Aim). HasNoFailed a (events last)) (sym is-two) (complete_whole aim last all_last)))) all_last
