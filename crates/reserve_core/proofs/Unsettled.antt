-- Something is filled and not durable exactly where a Write stands after the last Commit.
use Rattle.std.proofs.Common.{◌≡◌, ◌≢◌, ◌⊎◌, ◌↔◌, ℕ, ◌+◌, ◌<◌, Bool, true, false, not, ◌&&◌, ◌||◌, ◌==◌, List, [], ◌∷◌, ◌++◌, Option, Some, None, unwrap_or, if◌then◌else◌, refl, ap, sym, ◌∙◌, subst, inl, inr, arith, IsFalse}
use Rattle.std.specs.Bool.{then_some}
use Rattle.std.specs.List.{list_any}
use Rattle.std.specs.Option.{option_or}
use Rattle.std.proofs.lemmas.Bool.{both_ways, cases_Bool, cases_eq}
use Rattle.std.proofs.lemmas.Bool.Decides.{nat_tests}
use Rattle.byte_ranges.specs.Spans.{IsApart}
use Rattle.part_hashset.specs.Goals.{fails}
use Rattle.part_hashset.specs.declared.aim.Aim.{Aim}
use Rattle.part_sizes.specs.Part.{part_of, part_range}
use Rattle.part_sizes.specs.Span.{has}
use Rattle.part_sizes.specs.declared.span.Span.{Span}
use Rattle.part_sizes.proofs.Laws.{has-part_of, has_between, part_of_alone}
use Rattle.reserve_core.specs.Events.{latest}
use Rattle.reserve_core.specs.Filled.{AreUnsettled, filled_by, is_commit, is_durable, is_filled, is_part_uncommitted, is_uncommitted, is_write, open_by, open_in_by, overlaps, settled_events}
use Rattle.reserve_core.specs.Legal.{Allowed, AreLegal}
use Rattle.reserve_core.specs.Verdicts.{goal, is_failed, verdict_by, verdict_of}
use Rattle.reserve_core.specs.declared.event.Event.{Event}
use Rattle.reserve_core.specs.declared.event.Event.TheVariants.{Opened, Hashes, Offer, Reserve, Write, Release, Commit, Verdict, Recovered, Dropped}
use Rattle.reserve_core.proofs.Durable.{durable-filled}
use Rattle.reserve_core.proofs.Fresh.{durable-quiet, settled-write}
use Rattle.reserve_core.proofs.Latest.{latest-still, latest-told}
use Rattle.reserve_core.proofs.LegalLogs.{over-legal}
use Rattle.reserve_core.proofs.Quiet.{filled-same, open_in-same, verdict-same}
use Rattle.reserve_core.proofs.Writable.{Kept, kept-allowed, kept-opened, writable_begins}

-- a position was written and isn't durable: its part was written into since the last commit, and has no verdict
pub record IsOpen (n : ℕ) (h : List Event) : Type 0 where
  pub place : ℕ
  pub inside : place < n
  pub filled : is_filled n h place ≡ true
  pub undurable : is_durable n h place ≡ false
  pub unjudged : verdict_of h (part_of place) ≡ None
  pub uncommitted : is_part_uncommitted n h (part_of place) ≡ true

-- an event that says nothing of the position and of its part
kept-open : (n : ℕ) (h : List Event) (e : Event) (o : IsOpen n h) → filled_by n o.place e ≡ None → verdict_by (part_of o.place) e ≡ None
    → open_in_by n (part_of o.place) e ≡ None → is_write e ≡ false → is_commit e ≡ false → IsOpen n (h ++ e ∷ [])
kept-open n h e o fills judges meets write commit = record {
  place = o.place;
  inside = o.inside;
  filled = filled-same n h e o.place fills ∙ o.filled;
  undurable = durable-quiet n h e o.place fills write commit ∙ o.undurable;
  unjudged = verdict-same h e (part_of o.place) judges ∙ o.unjudged;
  uncommitted = open_in-same n h e (part_of o.place) meets ∙ o.uncommitted;
}

abbrev HasOpen : ℕ → List Event → Type 0
HasOpen n h = is_uncommitted h ≡ true → IsOpen n h

-- what was uncommitted before an event that neither writes nor commits
was : (h : List Event) (e : Event) → open_by e ≡ None → is_uncommitted (h ++ e ∷ []) ≡ true → is_uncommitted h ≡ true
was h e silent is = sym (ap (λ o. unwrap_or o false) (latest-still open_by h e silent)) ∙ is

none-of : (v : Option (List ℕ)) → ((d : List ℕ) → v ≡ Some d → ⊥) → v ≡ None
none-of None never_some = refl
none-of (Some d) never_some = absurd (never_some d refl)

written-open : (n : ℕ) (h : List Event) (p : ℕ) (r : Span) → Kept n h → Allowed (record { size = n; hash = []; root = None }) h (Write p r) → IsOpen n (h ++ Write p r ∷ [])
written-open n h p r kept may =
    let b = writable_begins n h p r kept may in
    let here : has r r.s ≡ true = has_between r r.s (omega arith) b.some in
    let home : has (part_range n (part_of r.s)) r.s ≡ true = has-part_of n r.s b.within in
    let meets : overlaps r (part_range n (part_of r.s)) ≡ true = (let at = home in let some = b.some in grind (arith, nat_tests)) in
    let dry : is_durable n h r.s ≡ false = elim (cases_Bool (is_durable n h r.s)) [
      | inl wet ↦ absurd (both_ways (is_filled n h r.s) b.unfilled (durable-filled n h r.s wet))
      | inr out ↦ out
    ] in
    record {
      place = r.s;
      inside = b.within;
      filled = ap (λ o. unwrap_or o false) (latest-told (filled_by n r.s) h (Write p r) true (ap (λ c. then_some c true) here));
      undurable = ap (λ g. is_filled n g r.s) (settled-write h p r) ∙ dry;
      unjudged = verdict-same h (Write p r) (part_of r.s) refl ∙ none-of (verdict_of h (part_of r.s)) (λ d is. b.unjudged (part_of r.s) d is home);
      uncommitted = ap (λ o. unwrap_or o false) (latest-told (open_in_by n (part_of r.s)) h (Write p r) true (ap (λ c. then_some c true) meets));
    }

-- an event of another part
elsewhere : (n j x : ℕ) → j ≢ part_of x → has (part_range n j) x ≡ false
elsewhere n j x other = elim (cases_Bool (has (part_range n j) x)) [
  | inl there ↦ absurd (other (sym (part_of_alone n j x there)))
  | inr out ↦ out
]

-- a part that failed has a verdict
failed-not : (wanted v : Option (List ℕ)) → fails wanted v ≡ true → v ≡ None → ⊥
failed-not wanted None failed is = absurd (cc)
failed-not wanted (Some d) failed is = absurd (cc)

opened-open : (aim : Aim) (h : List Event) (e : Event) (j : ℕ) → is_failed aim h j ≡ true → ((i : ℕ) → verdict_by i e ≡ then_some (j == i) None)
    → ((x : ℕ) → has (part_range aim.size j) x ≡ false → filled_by aim.size x e ≡ None) → ((i : ℕ) → open_in_by aim.size i e ≡ None) → is_write e ≡ false → is_commit e ≡ false
    → IsOpen aim.size h → IsOpen aim.size (h ++ e ∷ [])
opened-open aim h e j failed judges fills meets write commit o =
    elim (cases_eq j (part_of o.place)) [
      | inl own ↦ absurd (failed-not (goal aim h j) (verdict_of h j) failed (ap (verdict_of h) own ∙ o.unjudged))
      | inr other ↦
          let test : (j == part_of o.place) ≡ false = grind (arith, nat_tests) in
          kept-open aim.size h e o (fills o.place (elsewhere aim.size j o.place other)) (judges (part_of o.place) ∙ ap (λ b. then_some b None) test) (meets (part_of o.place)) write commit
    ]

judged-open : (aim : Aim) (h : List Event) (j : ℕ) (d : List ℕ) → is_part_uncommitted aim.size h j ≡ false → IsOpen aim.size h → IsOpen aim.size (h ++ Verdict j d ∷ [])
judged-open aim h j d committed o =
    elim (cases_eq j (part_of o.place)) [
      | inl own ↦ absurd (both_ways (is_part_uncommitted aim.size h (part_of o.place)) (subst (λ (i : ℕ). is_part_uncommitted aim.size h i ≡ false) own committed) o.uncommitted)
      | inr other ↦
          let test : (j == part_of o.place) ≡ false = grind (arith, nat_tests) in
          kept-open aim.size h (Verdict j d) o refl (ap (λ b. then_some b (Some d)) test) refl refl refl
    ]

allowed-open : (aim : Aim) (h : List Event) (e : Event) → Allowed aim h e → Kept aim.size h → HasOpen aim.size h → HasOpen aim.size (h ++ e ∷ [])
allowed-open aim h (Opened o) allowed kept had is = absurd allowed
allowed-open aim h (Hashes q) allowed kept had is = kept-open aim.size h (Hashes q) (had (was h (Hashes q) refl is)) refl refl refl refl refl
allowed-open aim h (Offer p bits) allowed kept had is = kept-open aim.size h (Offer p bits) (had (was h (Offer p bits) refl is)) refl refl refl refl refl
allowed-open aim h (Reserve p spans) allowed kept had is = kept-open aim.size h (Reserve p spans) (had (was h (Reserve p spans) refl is)) refl refl refl refl refl
allowed-open aim h (Write p r) allowed kept had is = written-open aim.size h p r kept allowed
allowed-open aim h (Release p) allowed kept had is = kept-open aim.size h (Release p) (had (was h (Release p) refl is)) refl refl refl refl refl
allowed-open aim h Commit allowed kept had is =
    let shut : is_uncommitted (h ++ Commit ∷ []) ≡ false = ap (λ o. unwrap_or o false) (latest-told open_by h Commit false refl) in
    absurd (both_ways (is_uncommitted (h ++ Commit ∷ [])) shut is)
allowed-open aim h (Verdict j d) allowed kept had is = judged-open aim h j d allowed.committed (had (was h (Verdict j d) refl is))
allowed-open aim h (Recovered j bits) allowed kept had is =
    opened-open aim h (Recovered j bits) j allowed.failed (λ i. refl) (λ x out. rw out refl) (λ i. refl) refl refl (had (was h (Recovered j bits) refl is))
allowed-open aim h (Dropped j) allowed kept had is =
    opened-open aim h (Dropped j) j allowed.1 (λ i. refl) (λ x out. ap (λ b. then_some b false) out) (λ i. refl) refl refl (had (was h (Dropped j) refl is))

pub uncommitted-open : (aim : Aim) (h : List Event) → AreLegal aim h → is_uncommitted h ≡ true → IsOpen aim.size h
uncommitted-open aim h legal =
    (over-legal aim (λ h. Kept aim.size h × HasOpen aim.size h)
    (λ h e allowed so. (kept-allowed aim h e allowed so.0, allowed-open aim h e allowed so.0 so.1))
    (λ o is. (kept-opened aim o is, λ stands. absurd (cc))) h legal).1

-- where no Write stands after the last Commit, all that is filled is durable

-- a Commit stands where the newest word is that nothing is open
closes : (e : Event) → open_by e ≡ Some false → is_commit e ≡ true
closes Commit is = refl
closes (Write p r) is = absurd (let t : true ≡ false = cc in cc)
closes (Opened o) is = absurd (cc)
closes (Hashes q) is = absurd (cc)
closes (Offer p bits) is = absurd (cc)
closes (Reserve p spans) is = absurd (cc)
closes (Release p) is = absurd (cc)
closes (Verdict i d) is = absurd (cc)
closes (Recovered i kept) is = absurd (cc)
closes (Dropped i) is = absurd (cc)

either : (a b : Bool) → (a ≡ true) ⊎ (b ≡ true) → (a || b) ≡ true
either true b some = refl
either false true some = refl
either false false (inl is) = absurd (cc)
either false false (inr is) = absurd (cc)

commits-by : (o : Option Bool) (e : Event) (h : List Event) → latest open_by h ≡ o → option_or o (open_by e) ≡ Some false
    → (latest open_by h ≡ Some false → list_any is_commit h ≡ true) → list_any is_commit (e ∷ h) ≡ true
commits-by None e h at is later = either (is_commit e) (list_any is_commit h) (inl (closes e is))
commits-by (Some b) e h at is later = either (is_commit e) (list_any is_commit h) (inr (later (at ∙ is)))

closed-commits : (h : List Event) → latest open_by h ≡ Some false → list_any is_commit h ≡ true
closed-commits [] is = absurd (cc)
closed-commits (e ∷ h) is = commits-by (latest open_by h) e h refl is (closed-commits h)

silent-writes : (e : Event) → unwrap_or (open_by e) false ≡ false → is_write e ≡ false
silent-writes (Write p r) is = absurd (cc)
silent-writes (Opened o) is = refl
silent-writes (Hashes q) is = refl
silent-writes (Offer p bits) is = refl
silent-writes (Reserve p spans) is = refl
silent-writes (Release p) is = refl
silent-writes Commit is = refl
silent-writes (Verdict i d) is = refl
silent-writes (Recovered i kept) is = refl
silent-writes (Dropped i) is = refl

stays-in : (out : Bool) (e : Event) (h : List Event) → out ≡ false → settled_events h ≡ h → (if out then settled_events h else e ∷ settled_events h) ≡ e ∷ h
stays-in out e h is same = rw is (ap (λ g. e ∷ g) same)

never : (b : Bool) → (b && not true) ≡ false
never true = refl
never false = refl

settled-by : (o : Option Bool) (e : Event) (h : List Event) → latest open_by h ≡ o → unwrap_or (option_or o (open_by e)) false ≡ false
    → (is_uncommitted h ≡ false → settled_events h ≡ h) → settled_events (e ∷ h) ≡ e ∷ h
settled-by None e h at is later =
    stays-in (is_write e && not (list_any is_commit h)) e h (rw (silent-writes e is) refl) (later (ap (λ o. unwrap_or o false) at))
settled-by (Some true) e h at is later = absurd (cc)
settled-by (Some false) e h at is later =
    stays-in (is_write e && not (list_any is_commit h)) e h (rw (closed-commits h at) (never (is_write e))) (later (ap (λ o. unwrap_or o false) at))

committed-settled : (h : List Event) → is_uncommitted h ≡ false → settled_events h ≡ h
committed-settled [] is = refl
committed-settled (e ∷ h) is = settled-by (latest open_by h) e h refl is (committed-settled h)

-- so nothing is unsettled exactly where nothing is uncommitted
pub none-unsettled : (aim : Aim) (h : List Event) (spans : List Span) → AreLegal aim h → AreUnsettled aim.size h spans → (spans ≡ []) ↔ IsFalse (is_uncommitted h)
none-unsettled aim h spans legal are = (
  λ none. elim (cases_Bool (is_uncommitted h)) [
    | inl stands ↦
        let o = uncommitted-open aim h legal stands in
        let each : list_any (λ r. has r o.place) [] ≡ (is_filled aim.size h o.place && not (is_durable aim.size h o.place)) = subst (λ (s : List Span). list_any (λ r. has r o.place) s ≡ (is_filled aim.size h o.place && not (is_durable aim.size h o.place))) none (are.each o.place) in
        absurd (both_ways (is_filled aim.size h o.place && not (is_durable aim.size h o.place)) (sym each) (rw (o.filled, o.undurable) refl))
    | inr out ↦ out
  ],
  λ shut. by_spans spans are.apart are.each (λ x. ap (λ g. is_filled aim.size g x) (committed-settled h shut)),
)
  where
    nothing : (b : Bool) → (b && not b) ≡ false
    nothing true = refl
    nothing false = refl

    by_spans : (spans : List Span) → IsApart 0 (aim.size + 1) spans → ((x : ℕ) → list_any (λ r. has r x) spans ≡ (is_filled aim.size h x && not (is_durable aim.size h x))) → ((x : ℕ) → is_durable aim.size h x ≡ is_filled aim.size h x) → spans ≡ []
    by_spans [] apart each same = refl
    by_spans (r ∷ spans) apart each same =
        let here : has r r.s ≡ true = has_between r r.s (omega arith) apart.1 in
        let told : list_any (λ q. has q r.s) (r ∷ spans) ≡ false = each r.s ∙ (rw (same r.s) (nothing (is_filled aim.size h r.s))) in
        absurd (both_ways (list_any (λ q. has q r.s) (r ∷ spans)) told (rw here refl))
