-- In a legal log each part that has a verdict is full.
use Rattle.std.proofs.Common.{◌≡◌, ◌≢◌, ℕ, ◌+◌, ◌<◌, ◌≤◌, Bool, true, false, not, ◌==◌, List, [], ◌∷◌, ◌++◌, Option, Some, None, unwrap_or, is_none, refl, ap, sym, ◌∙◌, subst, arith, inl, inr, append-nil, append_assoc}
use Rattle.std.specs.Bool.{then_some}
use Rattle.std.specs.Option.{option_or}
use Rattle.std.proofs.lemmas.Bool.{cases_Bool, cases_eq, not-false}
use Rattle.std.proofs.lemmas.Bool.Decides.{nat_tests}
use Rattle.part_hashset.specs.declared.aim.Aim.{Aim}
use Rattle.part_sizes.specs.Part.{part_range}
use Rattle.part_sizes.specs.Span.{has}
use Rattle.part_sizes.specs.declared.small_lists.Pair.{Pair}
use Rattle.part_sizes.specs.declared.span.Span.{Span}
use Rattle.part_sizes.proofs.Laws.{between_has, part_of_alone}
use Rattle.part_sizes.proofs.Positions.{find-positions_none}
use Rattle.reserve_core.specs.Events.{latest}
use Rattle.reserve_core.specs.Filled.{filled_by, first_unfilled, is_filled, is_full}
use Rattle.reserve_core.specs.Legal.{AreLegal, AreVerdicts, Allowed, Follows}
use Rattle.part_hashset.specs.Goals.{digest_in, passes}
use Rattle.reserve_core.specs.Verdicts.{goal, is_verified, verdict_by, verdict_of}
use Rattle.reserve_core.specs.declared.event.Event.{Event}
use Rattle.reserve_core.specs.declared.event.Event.TheVariants.{Opened, Hashes, Offer, Reserve, Write, Release, Commit, Verdict, Recovered, Dropped}
use Rattle.reserve_core.proofs.Latest.{latest-push, latest-told}
use Rattle.reserve_core.proofs.Quiet.{filled-same, verdict-same}
use Rattle.reserve_core.proofs.Runs.{before_find_positions}

-- a full part is one whose positions are all filled

pub full_has : (n : ℕ) (h : List Event) (i x : ℕ) → is_full n h i ≡ true → has (part_range n i) x ≡ true → is_filled n h x ≡ true
full_has n h i x full here =
    let ends = between_has (part_range n i) x here in
    not-false (is_filled n h x) (by_found (first_unfilled n h i) refl full ends.0 ends.1)
  where
    by_found : (o : Option ℕ) → first_unfilled n h i ≡ o → is_none o ≡ true → (part_range n i).s ≤ x → x < (part_range n i).e → not (is_filled n h x) ≡ false
    by_found None is none low high = before_find_positions (λ y. not (is_filled n h y)) (part_range n i) x low (subst (λ (o : Option ℕ). x < unwrap_or o (part_range n i).e) (sym is) high)
    by_found (Some y) is none low high = absurd (cc)

pub full_of : (n : ℕ) (h : List Event) (i : ℕ) → ((x : ℕ) → has (part_range n i) x ≡ true → is_filled n h x ≡ true) → is_full n h i ≡ true
full_of n h i each = ap is_none (find-positions_none (λ x. not (is_filled n h x)) (part_range n i) (λ x here. ap not (each x here)))

-- a part stays full where each of its positions stays filled
still_full : (n : ℕ) (h : List Event) (e : Event) (i : ℕ) → ((x : ℕ) → has (part_range n i) x ≡ true → is_filled n h x ≡ true → is_filled n (h ++ e ∷ []) x ≡ true) → is_full n h i ≡ true → is_full n (h ++ e ∷ []) i ≡ true
still_full n h e i stays full = full_of n (h ++ e ∷ []) i (λ x here. stays x here (full_has n h i x full here))

-- each part that has a verdict is full
abbrev AreFull : ℕ → List Event → Type 0
AreFull n h = (i : ℕ) (d : List ℕ) → verdict_of h i ≡ Some d → is_full n h i ≡ true

-- an event that neither judges nor opens anything
quiet_full : (n : ℕ) (h : List Event) (e : Event) → ((i : ℕ) → verdict_by i e ≡ None) → ((x : ℕ) → filled_by n x e ≡ None) → AreFull n h → AreFull n (h ++ e ∷ [])
quiet_full n h e judges fills full i d told =
    still_full n h e i (λ x here filled. filled-same n h e x (fills x) ∙ filled) (full i d (sym (verdict-same h e i (judges i)) ∙ told))

-- a write only fills

fills_more : (here : Bool) (o : Option Bool) → unwrap_or o false ≡ true → unwrap_or (option_or (then_some here true) o) false ≡ true
fills_more true o filled = refl
fills_more false o filled = filled

write_full : (n : ℕ) (h : List Event) (p : ℕ) (r : Span) → AreFull n h → AreFull n (h ++ Write p r ∷ [])
write_full n h p r full i d told =
    still_full n h (Write p r) i
    (λ x here filled. ap (λ o. unwrap_or o false) (latest-push (filled_by n x) h (Write p r)) ∙ fills_more (has r x) (latest (filled_by n x) h) filled)
    (full i d (sym (verdict-same h (Write p r) i refl) ∙ told))

-- a part that is judged is full

verdict_full : (n : ℕ) (h : List Event) (j : ℕ) (digest : List ℕ) → is_full n h j ≡ true → AreFull n h → AreFull n (h ++ Verdict j digest ∷ [])
verdict_full n h j digest judged full i d told =
    still_full n h (Verdict j digest) i (λ x here filled. filled-same n h (Verdict j digest) x refl ∙ filled)
    (elim (cases_eq j i) [
      | inl own ↦ subst (λ (k : ℕ). is_full n h k ≡ true) own judged
      | inr other ↦
          let test : (j == i) ≡ false = grind (arith, nat_tests) in
          full i d (sym (verdict-same h (Verdict j digest) i (ap (λ b. then_some b (Some digest)) test)) ∙ told)
    ])

-- a part that is opened again loses its verdict, and the others stay as they were

other_part : (n i j x : ℕ) → j ≢ i → has (part_range n i) x ≡ true → has (part_range n j) x ≡ false
other_part n i j x other here =
    elim (cases_Bool (has (part_range n j) x)) [
      | inl there ↦ absurd (other (sym (part_of_alone n j x there) ∙ part_of_alone n i x here))
      | inr out ↦ out
    ]

opened_full : (n : ℕ) (h : List Event) (e : Event) (j : ℕ) → ((i : ℕ) → verdict_by i e ≡ then_some (j == i) None) → ((x : ℕ) → has (part_range n j) x ≡ false → filled_by n x e ≡ None) → AreFull n h → AreFull n (h ++ e ∷ [])
opened_full n h e j judges fills full i d told =
    elim (cases_eq j i) [
      | inl own ↦
          let test : (j == i) ≡ true = grind (arith, nat_tests) in
          let lost : verdict_of (h ++ e ∷ []) i ≡ None = ap (λ o. unwrap_or o None) (latest-told (verdict_by i) h e None (judges i ∙ ap (λ b. then_some b None) test)) in
          absurd (cc)
      | inr other ↦
          let test : (j == i) ≡ false = grind (arith, nat_tests) in
          still_full n h e i (λ x here filled. filled-same n h e x (fills x (other_part n i j x other here)) ∙ filled)
          (full i d (sym (verdict-same h e i (judges i ∙ ap (λ b. then_some b None) test)) ∙ told))
    ]

-- what is allowed leaves it so
allowed_full : (aim : Aim) (h : List Event) (e : Event) → Allowed aim h e → AreFull aim.size h → AreFull aim.size (h ++ e ∷ [])
allowed_full aim h (Opened o) allowed full = absurd allowed
allowed_full aim h (Hashes set) allowed full = quiet_full aim.size h (Hashes set) (λ i. refl) (λ x. refl) full
allowed_full aim h (Offer p bits) allowed full = quiet_full aim.size h (Offer p bits) (λ i. refl) (λ x. refl) full
allowed_full aim h (Reserve p spans) allowed full = quiet_full aim.size h (Reserve p spans) (λ i. refl) (λ x. refl) full
allowed_full aim h (Write p r) allowed full = write_full aim.size h p r full
allowed_full aim h (Release p) allowed full = quiet_full aim.size h (Release p) (λ i. refl) (λ x. refl) full
allowed_full aim h Commit allowed full = quiet_full aim.size h Commit (λ i. refl) (λ x. refl) full
allowed_full aim h (Verdict j digest) allowed full = verdict_full aim.size h j digest allowed.full full
allowed_full aim h (Recovered j kept) allowed full =
    opened_full aim.size h (Recovered j kept) j (λ i. refl) (λ x out. rw out refl) full
allowed_full aim h (Dropped j) allowed full = opened_full aim.size h (Dropped j) j (λ i. refl) (λ x out. ap (λ b. then_some b false) out) full

follows_full : (aim : Aim) (before h : List Event) → Follows aim before h → AreFull aim.size before → AreFull aim.size (before ++ h)
follows_full aim before [] follows full = subst (λ (log : List Event). AreFull aim.size log) (sym (append-nil before)) full
follows_full aim before (e ∷ h) follows full =
    subst (λ (log : List Event). AreFull aim.size log) (append_assoc before (e ∷ []) h) (follows_full aim (before ++ e ∷ []) h follows.1 (allowed_full aim before e follows.0 full))

-- the parts that an opened log lists are full

listed : (n : ℕ) (h : List Event) (low : ℕ) (pairs : List Pair) (i : ℕ) (d : List ℕ) → AreVerdicts n h low pairs → digest_in pairs i ≡ Some d → is_full n h i ≡ true
listed n h low [] i d each told = absurd (cc)
listed n h low (pair ∷ pairs) i d each told =
    elim (cases_eq pair.part i) [
      | inl own ↦ subst (λ (k : ℕ). is_full n h k ≡ true) own each.2
      | inr other ↦
          let test : (pair.part == i) ≡ false = grind (arith, nat_tests) in
          listed n h (pair.part + 1) pairs i d each.3 (sym (rw test refl) ∙ told)
    ]

legal_full : (aim : Aim) (h : List Event) → AreLegal aim h → AreFull aim.size h
legal_full aim [] legal = absurd legal
legal_full aim (Opened o ∷ h) legal =
    follows_full aim (Opened o ∷ []) h legal.1 (λ i d told. listed aim.size (Opened o ∷ []) 0 o.verdicts i d legal.0.verdicts told)
legal_full aim (_ ∷ h) legal = absurd legal.0

-- a part that is verified is full
pub verified_full : (aim : Aim) (h : List Event) (i : ℕ) → AreLegal aim h → is_verified aim h i ≡ true → is_full aim.size h i ≡ true
verified_full aim h i legal verified = by_verdict (verdict_of h i) refl verified
  where
    by_verdict : (v : Option (List ℕ)) → verdict_of h i ≡ v → passes (goal aim h i) v ≡ true → is_full aim.size h i ≡ true
    by_verdict None is passed = absurd (cc)
    by_verdict (Some d) is passed = legal_full aim h legal i d is
