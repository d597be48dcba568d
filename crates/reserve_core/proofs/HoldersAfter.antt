-- What is kept for each peer after an event that changes it.
use Rattle.std.proofs.Common.{◌≡◌, ◌≢◌, ℕ, ◌+◌, ◌≤◌, Bool, true, false, not, ◌&&◌, ◌||◌, ◌==◌, List, [], ◌∷◌, ◌++◌, length, map, cond, refl, ap, sym, ◌∙◌, subst, arith, inl, inr}
use Rattle.std.specs.Bool.{then_some}
use Rattle.std.specs.List.{filter}
use Rattle.std.proofs.lemmas.Bool.{both_ways, cases_eq}
use Rattle.std.proofs.lemmas.Bool.Decides.{nat_tests}
use Rattle.std.proofs.lemmas.List.{append-nil}
use Rattle.std.proofs.lemmas.List.Elements.{filter-append}
use Rattle.byte_ranges.specs.RangeSet.{RangeSet}
use Rattle.byte_ranges.specs.Spans.{Each}
use Rattle.part_hashset.specs.declared.aim.Aim.{Aim}
use Rattle.part_sizes.specs.Span.{has}
use Rattle.part_sizes.specs.declared.span.Span.{Span}
use Rattle.reserve_core.specs.Choice.{pick_of}
use Rattle.reserve_core.specs.Events.{events, raise}
use Rattle.reserve_core.specs.Free.{has_any, is_kept}
use Rattle.reserve_core.specs.Held.{hold_after, holds_of, is_held, is_holder, is_open, lies, range_of, reserved_holds}
use Rattle.reserve_core.specs.Holders.{Ascends, HoldersStand, Replaces, kept_for}
use Rattle.reserve_core.specs.Steps.{advance, past, stays}
use Rattle.reserve_core.specs.Tells.{CoreKeeps}
use Rattle.reserve_core.specs.declared.event.Entry.{Entry}
use Rattle.reserve_core.specs.declared.event.Event.{Event}
use Rattle.reserve_core.specs.declared.event.Event.TheVariants.{Release, Reserve, Write}
use Rattle.reserve_core.specs.declared.hold.Hold.{Hold}
use Rattle.reserve_core.specs.declared.hold.Holder.{Holder}
use Rattle.reserve_core.specs.declared.offers.Offerer.{Offerer}
use Rattle.reserve_core.specs.declared.part_state.PartState.{PartState}
use Rattle.reserve_core.proofs.Answered.{is_holder-is}
use Rattle.reserve_core.proofs.Events.{holds-release, holds-write}
use Rattle.reserve_core.proofs.HolderEdits.{kept-below}
use Rattle.reserve_core.proofs.Lists.{or_cases, or_left, or_right}
use Rattle.reserve_core.proofs.OneHolder.{any-kept}
use Rattle.reserve_core.proofs.Reserved.{holds-reserve}
use Rattle.reserve_core.proofs.Runs.{IsRun, pick_runs}

abbrev owns : ℕ → Hold → Bool
owns p k = k.peer == p

-- an edit of one peer's ranges, where those of all others stay
after : (h next : List Event) (old new : List Holder) (p : ℕ) (ranges : List Hold) → Replaces old new p ranges → HoldersStand h old
    → ranges ≡ filter (owns p) (holds_of next)
    → ((q : ℕ) → q ≢ p → filter (owns q) (holds_of h) ≡ filter (owns q) (holds_of next))
    → HoldersStand next new
after h next old new p ranges edit stand own others = record { ascend = edit.ascend; ranges = each }
  where
    each : (q : ℕ) → kept_for new q ≡ filter (owns q) (holds_of next)
    each q = elim (cases_eq q p) [
      | inl same ↦ subst (λ (k : ℕ). kept_for new k ≡ filter (owns k) (holds_of next)) (sym same) (edit.own ∙ own)
      | inr other ↦ edit.others q other ∙ stand.ranges q ∙ others q other
    ]

-- Release

none-left : (p : ℕ) (ks : List Hold) → filter (owns p) (filter (stays (Release p)) ks) ≡ []
none-left p [] = refl
none-left p (k ∷ ks) =
    elim (cases_eq k.peer p) [
      | inl own ↦ let gone : stays (Release p) k ≡ false = grind (arith, nat_tests) in rw gone (none-left p ks)
      | inr other ↦
          let here : stays (Release p) k ≡ true = grind (arith, nat_tests) in
          let test : owns p k ≡ false = grind (arith, nat_tests) in
          rw (here, test) (none-left p ks)
    ]

others-stay : (p q : ℕ) (ks : List Hold) → q ≢ p → filter (owns q) ks ≡ filter (owns q) (filter (stays (Release p)) ks)
others-stay p q [] other = refl
others-stay p q (k ∷ ks) other =
    elim (cases_eq k.peer p) [
      | inl own ↦
          let gone : stays (Release p) k ≡ false = grind (arith, nat_tests) in
          let test : owns q k ≡ false = grind (arith, nat_tests) in
          rw (gone, test) (others-stay p q ks other)
      | inr foreign ↦
          let here : stays (Release p) k ≡ true = grind (arith, nat_tests) in
          rw here (ap (λ js. cond (owns q k) (k ∷ js) js) (others-stay p q ks other))
    ]

pub holders-release : (h : List Event) (old new : List Holder) (p : ℕ) → Replaces old new p [] → HoldersStand h old → HoldersStand (h ++ Release p ∷ []) new
holders-release h old new p edit stand =
    after h (h ++ Release p ∷ []) old new p [] edit stand
    (sym (ap (filter (owns p)) (holds-release h p) ∙ none-left p (holds_of h)))
    (λ q other. others-stay p q (holds_of h) other ∙ ap (filter (owns q)) (sym (holds-release h p)))

-- Write

-- a range of another peer is left out anyway
passed-by : (p : ℕ) (k : Hold) (ks : List Hold) (b : Bool) → owns p k ≡ false → filter (owns p) ks ≡ filter (owns p) (cond b (k ∷ ks) ks)
passed-by p k ks true other = sym (ap (λ c. cond c (k ∷ filter (owns p) ks) (filter (owns p) ks)) other)
passed-by p k ks false other = refl

taken-in : (p : ℕ) (k : Hold) (js ks : List Hold) (b : Bool) → owns p k ≡ true → js ≡ filter (owns p) ks → cond b (k ∷ js) js ≡ filter (owns p) (cond b (k ∷ ks) ks)
taken-in p k js ks true own same = ap (λ hs. k ∷ hs) same ∙ sym (ap (λ c. cond c (k ∷ filter (owns p) ks) (filter (owns p) ks)) own)
taken-in p k js ks false own same = same

own-one : (r : Span) (k : Hold) (ks : List Hold) → filter is_open (map (past r) (filter (owns k.peer) ks)) ≡ filter (owns k.peer) (filter is_open (map (advance (Write k.peer r)) ks))
    → filter is_open (map (past r) (filter (owns k.peer) (k ∷ ks))) ≡ filter (owns k.peer) (filter is_open (map (advance (Write k.peer r)) (k ∷ ks)))
own-one r k ks same =
    let test : owns k.peer k ≡ true = grind (arith, nat_tests) in
    ap (λ b. filter is_open (map (past r) (cond b (k ∷ filter (owns k.peer) ks) (filter (owns k.peer) ks)))) test
    ∙ taken-in k.peer (past r k) (filter is_open (map (past r) (filter (owns k.peer) ks))) (filter is_open (map (advance (Write k.peer r)) ks)) (is_open (past r k)) test same

own-moved : (p : ℕ) (r : Span) (ks : List Hold) → filter is_open (map (past r) (filter (owns p) ks)) ≡ filter (owns p) (filter is_open (map (advance (Write p r)) ks))
own-moved p r [] = refl
own-moved p r (k ∷ ks) =
    elim (cases_eq k.peer p) [
      | inl own ↦ subst (λ (q : ℕ). filter is_open (map (past r) (filter (owns q) (k ∷ ks))) ≡ filter (owns q) (filter is_open (map (advance (Write q r)) (k ∷ ks)))) own (own-one r k ks (own-moved k.peer r ks))
      | inr other ↦
          let test : owns p k ≡ false = grind (arith, nat_tests) in
          let rest = filter is_open (map (advance (Write p r)) ks) in
          ap (λ b. filter is_open (map (past r) (cond b (k ∷ filter (owns p) ks) (filter (owns p) ks)))) test
          ∙ own-moved p r ks
          ∙ passed-by p (advance (Write p r) k) rest (is_open (advance (Write p r) k)) test
    ]

-- a range of another peer stays where it is
still-there : (p : ℕ) (r : Span) (k : Hold) → k.peer ≢ p → advance (Write p r) k ≡ k
still-there p r k other =
    let test : ((p == k.peer) && lies r k.whole) ≡ false = grind (arith, nat_tests) in
    ap (λ (b : Bool). let j : Hold = record { peer = k.peer; whole = k.whole; from = raise (then_some b r.e) k.from } in j) test

others-one : (p q : ℕ) (r : Span) (k : Hold) (ks : List Hold) → is_open k ≡ true → q ≢ p → filter (owns q) ks ≡ filter (owns q) (filter is_open (map (advance (Write p r)) ks))
    → filter (owns q) (k ∷ ks) ≡ filter (owns q) (filter is_open (map (advance (Write p r)) (k ∷ ks)))
others-one p q r k ks was other same =
    let rest = filter is_open (map (advance (Write p r)) ks) in
    elim (cases_eq k.peer p) [
      | inl own ↦
          let test : owns q k ≡ false = grind (arith, nat_tests) in
          ap (λ b. cond b (k ∷ filter (owns q) ks) (filter (owns q) ks)) test
          ∙ same
          ∙ passed-by q (advance (Write p r) k) rest (is_open (advance (Write p r) k)) test
      | inr foreign ↦
          ap (λ js. cond (owns q k) (k ∷ js) js) same
          ∙ sym (ap (λ (j : Hold). filter (owns q) (cond (is_open j) (j ∷ rest) rest)) (still-there p r k foreign) ∙ ap (λ b. filter (owns q) (cond b (k ∷ rest) rest)) was)
    ]

others-moved : (p q : ℕ) (r : Span) (ks : List Hold) → q ≢ p → filter (owns q) (filter is_open ks) ≡ filter (owns q) (filter is_open (map (advance (Write p r)) (filter is_open ks)))
others-moved p q r [] other = refl
others-moved p q r (k ∷ ks) other =
    elim (is_open k) as (λ b. is_open k ≡ b → filter (owns q) (cond b (k ∷ filter is_open ks) (filter is_open ks)) ≡ filter (owns q) (filter is_open (map (advance (Write p r)) (cond b (k ∷ filter is_open ks) (filter is_open ks))))) [
      | true ↦ λ was. others-one p q r k (filter is_open ks) was other (others-moved p q r ks other)
      | false ↦ λ was. others-moved p q r ks other
    ] refl

pub holders-write : (h : List Event) (old new : List Holder) (p : ℕ) (r : Span) → Replaces old new p (filter is_open (map (past r) (kept_for old p))) → HoldersStand h old → HoldersStand (h ++ Write p r ∷ []) new
holders-write h old new p r edit stand =
    after h (h ++ Write p r ∷ []) old new p (filter is_open (map (past r) (kept_for old p))) edit stand
    (ap (λ ks. filter is_open (map (past r) ks)) (stand.ranges p) ∙ own-moved p r (holds_of h) ∙ ap (filter (owns p)) (sym (holds-write h p r)))
    (λ q other. others-moved p q r (reserved_holds h) other ∙ ap (filter (owns q)) (sym (holds-write h p r)))

-- Reserve

own-fresh : (p : ℕ) (spans : List Span) → map (hold_after p []) spans ≡ filter (owns p) (map (hold_after p []) spans)
own-fresh p [] = refl
own-fresh p (r ∷ spans) = let test : (p == p) ≡ true = grind (arith, nat_tests) in rw test (ap (λ ks. hold_after p [] r ∷ ks) (own-fresh p spans))

others-fresh : (p q : ℕ) (spans : List Span) → q ≢ p → filter (owns q) (map (hold_after p []) spans) ≡ []
others-fresh p q [] other = refl
others-fresh p q (r ∷ spans) other = let test : (p == q) ≡ false = grind (arith, nat_tests) in rw test (others-fresh p q spans other)

pub holders-reserve : (n : ℕ) (h : List Event) (old new : List Holder) (p : ℕ) (spans : List Span) → spans ≡ pick_of n h p → Replaces old new p (kept_for old p ++ map (hold_after p []) spans) → HoldersStand h old → HoldersStand (h ++ Reserve p spans ∷ []) new
holders-reserve n h old new p spans chosen edit stand =
    let runs = subst (λ (rs : List Span). Each (IsRun n h) rs) (sym chosen) (pick_runs n h p) in
    let fresh = map (hold_after p []) spans in
    let is = holds-reserve n h p spans runs in
    after h (h ++ Reserve p spans ∷ []) old new p (kept_for old p ++ fresh) edit stand
    (ap (λ ks. ks ++ fresh) (stand.ranges p) ∙ ap (λ ks. filter (owns p) (holds_of h) ++ ks) (own-fresh p spans) ∙ sym (filter-append (owns p) (holds_of h) fresh) ∙ ap (filter (owns p)) (sym is))
    (λ q other. sym (ap (filter (owns q)) is ∙ filter-append (owns q) (holds_of h) fresh ∙ ap (λ ks. filter (owns q) (holds_of h) ++ ks) (others-fresh p q spans other) ∙ append-nil (filter (owns q) (holds_of h))))

-- where memory is refused, nothing is held that was not
pub holders-refused : (h : List Event) (old new : List Holder) (p : ℕ) → Replaces old new p (kept_for old p) → HoldersStand h old → HoldersStand h new
holders-refused h old new p edit stand = after h h old new p (kept_for old p) edit stand (stand.ranges p) (λ q other. refl)

pub keeps-refused : (aim : Aim) (log : List Entry) (ranges fresh : RangeSet) (old new : List Holder) (p : ℕ) (states : List PartState) (offers : List Offerer) (place moved_end : ℕ) (flag : Bool) (len capacity : ℕ)
    → Replaces old new p (kept_for old p)
    → CoreKeeps aim log ranges fresh old states offers place moved_end flag len capacity → CoreKeeps aim log ranges fresh new states offers place moved_end flag len capacity
keeps-refused aim log ranges fresh old new p states offers place moved_end flag len capacity edit keeps = record {
  legal = keeps.legal;
  tells = keeps.tells;
  held = holders-refused (events log) old new p edit keeps.held;
  set = keeps.set;
  offers = keeps.offers;
  moved_end = keeps.moved_end;
  room = record { log = omega (arith, edit.holding, keeps.room.log); filled = keeps.room.filled };
}

-- a peer that holds a range has one that is kept
pub holder-some : (h : List Event) (holders : List Holder) (p : ℕ) → HoldersStand h holders → is_holder h p ≡ true → 1 ≤ length (kept_for holders p)
holder-some h holders p stand holder =
    let some : not (length (kept_for holders p) == 0) ≡ true = is_holder-is h p (kept_for holders p) (stand.ranges p) ∙ holder in
    grind (arith, nat_tests)

-- a position is in a range that is kept exactly where it is held

has-kept : (holders : List Holder) (p x : ℕ) → has_any (kept_for holders p) x ≡ true → is_kept holders x ≡ true
has-kept [] p x here = here
has-kept (y ∷ ys) p x here =
    elim (y.peer == p) as (λ b. has_any (cond b y.ranges.items (kept_for ys p)) x ≡ true → (has_any y.ranges.items x || is_kept ys x) ≡ true) [
      | true ↦ λ now. or_left (has_any y.ranges.items x) (is_kept ys x) now
      | false ↦ λ now. or_right (has_any y.ranges.items x) (is_kept ys x) (has-kept ys p x now)
    ] here

kept-has : (low : ℕ) (holders : List Holder) (x : ℕ) {P : Type 0} → Ascends low holders → is_kept holders x ≡ true → ((p : ℕ) → has_any (kept_for holders p) x ≡ true → P) → P
kept-has low [] x up here found = absurd (both_ways false refl here)
kept-has low (y ∷ ys) x up here found =
    or_cases (has_any y.ranges.items x) (is_kept ys x) here
    (λ first. let test : (y.peer == y.peer) ≡ true = grind (arith, nat_tests) in found y.peer (rw test first))
    (λ later. kept-has (y.peer + 1) ys x up.1 later (λ p now.
    elim (cases_eq y.peer p) [
      | inl same ↦
          let none = kept-below (y.peer + 1) p ys up.1 (omega (arith, same)) in
          absurd (both_ways false refl (sym (ap (λ ks. has_any ks x) none) ∙ now))
      | inr other ↦ let test : (y.peer == p) ≡ false = grind (arith, nat_tests) in found p (rw test now)
    ]))

any-of : (ks : List Hold) (x : ℕ) {P : Type 0} → has_any ks x ≡ true → ((p : ℕ) → has_any (filter (owns p) ks) x ≡ true → P) → P
any-of [] x here found = absurd (both_ways false refl here)
any-of (k ∷ ks) x here found =
    or_cases (has (range_of k) x) (has_any ks x) here
    (λ first. let test : owns k.peer k ≡ true = grind (arith, nat_tests) in found k.peer (rw test (or_left (has (range_of k) x) (has_any (filter (owns k.peer) ks) x) first)))
    (λ later. any-of ks x later (λ p now.
    found p (elim (owns p k) as (λ b. has_any (cond b (k ∷ filter (owns p) ks) (filter (owns p) ks)) x ≡ true) [
      | true ↦ or_right (has (range_of k) x) (has_any (filter (owns p) ks) x) now
      | false ↦ now
    ])))

same-bool : (a b : Bool) → (a ≡ true → b ≡ true) → (b ≡ true → a ≡ true) → a ≡ b
same-bool true b left right = sym (left refl)
same-bool false true left right = right refl
same-bool false false left right = refl

pub kept-held : (h : List Event) (holders : List Holder) (x : ℕ) → HoldersStand h holders → is_kept holders x ≡ is_held h x
kept-held h holders x stand =
    same-bool (is_kept holders x) (is_held h x)
    (λ here. kept-has 0 holders x stand.ascend here (λ p now. any-kept (λ k. has (range_of k) x) (owns p) (holds_of h) (sym (ap (λ ks. has_any ks x) (stand.ranges p)) ∙ now)))
    (λ here. any-of (holds_of h) x here (λ p now. has-kept holders p x (ap (λ ks. has_any ks x) (stand.ranges p) ∙ now)))
