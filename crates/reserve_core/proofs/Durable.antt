-- What is durable of what is filled.
use Rattle.std.proofs.Common.{◌≡◌, ◌≢◌, ◌⊎◌, ℕ, Bool, true, false, not, ◌&&◌, ◌||◌, List, [], ◌∷◌, Option, Some, None, unwrap_or, if◌then◌else◌, refl, sym, ap, ◌∙◌, inl, inr, arith}
use Rattle.std.specs.Bool.{then_some}
use Rattle.std.specs.List.{list_any}
use Rattle.std.specs.Option.{option_or}
use Rattle.std.proofs.lemmas.Bool.Decides.{nat_tests}
use Rattle.part_sizes.specs.Part.{part_range}
use Rattle.part_sizes.specs.Span.{has}
use Rattle.reserve_core.specs.Events.{latest}
use Rattle.reserve_core.specs.Filled.{filled_by, is_commit, is_durable, is_filled, is_full, is_part_uncommitted, is_write, open_in_by, overlaps, settled_events}
use Rattle.reserve_core.specs.declared.event.Event.{Event}
use Rattle.reserve_core.specs.declared.event.Event.TheVariants.{Opened, Hashes, Offer, Reserve, Write, Release, Commit, Verdict, Recovered, Dropped}
use Rattle.reserve_core.proofs.VerifiedFull.{full_has}

-- without the writes that no commit follows, the newest word on a position is the same, unless it is such a write's
abbrev IsSameOrFilled : Option Bool → Option Bool → Type 0
IsSameOrFilled settled_events all = (settled_events ≡ all) ⊎ (all ≡ Some true)

says-write : (n x : ℕ) (e : Event) → is_write e ≡ true → (filled_by n x e ≡ None) ⊎ (filled_by n x e ≡ Some true)
says-write n x (Write p r) is = by_has (has r x) refl
  where
    by_has : (b : Bool) → has r x ≡ b → (then_some (has r x) true ≡ None) ⊎ (then_some (has r x) true ≡ Some true)
    by_has true here = inr (ap (λ c. then_some c true) here)
    by_has false out = inl (ap (λ c. then_some c true) out)
says-write n x (Opened o) is = absurd (cc)
says-write n x (Hashes q) is = absurd (cc)
says-write n x (Offer p bits) is = absurd (cc)
says-write n x (Reserve p spans) is = absurd (cc)
says-write n x (Release p) is = absurd (cc)
says-write n x Commit is = absurd (cc)
says-write n x (Verdict i d) is = absurd (cc)
says-write n x (Recovered i kept) is = absurd (cc)
says-write n x (Dropped i) is = absurd (cc)

left-out : (l m says : Option Bool) → (says ≡ None) ⊎ (says ≡ Some true) → IsSameOrFilled l m → IsSameOrFilled l (option_or m says)
left-out l m says word (inr filled) = inr (ap (λ o. option_or o says) filled)
left-out l None says (inl none) (inl same) = inl (same ∙ sym none)
left-out l None says (inr some) (inl same) = inr some
left-out l (Some b) says word (inl same) = inl same

kept-in : (l m says : Option Bool) → IsSameOrFilled l m → IsSameOrFilled (option_or l says) (option_or m says)
kept-in l m says (inl same) = inl (ap (λ o. option_or o says) same)
kept-in l m says (inr filled) = inr (ap (λ o. option_or o says) filled)

and-left : (a b : Bool) → (a && b) ≡ true → a ≡ true
and-left true b is = refl
and-left false b is = absurd (cc)

settled-or-filled : (n x : ℕ) (h : List Event) → IsSameOrFilled (latest (filled_by n x) (settled_events h)) (latest (filled_by n x) h)
settled-or-filled n x [] = inl refl
settled-or-filled n x (e ∷ h) = by_kept (settled-or-filled n x h) (is_write e && not (list_any is_commit h)) refl
  where
    by_kept : IsSameOrFilled (latest (filled_by n x) (settled_events h)) (latest (filled_by n x) h) → (b : Bool) → (is_write e && not (list_any is_commit h)) ≡ b
        → IsSameOrFilled (latest (filled_by n x) (if is_write e && not (list_any is_commit h) then settled_events h else e ∷ settled_events h)) (option_or (latest (filled_by n x) h) (filled_by n x e))
    by_kept so true out = rw out (left-out (latest (filled_by n x) (settled_events h)) (latest (filled_by n x) h) (filled_by n x e) (says-write n x e (and-left (is_write e) (not (list_any is_commit h)) out)) so)
    by_kept so false stays = rw stays (kept-in (latest (filled_by n x) (settled_events h)) (latest (filled_by n x) h) (filled_by n x e) so)

-- what is durable is filled
pub durable-filled : (n : ℕ) (h : List Event) (x : ℕ) → is_durable n h x ≡ true → is_filled n h x ≡ true
durable-filled n h x durable = by_case (settled-or-filled n x h)
  where
    by_case : IsSameOrFilled (latest (filled_by n x) (settled_events h)) (latest (filled_by n x) h) → is_filled n h x ≡ true
    by_case (inl same) = sym (ap (λ o. unwrap_or o false) same) ∙ durable
    by_case (inr filled) = ap (λ o. unwrap_or o false) filled

-- in a part into which no write stands after the last commit, what is filled is durable

-- where no commit stands, an open part is one that was written into
never-closed : (n i : ℕ) (h : List Event) → list_any is_commit h ≡ false → (latest (open_in_by n i) h ≡ None) ⊎ (latest (open_in_by n i) h ≡ Some true)
never-closed n i [] none = inl refl
never-closed n i (e ∷ h) none = by_parts (is_commit e) refl (never-closed n i h (rest (is_commit e) (list_any is_commit h) none))
  where
    rest : (a b : Bool) → (a || b) ≡ false → b ≡ false
    rest true b is = absurd (cc)
    rest false b is = is

    first : (a b : Bool) → (a || b) ≡ false → a ≡ false
    first true b is = absurd (cc)
    first false b is = refl

    word : (e : Event) → is_commit e ≡ false → (open_in_by n i e ≡ None) ⊎ (open_in_by n i e ≡ Some true)
    word (Write p r) is = by_meets (overlaps r (part_range n i)) refl
      where
        by_meets : (b : Bool) → overlaps r (part_range n i) ≡ b → (then_some (overlaps r (part_range n i)) true ≡ None) ⊎ (then_some (overlaps r (part_range n i)) true ≡ Some true)
        by_meets true here = inr (ap (λ c. then_some c true) here)
        by_meets false out = inl (ap (λ c. then_some c true) out)
    word Commit is = absurd (cc)
    word (Opened o) is = inl refl
    word (Hashes q) is = inl refl
    word (Offer p bits) is = inl refl
    word (Reserve p spans) is = inl refl
    word (Release p) is = inl refl
    word (Verdict j d) is = inl refl
    word (Recovered j kept) is = inl refl
    word (Dropped j) is = inl refl

    by_parts : (b : Bool) → is_commit e ≡ b → (latest (open_in_by n i) h ≡ None) ⊎ (latest (open_in_by n i) h ≡ Some true) → (option_or (latest (open_in_by n i) h) (open_in_by n i e) ≡ None) ⊎ (option_or (latest (open_in_by n i) h) (open_in_by n i e) ≡ Some true)
    by_parts b is (inr some) = inr (ap (λ o. option_or o (open_in_by n i e)) some)
    by_parts b is (inl none_yet) = rw none_yet (word e (first (is_commit e) (list_any is_commit h) none))

or-some : {Y : Type 0} (o says : Option Y) (y : Y) → o ≡ Some y → option_or o says ≡ Some y
or-some o says y is = ap (λ p. option_or p says) is

apart-silent : (n i x : ℕ) (e : Event) → is_write e ≡ true → open_in_by n i e ≢ Some true → has (part_range n i) x ≡ true → filled_by n x e ≡ None
apart-silent n i x (Write p r) is shut inside = by_has (has r x) refl (overlaps r (part_range n i)) refl
  where
    by_has : (b : Bool) → has r x ≡ b → (m : Bool) → overlaps r (part_range n i) ≡ m → then_some (has r x) true ≡ None
    by_has false out m meets = ap (λ c. then_some c true) out
    by_has true here true meets = absurd (shut (ap (λ c. then_some c true) meets))
    by_has true here false meets = absurd (grind (arith, nat_tests))
apart-silent n i x (Opened o) is shut inside = absurd (cc)
apart-silent n i x (Hashes q) is shut inside = absurd (cc)
apart-silent n i x (Offer p bits) is shut inside = absurd (cc)
apart-silent n i x (Reserve p spans) is shut inside = absurd (cc)
apart-silent n i x (Release p) is shut inside = absurd (cc)
apart-silent n i x Commit is shut inside = absurd (cc)
apart-silent n i x (Verdict j d) is shut inside = absurd (cc)
apart-silent n i x (Recovered j kept) is shut inside = absurd (cc)
apart-silent n i x (Dropped j) is shut inside = absurd (cc)

or-none : {Y : Type 0} (o : Option Y) → option_or o None ≡ o
or-none None = refl
or-none (Some y) = refl

and-right : (a b : Bool) → (a && not b) ≡ true → b ≡ false
and-right true true is = absurd (cc)
and-right true false is = refl
and-right false b is = absurd (cc)

settled-part : (n i x : ℕ) (h : List Event) → latest (open_in_by n i) h ≢ Some true → has (part_range n i) x ≡ true → latest (filled_by n x) (settled_events h) ≡ latest (filled_by n x) h
settled-part n i x [] shut inside = refl
settled-part n i x (e ∷ h) shut inside = step n i x e h shut inside (settled-part n i x h (λ is. shut (or-some (latest (open_in_by n i) h) (open_in_by n i e) true is)) inside)
  where
    step : (n i x : ℕ) (e : Event) (h : List Event) → option_or (latest (open_in_by n i) h) (open_in_by n i e) ≢ Some true → has (part_range n i) x ≡ true → latest (filled_by n x) (settled_events h) ≡ latest (filled_by n x) h
        → latest (filled_by n x) (if is_write e && not (list_any is_commit h) then settled_events h else e ∷ settled_events h) ≡ option_or (latest (filled_by n x) h) (filled_by n x e)
    step n i x e h shut inside so =
        elim (is_write e && not (list_any is_commit h)) as (λ b. (is_write e && not (list_any is_commit h)) ≡ b → latest (filled_by n x) (if b then settled_events h else e ∷ settled_events h) ≡ option_or (latest (filled_by n x) h) (filled_by n x e)) [
          | true ↦ λ out.
              let none : list_any is_commit h ≡ false = and-right (is_write e) (list_any is_commit h) out in
              let own : open_in_by n i e ≢ Some true = λ is. elim (never-closed n i h none) [
                | inl silent ↦ shut (ap (λ o. option_or o (open_in_by n i e)) silent ∙ is)
                | inr some ↦ shut (or-some (latest (open_in_by n i) h) (open_in_by n i e) true some)
              ] in
              let silent = apart-silent n i x e (and-left (is_write e) (not (list_any is_commit h)) out) own inside in
              so ∙ sym (or-none (latest (filled_by n x) h)) ∙ ap (λ o. option_or (latest (filled_by n x) h) o) (sym silent)
          | false ↦ λ stays. ap (λ o. option_or o (filled_by n x e)) so
        ] refl

not-open : (o : Option Bool) → unwrap_or o false ≡ false → o ≢ Some true
not-open None is some = cc
not-open (Some b) is some = absurd (let t : b ≡ true = cc in cc)

pub committed-durable : (n i x : ℕ) (h : List Event) → is_part_uncommitted n h i ≡ false → has (part_range n i) x ≡ true → is_durable n h x ≡ is_filled n h x
committed-durable n i x h shut inside = ap (λ o. unwrap_or o false) (settled-part n i x h (not-open (latest (open_in_by n i) h) shut) inside)

-- each position of a part that is full and committed is durable
pub part-durable : (n i x : ℕ) (h : List Event) → is_full n h i ≡ true → is_part_uncommitted n h i ≡ false → has (part_range n i) x ≡ true → is_durable n h x ≡ true
part-durable n i x h full shut inside = committed-durable n i x h shut inside ∙ full_has n h i x full inside
