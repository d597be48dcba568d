-- A part that a legal log lets be judged.
use Rattle.std.proofs.Common.{◌≡◌, ℕ, ◌<◌, true, List, [], ◌∷◌, ◌++◌, length, None, unwrap_or, is_none, nat_lt, IsFalse, refl, sym, ap, subst, inl, inr}
use Rattle.part_hashset.specs.declared.aim.Aim.{Aim}
use Rattle.part_sizes.specs.Part.{data_parts, hash_count}
use Rattle.part_sizes.specs.declared.part.TheConstants.{PART}
use Rattle.reserve_core.specs.Refusals.{refusal}
use Rattle.reserve_core.specs.Legal.{Allowed, AreLegal, IsState, MayJudge}
use Rattle.part_hashset.specs.Goals.{is_nil}
use Rattle.reserve_core.specs.Verdicts.{kept_set, set_by}
use Rattle.reserve_core.specs.declared.event.Event.{Event}
use Rattle.reserve_core.specs.declared.event.Event.TheVariants.{Opened, Hashes, Offer, Reserve, Write, Release, Commit, Verdict, Recovered, Dropped}
use Rattle.reserve_core.specs.declared.event.Opened.{Opened as State}
use Rattle.reserve_core.proofs.Judged.{goal-known, ready}
use Rattle.reserve_core.proofs.Latest.{latest-told, set-same}
use Rattle.reserve_core.proofs.LegalLogs.{over-legal}

-- a kept set has the members that the size wants
abbrev IsCounted : ℕ → List (List ℕ) → Type 0
IsCounted n set = IsFalse (is_nil set) → length set ≡ hash_count n

opened-counted : (aim : Aim) (o : State) → IsState aim o → IsCounted aim.size o.set
opened-counted aim o is some = elim is.set [
  | inl none ↦ let no : is_nil o.set ≡ true = ap is_nil none in absurd (cc)
  | inr valid ↦ (valid.1.whole valid.0).count
]

still : (n : ℕ) (h : List Event) (e : Event) → set_by e ≡ None → IsCounted n (kept_set h) → IsCounted n (kept_set (h ++ e ∷ []))
still n h e silent counted = subst (IsCounted n) (sym (set-same h e silent)) counted

goes : (aim : Aim) (h : List Event) (e : Event) → Allowed aim h e → IsCounted aim.size (kept_set h) → IsCounted aim.size (kept_set (h ++ e ∷ []))
goes aim h (Opened o) allowed counted = absurd allowed
goes aim h (Hashes q) allowed counted = subst (IsCounted aim.size) (sym (ap (λ o. unwrap_or o []) (latest-told set_by h (Hashes q) q refl))) (λ some. (allowed.valid.whole allowed.needed).count)
goes aim h (Offer p bits) allowed counted = still aim.size h (Offer p bits) refl counted
goes aim h (Reserve p spans) allowed counted = still aim.size h (Reserve p spans) refl counted
goes aim h (Write p r) allowed counted = still aim.size h (Write p r) refl counted
goes aim h (Release p) allowed counted = still aim.size h (Release p) refl counted
goes aim h Commit allowed counted = still aim.size h Commit refl counted
goes aim h (Verdict i d) allowed counted = still aim.size h (Verdict i d) refl counted
goes aim h (Recovered i kept) allowed counted = still aim.size h (Recovered i kept) refl counted
goes aim h (Dropped i) allowed counted = still aim.size h (Dropped i) refl counted

set-counted : (aim : Aim) (h : List Event) → AreLegal aim h → IsCounted aim.size (kept_set h)
set-counted aim h legal = over-legal aim (λ h. IsCounted aim.size (kept_set h)) (goes aim) (opened-counted aim) h legal

pub judgeable : (aim : Aim) (h : List Event) (i : ℕ) → AreLegal aim h → i < data_parts aim.size → refusal aim h (Verdict i []) ≡ None → MayJudge aim h i
judgeable aim h i legal exists none =
    let no = ready aim h i none in
    record {
      exists = exists;
      full = ap is_none no.full;
      committed = no.committed;
      unjudged = no.unjudged;
      goal_known = goal-known aim (kept_set h) i (nat_lt aim.size PART) refl no.set (set-counted aim h legal) exists;
    }
