-- The hash set that a legal log keeps is valid.
use Rattle.std.proofs.Common.{◌≡◌, ◌⊎◌, refl, sym, ap, subst, inl, inr, ℕ, List, [], ◌∷◌, ◌++◌, Option, None, unwrap_or, append-nil, append_assoc}
use Rattle.part_hashset.specs.HashSet.{ValidSet}
use Rattle.part_hashset.specs.declared.aim.Aim.{Aim}
use Rattle.reserve_core.specs.Legal.{Allowed, Follows, AreLegal}
use Rattle.reserve_core.specs.Verdicts.{kept_set, set_by}
use Rattle.reserve_core.specs.declared.event.Event.{Event}
use Rattle.reserve_core.specs.declared.event.Event.TheVariants.{Opened, Hashes, Offer, Reserve, Write, Release, Commit, Verdict, Recovered, Dropped}
use Rattle.reserve_core.proofs.Latest.{latest-told, set-same}

-- there is no set, or a valid one
abbrev pub IsNoneOrValid : Aim → List (List ℕ) → Type 0
IsNoneOrValid aim set = (set ≡ []) ⊎ ValidSet aim.size aim.hash set

same : (aim : Aim) (h : List Event) (e : Event) → set_by e ≡ None → IsNoneOrValid aim (kept_set h) → IsNoneOrValid aim (kept_set (h ++ e ∷ []))
same aim h e none kept = subst (IsNoneOrValid aim) (sym (set-same h e none)) kept

after : (aim : Aim) (h : List Event) (e : Event) → Allowed aim h e → IsNoneOrValid aim (kept_set h) → IsNoneOrValid aim (kept_set (h ++ e ∷ []))
after aim h (Opened o) may kept = absurd may
after aim h (Hashes set) may kept =
    subst (IsNoneOrValid aim) (sym (ap (λ (o : Option (List (List ℕ))). unwrap_or o []) (latest-told set_by h (Hashes set) set refl))) (inr may.valid)
after aim h (Offer p bits) may kept = same aim h (Offer p bits) refl kept
after aim h (Reserve p spans) may kept = same aim h (Reserve p spans) refl kept
after aim h (Write p r) may kept = same aim h (Write p r) refl kept
after aim h (Release p) may kept = same aim h (Release p) refl kept
after aim h Commit may kept = same aim h Commit refl kept
after aim h (Verdict i d) may kept = same aim h (Verdict i d) refl kept
after aim h (Recovered i bits) may kept = same aim h (Recovered i bits) refl kept
after aim h (Dropped i) may kept = same aim h (Dropped i) refl kept

along : (aim : Aim) (before h : List Event) → IsNoneOrValid aim (kept_set before) → Follows aim before h → IsNoneOrValid aim (kept_set (before ++ h))
along aim before [] kept follows = subst (λ (g : List Event). IsNoneOrValid aim (kept_set g)) (sym (append-nil before)) kept
along aim before (e ∷ h) kept follows =
    subst (λ (g : List Event). IsNoneOrValid aim (kept_set g)) (append_assoc before (e ∷ []) h)
    (along aim (before ++ e ∷ []) h (after aim before e follows.0 kept) follows.1)

begun : (aim : Aim) (set : List (List ℕ)) (enough : Type 0) → (set ≡ []) ⊎ (enough × ValidSet aim.size aim.hash set) → IsNoneOrValid aim set
begun aim set enough state = elim state [ inl none ↦ inl none | inr some ↦ inr some.1 ]

pub kept_is_valid : (aim : Aim) (h : List Event) → AreLegal aim h → IsNoneOrValid aim (kept_set h)
kept_is_valid aim [] legal = absurd legal
kept_is_valid aim (Opened o ∷ h) legal = along aim (Opened o ∷ []) h (begun aim o.set _ legal.0.set) legal.1
kept_is_valid aim (Hashes set ∷ h) legal = absurd legal.0
kept_is_valid aim (Offer p bits ∷ h) legal = absurd legal.0
kept_is_valid aim (Reserve p spans ∷ h) legal = absurd legal.0
kept_is_valid aim (Write p r ∷ h) legal = absurd legal.0
kept_is_valid aim (Release p ∷ h) legal = absurd legal.0
kept_is_valid aim (Commit ∷ h) legal = absurd legal.0
kept_is_valid aim (Verdict i d ∷ h) legal = absurd legal.0
kept_is_valid aim (Recovered i bits ∷ h) legal = absurd legal.0
kept_is_valid aim (Dropped i ∷ h) legal = absurd legal.0
