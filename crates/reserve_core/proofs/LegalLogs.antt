-- What is true of every legal log, by induction over its events.
use Rattle.std.proofs.Common.{◌≡◌, ℕ, List, [], ◌∷◌, ◌++◌, refl, sym, subst, append_assoc}
use Rattle.std.proofs.lemmas.List.{append-nil}
use Rattle.part_hashset.specs.declared.aim.Aim.{Aim}
use Rattle.part_sizes.specs.declared.span.Span.{Span}
use Rattle.reserve_core.specs.Choice.{pick_of}
use Rattle.reserve_core.specs.Held.{reserved_by}
use Rattle.reserve_core.specs.Legal.{Allowed, AreLegal, Follows, IsState, Opens}
use Rattle.reserve_core.specs.declared.event.Event.{Event}
use Rattle.reserve_core.specs.declared.event.Event.TheVariants.{Opened, Hashes, Offer, Reserve, Write, Release, Commit, Verdict, Recovered, Dropped}
use Rattle.reserve_core.specs.declared.event.Opened.{Opened as State}

-- each allowed event keeps it, and a log that was just opened has it
module _ (aim : Aim) (P : List Event → Type 0) (goes : (h : List Event) (e : Event) → Allowed aim h e → P h → P (h ++ e ∷ [])) (opens : (o : State) → IsState aim o → P (Opened o ∷ [])) where
  follows : (before h : List Event) → Follows aim before h → P before → P (before ++ h)
  follows before [] next holds = subst P (sym (append-nil before)) holds
  follows before (e ∷ h) next holds = subst P (append_assoc before (e ∷ []) h) (follows (before ++ e ∷ []) h next.1 (goes before e next.0 holds))

  opened : (e : Event) → Opens aim e → P (e ∷ [])
  opened (Opened o) is = opens o is
  opened _ is = absurd is

  pub over-legal : (h : List Event) → AreLegal aim h → P h
  over-legal [] legal = absurd legal
  over-legal (e ∷ h) legal = follows (e ∷ []) h legal.1 (opened e legal.0)

-- a chosen Reserve keeps it, and so does each event that reserves nothing
module _ (aim : Aim) (P : List Event → Type 0) (other : (h : List Event) (e : Event) → reserved_by e [] ≡ [] → P h → P (h ++ e ∷ [])) (reserve : (h : List Event) (p : ℕ) (spans : List Span) → spans ≡ pick_of aim.size h p → P h → P (h ++ Reserve p spans ∷ [])) where
  pub over-reserves : (h : List Event) (e : Event) → Allowed aim h e → P h → P (h ++ e ∷ [])
  over-reserves h (Reserve p spans) allowed holds = reserve h p spans allowed.chosen holds
  over-reserves h (Opened o) allowed holds = other h (Opened o) refl holds
  over-reserves h (Hashes q) allowed holds = other h (Hashes q) refl holds
  over-reserves h (Offer p bits) allowed holds = other h (Offer p bits) refl holds
  over-reserves h (Write p r) allowed holds = other h (Write p r) refl holds
  over-reserves h (Release p) allowed holds = other h (Release p) refl holds
  over-reserves h Commit allowed holds = other h Commit refl holds
  over-reserves h (Verdict i d) allowed holds = other h (Verdict i d) refl holds
  over-reserves h (Recovered i kept) allowed holds = other h (Recovered i kept) refl holds
  over-reserves h (Dropped i) allowed holds = other h (Dropped i) refl holds
