-- What the newest event says, after one more event.
use Rattle.std.proofs.Common.{◌≡◌, ℕ, ◌≤◌, List, [], ◌∷◌, ◌++◌, Option, Some, None, unwrap_or, refl, ap, sym, ◌∙◌, subst, append_assoc}
use Rattle.std.specs.Option.{option_or}
use Rattle.std.proofs.lemmas.List.{map-append, append-nil}
use Rattle.part_hashset.specs.declared.aim.Aim.{Aim}
use Rattle.reserve_core.specs.Events.{events, latest, CallsRise}
use Rattle.reserve_core.specs.Legal.{Allowed, Follows, AreLegal, IsLegal}
use Rattle.reserve_core.specs.Seen.{newest_calls, added}
use Rattle.reserve_core.specs.Verdicts.{set_by, kept_set}
use Rattle.reserve_core.specs.declared.event.Entry.{Entry}
use Rattle.reserve_core.specs.declared.event.Event.{Event}

or-none : {Y : Type 0} (o : Option Y) → o ≡ option_or o None
or-none None = refl
or-none (Some y) = refl

or-assoc : {Y : Type 0} (a b c : Option Y) → option_or (option_or a b) c ≡ option_or a (option_or b c)
or-assoc None b c = refl
or-assoc (Some y) b c = refl

pub latest-push : {X Y : Type 0} (says : X → Option Y) (h : List X) (e : X) → latest says (h ++ e ∷ []) ≡ option_or (says e) (latest says h)
latest-push says [] e = or-none (says e)
latest-push says (first ∷ h) e = ap (λ o. option_or o (says first)) (latest-push says h e) ∙ or-assoc (says e) (latest says h) (says first)

pub latest-still : {X Y : Type 0} (says : X → Option Y) (h : List X) (e : X) → says e ≡ None → latest says (h ++ e ∷ []) ≡ latest says h
latest-still says h e none = latest-push says h e ∙ ap (λ o. option_or o (latest says h)) none

pub latest-told : {X Y : Type 0} (says : X → Option Y) (h : List X) (e : X) (y : Y) → says e ≡ Some y → latest says (h ++ e ∷ []) ≡ Some y
latest-told says h e y some = latest-push says h e ∙ ap (λ o. option_or o (latest says h)) some

pub set-same : (h : List Event) (e : Event) → set_by e ≡ None → kept_set (h ++ e ∷ []) ≡ kept_set h
set-same h e none = ap (λ o. unwrap_or o []) (latest-still set_by h e none)

pub newest-added : (low : ℕ) (log : List Entry) (calls : ℕ) (e : Event) → newest_calls low (added log calls e) ≡ calls
newest-added low [] calls e = refl
newest-added low (entry ∷ log) calls e = newest-added entry.calls log calls e

pub events-added : (log : List Entry) (calls : ℕ) (e : Event) → events (added log calls e) ≡ events log ++ e ∷ []
events-added log calls e = let entry : Entry = record { calls = calls; event = e } in map-append (λ (entry : Entry). entry.event) log (entry ∷ [])

-- one more allowed event leaves the log legal
follows-push : (aim : Aim) (before h : List Event) (e : Event) → Follows aim before h → Allowed aim (before ++ h) e → Follows aim before (h ++ e ∷ [])
follows-push aim before [] e follows allowed = (subst (λ (b : List Event). Allowed aim b e) (append-nil before) allowed, tt)
follows-push aim before (first ∷ h) e follows allowed =
    (follows.0, follows-push aim (before ++ first ∷ []) h e follows.1 (subst (λ (b : List Event). Allowed aim b e) (sym (append_assoc before (first ∷ []) h)) allowed))

legal-push : (aim : Aim) (h : List Event) (e : Event) → AreLegal aim h → Allowed aim h e → AreLegal aim (h ++ e ∷ [])
legal-push aim [] e legal allowed = absurd legal
legal-push aim (first ∷ h) e legal allowed = (legal.0, follows-push aim (first ∷ []) h e legal.1 allowed)

calls-push : (low : ℕ) (log : List Entry) (calls : ℕ) (e : Event) → CallsRise low log → newest_calls low log ≤ calls → CallsRise low (added log calls e)
calls-push low [] calls e rise above = (above, tt)
calls-push low (entry ∷ log) calls e rise above = (rise.0, calls-push entry.calls log calls e rise.1 above)

pub legal-added : (aim : Aim) (log : List Entry) (calls : ℕ) (e : Event) → IsLegal aim log → newest_calls 0 log ≤ calls → Allowed aim (events log) e → IsLegal aim (added log calls e)
legal-added aim log calls e legal above allowed = record {
  events = subst (λ (h : List Event). AreLegal aim h) (sym (events-added log calls e)) (legal-push aim (events log) e legal.events allowed);
  calls = calls-push 0 log calls e legal.calls above;
}
