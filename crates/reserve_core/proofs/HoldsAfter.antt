-- The held ranges after one more event.
use Rattle.std.proofs.Common.{◌≡◌, ℕ, ◌≤◌, Bool, true, false, ◌||◌, List, [], ◌∷◌, ◌++◌, map, Option, Some, None, refl, ap, sym, ◌∙◌, cond, if◌then◌else◌, append_assoc, arith}
use Rattle.std.specs.List.{list_any, filter}
use Rattle.std.proofs.lemmas.Bool.Decides.{nat_tests}
use Rattle.std.proofs.lemmas.List.{map-append, append-nil}
use Rattle.std.proofs.lemmas.List.Elements.{filter-append}
use Rattle.std.proofs.lemmas.List.Folds.{list_any-append}
use Rattle.part_sizes.specs.declared.span.Span.{Span}
use Rattle.reserve_core.specs.Events.{greatest, raise}
use Rattle.reserve_core.specs.Held.{written_by, hold_after, is_release, reserved_by, reserved_holds, is_open, holds_of}
use Rattle.reserve_core.specs.Steps.{advance, stays, step, stepped}
use Rattle.reserve_core.specs.declared.event.Event.{Event}
use Rattle.reserve_core.specs.declared.event.Event.TheVariants.{Reserve}
use Rattle.reserve_core.specs.declared.hold.Hold.{Hold}

raise_raise : (a b : Option ℕ) (n : ℕ) → raise a (raise b n) ≡ raise b (raise a n)
raise_raise None b n = refl
raise_raise (Some m) None n = refl
raise_raise (Some m) (Some k) n = omega arith

pub greatest-push : {X : Type 0} (says : X → Option ℕ) (low : ℕ) (h : List X) (e : X) → greatest says low (h ++ e ∷ []) ≡ raise (says e) (greatest says low h)
greatest-push says low [] e = refl
greatest-push says low (first ∷ h) e =
    ap (raise (says first)) (greatest-push says low h e) ∙ raise_raise (says first) (says e) (greatest says low h)

step-append : (e : Event) (js ks : List Hold) → step e (js ++ ks) ≡ step e js ++ step e ks
step-append e js ks = ap (filter (stays e)) (map-append (advance e) js ks) ∙ filter-append (stays e) (map (advance e) js) (map (advance e) ks)

step_released : (e : Event) (p : ℕ) (h : List Event) (spans : List Span) → is_release p e ≡ true → step e (map (hold_after p h) spans) ≡ []
step_released e p h [] released = refl
step_released e p h (r ∷ spans) released = rw released (step_released e p h spans released)

step_kept : (e : Event) (p : ℕ) (h : List Event) (spans : List Span) → is_release p e ≡ false → map (hold_after p (h ++ e ∷ [])) spans ≡ step e (map (hold_after p h) spans)
step_kept e p h [] kept = refl
step_kept e p h (r ∷ spans) kept =
    let at : hold_after p (h ++ e ∷ []) r ≡ advance e (hold_after p h r) = ap (λ (n : ℕ). let k : Hold = record { peer = p; whole = r; from = n } in k) (greatest-push (written_by p r) r.s h e) in
    let next : map (hold_after p (h ++ e ∷ [])) spans ≡ step e (map (hold_after p h) spans) = step_kept e p h spans kept in
    rw kept (ap (λ k. k ∷ map (hold_after p (h ++ e ∷ [])) spans) at ∙ ap (λ ks. advance e (hold_after p h r) ∷ ks) next)

reserve-push : (p : ℕ) (spans : List Span) (h : List Event) (e : Event) (gone released : Bool) → list_any (is_release p) h ≡ gone → is_release p e ≡ released
    → (if (gone || (released || false)) then [] else map (hold_after p (h ++ e ∷ [])) spans) ≡ step e (if gone then [] else map (hold_after p h) spans)
reserve-push p spans h e true released before now = refl
reserve-push p spans h e false true before now = sym (step_released e p h spans now)
reserve-push p spans h e false false before now = step_kept e p h spans now

reserved_by-push : (first : Event) (h : List Event) (e : Event) → reserved_by first (h ++ e ∷ []) ≡ step e (reserved_by first h)
reserved_by-push (Reserve p spans) h e =
    ap (λ (b : Bool). if b then [] else map (hold_after p (h ++ e ∷ [])) spans) (list_any-append (is_release p) h (e ∷ []))
    ∙ reserve-push p spans h e (list_any (is_release p) h) (is_release p e) refl refl
reserved_by-push _ h e = refl

reserved-push : (h : List Event) (e : Event) → reserved_holds (h ++ e ∷ []) ≡ step e (reserved_holds h) ++ reserved_by e []
reserved-push [] e = append-nil (reserved_by e [])
reserved-push (first ∷ h) e =
    ap (λ ks. ks ++ reserved_holds (h ++ e ∷ [])) (reserved_by-push first h e)
    ∙ ap (λ ks. step e (reserved_by first h) ++ ks) (reserved-push h e)
    ∙ sym (append_assoc (step e (reserved_by first h)) (step e (reserved_holds h)) (reserved_by e []))
    ∙ ap (λ ks. ks ++ reserved_by e []) (sym (step-append e (reserved_by first h) (reserved_holds h)))

raised : (o : Option ℕ) (n : ℕ) → n ≤ raise o n
raised None n = omega arith
raised (Some m) n = omega arith

pub advanced : (e : Event) (k : Hold) → k.from ≤ (advance e k).from
advanced e k = raised (written_by k.peer k.whole e) k.from

still_shut : (e : Event) (k : Hold) → is_open k ≡ false → is_open (advance e k) ≡ false
still_shut e k shut = let more = advanced e k in grind (arith, nat_tests)

stepped-shut : (e : Event) (k : Hold) (ks : List Hold) (stay : Bool) → is_open k ≡ false → filter is_open (cond stay (advance e k ∷ step e ks) (step e ks)) ≡ stepped e ks
stepped-shut e k ks true shut = rw (still_shut e k shut) refl
stepped-shut e k ks false shut = refl

stepped-open : (e : Event) (k : Hold) (js ks : List Hold) (stay : Bool) → stepped e js ≡ stepped e ks → filter is_open (cond stay (advance e k ∷ step e js) (step e js)) ≡ filter is_open (cond stay (advance e k ∷ step e ks) (step e ks))
stepped-open e k js ks true same = ap (λ hs. cond (is_open (advance e k)) (advance e k ∷ hs) hs) same
stepped-open e k js ks false same = same

stepped-filter : (e : Event) (ks : List Hold) → stepped e ks ≡ stepped e (filter is_open ks)
stepped-filter e [] = refl
stepped-filter e (k ∷ ks) =
    elim (is_open k) as (λ b. is_open k ≡ b → stepped e (k ∷ ks) ≡ stepped e (cond b (k ∷ filter is_open ks) (filter is_open ks))) [
      | true ↦ λ was. stepped-open e k ks (filter is_open ks) (stays e (advance e k)) (stepped-filter e ks)
      | false ↦ λ was. stepped-shut e k ks (stays e (advance e k)) was ∙ stepped-filter e ks
    ] refl

pub holds-push : (h : List Event) (e : Event) → holds_of (h ++ e ∷ []) ≡ stepped e (holds_of h) ++ filter is_open (reserved_by e [])
holds-push h e =
    ap (filter is_open) (reserved-push h e)
    ∙ filter-append is_open (step e (reserved_holds h)) (reserved_by e [])
    ∙ ap (λ ks. ks ++ filter is_open (reserved_by e [])) (stepped-filter e (reserved_holds h))

-- an event that is neither a Write nor a Release leaves the ranges as they are
stepped_same-one : (e : Event) (k : Hold) (ks : List Hold) → is_release k.peer e ≡ false → written_by k.peer k.whole e ≡ None → is_open k ≡ true → stepped e (k ∷ ks) ≡ k ∷ stepped e ks
stepped_same-one e k ks kept still was = rw (still, kept, was) refl

pub stepped_same : (e : Event) → ((p : ℕ) → is_release p e ≡ false) → ((p : ℕ) (r : Span) → written_by p r e ≡ None) → (ks : List Hold) → stepped e (filter is_open ks) ≡ filter is_open ks
stepped_same e kept still [] = refl
stepped_same e kept still (k ∷ ks) =
    elim (is_open k) as (λ b. is_open k ≡ b → stepped e (cond b (k ∷ filter is_open ks) (filter is_open ks)) ≡ cond b (k ∷ filter is_open ks) (filter is_open ks)) [
      | true ↦ λ was. stepped_same-one e k (filter is_open ks) (kept k.peer) (still k.peer k.whole) was ∙ ap (λ js. k ∷ js) (stepped_same e kept still ks)
      | false ↦ λ was. stepped_same e kept still ks
    ] refl
