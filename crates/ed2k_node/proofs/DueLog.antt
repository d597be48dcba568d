-- What stays of a log as it goes on and nothing moves.
use Rattle.std.proofs.Common.{◌≡◌, ◌∙◌, refl, sym, ap, subst, ℕ, ◌≤◌, Bool, true, false, ◌&&◌, ◌||◌, nat_le, List, [], ◌∷◌, ◌++◌, length, drop, get_or, Option, Some, None, unwrap_or, IsFalse, append_assoc, cond, arith}
use Rattle.std.specs.List.{list_any}
use Rattle.std.specs.Option.{option_or}
use Rattle.std.proofs.Math.Seq.{drop-append_seam}
use Rattle.std.proofs.lemmas.Bool.{both_ways}
use Rattle.std.proofs.lemmas.Bool.Decides.{nat_tests}
use Rattle.std.proofs.lemmas.List.{append-nil}
use Rattle.std.proofs.lemmas.List.Folds.{list_any-append}
use Rattle.part_hashset.specs.declared.aim.Aim.{Aim}
use Rattle.part_sizes.specs.declared.part.TheConstants.{PART}
use Rattle.reserve_core.specs.Choice.{offer_by, offers_part}
use Rattle.reserve_core.specs.Desk.{is_own, own}
use Rattle.reserve_core.specs.Events.{latest}
use Rattle.reserve_core.specs.Filled.{filled_by, is_filled}
use Rattle.reserve_core.specs.Legal.{Allowed, AreLegal, Follows}
use Rattle.reserve_core.specs.Moved.{moved, moves}
use Rattle.part_hashset.specs.Goals.{is_nil}
use Rattle.reserve_core.specs.Verdicts.{kept_set, lacks_set}
use Rattle.reserve_core.specs.declared.event.Event.{Event}
use Rattle.reserve_core.specs.declared.event.Event.TheVariants.{Opened, Hashes, Offer, Reserve, Write, Release, Commit, Verdict, Recovered, Dropped}
use Rattle.reserve_core.proofs.Latest.{set-same}
use Rattle.reserve_core.proofs.Quiet.{filled-same}

or_none : (a b : Bool) → (a || b) ≡ false → (a ≡ false) × (b ≡ false)
or_none false false none = (refl, refl)
or_none true b none = absurd (cc)
or_none false true none = absurd (cc)

-- ---- events that move nothing

-- what is behind a front of the log moves nothing
pub behind_still : (aim : Aim) (h front more : List Event) → h ≡ front ++ more → IsFalse (moved aim h (length front)) → IsFalse (list_any (moves aim h) more)
behind_still aim h front more is still =
    sym (ap (list_any (moves aim h)) (ap (drop (length front)) is ∙ drop-append_seam front more)) ∙ still

-- of two stretches neither moves
pub both_still : (aim : Aim) (h a b : List Event) → IsFalse (list_any (moves aim h) (a ++ b)) → IsFalse (list_any (moves aim h) a) × IsFalse (list_any (moves aim h) b)
both_still aim h a b still = or_none (list_any (moves aim h) a) (list_any (moves aim h) b) (sym (list_any-append (moves aim h) a b) ∙ still)

-- ---- what is filled

fills_nothing : (aim : Aim) (all before : List Event) (n x : ℕ) (e : Event) → Allowed aim before e → IsFalse (moves aim all e) → filled_by n x e ≡ None
fills_nothing aim all before n x (Opened o) allowed still = absurd allowed
fills_nothing aim all before n x (Write p r) allowed still = absurd (cc)
fills_nothing aim all before n x (Recovered i kept) allowed still = absurd (cc)
fills_nothing aim all before n x (Dropped i) allowed still = absurd (cc)
fills_nothing aim all before n x _ allowed still = refl

pub filled_on : (aim : Aim) (all before more : List Event) (x : ℕ) → Follows aim before more → IsFalse (list_any (moves aim all) more) → is_filled aim.size (before ++ more) x ≡ is_filled aim.size before x
filled_on aim all before [] x follows still = ap (λ h. is_filled aim.size h x) (append-nil before)
filled_on aim all before (e ∷ more) x follows still =
    let none = or_none (moves aim all e) (list_any (moves aim all) more) still in
    ap (λ h. is_filled aim.size h x) (sym (append_assoc before (e ∷ []) more))
    ∙ filled_on aim all (before ++ e ∷ []) more x follows.1 none.1
    ∙ filled-same aim.size before e x (fills_nothing aim all before aim.size x e follows.0 none.0)

-- ---- the kept set

keeps_nothing : (n : ℕ) (set : List (List ℕ)) → PART ≤ n → set ≡ [] → (nat_le PART n && is_nil set) ≡ false → ⊥
keeps_nothing n set large none lacks =
    let test : nat_le PART n ≡ true = grind (arith, nat_tests) in
    let nil : is_nil set ≡ true = ap is_nil none in
    both_ways (nat_le PART n && is_nil set) lacks (rw (test, nil) refl)

lacks_same : (n : ℕ) (a b : List (List ℕ)) → a ≡ b → (nat_le PART n && is_nil b) ≡ false → (nat_le PART n && is_nil a) ≡ false
lacks_same n a b same lacks = ap (λ set. nat_le PART n && is_nil set) same ∙ lacks

lacks_after : (aim : Aim) (before : List Event) (e : Event) → Allowed aim before e → IsFalse (lacks_set aim.size before) → IsFalse (lacks_set aim.size (before ++ e ∷ []))
lacks_after aim before (Opened o) allowed lacks = absurd allowed
lacks_after aim before (Hashes set) allowed lacks = absurd (keeps_nothing aim.size (kept_set before) allowed.needed allowed.none lacks)
lacks_after aim before (Offer p bits) allowed lacks = lacks_same aim.size _ _ (set-same before (Offer p bits) refl) lacks
lacks_after aim before (Reserve p spans) allowed lacks = lacks_same aim.size _ _ (set-same before (Reserve p spans) refl) lacks
lacks_after aim before (Write p r) allowed lacks = lacks_same aim.size _ _ (set-same before (Write p r) refl) lacks
lacks_after aim before (Release p) allowed lacks = lacks_same aim.size _ _ (set-same before (Release p) refl) lacks
lacks_after aim before Commit allowed lacks = lacks_same aim.size _ _ (set-same before Commit refl) lacks
lacks_after aim before (Verdict i d) allowed lacks = lacks_same aim.size _ _ (set-same before (Verdict i d) refl) lacks
lacks_after aim before (Recovered i kept) allowed lacks = lacks_same aim.size _ _ (set-same before (Recovered i kept) refl) lacks
lacks_after aim before (Dropped i) allowed lacks = lacks_same aim.size _ _ (set-same before (Dropped i) refl) lacks

-- a set that isn't lacking is never lacking again
pub lacks_on : (aim : Aim) (before more : List Event) → Follows aim before more → IsFalse (lacks_set aim.size before) → IsFalse (lacks_set aim.size (before ++ more))
lacks_on aim before [] follows lacks = ap (lacks_set aim.size) (append-nil before) ∙ lacks
lacks_on aim before (e ∷ more) follows lacks =
    ap (lacks_set aim.size) (sym (append_assoc before (e ∷ []) more))
    ∙ lacks_on aim (before ++ e ∷ []) more follows.1 (lacks_after aim before e follows.0 lacks)

-- ---- what a legal log allows behind a front

follows_behind : (aim : Aim) (before a b : List Event) → Follows aim before (a ++ b) → Follows aim (before ++ a) b
follows_behind aim before [] b follows = subst (λ h. Follows aim h b) (sym (append-nil before)) follows
follows_behind aim before (e ∷ a) b follows =
    subst (λ h. Follows aim h b) (append_assoc before (e ∷ []) a) (follows_behind aim (before ++ e ∷ []) a b follows.1)

pub legal_behind : (aim : Aim) (first : Event) (front more : List Event) → AreLegal aim ((first ∷ front) ++ more) → Follows aim (first ∷ front) more
legal_behind aim first front more legal = follows_behind aim (first ∷ []) front more legal.1

-- ---- the newest offer

latest_append : {X Y : Type 0} (says : X → Option Y) (a b : List X) → latest says (a ++ b) ≡ option_or (latest says b) (latest says a)
latest_append says [] b = ends (latest says b)
  where
    ends : {Y : Type 0} (o : Option Y) → o ≡ option_or o None
    ends None = refl
    ends (Some y) = refl
latest_append says (e ∷ a) b = ap (λ o. option_or o (says e)) (latest_append says a b) ∙ joins (latest says b) (latest says a) (says e)
  where
    joins : {Y : Type 0} (a b c : Option Y) → option_or (option_or a b) c ≡ option_or a (option_or b c)
    joins None b c = refl
    joins (Some y) b c = refl

not_offered : (p : ℕ) (e : Event) → IsFalse (is_own p e) → offer_by p e ≡ None
not_offered p (Offer q bits) other = rw other refl
not_offered p _ other = refl

foreign_step : (p : ℕ) (e : Event) (h : List Event) (owned : Bool) → cond owned (e ∷ own h p) (own h p) ≡ [] → (owned ≡ false) × (own h p ≡ [])
foreign_step p e h true none = absurd (cc)
foreign_step p e h false none = (refl, none)

-- the first event of a log without a peer's own isn't its own, and nor are the rest
pub foreign_first : (p : ℕ) (e : Event) (h : List Event) → own (e ∷ h) p ≡ [] → IsFalse (is_own p e) × (own h p ≡ [])
foreign_first p e h none = foreign_step p e h (is_own p e) none

offers_nothing : (p : ℕ) (h : List Event) → own h p ≡ [] → latest (offer_by p) h ≡ None
offers_nothing p [] none = refl
offers_nothing p (e ∷ h) none =
    let first = foreign_first p e h none in
    ap (λ o. option_or o (offer_by p e)) (offers_nothing p h first.1) ∙ not_offered p e first.0

pub offers_on : (p i : ℕ) (h more : List Event) → own more p ≡ [] → offers_part (h ++ more) p i ≡ offers_part h p i
offers_on p i h more none =
    ap (λ (o : Option (List Bool)). get_or (unwrap_or o []) i false) (latest_append (offer_by p) h more ∙ ap (λ o. option_or o (latest (offer_by p) h)) (offers_nothing p more none))
