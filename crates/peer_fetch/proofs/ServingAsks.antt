-- What a call of the desk leaves of a body that has the file's byte at each filled position.
use Rattle.std.proofs.Common.{◌≡◌, ℕ, ◌+◌, ◌<◌, ◌≤◌, Bool, true, false, List, [], ◌∷◌, ◌++◌, length, Option, None, Result, Ok, Err, unwrap_or, if◌then◌else◌, refl, ap, sym, ◌∙◌, subst, inl, inr, append-nil}
use Rattle.std.specs.Bool.{then_some}
use Rattle.std.specs.Option.{option_or}
use Rattle.part_hashset.specs.declared.aim.Aim.{Aim}
use Rattle.part_sizes.specs.Part.{part_range}
use Rattle.part_sizes.specs.Span.{has}
use Rattle.reserve_core.specs.Choice.{pick_of}
use Rattle.reserve_core.specs.Desk.{AddsOrRefuses, Answered, LaysBody, span_at}
use Rattle.reserve_core.specs.Events.{latest}
use Rattle.reserve_core.specs.Filled.{filled_by, is_filled, is_uncommitted}
use Rattle.reserve_core.specs.Held.{is_holder}
use Rattle.reserve_core.specs.declared.desk.Answer.{Answer}
use Rattle.reserve_core.specs.declared.desk.Answer.TheVariants as answers
use Rattle.reserve_core.specs.declared.desk.DeskAsk.{DeskAsk}
use Rattle.reserve_core.specs.declared.desk.DeskAsk.TheVariants as asks
use Rattle.reserve_core.specs.declared.event.Event.{Event}
use Rattle.reserve_core.specs.declared.event.Event.TheVariants as event
use Rattle.reserve_core.specs.declared.fault.DeskFault.{DeskFault}
use Rattle.reserve_core.specs.declared.fault.DeskFault.TheVariants.{Fault}
use Rattle.reserve_core.proofs.Latest.{latest-push}
use Rattle.reserve_core.proofs.Quiet.{filled-same}
use Rattle.peer_fetch.proofs.ServingBody.{BodyAgrees, IsPieceOf, agrees_fewer, agrees_torn, agrees_written}

-- a piece of the file, of which no position is filled
pub record IsFilePiece (n : ℕ) (file : List ℕ) (h : List Event) (at : ℕ) (piece : List ℕ) : Type 0 where
  pub of : IsPieceOf n file at (at + length piece) piece
  pub free : (x : ℕ) → at ≤ x → x < at + length piece → is_filled n h x ≡ false

-- what is written is such a piece
abbrev pub IsTrueTo : Aim → List ℕ → List Event → DeskAsk → Type 0
IsTrueTo aim file h (asks.Write at piece) = IsFilePiece aim.size file h at piece
IsTrueTo aim file h _ = Unit {0}

-- the event fills nothing
abbrev FillsNone : ℕ → List Event → Event → Type 0
FillsNone n h e = (x : ℕ) → is_filled n (h ++ e ∷ []) x ≡ true → is_filled n h x ≡ true

touches_none : (n : ℕ) (h : List Event) (e : Event) → ((x : ℕ) → filled_by n x e ≡ None) → FillsNone n h e
touches_none n h e none x filled = sym (filled-same n h e x (none x)) ∙ filled

dropped_none : (n : ℕ) (h : List Event) (i : ℕ) → FillsNone n h (event.Dropped i)
dropped_none n h i x filled =
    before (has (part_range n i) x) (latest (filled_by n x) h) (sym (ap (λ o. unwrap_or o false) (latest-push (filled_by n x) h (event.Dropped i))) ∙ filled)
  where
    before : (here : Bool) (o : Option Bool) → unwrap_or (option_or (then_some here false) o) false ≡ true → unwrap_or o false ≡ true
    before true o filled = absurd (cc)
    before false o filled = filled

-- an event that fills nothing is added, or none is

by_one : (n : ℕ) (file : List ℕ) (h : List Event) (e : Event) (new : List Event) (body mid : List ℕ) → FillsNone n h e → new ≡ e ∷ [] → mid ≡ body → BodyAgrees n file h body → BodyAgrees n file (h ++ new) mid
by_one n file h e new body mid none is same agrees =
    subst (λ (es : List Event). BodyAgrees n file (h ++ es) mid) (sym is)
    (subst (λ (bytes : List ℕ). BodyAgrees n file (h ++ e ∷ []) bytes) (sym same) (agrees_fewer n file h (h ++ e ∷ []) body none agrees))

by_none : (n : ℕ) (file : List ℕ) (h new : List Event) (body mid : List ℕ) → new ≡ [] → mid ≡ body → BodyAgrees n file h body → BodyAgrees n file (h ++ new) mid
by_none n file h new body mid is same agrees =
    subst (λ (log : List Event). BodyAgrees n file log mid) (sym (ap (λ es. h ++ es) is ∙ append-nil h))
    (subst (λ (bytes : List ℕ). BodyAgrees n file h bytes) (sym same) agrees)

by_adds : {T : Type 0} (aim : Aim) (file : List ℕ) (h : List Event) (e : Event) (result : Result T DeskFault) (new : List Event) (body mid : List ℕ) → FillsNone aim.size h e → AddsOrRefuses aim h e result new → mid ≡ body
    → BodyAgrees aim.size file h body → BodyAgrees aim.size file (h ++ new) mid
by_adds aim file h e (Ok x) new body mid none adds same agrees = by_one aim.size file h e new body mid none adds.1 same agrees
by_adds aim file h e (Err why) new body mid none adds same agrees = by_none aim.size file h new body mid adds.1 same agrees

by_test : (n : ℕ) (file : List ℕ) (h : List Event) (e : Event) (test : Bool) (new : List Event) (body mid : List ℕ) → FillsNone n h e → new ≡ (if test then e ∷ [] else []) → mid ≡ body → BodyAgrees n file h body → BodyAgrees n file (h ++ new) mid
by_test n file h e true new body mid none is same agrees = by_one n file h e new body mid none is same agrees
by_test n file h e false new body mid none is same agrees = by_none n file h new body mid is same agrees

-- a write that failed
by_fault : (n : ℕ) (file : List ℕ) (h new : List Event) (body mid : List ℕ) (at : ℕ) (piece : List ℕ) (why : DeskFault) → IsFilePiece n file h at piece → new ≡ [] → LaysBody (asks.Write at piece) (answers.Write (Err why)) body mid
    → BodyAgrees n file h body → BodyAgrees n file (h ++ new) mid
by_fault n file h new body mid at piece Fault of none laid agrees =
    by_none n file h new mid mid none refl (agrees_torn n file h body mid at (length piece) of.of.within of.free (laid.0 refl) agrees)
by_fault n file h new body mid at piece _ of none laid agrees = by_none n file h new body mid none (laid.1 (λ e. cc)) agrees

-- a call that is true to the file leaves it so
pub agrees_asked : (aim : Aim) (file : List ℕ) (h : List Event) (body : List ℕ) (ask : DeskAsk) (answer : Answer) (new : List Event) (mid : List ℕ) → IsTrueTo aim file h ask → Answered aim 0 h ask answer new → LaysBody ask answer body mid
    → BodyAgrees aim.size file h body → BodyAgrees aim.size file (h ++ new) mid
agrees_asked aim file h body asks.HasSet (answers.HasSet kept) new mid of answered laid agrees = by_none aim.size file h new body mid answered.1 laid agrees
agrees_asked aim file h body asks.Holds (answers.Holds holding) new mid of answered laid agrees = by_none aim.size file h new body mid answered.1 laid agrees
agrees_asked aim file h body (asks.NextFailed from) (answers.NextFailed found) new mid of answered laid agrees = by_none aim.size file h new body mid answered.1 laid agrees
agrees_asked aim file h body (asks.Hashes set) (answers.Hashes result) new mid of answered laid agrees =
    by_adds aim file h (event.Hashes set) result new body mid (touches_none aim.size h (event.Hashes set) (λ x. refl)) answered laid agrees
agrees_asked aim file h body (asks.Offer bits) (answers.Offer result) new mid of answered laid agrees =
    by_adds aim file h (event.Offer 0 bits) result new body mid (touches_none aim.size h (event.Offer 0 bits) (λ x. refl)) answered laid agrees
agrees_asked aim file h body asks.Reserve (answers.Reserve result) new mid of answered laid agrees =
    let e : Event = event.Reserve 0 (pick_of aim.size h 0) in
    by_adds aim file h e result new body mid (touches_none aim.size h e (λ x. refl)) answered.0 laid agrees
agrees_asked aim file h body (asks.Write at piece) (answers.Write (Ok written)) new mid of answered laid agrees =
    let e : Event = event.Write 0 (span_at at piece) in
    subst (λ (es : List Event). BodyAgrees aim.size file (h ++ es) mid) (sym answered.0.1)
    (subst (λ (bytes : List ℕ). BodyAgrees aim.size file (h ++ e ∷ []) bytes) (sym laid) (agrees_written aim.size file h body 0 at (at + length piece) piece (span_at at piece) of.of refl agrees))
agrees_asked aim file h body (asks.Write at piece) (answers.Write (Err why)) new mid of answered laid agrees = by_fault aim.size file h new body mid at piece why of answered.0.1 laid agrees
agrees_asked aim file h body asks.Release answers.Release new mid of (inl is) laid agrees =
    by_test aim.size file h (event.Release 0) (is_holder h 0) new body mid (touches_none aim.size h (event.Release 0) (λ x. refl)) is laid agrees
agrees_asked aim file h body asks.Release answers.Release new mid of (inr none) laid agrees = by_none aim.size file h new body mid none laid agrees
agrees_asked aim file h body asks.Commit (answers.Commit (Ok done)) new mid of answered laid agrees =
    by_test aim.size file h event.Commit (is_uncommitted h) new body mid (touches_none aim.size h event.Commit (λ x. refl)) answered laid agrees
agrees_asked aim file h body asks.Commit (answers.Commit (Err why)) new mid of answered laid agrees = by_none aim.size file h new body mid answered.1 laid agrees
agrees_asked aim file h body (asks.Verify i) (answers.Verify result) new mid of answered laid agrees =
    let e : Event = event.Verdict i answered.0 in
    by_adds aim file h e result new body mid (touches_none aim.size h e (λ x. refl)) answered.1 laid agrees
agrees_asked aim file h body (asks.DropPart i) (answers.DropPart result) new mid of answered laid agrees =
    by_adds aim file h (event.Dropped i) result new body mid (dropped_none aim.size h i) answered laid agrees
agrees_asked aim file h body _ _ new mid of answered laid agrees = absurd answered
