-- What may be read of the bytes ahead, and what was taken of them.
use Rattle.std.proofs.Common.{◌≡◌, ◌⊎◌, ℕ, ◌+◌, ◌-◌, ◌≤◌, List, [], ◌∷◌, ◌++◌, length, take, drop, Option, Some, None, Err, IfSome, refl, sym, ap, subst, ◌∙◌, inl, inr, append_assoc, arith}
use Rattle.std.proofs.Math.Seq.{take-append-add}
use Rattle.std.proofs.lemmas.List.{take-append-drop}
use Rattle.std.specs.Io.KnownBytes.{prepend_known}
use Rattle.client_msgs.specs.Reading.{message}
use Rattle.client_msgs.specs.declared.fault.MsgFault.{MsgFault}
use Rattle.client_msgs.specs.declared.msg.PeerMsg.{PeerMsg}
use Rattle.ed2k_frame.specs.Frame.{spell}
use Rattle.ed2k_frame.specs.Front.{IsFrameAt, IsFaultAt}
use Rattle.ed2k_frame.specs.declared.fault.FrameFault.{FrameFault}
use Rattle.ed2k_frame.specs.declared.frame.Frame.{Frame}
use Rattle.ed2k_frame.proofs.Fronts.{fault_stays, partial_is_no_fault, partial_is_no_frame}
use Rattle.ed2k_outside.specs.Causes.{IfKnown}
use Rattle.peer_fetch.specs.Moves.{Draws, Outside, SpentNeeds}
use Rattle.peer_fetch.specs.Talk.{Act, Begins, Sends, Breaks, Asks, Takes, Stops, Comes, IsBad, IsStop, Reads, StandsNext}
use Rattle.peer_fetch.specs.Within.{IsUsedUp, ReadsWithin, SpentExactly, StopsWithin}
use Rattle.peer_fetch.specs.declared.cause.Cause.{Cause}
use Rattle.peer_fetch.specs.declared.cause.Cause.TheVariants as causes

is_bad_later : (fault : MsgFault) (bytes more : List ℕ) → IsBad fault bytes → IsBad fault (bytes ++ more)
is_bad_later fault bytes more bad = record {
  frame = bad.frame;
  rest = bad.rest ++ more;
  first = record { valid = bad.first.valid; spelled = ap (λ front. front ++ more) bad.first.spelled ∙ append_assoc (spell bad.frame) bad.rest more };
  refused = bad.refused;
}

-- what stands within what may be read stands next
stands_next : (cause : Cause) (room : ℕ) (bytes : List ℕ) → StopsWithin room cause bytes → StandsNext cause bytes
stands_next causes.Ended room bytes within = within.1
stands_next (causes.BadFrame fault) room bytes within = subst (IsFaultAt fault) (take-append-drop room bytes) (fault_stays fault (take room bytes) (drop room bytes) within)
stands_next (causes.BadMsg fault) room bytes within = subst (IsBad fault) (take-append-drop room bytes) (is_bad_later fault (take room bytes) (drop room bytes) within)
stands_next _ room bytes within = tt

stand_next : (cause : Cause) (room : ℕ) (known : Option (List ℕ)) → IfSome known (StopsWithin room cause) → IfSome known (StandsNext cause)
stand_next cause room None within = tt
stand_next cause room (Some bytes) within = stands_next cause room bytes within

pub reads_of : (room last : ℕ) (acts : List Act) (old new : Option (List ℕ)) → ReadsWithin room last acts old new → Reads acts old new
reads_of room last [] old new here = here.1
reads_of room last (Begins ∷ acts) old new here = reads_of room last acts old new here
reads_of room last (Sends msg ∷ acts) old new here = reads_of room last acts old new here
reads_of room last (Breaks msg part cause ∷ acts) old new here = reads_of room last acts old new here
reads_of room last (Asks ask answer added ∷ acts) old new here = reads_of room last acts old new here
reads_of room last (Takes msg ∷ acts) old new (mid, comes, left, size, here) = (mid, comes, reads_of left last acts mid new here)
reads_of room last (Stops cause ∷ acts) old new (stands, mid, leaves, left, fits, here) = (stand_next cause room old stands, mid, leaves, reads_of left last acts mid new here)

pub within_on : (room middle last : ℕ) (acts more : List Act) (old mid new : Option (List ℕ)) → ReadsWithin room middle acts old mid → ReadsWithin middle last more mid new → ReadsWithin room last (acts ++ more) old new
within_on room middle last [] more old mid new here further =
    subst (λ n. ReadsWithin n last more old new) (sym here.0) (subst (λ known. ReadsWithin middle last more known new) (sym here.1) further)
within_on room middle last (Begins ∷ acts) more old mid new here further = within_on room middle last acts more old mid new here further
within_on room middle last (Sends msg ∷ acts) more old mid new here further = within_on room middle last acts more old mid new here further
within_on room middle last (Breaks msg part cause ∷ acts) more old mid new here further = within_on room middle last acts more old mid new here further
within_on room middle last (Asks ask answer added ∷ acts) more old mid new here further = within_on room middle last acts more old mid new here further
within_on room middle last (Takes msg ∷ acts) more old mid new (next, comes, left, size, here) further = (next, comes, left, size, within_on left middle last acts more next mid new here further)
within_on room middle last (Stops cause ∷ acts) more old mid new (stands, next, leaves, left, fits, here) further = (stands, next, leaves, left, fits, within_on left middle last acts more next mid new here further)

-- as many bytes as may be read, of which the reader has the first
take_more : (rest more : List ℕ) (room : ℕ) → length rest ≤ room → take room (rest ++ more) ≡ rest ++ take (room - length rest) more
take_more rest more room fits =
    let size : room ≡ length rest + (room - length rest) = omega arith in
    ap (λ n. take n (rest ++ more)) size ∙ take-append-add rest more (room - length rest)

pub fault_within : (fault : FrameFault) (room : ℕ) (rest : List ℕ) (left : Option (List ℕ)) → IsFaultAt fault rest → length rest ≤ room → IfSome (prepend_known rest left) (StopsWithin room (causes.BadFrame fault))
fault_within fault room rest None there fits = tt
fault_within fault room rest (Some bytes) there fits = subst (IsFaultAt fault) (sym (take_more rest bytes room fits)) (fault_stays fault rest (take (room - length rest) bytes) there)

pub bad_within : (fault : MsgFault) (frame : Frame) (room : ℕ) (rest rest2 : List ℕ) (left : Option (List ℕ)) → IsFrameAt frame rest rest2 → message frame ≡ Err fault → length rest ≤ room →
    IfSome (prepend_known rest left) (StopsWithin room (causes.BadMsg fault))
bad_within fault frame room rest rest2 None first refused fits = tt
bad_within fault frame room rest rest2 (Some bytes) first refused fits =
    let here : IsBad fault rest = record { frame = frame; rest = rest2; first = first; refused = refused } in
    subst (IsBad fault) (sym (take_more rest bytes room fits)) (is_bad_later fault rest (take (room - length rest) bytes) here)

-- what was taken, and what is left on the wire

abbrev DrawsBy : ℕ → ℕ → ℕ → ℕ → Option (List ℕ) → Option (List ℕ) → Type 0
DrawsBy taken unread taken2 unread2 old new = IfKnown (λ bytes bytes_now. taken2 + (length bytes_now - unread2) ≡ taken + (length bytes - unread)) old new

draws_by : (t u t2 u2 t3 u3 : ℕ) (old mid new : Option (List ℕ)) → DrawsBy t u t2 u2 old mid → DrawsBy t2 u2 t3 u3 mid new → DrawsBy t u t3 u3 old new
draws_by t u t2 u2 t3 u3 None mid new here further = subst (λ known. DrawsBy t2 u2 t3 u3 known new) here further
draws_by t u t2 u2 t3 u3 (Some old) None new here further = absurd here
draws_by t u t2 u2 t3 u3 (Some old) (Some mid) None here further = absurd further
draws_by t u t2 u2 t3 u3 (Some old) (Some mid) (Some new) here further = omega (arith, here, further)

pub draws_on : (old mid new : Outside) → Draws old mid → Draws mid new → Draws old new
draws_on old mid new here further = draws_by old.taken (length old.unread) mid.taken (length mid.unread) new.taken (length new.unread) old.ahead mid.ahead new.ahead here further

draws_none : (t u : ℕ) (known : Option (List ℕ)) → DrawsBy t u t u known known
draws_none t u None = refl
draws_none t u (Some bytes) = refl

pub draws_same : (old new : Outside) → new.ahead ≡ old.ahead → new.taken ≡ old.taken → new.unread ≡ old.unread → Draws old new
draws_same old new ahead taken unread =
    subst (λ known. DrawsBy old.taken (length old.unread) new.taken (length new.unread) old.ahead known) (sym ahead)
    (subst (λ n. DrawsBy old.taken (length old.unread) n (length new.unread) old.ahead old.ahead) (sym taken)
    (subst (λ rest. DrawsBy old.taken (length old.unread) old.taken (length rest) old.ahead old.ahead) (sym unread) (draws_none old.taken (length old.unread) old.ahead)))

-- no more is taken than is there
drawn : (t u t2 u2 : ℕ) (stream : List ℕ) (known : Option (List ℕ)) → DrawsBy t u t2 u2 (Some stream) known → t2 ≤ t + length stream
drawn t u t2 u2 stream None draws = absurd draws
drawn t u t2 u2 stream (Some bytes) draws = omega (arith, draws)

pub spent_needs : SpentNeeds
spent_needs budget faults old new stream none told draws blamed =
    let spent = blamed.spent refl in
    let all = drawn old.taken (length old.unread) new.taken (length new.unread) stream new.ahead
    (subst (λ known. DrawsBy old.taken (length old.unread) new.taken (length new.unread) known new.ahead) told draws) in
    omega (arith, none, spent.0, all)

-- where the session stops exactly with Spent

no_message : (msg : PeerMsg) (room left : ℕ) (bytes : List ℕ) (mid : Option (List ℕ)) → (comes : Comes msg (Some bytes) mid) → room ≡ left + length (spell comes.frame) → IsUsedUp room bytes → ⊥
no_message msg room left bytes None comes size used = let first = comes.first in cc
no_message msg room left bytes (Some mid) comes size used =
    let first = comes.first in
    let whole : bytes ≡ spell comes.frame ++ mid = cc in
    let seen : take room bytes ≡ spell comes.frame ++ take (room - length (spell comes.frame)) mid =
    ap (take room) whole ∙ take_more (spell comes.frame) mid room (omega (arith, size)) in
    partial_is_no_frame comes.frame (take room bytes) (take (room - length (spell comes.frame)) mid) (record { valid = comes.is_frame; spelled = seen }) used.1

used_stop : (cause : Cause) (room : ℕ) (bytes : List ℕ) → IsStop cause → StopsWithin room cause bytes → IsUsedUp room bytes → (Stops cause ≡ Stops causes.Spent) ⊎ (Stops cause ≡ Stops causes.WireFault) ⊎ (Stops cause ≡ Stops causes.NoMemory)
used_stop causes.Ended room bytes stop within used = absurd (omega (arith, within.0, used.0))
used_stop causes.WireFault room bytes stop within used = inr (inl refl)
used_stop (causes.BadFrame fault) room bytes stop within used = absurd (partial_is_no_fault (take room bytes) fault used.1 within)
used_stop (causes.BadMsg fault) room bytes stop within used = absurd (partial_is_no_frame within.frame (take room bytes) within.rest within.first used.1)
used_stop causes.Spent room bytes stop within used = inl refl
used_stop causes.NoMemory room bytes stop within used = inr (inr refl)
used_stop _ room bytes stop within used = absurd stop

spent_stop : (cause : Cause) (room : ℕ) (bytes : List ℕ) → StopsWithin room cause bytes → Stops cause ≡ Stops causes.Spent → IsUsedUp room bytes
spent_stop cause room bytes within is =
    let same : cause ≡ causes.Spent = cc in
    subst (λ (c : Cause). StopsWithin room c bytes) same within

pub spent_exactly : SpentExactly
spent_exactly s (Takes msg) acts room last bytes new fits (mid, comes, left, size, here) = (λ is. cc, λ used. absurd (no_message msg room left bytes mid comes size used))
spent_exactly s (Stops cause) acts room last bytes new fits within = (λ is. spent_stop cause room bytes within.0 is, λ used. used_stop cause room bytes fits within.0 used)
spent_exactly s _ acts room last bytes new fits within = absurd fits
