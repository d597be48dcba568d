-- A frame at the front of the bytes ahead.
use Rattle.std.proofs.Common.{◌≡◌, ◌≢◌, ℕ, ◌+◌, ◌<◌, ◌≤◌, List, length, Option, Some, None, Result, Ok, Err, IfSome, ap, sym, subst, ◌∙◌, length-append, arith}
use Rattle.std.specs.Io.KnownBytes.{prepend_known}
use Rattle.client_msgs.specs.declared.fault.MsgFault.{MsgFault}
use Rattle.client_msgs.specs.declared.fault.MsgFault.TheVariants as msg_fault
use Rattle.client_msgs.specs.declared.msg.PeerMsg.{PeerMsg}
use Rattle.ed2k_frame.specs.Front.{IsFrameAt, IsFaultAt}
use Rattle.ed2k_frame.specs.Frame.{spell}
use Rattle.ed2k_frame.specs.declared.fault.FrameFault.{FrameFault}
use Rattle.ed2k_frame.specs.declared.fault.FrameFault.TheVariants as frame_fault
use Rattle.ed2k_frame.specs.declared.frame.Frame.{Frame}
use Rattle.peer_fetch.specs.Moves.{IsMessage, Outside, Receives, StopsBy, bytes_to_come, frame_cause, msg_cause}
use Rattle.peer_fetch.specs.Within.{StopsWithin}
use Rattle.peer_fetch.specs.declared.cause.Cause.{Cause}
use Rattle.peer_fetch.specs.declared.cause.Cause.TheVariants as causes
use Rattle.peer_fetch.proofs.Known.{prepend_twice}
use Rattle.peer_fetch.proofs.Within.{bad_within, fault_within}

at_fault : (fault : FrameFault) (bytes : List ℕ) → IsFaultAt fault bytes → (other : FrameFault) → causes.BadFrame fault ≡ causes.BadFrame other → IsFaultAt other bytes
at_fault fault bytes there other is = let same : fault ≡ other = cc in subst (λ (f : FrameFault). IsFaultAt f bytes) same there

shorter : (frame : Frame) (rest rest2 : List ℕ) → IsFrameAt frame rest rest2 → length rest2 < length rest
shorter frame rest rest2 first =
    let size : length rest ≡ length (spell frame) + length rest2 = ap length first.spelled ∙ length-append (spell frame) rest2 in
    omega (arith, size)

pub nothing_stands : (known : Option (List ℕ)) → IfSome known (λ bytes. Unit {0})
nothing_stands None = tt
nothing_stands (Some bytes) = tt

stops_by : (fault : MsgFault) (budget : ℕ) (old new : Outside) → (fault ≢ msg_fault.NoMemory → IfSome old.ahead (StopsWithin (bytes_to_come budget old) (causes.BadMsg fault))) → (frame : Frame) × (old.ahead ≡ prepend_known (spell frame) new.ahead) → StopsBy budget (msg_cause fault) old new
stops_by msg_fault.NoMemory budget old new bad gone = record { stops = tt; leaves = tt; stands = nothing_stands old.ahead; wire = λ e. cc; ended = λ e. cc; frame = λ other e. cc; spent = λ e. cc }
stops_by msg_fault.Compressed budget old new bad gone = record { stops = tt; leaves = gone; stands = bad (λ e. cc); wire = λ e. cc; ended = λ e. cc; frame = λ other e. cc; spent = λ e. cc }
stops_by msg_fault.Cut budget old new bad gone = record { stops = tt; leaves = gone; stands = bad (λ e. cc); wire = λ e. cc; ended = λ e. cc; frame = λ other e. cc; spent = λ e. cc }
stops_by (msg_fault.BadTag fault) budget old new bad gone = record { stops = tt; leaves = gone; stands = bad (λ e. cc); wire = λ e. cc; ended = λ e. cc; frame = λ other e. cc; spent = λ e. cc }
stops_by msg_fault.BadRange budget old new bad gone = record { stops = tt; leaves = gone; stands = bad (λ e. cc); wire = λ e. cc; ended = λ e. cc; frame = λ other e. cc; spent = λ e. cc }

pub receives_frame : (budget : ℕ) (result : Result PeerMsg Cause) (frame : Frame) (rest rest2 : List ℕ) (left : Option (List ℕ)) (old mid new : Outside) →
    mid.ahead ≡ prepend_known rest left → mid.unread ≡ rest → mid.ahead ≡ old.ahead → bytes_to_come budget mid ≡ bytes_to_come budget old →
    new.ahead ≡ prepend_known rest2 left → new.unread ≡ rest2 → new.taken ≡ mid.taken →
    IsFrameAt frame rest rest2 → IsMessage result frame → Receives budget result old new
receives_frame budget (Ok msg) frame rest rest2 left old mid new ahead unread same room ahead2 unread2 taken first says =
    let less = shorter frame rest rest2 first in
    let here : length mid.unread ≡ length rest = ap length unread in
    let there : length new.unread ≡ length rest2 = ap length unread2 in
    let size : length rest ≡ length (spell frame) + length rest2 = ap length first.spelled ∙ length-append (spell frame) rest2 in
    let comes : old.ahead ≡ prepend_known (spell frame) new.ahead =
    sym same ∙ ahead ∙ ap (λ bytes. prepend_known bytes left) first.spelled ∙ sym (prepend_twice (spell frame) rest2 left) ∙ ap (prepend_known (spell frame)) (sym ahead2) in (
      record { frame = frame; is_frame = first.valid; says = says; first = comes },
      omega (arith, room, here, there, size, taken),
      omega (arith, room, less, here, there, taken),
    )
receives_frame budget (Err cause) frame rest rest2 left old mid new ahead unread same room ahead2 unread2 taken first (fault, is, refused) =
    let here : length mid.unread ≡ length rest = ap length unread in
    let comes : old.ahead ≡ prepend_known (spell frame) new.ahead =
    sym same ∙ ahead ∙ ap (λ bytes. prepend_known bytes left) first.spelled ∙ sym (prepend_twice (spell frame) rest2 left) ∙ ap (prepend_known (spell frame)) (sym ahead2) in
    let fits : length rest ≤ bytes_to_come budget mid = omega (arith, here) in
    let bad : fault ≢ msg_fault.NoMemory → IfSome old.ahead (StopsWithin (bytes_to_come budget old) (causes.BadMsg fault)) = λ other.
    subst (λ n. IfSome old.ahead (StopsWithin n (causes.BadMsg fault))) room
    (subst (λ known. IfSome known (StopsWithin (bytes_to_come budget mid) (causes.BadMsg fault))) (sym ahead ∙ same) (bad_within fault frame (bytes_to_come budget mid) rest rest2 left first (refused other) fits)) in
    subst (λ found. StopsBy budget found old new) (sym is) (stops_by fault budget old new bad (frame, comes))

-- a fault that stands next in the reader
pub receives_fault : (budget : ℕ) (fault : FrameFault) (rest : List ℕ) (left : Option (List ℕ)) (old mid new : Outside) →
    mid.ahead ≡ prepend_known rest left → mid.unread ≡ rest → mid.ahead ≡ old.ahead → bytes_to_come budget mid ≡ bytes_to_come budget old →
    (fault ≢ frame_fault.NoMemory → IsFaultAt fault rest × (new.unread ≡ mid.unread) × (new.ahead ≡ mid.ahead)) → StopsBy budget (frame_cause fault) old new
receives_fault budget fault rest left old mid new ahead unread same room stands =
    let here : length mid.unread ≡ length rest = ap length unread in
    let fits : length rest ≤ bytes_to_come budget mid = omega (arith, here) in
    let within : IsFaultAt fault rest → IfSome old.ahead (StopsWithin (bytes_to_come budget old) (causes.BadFrame fault)) = λ there.
    subst (λ n. IfSome old.ahead (StopsWithin n (causes.BadFrame fault))) room
    (subst (λ known. IfSome known (StopsWithin (bytes_to_come budget mid) (causes.BadFrame fault))) (sym ahead ∙ same) (fault_within fault (bytes_to_come budget mid) rest left there fits)) in
    let seen : fault ≢ frame_fault.NoMemory → IsFaultAt fault new.unread = λ other. let (there, unread2, ahead2) = stands other in subst (IsFaultAt fault) (sym (unread2 ∙ unread)) there in
    faulty fault budget old new (λ other. within (stands other).0) seen (λ other. (stands other).2 ∙ same)
  where
    faulty : (fault : FrameFault) (budget : ℕ) (old new : Outside) → (fault ≢ frame_fault.NoMemory → IfSome old.ahead (StopsWithin (bytes_to_come budget old) (causes.BadFrame fault))) →
        (fault ≢ frame_fault.NoMemory → IsFaultAt fault new.unread) → (fault ≢ frame_fault.NoMemory → new.ahead ≡ old.ahead) → StopsBy budget (frame_cause fault) old new
    faulty frame_fault.NoMemory budget old new within seen still = record { stops = tt; leaves = tt; stands = nothing_stands old.ahead; wire = λ e. cc; ended = λ e. cc; frame = λ other e. cc; spent = λ e. cc }
    faulty frame_fault.Packed budget old new within seen still = record { stops = tt; leaves = still (λ e. cc); stands = within (λ e. cc); wire = λ e. cc; ended = λ e. cc; frame = at_fault frame_fault.Packed new.unread (seen (λ e. cc)); spent = λ e. cc }
    faulty (frame_fault.BadProtocol found) budget old new within seen still =
        record { stops = tt; leaves = still (λ e. cc); stands = within (λ e. cc); wire = λ e. cc; ended = λ e. cc; frame = at_fault (frame_fault.BadProtocol found) new.unread (seen (λ e. cc)); spent = λ e. cc }
    faulty (frame_fault.BadLength found) budget old new within seen still =
        record { stops = tt; leaves = still (λ e. cc); stands = within (λ e. cc); wire = λ e. cc; ended = λ e. cc; frame = at_fault (frame_fault.BadLength found) new.unread (seen (λ e. cc)); spent = λ e. cc }
