-- A stream that stands in frames is read message by message, in order, and nothing of its bytes stops a session.
use Rattle.std.proofs.Common.{◌≡◌, ℕ, List, [], ◌∷◌, ◌++◌, Option, None, Some, Ok, Err, refl, ap, subst}
use Rattle.std.specs.List.{flat_map}
use Rattle.client_msgs.specs.Reading.{message}
use Rattle.client_msgs.specs.declared.msg.PeerMsg.{PeerMsg}
use Rattle.ed2k_frame.specs.Frame.{spell}
use Rattle.ed2k_frame.specs.Front.{IsFrameAt}
use Rattle.ed2k_frame.specs.declared.frame.Frame.{Frame}
use Rattle.ed2k_frame.proofs.Fronts.{fault_is_no_frame, one_frame, partial_is_no_frame}
use Rattle.peer_fetch.specs.Serves.{AreRead, IsFromOutside}
use Rattle.peer_fetch.specs.Talk.{Comes, IsStop, StandsNext}
use Rattle.peer_fetch.specs.declared.cause.Cause.{Cause}
use Rattle.peer_fetch.specs.declared.cause.Cause.TheVariants as causes

-- the bytes are frames that read as these messages
pub record Spells (bytes : List ℕ) (msgs : List PeerMsg) : Type 0 where
  pub frames : List Frame
  pub spelled : bytes ≡ flat_map spell frames
  pub read : AreRead frames msgs

-- the frame of the first message, and the others behind it
pub record Begins (bytes : List ℕ) (msg : PeerMsg) (msgs : List PeerMsg) : Type 0 where
  pub frame : Frame
  pub rest : List ℕ
  pub at : IsFrameAt frame bytes rest
  pub says : message frame ≡ Ok msg
  pub later : Spells rest msgs

begins_by : (bytes : List ℕ) (msg : PeerMsg) (msgs : List PeerMsg) (frames : List Frame) → bytes ≡ flat_map spell frames → AreRead frames (msg ∷ msgs) → Begins bytes msg msgs
begins_by bytes msg msgs [] spelled read = absurd (cc)
begins_by bytes msg msgs (frame ∷ frames) spelled read = record {
  frame = frame;
  rest = flat_map spell frames;
  at = record { valid = read.0; spelled = spelled };
  says = read.1;
  later = record { frames = frames; spelled = refl; read = read.2 };
}

pub begins : (bytes : List ℕ) (msg : PeerMsg) (msgs : List PeerMsg) → Spells bytes (msg ∷ msgs) → Begins bytes msg msgs
begins bytes msg msgs spells = begins_by bytes msg msgs spells.frames spells.spelled spells.read

-- the message that comes is the first, and the others are left
pub record IsTaken (msg got : PeerMsg) (msgs : List PeerMsg) (left : Option (List ℕ)) : Type 0 where
  pub same : got ≡ msg
  pub bytes : List ℕ
  pub is : left ≡ Some bytes
  pub later : Spells bytes msgs

taken_at : (bytes rest : List ℕ) (msg got : PeerMsg) (msgs : List PeerMsg) (frame : Frame) → Begins bytes msg msgs → IsFrameAt frame bytes rest → message frame ≡ Ok got → IsTaken msg got msgs (Some rest)
taken_at bytes rest msg got msgs frame first at says =
    let one = one_frame frame first.frame bytes rest first.rest at first.at in
    let both : message first.frame ≡ Ok got = subst (λ (f : Frame). message f ≡ Ok got) one.0 says in
    let told = first.says in
    record {
      same = cc;
      bytes = first.rest;
      is = ap Some one.1;
      later = first.later;
    }

taken_known : (bytes : List ℕ) (msg got : PeerMsg) (msgs : List PeerMsg) (left : Option (List ℕ)) → Begins bytes msg msgs → Comes got (Some bytes) left → IsTaken msg got msgs left
taken_known bytes msg got msgs None first comes = let e = comes.first in absurd (cc)
taken_known bytes msg got msgs (Some rest) first comes =
    let e = comes.first in
    let spelled : bytes ≡ spell comes.frame ++ rest = cc in
    taken_at bytes rest msg got msgs comes.frame first (record { valid = comes.is_frame; spelled = spelled }) comes.says

pub taken : (bytes : List ℕ) (msg got : PeerMsg) (msgs : List PeerMsg) (left : Option (List ℕ)) → Spells bytes (msg ∷ msgs) → Comes got (Some bytes) left → IsTaken msg got msgs left
taken bytes msg got msgs left spells comes = taken_known bytes msg got msgs left (begins bytes msg msgs spells) comes

-- where a message is left, only what comes from outside stops the session
stopped_at : (bytes : List ℕ) (msg : PeerMsg) (msgs : List PeerMsg) (cause : Cause) → Begins bytes msg msgs → IsStop cause → StandsNext cause bytes → IsFromOutside cause
stopped_at bytes msg msgs causes.Ended first stop stands = absurd (partial_is_no_frame first.frame bytes first.rest first.at stands)
stopped_at bytes msg msgs causes.WireFault first stop stands = tt
stopped_at bytes msg msgs (causes.BadFrame fault) first stop stands = absurd (fault_is_no_frame first.frame bytes first.rest fault first.at stands)
stopped_at bytes msg msgs (causes.BadMsg fault) first stop stands =
    let one = one_frame stands.frame first.frame bytes stands.rest first.rest stands.first first.at in
    let other : message first.frame ≡ Err fault = subst (λ (f : Frame). message f ≡ Err fault) one.0 stands.refused in
    let told = first.says in
    absurd (cc)
stopped_at bytes msg msgs causes.Spent first stop stands = tt
stopped_at bytes msg msgs causes.NoMemory first stop stands = tt
stopped_at bytes msg msgs _ first stop stands = absurd stop

pub stopped : (bytes : List ℕ) (msg : PeerMsg) (msgs : List PeerMsg) (cause : Cause) → Spells bytes (msg ∷ msgs) → IsStop cause → StandsNext cause bytes → IsFromOutside cause
stopped bytes msg msgs cause spells stop stands = stopped_at bytes msg msgs cause (begins bytes msg msgs spells) stop stands
