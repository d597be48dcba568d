-- Pieces that are taken one after another.
use Rattle.std.proofs.Common.{◌≡◌, ◌≢◌, ℕ, ◌+◌, ◌≤◌, max, ◌-◌, ◌<◌, length, List, [], ◌++◌, length-append, Option, None, Some, refl, sym, ap, subst, ◌∙◌, append_assoc, arith}
use Rattle.std.proofs.lemmas.List.{append-nil}
use Rattle.std.specs.Io.KnownBytes.{prepend_known}
use Rattle.ed2k_frame.specs.Front.{IsFrameAt, IsFaultAt}
use Rattle.ed2k_frame.specs.declared.fault.FrameFault.{FrameFault}
use Rattle.ed2k_frame.specs.declared.fault.FrameFault.TheVariants as frame_fault
use Rattle.ed2k_frame.specs.declared.frame.Frame.{Frame}
use Rattle.ed2k_outside.specs.Causes.{Rose}
use Rattle.ed2k_frame.specs.Frame.{spell}
use Rattle.framed_wire.specs.Inlet.{Inlet}
use Rattle.framed_wire.specs.Reads.{Gives, TakesMore}
use Rattle.framed_wire.specs.Stops.{IsCause, StopsBy, Takes, stop_of}
use Rattle.framed_wire.specs.declared.stop.Stop.{Stop}
use Rattle.framed_wire.specs.declared.stop.Stop.TheVariants.{Ended, WireFault, BadFrame, Spent, NoMemory}

prepend_nothing : (known : Option (List ℕ)) → prepend_known [] known ≡ known
prepend_nothing None = refl
prepend_nothing (Some bytes) = refl

pub prepend_twice : (a b : List ℕ) (known : Option (List ℕ)) → prepend_known a (prepend_known b known) ≡ prepend_known (a ++ b) known
prepend_twice a b None = refl
prepend_twice a b (Some bytes) = ap Some (sym (append_assoc a b bytes))

-- nothing was taken
pub takes_none : (old new : Inlet) → new.left ≡ old.left → new.taken ≡ old.taken → old.faults ≤ new.faults → Takes [] old new
takes_none old new left taken faults = record {
  front = sym left ∙ sym (prepend_nothing new.left);
  counted = omega (arith, taken);
  faults = faults;
}

pub takes_on : (a b : List ℕ) (old mid new : Inlet) → Takes a old mid → Takes b mid new → Takes (a ++ b) old new
takes_on a b old mid new here further = record {
  front = here.front ∙ ap (prepend_known a) further.front ∙ prepend_twice a b new.left;
  counted = omega (arith, here.counted, further.counted, length-append a b);
  faults = omega (arith, here.faults, further.faults);
}

pub more_none : (old : Inlet) → TakesMore old old
more_none old = record {
  piece = [];
  takes = takes_none old old refl refl (omega arith);
  unread = sym (append-nil old.unread);
}

pub more_on : (old mid new : Inlet) → TakesMore old mid → TakesMore mid new → TakesMore old new
more_on old mid new here further = record {
  piece = here.piece ++ further.piece;
  takes = takes_on here.piece further.piece old mid new here.takes further.takes;
  unread = further.unread ∙ ap (λ rest. rest ++ further.piece) here.unread ∙ append_assoc old.unread here.piece further.piece;
}

rose_on : (old mid new : ℕ) → old ≤ mid → Rose mid new → Rose old new
rose_on old mid new later rose = omega (arith, later, rose)

pub cause_on : (budget : ℕ) (stop : Stop) (old mid new : Inlet) → old.faults ≤ mid.faults → IsCause budget stop mid new → IsCause budget stop old new
cause_on budget Ended old mid new later cause = cause
cause_on budget WireFault old mid new later (within, rose, partial) = (within, rose_on old.faults mid.faults new.faults later rose, partial)
cause_on budget (BadFrame fault) old mid new later cause = cause
cause_on budget Spent old mid new later cause = cause
cause_on budget NoMemory old mid new later cause = tt

-- a stop behind what was taken
pub stops_on : (budget : ℕ) (stop : Stop) (old mid new : Inlet) → TakesMore old mid → StopsBy budget stop mid new → StopsBy budget stop old new
stops_on budget stop old mid new here stops = record {
  piece = here.piece ++ stops.piece;
  takes = takes_on here.piece stops.piece old mid new here.takes stops.takes;
  lost = stops.lost;
  kept = sym (append_assoc old.unread here.piece stops.piece) ∙ ap (λ rest. rest ++ stops.piece) (sym here.unread) ∙ stops.kept;
  nothing_lost = stops.nothing_lost;
  cause = cause_on budget stop old mid new here.takes.faults stops.cause;
}

-- a stop that takes nothing and leaves what is unread
pub stops_here : (budget : ℕ) (stop : Stop) (old new : Inlet) → new.left ≡ old.left → new.taken ≡ old.taken → old.faults ≤ new.faults → new.unread ≡ old.unread → IsCause budget stop old new → StopsBy budget stop old new
stops_here budget stop old new left taken faults unread cause = record {
  piece = [];
  takes = takes_none old new left taken faults;
  lost = [];
  kept = ap (λ rest. rest ++ []) (sym unread);
  nothing_lost = λ other. refl;
  cause = cause;
}

-- a fault of a frame, which the reader saw or which is want of memory
pub stops_fault : (budget : ℕ) (fault : FrameFault) (old new : Inlet) → new.left ≡ old.left → new.taken ≡ old.taken → old.faults ≤ new.faults → new.unread ≡ old.unread →
    (fault ≢ frame_fault.NoMemory → IsFaultAt fault new.unread) → StopsBy budget (stop_of fault) old new
stops_fault budget frame_fault.NoMemory old new left taken faults unread stands = stops_here budget NoMemory old new left taken faults unread tt
stops_fault budget frame_fault.Packed old new left taken faults unread stands = stops_here budget (BadFrame frame_fault.Packed) old new left taken faults unread (stands (λ e. cc))
stops_fault budget (frame_fault.BadProtocol found) old new left taken faults unread stands = stops_here budget (BadFrame (frame_fault.BadProtocol found)) old new left taken faults unread (stands (λ e. cc))
stops_fault budget (frame_fault.BadLength found) old new left taken faults unread stands = stops_here budget (BadFrame (frame_fault.BadLength found)) old new left taken faults unread (stands (λ e. cc))

-- a frame at the front of what was taken
pub gives_on : (frame : Frame) (old mid new : Inlet) → TakesMore old mid → new.left ≡ mid.left → new.taken ≡ mid.taken → new.faults ≡ mid.faults → IsFrameAt frame mid.unread new.unread → Gives frame old new
gives_on frame old mid new here left taken faults first = record {
  piece = here.piece;
  takes = record {
    front = here.takes.front ∙ ap (prepend_known here.piece) (sym left);
    counted = taken ∙ here.takes.counted;
    faults = omega (arith, here.takes.faults, faults);
  };
  first = subst (λ (bytes : List ℕ). IsFrameAt frame bytes new.unread) here.unread first;
}

-- a frame that was given comes no more
pub gives_fewer : (budget : ℕ) (frame : Frame) (old new : Inlet) → new.taken ≤ max old.taken budget → Gives frame old new → (budget - new.taken) + length new.unread < (budget - old.taken) + length old.unread
gives_fewer budget frame old new within gives =
    let size : length old.unread + length gives.piece ≡ length (spell frame) + length new.unread =
    sym (length-append old.unread gives.piece) ∙ ap length gives.first.spelled ∙ length-append (spell frame) new.unread in
    omega (arith, size, within, gives.takes.counted)
