-- What many calls have given.
use Rattle.std.proofs.Common.{◌≡◌, ◌≢◌, ℕ, List, [], ◌∷◌, ◌++◌, length-append, Option, refl, sym, ap, subst, ◌∙◌, arith}
use Rattle.std.proofs.lemmas.List.{append-nil}
use Rattle.std.specs.Io.KnownBytes.{prepend_known}
use Rattle.ed2k_frame.specs.Streams.{Splits}
use Rattle.ed2k_frame.specs.declared.frame.Frame.{Frame}
use Rattle.ed2k_frame.proofs.StreamLaws.{splits_feed, splits_next, splits_start}
use Rattle.framed_wire.specs.Inlet.{Inlet}
use Rattle.framed_wire.specs.Laws.{CallsGoOn, HasRead}
use Rattle.framed_wire.specs.Reads.{Gives}
use Rattle.framed_wire.specs.Stops.{StopsBy, Takes}
use Rattle.framed_wire.specs.declared.stop.Stop.{Stop}
use Rattle.framed_wire.specs.declared.stop.Stop.TheVariants.{NoMemory}
use Rattle.framed_wire.proofs.Takes.{prepend_twice, takes_none}

-- the bytes taken so far, and those of one more call
more_got : (first : Option (List ℕ)) (got piece : List ℕ) (old new : Inlet) → first ≡ prepend_known got old.left → Takes piece old new → first ≡ prepend_known (got ++ piece) new.left
more_got first got piece old new front takes = front ∙ ap (prepend_known got) takes.front ∙ prepend_twice got piece new.left

pub read_start : (now : Inlet) → now.taken ≡ 0 → now.unread ≡ [] → HasRead now.left [] now
read_start now taken unread = record {
  got = [];
  front = (takes_none now now refl refl (omega arith)).front;
  counted = taken;
  splits = subst (λ (rest : List ℕ). Splits [] [] rest) (sym unread) splits_start;
}

pub read_frame : (first : Option (List ℕ)) (frames : List Frame) (frame : Frame) (old new : Inlet) → HasRead first frames old → Gives frame old new → HasRead first (frames ++ frame ∷ []) new
read_frame first frames frame old new has gives = record {
  got = has.got ++ gives.piece;
  front = more_got first has.got gives.piece old new has.front gives.takes;
  counted = omega (arith, has.counted, gives.takes.counted, length-append has.got gives.piece);
  splits = splits_next (has.got ++ gives.piece) frames (old.unread ++ gives.piece) new.unread frame (splits_feed has.got frames old.unread gives.piece has.splits) gives.first;
}

pub read_stop : (first : Option (List ℕ)) (frames : List Frame) (budget : ℕ) (stop : Stop) (old new : Inlet) → HasRead first frames old → StopsBy budget stop old new → stop ≢ NoMemory → HasRead first frames new
read_stop first frames budget stop old new has stops other =
    let unread : old.unread ++ stops.piece ≡ new.unread = stops.kept ∙ ap (λ lost. new.unread ++ lost) (stops.nothing_lost other) ∙ append-nil new.unread in
    record {
      got = has.got ++ stops.piece;
      front = more_got first has.got stops.piece old new has.front stops.takes;
      counted = omega (arith, has.counted, stops.takes.counted, length-append has.got stops.piece);
      splits = subst (Splits (has.got ++ stops.piece) frames) unread (splits_feed has.got frames old.unread stops.piece has.splits);
    }

pub calls_go_on : CallsGoOn
calls_go_on = record { start = read_start; frame = read_frame; stop = read_stop }
