use Rattle.std.proofs.Common.{◌≡◌, None, take}
use Rattle.std.specs.List.{concat}
use Rattle.ed2k_frame.specs.Front.{IsPartial}
use Rattle.ed2k_frame.specs.Streams.{Splits}
use Rattle.ed2k_frame.proofs.stream.read_frames.Given as goal

-- the pieces so far are the frames, and then less than a whole one
abbrev pub invariant-loop-piece : goal.invariant-loop-piece
invariant-loop-piece l = record {
  split : Splits (concat (take l.piece-index l.pieces)) l.frames.items l.reader.rest;
  partial : IsPartial l.reader.rest;
  unsaid : l.reader.said ≡ None;
}
