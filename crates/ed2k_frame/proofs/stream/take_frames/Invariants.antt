use Rattle.std.proofs.Common.{◌≡◌, List, ℕ, None, length}
use Rattle.ed2k_frame.specs.Streams.{Splits}
use Rattle.ed2k_frame.proofs.stream.take_frames.Given as goal

-- a stream that was split before the loop is split still
abbrev pub invariant-loop-frame : goal.invariant-loop-frame
invariant-loop-frame l = record {
  unsaid : l.reader.said ≡ None;
  split : (stream : List ℕ) → Splits stream l.initial.frames.items l.initial.reader.rest → Splits stream l.frames.items l.reader.rest;
}

abbrev pub decreases-loop-frame : goal.decreases-loop-frame
decreases-loop-frame l = length l.reader.rest
