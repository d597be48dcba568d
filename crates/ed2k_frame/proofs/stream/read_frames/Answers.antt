use Rattle.std.proofs.Common.{List, ℕ, Some, Option, ◌+◌, take, drop, sym, subst, ◌++◌}
use Rattle.std.proofs.lemmas.Result.{err_from_is_err_and}
use Rattle.std.specs.List.{concat}
use Rattle.ed2k_frame.specs.declared.frame.Frame.{Frame}
use Rattle.ed2k_frame.specs.declared.fault.FrameFault.{FrameFault}
use Rattle.ed2k_frame.specs.Streams.{IsEnd, Parts}
use Rattle.ed2k_frame.proofs.Pieces.{concat_cut, fault_ends, split_fed}
use Rattle.ed2k_frame.proofs.stream.read_frames.Goals as goal

pub returns-in_err-take_frames-clause-fault : goal.returns-in_err-take_frames-clause-fault
returns-in_err-take_frames-clause-fault c =
    let pieces = c.args.pieces.now in
    let i = c.loop-piece.piece-index in
    let frames : List Frame = c.take_frames.new.frames.items in
    let rest : List ℕ = c.take_frames.new.reader.rest in
    let later : List ℕ = concat (drop (i + 1) pieces) in
    let fault = c.in_err-take_frames.field-0.0 in
    let fed = split_fed pieces i c.piece-item.result c.as_slice.result.now c.loop-piece.frames.items c.loop-piece.reader c.feed.new.self c.loop-piece-test.true c.piece-item.is c.as_slice.ensures c.loop-piece.invariant.split c.in_ok-feed.ensures.ok in
    let p = err_from_is_err_and c.from_residual-in_err-take_frames.result c.from_residual-in_err-take_frames.ensures.1 in
    rw (p.1, p.2) (λ named.
    let parts = c.in_err-take_frames.ensures.fault named (concat (take (i + 1) pieces)) fed in
    let all = fault_ends (concat (take (i + 1) pieces)) later frames rest fault parts in
    (frames, rest ++ later, subst (λ (stream : List ℕ). Parts stream frames (record { rest = rest ++ later; said = Some fault })) (sym (concat_cut (i + 1) pieces)) all))

pub loop-piece-preserved : goal.loop-piece-preserved
loop-piece-preserved c =
    let i = c.loop-piece.piece-index in
    let fed = split_fed c.args.pieces.now i c.piece-item.result c.as_slice.result.now c.loop-piece.frames.items c.loop-piece.reader c.feed.new.self c.loop-piece-test.true c.piece-item.is c.as_slice.ensures c.loop-piece.invariant.split c.in_ok-feed.ensures.ok in
    let parts = c.in_ok-take_frames.ensures.taken (concat (take (i + 1) c.args.pieces.now)) fed in
    let unsaid = c.in_ok-take_frames.ensures.unsaid in
    record {
      split = parts.splits;
      partial = subst (λ (said : Option FrameFault). IsEnd said c.take_frames.new.reader.rest) unsaid parts.ended;
      unsaid = unsaid;
    }
