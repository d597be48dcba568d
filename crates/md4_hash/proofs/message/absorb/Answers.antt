use Rattle.std.proofs.Common.{◌-◌, take, arith, sym, ◌∙◌, length-append}
use Rattle.std.proofs.lemmas.List.{length-take-le}
use Rattle.md4_hash.proofs.Pieces.{after-short, put_mid_full, after-filled, IsRest-filled}
use Rattle.md4_hash.proofs.message.absorb.Goals as goal

pub returns-then-piece-room-clause-taken : goal.returns-then-piece-room-clause-taken
returns-then-piece-room-clause-taken c =
    let kept = length-take-le c.args.used c.args.buffer.now (omega arith) in
    sym (after-short _ _ (omega (arith, length-append (take c.args.used c.args.buffer.now) c.args.piece.now, kept)))

pub returns-clause-taken : goal.returns-clause-taken
returns-clause-taken c =
    let used = c.args.used in
    let buffer = c.args.buffer.now in
    let piece = c.args.piece.now in
    let front = c.copy_from_slice-2.ensures.after ∙ c.split_at.ensures.front in
    rw (c.absorb_aligned-2.ensures.taken, c.take_blocks.ensures, front, put_mid_full used (64 - used) buffer (take (64 - used) piece) (omega arith), c.split_at.ensures.back)
    (after-filled c.args.registers.now buffer piece used c.requires (omega arith) (omega arith))

pub returns-clause-rest : goal.returns-clause-rest
returns-clause-rest c =
    IsRest-filled _ c.args.buffer.now c.args.piece.now c.args.used c.requires (omega arith) (omega arith)
    (rw (← c.split_at.ensures.back) c.absorb_aligned-2.ensures.rest)
