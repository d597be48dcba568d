use Rattle.std.proofs.Common.{◌∙◌, arith}
use Rattle.ed2k_frame.proofs.Heads.{whole_is_frame}
use Rattle.ed2k_frame.proofs.front.frame_at.Goals as goal

pub returns : goal.returns
returns c =
    whole_is_frame c.args.bytes.now c.args.len c.new.result (λ i. omega (arith, c.type_inv.bytes i)) c.requires (c.new.ensures ∙ c.in_ok-payload.ensures.items)
