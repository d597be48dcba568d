use Rattle.std.proofs.Common.{◌≡◌, ◌∙◌, sym, ap, inr, refl}
use Rattle.ed2k_link.proofs.Lists.{hashes_more, hash_fails}
use Rattle.ed2k_link.specs.Items.{texts, split_at_colons}
use Rattle.ed2k_link.proofs.fields.read_hashes.Goals as goal

pub loop-piece-preserved : goal.loop-piece-preserved
loop-piece-preserved c =
    hashes_more c.deref-piece-items.result.now c.loop-piece.piece-index _ c.loop-piece.hashes.items c.push.new.self.items c.in-Some.hash
    c.loop-piece-test.true c.loop-piece.invariant (sym c.read_hash.ensures ∙ c.in-Some.is) c.in_ok-push-in-Some.ensures.items

pub returns-in-None : goal.returns-in-None
returns-in-None c =
    let none = hash_fails c.deref-piece-items.result.now c.loop-piece.piece-index _ c.loop-piece-test.true (sym c.read_hash.ensures ∙ c.in-None.is) in
    let same : texts c.deref-piece-items.result.now ≡ split_at_colons c.args.text.now =
    ap texts c.deref-piece-items.ensures.value ∙ c.in_ok-pieces.ensures in
    inr (refl, rw same at none)
