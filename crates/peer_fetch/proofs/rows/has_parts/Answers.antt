use Rattle.std.proofs.Common.{◌≡◌, ℕ, ◌==◌, ◌||◌, false, map, get_or, [], ◌∷◌, ◌++◌, sym, ◌∙◌, arith}
use Rattle.std.specs.List.{range_with_len}
use Rattle.std.proofs.lemmas.List.FromFn.{map-range_with_len_more}
use Rattle.peer_fetch.proofs.rows.has_parts.Goals as goal

pub loop-part-preserved : goal.loop-part-preserved
loop-part-preserved c =
    let f = λ (part : ℕ). c.args.count == 0 || get_or c.args.bits.now part false in
    let grown = c.in_ok-push.ensures.items in
    let so_far = c.loop-part.invariant in
    let bit = rw c.as_slice.ensures at c.names.ensures in
    let joined : c.push.new.self.items ≡ map f (range_with_len 0 c.loop-part.part) ++ f c.loop-part.part ∷ [] = cc (grown, so_far, bit) in
    joined ∙ sym (map-range_with_len_more f 0 c.loop-part.part c.loop-part.part (omega arith))
