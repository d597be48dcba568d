use Rattle.std.proofs.Common.{ℕ, List, length, map, arith, sym, ap, ◌∙◌}
use Rattle.aich_packet.specs.declared.layout.Pair.{Pair}
use Rattle.aich_packet.specs.Packet.{hash_of}
use Rattle.aich_packet.specs.Way.{leaves_on}
use Rattle.aich_packet.proofs.Reached.{length-path, path-has, leaves-slice}
use Rattle.aich_packet.proofs.judging.judge.Goals as goal

pub overflow_cast-wanted : goal.overflow_cast-wanted
overflow_cast-wanted c =
    let few = length-path c.args.size c.args.part c.requires.size c.requires.exists in
    omega (arith, c.in_ok-path.path.ok.0, ap length c.in_ok-path.ensures, few, c.len-wanted.ensures)

pub overflow_sub-leaves : goal.overflow_sub-leaves
overflow_sub-leaves c =
    let has = path-has c.args.size c.args.part c.block_count.result c.requires.size c.requires.exists c.block_count.ensures.value in
    omega (arith, c.in_ok-path.path.ok.0, ap length c.in_ok-path.ensures, has, c.from.ensures, c.len.ensures)

pub returns-clause-leaves : goal.returns-clause-leaves
returns-clause-leaves c =
    let idents = c.deref-4.result.now in
    let on = c.deref-4.ensures.value ∙ c.in_ok-path.ensures in
    let slice = leaves-slice idents c.args.size c.args.part c.from.result c.len.result c.requires.size c.requires.exists (c.from.ensures ∙ c.block_count.ensures.value) on (c.len.ensures ∙ sym c.deref-4.ensures.len) in
    c.new.ensures
    ∙ c.in_ok-hashes_of.ensures
    ∙ ap (λ (leaves : List ℕ). map (hash_of c.deref-5.result.now) leaves) slice
    ∙ ap (λ (pairs : List Pair). map (hash_of pairs) (leaves_on c.args.size c.args.part)) (c.deref-5.ensures.value ∙ c.in_ok-pairs.ensures)
