use Rattle.std.proofs.Common.{◌<◌, ◌++◌, ℕ, List, [], map, flat_map, take, get_or, Option, IsSome, unwrap_or, length, arith, sym, ap, subst, ◌∙◌}
use Rattle.byteorder.specs.Endian.{little_bytes}
use Rattle.part_sizes.specs.Part.{IsSize, data_parts}
use Rattle.aich_packet.specs.Layout.{spell_pair}
use Rattle.aich_packet.specs.Way.{path}
use Rattle.aich_packet.proofs.Made.{all-pairs, made-packet, more-pairs, pair_with, path-node}
use Rattle.aich_packet.proofs.Reached.{length-path}
use Rattle.aich_packet.proofs.Trees.{known}
use Rattle.aich_packet.proofs.making.make_packet.Goals as goal

pub overflow_cast-count : goal.overflow_cast-count
overflow_cast-count c =
    let exists : c.args.part < data_parts c.size.result = subst (λ (n : ℕ). c.args.part < data_parts n) (sym c.size.ensures.value) c.requires in
    let few = length-path c.size.result c.args.part c.size.ensures.limits exists in
    omega (arith, c.in_ok-path.path.ok.0, ap length c.in_ok-path.ensures, few, c.len-count.ensures)

pub unwrap-hash-requires : goal.unwrap-hash-requires
unwrap-hash-requires c =
    let on = c.deref-ident-items.ensures.value ∙ c.in_ok-path.ensures ∙ ap (λ (n : ℕ). path n c.args.part) c.size.ensures.value in
    subst (λ (found : Option (List ℕ)). IsSome found) (sym c.node.ensures)
    (path-node c.args.tree.now c.deref-ident-items.result.now c.args.part c.loop-ident.ident-index _ (omega (arith, c.size.ensures.value, c.size.ensures.limits.0)) on c.loop-ident-test.true)

pub loop-ident-preserved : goal.loop-ident-preserved
loop-ident-preserved c =
    let hash = sym (ap (λ (found : Option (List ℕ)). unwrap_or found []) (sym c.node.ensures ∙ c.unwrap-hash.ensures)) in
    let bytes = c.args.tree.now in
    let idents = c.deref-ident-items.result.now in
    let front = little_bytes 2 c.len-count.result in
    c.in_ok-append_pair.ensures
    ∙ ap (λ (text : List ℕ). text ++ spell_pair (record { ident = get_or idents c.loop-ident.ident-index 0; hash = c.unwrap-hash.result })) c.loop-ident.invariant
    ∙ ap (λ (h : List ℕ). (front ++ flat_map spell_pair (map (pair_with (known bytes)) (take c.loop-ident.ident-index idents))) ++ spell_pair (record { ident = get_or idents c.loop-ident.ident-index 0; hash = h })) hash
    ∙ more-pairs front idents (known bytes) c.loop-ident.ident-index 0 c.loop-ident-test.true

pub returns-clause-packet : goal.returns-clause-packet
returns-clause-packet c =
    let bytes = c.args.tree.now in
    let idents = c.deref-ident-items.result.now in
    let on = c.deref-ident-items.ensures.value ∙ c.in_ok-path.ensures ∙ ap (λ (n : ℕ). path n c.args.part) c.size.ensures.value in
    let limits : IsSize (length bytes) = subst IsSize c.size.ensures.value c.size.ensures.limits in
    made-packet bytes c.args.part c.new.result limits c.requires
    (c.new.ensures
    ∙ c.in_ok-append_number-2.ensures
    ∙ all-pairs c.loop-ident.out.items idents bytes c.args.part c.loop-ident.ident-index c.len-count.result c.loop-ident.invariant c.loop-ident-test.false (c.len-count.ensures ∙ sym c.deref-ident-items.ensures.len) on)
