use Rattle.std.proofs.Common.{◌-◌, ◌<◌, ◌≤◌, ℕ, List, ◌++◌, arith, sym, ap, ◌∙◌}
use Rattle.sha1.specs.Sha1.{sha1}
use Rattle.part_sizes.specs.declared.part.TheConstants.{PART}
use Rattle.part_sizes.specs.declared.block.TheConstants.{BLOCK}
use Rattle.aich_packet.specs.Folding.{fold_way}
use Rattle.aich_packet.specs.Packet.{hash_of}
use Rattle.aich_packet.specs.Way.{size_of, middle, left_child}
use Rattle.aich_packet.specs.declared.node.Node.{Node}
use Rattle.aich_packet.proofs.Nodes.{middle-high}
use Rattle.aich_packet.proofs.Routes.{fold_way-none, fold_way-part, fold_way-left, fold_way-right, room_below, room_right}
use Rattle.aich_packet.proofs.folding.+fold_way.Goals as goal
use Rattle.aich_packet.proofs.folding.+fold_way.Goals.{then-levels-eq0-via-then-levels-eq0, then-levels-eq0-via-else-levels-eq0+then-len-le-PART}

pub returns-then-levels-eq0 : goal.returns-then-levels-eq0
returns-then-levels-eq0 t c =
    let hash = hash_of c.args.pairs.now in
    elim c.then-levels-eq0.branch [
      | then-levels-eq0-via-then-levels-eq0 w ↦
          c.fold_leaves.ensures ∙ sym (fold_way-none c.args.levels hash c.args.node c.args.at (omega arith))
      | then-levels-eq0-via-else-levels-eq0+then-len-le-PART w ↦
          c.fold_leaves.ensures ∙ sym (fold_way-part c.args.levels hash c.args.node c.args.at (omega (arith, w.len.ensures)))
    ]

pub fold_way-first-requires : goal.fold_way-first-requires
fold_way-first-requires t c =
    let large : BLOCK < size_of c.args.node = omega (arith, c.len.ensures) in
    let high = middle-high c.args.node large in (
      omega arith,
      (
        rw c.children.ensures.left (room_below c.args.node.ident c.args.levels 1024 (omega arith) c.requires.room),
        rw c.children.ensures.left (omega (arith, high, c.requires.within)),
      ),
    )

pub fold_way-second-requires : goal.fold_way-second-requires
fold_way-second-requires t c = (
  omega arith,
  (
    rw c.children.ensures.right (room_right c.args.node.ident c.args.levels 1024 (omega arith) c.requires.room),
    rw c.children.ensures.right c.requires.within,
  ),
)

pub returns-then-at-left : goal.returns-then-at-left
returns-then-at-left t c =
    let hash = hash_of c.args.pairs.now in
    let fewer = c.args.levels - 1 in
    let at = c.args.at in
    let large : PART < size_of c.args.node = omega (arith, c.len.ensures) in
    let ends = ap (λ (node : Node). node.span.e) c.children.ensures.left in
    let before : at < middle c.args.node = omega (arith, ends) in
    c.join.ensures
    ∙ ap (λ (first : List ℕ). sha1 (first ++ c.hash_of.result)) (c.fold_way-first.ensures ∙ ap (λ (node : Node). fold_way fewer hash node at) c.children.ensures.left)
    ∙ ap (λ (second : List ℕ). sha1 (fold_way fewer hash (left_child c.args.node) at ++ second)) (c.hash_of.ensures ∙ ap (λ (node : Node). hash node.ident) c.children.ensures.right)
    ∙ sym (fold_way-left c.args.levels hash c.args.node at (omega arith) large before)

pub returns-else-at-left : goal.returns-else-at-left
returns-else-at-left t c =
    let hash = hash_of c.args.pairs.now in
    let fewer = c.args.levels - 1 in
    let at = c.args.at in
    let large : PART < size_of c.args.node = omega (arith, c.len.ensures) in
    let ends = ap (λ (node : Node). node.span.e) c.children.ensures.left in
    let behind : middle c.args.node ≤ at = omega (arith, ends) in
    c.join-else-at-left.ensures
    ∙ ap (λ (first : List ℕ). sha1 (first ++ c.fold_way-second.result)) (c.hash_of-else-at-left.ensures ∙ ap (λ (node : Node). hash node.ident) c.children.ensures.left)
    ∙ ap (λ (second : List ℕ). sha1 (hash (left_child c.args.node).ident ++ second)) (c.fold_way-second.ensures ∙ ap (λ (node : Node). fold_way fewer hash node at) c.children.ensures.right)
    ∙ sym (fold_way-right c.args.levels hash c.args.node at (omega arith) large behind)
