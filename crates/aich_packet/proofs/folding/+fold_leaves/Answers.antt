use Rattle.std.proofs.Common.{◌-◌, ◌<◌, ℕ, List, ◌++◌, arith, sym, ap, ◌∙◌}
use Rattle.sha1.specs.Sha1.{sha1}
use Rattle.part_sizes.specs.declared.block.TheConstants.{BLOCK}
use Rattle.aich_packet.specs.Folding.{fold_leaves}
use Rattle.aich_packet.specs.Packet.{hash_of}
use Rattle.aich_packet.specs.Way.{size_of, left_child}
use Rattle.aich_packet.specs.declared.node.Node.{Node}
use Rattle.aich_packet.proofs.Nodes.{middle-high}
use Rattle.aich_packet.proofs.Routes.{fold_leaves-none, fold_leaves-leaf, fold_leaves-branch, room_below, room_right}
use Rattle.aich_packet.proofs.folding.+fold_leaves.Goals as goal
use Rattle.aich_packet.proofs.folding.+fold_leaves.Goals.{then-levels-eq0-via-then-levels-eq0, then-levels-eq0-via-else-levels-eq0+then-len-le-BLOCK}

pub returns-then-levels-eq0 : goal.returns-then-levels-eq0
returns-then-levels-eq0 t c =
    let hash = hash_of c.args.pairs.now in
    elim c.then-levels-eq0.branch [
      | then-levels-eq0-via-then-levels-eq0 w ↦
          c.hash_of.ensures ∙ sym (fold_leaves-none c.args.levels hash c.args.node (omega arith))
      | then-levels-eq0-via-else-levels-eq0+then-len-le-BLOCK w ↦
          c.hash_of.ensures ∙ sym (fold_leaves-leaf c.args.levels hash c.args.node (omega (arith, w.len.ensures)))
    ]

pub fold_leaves-first-requires : goal.fold_leaves-first-requires
fold_leaves-first-requires t c =
    let large : BLOCK < size_of c.args.node = omega (arith, c.len.ensures) in
    let high = middle-high c.args.node large in (
      omega arith,
      (
        rw c.children.ensures.left (room_below c.args.node.ident c.args.levels 65536 (omega arith) c.requires.room),
        rw c.children.ensures.left (omega (arith, high, c.requires.within)),
      ),
    )

pub fold_leaves-second-requires : goal.fold_leaves-second-requires
fold_leaves-second-requires t c = (
  omega arith,
  (
    rw c.children.ensures.right (room_right c.args.node.ident c.args.levels 65536 (omega arith) c.requires.room),
    rw c.children.ensures.right c.requires.within,
  ),
)

pub returns : goal.returns
returns t c =
    let hash = hash_of c.args.pairs.now in
    let fewer = c.args.levels - 1 in
    let large : BLOCK < size_of c.args.node = omega (arith, c.len.ensures) in
    c.join.ensures
    ∙ ap (λ (first : List ℕ). sha1 (first ++ c.fold_leaves-second.result)) (c.fold_leaves-first.ensures ∙ ap (λ (node : Node). fold_leaves fewer hash node) c.children.ensures.left)
    ∙ ap (λ (second : List ℕ). sha1 (fold_leaves fewer hash (left_child c.args.node) ++ second)) (c.fold_leaves-second.ensures ∙ ap (λ (node : Node). fold_leaves fewer hash node) c.children.ensures.right)
    ∙ sym (fold_leaves-branch c.args.levels hash c.args.node (omega arith) large)
