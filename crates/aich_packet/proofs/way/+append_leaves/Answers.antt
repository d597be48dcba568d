use Rattle.std.proofs.Common.{◌≡◌, ◌-◌, ◌<◌, ℕ, List, ◌++◌, OnOk, append_assoc, arith, sym, ap, subst, ◌∙◌}
use Rattle.part_sizes.specs.declared.block.TheConstants.{BLOCK}
use Rattle.aich_packet.specs.Way.{size_of, left_child, right_child, leaf_idents}
use Rattle.aich_packet.specs.declared.node.Node.{Node}
use Rattle.aich_packet.proofs.Nodes.{middle-high}
use Rattle.aich_packet.proofs.Routes.{leaf_idents-none, leaf_idents-leaf, leaf_idents-branch, room_below, room_right}
use Rattle.aich_packet.proofs.way.+append_leaves.Goals as goal
use Rattle.aich_packet.proofs.way.+append_leaves.Goals.{then-levels-eq0-via-then-levels-eq0, then-levels-eq0-via-else-levels-eq0+then-len-le-BLOCK}

pub returns-then-levels-eq0 : goal.returns-then-levels-eq0
returns-then-levels-eq0 t c =
    let pushed = c.in_ok-push.ensures.items in
    elim c.then-levels-eq0.branch [
      | then-levels-eq0-via-then-levels-eq0 w ↦
          pushed ∙ ap (λ (idents : List ℕ). c.args.out.now.items ++ idents) (sym (leaf_idents-none c.args.levels c.args.node (omega arith)))
      | then-levels-eq0-via-else-levels-eq0+then-len-le-BLOCK w ↦
          pushed ∙ ap (λ (idents : List ℕ). c.args.out.now.items ++ idents) (sym (leaf_idents-leaf c.args.levels c.args.node (omega (arith, w.len.ensures))))
    ]

pub append_leaves-requires : goal.append_leaves-requires
append_leaves-requires t c =
    let large : BLOCK < size_of c.args.node = omega (arith, c.len.ensures) in
    let high = middle-high c.args.node large in (
      omega arith,
      (
        rw c.children.ensures.left (room_below c.args.node.ident c.args.levels 65536 (omega arith) c.requires.room),
        rw c.children.ensures.left (omega (arith, high, c.requires.within)),
      ),
    )

pub append_leaves-requires-2 : goal.append_leaves-requires-2
append_leaves-requires-2 t c = (
  omega arith,
  (
    rw c.children.ensures.right (room_right c.args.node.ident c.args.levels 65536 (omega arith) c.requires.room),
    rw c.children.ensures.right c.requires.within,
  ),
)

pub returns : goal.returns
returns t c =
    let large : BLOCK < size_of c.args.node = omega (arith, c.len.ensures) in
    let fewer = c.args.levels - 1 in
    let old = c.args.out.now.items in
    let second = leaf_idents fewer (right_child c.args.node) in
    let all : c.append_leaves.new.out.items ++ leaf_idents fewer c.children.result.1 ≡ old ++ leaf_idents c.args.levels c.args.node =
    ap (λ (node : Node). c.append_leaves.new.out.items ++ leaf_idents fewer node) c.children.ensures.right
    ∙ ap (λ (items : List ℕ). items ++ second) (c.in_ok-append_leaves.ensures ∙ ap (λ (node : Node). old ++ leaf_idents fewer node) c.children.ensures.left)
    ∙ append_assoc old (leaf_idents fewer (left_child c.args.node)) second
    ∙ ap (λ (idents : List ℕ). old ++ idents) (sym (leaf_idents-branch c.args.levels c.args.node (omega arith) large)) in
    subst (λ (items : List ℕ). OnOk c.append_leaves-2.result (c.append_leaves-2.new.out.items ≡ items)) all c.append_leaves-2.ensures
