use Rattle.std.proofs.Common.{◌≡◌, ◌-◌, ◌<◌, ◌≤◌, ℕ, List, [], ◌∷◌, ◌++◌, OnOk, IfOk, append_assoc, append-nil, arith, sym, ap, subst, ◌∙◌}
use Rattle.part_sizes.specs.declared.part.TheConstants.{PART}
use Rattle.part_sizes.specs.declared.block.TheConstants.{BLOCK}
use Rattle.aich_packet.specs.Way.{size_of, middle, left_child, right_child, siblings, part_node}
use Rattle.aich_packet.specs.declared.node.Node.{Node}
use Rattle.aich_packet.proofs.Nodes.{middle-high}
use Rattle.aich_packet.proofs.Routes.{siblings-none, siblings-part, siblings-left, siblings-right, part_node-none, part_node-part, part_node-left, part_node-right, room_below, room_right}
use Rattle.aich_packet.proofs.way.+append_siblings.Goals as goal
use Rattle.aich_packet.proofs.way.+append_siblings.Goals.{then-levels-eq0-via-then-levels-eq0, then-levels-eq0-via-else-levels-eq0+then-len-le-PART}

pub returns-then-levels-eq0-clause-items : goal.returns-then-levels-eq0-clause-items
returns-then-levels-eq0-clause-items t c =
    let old = c.args.out.now.items in
    elim c.then-levels-eq0.branch [
      | then-levels-eq0-via-then-levels-eq0 w ↦
          sym (ap (λ (idents : List ℕ). old ++ idents) (siblings-none c.args.levels c.args.node c.args.at (omega arith)) ∙ append-nil old)
      | then-levels-eq0-via-else-levels-eq0+then-len-le-PART w ↦
          sym (ap (λ (idents : List ℕ). old ++ idents) (siblings-part c.args.levels c.args.node c.args.at (omega (arith, w.len.ensures))) ∙ append-nil old)
    ]

pub returns-then-levels-eq0-clause-node : goal.returns-then-levels-eq0-clause-node
returns-then-levels-eq0-clause-node t c =
    elim c.then-levels-eq0.branch [
      | then-levels-eq0-via-then-levels-eq0 w ↦ sym (part_node-none c.args.levels c.args.node c.args.at (omega arith))
      | then-levels-eq0-via-else-levels-eq0+then-len-le-PART w ↦ sym (part_node-part c.args.levels c.args.node c.args.at (omega (arith, w.len.ensures)))
    ]

pub append_siblings-requires : goal.append_siblings-requires
append_siblings-requires t c =
    let large : BLOCK < size_of c.args.node = omega (arith, c.len.ensures) in
    let high = middle-high c.args.node large in (
      omega arith,
      (
        rw c.children.ensures.left (room_below c.args.node.ident c.args.levels 1024 (omega arith) c.requires.room),
        rw c.children.ensures.left (omega (arith, high, c.requires.within)),
      ),
    )

pub append_siblings-requires-else-at-left : goal.append_siblings-requires-else-at-left
append_siblings-requires-else-at-left t c = (
  omega arith,
  (
    rw c.children.ensures.right (room_right c.args.node.ident c.args.levels 1024 (omega arith) c.requires.room),
    rw c.children.ensures.right c.requires.within,
  ),
)

pub returns-in_ok-push-clause-items : goal.returns-in_ok-push-clause-items
returns-in_ok-push-clause-items t c =
    let large : PART < size_of c.args.node = omega (arith, c.len.ensures) in
    let fewer = c.args.levels - 1 in
    let at = c.args.at in
    let old = c.args.out.now.items in
    let ends = ap (λ (node : Node). node.span.e) c.children.ensures.left in
    let before : at < middle c.args.node = omega (arith, ends) in
    let further = siblings fewer (left_child c.args.node) at in
    let all : c.push.new.self.items ++ siblings fewer c.children.result.0 at ≡ old ++ siblings c.args.levels c.args.node at =
    ap (λ (node : Node). c.push.new.self.items ++ siblings fewer node at) c.children.ensures.left
    ∙ ap (λ (items : List ℕ). items ++ further) (c.in_ok-push.ensures.items ∙ ap (λ (node : Node). old ++ node.ident ∷ []) c.children.ensures.right)
    ∙ append_assoc old ((right_child c.args.node).ident ∷ []) further
    ∙ ap (λ (idents : List ℕ). old ++ idents) (sym (siblings-left c.args.levels c.args.node at (omega arith) large before)) in
    subst (λ (items : List ℕ). OnOk c.append_siblings.result (c.append_siblings.new.out.items ≡ items)) all c.append_siblings.ensures.items

pub returns-in_ok-push-clause-node : goal.returns-in_ok-push-clause-node
returns-in_ok-push-clause-node t c =
    let large : PART < size_of c.args.node = omega (arith, c.len.ensures) in
    let at = c.args.at in
    let ends = ap (λ (node : Node). node.span.e) c.children.ensures.left in
    let before : at < middle c.args.node = omega (arith, ends) in
    let same : part_node (c.args.levels - 1) c.children.result.0 at ≡ part_node c.args.levels c.args.node at =
    ap (λ (node : Node). part_node (c.args.levels - 1) node at) c.children.ensures.left
    ∙ sym (part_node-left c.args.levels c.args.node at (omega arith) large before) in
    subst (λ (reached : Node). IfOk c.append_siblings.result (λ found. found ≡ reached)) same c.append_siblings.ensures.node

pub returns-in_ok-push-2-clause-items : goal.returns-in_ok-push-2-clause-items
returns-in_ok-push-2-clause-items t c =
    let large : PART < size_of c.args.node = omega (arith, c.len.ensures) in
    let fewer = c.args.levels - 1 in
    let at = c.args.at in
    let old = c.args.out.now.items in
    let ends = ap (λ (node : Node). node.span.e) c.children.ensures.left in
    let behind : middle c.args.node ≤ at = omega (arith, ends) in
    let further = siblings fewer (right_child c.args.node) at in
    let all : c.push-else-at-left.new.self.items ++ siblings fewer c.children.result.1 at ≡ old ++ siblings c.args.levels c.args.node at =
    ap (λ (node : Node). c.push-else-at-left.new.self.items ++ siblings fewer node at) c.children.ensures.right
    ∙ ap (λ (items : List ℕ). items ++ further) (c.in_ok-push-2.ensures.items ∙ ap (λ (node : Node). old ++ node.ident ∷ []) c.children.ensures.left)
    ∙ append_assoc old ((left_child c.args.node).ident ∷ []) further
    ∙ ap (λ (idents : List ℕ). old ++ idents) (sym (siblings-right c.args.levels c.args.node at (omega arith) large behind)) in
    subst (λ (items : List ℕ). OnOk c.append_siblings-else-at-left.result (c.append_siblings-else-at-left.new.out.items ≡ items)) all c.append_siblings-else-at-left.ensures.items

pub returns-in_ok-push-2-clause-node : goal.returns-in_ok-push-2-clause-node
returns-in_ok-push-2-clause-node t c =
    let large : PART < size_of c.args.node = omega (arith, c.len.ensures) in
    let at = c.args.at in
    let ends = ap (λ (node : Node). node.span.e) c.children.ensures.left in
    let behind : middle c.args.node ≤ at = omega (arith, ends) in
    let same : part_node (c.args.levels - 1) c.children.result.1 at ≡ part_node c.args.levels c.args.node at =
    ap (λ (node : Node). part_node (c.args.levels - 1) node at) c.children.ensures.right
    ∙ sym (part_node-right c.args.levels c.args.node at (omega arith) large behind) in
    subst (λ (reached : Node). IfOk c.append_siblings-else-at-left.result (λ found. found ≡ reached)) same c.append_siblings-else-at-left.ensures.node
