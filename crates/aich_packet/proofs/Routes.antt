-- One step of the way from a node down to a part, and of the leaves below a node.
use Rattle.std.proofs.Common.{arith, ◌≡◌, ℕ, zero, suc, ◌+◌, ◌-◌, ◌*◌, ◌<◌, ◌≤◌, ◌^◌, true, false, List, [], ◌∷◌, ◌++◌, nat_le, nat_lt, refl, pow-suc, pow_pos, mul-le-mul_left}
use Rattle.std.proofs.lemmas.Bool.Decides.{nat_tests}
use Rattle.sha1.specs.Sha1.{sha1}
use Rattle.part_sizes.specs.declared.part.TheConstants.{PART}
use Rattle.part_sizes.specs.declared.block.TheConstants.{BLOCK}
use Rattle.aich_tree.proofs.Division.{leaf-test, branch-test}
use Rattle.aich_packet.specs.declared.node.Node.{Node}
use Rattle.aich_packet.specs.declared.way.TheConstants.{BLOCK_LEVELS}
use Rattle.aich_packet.specs.Way.{size_of, middle, left_child, right_child, leaf_idents, part_node, siblings}
use Rattle.aich_packet.specs.Folding.{fold_leaves, fold_way}

-- ---- identifiers stay small

pub room_below : (ident levels bound : ℕ) → 0 < levels → (ident + 1) * 2 ^ levels ≤ bound → (2 * ident + 1 + 1) * 2 ^ (levels - 1) ≤ bound
room_below ident zero bound some room = absurd (omega arith)
room_below ident (suc fewer) bound some room =
    let e : suc fewer - 1 ≡ fewer = omega arith in
    let twice = pow-suc 2 fewer in
    let room' = rw twice at room in
    rw e (omega arith)

pub room_right : (ident levels bound : ℕ) → 0 < levels → (ident + 1) * 2 ^ levels ≤ bound → (2 * ident + 1) * 2 ^ (levels - 1) ≤ bound
room_right ident zero bound some room = absurd (omega arith)
room_right ident (suc fewer) bound some room =
    let e : suc fewer - 1 ≡ fewer = omega arith in
    let twice = pow-suc 2 fewer in
    let room' = rw twice at room in
    rw e (omega arith)

pub room_here : (ident levels bound : ℕ) → (ident + 1) * 2 ^ levels ≤ bound → ident < bound
room_here ident levels bound room =
    let some : 1 ≤ 2 ^ levels = pow_pos levels in
    let more = mul-le-mul_left (ident + 1) some in
    omega arith

-- ---- the leaves below a node

pub leaf_idents-none : (levels : ℕ) (node : Node) → levels ≡ 0 → leaf_idents levels node ≡ node.ident ∷ []
unfolding leaf_idents
leaf_idents-none levels node none = rw none refl

pub leaf_idents-leaf : (levels : ℕ) (node : Node) → size_of node ≤ BLOCK → leaf_idents levels node ≡ node.ident ∷ []
unfolding leaf_idents
leaf_idents-leaf zero node small = refl
leaf_idents-leaf (suc levels) node small = rw (leaf-test (size_of node) small) refl

pub leaf_idents-branch : (levels : ℕ) (node : Node) → 0 < levels → BLOCK < size_of node
    → leaf_idents levels node ≡ leaf_idents (levels - 1) (left_child node) ++ leaf_idents (levels - 1) (right_child node)
unfolding leaf_idents
leaf_idents-branch zero node some large = absurd (omega arith)
leaf_idents-branch (suc levels) node some large =
    let e : suc levels - 1 ≡ levels = omega arith in
    rw (e, branch-test (size_of node) large) refl

pub fold_leaves-none : (levels : ℕ) (hash : ℕ → List ℕ) (node : Node) → levels ≡ 0 → fold_leaves levels hash node ≡ hash node.ident
unfolding fold_leaves
fold_leaves-none levels hash node none = rw none refl

pub fold_leaves-leaf : (levels : ℕ) (hash : ℕ → List ℕ) (node : Node) → size_of node ≤ BLOCK → fold_leaves levels hash node ≡ hash node.ident
unfolding fold_leaves
fold_leaves-leaf zero hash node small = refl
fold_leaves-leaf (suc levels) hash node small = rw (leaf-test (size_of node) small) refl

pub fold_leaves-branch : (levels : ℕ) (hash : ℕ → List ℕ) (node : Node) → 0 < levels → BLOCK < size_of node
    → fold_leaves levels hash node ≡ sha1 (fold_leaves (levels - 1) hash (left_child node) ++ fold_leaves (levels - 1) hash (right_child node))
unfolding fold_leaves
fold_leaves-branch zero hash node some large = absurd (omega arith)
fold_leaves-branch (suc levels) hash node some large =
    let e : suc levels - 1 ≡ levels = omega arith in
    rw (e, branch-test (size_of node) large) refl

-- ---- the way to a part

part-test : (n : ℕ) → n ≤ PART → nat_le n PART ≡ true
part-test n small = grind (arith, nat_tests)

parts-test : (n : ℕ) → PART < n → nat_le n PART ≡ false
parts-test n large = grind (arith, nat_tests)

left-test : (at m : ℕ) → at < m → nat_lt at m ≡ true
left-test at m before = grind (arith, nat_tests)

right-test : (at m : ℕ) → m ≤ at → nat_lt at m ≡ false
right-test at m behind = grind (arith, nat_tests)

pub siblings-none : (levels : ℕ) (node : Node) (at : ℕ) → levels ≡ 0 → siblings levels node at ≡ []
unfolding siblings
siblings-none levels node at none = rw none refl

pub siblings-part : (levels : ℕ) (node : Node) (at : ℕ) → size_of node ≤ PART → siblings levels node at ≡ []
unfolding siblings
siblings-part zero node at small = refl
siblings-part (suc levels) node at small = rw (part-test (size_of node) small) refl

pub siblings-left : (levels : ℕ) (node : Node) (at : ℕ) → 0 < levels → PART < size_of node → at < middle node
    → siblings levels node at ≡ (right_child node).ident ∷ siblings (levels - 1) (left_child node) at
unfolding siblings
siblings-left zero node at some large before = absurd (omega arith)
siblings-left (suc levels) node at some large before =
    let e : suc levels - 1 ≡ levels = omega arith in
    rw (e, parts-test (size_of node) large, left-test at (middle node) before) refl

pub siblings-right : (levels : ℕ) (node : Node) (at : ℕ) → 0 < levels → PART < size_of node → middle node ≤ at
    → siblings levels node at ≡ (left_child node).ident ∷ siblings (levels - 1) (right_child node) at
unfolding siblings
siblings-right zero node at some large behind = absurd (omega arith)
siblings-right (suc levels) node at some large behind =
    let e : suc levels - 1 ≡ levels = omega arith in
    rw (e, parts-test (size_of node) large, right-test at (middle node) behind) refl

pub part_node-none : (levels : ℕ) (node : Node) (at : ℕ) → levels ≡ 0 → part_node levels node at ≡ node
unfolding part_node
part_node-none levels node at none = rw none refl

pub part_node-part : (levels : ℕ) (node : Node) (at : ℕ) → size_of node ≤ PART → part_node levels node at ≡ node
unfolding part_node
part_node-part zero node at small = refl
part_node-part (suc levels) node at small = rw (part-test (size_of node) small) refl

pub part_node-left : (levels : ℕ) (node : Node) (at : ℕ) → 0 < levels → PART < size_of node → at < middle node
    → part_node levels node at ≡ part_node (levels - 1) (left_child node) at
unfolding part_node
part_node-left zero node at some large before = absurd (omega arith)
part_node-left (suc levels) node at some large before =
    let e : suc levels - 1 ≡ levels = omega arith in
    rw (e, parts-test (size_of node) large, left-test at (middle node) before) refl

pub part_node-right : (levels : ℕ) (node : Node) (at : ℕ) → 0 < levels → PART < size_of node → middle node ≤ at
    → part_node levels node at ≡ part_node (levels - 1) (right_child node) at
unfolding part_node
part_node-right zero node at some large behind = absurd (omega arith)
part_node-right (suc levels) node at some large behind =
    let e : suc levels - 1 ≡ levels = omega arith in
    rw (e, parts-test (size_of node) large, right-test at (middle node) behind) refl

pub fold_way-none : (levels : ℕ) (hash : ℕ → List ℕ) (node : Node) (at : ℕ) → levels ≡ 0 → fold_way levels hash node at ≡ fold_leaves BLOCK_LEVELS hash node
unfolding fold_way
fold_way-none levels hash node at none = rw none refl

pub fold_way-part : (levels : ℕ) (hash : ℕ → List ℕ) (node : Node) (at : ℕ) → size_of node ≤ PART → fold_way levels hash node at ≡ fold_leaves BLOCK_LEVELS hash node
unfolding fold_way
fold_way-part zero hash node at small = refl
fold_way-part (suc levels) hash node at small = rw (part-test (size_of node) small) refl

pub fold_way-left : (levels : ℕ) (hash : ℕ → List ℕ) (node : Node) (at : ℕ) → 0 < levels → PART < size_of node → at < middle node
    → fold_way levels hash node at ≡ sha1 (fold_way (levels - 1) hash (left_child node) at ++ hash (right_child node).ident)
unfolding fold_way
fold_way-left zero hash node at some large before = absurd (omega arith)
fold_way-left (suc levels) hash node at some large before =
    let e : suc levels - 1 ≡ levels = omega arith in
    rw (e, parts-test (size_of node) large, left-test at (middle node) before) refl

pub fold_way-right : (levels : ℕ) (hash : ℕ → List ℕ) (node : Node) (at : ℕ) → 0 < levels → PART < size_of node → middle node ≤ at
    → fold_way levels hash node at ≡ sha1 (hash (left_child node).ident ++ fold_way (levels - 1) hash (right_child node) at)
unfolding fold_way
fold_way-right zero hash node at some large behind = absurd (omega arith)
fold_way-right (suc levels) hash node at some large behind =
    let e : suc levels - 1 ≡ levels = omega arith in
    rw (e, parts-test (size_of node) large, right-test at (middle node) behind) refl
