use Rattle.std.proofs.Common.{◌/◌}
use Rattle.aich_tree.specs.Ident.{is_left}
use Rattle.aich_tree.proofs.PlaceLemmas.{left-place, right-place}
use Rattle.aich_tree.proofs.ident.find_child.Goals as goal

pub returns-then-is_left-clause-place : goal.returns-then-is_left-clause-place
returns-then-is_left-clause-place c = λ size parent.
    rw (c.left_bytes-first.ensures.value, c.is_left.ensures)
    (left-place size c.args.parent.span.s c.args.parent.span.e c.args.parent.leaf (is_left (c.args.ident / 2)) c.if-e-s-le-BLOCK.false parent)

pub returns-else-is_left-clause-place : goal.returns-else-is_left-clause-place
returns-else-is_left-clause-place c = λ size parent.
    rw (c.leaf_count.ensures, c.left_bytes-first.ensures.value, c.is_left.ensures)
    (right-place size c.args.parent.span.s c.args.parent.span.e c.args.parent.leaf (is_left (c.args.ident / 2)) c.if-e-s-le-BLOCK.false parent)
