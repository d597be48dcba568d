use Rattle.std.proofs.Common.{◌≡◌, ◌-◌, ◌/◌, ◌+◌, ◌<◌, ℕ, Bool, true, false, Option, Some, IfSome, arith, refl, sym, ap, subst, ◌∙◌}
use Rattle.part_sizes.specs.declared.part.TheConstants.{PART}
use Rattle.part_sizes.specs.declared.block.TheConstants.{BLOCK}
use Rattle.part_sizes.specs.declared.span.Span.{Span}
use Rattle.aich_tree.specs.Ident.{child_range, is_left}
use Rattle.aich_tree.specs.Kept.{kept_count, IsKeptAt}
use Rattle.aich_tree.specs.Tree.{left_bytes}
use Rattle.aich_tree.proofs.Division.{branch-test}
use Rattle.aich_tree.proofs.KeptLemmas.{left-kept, right-kept}
use Rattle.aich_tree.proofs.ident.find_kept.Goals as goal

abbrev middle : ℕ → Span → ℕ
middle ident parent = parent.s + left_bytes (parent.e - parent.s) (is_left (ident / 2))

left_child : (ident : ℕ) (parent child : Span) → BLOCK < parent.e - parent.s → is_left ident ≡ true → child_range ident parent ≡ Some child → record { s = parent.s; e = middle ident parent } ≡ child
left_child ident parent child large left found =
    let is : child_range ident parent ≡ Some (record { s = parent.s; e = middle ident parent }) = rw (branch-test (parent.e - parent.s) large, left) refl in
    let same : Some (record { s = parent.s; e = middle ident parent }) ≡ Some child = sym is ∙ found in
    cc

right_child : (ident : ℕ) (parent child : Span) → BLOCK < parent.e - parent.s → is_left ident ≡ false → child_range ident parent ≡ Some child → record { s = middle ident parent; e = parent.e } ≡ child
right_child ident parent child large right found =
    let is : child_range ident parent ≡ Some (record { s = middle ident parent; e = parent.e }) = rw (branch-test (parent.e - parent.s) large, right) refl in
    let same : Some (record { s = middle ident parent; e = parent.e }) ≡ Some child = sym is ∙ found in
    cc

pub returns-then-is_left : goal.returns-then-is_left
returns-then-is_left c = λ size child found parent.
    let s = c.args.parent.span.s in
    let e = c.args.parent.span.e in
    let at = c.in_ok-at.at in
    let left : is_left c.args.ident ≡ true = sym c.is_left.ensures ∙ c.if-is_left.true in
    let large : PART < e - s = omega (arith, c.len.ensures, c.if-len-le-PART.false) in
    let above : IsKeptAt size (is_left (c.args.ident / 2)) c.args.parent.span at =
    subst (λ (kept : Option ℕ). IfSome kept (IsKeptAt size (is_left (c.args.ident / 2)) c.args.parent.span)) c.in_ok-at.was parent in
    let here = left-kept size s e at (is_left (c.args.ident / 2)) large above in
    subst (λ (b : Bool). IsKeptAt size b child at) (sym left)
    (subst (λ (span : Span). IsKeptAt size true span at) (left_child c.args.ident c.args.parent.span child (omega (arith, large)) left found) here)

pub returns-else-is_left : goal.returns-else-is_left
returns-else-is_left c = λ size child found parent.
    let s = c.args.parent.span.s in
    let e = c.args.parent.span.e in
    let at = c.in_ok-at.at in
    let right : is_left c.args.ident ≡ false = sym c.is_left.ensures ∙ c.if-is_left.false in
    let large : PART < e - s = omega (arith, c.len.ensures, c.if-len-le-PART.false) in
    let count : kept_count (left_bytes (e - s) (is_left (c.args.ident / 2))) ≡ c.kept_count.result = sym (c.kept_count.ensures ∙ ap kept_count c.requires.first) in
    let above : IsKeptAt size (is_left (c.args.ident / 2)) c.args.parent.span at =
    subst (λ (kept : Option ℕ). IfSome kept (IsKeptAt size (is_left (c.args.ident / 2)) c.args.parent.span)) c.in_ok-at.was parent in
    let here = right-kept size s e at (is_left (c.args.ident / 2)) large above in
    subst (λ (b : Bool). IsKeptAt size b child (at + c.kept_count.result)) (sym right)
    (subst (λ (n : ℕ). IsKeptAt size false child (at + n)) count
    (subst (λ (span : Span). IsKeptAt size false span (at + kept_count (left_bytes (e - s) (is_left (c.args.ident / 2))))) (right_child c.args.ident c.args.parent.span child (omega (arith, large)) right found) here))
