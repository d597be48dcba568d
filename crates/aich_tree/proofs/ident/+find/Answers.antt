use Rattle.std.proofs.Common.{◌≡◌, ℕ, arith, sym, ap, subst, ◌∙◌, option_and_then}
use Rattle.aich_tree.specs.Ident.{child_range, node_range}
use Rattle.aich_tree.proofs.IdentLemmas.{node_range-none, node_range-root, node_range-child}
use Rattle.aich_tree.specs.Ident.{is_left}
use Rattle.aich_tree.specs.Kept.{IsKeptAt}
use Rattle.aich_tree.proofs.KeptLemmas.{root-kept}
use Rattle.aich_tree.proofs.PlaceLemmas.{root-place}
use Rattle.aich_tree.proofs.ident.+find.Goals as goal

pub returns-then-ident-eq0-clause-range : goal.returns-then-ident-eq0-clause-range
returns-then-ident-eq0-clause-range t c =
    let zero : c.args.ident ≡ 0 = omega arith in
    sym (ap (λ (i : ℕ). node_range c.args.size i) zero ∙ node_range-none c.args.size)

pub returns-then-ident-eq1-clause-range : goal.returns-then-ident-eq1-clause-range
returns-then-ident-eq1-clause-range t c =
    let one : c.args.ident ≡ 1 = omega arith in
    sym (ap (λ (i : ℕ). node_range c.args.size i) one ∙ node_range-root c.args.size)

pub returns-then-ident-eq1-clause-place : goal.returns-then-ident-eq1-clause-place
returns-then-ident-eq1-clause-place t c = root-place c.args.size c.requires.0

pub returns-then-ident-eq1-clause-kept : goal.returns-then-ident-eq1-clause-kept
returns-then-ident-eq1-clause-kept t c =
    let one : 1 ≡ c.args.ident = omega arith in
    subst (λ (ident : ℕ). IsKeptAt c.args.size (is_left ident) (record { s = 0; e = c.args.size }) 0) one (root-kept c.args.size)

pub returns-in_err-parent-clause-range : goal.returns-in_err-parent-clause-range
returns-in_err-parent-clause-range t c =
    rw c.from_residual.ensures
    (sym
    (node_range-child c.args.size c.args.ident (omega arith)
    ∙ ap (option_and_then (child_range c.args.ident)) (sym c.in_err-parent.ensures.range)))

pub returns-clause-range : goal.returns-clause-range
returns-clause-range t c =
    c.find_child.ensures.range
    ∙ sym
    (node_range-child c.args.size c.args.ident (omega arith)
    ∙ ap (option_and_then (child_range c.args.ident)) (sym c.in_ok-parent.ensures.range))
