use Rattle.std.proofs.Common.{◌≡◌, ◌+◌, ◌-◌, ◌∙◌, length, take, drop, Option, IfSome, subst, arith}
use Rattle.ed2k_outside.specs.Files.{Files}
use Rattle.journal_core.proofs.Filled.{fill-more, put-long}
use Rattle.journal_core.proofs.Looking.{looks-then}
use Rattle.journal_core.proofs.reading.fill.Goals as goal

pub filling-preserved : goal.filling-preserved
filling-preserved g c =
    let invariant = c.filling.invariant in
    let buffer = c.filling.buffer in
    let tail = c.read_some.new.buffer in
    let filled = c.filling.filled in
    let bound = c.in_ok-filled.ensures.bound in
    let n = c.in_ok-filled.field-0 in
    let content = subst (λ (o : Option Files). IfSome o (λ f. take n tail ≡ take n (drop (c.args.at + filled) f.log))) invariant.looks.files c.in_ok-filled.ensures.content in
    let long : length tail ≡ length buffer - filled = omega arith in
    let whole = put-long buffer tail filled invariant.within long in
    record {
      within = omega (arith, whole, bound, long, invariant.within);
      long = whole ∙ invariant.long;
      content = fill-more (g.V.Vault.files c.args.vault.now) buffer tail filled n c.args.at invariant.within invariant.content content;
      looks = looks-then g.V.Vault c.args.vault.now c.filling.vault c.read_some.new.vault invariant.looks c.in_ok-filled.ensures.looks;
      later = omega (arith, c.in_ok-filled.ensures.cause.later, invariant.later);
      clean = c.in_ok-filled.ensures.clean ∙ invariant.clean;
    }
