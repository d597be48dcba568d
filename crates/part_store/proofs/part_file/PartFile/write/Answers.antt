use Rattle.std.proofs.Common.{◌≡◌, ◌+◌, length, refl, sym, is_ok, arith}
use Rattle.reserve_core.specs.declared.event.Event.TheVariants as event
use Rattle.part_store.proofs.Kept.{keeps-silent, keeps-asked, keeps-vault, keeps-failed, clean-of}
use Rattle.part_store.proofs.Laid.{begins-within, body-written, lawful-at, legal-inside, rose-of, too-long}
use Rattle.part_store.proofs.Logs.{identity-same, log-written}
use Rattle.part_store.proofs.part_file.PartFile.write.Goals as goal

pub returns-in_default-clause-answer : goal.returns-in_default-clause-answer
returns-in_default-clause-answer g c = too-long _ _ c.args.peer c.args.at c.args.piece.now c.self.view_is c.self.invariant.size c.usable.ensures.legal c.in_default.ensures

pub write_at-requires : goal.write_at-requires
write_at-requires g c =
    let end : c.in-Some.end ≡ c.args.at + length c.args.piece.now = omega (arith, c.in-Some.ensures) in
    let lawful = lawful-at _ _ _ _ _ _ (legal-inside _ _ c.self.view_is c.usable.ensures.legal) c.in_ok-ready_write.ensures.answer end in
    begins-within _ _ _ _ _ _ _ lawful c.self.invariant.body

pub invariant_of-self-then-is_err : goal.invariant_of-self-then-is_err
invariant_of-self-then-is_err g c =
    let end : c.in-Some.end ≡ c.args.at + length c.args.piece.now = omega (arith, c.in-Some.ensures) in
    let lawful = lawful-at _ _ _ _ _ _ (legal-inside _ _ c.self.view_is c.usable.ensures.legal) c.in_ok-ready_write.ensures.answer end in
    let fits = body-written _ _ _ _ _ _ _ _ c.write_at.result lawful c.self.invariant.body c.write_at.ensures.files in
    let rose = rose-of c.write_at.result (sym c.if-is_err.ensures.value) c.write_at.ensures.cause in
    keeps-asked (keeps-failed c.self.invariant c.write_at.ensures.cause.later rose c.write_at.ensures.made.later (identity-same c.write_at.ensures.honest c.write_at.ensures.placed (log-written c.args.at c.args.piece.now _ _ c.write_at.result c.write_at.ensures.files)) fits refl) c.ready_write.ensures.aim c.ready_write.ensures.log

pub invariant_of-self-2 : goal.invariant_of-self-2
invariant_of-self-2 g c =
    let end : c.in-Some.end ≡ c.args.at + length c.args.piece.now = omega (arith, c.in-Some.ensures) in
    let lawful = lawful-at _ _ _ _ _ _ (legal-inside _ _ c.self.view_is c.usable.ensures.legal) c.in_ok-ready_write.ensures.answer end in
    let fits = body-written _ _ _ _ _ _ _ _ c.write_at.result lawful c.self.invariant.body c.write_at.ensures.files in
    let kept = keeps-vault c.self.invariant c.write_at.ensures.cause.later c.write_at.ensures.made.later (identity-same c.write_at.ensures.honest c.write_at.ensures.placed (log-written c.args.at c.args.piece.now _ _ c.write_at.result c.write_at.ensures.files)) fits (λ works. clean-of c.write_at.result (sym c.if-is_err.ensures.value) c.write_at.ensures.clean) in
    let asked = keeps-asked kept c.ready_write.ensures.aim c.ready_write.ensures.log in
    keeps-silent (event.Write c.args.peer (record { s = c.args.at; e = c.in-Some.end })) (is_ok c.write.result) asked c.write.ensures.aim c.calls.ensures (λ j. refl) c.write.ensures.log
