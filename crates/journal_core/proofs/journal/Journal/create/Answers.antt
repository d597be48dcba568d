use Rattle.std.proofs.Common.{◌∙◌, ◌≤◌, length, IsTrue, sym, ap, subst, arith}
use Rattle.ed2k_outside.proofs.Runs.{ran-now, ran-then}
use Rattle.journal_core.specs.Gates.{Grown}
use Rattle.journal_core.specs.Headers.{magic}
use Rattle.journal_core.proofs.Adding.{durable-log}
use Rattle.journal_core.proofs.Freshness.{body-sized, kept-fresh, made-or-fresh, meant-magic, stands-new, stands-told, stays-fresh, told-fresh}
use Rattle.journal_core.proofs.journal.Journal.create.Goals as goal

pub append-requires-clause-meant : goal.append-requires-clause-meant
append-requires-clause-meant g c =
    let fields = c.fields.ensures in
    (magic, fields.0, meant-magic c.args.header.now c.fields.result (g.V.Vault.files c.begin.new.vault) fields c.in_ok-begin.ensures.begun)

pub returns-clause-stands : goal.returns-clause-stands
returns-clause-stands g c =
    let fields = c.fields.ensures in
    let m = meant-magic c.args.header.now c.fields.result (g.V.Vault.files c.begin.new.vault) fields c.in_ok-begin.ensures.begun in
    stands-told c.args.header.now c.fields.result c.append.new.self.gate (g.V.Vault.files c.append.new.vault) fields c.in_ok-append.ensures.gate (c.in_ok-append.ensures.grown magic fields.0 m)

pub returns-in_err-append-clause-torn : goal.returns-in_err-append-clause-torn
returns-in_err-append-clause-torn g c honest =
    let h = c.args.header.now in
    let fields = c.fields.ensures in
    let old = g.V.Vault.crash c.args.vault.now in
    let sized_view = g.V.Vault.crash c.size_body.new.vault in
    let begun_view = g.V.Vault.crash c.begin.new.vault in
    let awake = subst IsTrue (sym c.size_body.ensures.honest) honest in
    let begun = c.begin.ensures.torn awake in
    let sized = body-sized (g.V.Vault.files c.size_body.new.vault) sized_view begun_view h.size (g.met.V.Vault.tells c.size_body.new.vault awake) (c.in_ok-size_body.ensures.durable honest) c.in_ok-size_body.ensures.sized begun.now in
    let m = meant-magic h c.fields.result (g.V.Vault.files c.begin.new.vault) fields c.in_ok-begin.ensures.begun in
    let still = subst IsTrue (sym c.begin.ensures.honest) awake in
    let added = c.append.ensures.torn magic fields.0 m still in
    let fresh = told-fresh (g.V.Vault.files c.args.vault.now) old (g.met.V.Vault.tells c.args.vault.now honest) (c.requires.durable honest) c.requires.fresh in
    let one = ran-then (c.size_body.ensures.torn honest) c.size_body.ensures.later begun (kept-fresh old h fresh) (stays-fresh sized_view h) in
    let last = made-or-fresh h fields.0 begun_view fields.1 sized in
    let later : g.V.Vault.made c.args.vault.now ≤ g.V.Vault.made c.begin.new.vault = omega (arith, c.size_body.ensures.later, c.begin.ensures.later) in
    ran-now (ran-then one later added (λ d x. x) last) (λ d left b. last d b)

pub returns-clause-torn : goal.returns-clause-torn
returns-clause-torn g c honest =
    let h = c.args.header.now in
    let fields = c.fields.ensures in
    let old = g.V.Vault.crash c.args.vault.now in
    let sized_view = g.V.Vault.crash c.size_body.new.vault in
    let begun_view = g.V.Vault.crash c.begin.new.vault in
    let awake = subst IsTrue (sym c.size_body.ensures.honest) honest in
    let begun = c.begin.ensures.torn awake in
    let sized = body-sized (g.V.Vault.files c.size_body.new.vault) sized_view begun_view h.size (g.met.V.Vault.tells c.size_body.new.vault awake) (c.in_ok-size_body.ensures.durable honest) c.in_ok-size_body.ensures.sized begun.now in
    let m = meant-magic h c.fields.result (g.V.Vault.files c.begin.new.vault) fields c.in_ok-begin.ensures.begun in
    let still = subst IsTrue (sym c.begin.ensures.honest) awake in
    let added = c.append.ensures.torn magic fields.0 m still in
    let fresh = told-fresh (g.V.Vault.files c.args.vault.now) old (g.met.V.Vault.tells c.args.vault.now honest) (c.requires.durable honest) c.requires.fresh in
    let one = ran-then (c.size_body.ensures.torn honest) c.size_body.ensures.later begun (kept-fresh old h fresh) (stays-fresh sized_view h) in
    let last = made-or-fresh h fields.0 begun_view fields.1 sized in
    let later : g.V.Vault.made c.args.vault.now ≤ g.V.Vault.made c.begin.new.vault = omega (arith, c.size_body.ensures.later, c.begin.ensures.later) in
    ran-now (ran-then one later added (λ d x. x) last) (λ d left b. last d b)

pub returns-clause-empty : goal.returns-clause-empty
returns-clause-empty g c honest d left =
    let h = c.args.header.now in
    let fields = c.fields.ensures in
    let old = g.V.Vault.crash c.args.vault.now in
    let sized_view = g.V.Vault.crash c.size_body.new.vault in
    let begun_view = g.V.Vault.crash c.begin.new.vault in
    let awake = subst IsTrue (sym c.size_body.ensures.honest) honest in
    let begun = c.begin.ensures.torn awake in
    let sized = body-sized (g.V.Vault.files c.size_body.new.vault) sized_view begun_view h.size (g.met.V.Vault.tells c.size_body.new.vault awake) (c.in_ok-size_body.ensures.durable honest) c.in_ok-size_body.ensures.sized begun.now in
    let m = meant-magic h c.fields.result (g.V.Vault.files c.begin.new.vault) fields c.in_ok-begin.ensures.begun in
    let still = subst IsTrue (sym c.begin.ensures.honest) awake in
    let added = c.append.ensures.torn magic fields.0 m still in
    let here = added.now d left in
    let last = subst IsTrue (sym c.append.ensures.honest) still in
    let log = durable-log (g.V.Vault.files c.append.new.vault) (g.V.Vault.crash c.append.new.vault) (Grown magic fields.0) (g.met.V.Vault.tells c.append.new.vault last) (c.in_ok-append.ensures.durable still) (c.in_ok-append.ensures.grown magic fields.0 m) d left in
    (stands-new h fields.0 d.log fields.1 log, ap length here.body ∙ sized here.was here.there)
