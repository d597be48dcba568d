use Rattle.std.proofs.Common.{◌≤◌, IsTrue, sym, subst, arith}
use Rattle.journal_core.proofs.Freshness.{begin-none, fresh-cut, fresh-only, fresh-stays, fresh-written, told-fresh, told-short}
use Rattle.journal_core.proofs.making.begin.Goals as goal

pub returns-in_err-write_at-clause-torn : goal.returns-in_err-write_at-clause-torn
returns-in_err-write_at-clause-torn g c honest =
    let made = g.V.Vault.made c.args.vault.now in
    let old = g.V.Vault.crash c.args.vault.now in
    let files = g.V.Vault.files c.args.vault.now in
    let tells = g.met.V.Vault.tells c.args.vault.now honest in
    let durable = c.requires.durable honest in
    let zero = begin-none made old (told-fresh files old tells durable c.requires.fresh) in
    let after_len = g.V.Vault.crash c.len.new.self in
    let one = fresh-stays made old made old after_len zero (omega arith) (c.len.ensures.torn honest) in
    let awake = subst IsTrue (sym c.len.ensures.honest) honest in
    let short = told-short files old after_len c.in_ok-len.field-0 tells durable c.in_ok-len.ensures.number c.if-branch-le9.true (c.len.ensures.torn honest) in
    let after_write = g.V.Vault.crash c.write_at.new.self in
    let two = fresh-written made old (g.V.Vault.made c.len.new.self) after_len after_write one c.len.ensures.made.later short (c.write_at.ensures.torn awake) in
    fresh-only made old after_write two

pub returns-in_err-set_len-clause-torn : goal.returns-in_err-set_len-clause-torn
returns-in_err-set_len-clause-torn g c honest =
    let made = g.V.Vault.made c.args.vault.now in
    let old = g.V.Vault.crash c.args.vault.now in
    let files = g.V.Vault.files c.args.vault.now in
    let tells = g.met.V.Vault.tells c.args.vault.now honest in
    let durable = c.requires.durable honest in
    let zero = begin-none made old (told-fresh files old tells durable c.requires.fresh) in
    let after_len = g.V.Vault.crash c.len.new.self in
    let one = fresh-stays made old made old after_len zero (omega arith) (c.len.ensures.torn honest) in
    let awake = subst IsTrue (sym c.len.ensures.honest) honest in
    let short = told-short files old after_len c.in_ok-len.field-0 tells durable c.in_ok-len.ensures.number c.if-branch-le9.true (c.len.ensures.torn honest) in
    let after_write = g.V.Vault.crash c.write_at.new.self in
    let two = fresh-written made old (g.V.Vault.made c.len.new.self) after_len after_write one c.len.ensures.made.later short (c.write_at.ensures.torn awake) in
    let still = subst IsTrue (sym c.write_at.ensures.honest) awake in
    let so : made ≤ g.V.Vault.made c.write_at.new.self = omega (arith, c.len.ensures.made.later, c.write_at.ensures.made.later) in
    let after_cut = g.V.Vault.crash c.set_len.new.self in
    let three = fresh-cut made old (g.V.Vault.made c.write_at.new.self) after_write after_cut two so (c.set_len.ensures.torn still) in
    fresh-only made old after_cut three

pub returns-in_err-sync-clause-torn : goal.returns-in_err-sync-clause-torn
returns-in_err-sync-clause-torn g c honest =
    let made = g.V.Vault.made c.args.vault.now in
    let old = g.V.Vault.crash c.args.vault.now in
    let files = g.V.Vault.files c.args.vault.now in
    let tells = g.met.V.Vault.tells c.args.vault.now honest in
    let durable = c.requires.durable honest in
    let zero = begin-none made old (told-fresh files old tells durable c.requires.fresh) in
    let after_len = g.V.Vault.crash c.len.new.self in
    let one = fresh-stays made old made old after_len zero (omega arith) (c.len.ensures.torn honest) in
    let awake = subst IsTrue (sym c.len.ensures.honest) honest in
    let short = told-short files old after_len c.in_ok-len.field-0 tells durable c.in_ok-len.ensures.number c.if-branch-le9.true (c.len.ensures.torn honest) in
    let after_write = g.V.Vault.crash c.write_at.new.self in
    let two = fresh-written made old (g.V.Vault.made c.len.new.self) after_len after_write one c.len.ensures.made.later short (c.write_at.ensures.torn awake) in
    let still = subst IsTrue (sym c.write_at.ensures.honest) awake in
    let so : made ≤ g.V.Vault.made c.write_at.new.self = omega (arith, c.len.ensures.made.later, c.write_at.ensures.made.later) in
    let after_cut = g.V.Vault.crash c.set_len.new.self in
    let three = fresh-cut made old (g.V.Vault.made c.write_at.new.self) after_write after_cut two so (c.set_len.ensures.torn still) in
    let last = subst IsTrue (sym c.set_len.ensures.honest) still in
    let far : made ≤ g.V.Vault.made c.set_len.new.self = omega (arith, so, c.set_len.ensures.made.later) in
    fresh-stays made old (g.V.Vault.made c.set_len.new.self) after_cut (g.V.Vault.crash c.sync.new.self) (fresh-only made old after_cut three) far (c.sync.ensures.torn last)

pub returns-in_ok-sync-clause-torn : goal.returns-in_ok-sync-clause-torn
returns-in_ok-sync-clause-torn g c honest =
    let made = g.V.Vault.made c.args.vault.now in
    let old = g.V.Vault.crash c.args.vault.now in
    let files = g.V.Vault.files c.args.vault.now in
    let tells = g.met.V.Vault.tells c.args.vault.now honest in
    let durable = c.requires.durable honest in
    let zero = begin-none made old (told-fresh files old tells durable c.requires.fresh) in
    let after_len = g.V.Vault.crash c.len.new.self in
    let one = fresh-stays made old made old after_len zero (omega arith) (c.len.ensures.torn honest) in
    let awake = subst IsTrue (sym c.len.ensures.honest) honest in
    let short = told-short files old after_len c.in_ok-len.field-0 tells durable c.in_ok-len.ensures.number c.if-branch-le9.true (c.len.ensures.torn honest) in
    let after_write = g.V.Vault.crash c.write_at.new.self in
    let two = fresh-written made old (g.V.Vault.made c.len.new.self) after_len after_write one c.len.ensures.made.later short (c.write_at.ensures.torn awake) in
    let still = subst IsTrue (sym c.write_at.ensures.honest) awake in
    let so : made ≤ g.V.Vault.made c.write_at.new.self = omega (arith, c.len.ensures.made.later, c.write_at.ensures.made.later) in
    let after_cut = g.V.Vault.crash c.set_len.new.self in
    let three = fresh-cut made old (g.V.Vault.made c.write_at.new.self) after_write after_cut two so (c.set_len.ensures.torn still) in
    let last = subst IsTrue (sym c.set_len.ensures.honest) still in
    let far : made ≤ g.V.Vault.made c.set_len.new.self = omega (arith, so, c.set_len.ensures.made.later) in
    fresh-stays made old (g.V.Vault.made c.set_len.new.self) after_cut (g.V.Vault.crash c.sync.new.self) (fresh-only made old after_cut three) far (c.sync.ensures.torn last)
