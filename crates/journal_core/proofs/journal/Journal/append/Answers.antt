use Rattle.std.proofs.Common.{◌≤◌, [], ◌∷◌, ◌++◌, length, IsTrue, sym, subst, arith}
use Rattle.journal_core.specs.Gates.{EndsAt}
use Rattle.journal_core.proofs.Gates.{Staged}
use Rattle.journal_core.proofs.Adding.{durable-log, ended-before, first, fourth, second, third, told-grown, told-staged}
use Rattle.journal_core.proofs.journal.Journal.append.Goals as goal

pub returns-in_err-write_at-clause-torn : goal.returns-in_err-write_at-clause-torn
returns-in_err-write_at-clause-torn g c front text m honest =
    let made = g.V.Vault.made c.args.vault.now in
    let old = g.V.Vault.crash c.args.vault.now in
    let gate = c.args.self.now.gate in
    let ends = durable-log (g.V.Vault.files c.args.vault.now) old (λ log. EndsAt front log) (g.met.V.Vault.tells c.args.vault.now honest) (c.requires.durable honest) m.ends in
    let one = first made gate front text old m.at (length c.args.spelled.now) (g.V.Vault.crash c.write_at.new.self) ends (c.write_at.ensures.torn honest) in
    ended-before made gate front text old m.at (g.V.Vault.crash c.write_at.new.self) one

pub returns-in_err-sync-clause-torn : goal.returns-in_err-sync-clause-torn
returns-in_err-sync-clause-torn g c front text m honest =
    let made = g.V.Vault.made c.args.vault.now in
    let old = g.V.Vault.crash c.args.vault.now in
    let gate = c.args.self.now.gate in
    let ends = durable-log (g.V.Vault.files c.args.vault.now) old (λ log. EndsAt front log) (g.met.V.Vault.tells c.args.vault.now honest) (c.requires.durable honest) m.ends in
    let one = first made gate front text old m.at (length c.args.spelled.now) (g.V.Vault.crash c.write_at.new.self) ends (c.write_at.ensures.torn honest) in
    let later = c.write_at.ensures.made.later in
    let awake = subst IsTrue (sym c.write_at.ensures.honest) honest in
    let two = second made gate front text old m.at (g.V.Vault.made c.write_at.new.self) (g.V.Vault.crash c.write_at.new.self) (g.V.Vault.crash c.sync.new.self) one later (c.sync.ensures.torn awake) in
    ended-before made gate front text old m.at (g.V.Vault.crash c.sync.new.self) two

pub returns-in_err-write_at-2-clause-torn : goal.returns-in_err-write_at-2-clause-torn
returns-in_err-write_at-2-clause-torn g c front text m honest =
    let made = g.V.Vault.made c.args.vault.now in
    let old = g.V.Vault.crash c.args.vault.now in
    let gate = c.args.self.now.gate in
    let ends = durable-log (g.V.Vault.files c.args.vault.now) old (λ log. EndsAt front log) (g.met.V.Vault.tells c.args.vault.now honest) (c.requires.durable honest) m.ends in
    let one = first made gate front text old m.at (length c.args.spelled.now) (g.V.Vault.crash c.write_at.new.self) ends (c.write_at.ensures.torn honest) in
    let later = c.write_at.ensures.made.later in
    let awake = subst IsTrue (sym c.write_at.ensures.honest) honest in
    let two = second made gate front text old m.at (g.V.Vault.made c.write_at.new.self) (g.V.Vault.crash c.write_at.new.self) (g.V.Vault.crash c.sync.new.self) one later (c.sync.ensures.torn awake) in
    let told = told-staged gate c.args.spelled.now front text (g.V.Vault.files c.args.vault.now) (g.V.Vault.files c.write_at.new.self) (g.V.Vault.files c.sync.new.self) m c.in_ok-write_at.ensures.files c.sync.ensures.files in
    let still = subst IsTrue (sym c.sync.ensures.honest) awake in
    let staged = durable-log (g.V.Vault.files c.sync.new.self) (g.V.Vault.crash c.sync.new.self) (Staged front (text ++ 0 ∷ [])) (g.met.V.Vault.tells c.sync.new.self still) (c.in_ok-sync.ensures.durable awake) told in
    let so : made ≤ g.V.Vault.made c.sync.new.self = omega (arith, later, c.sync.ensures.made.later) in
    let three = third made gate front text old m.at (g.V.Vault.made c.sync.new.self) (g.V.Vault.crash c.sync.new.self) (g.V.Vault.crash c.write_at-2.new.self) two so staged (c.write_at-2.ensures.torn still) in
    three

pub returns-in_err-sync-2-clause-torn : goal.returns-in_err-sync-2-clause-torn
returns-in_err-sync-2-clause-torn g c front text m honest =
    let made = g.V.Vault.made c.args.vault.now in
    let old = g.V.Vault.crash c.args.vault.now in
    let gate = c.args.self.now.gate in
    let ends = durable-log (g.V.Vault.files c.args.vault.now) old (λ log. EndsAt front log) (g.met.V.Vault.tells c.args.vault.now honest) (c.requires.durable honest) m.ends in
    let one = first made gate front text old m.at (length c.args.spelled.now) (g.V.Vault.crash c.write_at.new.self) ends (c.write_at.ensures.torn honest) in
    let later = c.write_at.ensures.made.later in
    let awake = subst IsTrue (sym c.write_at.ensures.honest) honest in
    let two = second made gate front text old m.at (g.V.Vault.made c.write_at.new.self) (g.V.Vault.crash c.write_at.new.self) (g.V.Vault.crash c.sync.new.self) one later (c.sync.ensures.torn awake) in
    let told = told-staged gate c.args.spelled.now front text (g.V.Vault.files c.args.vault.now) (g.V.Vault.files c.write_at.new.self) (g.V.Vault.files c.sync.new.self) m c.in_ok-write_at.ensures.files c.sync.ensures.files in
    let still = subst IsTrue (sym c.sync.ensures.honest) awake in
    let staged = durable-log (g.V.Vault.files c.sync.new.self) (g.V.Vault.crash c.sync.new.self) (Staged front (text ++ 0 ∷ [])) (g.met.V.Vault.tells c.sync.new.self still) (c.in_ok-sync.ensures.durable awake) told in
    let so : made ≤ g.V.Vault.made c.sync.new.self = omega (arith, later, c.sync.ensures.made.later) in
    let three = third made gate front text old m.at (g.V.Vault.made c.sync.new.self) (g.V.Vault.crash c.sync.new.self) (g.V.Vault.crash c.write_at-2.new.self) two so staged (c.write_at-2.ensures.torn still) in
    let last = subst IsTrue (sym c.write_at-2.ensures.honest) still in
    let far : made ≤ g.V.Vault.made c.write_at-2.new.self = omega (arith, so, c.write_at-2.ensures.made.later) in
    fourth made gate front text old m.at (g.V.Vault.made c.write_at-2.new.self) (g.V.Vault.crash c.write_at-2.new.self) (g.V.Vault.crash c.sync-2.new.self) three far (c.sync-2.ensures.torn last)

pub returns-clause-torn : goal.returns-clause-torn
returns-clause-torn g c front text m honest =
    let made = g.V.Vault.made c.args.vault.now in
    let old = g.V.Vault.crash c.args.vault.now in
    let gate = c.args.self.now.gate in
    let ends = durable-log (g.V.Vault.files c.args.vault.now) old (λ log. EndsAt front log) (g.met.V.Vault.tells c.args.vault.now honest) (c.requires.durable honest) m.ends in
    let one = first made gate front text old m.at (length c.args.spelled.now) (g.V.Vault.crash c.write_at.new.self) ends (c.write_at.ensures.torn honest) in
    let later = c.write_at.ensures.made.later in
    let awake = subst IsTrue (sym c.write_at.ensures.honest) honest in
    let two = second made gate front text old m.at (g.V.Vault.made c.write_at.new.self) (g.V.Vault.crash c.write_at.new.self) (g.V.Vault.crash c.sync.new.self) one later (c.sync.ensures.torn awake) in
    let told = told-staged gate c.args.spelled.now front text (g.V.Vault.files c.args.vault.now) (g.V.Vault.files c.write_at.new.self) (g.V.Vault.files c.sync.new.self) m c.in_ok-write_at.ensures.files c.sync.ensures.files in
    let still = subst IsTrue (sym c.sync.ensures.honest) awake in
    let staged = durable-log (g.V.Vault.files c.sync.new.self) (g.V.Vault.crash c.sync.new.self) (Staged front (text ++ 0 ∷ [])) (g.met.V.Vault.tells c.sync.new.self still) (c.in_ok-sync.ensures.durable awake) told in
    let so : made ≤ g.V.Vault.made c.sync.new.self = omega (arith, later, c.sync.ensures.made.later) in
    let three = third made gate front text old m.at (g.V.Vault.made c.sync.new.self) (g.V.Vault.crash c.sync.new.self) (g.V.Vault.crash c.write_at-2.new.self) two so staged (c.write_at-2.ensures.torn still) in
    let last = subst IsTrue (sym c.write_at-2.ensures.honest) still in
    let far : made ≤ g.V.Vault.made c.write_at-2.new.self = omega (arith, so, c.write_at-2.ensures.made.later) in
    fourth made gate front text old m.at (g.V.Vault.made c.write_at-2.new.self) (g.V.Vault.crash c.write_at-2.new.self) (g.V.Vault.crash c.sync-2.new.self) three far (c.sync-2.ensures.torn last)

pub returns-clause-grown : goal.returns-clause-grown
returns-clause-grown g c front text m =
    let gate = c.args.self.now.gate in
    let told = told-staged gate c.args.spelled.now front text (g.V.Vault.files c.args.vault.now) (g.V.Vault.files c.write_at.new.self) (g.V.Vault.files c.sync.new.self) m c.in_ok-write_at.ensures.files c.sync.ensures.files in
    told-grown gate front text (g.V.Vault.files c.sync.new.self) (g.V.Vault.files c.write_at-2.new.self) (g.V.Vault.files c.sync-2.new.self) m.at told c.in_ok-write_at-2.ensures.files c.sync-2.ensures.files
