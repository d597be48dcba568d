use Rattle.std.proofs.Common.{refl, sym, subst}
use Rattle.std.proofs.lemmas.Bool.{false≢true}
use Rattle.part_hashset.specs.declared.aim.Aim.{Aim}
use Rattle.journal_core.specs.LogFile.{aim_of}
use Rattle.journal_core.specs.Folds.{told}
use Rattle.journal_core.specs.States.{MayFollow}
use Rattle.journal_core.specs.declared.record.Record.{Record}
use Rattle.journal_core.proofs.Unique.{bits-fit}
use Rattle.journal_core.proofs.Steps.{means-of, means-once, spelling-of}
use Rattle.journal_core.proofs.walking.next.Goals as goal

pub returns-in_default-2 : goal.returns-in_default-2
returns-in_default-2 c r text rest sp may is =
    let none = rw c.in_default-2.is at c.in_ok-rec.ensures in
    none r (means-of c.args.header.now.size c.in-Some.kind c.args.bytes.now c.in-Some.payload.now text rest r c.in-Some.ensures sp is (bits-fit (aim_of c.args.header.now) (told c.args.folded.now) r may))

pub returns-then-may_follow : goal.returns-then-may_follow
returns-then-may_follow c =
    let some = rw c.in-Some-2.is at c.in_ok-rec.ensures in
    let both = spelling-of c.args.header.now.size c.in-Some.kind c.args.bytes.now c.in-Some.payload.now c.in-Some-2.rec c.in-Some.ensures some in
    let may = c.if-may_follow.ensures.0 refl in
    (both.0, subst (λ (a : Aim). MayFollow a (told c.args.folded.now) c.in-Some-2.rec) c.requires.aim may, both.1)

pub returns-else-may_follow : goal.returns-else-may_follow
returns-else-may_follow c r text rest sp may is =
    let some = rw c.in-Some-2.is at c.in_ok-rec.ensures in
    let state = told c.args.folded.now in
    let other = means-of c.args.header.now.size c.in-Some.kind c.args.bytes.now c.in-Some.payload.now text rest r c.in-Some.ensures sp is (bits-fit (aim_of c.args.header.now) state r may) in
    let same = means-once c.args.header.now.size c.in-Some.kind c.in-Some.payload.now r c.in-Some-2.rec other some in
    let here = subst (λ (q : Record). MayFollow (aim_of c.args.header.now) state q) same may in
    let there = subst (λ (a : Aim). MayFollow a state c.in-Some-2.rec) (sym c.requires.aim) here in
    false≢true (c.if-may_follow.ensures.1 there)
