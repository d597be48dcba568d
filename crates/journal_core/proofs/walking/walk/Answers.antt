use Rattle.std.proofs.Common.{◌≤◌, ◌+◌, ◌∙◌, ℕ, List, length, take, drop, ap, subst}
use Rattle.part_hashset.specs.declared.aim.Aim.{Aim}
use Rattle.journal_core.specs.Faults.{IsBadRecord}
use Rattle.journal_core.specs.Folds.{told}
use Rattle.journal_core.specs.LogFile.{aim_of}
use Rattle.journal_core.specs.Records.{IsSpelling}
use Rattle.journal_core.specs.States.{MayFollow, State, after, state_of}
use Rattle.journal_core.proofs.Steps.{bad-gate, rest-whole, state-more, walked-more}
use Rattle.journal_core.proofs.walking.walk.Goals as goal

pub returns-in_default : goal.returns-in_default
returns-in_default c =
    let h = c.args.header.now in
    let bytes = c.args.bytes.now in
    let at = c.walking.at in
    let rs = c.walking.records.items in
    let none = rw c.in_default.is at c.in_ok-rec.ensures in
    let here = subst (λ (l : List ℕ). IsBadRecord h (told c.walking.folded) l) (rest-whole bytes (at + 1)) none in
    let bad = subst (λ (s : State). IsBadRecord h s (drop (at + 1) bytes)) c.walking.invariant.state here in
    (rs, c.walking.invariant.walked, bad-gate h (state_of h.size rs) bytes at c.walking-test.true c.if-bytes-at-eq-OPEN.true bad)

pub walking-preserved : goal.walking-preserved
walking-preserved c =
    let h = c.args.header.now in
    let bytes = c.args.bytes.now in
    let at = c.walking.at in
    let rs = c.walking.records.items in
    let rec = c.in-Some.rec in
    let len = c.in-Some.len in
    let found = rw c.in-Some.is at c.in_ok-rec.ensures in
    let rest = rest-whole bytes (at + 1) in
    let spelled = subst (λ (l : List ℕ). IsSpelling rec (take len l)) rest found.0 in
    let within = subst (λ (l : List ℕ). len ≤ length l) rest found.2 in
    let may = subst (λ (s : State). MayFollow (aim_of h) s rec) c.walking.invariant.state found.1 in
    let added = c.in_ok-add.ensures in
    let items = c.in_ok-push.ensures.items in
    record {
      walked = walked-more h bytes rs at len rec c.push.new.self.items c.walking.invariant.walked c.walking-test.true c.if-bytes-at-eq-OPEN.true spelled may within items;
      aim = added.aim ∙ c.walking.invariant.aim;
      sized = added.sized;
      state = state-more h.size rs c.push.new.self.items rec (told c.walking.folded) (told c.add.new.self) c.walking.invariant.state
          (added.told ∙ ap (λ (a : Aim). after a.size (told c.walking.folded) rec) c.walking.invariant.aim) items;
    }
