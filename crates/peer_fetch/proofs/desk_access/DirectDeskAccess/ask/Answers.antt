use Rattle.std.proofs.Common.{refl, rules}
use Rattle.reserve_core.specs.declared.desk.Answer.TheVariants as answer
use Rattle.reserve_core.specs.declared.desk.DeskAsk.TheVariants as ask
use Rattle.peer_fetch.proofs.Fetches.{served_same}
use Rattle.peer_fetch.proofs.desk_access.DirectDeskAccess.ask.Goals as goal

pub returns-in-HasSet : goal.returns-in-HasSet
returns-in-HasSet g c = record {
  reaches = tt;
  asked = record {
    same = search rules;
    served =
        let desk = c.args.desk.now in
        let served = served_same (g.D.FileDesk.state desk).wanted (g.D.FileDesk.state desk).peer (g.D.FileDesk.state desk).alone ask.HasSet (answer.HasSet c.has_set.result) (g.D.FileDesk.state desk).seen (g.D.FileDesk.state desk).body (c.has_set.ensures, refl) (λ bytes. refl) in
        rw c.in-HasSet.is served;
    faults = search rules;
    free = search rules;
    refusal = search rules;
  };
}

pub returns-in-Holds : goal.returns-in-Holds
returns-in-Holds g c = record {
  reaches = tt;
  asked = record {
    same = search rules;
    served =
        let desk = c.args.desk.now in
        let served = served_same (g.D.FileDesk.state desk).wanted (g.D.FileDesk.state desk).peer (g.D.FileDesk.state desk).alone ask.Holds (answer.Holds c.holds.result) (g.D.FileDesk.state desk).seen (g.D.FileDesk.state desk).body (c.holds.ensures, refl) (λ bytes. refl) in
        rw c.in-Holds.is served;
    faults = search rules;
    free = search rules;
    refusal = search rules;
  };
}

pub returns-in-NextFailed : goal.returns-in-NextFailed
returns-in-NextFailed g c = record {
  reaches = tt;
  asked = record {
    same = search rules;
    served =
        let desk = c.args.desk.now in
        let served = served_same (g.D.FileDesk.state desk).wanted (g.D.FileDesk.state desk).peer (g.D.FileDesk.state desk).alone (ask.NextFailed c.in-NextFailed.from) (answer.NextFailed c.next_failed.result) (g.D.FileDesk.state desk).seen (g.D.FileDesk.state desk).body (c.next_failed.ensures, refl) (λ bytes. refl) in
        rw c.in-NextFailed.is served;
    faults = search rules;
    free = search rules;
    refusal = search rules;
  };
}
