use Rattle.journal_core.proofs.payload.read_record.Goals as goal

pub returns-in-1 : goal.returns-in-1
returns-in-1 c = rw c.in-1.is (c.read_set.ensures c.args.size)

pub returns-in-2 : goal.returns-in-2
returns-in-2 c = rw c.in-2.is (c.read_filled.ensures c.args.size)

pub returns-in-3 : goal.returns-in-3
returns-in-3 c = rw c.in-3.is (c.read_judged.ensures c.args.size)

pub returns-in-5 : goal.returns-in-5
returns-in-5 c = rw c.in-5.is (c.read_dropped.ensures c.args.size)
