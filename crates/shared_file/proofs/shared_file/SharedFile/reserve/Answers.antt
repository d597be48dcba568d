use Rattle.std.proofs.Common.{◌≡◌, ◌∷◌, ◌++◌, List, sym, ap, subst, ◌∙◌}
use Rattle.reserve_core.specs.Desk.{own}
use Rattle.reserve_core.specs.Events.{events}
use Rattle.reserve_core.specs.declared.desk.Answer.TheVariants as answer
use Rattle.reserve_core.specs.declared.desk.DeskAsk.TheVariants as ask
use Rattle.shared_file.proofs.Turns.{born_aim, free_rest, turn_keeps, turn_marks, turn_serves, turn_starts}
use Rattle.shared_file.specs.Notes.{noted}
use Rattle.shared_file.specs.declared.noted.Noted.{Noted}
use Rattle.turn_lock.proofs.Lists.{some_same}
use Rattle.turn_lock.specs.Views.{birth_of, later, owned_of}
use Rattle.shared_file.proofs.shared_file.SharedFile.reserve.Goals as goal

pub give-requires-clause-log : goal.give-requires-clause-log
give-requires-clause-log g c =
    let begins = c.reserve-answer.ensures.steps.begins in (begins.0, begins.1 ∙ ap (λ (l : List Noted). l ++ begins.0) (sym c.take-common.ensures.log.0))

pub give-requires-clause-rows : goal.give-requires-clause-rows
give-requires-clause-rows g c = λ x lifted m other.
    c.reserve-answer.ensures.steps.others m (λ is. other (is ∙ sym c.take-common.ensures.same.1)) ∙ ap (λ x. own (events x.file.log) m) (some_same c.take-common.result x (sym c.take-common.ensures.turn.1 ∙ lifted))

pub invariant_of-peer : goal.invariant_of-peer
invariant_of-peer g c =
    let old = c.args.peer.now.pass.seat in
    let mid = c.take-common.new.pass in
    let new = c.give.new.pass in
    let taken = c.take-common.result.file in
    let laid = c.reserve-answer.new.self.file in
    record {
      rests = free_rest new.seat c.give.ensures.free;
      kept = turn_keeps mid.number new.number mid.seat new.seat laid.log laid.broken c.give.ensures.log c.give.ensures.rows c.give.ensures.same.1;
      started = turn_starts (λ c n. own (events c.file.log) n) old mid.seat new.seat (noted taken.log taken.broken) (noted laid.log laid.broken) c.take-common.ensures.log.1 c.reserve-answer.ensures.steps.begins c.give.ensures.log
          c.take-common.ensures.same.0.2 c.give.ensures.same.0.2 c.args.peer.now.started;
    }

pub returns-clause-serves : goal.returns-clause-serves
returns-clause-serves g c =
    let old = c.args.peer.now.pass in
    let mid = c.take-common.new.pass in
    let new = c.give.new.pass in
    let taken = c.take-common.result.file in
    let laid = c.reserve-answer.new.self.file in
    turn_serves old.number ask.Reserve (answer.Reserve c.reserve-answer.result) old.seat mid.seat new.seat taken laid (born_aim g.V.Vault taken (birth_of old.seat) c.take-common.ensures.birth)
    c.args.peer.now.kept c.take-common.ensures.row c.take-common.ensures.log.1 c.take-common.ensures.rows.0 c.take-common.ensures.same.0 c.reserve-answer.ensures.steps c.give.ensures.log
    (subst (λ k. owned_of new.seat ≡ (k, own (events laid.log) k) ∷ later (owned_of mid.seat)) c.take-common.ensures.same.1 c.give.ensures.rows) c.give.ensures.same.0

pub returns-clause-mark : goal.returns-clause-mark
returns-clause-mark g c =
    let taken = c.take-common.result.file in
    let laid = c.reserve-answer.new.self.file in
    turn_marks c.args.peer.now.pass.seat c.give.new.pass.seat taken.log laid.log taken.broken laid.broken c.reserve-answer.result c.take-common.ensures.log.1 c.give.ensures.log c.reserve-answer.ensures.marks
