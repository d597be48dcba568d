use Rattle.std.proofs.Common.{◌≡◌, ◌∷◌, refl, subst}
use Rattle.reserve_core.specs.Desk.{own}
use Rattle.reserve_core.specs.Events.{events}
use Rattle.reserve_core.specs.declared.desk.Answer.TheVariants as answer
use Rattle.reserve_core.specs.declared.desk.DeskAsk.TheVariants as ask
use Rattle.shared_file.proofs.NoteLemmas.{noted_same}
use Rattle.shared_file.proofs.Turns.{born_aim, free_rest, question_steps, turn_keeps, turn_serves, turn_starts}
use Rattle.shared_file.specs.Notes.{noted}
use Rattle.turn_lock.specs.Views.{birth_of, later, owned_of}
use Rattle.shared_file.proofs.shared_file.SharedFile.holds.Goals as goal

pub invariant_of-peer : goal.invariant_of-peer
invariant_of-peer g c =
    let old = c.args.peer.now.pass.seat in
    let mid = c.take-common.new.pass in
    let new = c.give.new.pass in
    let taken = c.take-common.result.file in
    record {
      rests = free_rest new.seat c.give.ensures.free;
      kept = turn_keeps mid.number new.number mid.seat new.seat taken.log taken.broken c.give.ensures.log c.give.ensures.rows c.give.ensures.same.1;
      started = turn_starts (λ c n. own (events c.file.log) n) old mid.seat new.seat (noted taken.log taken.broken) (noted taken.log taken.broken) c.take-common.ensures.log.1 (noted_same taken.log taken.broken) c.give.ensures.log
          c.take-common.ensures.same.0.2 c.give.ensures.same.0.2 c.args.peer.now.started;
    }

pub returns-clause-serves : goal.returns-clause-serves
returns-clause-serves g c =
    let old = c.args.peer.now.pass in
    let mid = c.take-common.new.pass in
    let new = c.give.new.pass in
    let taken = c.take-common.result.file in
    turn_serves old.number ask.Holds (answer.Holds c.holds-answer.result) old.seat mid.seat new.seat taken taken (born_aim g.V.Vault taken (birth_of old.seat) c.take-common.ensures.birth)
    c.args.peer.now.kept c.take-common.ensures.row c.take-common.ensures.log.1 c.take-common.ensures.rows.0 c.take-common.ensures.same.0
    (question_steps old.number ask.Holds (answer.Holds c.holds-answer.result) taken (c.holds-answer.ensures, refl)) c.give.ensures.log
    (subst (λ k. owned_of new.seat ≡ (k, own (events taken.log) k) ∷ later (owned_of mid.seat)) c.take-common.ensures.same.1 c.give.ensures.rows) c.give.ensures.same.0
