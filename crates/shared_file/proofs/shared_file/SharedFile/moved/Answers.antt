use Rattle.std.proofs.Common.{◌≡◌, ◌∷◌, List, sym, ap, ◌∙◌, subst}
use Rattle.reserve_core.specs.Moved.{moved}
use Rattle.part_hashset.specs.declared.aim.Aim.{Aim}
use Rattle.reserve_core.specs.Desk.{own}
use Rattle.reserve_core.specs.Events.{events}
use Rattle.reserve_core.specs.declared.event.Entry.{Entry}
use Rattle.shared_file.proofs.NoteLemmas.{noted_same}
use Rattle.shared_file.proofs.Turns.{born_aim, free_rest, seen_is, turn_keeps, turn_looks, turn_starts}
use Rattle.shared_file.specs.Notes.{noted}
use Rattle.shared_file.specs.Peers.{wanted_of}
use Rattle.turn_lock.specs.Views.{birth_of, later, owned_of}
use Rattle.shared_file.proofs.shared_file.SharedFile.moved.Goals as goal

pub invariant_of-peer : goal.invariant_of-peer
invariant_of-peer g c =
    let old = c.args.peer.now.pass.seat in
    let mid = c.take-common.new.pass in
    let new = c.give.new.pass in
    let taken = c.take-common.result.file in
    record {
      rests = free_rest new.seat c.give.ensures.free;
      kept = turn_keeps mid.number new.number mid.seat new.seat taken.log taken.broken c.give.ensures.log c.give.ensures.rows c.give.ensures.same.1;
      started = turn_starts (λ c n. own (events c.file.log) n) old mid.seat new.seat (noted taken.log taken.broken) (noted taken.log taken.broken) c.take-common.ensures.log.1 (noted_same taken.log taken.broken) c.give.ensures.log
          c.take-common.ensures.same.0.2 c.give.ensures.same.0.2 c.args.peer.now.started;
    }

pub returns-clause-moved : goal.returns-clause-moved
returns-clause-moved g c =
    let taken = c.take-common.result.file in
    let wanted = born_aim g.V.Vault taken (birth_of c.args.peer.now.pass.seat) c.take-common.ensures.birth in
    let seen = sym (seen_is c.give.new.pass.seat taken.log taken.broken c.give.ensures.log) in
    c.moved-answer.ensures ∙ (ap (λ (aim : Aim). moved aim (events taken.log) c.args.from) wanted ∙ ap (λ (log : List Entry). moved (wanted_of c.args.peer.now.pass.seat) (events log) c.args.from) seen)

pub returns-clause-looks : goal.returns-clause-looks
returns-clause-looks g c =
    let old = c.args.peer.now.pass in
    let mid = c.take-common.new.pass in
    let new = c.give.new.pass in
    let taken = c.take-common.result.file in
    turn_looks old.number old.seat mid.seat new.seat taken.log taken.broken
    c.args.peer.now.kept c.take-common.ensures.row c.take-common.ensures.log.1 c.take-common.ensures.rows.0 c.take-common.ensures.same.0 c.give.ensures.log
    (subst (λ k. owned_of new.seat ≡ (k, own (events taken.log) k) ∷ later (owned_of mid.seat)) c.take-common.ensures.same.1 c.give.ensures.rows) c.give.ensures.same.0
