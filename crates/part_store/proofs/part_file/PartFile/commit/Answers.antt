use Rattle.std.proofs.Common.{ap, refl, sym, ◌&&◌, is_ok}
use Rattle.reserve_core.specs.Events.{events}
use Rattle.reserve_core.specs.Filled.{is_uncommitted}
use Rattle.reserve_core.specs.declared.event.Event.TheVariants as event
use Rattle.part_store.proofs.Kept.{keeps-silent, keeps-asked, keeps-vault, body-same, clean-of}
use Rattle.part_store.proofs.Logs.{identity-same}
use Rattle.part_store.specs.Body.{log_of}
use Rattle.part_store.proofs.part_file.PartFile.commit.Goals as goal

pub invariant_of-self-2 : goal.invariant_of-self-2
invariant_of-self-2 g c =
    let kept = keeps-vault c.self.invariant c.sync.ensures.cause.later c.sync.ensures.made.later (identity-same c.sync.ensures.honest c.sync.ensures.placed (ap log_of c.sync.ensures.files)) (body-same _ _ _ _ _ c.sync.ensures.files c.self.invariant.body) (λ works. clean-of c.sync.result (sym c.if-is_err.ensures.value) c.sync.ensures.clean) in
    let asked = keeps-asked kept c.ready_commit.ensures.aim c.ready_commit.ensures.log in
    keeps-silent event.Commit (is_ok c.commit.result && is_uncommitted (events c.ready_commit.new.self.log)) asked c.commit.ensures.aim c.calls.ensures (λ j. refl) c.commit.ensures.log
