use Rattle.std.proofs.Common.{rules, ◌∙◌, sym, ap, List}
use Rattle.reserve_core.specs.Events.{events}
use Rattle.reserve_core.specs.declared.event.Entry.{Entry}
use Rattle.ed2k_node.specs.Report.{verified_count}
use Rattle.ed2k_node.proofs.get.take_apart.Goals as goal

pub returns-clause-apart : goal.returns-clause-apart
returns-clause-apart g c = record {
  verified = c.count_verified-verified.ensures ∙ ap (λ (log : List Entry). verified_count c.args.file.aim (events log)) (sym c.into_parts-vault.ensures.log);
  log = search rules;
  vault = search rules;
  made = search rules;
  legal = search rules;
  fits = search rules;
  placed = search rules;
  log_file = search rules;
  later = search rules;
  failed = search rules;
  works = search rules;
}
