use Rattle.std.proofs.Common.{arith, rules}
use Rattle.std.proofs.lemmas.Grind.{common_steps}
use Rattle.std.proofs.lemmas.List.FromFn.{length-map-range_with_len}
use Rattle.peer_fetch.proofs.machine.FetchCore.file_status.Goals as goal

pub ask-requires : goal.ask-requires
ask-requires c = record {
  asking = search rules;
  table_cause = search rules;
  part = search rules;
  offer = search rules;
  on = search rules;
  end = search rules;
  may = grind (arith, common_steps, length-map-range_with_len);
}
