use Rattle.std.proofs.Common.{◌∙◌}
use Rattle.ed2k_link.proofs.Same.{text_writes, text_alone, text_fixed}
use Rattle.ed2k_link.proofs.print.print_link.Goals as goal

pub returns-clause-read_back : goal.returns-clause-read_back
returns-clause-read_back c =
    text_writes _ c.args.link.now (c.new.ensures ∙ c.in_ok-print_whole.ensures.written) c.in_ok-print_whole.ensures.read_back

pub returns-clause-alone : goal.returns-clause-alone
returns-clause-alone c =
    text_alone _ c.args.link.now (c.new.ensures ∙ c.in_ok-print_whole.ensures.written) c.in_ok-print_whole.ensures.read_back

pub returns-clause-fixed : goal.returns-clause-fixed
returns-clause-fixed c =
    text_fixed _ c.args.link.now (c.new.ensures ∙ c.in_ok-print_whole.ensures.written) c.in_ok-print_whole.ensures.read_back
