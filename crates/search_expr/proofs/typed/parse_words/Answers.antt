use Rattle.std.proofs.Common.{◌≡◌, ◌<◌, ◌≤◌, ap, sym, ◌∙◌, arith, rules, Ok}
use Rattle.search_expr.specs.Typed.{pieces_from, terms}
use Rattle.search_expr.proofs.TypedLemmas.{parsed_many, parsed_whole}
use Rattle.search_expr.proofs.typed.parse_words.Goals as goal

pub returns-then-count-gt64 : goal.returns-then-count-gt64
returns-then-count-gt64 c some =
    parsed_many (pieces_from 0 c.args.text.now) (search rules) (search rules) (search rules) (search rules)

pub returns : goal.returns
returns c =
    parsed_whole (pieces_from 0 c.args.text.now) (search rules) (search rules) (search rules) (search rules) ∙ search rules
