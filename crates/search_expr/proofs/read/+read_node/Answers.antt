use Rattle.std.proofs.Common.{◌≡◌, rules, arith, ◌<◌, ◌-◌, ap, sym, ◌∙◌, Ok, Err}
use Rattle.search_expr.specs.declared.read.Start.TheVariants as starts
use Rattle.search_expr.specs.Reading.{start_at, expr_at}
use Rattle.search_expr.proofs.ReadLemmas.{left_fault, right_fault, pair_read}
use Rattle.search_expr.proofs.read.+read_node.Goals as goal

pub returns-in-Err : goal.returns-in-Err
returns-in-Err t c some =
    let l : 0 < c.args.levels = omega arith in
    let r : 0 < c.args.room.now = omega arith in
    let s : start_at c.args.end c.args.bytes.now ≡ Ok (starts.Join c.in-Join.join, c.in_ok-start.rest.now) = search rules in
    left_fault c.args.end c.args.levels c.args.room.now c.args.bytes.now c.in_ok-start.rest.now c.in-Join.join c.in-Err.fault l r s (c.in-Err.ensures some)

pub returns-in-Err-read_node : goal.returns-in-Err-read_node
returns-in-Err-read_node t c some =
    let l : 0 < c.args.levels = omega arith in
    let r : 0 < c.args.room.now = omega arith in
    let s : start_at c.args.end c.args.bytes.now ≡ Ok (starts.Join c.in-Join.join, c.in_ok-start.rest.now) = search rules in
    right_fault c.args.end c.args.levels c.args.room.now _ c.args.bytes.now c.in_ok-start.rest.now _ c.in-Join.join _ c.in-Err-read_node.fault l r s c.in-Ok.ensures (c.in-Err-read_node.ensures some)

pub returns-in_ok-expr-in-Ok-read_node : goal.returns-in_ok-expr-in-Ok-read_node
returns-in_ok-expr-in-Ok-read_node t c =
    let l : 0 < c.args.levels = omega arith in
    let r : 0 < c.args.room.now = omega arith in
    let s : start_at c.args.end c.args.bytes.now ≡ Ok (starts.Join c.in-Join.join, c.in_ok-start.rest.now) = search rules in
    pair_read c.args.end c.args.levels c.args.room.now _ _ c.args.bytes.now c.in_ok-start.rest.now _ _ c.in-Join.join _ _ _ l r s c.in-Ok.ensures c.in-Ok-read_node.ensures c.in_ok-expr-in-Ok-read_node.ensures
