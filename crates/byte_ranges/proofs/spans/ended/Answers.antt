use Rattle.std.proofs.Common.{◌≤◌, ◌<◌, ltb, ltb-true, ltb-false, rules}
use Rattle.std.proofs.lemmas.List.Sorted.{IsPartitionPoint-from_clause, IsPartitionedBy-ltb}
use Rattle.byte_ranges.proofs.Apart.{ends_ascend}
use Rattle.byte_ranges.proofs.Each.{each_take, each_drop}
use Rattle.byte_ranges.proofs.spans.ended.Goals as goal

pub returns-clause-before : goal.returns-clause-before
returns-clause-before c =
    let parted = IsPartitionedBy-ltb (λ q. q.e) _ c.args.position (ends_ascend 0 c.requires.0 _ c.requires.1) in
    let point = IsPartitionPoint-from_clause (λ q. ltb q.e c.args.position) _ _ c.partition_point.ensures.partitioned parted (λ a r q k. search rules) in
    each_take (λ q. q.e < c.args.position) _ _ (λ k d low high. ltb-true _ _ (point.0 k d low high))

pub returns-clause-behind : goal.returns-clause-behind
returns-clause-behind c =
    let parted = IsPartitionedBy-ltb (λ q. q.e) _ c.args.position (ends_ascend 0 c.requires.0 _ c.requires.1) in
    let point = IsPartitionPoint-from_clause (λ q. ltb q.e c.args.position) _ _ c.partition_point.ensures.partitioned parted (λ a r q k. search rules) in
    each_drop (λ q. c.args.position ≤ q.e) _ _ (λ k d low high. ltb-false _ _ (point.1 k d low high))
