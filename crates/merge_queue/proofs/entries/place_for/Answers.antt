use Rattle.std.proofs.Common.{leb, leb-true, leb-false, arith, rules}
use Rattle.std.proofs.lemmas.List.Sorted.{IsPartitionPoint-from_clause, IsPartitionedBy-leb}
use Rattle.merge_queue.proofs.entries.place_for.Goals as goal

pub returns-clause-before : goal.returns-clause-before
returns-clause-before c =
    let parted = IsPartitionedBy-leb (λ b. b) _ c.args.lba c.requires in
    let point = IsPartitionPoint-from_clause (λ b. leb b c.args.lba) _ _ c.partition_point.ensures.partitioned parted (λ a r q k. search rules) in
    λ k d h. leb-true _ _ (point.0 k d (omega arith) h)

pub returns-clause-after : goal.returns-clause-after
returns-clause-after c =
    let parted = IsPartitionedBy-leb (λ b. b) _ c.args.lba c.requires in
    let point = IsPartitionPoint-from_clause (λ b. leb b c.args.lba) _ _ c.partition_point.ensures.partitioned parted (λ a r q k. search rules) in
    λ k d h l. leb-false _ _ (point.1 k d h l)
