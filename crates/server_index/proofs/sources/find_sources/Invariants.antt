use Rattle.std.proofs.Common.{◌≡◌, ◌≤◌, ◌-◌, ◌++◌, length, take}
use Rattle.std.specs.Prelude.{filter, map}
use Rattle.std.specs.List.{AllByRecursion}
use Rattle.std.specs.List.Sorted.{IsStrictlySortedBy}
use Rattle.std.specs.Map.{keys_of}
use Rattle.std.specs.BTreeMap.Range.{IsLeBy}
use Rattle.server_index.specs.Order.{spot_cmp}
use Rattle.server_index.specs.Found as found
use Rattle.server_index.proofs.sources.find_sources.Given as goal

abbrev pub invariant-loop-spot : goal.invariant-loop-spot
invariant-loop-spot l =
    (goal.iterator-loop-spot).can_next l.spot-iterator ×
    (goal.iterator-loop-spot).is_finite l.spot-iterator ×
    (length l.out.items ≤ 255) ×
    IsStrictlySortedBy spot_cmp (keys_of l.spot-iterator) ×
    AllByRecursion (IsLeBy spot_cmp (l.hash, 0)) (keys_of l.spot-iterator) ×
    (l.out.items ++ map found.place_of (take (255 - length l.out.items) (filter (found.has_hash l.hash) l.spot-iterator)) ≡ found.sources l.hash l.files.live.entries)
