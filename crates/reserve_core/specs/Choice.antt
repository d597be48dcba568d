-- The choice of the ranges that a peer reserves.
use Rattle.std.specs.Prelude.{ℕ, ◌+◌, Bool, false, not, ◌&&◌, List, [], ◌∷◌, nat_eq, ◌==◌, get_or, take, length, Option, None, unwrap_or, find, if◌then◌else◌, count_by}
use Rattle.std.specs.Bool.{then_some}
use Rattle.std.specs.Option.{option_map}
use Rattle.std.specs.List.{list_any, filter, filter_map, flat_map, range_with_len}
use Rattle.part_sizes.specs.Block.{block_count, block_range}
use Rattle.part_sizes.specs.Span.{positions}
use Rattle.part_sizes.specs.declared.span.Span.{Span}
use Rattle.reserve_core.specs.Events.{latest}
use Rattle.reserve_core.specs.Filled.{is_filled}
use Rattle.reserve_core.specs.Held.{is_held}
use Rattle.reserve_core.specs.Verdicts.{parts}
use Rattle.reserve_core.specs.declared.event.Event.{Event}
use Rattle.reserve_core.specs.declared.event.Event.TheVariants.{Offer}

-- the newest offer of a peer
abbrev pub offer_by : ℕ → Event → Option (List Bool)
offer_by p (Offer q bits) = then_some (q == p) bits
offer_by p _ = None

abbrev pub offers_part : List Event → ℕ → ℕ → Bool
offers_part h p i = get_or (unwrap_or (latest (offer_by p) h) []) i false

-- the peers that ever offered, each once
abbrev pub add_offerer : Event → List ℕ → List ℕ
add_offerer (Offer p bits) peers = if list_any (nat_eq p) peers then peers else p ∷ peers
add_offerer _ peers = peers

abbrev pub offerers : List Event → List ℕ
offerers [] = []
offerers (e ∷ h) = add_offerer e (offerers h)

-- how many peers have the part in their newest offer
abbrev pub offer_count : List Event → ℕ → ℕ
offer_count h i = count_by (λ p. offers_part h p i) (offerers h)

-- the parts of the newest offer of a peer, by the number of peers that offer them, then by number
abbrev pub offered_parts : ℕ → List Event → ℕ → List ℕ
offered_parts n h p =
    flat_map
    (λ count. filter (λ i. offers_part h p i && (offer_count h i == count)) (parts n))
    (range_with_len 0 (length (offerers h) + 1))

-- from the least position of a span that passes to the least behind it that does not
abbrev pub run_from : (ℕ → Bool) → Span → ℕ → Span
run_from passes r start = record { s = start; e = unwrap_or (find (λ x. not (passes x)) (positions (record { s = start; e = r.e }))) r.e }

abbrev pub first_run : (ℕ → Bool) → Span → Option Span
first_run passes r = option_map (run_from passes r) (find passes (positions r))

-- neither filled nor held by anybody
abbrev pub is_available : ℕ → List Event → ℕ → Bool
is_available n h x = not (is_filled n h x) && not (is_held h x)

-- the first free run of each block of a part, upwards
abbrev pub runs_of : ℕ → List Event → ℕ → List Span
runs_of n h i = filter_map (λ k. first_run (is_available n h) (block_range n i k)) (range_with_len 0 (block_count n i))

-- the first three of these runs over the offered parts; nothing where the peer never offered
abbrev pub pick_of : ℕ → List Event → ℕ → List Span
pick_of n h p = take 3 (flat_map (runs_of n h) (offered_parts n h p))
