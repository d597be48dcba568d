use Rattle.std.proofs.Common.{◌≡◌, ℕ, ◌<◌, Bool, [], unwrap_or, List, nat_le, length, slice_index_or, ap, sym, subst, ◌∙◌, count_by}
use Rattle.std.specs.List.{list_any}
use Rattle.part_sizes.specs.Part.{data_parts}
use Rattle.reserve_core.specs.Choice.{offer_by, offers_part, pick_of}
use Rattle.reserve_core.specs.Events.{events, latest}
use Rattle.reserve_core.specs.Seen.{Seen}
use Rattle.reserve_core.specs.Free.{is_kept}
use Rattle.reserve_core.specs.declared.hold.Holder.{Holder}
use Rattle.reserve_core.specs.declared.offers.Offerer.{Offerer}
use Rattle.reserve_core.proofs.HoldersAfter.{kept-held}
use Rattle.reserve_core.proofs.Choosing.{core-picked, ok-more, parts-exist, same-counts}
use Rattle.reserve_core.proofs.core_state.Core.pick.Goals as goal

abbrev offer_bits : Seen → ℕ → List Bool
offer_bits v p = unwrap_or (latest (offer_by p) (events v.log)) []

pub pick-requires-clause-exist : goal.pick-requires-clause-exist
pick-requires-clause-exist c =
    ap (λ (ps : List ℕ). list_any (λ (i : ℕ). nat_le (data_parts c.self.inside.aim.size) i) ps) c.as_slice-2.ensures.value
    ∙ parts-exist (data_parts c.self.inside.aim.size) (length c.as_slice.result.now) c.in_ok-parts.parts.items
    (ap length c.as_slice.ensures.value ∙ c.in_ok-counts.ensures.len ∙ c.data_parts.ensures.value)
    c.in_ok-parts.ensures.numbers

pub returns : goal.returns
returns c =
    let inside = c.self.inside in
    let n = inside.aim.size in
    let counts = c.as_slice.result.now in
    let long : length counts ≡ data_parts n = ap length c.as_slice.ensures.value ∙ c.in_ok-counts.ensures.len ∙ c.data_parts.ensures.value in
    let each = subst (λ (cs : List ℕ). (i : ℕ) (d : ℕ) → i < data_parts n → slice_index_or cs i d ≡ count_by (λ (offer : Offerer). offers_part (events c.as_slice-log.result.now) offer.peer i) c.deref.result.now) (sym c.as_slice.ensures.value)
    (subst (λ (m : ℕ). (i : ℕ) (d : ℕ) → i < m → slice_index_or c.in_ok-counts.counts.items i d ≡ count_by (λ (offer : Offerer). offers_part (events c.as_slice-log.result.now) offer.peer i) c.deref.result.now) c.data_parts.ensures.value c.in_ok-counts.ensures.each) in
    let same = core-picked n inside.log.items inside.offers.items c.args.peer inside.filled.set c.deref-2.result.now counts c.as_slice-2.result.now c.bits-bits.result.now
    c.self.invariant.tells.filled (λ x. ap (λ (xs : List Holder). is_kept xs x) c.deref-2.ensures.value ∙ kept-held (events inside.log.items) inside.holders.items x c.self.invariant.held) c.self.invariant.offers long
    (same-counts (data_parts n) inside.log.items c.as_slice-log.result.now inside.offers.items c.deref.result.now counts c.as_slice-log.ensures.value c.deref.ensures.value each)
    (λ bound below. c.as_slice-2.ensures.value ∙ c.in_ok-parts.ensures.by_count bound below)
    (c.bits-bits.ensures ∙ sym (ap (λ (v : Seen). offer_bits v c.args.peer) c.self.view_is)) in
    ok-more _ _ c.pick.result (λ spans is. is ∙ same ∙ ap (λ (v : Seen). pick_of v.aim.size (events v.log) c.args.peer) c.self.view_is) c.pick.ensures
