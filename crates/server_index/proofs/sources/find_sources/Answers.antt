use Rattle.std.proofs.Common.{◌≡◌, ◌<◌, ◌∙◌, sym, ap, List, ℕ, length, arith, take, true}
use Rattle.std.specs.Prelude.{filter, map}
use Rattle.std.proofs.lemmas.Bool.{not-true, not-false}
use Rattle.server_index.specs.Live.{File}
use Rattle.server_index.specs.Found as found
use Rattle.server_index.proofs.EntryLemmas.{sorted_filter}
use Rattle.server_index.proofs.SourceLemmas.{from_hash, hash_from, hash_inside, all_from, source_more, sources_end, sources_full, rest_sorted, rest_from, none_at}
use Rattle.server_index.proofs.sources.find_sources.Goals.{in-None, in-Some+then-ne, in-Some+else-ne+then-len-eq-MOST}
use Rattle.server_index.proofs.sources.find_sources.Goals as goal

pub loop-spot-init : goal.loop-spot-init
loop-spot-init c =
    let part : c.into_iter-spot-iterator.result ≡ filter (from_hash c.args.hash.now) c.args.files.now.live.entries = c.into_iter-spot-iterator.ensures.into_iter_gives ∙ c.range-spot-items.ensures.between tt in
    rw part (
      tt,
      tt,
      omega (arith, c.new-out.ensures.len),
      sorted_filter (from_hash c.args.hash.now) c.args.files.now.live.entries c.range-spot-items.ensures.ordered,
      all_from c.args.hash.now c.args.files.now.live.entries,
      rw c.new-out.ensures.items (ap (λ (l : List ((List ℕ × ℕ) × File)). map found.place_of (take 255 l)) (hash_inside c.args.hash.now (from_hash c.args.hash.now) (hash_from c.args.hash.now) c.args.files.now.live.entries)),
    )

pub loop-spot-preserved : goal.loop-spot-preserved
loop-spot-preserved c =
    let x : (List ℕ × ℕ) × File = (c.in-Some.spot.now, c.in-Some.file.now) in
    let full : length c.loop-spot.out.items < 255 = omega (arith, c.loop-spot.invariant.2, c.if-len-eq-MOST.false, c.len.ensures) in
    let has : found.has_hash c.args.hash.now x ≡ true = not-false _ (sym c.ne.ensures ∙ c.if-ne.false) in (
      tt,
      tt,
      omega (arith, full, c.in_ok-push.ensures.len),
      rest_sorted x c.loop-spot.spot-iterator c.next.new.self c.in-Some.ensures.steps c.loop-spot.invariant.3,
      rest_from c.args.hash.now x c.loop-spot.spot-iterator c.next.new.self c.in-Some.ensures.steps c.loop-spot.invariant.4,
      rw (c.in_ok-push.ensures.items, c.place.ensures) (source_more c.args.hash.now c.loop-spot.out.items x c.loop-spot.spot-iterator c.next.new.self _ full has c.in-Some.ensures.steps c.loop-spot.invariant.5),
    )

pub returns : goal.returns
returns c = elim c.match-next.branch [
  | in-None w ↦ sources_end c.args.hash.now c.loop-spot.out.items _ c.loop-spot.spot-iterator (ap (filter (found.has_hash c.args.hash.now)) w.in-None.ensures.steps.0) c.loop-spot.invariant.5
  | in-Some+then-ne w ↦ (let x : (List ℕ × ℕ) × File = (w.in-Some.spot.now, w.in-Some.file.now) in
      sources_end c.args.hash.now c.loop-spot.out.items _ c.loop-spot.spot-iterator (none_at c.args.hash.now x c.loop-spot.spot-iterator c.next.new.self w.in-Some.ensures.steps c.loop-spot.invariant.3 c.loop-spot.invariant.4 (not-true _ (sym w.ne.ensures ∙ w.if-ne.true))) c.loop-spot.invariant.5)
  | in-Some+else-ne+then-len-eq-MOST w ↦ sources_full c.args.hash.now c.loop-spot.out.items _ c.loop-spot.spot-iterator (omega (arith, w.len.ensures, w.if-len-eq-MOST.true)) c.loop-spot.invariant.5
]
