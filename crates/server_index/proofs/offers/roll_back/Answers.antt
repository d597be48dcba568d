use Rattle.std.proofs.Common.{◌≡◌, ℕ, List, ◌∙◌, ◌++◌, sym, subst, refl, ap, [], arith}
use Rattle.std.specs.Prelude.{reverse, Option}
use Rattle.server_index.specs.Live.{File}
use Rattle.server_index.specs.Offers.{undone}
use Rattle.server_index.specs.Files.{IsSwept, file_at}
use Rattle.server_index.proofs.OfferLemmas.{back-undoable, back-undone, back-there, nil_from_length}
use Rattle.server_index.proofs.SweptLemmas.{swept_back}
use Rattle.server_index.proofs.offers.roll_back.Goals as goal

pub put_back-current-requires : goal.put_back-current-requires
put_back-current-requires c = record { there = back-there c.loop-spot.changes.items c.pop.new.self.items (c.in-Some.spot, c.in-Some.old) (file_at c.loop-spot.live.entries) _ c.in-Some.ensures.items (λ q. refl) c.loop-spot.invariant.0 }

pub loop-spot-preserved : goal.loop-spot-preserved
loop-spot-preserved c = (
  back-undoable c.loop-spot.changes.items c.pop.new.self.items (c.in-Some.spot, c.in-Some.old) (file_at c.loop-spot.live.entries) (file_at c.put_back-current.new.live.entries) c.in-Some.ensures.items c.put_back-current.ensures.replaced c.loop-spot.invariant.0,
  λ q. back-undone c.loop-spot.changes.items c.pop.new.self.items (c.in-Some.spot, c.in-Some.old) (file_at c.loop-spot.live.entries) (file_at c.put_back-current.new.live.entries) c.in-Some.ensures.items c.put_back-current.ensures.replaced q ∙ c.loop-spot.invariant.1 q,
  omega (arith, c.loop-spot.invariant.2, c.note.ensures.len, c.note.ensures.capacity, c.in-Some.ensures.cases),
  λ postings h. swept_back (file_at c.loop-spot.live.entries) (file_at c.put_back-current.new.live.entries) postings c.loop-spot.changes.items c.pop.new.self.items c.loop-spot.displaced.items c.note.new.displaced.items c.in-Some.spot c.in-Some.old c.put_back-current.result
      c.in-Some.ensures.items c.put_back-current.ensures.replaced c.put_back-current.ensures.gives c.note.ensures.noted (c.loop-spot.invariant.3 postings h),
)

pub returns : goal.returns
returns c =
    let e : c.loop-spot.changes.items ≡ [] = nil_from_length c.loop-spot.changes.items (omega (arith, c.in_default.ensures.cases.0)) in
    record { restored = λ q. ap (λ (l : List ((List ℕ × ℕ) × Option File)). undone (reverse l) (file_at c.loop-spot.live.entries) q) (sym e) ∙ c.loop-spot.invariant.1 q; noted = λ postings h. subst (λ (l : List ((List ℕ × ℕ) × Option File)). IsSwept c.loop-spot.live.entries postings (l ++ c.loop-spot.displaced.items)) e (c.loop-spot.invariant.3 postings h) }
