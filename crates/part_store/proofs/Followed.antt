-- Why a record may follow: what is allowed after a log may follow its durable state.
use Rattle.std.proofs.Common.{◌≡◌, ℕ, ◌<◌, Bool, true, false, not, ◌&&◌, List, [], ◌∷◌, ◌++◌, Option, is_none, IsTrue, refl, sym, ap, ◌∙◌}
use Rattle.journal_core.specs.LogFile.{aim_of}
use Rattle.journal_core.specs.States.{MayFollow, after, is_full_in}
use Rattle.journal_core.specs.declared.record.Record.{Record}
use Rattle.journal_core.specs.declared.record.Record.TheVariants.{Set, Filled, Judged, Recovered, Dropped}
use Rattle.part_hashset.specs.declared.aim.Aim.{Aim}
use Rattle.part_sizes.specs.Part.{data_parts, part_range}
use Rattle.part_sizes.specs.Span.{has}
use Rattle.part_sizes.specs.declared.span.Span.{Span}
use Rattle.part_sizes.proofs.Positions.{find-positions_none}
use Rattle.part_store.specs.Durable.{durable}
use Rattle.part_store.specs.Outlasts.{header_of}
use Rattle.part_store.proofs.DurableSteps.{durable-commit, durable-dropped, durable-hashes, durable-recovered, durable-verdict}
use Rattle.reserve_core.specs.Filled.{AreUnsettled, is_durable, is_filled}
use Rattle.reserve_core.specs.Legal.{Allowed}
use Rattle.reserve_core.specs.declared.event.Event.{Event}
use Rattle.reserve_core.specs.declared.event.Event.TheVariants as event
use Rattle.reserve_core.proofs.Durable.{part-durable}

-- the record keeps the event: it may follow what is durable, and tells what is durable after the event
pub record Recorded (aim : Aim) (root : Option (List ℕ)) (h : List Event) (e : Event) (r : Record) : Type 0 where
  pub allowed : Allowed aim h e
  pub follows : MayFollow (aim_of (header_of aim root)) (durable aim.size h) r
  pub tells : durable aim.size (h ++ e ∷ []) ≡ after aim.size (durable aim.size h) r

pub recorded-hashes : (aim : Aim) (root : Option (List ℕ)) (h : List Event) (q : List (List ℕ)) → Allowed aim h (event.Hashes q) → Recorded aim root h (event.Hashes q) (Set q)
recorded-hashes aim root h q may = record {
  allowed = may;
  follows = (may.needed, may.none, may.valid);
  tells = durable-hashes aim.size h q;
}

undurable : (filled durable : Bool) → (filled && not durable) ≡ true → durable ≡ false
undurable true true is = absurd (cc)
undurable true false is = refl
undurable false durable is = absurd (cc)

pub recorded-commit : (aim : Aim) (root : Option (List ℕ)) (h : List Event) (spans : List Span) → Allowed aim h event.Commit → AreUnsettled aim.size h spans → Recorded aim root h event.Commit (Filled spans)
recorded-commit aim root h spans may are = record {
  allowed = may;
  follows = record {
    apart = are.apart;
    unfilled = λ x here. undurable (is_filled aim.size h x) (is_durable aim.size h x) (sym (are.each x) ∙ here);
  };
  tells = durable-commit aim.size h spans are;
}

full-durable : (n : ℕ) (h : List Event) (i : ℕ) → ((x : ℕ) → IsTrue (has (part_range n i) x) → is_durable n h x ≡ true) → is_full_in n (durable n h) i ≡ true
full-durable n h i each = ap is_none (find-positions_none (λ x. not (is_durable n h x)) (part_range n i) (λ x inside. ap not (each x inside)))

pub recorded-verdict : (aim : Aim) (root : Option (List ℕ)) (h : List Event) (i : ℕ) (d : List ℕ) → Allowed aim h (event.Verdict i d) → Recorded aim root h (event.Verdict i d) (Judged i d)
recorded-verdict aim root h i d may = record {
  allowed = may;
  follows = record {
    exists = may.exists;
    full = full-durable aim.size h i (λ x inside. part-durable aim.size i x h may.full may.committed inside);
    unjudged = may.unjudged;
    goal_known = may.goal_known;
  };
  tells = durable-verdict aim.size h i d;
}

pub recorded-dropped : (aim : Aim) (root : Option (List ℕ)) (h : List Event) (i : ℕ) → Allowed aim h (event.Dropped i) → Recorded aim root h (event.Dropped i) (Dropped i)
recorded-dropped aim root h i may = record {
  allowed = may;
  follows = (may.0, may.1);
  tells = durable-dropped aim.size h i;
}

pub recorded-recovered : (aim : Aim) (root : Option (List ℕ)) (h : List Event) (i : ℕ) (kept : List Bool) → i < data_parts aim.size → Allowed aim h (event.Recovered i kept) → Recorded aim root h (event.Recovered i kept) (Recovered i kept)
recorded-recovered aim root h i kept exists may = record {
  allowed = may;
  follows = (exists, may.failed, may.bits);
  tells = durable-recovered aim.size h i kept;
}
