-- What each event makes of the durable state.
use Rattle.std.proofs.Common.{◌≡◌, ℕ, Bool, true, false, not, ◌&&◌, ◌||◌, ◌==◌, List, [], ◌∷◌, ◌++◌, Option, Some, None, unwrap_or, get_or, if◌then◌else◌, refl, sym, ap, ◌∙◌}
use Rattle.std.specs.Bool.{then_some}
use Rattle.std.specs.Option.{option_or}
use Rattle.journal_core.specs.States.{after}
use Rattle.journal_core.specs.declared.record.Record.TheVariants.{Set, Filled, Judged, Recovered, Dropped}
use Rattle.journal_core.proofs.Held.{alike-is}
use Rattle.part_sizes.specs.Block.{block_of}
use Rattle.part_sizes.specs.Part.{part_range}
use Rattle.part_sizes.specs.Span.{has}
use Rattle.part_sizes.specs.declared.span.Span.{Span}
use Rattle.part_store.specs.Durable.{durable}
use Rattle.reserve_core.specs.Events.{latest}
use Rattle.reserve_core.specs.Filled.{AreUnsettled, filled_by, is_commit, is_durable, is_filled, is_write, settled_events}
use Rattle.reserve_core.specs.Verdicts.{set_by, verdict_by, verdict_of}
use Rattle.reserve_core.specs.declared.event.Event.{Event}
use Rattle.reserve_core.specs.declared.event.Event.TheVariants as event
use Rattle.reserve_core.proofs.Durable.{durable-filled}
use Rattle.reserve_core.proofs.Fresh.{durable-quiet, settled-commit, settled-quiet, settled-write}
use Rattle.reserve_core.proofs.Latest.{latest-push, latest-told, set-same}
use Rattle.reserve_core.proofs.Quiet.{filled-same, verdict-same}

-- an event that says nothing of what is durable
pub record IsSilent (n : ℕ) (e : Event) : Type 0 where
  pub fills : (x : ℕ) → filled_by n x e ≡ None
  pub judges : (i : ℕ) → verdict_by i e ≡ None
  pub sets : set_by e ≡ None
  pub writes : is_write e ≡ false
  pub commits : is_commit e ≡ false

pub offer-silent : (n p : ℕ) (bits : List Bool) → IsSilent n (event.Offer p bits)
offer-silent n p bits = record { fills = λ x. refl; judges = λ i. refl; sets = refl; writes = refl; commits = refl }

pub reserve-silent : (n p : ℕ) (spans : List Span) → IsSilent n (event.Reserve p spans)
reserve-silent n p spans = record { fills = λ x. refl; judges = λ i. refl; sets = refl; writes = refl; commits = refl }

pub release-silent : (n p : ℕ) → IsSilent n (event.Release p)
release-silent n p = record { fills = λ x. refl; judges = λ i. refl; sets = refl; writes = refl; commits = refl }

-- an event that is silent leaves the durable state
pub durable-silent : (n : ℕ) (h : List Event) (e : Event) → IsSilent n e → durable n (h ++ e ∷ []) ≡ durable n h
durable-silent n h e silent = alike-is (durable n (h ++ e ∷ [])) (durable n h) (record {
  set = set-same h e silent.sets;
  filled = λ x. durable-quiet n h e x (silent.fills x) silent.writes silent.commits;
  verdict = λ i. verdict-same h e i (silent.judges i);
})

-- a Write does too, until a Commit follows it
pub durable-write : (n : ℕ) (h : List Event) (p : ℕ) (r : Span) → durable n (h ++ event.Write p r ∷ []) ≡ durable n h
durable-write n h p r = alike-is (durable n (h ++ event.Write p r ∷ [])) (durable n h) (record {
  set = set-same h (event.Write p r) refl;
  filled = λ x. ap (λ g. is_filled n g x) (settled-write h p r);
  verdict = λ i. verdict-same h (event.Write p r) i refl;
})

-- a Commit makes durable what is filled

with-rest : (filled durable : Bool) → (durable ≡ true → filled ≡ true) → filled ≡ (durable || (filled && not durable))
with-rest true true within = refl
with-rest true false within = refl
with-rest false true within = within refl
with-rest false false within = refl

commit-fills : (n : ℕ) (h : List Event) (x : ℕ) → is_durable n (h ++ event.Commit ∷ []) x ≡ is_filled n h x
commit-fills n h x = ap (λ g. is_filled n g x) (settled-commit h) ∙ filled-same n h event.Commit x refl

pub durable-commit : (n : ℕ) (h : List Event) (spans : List Span) → AreUnsettled n h spans → durable n (h ++ event.Commit ∷ []) ≡ after n (durable n h) (Filled spans)
durable-commit n h spans are = alike-is (durable n (h ++ event.Commit ∷ [])) (after n (durable n h) (Filled spans)) (record {
  set = set-same h event.Commit refl;
  filled = λ x.
      commit-fills n h x ∙ with-rest (is_filled n h x) (is_durable n h x) (durable-filled n h x)
      ∙ ap (λ b. is_durable n h x || b) (sym (are.each x));
  verdict = λ i. verdict-same h event.Commit i refl;
})

-- a set is kept
pub durable-hashes : (n : ℕ) (h : List Event) (q : List (List ℕ)) → durable n (h ++ event.Hashes q ∷ []) ≡ after n (durable n h) (Set q)
durable-hashes n h q = alike-is (durable n (h ++ event.Hashes q ∷ [])) (after n (durable n h) (Set q)) (record {
  set = ap (λ o. unwrap_or o []) (latest-told set_by h (event.Hashes q) q refl);
  filled = λ x. durable-quiet n h (event.Hashes q) x refl refl refl;
  verdict = λ i. verdict-same h (event.Hashes q) i refl;
})

-- what an event says of one part

verdict-said : (h : List Event) (e : Event) (i : ℕ) → verdict_of (h ++ e ∷ []) i ≡ unwrap_or (option_or (verdict_by i e) (latest (verdict_by i) h)) None
verdict-said h e i = ap (λ o. unwrap_or o None) (latest-push (verdict_by i) h e)

said-if : (own : Bool) (says : Option (List ℕ)) (before : Option (Option (List ℕ))) → unwrap_or (option_or (then_some own says) before) None ≡ (if own then says else unwrap_or before None)
said-if true says before = refl
said-if false says before = refl

-- an event that opens the positions that pass a test
opened-if : (here : Bool) (before : Option Bool) → unwrap_or (option_or (then_some here false) before) false ≡ (if here then false else unwrap_or before false)
opened-if true before = refl
opened-if false before = refl

durable-said : (n : ℕ) (h : List Event) (e : Event) (x : ℕ) → is_write e ≡ false → is_commit e ≡ false
    → is_durable n (h ++ e ∷ []) x ≡ unwrap_or (option_or (filled_by n x e) (latest (filled_by n x) (settled_events h))) false
durable-said n h e x write commit =
    ap (λ g. is_filled n g x) (settled-quiet h e write commit)
    ∙ ap (λ o. unwrap_or o false) (latest-push (filled_by n x) (settled_events h) e)

-- a part is judged
pub durable-verdict : (n : ℕ) (h : List Event) (i : ℕ) (d : List ℕ) → durable n (h ++ event.Verdict i d ∷ []) ≡ after n (durable n h) (Judged i d)
durable-verdict n h i d = alike-is (durable n (h ++ event.Verdict i d ∷ [])) (after n (durable n h) (Judged i d)) (record {
  set = set-same h (event.Verdict i d) refl;
  filled = λ x. durable-quiet n h (event.Verdict i d) x refl refl refl;
  verdict = λ j. verdict-said h (event.Verdict i d) j ∙ said-if (i == j) (Some d) (latest (verdict_by j) h);
})

-- a part is dropped
pub durable-dropped : (n : ℕ) (h : List Event) (i : ℕ) → durable n (h ++ event.Dropped i ∷ []) ≡ after n (durable n h) (Dropped i)
durable-dropped n h i = alike-is (durable n (h ++ event.Dropped i ∷ [])) (after n (durable n h) (Dropped i)) (record {
  set = set-same h (event.Dropped i) refl;
  filled = λ x. durable-said n h (event.Dropped i) x refl refl ∙ opened-if (has (part_range n i) x) (latest (filled_by n x) (settled_events h));
  verdict = λ j. verdict-said h (event.Dropped i) j ∙ said-if (i == j) None (latest (verdict_by j) h);
})

-- a part is recovered
pub durable-recovered : (n : ℕ) (h : List Event) (i : ℕ) (kept : List Bool) → durable n (h ++ event.Recovered i kept ∷ []) ≡ after n (durable n h) (Recovered i kept)
durable-recovered n h i kept = alike-is (durable n (h ++ event.Recovered i kept ∷ [])) (after n (durable n h) (Recovered i kept)) (record {
  set = set-same h (event.Recovered i kept) refl;
  filled = λ x.
      durable-said n h (event.Recovered i kept) x refl refl
      ∙ opened-if (has (part_range n i) x && not (get_or kept (block_of x) false)) (latest (filled_by n x) (settled_events h));
  verdict = λ j. verdict-said h (event.Recovered i kept) j ∙ said-if (i == j) None (latest (verdict_by j) h);
})
