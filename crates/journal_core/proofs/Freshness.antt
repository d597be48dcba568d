-- A fresh log stays fresh until its header's gate is opened.
use Rattle.std.proofs.Common.{◌≡◌, ℕ, ◌+◌, ◌≤◌, List, [], ◌∷◌, ◌++◌, length, Option, Some, None, IfSome, refl, sym, ap, ◌∙◌, subst, inl, inr, arith, append_assoc, append-nil, length-append}
use Rattle.std.proofs.lemmas.List.{drop_all}
use Rattle.ed2k_outside.specs.Crashes.{CrashView, Crashes, IsDurable, Stays, Stretched, TellsImage, Torn}
use Rattle.ed2k_outside.specs.Files.{Files, InFile, overwritten}
use Rattle.ed2k_outside.specs.Runs.{Ran}
use Rattle.ed2k_outside.specs.declared.vault.Which.TheVariants.{Body, Log}
use Rattle.ed2k_outside.proofs.Runs.{ran-now, ran-on, ran-start}
use Rattle.journal_core.specs.Appends.{IsMeant, MayHave, body_of, log_of}
use Rattle.journal_core.specs.Fresh.{EndsFields, FreshOrEmpty, IsFresh, KeepsLog, StaysFresh}
use Rattle.journal_core.specs.Gates.{EndsAt, Grown}
use Rattle.journal_core.specs.Headers.{AreFields, magic}
use Rattle.journal_core.specs.LogFile.{Stands}
use Rattle.journal_core.specs.States.{nothing}
use Rattle.journal_core.specs.declared.header.Header.{Header}
use Rattle.journal_core.proofs.Adding.{durable-log}

-- at most nine bytes stay at most nine

torn-short : (old new : List ℕ) → length old ≤ 9 → Torn 0 9 old new → length new ≤ 9
torn-short old new short torn = omega (arith, torn.no_longer, short)

stretched-short : (old new : List ℕ) → length old ≤ 9 → Stretched 9 old new → length new ≤ 9
stretched-short old new short step = omega (arith, step.no_longer, short)

pub written-front : (old : List ℕ) → length old ≤ 9 → overwritten old 0 (magic ++ 0 ∷ []) ≡ magic ++ 0 ∷ []
written-front old short = ap (λ (l : List ℕ). (magic ++ 0 ∷ []) ++ l) (drop_all 9 old short)

-- the header's record: where its gate is open, the log stands for the empty store
pub stands-new : (h : Header) (text log : List ℕ) → AreFields h text → Grown magic text log → Stands h log nothing
stands-new h text log fields grown = record {
  records = [];
  gate = length ((magic ++ 1 ∷ text) ++ []);
  holds = record {
    head = magic ++ 1 ∷ text;
    front = [];
    tail = grown.tail;
    is_head = (text, fields, refl);
    spelled = refl;
    closed = grown.closed;
    at = refl;
    whole = grown.whole ∙ sym (append_assoc magic (1 ∷ text) grown.tail) ∙ ap (λ (l : List ℕ). l ++ grown.tail) (sym (append-nil (magic ++ 1 ∷ text)));
  };
  legal = tt;
  state = refl;
}

pub new-gate : (h : Header) (text log : List ℕ) (fields : AreFields h text) (grown : Grown magic text log) → 8 + (length text + 1) ≡ (stands-new h text log fields grown).gate
unfolding stands-new
new-gate h text log fields grown = omega (arith, length-append (magic ++ 1 ∷ text) [], length-append magic (1 ∷ text))

-- what the last step of a creation may leave: it is an append at the header's gate
pub made-or-fresh : (h : Header) (text : List ℕ) (view : CrashView) → AreFields h text → ((d : Files) → view.image d → length d.body ≡ h.size)
    → (c : Files) → MayHave view magic text c → FreshOrEmpty h c
made-or-fresh h text view fields sized c left = elim left.log [
  | inl ends ↦ inl (inr ends)
  | inr grown ↦ inr (stands-new h text c.log fields grown, ap length left.body ∙ sized left.was left.there)
]

-- the calls of a beginning

module _ (made : ℕ) (old : CrashView) where
  pub begin-none : ((c : Files) → old.image c → IsFresh c.log) → Ran made old old (StaysFresh old) (StaysFresh old)
  begin-none fresh = ran-start made old (StaysFresh old) (StaysFresh old) (λ c left. record { was = c; there = left; body = refl; log = fresh c left })

  pub fresh-stays : (later : ℕ) (mid new : CrashView) → Ran made old mid (StaysFresh old) (StaysFresh old) → made ≤ later
      → Crashes Stays later mid new → Ran made old new (StaysFresh old) (StaysFresh old)
  fresh-stays later mid new so le call = ran-on so le call (λ c d b same. subst (StaysFresh old) (sym same) b) (λ c b. b)

  pub fresh-written : (later : ℕ) (mid new : CrashView) → Ran made old mid (StaysFresh old) (StaysFresh old) → made ≤ later
      → ((c : Files) → mid.image c → length c.log ≤ 9) → Crashes (InFile Log (Torn 0 9)) later mid new
      → Ran made old new (StaysFresh old) (λ c. StaysFresh old c × (length c.log ≤ 9))
  fresh-written later mid new so le short call =
      let here : Ran made old mid (StaysFresh old) (λ c. StaysFresh old c × (length c.log ≤ 9)) = ran-now so (λ c left b. (b, short c left)) in
      ran-on here le call (λ c d b torn. let less = torn-short d.log c.log b.1 torn.0 in (record { was = (b.0).was; there = (b.0).there; body = torn.1 ∙ (b.0).body; log = inl less }, less)) (λ c b. b.0)

  pub fresh-cut : (later : ℕ) (mid new : CrashView) → Ran made old mid (StaysFresh old) (λ c. StaysFresh old c × (length c.log ≤ 9)) → made ≤ later
      → Crashes (InFile Log (Stretched 9)) later mid new → Ran made old new (StaysFresh old) (λ c. StaysFresh old c × (length c.log ≤ 9))
  fresh-cut later mid new so le call =
      ran-on so le call (λ c d b step. let less = stretched-short d.log c.log b.1 step.0 in (record { was = (b.0).was; there = (b.0).there; body = step.1 ∙ (b.0).body; log = inl less }, less)) (λ c b. b.0)

  pub fresh-only : (new : CrashView) → Ran made old new (StaysFresh old) (λ c. StaysFresh old c × (length c.log ≤ 9)) → Ran made old new (StaysFresh old) (StaysFresh old)
  fresh-only new so = ran-now so (λ c left b. b.0)

  -- the calls that size the body
  pub sizing : (n : ℕ) (new : CrashView) → Crashes (InFile Body (Stretched n)) made old new → Ran made old new (KeepsLog old) (KeepsLog old)
  sizing n new call =
      ran-on (ran-start made old (KeepsLog old) (KeepsLog old) (λ c left. record { was = c; there = left; log = refl })) (omega arith) call
      (λ c d b step. record { was = b.was; there = b.there; log = step.1 ∙ b.log }) (λ c b. b)

  pub sized-stays : (later : ℕ) (mid new : CrashView) → Ran made old mid (KeepsLog old) (KeepsLog old) → made ≤ later
      → Crashes Stays later mid new → Ran made old new (KeepsLog old) (KeepsLog old)
  sized-stays later mid new so le call = ran-on so le call (λ c d b same. subst (KeepsLog old) (sym same) b) (λ c b. b)

-- by the logs that are told

pub told-fresh : (files : Option Files) (view : CrashView) → TellsImage files view → IsDurable Log files view → IfSome files (λ f. IsFresh f.log)
    → (c : Files) → view.image c → IsFresh c.log
told-fresh files view = durable-log files view IsFresh

stays-image : {made : ℕ} {old new : CrashView} → Crashes Stays made old new → (c : Files) → new.image c → old.image c
stays-image {old = old} call c left = let from = call.image c left in subst old.image (sym (from.2)) from.1

long-short : (files : Option Files) (n : ℕ) → IfSome files (λ f. n ≡ length f.log) → n ≤ 9 → IfSome files (λ f. length f.log ≤ 9)
long-short None n long short = tt
long-short (Some f) n long short = omega (arith, long, short)

-- a length that was asked for is that of each log that a crash leaves
pub told-short : {made : ℕ} (files : Option Files) (old new : CrashView) (n : ℕ) → TellsImage files old → IsDurable Log files old
    → IfSome files (λ f. n ≡ length f.log) → n ≤ 9 → Crashes Stays made old new → (c : Files) → new.image c → length c.log ≤ 9
told-short files old new n tells durable long short call c left =
    durable-log files old (λ log. length log ≤ 9) tells durable (long-short files n long short) c (stays-image call c left)

-- a call that stays leaves the durable log as it was
pub durable-stays : {made : ℕ} (old new : Option Files) (view next : CrashView) → new ≡ old → Crashes Stays made view next
    → IsDurable Log old view → IsDurable Log new next
durable-stays old new view next same call durable c left =
    subst (λ (o : Option Files). IfSome o (λ f. c.log ≡ f.log)) (sym same) (durable c (stays-image call c left))

-- what is kept of a fresh log is fresh
pub kept-fresh : (view : CrashView) (h : Header) → ((d : Files) → view.image d → IsFresh d.log) → (c : Files) → KeepsLog view c → FreshOrEmpty h c
kept-fresh view h fresh c k = inl (subst IsFresh (sym k.log) (fresh k.was k.there))

pub stays-fresh : (view : CrashView) (h : Header) (c : Files) → StaysFresh view c → FreshOrEmpty h c
stays-fresh view h c s = inl s.log

-- a log that the vault tells as before is as it was
pub log-same : (P : List ℕ → Type 0) (old new : Option Files) → log_of new ≡ log_of old → IfSome old (λ f. P f.log) → IfSome new (λ f. P f.log)
log-same P old None same has = tt
log-same P None (Some now) same has = absurd (cc)
log-same P (Some f) (Some now) same has = let is : now.log ≡ f.log = cc in subst P (sym is) has

pub log-durable : (old new : Option Files) (view next : CrashView) → log_of new ≡ log_of old → ((c : Files) → next.image c → KeepsLog view c)
    → IsDurable Log old view → IsDurable Log new next
log-durable old None view next same kept durable c left = tt
log-durable None (Some now) view next same kept durable c left = absurd (cc)
log-durable (Some f) (Some now) view next same kept durable c left =
    let k = kept c left in
    let is : now.log ≡ f.log = cc in
    k.log ∙ durable k.was k.there ∙ sym is

pub body-sized : (files : Option Files) (view next : CrashView) (n : ℕ) → TellsImage files view → IsDurable Body files view
    → IfSome files (λ f. length f.body ≡ n) → ((c : Files) → next.image c → StaysFresh view c) → (d : Files) → next.image d → length d.body ≡ n
body-sized None view next n tells durable sized kept d left = absurd tells
body-sized (Some f) view next n tells durable sized kept d left = let k = kept d left in ap length (k.body ∙ durable k.was k.there) ∙ sized

pub body-same : (n : ℕ) (old new : Option Files) → body_of new ≡ body_of old → IfSome old (λ f. length f.body ≡ n) → IfSome new (λ f. length f.body ≡ n)
body-same n old None same has = tt
body-same n None (Some now) same has = absurd (cc)
body-same n (Some f) (Some now) same has = let is : now.body ≡ f.body = cc in ap length is ∙ has

pub meant-magic : (h : Header) (spelled : List ℕ) (files : Option Files) (fields : EndsFields h spelled)
    → IfSome files (λ f. EndsAt magic f.log) → IsMeant 8 spelled files magic fields.0
meant-magic h spelled files fields ends = record { at = refl; closed = fields.2; ends = ends }

pub stands-told : (h : Header) (spelled : List ℕ) (gate : ℕ) (files : Option Files) (fields : EndsFields h spelled) → gate ≡ 8 + length spelled
    → IfSome files (λ f. Grown magic fields.0 f.log) → IfSome files (λ f. (st : Stands h f.log nothing) × (gate ≡ st.gate))
stands-told h spelled gate None fields at grown = tt
stands-told h spelled gate (Some f) fields at grown =
    (stands-new h fields.0 f.log fields.1 grown, at ∙ ap (λ (n : ℕ). 8 + n) (ap length fields.2 ∙ length-append fields.0 (0 ∷ [])) ∙ new-gate h fields.0 f.log fields.1 grown)
