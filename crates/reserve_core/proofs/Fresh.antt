-- What is durable after one more event, and what was written since the last commit.
use Rattle.std.proofs.Common.{◌≡◌, ℕ, Bool, true, false, not, ◌&&◌, ◌||◌, List, [], ◌∷◌, ◌++◌, None, unwrap_or, if◌then◌else◌, refl, ap, sym, ◌∙◌, arith}
use Rattle.std.specs.List.{list_any}
use Rattle.std.proofs.lemmas.List.Folds.{list_any-append}
use Rattle.part_sizes.specs.Part.{part_range}
use Rattle.part_sizes.specs.Span.{has}
use Rattle.part_sizes.specs.declared.span.Span.{Span}
use Rattle.reserve_core.specs.Filled.{filled_by, is_commit, is_durable, is_filled, is_write, settled_events}
use Rattle.reserve_core.specs.Tells.{IsUncommittedAt}
use Rattle.reserve_core.specs.declared.event.Event.{Event}
use Rattle.reserve_core.specs.declared.event.Event.TheVariants.{Commit, Dropped, Write}
use Rattle.reserve_core.proofs.Latest.{latest-still}

filled-same : (n : ℕ) (h : List Event) (e : Event) (x : ℕ) → filled_by n x e ≡ None → is_filled n (h ++ e ∷ []) x ≡ is_filled n h x
filled-same n h e x none = ap (λ o. unwrap_or o false) (latest-still (filled_by n x) h e none)

or_false : (b : Bool) → (b || false) ≡ b
or_false true = refl
or_false false = refl

same-commits : (h : List Event) (e : Event) → is_commit e ≡ false → list_any is_commit (h ++ e ∷ []) ≡ list_any is_commit h
same-commits h e none = list_any-append is_commit h (e ∷ []) ∙ ap (λ b. list_any is_commit h || (b || false)) none ∙ or_false (list_any is_commit h)

kept : (b : Bool) (e : Event) (xs ys zs : List Event) → xs ≡ ys ++ zs → (if b then xs else e ∷ xs) ≡ (if b then ys else e ∷ ys) ++ zs
kept true e xs ys zs same = same
kept false e xs ys zs same = ap (λ ks. e ∷ ks) same

pub settled-quiet : (h : List Event) (e : Event) → is_write e ≡ false → is_commit e ≡ false → settled_events (h ++ e ∷ []) ≡ settled_events h ++ e ∷ []
settled-quiet [] e write commit = rw write refl
settled-quiet (first ∷ h) e write commit =
    ap (λ b. if is_write first && not b then settled_events (h ++ e ∷ []) else first ∷ settled_events (h ++ e ∷ [])) (same-commits h e commit)
    ∙ kept (is_write first && not (list_any is_commit h)) first (settled_events (h ++ e ∷ [])) (settled_events h) (e ∷ []) (settled-quiet h e write commit)

skipped : (b : Bool) (e : Event) (xs ys : List Event) → xs ≡ ys → (if b then xs else e ∷ xs) ≡ (if b then ys else e ∷ ys)
skipped b e xs ys same = ap (λ ks. if b then ks else e ∷ ks) same

pub settled-write : (h : List Event) (p : ℕ) (r : Span) → settled_events (h ++ Write p r ∷ []) ≡ settled_events h
settled-write [] p r = refl
settled-write (first ∷ h) p r =
    ap (λ b. if is_write first && not b then settled_events (h ++ Write p r ∷ []) else first ∷ settled_events (h ++ Write p r ∷ [])) (same-commits h (Write p r) refl)
    ∙ skipped (is_write first && not (list_any is_commit h)) first (settled_events (h ++ Write p r ∷ [])) (settled_events h) (settled-write h p r)

or_true : (b : Bool) → (b || true) ≡ true
or_true true = refl
or_true false = refl

never : (b : Bool) → (b && not true) ≡ false
never true = refl
never false = refl

pub settled-commit : (h : List Event) → settled_events (h ++ Commit ∷ []) ≡ h ++ Commit ∷ []
settled-commit [] = refl
settled-commit (first ∷ h) =
    let some : list_any is_commit (h ++ Commit ∷ []) ≡ true = list_any-append is_commit h (Commit ∷ []) ∙ or_true (list_any is_commit h) in
    ap (λ b. if is_write first && not b then settled_events (h ++ Commit ∷ []) else first ∷ settled_events (h ++ Commit ∷ [])) some
    ∙ ap (λ b. if b then settled_events (h ++ Commit ∷ []) else first ∷ settled_events (h ++ Commit ∷ [])) (never (is_write first))
    ∙ ap (λ ks. first ∷ ks) (settled-commit h)

pub durable-quiet : (n : ℕ) (h : List Event) (e : Event) (x : ℕ) → filled_by n x e ≡ None → is_write e ≡ false → is_commit e ≡ false → is_durable n (h ++ e ∷ []) x ≡ is_durable n h x
durable-quiet n h e x none write commit = ap (λ g. is_filled n g x) (settled-quiet h e write commit) ∙ filled-same n (settled_events h) e x none

-- an event that neither touches a position nor commits
pub fresh-quiet : (n : ℕ) (h : List Event) (e : Event) (x : ℕ) (fresh : Bool) → filled_by n x e ≡ None → is_write e ≡ false → is_commit e ≡ false
    → IsUncommittedAt fresh (is_filled n h x) (is_durable n h x) → IsUncommittedAt fresh (is_filled n (h ++ e ∷ []) x) (is_durable n (h ++ e ∷ []) x)
fresh-quiet n h e x fresh none write commit was =
    rw (filled-same n h e x none, durable-quiet n h e x none write commit) was

pub fresh-commit : (n : ℕ) (h : List Event) (x : ℕ) (fresh : Bool) → fresh ≡ false → IsUncommittedAt fresh (is_filled n (h ++ Commit ∷ []) x) (is_durable n (h ++ Commit ∷ []) x)
fresh-commit n h x fresh none =
    rw (none, ap (λ g. is_filled n g x) (settled-commit h)) (whole (is_filled n (h ++ Commit ∷ []) x))
  where
    whole : (filled : Bool) → IsUncommittedAt false filled filled
    whole true = record { is = refl; within = λ e. e }
    whole false = record { is = refl; within = λ e. e }

fresh_more : (fresh filled durable here : Bool) → IsUncommittedAt fresh filled durable → (here ≡ true → filled ≡ false) → IsUncommittedAt (fresh || here) (filled || here) durable
fresh_more fresh filled durable here was out =
    let a = was.is in let b = was.within in record { is = grind arith; within = λ d. grind arith }

pub fresh-write : (n : ℕ) (h : List Event) (p x : ℕ) (r : Span) (fresh : Bool) → (is_filled n h x || has r x) ≡ is_filled n (h ++ Write p r ∷ []) x → (has r x ≡ true → is_filled n h x ≡ false)
    → IsUncommittedAt fresh (is_filled n h x) (is_durable n h x) → IsUncommittedAt (fresh || has r x) (is_filled n (h ++ Write p r ∷ []) x) (is_durable n (h ++ Write p r ∷ []) x)
fresh-write n h p x r fresh filled out was =
    rw (sym filled, ap (λ g. is_filled n g x) (settled-write h p r)) (fresh_more fresh (is_filled n h x) (is_durable n h x) (has r x) was out)

fresh_less : (fresh filled durable here : Bool) → IsUncommittedAt fresh filled durable → IsUncommittedAt (fresh && not here) (filled && not here) (durable && not here)
fresh_less fresh filled durable here was =
    let a = was.is in let b = was.within in record { is = grind arith; within = λ d. grind arith }

-- the filled and the durable positions of a part are opened alike
pub fresh-drop : (n : ℕ) (h : List Event) (i x : ℕ) (fresh : Bool) → ((g : List Event) → (is_filled n g x && not (has (part_range n i) x)) ≡ is_filled n (g ++ Dropped i ∷ []) x)
    → IsUncommittedAt fresh (is_filled n h x) (is_durable n h x) → IsUncommittedAt (fresh && not (has (part_range n i) x)) (is_filled n (h ++ Dropped i ∷ []) x) (is_durable n (h ++ Dropped i ∷ []) x)
fresh-drop n h i x fresh cut was =
    rw (sym (cut h), ap (λ g. is_filled n g x) (settled-quiet h (Dropped i) refl refl) ∙ sym (cut (settled_events h))) (fresh_less fresh (is_filled n h x) (is_durable n h x) (has (part_range n i) x) was)
