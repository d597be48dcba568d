-- An event that says nothing of what is kept.
use Rattle.std.proofs.Common.{◌≡◌, ℕ, ◌+◌, ◌*◌, ◌≤◌, Bool, true, false, ◌==◌, List, [], ◌∷◌, ◌++◌, length, Option, None, unwrap_or, is_none, IsFalse, if◌then◌else◌, refl, ap, sym, ◌∙◌, subst, arith, zero, suc, length-append}
use Rattle.std.specs.FinSet.{contains}
use Rattle.std.specs.List.{All, filter, list_any}
use Rattle.std.proofs.lemmas.Bool.Decides.{nat_tests}
use Rattle.std.proofs.lemmas.List.{append-nil, get_or_append_left}
use Rattle.byte_ranges.specs.RangeSet.{RangeSet}
use Rattle.part_hashset.specs.declared.aim.Aim.{Aim}
use Rattle.part_sizes.specs.Part.{data_parts, hash_count}
use Rattle.part_sizes.specs.Span.{has}
use Rattle.part_sizes.specs.declared.span.Span.{Span}
use Rattle.reserve_core.specs.Events.{events}
use Rattle.reserve_core.specs.Filled.{filled_by, is_commit, is_filled, is_full, is_write, open_by, open_in_by, is_part_uncommitted}
use Rattle.reserve_core.specs.Held.{is_release, written_by, reserved_by, reserved_holds, holds_of, is_held, is_open, range_of}
use Rattle.reserve_core.specs.Holders.{HoldersStand}
use Rattle.reserve_core.specs.Seen.{added}
use Rattle.reserve_core.specs.Tells.{Sits, Tells, due, dues, sum_over, HasRoom, SetStands, set_in, has_entry, is_recovered, is_verdict}
use Rattle.part_hashset.specs.Goals.{is_nil}
use Rattle.reserve_core.specs.Verdicts.{set_by, kept_set, verdict_by, verdict_of, is_failed}
use Rattle.reserve_core.specs.declared.event.Entry.{Entry}
use Rattle.reserve_core.specs.declared.event.Event.{Event}
use Rattle.reserve_core.specs.declared.hold.Hold.{Hold}
use Rattle.reserve_core.specs.declared.hold.Holder.{Holder}
use Rattle.reserve_core.specs.declared.part_state.PartState.{PartState}
use Rattle.reserve_core.specs.Steps.{stepped}
use Rattle.reserve_core.proofs.Counted.{any-quiet, failures-same}
use Rattle.reserve_core.proofs.Fresh.{fresh-quiet}
use Rattle.reserve_core.proofs.HoldsAfter.{holds-push, stepped_same}
use Rattle.reserve_core.proofs.Latest.{latest-still, events-added, set-same}

-- the ranges stay
pub record Holds (e : Event) : Type 0 where
  pub kept : (p : ℕ) → is_release p e ≡ false
  pub still : (p : ℕ) (r : Span) → written_by p r e ≡ None
  pub none : reserved_by e [] ≡ []

pub holds-same : (h : List Event) (e : Event) → Holds e → holds_of (h ++ e ∷ []) ≡ holds_of h
holds-same h e same =
    holds-push h e
    ∙ ap (λ ks. stepped e (holds_of h) ++ filter is_open ks) same.none
    ∙ append-nil (stepped e (holds_of h))
    ∙ stepped_same e same.kept same.still (reserved_holds h)

pub filled-same : (n : ℕ) (h : List Event) (e : Event) (x : ℕ) → filled_by n x e ≡ None → is_filled n (h ++ e ∷ []) x ≡ is_filled n h x
filled-same n h e x none = ap (λ o. unwrap_or o false) (latest-still (filled_by n x) h e none)

pub verdict-same : (h : List Event) (e : Event) (i : ℕ) → verdict_by i e ≡ None → verdict_of (h ++ e ∷ []) i ≡ verdict_of h i
verdict-same h e i none = ap (λ o. unwrap_or o None) (latest-still (verdict_by i) h e none)

pub open_in-same : (n : ℕ) (h : List Event) (e : Event) (i : ℕ) → open_in_by n i e ≡ None → is_part_uncommitted n (h ++ e ∷ []) i ≡ is_part_uncommitted n h i
open_in-same n h e i none = ap (λ o. unwrap_or o false) (latest-still (open_in_by n i) h e none)

pub state-is : (v w : Option (List ℕ)) (b c : Bool) (m n : ℕ) → v ≡ w → b ≡ c → m ≡ n → (let s : PartState = record { verdict = v; uncommitted = b; failures = m } in s) ≡ (let s : PartState = record { verdict = w; uncommitted = c; failures = n } in s)
state-is v w b c m n same alike often = rw (same, alike, often) refl

-- nothing that is kept changes
pub record Quiet (n : ℕ) (e : Event) : Type 0 where
  pub filled : (x : ℕ) → filled_by n x e ≡ None
  pub verdict : (i : ℕ) → verdict_by i e ≡ None
  pub part : (i : ℕ) → open_in_by n i e ≡ None
  pub all : open_by e ≡ None
  pub holds : Holds e
  pub write : is_write e ≡ false
  pub commit : is_commit e ≡ false
  pub set : set_by e ≡ None
  pub judged : is_verdict e ≡ false
  pub recovered : is_recovered e ≡ false

pub held-same : (h : List Event) (e : Event) → Holds e → (x : ℕ) → is_held (h ++ e ∷ []) x ≡ is_held h x
held-same h e same x = ap (list_any (λ hold. has (range_of hold) x)) (holds-same h e same)

pub sits-same : (n : ℕ) (h : List Event) (e : Event) → Holds e → All (Sits n) (holds_of h) → All (Sits n) (holds_of (h ++ e ∷ []))
sits-same n h e same sits = subst (λ (ks : List Hold). All (Sits n) ks) (sym (holds-same h e same)) sits

-- what is kept for each peer stays, too
pub holders-same : (h : List Event) (e : Event) (holders : List Holder) → Holds e → HoldersStand h holders → HoldersStand (h ++ e ∷ []) holders
holders-same h e holders same stand = record { ascend = stand.ascend; ranges = λ p. stand.ranges p ∙ ap (filter (λ k. k.peer == p)) (sym (holds-same h e same)) }

pub tells-quiet : (aim : Aim) (h : List Event) (e : Event) (ranges fresh : RangeSet) (states : List PartState) (flag : Bool)
    → Quiet aim.size e → Tells aim h ranges fresh states flag → Tells aim (h ++ e ∷ []) ranges fresh states flag
tells-quiet aim h e ranges fresh states flag quiet tells = record {
  size = tells.size;
  filled_size = tells.filled_size;
  filled = λ x. tells.filled x ∙ sym (filled-same aim.size h e x (quiet.filled x));
  fresh_size = tells.fresh_size;
  fresh = λ x. fresh-quiet aim.size h e x (contains fresh.set x) (quiet.filled x) quiet.write quiet.commit (tells.fresh x);
  sits = sits-same aim.size h e quiet.holds tells.sits;
  clear = λ x here. filled-same aim.size h e x (quiet.filled x) ∙ tells.clear x (sym (held-same h e quiet.holds x) ∙ here);
  count = tells.count;
  state = λ i d exists. tells.state i d exists ∙ sym (state-is _ _ _ _ _ _ (verdict-same h e i (quiet.verdict i)) (open_in-same aim.size h e i (quiet.part i)) (failures-same aim h e i quiet.set quiet.judged));
  uncommitted = tells.uncommitted ∙ sym (ap (λ o. unwrap_or o false) (latest-still open_by h e quiet.all));
  unjudged = λ large none. any-quiet is_verdict h e quiet.judged ∙ tells.unjudged large (sym (set-same h e quiet.set) ∙ none);
  unrecovered = any-quiet is_recovered h e quiet.recovered ∙ tells.unrecovered;
}

-- at most two entries a part may come without memory
due_most : (judged full failed : Bool) → (if judged then (if full then 2 else 0) else (if failed then 1 else 0)) ≤ 2
due_most true true failed = omega arith
due_most true false failed = omega arith
due_most false full true = omega arith
due_most false full false = omega arith

sum_most : (f : ℕ → ℕ) → ((i : ℕ) → f i ≤ 2) → (from n : ℕ) → sum_over f from n ≤ 2 * n
sum_most f each from zero = omega arith
sum_most f each from (suc n) =
    let more : f from + sum_over f (from + 1) n ≤ 2 * suc n = omega (arith, each from, sum_most f each (from + 1) n) in more

pub dues_most : (aim : Aim) (h : List Event) → dues aim h ≤ 2 * data_parts aim.size
dues_most aim h = sum_most (due aim h) (λ i. due_most (is_none (verdict_of h i)) (is_full aim.size h i) (is_failed aim h i)) 0 (data_parts aim.size)

-- the room that was taken serves any event that holds nothing new
pub room-taken : (aim : Aim) (h : List Event) (len capacity spare most held states slots : ℕ) → states ≡ data_parts aim.size → has_entry len most states capacity spare slots ≡ true → held ≤ most
    → HasRoom aim h (len + 1) capacity spare held
room-taken aim h len capacity spare most held states slots count taken few =
    let due = dues_most aim h in
    record { log = grind (arith, nat_tests); filled = grind (arith, nat_tests) }

-- the place of the kept set stays
pub set-stands : (n : ℕ) (log : List Entry) (calls : ℕ) (e : Event) (place : ℕ) → set_by e ≡ None → SetStands n log place → SetStands n (added log calls e) place
set-stands n log calls e place none stands =
    let entry : Entry = record { calls = calls; event = e } in
    let same : kept_set (events (added log calls e)) ≡ kept_set (events log) = ap kept_set (events-added log calls e) ∙ set-same (events log) e none in
    record {
      within = omega (arith, stands.within, length-append log (entry ∷ []));
      is = λ d.
          same ∙ stands.is d
          ∙ ap (λ (entry : Entry). set_in entry.event) (sym (get_or_append_left log (entry ∷ []) d place stands.within));
      whole = subst (λ (set : List (List ℕ)). IsFalse (is_nil set) → length set ≡ hash_count n) (sym same) stands.whole;
    }
