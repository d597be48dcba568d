-- What a desk reserves can be asked for.
use Rattle.std.proofs.Common.{◌≡◌, ℕ, ◌+◌, ◌-◌, ◌<◌, ◌≤◌, Bool, true, false, not, cond, List, [], ◌∷◌, ◌++◌, length, take, Option, Some, None, Ok, Err, unwrap_or, find, zero, suc, refl, sym, subst, length-take, arith}
use Rattle.std.specs.List.{AllByRecursion, cons_option, filter_map, flat_map, range_with_len}
use Rattle.std.specs.Option.{option_map}
use Rattle.client_msgs.specs.Spelling.{HasForm, IsRange}
use Rattle.client_msgs.specs.declared.msg.PeerMsg.TheVariants as msgs
use Rattle.part_hashset.specs.declared.aim.Aim.{Aim}
use Rattle.part_sizes.specs.Block.{block_count, block_range}
use Rattle.part_sizes.specs.Part.{IsSize}
use Rattle.part_sizes.specs.Span.{positions}
use Rattle.part_sizes.specs.declared.span.Span.{Span}
use Rattle.reserve_core.specs.Choice.{first_run, is_available, offered_parts, pick_of, run_from, runs_of}
use Rattle.reserve_core.specs.Desk.{Answered, IsDeskCall}
use Rattle.reserve_core.specs.Events.{events}
use Rattle.reserve_core.specs.declared.event.Entry.{Entry}
use Rattle.reserve_core.specs.declared.desk.Answer.{Answer}
use Rattle.reserve_core.specs.declared.desk.Answer.TheVariants as answer
use Rattle.reserve_core.specs.declared.desk.DeskAsk.{DeskAsk}
use Rattle.reserve_core.specs.declared.desk.DeskAsk.TheVariants as ask
use Rattle.reserve_core.specs.declared.event.Event.{Event}
use Rattle.peer_fetch.specs.Machine.{IsFitting}

-- a span of the file that is not empty
abbrev IsPicked : ℕ → Span → Type 0
IsPicked n r = (r.s < r.e) × (r.e ≤ n)

found : (p : ℕ → Bool) (from n x : ℕ) → find p (range_with_len from n) ≡ Some x → (from ≤ x) × (x < from + n) × (p x ≡ true)
found p from zero x e = cc
found p from (suc n) x e =
    elim (p from) as (λ b. p from ≡ b → cond b (Some from) (find p (range_with_len (from + 1) n)) ≡ Some x → (from ≤ x) × (x < from + suc n) × (p x ≡ true)) [
      | true ↦ λ here is. let same : from ≡ x = cc in (omega (arith, same), omega (arith, same), subst (λ k. p k ≡ true) same here)
      | false ↦ λ other is. let later = found p (from + 1) n x is in (omega arith, omega arith, later.2)
    ] refl e

run_ends : (passes : ℕ → Bool) (start e : ℕ) (end : Option ℕ) → start < e → passes start ≡ true → find (λ x. not (passes x)) (range_with_len start (e - start)) ≡ end → (start < unwrap_or end e) × (unwrap_or end e ≤ e)
run_ends passes start e None below here is = (below, omega arith)
run_ends passes start e (Some x) below here is =
    let there = found (λ y. not (passes y)) start (e - start) x is in
    let other : ¬ (start ≡ x) = λ same. let clash : not (passes start) ≡ true = subst (λ k. not (passes k) ≡ true) (sym same) there.2 in cc in
    (omega (arith, other), omega arith)

abbrev IsPickedRun : ℕ → Option Span → Type 0
IsPickedRun n None = Unit {0}
IsPickedRun n (Some r) = IsPicked n r

run_picked : (n : ℕ) (passes : ℕ → Bool) (r : Span) (start : Option ℕ) → r.e ≤ n → find passes (positions r) ≡ start → IsPickedRun n (option_map (run_from passes r) start)
unfolding positions
run_picked n passes r None within is = tt
run_picked n passes r (Some start) within is =
    let first = found passes r.s (r.e - r.s) start is in
    let ends = run_ends passes start r.e (find (λ x. not (passes x)) (range_with_len start (r.e - start))) (omega arith) first.2 refl in
    (ends.0, omega (arith, ends.1))

first_run_picked : (n : ℕ) (passes : ℕ → Bool) (r : Span) → r.e ≤ n → IsPickedRun n (first_run passes r)
first_run_picked n passes r within = run_picked n passes r (find passes (positions r)) within refl

all_cons : (n : ℕ) (first : Option Span) (spans : List Span) → IsPickedRun n first → AllByRecursion (IsPicked n) spans → AllByRecursion (IsPicked n) (cons_option first spans)
all_cons n None spans one all = all
all_cons n (Some r) spans one all = (one, all)

all_filter_map : (n : ℕ) (f : ℕ → Option Span) → ((k : ℕ) → IsPickedRun n (f k)) → (ks : List ℕ) → AllByRecursion (IsPicked n) (filter_map f ks)
all_filter_map n f each [] = tt
all_filter_map n f each (k ∷ ks) = all_cons n (f k) (filter_map f ks) (each k) (all_filter_map n f each ks)

all_append : (n : ℕ) (rs qs : List Span) → AllByRecursion (IsPicked n) rs → AllByRecursion (IsPicked n) qs → AllByRecursion (IsPicked n) (rs ++ qs)
all_append n [] qs first later = later
all_append n (r ∷ rs) qs (here, first) later = (here, all_append n rs qs first later)

all_flat_map : (n : ℕ) (f : ℕ → List Span) → ((i : ℕ) → AllByRecursion (IsPicked n) (f i)) → (is : List ℕ) → AllByRecursion (IsPicked n) (flat_map f is)
all_flat_map n f each [] = tt
all_flat_map n f each (i ∷ is) = all_append n (f i) (flat_map f is) (each i) (all_flat_map n f each is)

all_take : (n k : ℕ) (spans : List Span) → AllByRecursion (IsPicked n) spans → AllByRecursion (IsPicked n) (take k spans)
all_take n zero spans all = tt
all_take n (suc k) [] all = tt
all_take n (suc k) (r ∷ spans) (here, all) = (here, all_take n k spans all)

in_block : (n i k : ℕ) → (block_range n i k).e ≤ n
in_block n i k = omega arith

picked : (n : ℕ) (h : List Event) (p : ℕ) → AllByRecursion (IsPicked n) (pick_of n h p)
picked n h p =
    all_take n 3 (flat_map (runs_of n h) (offered_parts n h p))
    (all_flat_map n (runs_of n h)
    (λ i. all_filter_map n (λ k. first_run (is_available n h) (block_range n i k)) (λ k. first_run_picked n (is_available n h) (block_range n i k) (in_block n i k)) (range_with_len 0 (block_count n i)))
    (offered_parts n h p))

ranges : (n : ℕ) (spans : List Span) → IsSize n → AllByRecursion (IsPicked n) spans → AllByRecursion IsRange spans
ranges n [] size all = tt
ranges n (r ∷ spans) size (here, all) = ((omega (arith, here.0, here.1, size.1), omega (arith, here.1, size.1), λ zeros. omega (arith, here.0, zeros.1)), ranges n spans size all)

can_ask : (aim : Aim) (h : List Event) (p : ℕ) (spans : List Span) → IsSize aim.size → spans ≡ pick_of aim.size h p → HasForm (msgs.RequestParts aim.hash spans)
can_ask aim h p spans size is =
    let few : length (pick_of aim.size h p) ≤ 3 = omega (arith, length-take 3 (flat_map (runs_of aim.size h) (offered_parts aim.size h p))) in
    subst (λ qs. HasForm (msgs.RequestParts aim.hash qs)) (sym is) (few, ranges aim.size (pick_of aim.size h p) size (picked aim.size h p))

-- what a desk answers can be told to a session
pub fitting : (aim : Aim) (p : ℕ) (h added : List Event) (ask : DeskAsk) (answer : Answer) → IsSize aim.size → Answered aim p h ask answer added → IsFitting aim answer
fitting aim p h added ask.Reserve (answer.Reserve (Ok spans)) size answered = can_ask aim h p spans size answered.1
fitting aim p h added _ (answer.Reserve (Ok spans)) size answered = absurd answered
fitting aim p h added _ (answer.Reserve (Err _)) size answered = tt
fitting aim p h added (ask.Write at piece) (answer.Write (Ok written)) size answered = answered.1.exists
fitting aim p h added _ (answer.Write (Ok written)) size answered = absurd answered
fitting aim p h added _ (answer.Write (Err _)) size answered = tt
fitting aim p h added _ _ size answered = tt

pub served_fitting : (aim : Aim) (p : ℕ) (alone : Bool) (ask : DeskAsk) (answer : Answer) (h h2 : List Entry) (body body2 : Option (List ℕ)) → IsSize aim.size → IsDeskCall aim p alone ask answer h h2 body body2 → IsFitting aim answer
served_fitting aim p alone ask answer h h2 body body2 size served = fitting aim p (events (h ++ served.others)) (events served.mine) ask answer size served.answered
