-- Each step of a pass keeps the rule of the lock.
use Rattle.std.proofs.Common.{◌≡◌, ◌≢◌, ◌⊎◌, ℕ, ◌+◌, ◌%◌, ◌^◌, ◌<◌, ◌≤◌, eqb, Option, Some, None, false, List, [], ◌∷◌, ◌++◌, length, get_or, set, sym, refl, ap, ◌∙◌, subst, inl, inr, ⊎_elim, arith, length-set, get_or-set_other, get_or-set_same, eq-eqb, ne_eqb}
use mathlib.Core.Option.{Option as Opt, none, some}
use mathlib.Core.Logic.{dite}
use native.Mathlib.Decide.{ℕ_discrete}
use lib.ListN.{get_elem?}
use lib.Seq.{set-get_or}
use prog.Atomic.{either}
use Rattle.std.proofs.lemmas.Bool.{false≢true}
use Rattle.atomic_table.specs.Table.{State, Me, step, keeps, takes, gives, stepped, Allows, Splits, Joins, opening, Final, Seen}
use Rattle.atomic_table.proofs.Lists.{set_again, set_else, at_snoc, at_longer}
use Rattle.turn_lock.specs.declared.known.Known.{Known}
use Rattle.turn_lock.specs.declared.known.Stage.TheVariants.{Idle, Waits, Holds, Calls}
use Rattle.turn_lock.specs.Views.{BeginsWith, Agrees, first_number, first_from, start_row, is_spent, ticket_of, called_of, lifted_in, at_stage}
use Rattle.turn_lock.specs.Rule.{Stands, Numbered, IsHome, Kept}
use Rattle.turn_lock.specs.Steps.{draws_ticket, rings, calls_next, counts, looks_up, fresh, both, spent, draws_number, looks, raises, opens}
use Rattle.turn_lock.proofs.Lists.{some_same, none_some, at_once, only_place, set_there, each_set, each_known, only_set, begins_itself, begins_through}
use Rattle.turn_lock.proofs.Stages.{called_has_ticket, lifted_is_called, ticket_held, carried_value}
use Rattle.turn_lock.proofs.Numbers.{same_numbers, raised_numbers, drawn_number, split_numbers, joined_numbers}

module _ {T E I : Type 0} (birth : T → List ℕ) (log : T → List E) (rows : T → ℕ → List I) (first : T) where
  abbrev K : Type 0
  K = Known T E I

  abbrev St : Type 0
  St = State (Option T) (Known T E I)

  abbrev Rule : State (Option T) (Known T E I) → Type 0
  Rule = Kept birth log rows first

  abbrev Right : List E → (ℕ → List I) → ℕ → ℕ → Known T E I → Type 0
  Right all now turn tickets = Stands birth log rows first all now turn tickets

  -- one view goes from v to w, and the words, the slot, the log and the rows to new ones: the rule is kept where the new view and the others stand, and no other has the ticket
  replaced : (s : State (Option T) (Known T E I)) (r : Kept birth log rows first s) (id : ℕ) (v w : Known T E I) (ws : List ℕ) (hs : List (Opt (Option T))) (all : List E) (now : ℕ → List I) (tickets turn numbers : ℕ)
      → get_elem? s.views id ≡ some v → length ws ≡ 20 → get_or ws 0 0 ≡ tickets → get_or ws 1 0 ≡ turn → get_or ws 2 0 ≡ length all → get_or ws 3 0 ≡ numbers
      → tickets < 2 ^ 64 → turn ≤ tickets
      → Stands birth log rows first all now turn tickets w
      → ((j : ℕ) (u : Known T E I) → j ≢ id → get_elem? s.views j ≡ some u → Stands birth log rows first all now turn tickets u)
      → ((j : ℕ) (u : Known T E I) (t : ℕ) → j ≢ id → get_elem? s.views j ≡ some u → ticket_of w.stage ≡ Some t → ticket_of u.stage ≢ Some t)
      → ((t : ℕ) → turn ≤ t → t < tickets → (ticket_of w.stage ≡ Some t) ⊎ ((get_or s.words 1 0 ≤ t) × (t < get_or s.words 0 0) × (ticket_of v.stage ≢ Some t)))
      → (((j : ℕ) (u : Known T E I) → j ≢ id → get_elem? s.views j ≡ some u → lifted_in u.stage ≡ None) → lifted_in w.stage ≡ None → IsHome birth log rows first all now hs)
      → Numbered (rows first) now numbers (set s.views id w)
      → Kept birth log rows first record { words = ws; homes = hs; views = set s.views id w }
  replaced s r id v w ws hs all now tickets turn numbers at wide is_tickets is_turn is_count is_numbers small le mine others alone drawn home numbered = record {
    all = all;
    now = now;
    wide = wide;
    fits = subst (λ (n : ℕ). n < 2 ^ 64) (sym is_tickets) small;
    in_turn = subst (λ (n : ℕ × ℕ). n.0 ≤ n.1) (λ i. (sym is_turn i, sym is_tickets i)) le;
    counted = is_count;
    stands = subst (λ (n : ℕ × ℕ). (j : ℕ) (u : Known T E I) → get_elem? (set s.views id w) j ≡ some u → Stands birth log rows first all now n.0 n.1 u) (λ i. (sym is_turn i, sym is_tickets i))
        (each_set (λ j u. Stands birth log rows first all now turn tickets u) s.views id w mine others);
    apart = λ i j x y t at_i at_j has_i has_j. each_set (λ k z. ticket_of z.stage ≡ Some t → k ≡ j) s.views id w
        (λ has. each_set (λ k z. ticket_of z.stage ≡ Some t → id ≡ k) s.views id w (λ _. refl) (λ k z far at_k has_k. absurd (alone k z t far at_k has has_k)) j y at_j has_j)
        (λ k z far at_k has. each_set (λ l q. ticket_of q.stage ≡ Some t → k ≡ l) s.views id w (λ has_w. absurd (alone k z t far at_k has_w has)) (λ l q _ at_l has_l. r.apart k l z q t at_k at_l has has_l) j y at_j has_j)
        i x at_i has_i;
    drawn = λ t from to. ⊎_elim
        (λ (has : ticket_of w.stage ≡ Some t). (id, w, set_there s.views id v w at, has))
        (λ (old : (get_or s.words 1 0 ≤ t) × (t < get_or s.words 0 0) × (ticket_of v.stage ≢ Some t)). let d = r.drawn t old.0 old.1 in
        (d.0, d.1, set_else s.views id d.0 w (λ is. old.2 (subst (λ (x : Known T E I). ticket_of x.stage ≡ Some t) (at_once s.views id d.1 v (ap (λ n. get_elem? s.views n) (sym is) ∙ d.2) at) d.3)) ∙ d.2, d.3))
        (drawn t (subst (λ (n : ℕ). n ≤ t) is_turn from) (subst (λ (n : ℕ). t < n) is_tickets to));
    home = λ empty. home (λ j u far at_j. empty j u (set_else s.views id j w far ∙ at_j)) (empty id w (set_there s.views id v w at));
    numbers = subst (λ (n : ℕ). Numbered (rows first) now n (set s.views id w)) (sym is_numbers) numbered;
  }

  -- where no other view has the value, and this one has not, it is at home
  still_home : (s : State (Option T) (Known T E I)) (r : Kept birth log rows first s) (id : ℕ) (v : Known T E I) → get_elem? s.views id ≡ some v → lifted_in v.stage ≡ None
      → ((j : ℕ) (u : Known T E I) → j ≢ id → get_elem? s.views j ≡ some u → lifted_in u.stage ≡ None) → IsHome birth log rows first r.all r.now s.homes
  still_home s r id v at mine others = r.home (each_known (λ j u. lifted_in u.stage ≡ None) s.views id v at mine others)

  -- a ticket that was drawn is this pass's, or it is not
  has_or_not : (s : State (Option T) (Known T E I)) (r : Kept birth log rows first s) (id : ℕ) (v : Known T E I) (t : ℕ) → get_elem? s.views id ≡ some v → get_or s.words 1 0 ≤ t → t < get_or s.words 0 0
      → (ticket_of v.stage ≡ Some t) ⊎ (ticket_of v.stage ≢ Some t)
  has_or_not s r id v t at from to = let d = r.drawn t from to in dite (ℕ_discrete d.0 id)
      (λ is. inl (subst (λ (x : Known T E I). ticket_of x.stage ≡ Some t) (at_once s.views id d.1 v (ap (λ k. get_elem? s.views k) (sym is) ∙ d.2) at) d.3))
      (λ far. inr (λ has. far (r.apart d.0 id d.1 v t d.2 at d.3 has)))

  -- a view changes and nothing else: its ticket, the value that it has and its numbers stay
  unmoved : (s : State (Option T) (Known T E I)) (r : Kept birth log rows first s) (id : ℕ) (v w : Known T E I) (i n : ℕ) → get_elem? s.views id ≡ some v → n ≡ get_or s.words i 0
      → ticket_of w.stage ≡ ticket_of v.stage → lifted_in w.stage ≡ lifted_in v.stage → w.owned ≡ v.owned
      → Stands birth log rows first r.all r.now (get_or s.words 1 0) (get_or s.words 0 0) w
      → Kept birth log rows first record { words = set s.words i n; homes = s.homes; views = set s.views id w }
  unmoved s r id v w i n at same ticket lifted owned mine = subst (λ (ws : List ℕ). Kept birth log rows first record { words = ws; homes = s.homes; views = set s.views id w })
      (sym (ap (λ (m : ℕ). set s.words i m) same ∙ set-get_or s.words i 0))
      (replaced s r id v w s.words s.homes r.all r.now (get_or s.words 0 0) (get_or s.words 1 0) (get_or s.words 3 0) at r.wide refl refl r.counted refl r.fits r.in_turn mine
      (λ j u far at_j. r.stands j u at_j)
      (λ j u t far at_j has has_j. far (r.apart j id u v t at_j at has_j (sym ticket ∙ has)))
      (λ t from to. ⊎_elim (λ (has : ticket_of v.stage ≡ Some t). inl (ticket ∙ has)) (λ (not : ticket_of v.stage ≢ Some t). inr (from, to, not)) (has_or_not s r id v t at from to))
      (λ others mine. still_home s r id v at (sym lifted ∙ mine) others)
      (same_numbers (rows first) r.now (get_or s.words 3 0) s.views id v w at owned r.numbers))

  -- a step that changes nothing
  untouched : (s : State (Option T) (Known T E I)) (r : Kept birth log rows first s) (id : ℕ) (v : Known T E I) (i n : ℕ) → get_elem? s.views id ≡ some v → n ≡ get_or s.words i 0
      → Kept birth log rows first record { words = set s.words i n; homes = s.homes; views = set s.views id v }
  untouched s r id v i n at same = unmoved s r id v v i n at same refl refl refl (r.stands id v at)

  -- a ticket is drawn
  pub draws_tickets : (slots id : ℕ) (me : Me (Option T) (Known T E I)) (old new : ℕ) → me.0.stage ≡ Idle → new ≡ old + 1 → new < 2 ^ 64
      → Allows (Kept birth log rows first) slots id me 0 (λ n. either (eqb n old) new n) (draws_ticket (step slots 0 old new none) me)
  draws_tickets slots id me old new idle up small s r _ at _ = let v : Known T E I = me.0 in let x : ℕ = get_or s.words 0 0 in let wide = r.wide in let in_turn = r.in_turn in dite (ℕ_discrete x old)
      (λ hit. let w : Known T E I = at_stage v (Waits x) in let rv = r.stands id v at in let none_now : ticket_of v.stage ≡ None = ap ticket_of idle in (
        w,
        keeps,
        tt,
        subst (λ b. Kept birth log rows first (stepped s 0 (either b new x) id me.1 w keeps)) (sym (eq-eqb x old hit))
            (replaced s r id v w (set s.words 0 new) s.homes r.all r.now new (get_or s.words 1 0) (get_or s.words 3 0) at (length-set s.words 0 new ∙ wide)
            (get_or-set_same s.words 0 new 0 (omega arith)) (get_or-set_other s.words 0 1 new 0 (λ e. omega arith)) (get_or-set_other s.words 0 2 new 0 (λ e. omega arith) ∙ r.counted) (get_or-set_other s.words 0 3 new 0 (λ e. omega arith))
            small (omega arith)
            record {
              seen = rv.seen;
              told = rv.told;
              waits = λ t e. let is : x ≡ t = some_same x t e in (omega arith, omega arith);
              called = λ t e. none_some t e;
              lifted = λ y e. none_some y e;
              born = λ _. rv.born (ap is_spent idle);
            }
            (λ j u far at_j. let ru = r.stands j u at_j in record { seen = ru.seen; told = ru.told; waits = λ t e. let p = ru.waits t e in let q : t < x = p.1 in (p.0, omega arith); called = ru.called; lifted = ru.lifted; born = ru.born })
            (λ j u t far at_j e has. let is : x ≡ t = some_same x t e in let q : t < x = ((r.stands j u at_j).waits t has).1 in absurd (omega arith))
            (λ t from to. dite (ℕ_discrete x t) (λ is. inl (ap (λ n. Some n) is)) (λ far. inr (from, omega arith, λ has. none_some t (sym none_now ∙ has))))
            (λ others _. still_home s r id v at (ap lifted_in idle) others)
            (same_numbers (rows first) r.now (get_or s.words 3 0) s.views id v w at refl r.numbers)),
        ((λ _. refl), (λ miss. absurd (miss hit)), refl),
      ))
      (λ miss. (
        v,
        keeps,
        tt,
        subst (λ b. Kept birth log rows first (stepped s 0 (either b new x) id me.1 v keeps)) (sym (ne_eqb x old miss)) (untouched s r id v 0 x at refl),
        ((λ hit. absurd (miss hit)), (λ _. refl), refl),
      ))

  -- the words that the rule speaks of stay where a bell changes
  pub rings_bell : (slots id : ℕ) (me : Me (Option T) (Known T E I)) (i k : ℕ) → 4 ≤ i → Allows (Kept birth log rows first) slots id me i (λ n. (n + k) % 2 ^ 64) (rings (step slots i k 0 none) me)
  rings_bell slots id me i k bell s r _ at _ = let v : Known T E I = me.0 in let n : ℕ = (get_or s.words i 0 + k) % 2 ^ 64 in (
    v,
    keeps,
    tt,
    replaced s r id v v (set s.words i n) s.homes r.all r.now (get_or s.words 0 0) (get_or s.words 1 0) (get_or s.words 3 0) at (length-set s.words i n ∙ r.wide)
        (get_or-set_other s.words i 0 n 0 (λ e. omega arith)) (get_or-set_other s.words i 1 n 0 (λ e. omega arith)) (get_or-set_other s.words i 2 n 0 (λ e. omega arith) ∙ r.counted) (get_or-set_other s.words i 3 n 0 (λ e. omega arith))
        r.fits r.in_turn (r.stands id v at) (λ j u far at_j. r.stands j u at_j) (λ j u t far at_j has has_j. far (r.apart j id u v t at_j at has_j has))
        (λ t from to. ⊎_elim (λ (has : ticket_of v.stage ≡ Some t). inl has) (λ (not : ticket_of v.stage ≢ Some t). inr (from, to, not)) (has_or_not s r id v t at from to))
        (λ others mine. still_home s r id v at mine others)
        (same_numbers (rows first) r.now (get_or s.words 3 0) s.views id v v at refl r.numbers),
    refl,
  )

  -- no view but that of the called ticket has the value
  not_lifted : (s : State (Option T) (Known T E I)) (r : Kept birth log rows first s) (id : ℕ) (v : Known T E I) → get_elem? s.views id ≡ some v → ticket_of v.stage ≡ Some (get_or s.words 1 0)
      → (j : ℕ) (u : Known T E I) → j ≢ id → get_elem? s.views j ≡ some u → (t : ℕ) → called_of u.stage ≢ Some t
  not_lifted s r id v at mine j u far at_j t called = far (r.apart j id u v (get_or s.words 1 0) at_j at
      (called_has_ticket u.stage t called ∙ ap (λ n. Some n) ((r.stands j u at_j).called t called).0) mine)

  -- a look at the turn, which lifts the value where it is the pass's own
  pub looks_at_turn : (slots id : ℕ) (me : Me (Option T) (Known T E I)) (ticket : ℕ) → me.0.stage ≡ Waits ticket
      → Allows (Kept birth log rows first) slots id me 1 (λ n. n) (looks rows birth log (step slots 1 0 0 none) me)
  looks_at_turn slots id me ticket waits s r _ at _ = let v : Known T E I = me.0 in let x : ℕ = get_or s.words 1 0 in let rv = r.stands id v at in let has : ticket_of v.stage ≡ Some ticket = ap ticket_of waits in dite (ℕ_discrete ticket x)
      (λ hit. let mine : ticket_of v.stage ≡ Some x = has ∙ ap (λ n. Some n) hit in
      let off : lifted_in v.stage ≡ None = ap lifted_in waits in
      let live = rv.born (ap is_spent waits) in
      let range = rv.waits x mine in
      let h = still_home s r id v at off (λ j u far at_j. ⊎_elim (λ (e : lifted_in u.stage ≡ None). e) (λ (e : (t : ℕ) × (called_of u.stage ≡ Some t)). absurd (not_lifted s r id v at mine j u far at_j e.0 e.1)) (lifted_is_called u.stage)) in
      let y : T = h.0 in
      let w : Known T E I = record v { stage = Holds x y; seen = log y } in
      let hs : List (Opt (Option T)) = set s.homes 0 none in (
        w,
        takes 0 (Some y),
        ap (λ l. get_elem? l 0) h.1,
        subst (λ (ws : List ℕ). Kept birth log rows first record { words = ws; homes = hs; views = set s.views id w }) (sym (set-get_or s.words 1 0))
            (replaced s r id v w s.words hs r.all r.now (get_or s.words 0 0) x (get_or s.words 3 0) at r.wide refl refl r.counted refl r.fits r.in_turn
            record {
              seen = subst (λ l. BeginsWith r.all l) (sym h.2) (begins_itself r.all);
              told = rv.told;
              waits = λ t e. subst (λ (n : ℕ). (x ≤ n) × (n < get_or s.words 0 0)) (some_same x t e) range;
              called = λ t e. (sym (some_same x t e), sym h.2);
              lifted = λ z e n. ap (λ (q : T). rows q n) (sym (some_same y z e)) ∙ h.4 n;
              born = λ _. live;
            }
            (λ j u far at_j. r.stands j u at_j)
            (λ j u t far at_j e has_j. far (r.apart j id u v t at_j at has_j (mine ∙ e)))
            (λ t from to. dite (ℕ_discrete x t) (λ is. inl (ap (λ n. Some n) is)) (λ not. inr (from, to, λ e. not (some_same x t (sym mine ∙ e)))))
            (λ others e. none_some y (sym e))
            (same_numbers (rows first) r.now (get_or s.words 3 0) s.views id v w at refl r.numbers)),
        (
          (λ _. (
            y,
            (
              refl,
              record {
                longer = subst (λ l. BeginsWith l v.seen) (sym h.2) rv.seen;
                same_birth = h.3 ∙ sym live.0;
                same_rows = λ k e there. (r.numbers.right id v at k e there).1 ∙ sym (h.4 e.0);
              },
            ),
          )),
          (λ miss. absurd (miss (waits ∙ ap (λ n. Waits n) hit))),
        ),
      ))
      (λ miss. (
        v,
        keeps,
        tt,
        untouched s r id v 1 x at refl,
        ((λ hit. absurd (miss (some_same ticket x (sym has ∙ ap ticket_of hit)))), (λ _. refl)),
      ))

  -- what the raise leaves a pass with
  abbrev raised : Known T E I → ℕ → T → Known T E I
  raised v t y = record v { stage = Calls t; seen = log y; owned = first_from (rows y) v.owned }

  raised_state : (s : State (Option T) (Known T E I)) (r : Kept birth log rows first s) (id : ℕ) (v : Known T E I) (ticket : ℕ) (x y : T) (count number : ℕ) → length s.homes ≡ 1 → get_elem? s.views id ≡ some v
      → v.stage ≡ Holds ticket x → count ≡ length (log y) → BeginsWith (log y) v.seen → birth y ≡ v.birth → first_number v.owned ≡ Some number → ((n : ℕ) → n ≢ number → rows y n ≡ rows x n)
      → Kept birth log rows first record { words = set s.words 2 count; homes = set s.homes 0 (some (Some y)); views = set s.views id (raised v ticket y) }
  raised_state s r id v ticket x y count number one at holds counted longer born owns others = let rv = r.stands id v at in let w : Known T E I = raised v ticket y in
      let turn : ℕ = get_or s.words 1 0 in
      let known = rv.called ticket (ap called_of holds) in
      let mine : ticket_of v.stage ≡ Some turn = ap ticket_of holds ∙ ap (λ n. Some n) known.0 in
      let live = rv.born (ap is_spent holds) in
      let more : (seen : List E) → BeginsWith r.all seen → BeginsWith (log y) seen = (λ seen b. begins_through (log y) v.seen seen longer (subst (λ l. BeginsWith l seen) known.1 b)) in
      let range = rv.waits ticket (ap ticket_of holds) in
      let still : (n : ℕ) → n ≢ number → rows y n ≡ r.now n = (λ n apart. others n apart ∙ rv.lifted x (ap lifted_in holds) n) in
      replaced s r id v w (set s.words 2 count) (set s.homes 0 (some (Some y))) (log y) (rows y) (get_or s.words 0 0) turn (get_or s.words 3 0) at (length-set s.words 2 count ∙ r.wide)
      (get_or-set_other s.words 2 0 count 0 (λ e. omega arith)) (get_or-set_other s.words 2 1 count 0 (λ e. omega arith)) (get_or-set_same s.words 2 count 0 (omega (arith, r.wide)) ∙ counted) (get_or-set_other s.words 2 3 count 0 (λ e. omega arith))
      r.fits r.in_turn
      record {
        seen = begins_itself (log y);
        told = more v.told rv.told;
        waits = λ t e. subst (λ (n : ℕ). (turn ≤ n) × (n < get_or s.words 0 0)) (some_same ticket t e) range;
        called = λ t e. (sym (some_same ticket t e) ∙ known.0, refl);
        lifted = λ z e. none_some z e;
        born = λ _. live;
      }
      (λ j u far at_j. let ru = r.stands j u at_j in let none_called = not_lifted s r id v at mine j u far at_j in record {
        seen = more u.seen ru.seen;
        told = more u.told ru.told;
        waits = ru.waits;
        called = λ t e. absurd (none_called t e);
        lifted = λ z e. ⊎_elim (λ (off : lifted_in u.stage ≡ None). none_some z (sym off ∙ e)) (λ (on : (t : ℕ) × (called_of u.stage ≡ Some t)). absurd (none_called on.0 on.1)) (lifted_is_called u.stage);
        born = ru.born;
      })
      (λ j u t far at_j e has_j. far (r.apart j id u v t at_j at has_j (ap ticket_of holds ∙ e)))
      (λ t from to. dite (ℕ_discrete ticket t) (λ is. inl (ap (λ n. Some n) is)) (λ not. inr (from, to, λ e. not (some_same ticket t (sym (ap ticket_of holds) ∙ e)))))
      (λ _ _. (y, only_set s.homes (some (Some y)) one, refl, born ∙ live.0, λ n. refl))
      (raised_numbers (rows first) r.now (rows y) (get_or s.words 3 0) s.views id number v w at owns refl still r.numbers)

  -- the count is raised by a pass that has the turn, and the value is laid back
  pub raises_count : (slots id : ℕ) (me : Me (Option T) (Known T E I)) (v : Known T E I) (ticket : ℕ) (x y : T) (count number : ℕ) → slots ≡ 1 → me ≡ (v, (0, Some y) ∷ []) → v.stage ≡ Holds ticket x
      → count ≡ length (log y) → BeginsWith (log y) v.seen → birth y ≡ v.birth → first_number v.owned ≡ Some number → ((n : ℕ) → n ≢ number → rows y n ≡ rows x n)
      → Allows (Kept birth log rows first) slots id me 2 (λ _. count) (λ _. raises rows birth log (step slots 2 count 0 none) me count)
  raises_count slots id me v ticket x y count number one is holds counted longer born owns others =
      subst (λ (m : Me (Option T) (Known T E I)). Allows (Kept birth log rows first) slots id m 2 (λ _. count) (λ _. raises rows birth log (step slots 2 count 0 none) m count)) (sym is)
      (λ s r size at _. (
        raised v ticket y,
        gives,
        tt,
        raised_state s r id v ticket x y count number (size ∙ one) at holds counted longer born owns others,
        (λ t x' y' holds' has. let same_t : ticket ≡ t = ap (ticket_held 0) (sym holds ∙ holds') in let same_y : y ≡ y' = ap (carried_value y) has in
            λ i. (raised v (same_t i) (same_y i), [])),
      ))

  -- the ticket of a pass that laid the value back goes, and the next is called
  pub calls_next_ticket : (slots id : ℕ) (me : Me (Option T) (Known T E I)) (ticket : ℕ) → me.0.stage ≡ Calls ticket
      → Allows (Kept birth log rows first) slots id me 1 (λ n. (n + 1) % 2 ^ 64) (calls_next (step slots 1 1 0 none) me)
  calls_next_ticket slots id me ticket calls s r _ at _ = let v : Known T E I = me.0 in let w : Known T E I = at_stage v Idle in let rv = r.stands id v at in
      let turn : ℕ = get_or s.words 1 0 in let tickets : ℕ = get_or s.words 0 0 in
      let is : ticket ≡ turn = (rv.called ticket (ap called_of calls)).0 in
      let below : ticket < tickets = (rv.waits ticket (ap ticket_of calls)).1 in
      let small : tickets < 2 ^ 64 = r.fits in
      let next : (turn + 1) % 2 ^ 64 ≡ turn + 1 = omega arith in
      let mine : ticket_of v.stage ≡ Some turn = ap ticket_of calls ∙ ap (λ n. Some n) is in (
        w,
        keeps,
        tt,
        subst (λ (n : ℕ). Kept birth log rows first record { words = set s.words 1 n; homes = s.homes; views = set s.views id w }) (sym next)
            (replaced s r id v w (set s.words 1 (turn + 1)) s.homes r.all r.now tickets (turn + 1) (get_or s.words 3 0) at (length-set s.words 1 (turn + 1) ∙ r.wide)
            (get_or-set_other s.words 1 0 (turn + 1) 0 (λ e. omega arith)) (get_or-set_same s.words 1 (turn + 1) 0 (omega (arith, r.wide))) (get_or-set_other s.words 1 2 (turn + 1) 0 (λ e. omega arith) ∙ r.counted) (get_or-set_other s.words 1 3 (turn + 1) 0 (λ e. omega arith))
            small (omega arith)
            record { seen = rv.seen; told = rv.told; waits = λ t e. none_some t e; called = λ t e. none_some t e; lifted = λ z e. none_some z e; born = λ _. rv.born (ap is_spent calls) }
            (λ j u far at_j. let ru = r.stands j u at_j in let none_called = not_lifted s r id v at mine j u far at_j in record {
              seen = ru.seen;
              told = ru.told;
              waits = λ t e. let p = ru.waits t e in let from : turn ≤ t = p.0 in let not : t ≢ turn = (λ same. far (r.apart j id u v t at_j at e (mine ∙ ap (λ n. Some n) (sym same)))) in (omega arith, p.1);
              called = λ t e. absurd (none_called t e);
              lifted = ru.lifted;
              born = ru.born;
            })
            (λ j u t far at_j e has. none_some t e)
            (λ t from to. inr (omega arith, to, λ e. let same : turn ≡ t = some_same turn t (sym mine ∙ e) in absurd (omega arith)))
            (λ others _. still_home s r id v at (ap lifted_in calls) others)
            (same_numbers (rows first) r.now (get_or s.words 3 0) s.views id v w at refl r.numbers)),
        (calls ∙ ap (λ n. Calls n) is, refl),
      )

  -- a look at the count, by which a pass has seen the whole log
  pub looks_at_count : (slots id : ℕ) (me : Me (Option T) (Known T E I)) → Allows (Kept birth log rows first) slots id me 2 (λ n. n) (counts (step slots 2 0 0 none) me)
  looks_at_count slots id me s r _ at _ = let v : Known T E I = me.0 in let w : Known T E I = record v { seen = r.all } in let rv = r.stands id v at in (
    w,
    keeps,
    tt,
    unmoved s r id v w 2 (get_or s.words 2 0) at refl refl refl refl
        record { seen = begins_itself r.all; told = rv.told; waits = rv.waits; called = λ t e. ((rv.called t e).0, refl); lifted = rv.lifted; born = rv.born },
    (r.counted, rv.seen, rv.told, refl, λ k l d e at_k at_l same. (r.numbers.once id id v v at at k l d e at_k at_l same).1),
  )

  -- a look at the numbers
  pub looks_at_numbers : (slots id : ℕ) (me : Me (Option T) (Known T E I)) → Allows (Kept birth log rows first) slots id me 3 (λ n. n) (looks_up (step slots 3 0 0 none) me)
  looks_at_numbers slots id me s r _ at _ = let v : Known T E I = me.0 in
      (v, keeps, tt, untouched s r id v 3 (get_or s.words 3 0) at refl, (refl, λ k e there. (r.numbers.right id v at k e there).0))

  -- a pass that was just split off draws its number
  pub draws_numbers : (slots id : ℕ) (me : Me (Option T) (Known T E I)) (old new : ℕ) → is_spent me.0.stage ≡ false → me.0.owned ≡ [] → new ≡ old + 1
      → Allows (Kept birth log rows first) slots id me 3 (λ n. either (eqb n old) new n) (draws_number rows (step slots 3 old new none) me)
  draws_numbers slots id me old new live none_owned up s r _ at _ = let v : Known T E I = me.0 in let x : ℕ = get_or s.words 3 0 in let rv = r.stands id v at in let wide = r.wide in
      let start : v.start ≡ Some first = (rv.born live).1 in dite (ℕ_discrete x old)
      (λ hit. let w : Known T E I = record v { owned = (x, start_row rows v.start x) ∷ [] } in let next : new ≡ x + 1 = omega arith in (
        w,
        keeps,
        tt,
        subst (λ b. Kept birth log rows first (stepped s 3 (either b new x) id me.1 w keeps)) (sym (eq-eqb x old hit))
            (replaced s r id v w (set s.words 3 new) s.homes r.all r.now (get_or s.words 0 0) (get_or s.words 1 0) (x + 1) at (length-set s.words 3 new ∙ wide)
            (get_or-set_other s.words 3 0 new 0 (λ e. omega arith)) (get_or-set_other s.words 3 1 new 0 (λ e. omega arith)) (get_or-set_other s.words 3 2 new 0 (λ e. omega arith) ∙ r.counted) (get_or-set_same s.words 3 new 0 (omega arith) ∙ next)
            r.fits r.in_turn
            record { seen = rv.seen; told = rv.told; waits = rv.waits; called = rv.called; lifted = rv.lifted; born = rv.born }
            (λ j u far at_j. r.stands j u at_j)
            (λ j u t far at_j e has_j. far (r.apart j id u v t at_j at has_j e))
            (λ t from to. ⊎_elim (λ (has : ticket_of v.stage ≡ Some t). inl has) (λ (not : ticket_of v.stage ≢ Some t). inr (from, to, not)) (has_or_not s r id v t at from to))
            (λ others mine. still_home s r id v at mine others)
            (drawn_number (rows first) r.now x s.views id v w at (ap (λ z. (x, start_row rows z x) ∷ []) start) r.numbers)),
        ((λ _. refl), (λ miss. absurd (miss hit)), refl),
      ))
      (λ miss. (
        v,
        keeps,
        tt,
        subst (λ b. Kept birth log rows first (stepped s 3 (either b new x) id me.1 v keeps)) (sym (ne_eqb x old miss)) (untouched s r id v 3 x at refl),
        ((λ hit. absurd (miss hit)), (λ _. refl), refl),
      ))

  -- a pass is split
  pub splits_pass : (id : ℕ) (v : Known T E I) → is_spent v.stage ≡ false → Splits (Kept birth log rows first) id v v (fresh v)
  splits_pass id v live s r at = let w : Known T E I = fresh v in let rv = r.stands id v at in
      let same : set s.views id v ≡ s.views = set_again s.views id v at in
      let each : (P : ℕ → Known T E I → Type 0) → ((j : ℕ) (u : Known T E I) → get_elem? s.views j ≡ some u → P j u) → ((j : ℕ) → P j w) → (j : ℕ) (u : Known T E I) → get_elem? (s.views ++ w ∷ []) j ≡ some u → P j u =
      (λ P old new j u at_j. ⊎_elim (λ (e : get_elem? s.views j ≡ some u). old j u e) (λ (e : w ≡ u). subst (P j) e (new j)) (at_snoc s.views w u j at_j)) in
      subst (λ l. Kept birth log rows first record { words = s.words; homes = s.homes; views = l ++ w ∷ [] }) (sym same) record {
        all = r.all;
        now = r.now;
        wide = r.wide;
        fits = r.fits;
        in_turn = r.in_turn;
        counted = r.counted;
        stands = each (λ j u. Stands birth log rows first r.all r.now (get_or s.words 1 0) (get_or s.words 0 0) u) r.stands
            (λ j. record { seen = rv.seen; told = rv.told; waits = λ t e. none_some t e; called = λ t e. none_some t e; lifted = λ x e. none_some x e; born = λ _. rv.born live });
        apart = λ i j x y t at_i at_j has_i has_j. each (λ k z. ticket_of z.stage ≡ Some t → k ≡ j)
            (λ k z at_k has_k. each (λ l q. ticket_of q.stage ≡ Some t → k ≡ l) (λ l q at_l has_l. r.apart k l z q t at_k at_l has_k has_l) (λ l has_l. none_some t has_l) j y at_j has_j)
            (λ k has_k. none_some t has_k) i x at_i has_i;
        drawn = λ t from to. let d = r.drawn t from to in (d.0, d.1, at_longer s.views (w ∷ []) d.0 d.1 d.2, d.3);
        home = λ empty. r.home (λ j u at_j. empty j u (at_longer s.views (w ∷ []) j u at_j));
        numbers = split_numbers (rows first) r.now (get_or s.words 3 0) s.views w refl r.numbers;
      }

  -- a pass takes in another, which has no ticket
  pub joins_passes : (id : ℕ) (v : Known T E I) (other : ℕ) (u : Known T E I) → u.stage ≡ Idle → Joins (Kept birth log rows first) id v other u (both v u) spent
  joins_passes id v other u idle s r at apart there = let w : Known T E I = both v u in let gone : Known T E I = spent in let rv = r.stands id v at in
      let at_other : get_elem? s.views other ≡ some u = sym (set_else s.views id other w apart) ∙ there in
      let ru = r.stands other u at_other in
      let views : List (Known T E I) = set (set s.views id w) other gone in
      let each : (P : ℕ → Known T E I → Type 0) → P other gone → P id w → ((j : ℕ) (x : Known T E I) → j ≢ id → j ≢ other → get_elem? s.views j ≡ some x → P j x) → (j : ℕ) (x : Known T E I) → get_elem? views j ≡ some x → P j x =
      (λ P last mine old j x at_j. each_set P (set s.views id w) other gone last (λ k y not at_k. each_set (λ l z. l ≢ other → P l z) s.views id w (λ _. mine) (λ l z far at_l not'. old l z far not' at_l) k y at_k not) j x at_j) in record {
        all = r.all;
        now = r.now;
        wide = r.wide;
        fits = r.fits;
        in_turn = r.in_turn;
        counted = r.counted;
        stands = each (λ j x. Stands birth log rows first r.all r.now (get_or s.words 1 0) (get_or s.words 0 0) x)
            record { seen = (r.all, refl); told = (r.all, refl); waits = λ t e. none_some t e; called = λ t e. none_some t e; lifted = λ x e. none_some x e; born = λ e. absurd (false≢true (sym e)) }
            record { seen = rv.seen; told = ru.seen; waits = rv.waits; called = rv.called; lifted = rv.lifted; born = rv.born }
            (λ j x _ _ at_j. r.stands j x at_j);
        apart = λ i j x y t at_i at_j has_i has_j. each (λ k z. ticket_of z.stage ≡ Some t → k ≡ j) (λ has. none_some t has)
            (λ has. each (λ l q. ticket_of q.stage ≡ Some t → id ≡ l) (λ has'. none_some t has') (λ _. refl) (λ l q far _ at_l has_l. absurd (far (r.apart l id q v t at_l at has_l has))) j y at_j has_j)
            (λ k z far _ at_k has_k. each (λ l q. ticket_of q.stage ≡ Some t → k ≡ l) (λ has'. none_some t has') (λ has'. absurd (far (r.apart k id z v t at_k at has_k has'))) (λ l q _ _ at_l has_l. r.apart k l z q t at_k at_l has_k has_l) j y at_j has_j)
            i x at_i has_i;
        drawn = λ t from to. let d = r.drawn t from to in
            let not_other : d.0 ≢ other = (λ is. none_some t (sym (ap ticket_of idle) ∙ subst (λ (x : Known T E I). ticket_of x.stage ≡ Some t) (at_once s.views other d.1 u (ap (λ n. get_elem? s.views n) (sym is) ∙ d.2) at_other) d.3)) in dite (ℕ_discrete d.0 id)
            (λ is. (id, w, set_else (set s.views id w) other id gone (λ e. apart (sym e)) ∙ set_there s.views id v w at, subst (λ (x : Known T E I). ticket_of x.stage ≡ Some t) (at_once s.views id d.1 v (ap (λ n. get_elem? s.views n) (sym is) ∙ d.2) at) d.3))
            (λ far. (d.0, d.1, set_else (set s.views id w) other d.0 gone not_other ∙ (set_else s.views id d.0 w far ∙ d.2), d.3));
        home = λ empty. r.home (λ j x at_j. dite (ℕ_discrete j other)
            (λ is. subst (λ (y : Known T E I). lifted_in y.stage ≡ None) (at_once s.views other u x at_other (ap (λ n. get_elem? s.views n) (sym is) ∙ at_j)) (ap lifted_in idle))
            (λ not. dite (ℕ_discrete j id)
            (λ is. subst (λ (y : Known T E I). lifted_in y.stage ≡ None) (at_once s.views id v x at (ap (λ n. get_elem? s.views n) (sym is) ∙ at_j))
            (empty id w (set_else (set s.views id w) other id gone (λ e. apart (sym e)) ∙ set_there s.views id v w at)))
            (λ far. empty j x (set_else (set s.views id w) other j gone not ∙ (set_else s.views id j w far ∙ at_j)))));
        numbers = joined_numbers (rows first) r.now (get_or s.words 3 0) s.views id other v u w gone at apart at_other refl refl r.numbers;
      }

  -- what the slot has at the end, where a pass has laid the value back and called no other
  pub ends : (id : ℕ) (v : Known T E I) (ticket : ℕ) (ws : List ℕ) (xs : List (Option T)) → v.stage ≡ Calls ticket → Final (Seen (Kept birth log rows first) id v) ws xs
      → (y : T) × (get_elem? xs 0 ≡ some (Some y)) × (log y ≡ v.seen) × (birth y ≡ v.birth) × Agrees (rows y) v.owned
  ends id v ticket ws xs calls final = let s = final.0 in let r = final.1.0 in let at = final.1.1 in let rv = r.stands id v at in
      let known = rv.called ticket (ap called_of calls) in
      let mine : ticket_of v.stage ≡ Some (get_or s.words 1 0) = ap ticket_of calls ∙ ap (λ n. Some n) known.0 in
      let h = still_home s r id v at (ap lifted_in calls) (λ j u far at_j. ⊎_elim (λ (e : lifted_in u.stage ≡ None). e) (λ (e : (t : ℕ) × (called_of u.stage ≡ Some t)). absurd (not_lifted s r id v at mine j u far at_j e.0 e.1)) (lifted_is_called u.stage)) in
      let there : get_elem? s.homes 0 ≡ some (some (Some h.0)) = ap (λ l. get_elem? l 0) h.1 in
      (h.0, final.4 0 (Some h.0) there, h.2 ∙ known.1, h.3 ∙ sym (rv.born (ap is_spent calls)).0, λ k e at_k. (r.numbers.right id v at k e at_k).1 ∙ sym (h.4 e.0))

  -- the rule holds at the start
  starts : (ws : List ℕ) (count : ℕ) → length ws ≡ 20 → get_or ws 0 0 ≡ 0 → get_or ws 1 0 ≡ 0 → get_or ws 2 0 ≡ count → get_or ws 3 0 ≡ 1 → count ≡ length (log first)
      → Kept birth log rows first (opening ws (Some first ∷ []) (opens rows birth log first))
  starts ws count wide none_drawn none_called counted one booked = let v : Known T E I = opens rows birth log first in
      let each : (P : ℕ → Known T E I → Type 0) → P 0 v → (j : ℕ) (u : Known T E I) → get_elem? (v ∷ []) j ≡ some u → P j u =
      (λ P here j u at_j. let only = only_place v j u at_j in subst (λ (x : ℕ × Known T E I). P x.0 x.1) (λ i. (sym only.0 i, only.1 i)) here) in record {
        all = log first;
        now = rows first;
        wide = wide;
        fits = omega arith;
        in_turn = omega arith;
        counted = counted ∙ booked;
        stands = each (λ j u. Stands birth log rows first (log first) (rows first) (get_or ws 1 0) (get_or ws 0 0) u)
            record { seen = begins_itself (log first); told = (log first, refl); waits = λ t e. none_some t e; called = λ t e. none_some t e; lifted = λ x e. none_some x e; born = λ _. (refl, refl) };
        apart = λ i j x y t at_i at_j has_i has_j. each (λ k z. ticket_of z.stage ≡ Some t → k ≡ j) (λ has. none_some t has) i x at_i has_i;
        drawn = λ t from to. absurd (omega arith);
        home = λ _. (first, refl, refl, refl, λ n. refl);
        numbers = record {
          right = λ i u at_i k e there. each (λ j z. (k : ℕ) (e : ℕ × List I) → get_elem? z.owned k ≡ some e → (e.0 < get_or ws 3 0) × (e.1 ≡ rows first e.0))
              (λ l d at_l. subst (λ (x : ℕ × List I). (x.0 < get_or ws 3 0) × (x.1 ≡ rows first x.0)) (only_place (0, rows first 0) l d at_l).1 (omega arith, refl)) i u at_i k e there;
          once = λ i j x y at_i at_j k l d e at_k at_l same. (
            (only_place v i x at_i).0 ∙ sym (only_place v j y at_j).0,
            (only_place (0, rows first 0) k d (subst (λ (z : Known T E I). get_elem? z.owned k ≡ some d) (sym (only_place v i x at_i).1) at_k)).0
                ∙ sym (only_place (0, rows first 0) l e (subst (λ (z : Known T E I). get_elem? z.owned l ≡ some e) (sym (only_place v j y at_j).1) at_l)).0,
          );
          unused = λ n le. refl;
        };
      }

  -- the same, over the slots and the value as the caller has them
  pub opens_lock : (ws : List ℕ) (xs : List (Option T)) (x : T) → first ≡ x → xs ≡ Some x ∷ [] → length ws ≡ 20 → get_or ws 0 0 ≡ 0 → get_or ws 1 0 ≡ 0 → get_or ws 2 0 ≡ length (log x) → get_or ws 3 0 ≡ 1
      → Kept birth log rows first (opening ws xs (opens rows birth log first))
  opens_lock ws xs x is slots wide none_drawn none_called counted one = subst (λ l. Kept birth log rows first (opening ws l (opens rows birth log first))) (sym (slots ∙ ap (λ y. Some y ∷ []) (sym is)))
      (starts ws (length (log x)) wide none_drawn none_called counted one (ap (λ y. length (log y)) (sym is)))
