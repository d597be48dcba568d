-- One session's change, and what all sessions own.
use Rattle.std.proofs.Common.{◌≡◌, ℕ, Bool, true, false, List, [], ◌∷◌, refl, sym, ap, ◌∙◌, subst, cond, ⊎_elim, nat_eq, eq-eqb, length}
use Rattle.std.specs.Prelude.{Option, Some, None, IsSome, is_some, map, filter, not, ◌↔◌, Result, Ok, Err, IfOk, IsSomeAnd}
use Rattle.std.specs.Option.{IfSome}
use Rattle.std.specs.Map.{lookup, set_value, remove_entry}
use Rattle.std.specs.declared.cmp.Ordering.{Ordering}
use Rattle.std.specs.declared.cmp.Ordering.TheVariants.{Less, Equal, Greater}
use Rattle.std.specs.Ordering.{is_eq, nat_cmp, match_ordering}
use Rattle.std.specs.BTreeMap.{is_at, insert_entry}
use Rattle.std.proofs.lemmas.Bool.{cases_Bool, cond-true, cond-false, both_ways, eqb-true, false_from_ne_true}
use Rattle.std.proofs.lemmas.Cmp.{eq_by_cmp_equiv, nat_cmp_total}
use Rattle.std.proofs.lemmas.Map.Lookups.{exact_unsigned}
use Rattle.std.proofs.lemmas.Map.Views.{tells_apart}
use Rattle.server_index.specs.Live.{File}
use Rattle.server_index.specs.declared.sessions.Session.{Session}
use Rattle.server_index.specs.Files.{file_at}
use Rattle.server_index.specs.Offers.{IsOwned, held}
use Rattle.server_index.specs.Tables.{member_of, member_at, session_at, Member}
use Rattle.std.proofs.lemmas.Map.Entries.{lookup_head, lookup_tail}
use Rattle.server_index.specs.Order.{spot_cmp}
use Rattle.server_index.proofs.EntryLemmas.{spot_total}
use Rattle.server_index.proofs.FileLemmas.{if_some_map}

is_eq-same : (n : ℕ) → is_eq (nat_cmp n n) ≡ true
is_eq-same n = (eq_by_cmp_equiv nat_cmp_total).refl n

some_same : {A : Type 0} (x y : A) → Some x ≡ Some y → x ≡ y
some_same x y e = cc

-- a session whose hashes alone changed
pub members_set : (test : ℕ → Bool) (es : List (ℕ × Session)) (s w : Session) → lookup test es ≡ Some s → ((n : ℕ) → member_of (n, w) ≡ member_of (n, s)) → map member_of (set_value test es w) ≡ map member_of es
members_set test [] s w at same = refl
members_set test (e ∷ es) s w at same = ⊎_elim
    (λ t. let here : e.1 ≡ s = some_same e.1 s (sym (cond-true (test e.0) (Some e.1) (lookup test es) t) ∙ at) in
    let set : set_value test (e ∷ es) w ≡ (e.0, w) ∷ es = cond-true (test e.0) ((e.0, w) ∷ es) (e ∷ set_value test es w) t in
    ap (map member_of) set ∙ ap (λ (m : ℕ × Member). m ∷ map member_of es) (same e.0 ∙ ap (λ (x : Session). member_of (e.0, x)) (sym here)))
    (λ t. let set : set_value test (e ∷ es) w ≡ e ∷ set_value test es w = cond-false (test e.0) ((e.0, w) ∷ es) (e ∷ set_value test es w) t in
    ap (map member_of) set ∙ ap (λ (m : List (ℕ × Member)). member_of e ∷ m) (members_set test es s w (sym (cond-false (test e.0) (Some e.1) (lookup test es) t) ∙ at) same))
    (cases_Bool (test e.0))

pub owned_after : (number : ℕ) (old new : List (ℕ × Session)) (o : Option Session) (files files' : List ((List ℕ × ℕ) × File))
    → ((n : ℕ) → session_at new n ≡ cond (is_at (nat_cmp number) n) o (session_at old n))
    → IfSome o (λ w. IsOwned number w.hashes.items files')
    → ((q : List ℕ × ℕ) → nat_eq q.1 number ≡ false → file_at files' q ≡ file_at files q)
    → ((n : ℕ) → IfSome (session_at old n) (λ s. IsOwned n s.hashes.items files)) → (n : ℕ) → IfSome (session_at new n) (λ s. IsOwned n s.hashes.items files')
owned_after number old new o files files' u own others before n = ⊎_elim
    (λ e. let at : session_at new n ≡ o = u n ∙ cond-true _ o (session_at old n) e in
    rw at (subst (λ (k : ℕ). IfSome o (λ w. IsOwned k w.hashes.items files')) (tells_apart exact_unsigned number n e) own))
    (λ e. let at : session_at new n ≡ session_at old n = u n ∙ cond-false _ o (session_at old n) e in
    let apart : nat_eq n number ≡ false = false_from_ne_true _ (λ t. both_ways (is_at (nat_cmp number) n) e (subst (λ (k : ℕ). is_eq (nat_cmp number k) ≡ true) (sym (eqb-true n number t)) (is_eq-same number))) in
    rw at (if_some_map _ _ (session_at old n) (λ s own_s hash there. own_s hash (rw (others (hash, n) apart) at there)) (before n)))
    (cases_Bool (is_at (nat_cmp number) n))

-- each file's session is live
pub live_after : (number : ℕ) (old new : List (ℕ × Session)) (o : Option Session) (files files' : List ((List ℕ × ℕ) × File))
    → ((n : ℕ) → session_at new n ≡ cond (is_at (nat_cmp number) n) o (session_at old n))
    → ((q : List ℕ × ℕ) → nat_eq q.1 number ≡ true → IsSome (file_at files' q) → IsSome o)
    → ((q : List ℕ × ℕ) → nat_eq q.1 number ≡ false → file_at files' q ≡ file_at files q)
    → ((q : List ℕ × ℕ) → IsSome (file_at files q) → IsSome (session_at old q.1)) → (q : List ℕ × ℕ) → IsSome (file_at files' q) → IsSome (session_at new q.1)
live_after number old new o files files' u own others before q there = ⊎_elim
    (λ e. let at : session_at new q.1 ≡ o = u q.1 ∙ cond-true _ o (session_at old q.1) e in
    let same : number ≡ q.1 = tells_apart exact_unsigned number q.1 e in
    rw at (own q (eq-eqb q.1 number (sym same)) there))
    (λ e. let at : session_at new q.1 ≡ session_at old q.1 = u q.1 ∙ cond-false _ o (session_at old q.1) e in
    let apart : nat_eq q.1 number ≡ false = false_from_ne_true _ (λ t. both_ways (is_at (nat_cmp number) q.1) e (subst (λ (k : ℕ). is_eq (nat_cmp number k) ≡ true) (sym (eqb-true q.1 number t)) (is_eq-same number))) in
    rw at (before q (rw (others q apart) at there)))
    (cases_Bool (is_at (nat_cmp number) q.1))

-- a session that is new owns nothing
pub owns_none : (number : ℕ) (sessions : List (ℕ × Session)) (files : List ((List ℕ × ℕ) × File)) (hashes : List (List ℕ)) → session_at sessions number ≡ None
    → ((q : List ℕ × ℕ) → IsSome (file_at files q) → IsSome (session_at sessions q.1)) → IsOwned number hashes files
owns_none number sessions files hashes none live hash there = absurd (both_ways (is_some (session_at sessions number)) (ap is_some none) (live (hash, number) there))

pub no_file : (files : List ((List ℕ × ℕ) × File)) (q : List ℕ × ℕ) (P : Type 0) → file_at files q ≡ None → IsSome (file_at files q) → P
no_file files q P none there = absurd (both_ways (is_some (file_at files q)) (ap is_some none) there)

map_order : {A B : Type 0} (f : A → B) (o : Ordering) (a b c : List A) → map f (match_ordering o a b c) ≡ match_ordering o (map f a) (map f b) (map f c)
map_order f Less a b c = refl
map_order f Equal a b c = refl
map_order f Greater a b c = refl

pub members_insert : (es : List (ℕ × Session)) (number : ℕ) (s : Session) (m : Member) → ((n : ℕ) → member_of (n, s) ≡ (n, m)) → map member_of (insert_entry nat_cmp es number s) ≡ insert_entry nat_cmp (map member_of es) number m
members_insert [] number s m is = ap (λ (x : ℕ × Member). x ∷ []) (is number)
members_insert (e ∷ es) number s m is =
    map_order member_of (nat_cmp number e.0) ((number, s) ∷ e ∷ es) ((e.0, s) ∷ es) (e ∷ insert_entry nat_cmp es number s)
    ∙ ap (λ (x : ℕ × Member). match_ordering (nat_cmp number e.0) (x ∷ map member_of (e ∷ es)) (member_of (e.0, s) ∷ map member_of es) (member_of e ∷ map member_of (insert_entry nat_cmp es number s))) (is number)
    ∙ ap (λ (x : ℕ × Member). match_ordering (nat_cmp number e.0) ((number, m) ∷ map member_of (e ∷ es)) (x ∷ map member_of es) (member_of e ∷ map member_of (insert_entry nat_cmp es number s))) (is e.0)
    ∙ ap (λ (l : List (ℕ × Member)). match_ordering (nat_cmp number e.0) ((number, m) ∷ map member_of (e ∷ es)) ((e.0, m) ∷ map member_of es) (member_of e ∷ l)) (members_insert es number s m is)

pub counted_after : (number : ℕ) (old new : List (ℕ × Session)) (o : Option Session) (files files' : List ((List ℕ × ℕ) × File))
    → ((n : ℕ) → session_at new n ≡ cond (is_at (nat_cmp number) n) o (session_at old n))
    → IfSome o (λ w. length w.hashes.items ≡ held number files')
    → ((n : ℕ) → nat_eq n number ≡ false → held n files' ≡ held n files)
    → ((n : ℕ) → IfSome (session_at old n) (λ s. length s.hashes.items ≡ held n files)) → (n : ℕ) → IfSome (session_at new n) (λ s. length s.hashes.items ≡ held n files')
counted_after number old new o files files' u own others before n = ⊎_elim
    (λ e. let at : session_at new n ≡ o = u n ∙ cond-true _ o (session_at old n) e in
    rw at (subst (λ (k : ℕ). IfSome o (λ w. length w.hashes.items ≡ held k files')) (tells_apart exact_unsigned number n e) own))
    (λ e. let at : session_at new n ≡ session_at old n = u n ∙ cond-false _ o (session_at old n) e in
    let apart : nat_eq n number ≡ false = false_from_ne_true _ (λ t. both_ways (is_at (nat_cmp number) n) e (subst (λ (k : ℕ). is_eq (nat_cmp number k) ≡ true) (sym (eqb-true n number t)) (is_eq-same number))) in
    rw at (if_some_map _ _ (session_at old n) (λ s count. count ∙ sym (others n apart)) (before n)))
    (cases_Bool (is_at (nat_cmp number) n))

pub if_some_at : {A : Type 0} (P : A → Type 0) (o : Option A) (x : A) → o ≡ Some x → IfSome o P → P x
if_some_at {A = A} P o x e h = subst (λ (p : Option A). IfSome p P) e h

pub nat_eq-flip : (a b : ℕ) → nat_eq a b ≡ false → nat_eq b a ≡ false
nat_eq-flip a b e = false_from_ne_true _ (λ t. both_ways (nat_eq a b) e (eq-eqb a b (sym (eqb-true b a t))))

cond-false' : (number : ℕ) (e : (List ℕ × ℕ) × File) (es : List ((List ℕ × ℕ) × File)) → nat_eq e.0.1 number ≡ false → held number (e ∷ es) ≡ held number es
cond-false' number e es other = ap (length {A = (List ℕ × ℕ) × File}) (cond-false (nat_eq e.0.1 number) (e ∷ filter (λ x. nat_eq x.0.1 number) es) (filter (λ x. nat_eq x.0.1 number) es) other)

pub none_of : (files : List ((List ℕ × ℕ) × File)) (q : List ℕ × ℕ) (o : Option File) → file_at files q ≡ o → (IsSome (file_at files q) → ⊥) → file_at files q ≡ None
none_of files q None at never = at
none_of files q (Some f) at never = absurd (never (ap is_some at))

-- where no file is at the session's spots it has none
pub held_none : (number : ℕ) (es : List ((List ℕ × ℕ) × File)) → ((hash : List ℕ) → file_at es (hash, number) ≡ None) → held number es ≡ 0
held_none number [] none = refl
held_none number (e ∷ es) none =
    let other : nat_eq e.0.1 number ≡ false = false_from_ne_true _ (λ t.
    let same : e.0 ≡ (e.0.0, number) = ap (λ (n : ℕ). (e.0.0, n)) (eqb-true e.0.1 number t) in
    both_ways (is_some (file_at (e ∷ es) (e.0.0, number))) (ap is_some (none e.0.0)) (ap is_some (ap (file_at (e ∷ es)) (sym same) ∙ lookup_head (is_at (spot_cmp e.0)) e es ((eq_by_cmp_equiv spot_total).refl e.0)))) in
    cond-false' number e es other ∙ held_none number es (λ hash. ⊎_elim
    (λ t. absurd (both_ways (is_some (file_at (e ∷ es) (hash, number))) (ap is_some (none hash)) (ap is_some (lookup_head (is_at (spot_cmp (hash, number))) e es t))))
    (λ t. sym (lookup_tail (is_at (spot_cmp (hash, number))) e es t) ∙ none hash)
    (cases_Bool (is_at (spot_cmp (hash, number)) e.0)))

-- where no file is at the session's spots, all files are others'
pub others_all : (number : ℕ) (es : List ((List ℕ × ℕ) × File)) → ((hash : List ℕ) → file_at es (hash, number) ≡ None) → filter (λ x. not (nat_eq x.0.1 number)) es ≡ es
others_all number [] none = refl
others_all number (e ∷ es) none =
    let other : nat_eq e.0.1 number ≡ false = false_from_ne_true _ (λ t.
    let same : e.0 ≡ (e.0.0, number) = ap (λ (n : ℕ). (e.0.0, n)) (eqb-true e.0.1 number t) in
    both_ways (is_some (file_at (e ∷ es) (e.0.0, number))) (ap is_some (none e.0.0)) (ap is_some (ap (file_at (e ∷ es)) (sym same) ∙ lookup_head (is_at (spot_cmp e.0)) e es ((eq_by_cmp_equiv spot_total).refl e.0)))) in
    cond-true (not (nat_eq e.0.1 number)) (e ∷ filter (λ x. not (nat_eq x.0.1 number)) es) (filter (λ x. not (nat_eq x.0.1 number)) es) (ap not other)
    ∙ ap (λ (l : List ((List ℕ × ℕ) × File)). e ∷ l) (others_all number es (λ hash. ⊎_elim
    (λ t. absurd (both_ways (is_some (file_at (e ∷ es) (hash, number))) (ap is_some (none hash)) (ap is_some (lookup_head (is_at (spot_cmp (hash, number))) e es t))))
    (λ t. sym (lookup_tail (is_at (spot_cmp (hash, number))) e es t) ∙ none hash)
    (cases_Bool (is_at (spot_cmp (hash, number)) e.0))))

pub members_remove : (test : ℕ → Bool) (es : List (ℕ × Session)) → map member_of (remove_entry test es) ≡ remove_entry test (map member_of es)
members_remove test [] = refl
members_remove test (e ∷ es) = ⊎_elim
    (λ t. ap (map member_of) (cond-true (test e.0) es (e ∷ remove_entry test es) t) ∙ sym (cond-true (test e.0) (map member_of es) (member_of e ∷ remove_entry test (map member_of es)) t))
    (λ t. ap (map member_of) (cond-false (test e.0) es (e ∷ remove_entry test es) t) ∙ ap (λ (l : List (ℕ × Member)). member_of e ∷ l) (members_remove test es) ∙ sym (cond-false (test e.0) (map member_of es) (member_of e ∷ remove_entry test (map member_of es)) t))
    (cases_Bool (test e.0))

-- a session as an index shows it
abbrev pub shown : Option Session → Option Member
shown None = None
shown (Some s) = Some (record { user = s.user; id = s.id; port = s.port })

pub member_at-shown : (n : ℕ) (es : List (ℕ × Session)) → member_at (map member_of es) n ≡ shown (session_at es n)
member_at-shown n [] = refl
member_at-shown n (e ∷ es) = ⊎_elim
    (λ t. cond-true (is_at (nat_cmp n) e.0) (Some (member_of e).1) (member_at (map member_of es) n) t ∙ ap shown (sym (cond-true (is_at (nat_cmp n) e.0) (Some e.1) (session_at es n) t)))
    (λ t. cond-false (is_at (nat_cmp n) e.0) (Some (member_of e).1) (member_at (map member_of es) n) t ∙ member_at-shown n es ∙ ap shown (sym (cond-false (is_at (nat_cmp n) e.0) (Some e.1) (session_at es n) t)))
    (cases_Bool (is_at (nat_cmp n) e.0))

shown_none : (o : Option Session) → shown o ≡ None → o ≡ None
shown_none None e = refl
shown_none (Some s) e = absurd (both_ways true (ap is_some e) refl)

pub no_member : (n : ℕ) (es : List (ℕ × Session)) (members : List (ℕ × Member)) → map member_of es ≡ members → (session_at es n ≡ None) ↔ (member_at members n ≡ None)
no_member n es members is = (
  λ e. ap (λ (l : List (ℕ × Member)). member_at l n) (sym is) ∙ member_at-shown n es ∙ ap shown e,
  λ e. shown_none (session_at es n) (sym (member_at-shown n es) ∙ ap (λ (l : List (ℕ × Member)). member_at l n) is ∙ e),
)

shown_if : (P : ℕ → ℕ → Type 0) (o : Option Session) → IfSome o (λ s. P s.id s.port) → IfSome (shown o) (λ m. P m.id m.port)
shown_if P None h = tt
shown_if P (Some s) h = h

pub member_if : (P : ℕ → ℕ → Type 0) (n : ℕ) (es : List (ℕ × Session)) (members : List (ℕ × Member)) → map member_of es ≡ members → IfSome (session_at es n) (λ s. P s.id s.port) → IfSome (member_at members n) (λ m. P m.id m.port)
member_if P n es members is h = subst (λ (l : List (ℕ × Member)). IfSome (member_at l n) (λ m. P m.id m.port)) is (rw (member_at-shown n es) (shown_if P (session_at es n) h))

pub if_ok_map : {A E : Type 0} (r : Result A E) (P Q : A → Type 0) → ((x : A) → P x → Q x) → IfOk r P → IfOk r Q
if_ok_map (Ok x) P Q f h = f x h
if_ok_map (Err e) P Q f h = tt

shown_and : (id : ℕ) (o : Option Session) → (IsSomeAnd o (λ s. s.id ≡ id) → IsSomeAnd (shown o) (λ m. m.id ≡ id)) × (IsSomeAnd (shown o) (λ m. m.id ≡ id) → IsSomeAnd o (λ s. s.id ≡ id))
shown_and id None = (λ h. h, λ h. h)
shown_and id (Some s) = (λ h. h, λ h. h)

pub member_and : (id n : ℕ) (es : List (ℕ × Session)) (members : List (ℕ × Member)) → map member_of es ≡ members → IsSomeAnd (session_at es n) (λ s. s.id ≡ id) ↔ IsSomeAnd (member_at members n) (λ m. m.id ≡ id)
member_and id n es members is =
    let at : member_at members n ≡ shown (session_at es n) = ap (λ (l : List (ℕ × Member)). member_at l n) (sym is) ∙ member_at-shown n es in
    (λ h. rw at ((shown_and id (session_at es n)).0 h), λ h. (shown_and id (session_at es n)).1 (rw at at h))
