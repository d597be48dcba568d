-- That the rows of all other numbers stay.
use Rattle.std.proofs.Common.{◌≡◌, ℕ, true, false, List, refl, sym, ap, ◌∙◌, cond, ⊎_elim, nat_eq, eq-eqb}
use Rattle.std.specs.Prelude.{Option, Some, None, map}
use Rattle.std.specs.List.Sorted.{IsStrictlySortedBy}
use Rattle.std.specs.Map.{keys_of}
use Rattle.std.specs.Ordering.{nat_cmp}
use Rattle.std.specs.BTreeMap.{is_at}
use Rattle.std.proofs.lemmas.Bool.{cases_Bool, cond-false, both_ways, false_from_ne_true, eqb-true}
use Rattle.std.proofs.lemmas.Map.Lookups.{exact_unsigned}
use Rattle.std.proofs.lemmas.Map.Views.{tells_apart}
use Rattle.server_index.specs.Live.{File}
use Rattle.server_index.specs.declared.sessions.Session.{Session}
use Rattle.server_index.specs.Order.{spot_cmp}
use Rattle.server_index.specs.Files.{file_at}
use Rattle.server_index.specs.Offers.{files_of}
use Rattle.server_index.specs.Tables.{Table, OthersStay, member_of, member_at, session_at}
use Rattle.server_index.proofs.EntryLemmas.{keep, sorted_filter, lookup_filter, same_entries}
use Rattle.server_index.proofs.SessionLemmas.{member_at-shown, shown}

-- ---- the files of another number
own_kept : (n : ℕ) (q : List ℕ × ℕ) (o o' : Option File) → (nat_eq q.1 n ≡ true → o' ≡ o) → keep (λ x. nat_eq x.0.1 n) q o' ≡ keep (λ x. nat_eq x.0.1 n) q o
own_kept n q o o' same = ⊎_elim
    (λ e. ap (keep (λ x. nat_eq x.0.1 n) q) (same e))
    (λ e. none o' e ∙ sym (none o e))
    (cases_Bool (nat_eq q.1 n))
  where
    none : (p : Option File) → nat_eq q.1 n ≡ false → keep (λ x. nat_eq x.0.1 n) q p ≡ None
    none None e = refl
    none (Some f) e = cond-false (nat_eq q.1 n) (Some f) None e

pub other_files : (number : ℕ) (old new : List ((List ℕ × ℕ) × File)) → IsStrictlySortedBy spot_cmp (keys_of old) → IsStrictlySortedBy spot_cmp (keys_of new)
    → ((q : List ℕ × ℕ) → nat_eq q.1 number ≡ false → file_at new q ≡ file_at old q) → (n : ℕ) → nat_eq n number ≡ false → files_of n new ≡ files_of n old
other_files number old new so sn same n other = same_entries (files_of n new) (files_of n old) (sorted_filter (λ x. nat_eq x.0.1 n) new sn) (sorted_filter (λ x. nat_eq x.0.1 n) old so)
    (λ q. lookup_filter (λ x. nat_eq x.0.1 n) q new sn
    ∙ own_kept n q (file_at old q) (file_at new q) (λ e. same q (ap (λ (k : ℕ). nat_eq k number) (eqb-true q.1 n e) ∙ other))
    ∙ sym (lookup_filter (λ x. nat_eq x.0.1 n) q old so))

-- ---- the session of another number
pub other_member : (number : ℕ) (old new : List (ℕ × Session)) (o : Option Session) → ((n : ℕ) → session_at new n ≡ cond (is_at (nat_cmp number) n) o (session_at old n))
    → (n : ℕ) → nat_eq n number ≡ false → member_at (map member_of new) n ≡ member_at (map member_of old) n
other_member number old new o updates n other =
    let apart : is_at (nat_cmp number) n ≡ false = false_from_ne_true _ (λ t. both_ways (nat_eq n number) other (eq-eqb n number (sym (tells_apart exact_unsigned number n t)))) in
    member_at-shown n new ∙ ap shown (updates n ∙ cond-false _ o (session_at old n) apart) ∙ sym (member_at-shown n old)

-- ---- both
pub others_stay : (number : ℕ) (old new : Table) → ((n : ℕ) → nat_eq n number ≡ false → member_at new.sessions n ≡ member_at old.sessions n)
    → ((n : ℕ) → nat_eq n number ≡ false → files_of n new.files ≡ files_of n old.files) → OthersStay number old new
others_stay number old new members files n other = λ i. record { member = members n other i; files = files n other i }

pub same_table : (a b : Table) → a.sessions ≡ b.sessions → a.files ≡ b.files → a ≡ b
same_table a b sessions files = λ i. record { sessions = sessions i; files = files i }

pub none_changed : (number : ℕ) (old new : Table) → new ≡ old → OthersStay number old new
none_changed number old new same n other = ap (λ (t : Table). record { member = member_at t.sessions n; files = files_of n t.files }) same
