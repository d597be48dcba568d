-- What a call comes to, by the session of its number.
use Rattle.std.proofs.Common.{◌≡◌, ℕ, Bool, true, false, List, sym, ap, ◌∙◌}
use Rattle.std.specs.Prelude.{Option, Some, None, Result, Ok, Err, map, min, if◌then◌else◌}
use Rattle.std.specs.BTreeMap.{insert_entry}
use Rattle.std.specs.Ordering.{nat_cmp}
use Rattle.std.proofs.lemmas.Bool.{cond-true, cond-false}
use Rattle.search_expr.specs.declared.expr.FileRow.{FileRow}
use Rattle.server_index.specs.declared.files.Files.{Files}
use Rattle.server_index.specs.declared.sessions.Session.{Session}
use Rattle.server_index.specs.declared.sessions.IndexFault.{IndexFault}
use Rattle.server_index.specs.declared.sessions.IndexFault.TheVariants.{Already, Many, NotIn}
use Rattle.server_index.specs.Calls.{after_offer, has_no_id, logged_in, offered_by, offered_to, unless_live, with_member}
use Rattle.server_index.specs.Offers.{offered}
use Rattle.server_index.specs.Tables.{Member, Table, member_of, session_at, table_of}
use Rattle.server_index.proofs.SessionLemmas.{member_at-shown, shown}

module _ (number : ℕ) (sessions : List (ℕ × Session)) (files : Files) where
  -- ---- a login
  outcome : Member → Bool → Result (ℕ × Table) IndexFault
  outcome member high = if has_no_id number high then Err (Many number) else Ok (member.id, with_member number member (table_of sessions files))

  by_session : (member : Member) (high : Bool) (o : Option Session) → session_at sessions number ≡ o → logged_in number member high (table_of sessions files) ≡ unless_live (shown o) (outcome member high)
  unfolding outcome
  by_session member high o at = ap (λ (m : Option Member). unless_live m (if has_no_id number high then Err (Many number) else Ok (member.id, with_member number member (table_of sessions files)))) (member_at-shown number sessions ∙ ap shown at)

  pub login_twice : (member : Member) (high : Bool) (s : Session) → session_at sessions number ≡ Some s → logged_in number member high (table_of sessions files) ≡ Err (Already s.id)
  login_twice member high s at = by_session member high (Some s) at

  pub login_many : (member : Member) (high : Bool) → session_at sessions number ≡ None → (has_no_id number high) ≡ true → logged_in number member high (table_of sessions files) ≡ Err (Many number)
  unfolding outcome
  login_many member high none many = by_session member high None none ∙ cond-true _ (Err (Many number)) (Ok (member.id, with_member number member (table_of sessions files))) many

  pub login_new : (member : Member) (high : Bool) → session_at sessions number ≡ None → (has_no_id number high) ≡ false → logged_in number member high (table_of sessions files) ≡ Ok (member.id, with_member number member (table_of sessions files))
  unfolding outcome
  login_new member high none few = by_session member high None none ∙ cond-false _ (Err (Many number)) (Ok (member.id, with_member number member (table_of sessions files))) few

  pub login_ok : (member : Member) (high : Bool) (sessions' : List (ℕ × Session)) (id : ℕ) → session_at sessions number ≡ None → has_no_id number high ≡ false
      → id ≡ member.id → map member_of sessions' ≡ insert_entry nat_cmp (map member_of sessions) number member → logged_in number member high (table_of sessions files) ≡ Ok (id, table_of sessions' files)
  login_ok member high sessions' id none few is members = login_new member high none few ∙ sym (λ i. Ok (is i, record { sessions = members i; files = files.live.entries }))

  -- ---- an offer
  pub offer_none : (rows : List FileRow) → session_at sessions number ≡ None → offered_to number rows (table_of sessions files) ≡ Err NotIn
  offer_none rows none = ap (λ (m : Option Member). offered_by number m rows (table_of sessions files)) (member_at-shown number sessions ∙ ap shown none)

  pub offer_some : (rows : List FileRow) (s : Session) → session_at sessions number ≡ Some s
      → offered_to number rows (table_of sessions files) ≡ after_offer (table_of sessions files) (offered (record { number = number; id = s.id; port = s.port }) 0 files.live.entries rows)
  offer_some rows s at = ap (λ (m : Option Member). offered_by number m rows (table_of sessions files)) (member_at-shown number sessions ∙ ap shown at)

  pub offered_ok : (rows : List FileRow) (s : Session) (taken : ℕ) (sessions' : List (ℕ × Session)) (files' : Files) (told : ℕ) → session_at sessions number ≡ Some s
      → map member_of sessions' ≡ map member_of sessions → told ≡ min taken 4294967295
      → (taken, files'.live.entries) ≡ offered (record { number = number; id = s.id; port = s.port }) 0 files.live.entries rows
      → offered_to number rows (table_of sessions files) ≡ Ok (told, table_of sessions' files')
  offered_ok rows s taken sessions' files' told at members is out =
      offer_some rows s at ∙ ap (after_offer (table_of sessions files)) (sym out)
      ∙ sym (λ i. Ok (is i, record { sessions = members i; files = files'.live.entries }))
