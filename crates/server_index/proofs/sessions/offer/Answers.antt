use Rattle.std.proofs.Common.{◌≡◌, ℕ, List, refl, sym, ap, ◌∙◌, length}
use Rattle.std.specs.Prelude.{Some, map, is_some}
use Rattle.std.specs.Ordering.{nat_cmp}
use Rattle.std.specs.BTreeMap.{is_at}
use Rattle.server_index.specs.Live.{File}
use Rattle.server_index.specs.declared.sessions.Session.{Session}
use Rattle.server_index.specs.Offers.{held}
use Rattle.server_index.specs.Tables.{Member, member_at, member_of}
use Rattle.server_index.proofs.CallLemmas.{offer_none, offered_ok}
use Rattle.server_index.proofs.RowLemmas.{others_stay, same_table}
use Rattle.server_index.proofs.SessionLemmas.{members_set, owned_after, live_after, counted_after, if_some_at}
use Rattle.server_index.proofs.sessions.offer.Goals as goal

pub returns-in-Ok-clause-sound : goal.returns-in-Ok-clause-sound
returns-in-Ok-clause-sound c =
    let w : Session = record { user = c.in-Some.session.now.user; id = c.in-Some.session.now.id; port = c.in-Some.session.now.port; hashes = c.offer_rows.new.hashes } in
    record {
      kept = c.offer_rows.ensures.kept;
      swept = c.offer_rows.ensures.swept;
      owned = owned_after c.args.number c.args.sessions.now.entries (c.get_mut.follows.lender w).entries (Some w) c.args.files.now.live.entries c.offer_rows.new.files.live.entries ((c.get_mut.follows.holds w).3 (ap is_some (sym c.in-Some.ensures.value))).0 c.offer_rows.ensures.owned c.offer_rows.ensures.others c.requires.sound.owned;
      live = live_after c.args.number c.args.sessions.now.entries (c.get_mut.follows.lender w).entries (Some w) c.args.files.now.live.entries c.offer_rows.new.files.live.entries ((c.get_mut.follows.holds w).3 (ap is_some (sym c.in-Some.ensures.value))).0 (λ q e t. refl) c.offer_rows.ensures.others c.requires.sound.live;
      counted = counted_after c.args.number c.args.sessions.now.entries (c.get_mut.follows.lender w).entries (Some w) c.args.files.now.live.entries c.offer_rows.new.files.live.entries ((c.get_mut.follows.holds w).3 (ap is_some (sym c.in-Some.ensures.value))).0 c.offer_rows.ensures.counted (λ n e. ap (length {A = (List ℕ × ℕ) × File}) (c.offer_rows.ensures.other_files n e)) c.requires.sound.counted;
    }

pub returns-in-Ok-clause-others : goal.returns-in-Ok-clause-others
returns-in-Ok-clause-others c =
    let w : Session = record { user = c.in-Some.session.now.user; id = c.in-Some.session.now.id; port = c.in-Some.session.now.port; hashes = c.offer_rows.new.hashes } in
    let same : map member_of (c.get_mut.follows.lender w).entries ≡ map member_of c.args.sessions.now.entries = ap (map member_of) (c.get_mut.follows.holds w).0 ∙ members_set (is_at (nat_cmp c.args.number)) c.args.sessions.now.entries c.in-Some.session.now w (sym c.in-Some.ensures.value) (λ n. refl) in
    others_stay c.args.number _ _ (λ n _. ap (λ (l : List (ℕ × Member)). member_at l n) same) c.offer_rows.ensures.other_files

pub returns-in-Err-clause-sound : goal.returns-in-Err-clause-sound
returns-in-Err-clause-sound c =
    let w : Session = record { user = c.in-Some.session.now.user; id = c.in-Some.session.now.id; port = c.in-Some.session.now.port; hashes = c.offer_rows.new.hashes } in
    record {
      kept = c.offer_rows.ensures.kept;
      swept = c.offer_rows.ensures.swept;
      owned = owned_after c.args.number c.args.sessions.now.entries (c.get_mut.follows.lender w).entries (Some w) c.args.files.now.live.entries c.offer_rows.new.files.live.entries ((c.get_mut.follows.holds w).3 (ap is_some (sym c.in-Some.ensures.value))).0 c.offer_rows.ensures.owned c.offer_rows.ensures.others c.requires.sound.owned;
      live = live_after c.args.number c.args.sessions.now.entries (c.get_mut.follows.lender w).entries (Some w) c.args.files.now.live.entries c.offer_rows.new.files.live.entries ((c.get_mut.follows.holds w).3 (ap is_some (sym c.in-Some.ensures.value))).0 (λ q e t. refl) c.offer_rows.ensures.others c.requires.sound.live;
      counted = counted_after c.args.number c.args.sessions.now.entries (c.get_mut.follows.lender w).entries (Some w) c.args.files.now.live.entries c.offer_rows.new.files.live.entries ((c.get_mut.follows.holds w).3 (ap is_some (sym c.in-Some.ensures.value))).0 c.offer_rows.ensures.counted (λ n e. ap (length {A = (List ℕ × ℕ) × File}) (c.offer_rows.ensures.other_files n e)) c.requires.sound.counted;
    }

pub returns-in-Err-clause-others : goal.returns-in-Err-clause-others
returns-in-Err-clause-others c =
    let w : Session = record { user = c.in-Some.session.now.user; id = c.in-Some.session.now.id; port = c.in-Some.session.now.port; hashes = c.offer_rows.new.hashes } in
    let same : map member_of (c.get_mut.follows.lender w).entries ≡ map member_of c.args.sessions.now.entries = ap (map member_of) (c.get_mut.follows.holds w).0 ∙ members_set (is_at (nat_cmp c.args.number)) c.args.sessions.now.entries c.in-Some.session.now w (sym c.in-Some.ensures.value) (λ n. refl) in
    others_stay c.args.number _ _ (λ n _. ap (λ (l : List (ℕ × Member)). member_at l n) same) c.offer_rows.ensures.other_files

pub returns-in-Ok-clause-exact : goal.returns-in-Ok-clause-exact
returns-in-Ok-clause-exact c =
    let w : Session = record { user = c.in-Some.session.now.user; id = c.in-Some.session.now.id; port = c.in-Some.session.now.port; hashes = c.offer_rows.new.hashes } in
    let same : map member_of (c.get_mut.follows.lender w).entries ≡ map member_of c.args.sessions.now.entries = ap (map member_of) (c.get_mut.follows.holds w).0 ∙ members_set (is_at (nat_cmp c.args.number)) c.args.sessions.now.entries c.in-Some.session.now w (sym c.in-Some.ensures.value) (λ n. refl) in
    offered_ok c.args.number c.args.sessions.now.entries c.args.files.now c.args.rows.items c.in-Some.session.now _ (c.get_mut.follows.lender w).entries c.offer_rows.new.files c.told.result (sym c.in-Some.ensures.value) same c.told.ensures c.in-Ok.ensures.ok

pub returns-in-Err-clause-err : goal.returns-in-Err-clause-err
returns-in-Err-clause-err c =
    let w : Session = record { user = c.in-Some.session.now.user; id = c.in-Some.session.now.id; port = c.in-Some.session.now.port; hashes = c.offer_rows.new.hashes } in
    same_table _ _ (ap (map member_of) (c.get_mut.follows.holds w).0 ∙ members_set (is_at (nat_cmp c.args.number)) c.args.sessions.now.entries c.in-Some.session.now w (sym c.in-Some.ensures.value) (λ n. refl)) c.in-Err.ensures.err

pub offer_rows-requires-clause-counted : goal.offer_rows-requires-clause-counted
offer_rows-requires-clause-counted c = if_some_at (λ (s : Session). length s.hashes.items ≡ held c.args.number c.args.files.now.live.entries) _ c.in-Some.session.now (sym c.in-Some.ensures.value) (c.requires.sound.counted c.args.number)

pub returns-in_default-clause-exact : goal.returns-in_default-clause-exact
returns-in_default-clause-exact c = λ _. offer_none c.args.number c.args.sessions.now.entries c.args.files.now c.args.rows.items (sym c.in_default.ensures.value)
