use Rattle.std.proofs.Common.{◌≡◌, ℕ, refl, ap, ◌∙◌, sym, List, length}
use Rattle.std.specs.Prelude.{map, Some, None, is_some}
use Rattle.server_index.specs.Calls.{member_for}
use Rattle.server_index.specs.Tables.{member_of, session_at, Member}
use Rattle.server_index.specs.declared.sessions.Session.{Session}
use Rattle.server_index.specs.Files.{file_at}
use Rattle.server_index.specs.Offers.{held, IsOwned}
use Rattle.std.proofs.lemmas.Bool.{both_ways}
use Rattle.server_index.proofs.CallLemmas.{login_twice, login_many, login_ok}
use Rattle.server_index.proofs.RowLemmas.{others_stay, other_member}
use Rattle.server_index.proofs.SessionLemmas.{members_insert, owns_none, held_none, none_of, owned_after, live_after, counted_after}
use Rattle.server_index.proofs.sessions.login.Goals as goal

pub returns-in-Ok-clause-sound : goal.returns-in-Ok-clause-sound
returns-in-Ok-clause-sound c =
    let w : Session = record { user = c.args.user; id = c.id_for-id.result; port = c.args.port; hashes = c.new.result } in
    let none : session_at c.args.sessions.now.entries c.args.number ≡ None = sym c.in_default.ensures.value in
    let owns : IsOwned c.args.number c.new.result.items c.args.files.now.live.entries = owns_none c.args.number c.args.sessions.now.entries c.args.files.now.live.entries c.new.result.items none c.requires.sound.live in
    let zero : held c.args.number c.args.files.now.live.entries ≡ 0 = held_none c.args.number c.args.files.now.live.entries (λ hash. none_of c.args.files.now.live.entries (hash, c.args.number) (file_at c.args.files.now.live.entries (hash, c.args.number)) refl
    (λ there. both_ways (is_some (session_at c.args.sessions.now.entries c.args.number)) (ap is_some none) (c.requires.sound.live (hash, c.args.number) there))) in
    record {
      kept = c.requires.sound.kept;
      swept = c.requires.sound.swept;
      owned = owned_after c.args.number c.args.sessions.now.entries c.insert.new.self.entries (Some w) c.args.files.now.live.entries c.args.files.now.live.entries c.in-Ok.ensures.updates.0 owns (λ q _. refl) c.requires.sound.owned;
      live = live_after c.args.number c.args.sessions.now.entries c.insert.new.self.entries (Some w) c.args.files.now.live.entries c.args.files.now.live.entries c.in-Ok.ensures.updates.0 (λ q e t. refl) (λ q _. refl) c.requires.sound.live;
      counted = counted_after c.args.number c.args.sessions.now.entries c.insert.new.self.entries (Some w) c.args.files.now.live.entries c.args.files.now.live.entries c.in-Ok.ensures.updates.0 (ap (length {A = List ℕ}) c.new.ensures.items ∙ sym zero) (λ n _. refl) c.requires.sound.counted;
    }

pub returns-in-Ok-clause-others : goal.returns-in-Ok-clause-others
returns-in-Ok-clause-others c =
    let w : Session = record { user = c.args.user; id = c.id_for-id.result; port = c.args.port; hashes = c.new.result } in
    others_stay c.args.number _ _ (other_member c.args.number c.args.sessions.now.entries c.insert.new.self.entries (Some w) c.in-Ok.ensures.updates.0) (λ n _. refl)

pub returns-in-Some-clause-exact : goal.returns-in-Some-clause-exact
returns-in-Some-clause-exact c = λ _. login_twice c.args.number c.args.sessions.now.entries c.args.files.now (member_for c.args.number c.args.user c.args.addr c.args.port c.args.high) c.args.high c.in-Some.session.now (sym c.in-Some.ensures.value)

pub returns-then-has_no_id-clause-exact : goal.returns-then-has_no_id-clause-exact
returns-then-has_no_id-clause-exact c = λ _. login_many c.args.number c.args.sessions.now.entries c.args.files.now (member_for c.args.number c.args.user c.args.addr c.args.port c.args.high) c.args.high (sym c.in_default.ensures.value) (sym c.has_no_id.ensures ∙ c.if-has_no_id.true)

pub returns-in-Ok-clause-exact : goal.returns-in-Ok-clause-exact
returns-in-Ok-clause-exact c =
    let member : Member = member_for c.args.number c.args.user c.args.addr c.args.port c.args.high in
    let shows : (n : ℕ) → member_of (n, record { user = c.args.user; id = c.id_for-id.result; port = c.args.port; hashes = c.new.result }) ≡ (n, member) = λ n i. (n, record { user = c.args.user; id = c.id_for-id.ensures i; port = c.args.port }) in
    login_ok c.args.number c.args.sessions.now.entries c.args.files.now member c.args.high c.insert.new.self.entries c.id_for-id.result (sym c.in_default.ensures.value) (sym c.has_no_id.ensures ∙ c.if-has_no_id.false) c.id_for-id.ensures
    (ap (map member_of) c.in-Ok.ensures.entries ∙ members_insert c.args.sessions.now.entries c.args.number _ member shows)
