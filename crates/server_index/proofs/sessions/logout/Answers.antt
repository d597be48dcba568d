use Rattle.std.proofs.Common.{◌∙◌, ℕ, List, sym, ap, refl, length}
use Rattle.std.specs.Prelude.{None, is_some, map}
use Rattle.std.specs.Ordering.{nat_cmp}
use Rattle.std.specs.BTreeMap.{is_at}
use Rattle.std.proofs.lemmas.Bool.{both_ways}
use Rattle.server_index.specs.Live.{File}
use Rattle.server_index.specs.Files.{file_at}
use Rattle.server_index.specs.Tables.{member_of, session_at}
use Rattle.server_index.proofs.RowLemmas.{others_stay, other_member, same_table}
use Rattle.server_index.proofs.SessionLemmas.{owned_after, live_after, no_file, counted_after, others_all, none_of, members_remove}
use Rattle.server_index.proofs.sessions.logout.Goals as goal

pub returns-in-Some-clause-sound : goal.returns-in-Some-clause-sound
returns-in-Some-clause-sound c = record {
  kept = c.remove_all.ensures.kept;
  swept = c.remove_all.ensures.swept;
  owned = owned_after c.args.number c.args.sessions.now.entries c.remove.new.self.entries None c.args.files.now.live.entries c.remove_all.new.files.live.entries c.remove.ensures.updates.0 tt c.remove_all.ensures.others c.requires.sound.owned;
  live = live_after c.args.number c.args.sessions.now.entries c.remove.new.self.entries None c.args.files.now.live.entries c.remove_all.new.files.live.entries c.remove.ensures.updates.0 (λ q e t. no_file c.remove_all.new.files.live.entries q _ (c.remove_all.ensures.none q e) t) c.remove_all.ensures.others c.requires.sound.live;
  counted = counted_after c.args.number c.args.sessions.now.entries c.remove.new.self.entries None c.args.files.now.live.entries c.remove_all.new.files.live.entries c.remove.ensures.updates.0 tt (λ n e. ap (length {A = (List ℕ × ℕ) × File}) (c.remove_all.ensures.other_files n e)) c.requires.sound.counted;
}

pub returns-in-Some-clause-exact : goal.returns-in-Some-clause-exact
returns-in-Some-clause-exact c = same_table _ _ (ap (map member_of) c.remove.ensures.entries ∙ members_remove (is_at (nat_cmp c.args.number)) c.args.sessions.now.entries) c.remove_all.ensures.gone

pub returns-in-Some-clause-others : goal.returns-in-Some-clause-others
returns-in-Some-clause-others c = others_stay c.args.number _ _ (other_member c.args.number c.args.sessions.now.entries c.remove.new.self.entries None c.remove.ensures.updates.0) c.remove_all.ensures.other_files

pub returns-in_default-clause-exact : goal.returns-in_default-clause-exact
returns-in_default-clause-exact c =
    let none = c.in_default.ensures.value in
    same_table _ _ (ap (map member_of) c.remove.ensures.entries ∙ members_remove (is_at (nat_cmp c.args.number)) c.args.sessions.now.entries)
    (sym (others_all c.args.number c.args.files.now.live.entries (λ hash. none_of c.args.files.now.live.entries (hash, c.args.number) (file_at c.args.files.now.live.entries (hash, c.args.number)) refl
    (λ there. both_ways (is_some (session_at c.args.sessions.now.entries c.args.number)) (ap is_some (sym none)) (c.requires.sound.live (hash, c.args.number) there)))))

pub returns-in_default-clause-others : goal.returns-in_default-clause-others
returns-in_default-clause-others c = others_stay c.args.number _ _ (other_member c.args.number c.args.sessions.now.entries c.remove.new.self.entries None c.remove.ensures.updates.0) (λ n _. refl)
