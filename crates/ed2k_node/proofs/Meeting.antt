-- A peer that was connected and met over all rounds, and what is told of it.
use Rattle.std.proofs.Common.{◌≡◌, ◌⊎◌, ◌∙◌, refl, sym, ap, subst, inl, inr, ℕ, ◌+◌, ◌<◌, ◌≤◌, ◌++◌, Bool, true, false, List, [], ◌∷◌, length, Option, None, Some, IsFalse, IsTrue, IfSome, if◌then◌else◌, arith}
use Rattle.std.specs.Io.KnownBytes.{prepend_known}
use Rattle.ed2k_outside.specs.Causes.{IfKnown, Rose}
use Rattle.ed2k_outside.specs.Files.{Files}
use Rattle.ed2k_outside.specs.Nets.{Told, Connects, Closes}
use Rattle.ed2k_outside.specs.declared.addr.Addr.{Addr}
use Rattle.part_hashset.specs.HashSet.{set_of}
use Rattle.part_hashset.specs.declared.aim.Aim.{Aim}
use Rattle.part_store.specs.Body.{body_of}
use Rattle.part_store.specs.Solo.{faults_of}
use Rattle.peer_fetch.specs.Fetches.{Due, Inside, due_now, standing, log_alone}
use Rattle.peer_fetch.specs.Machine.{due}
use Rattle.peer_fetch.specs.Moves.{Draws, IsBlamed, Later, Outside}
use Rattle.peer_fetch.specs.Plan.{Plan, Begin}
use Rattle.peer_fetch.specs.Serves.{IsNewFor, nothing}
use Rattle.peer_fetch.specs.declared.cause.Cause.TheVariants as causes
use Rattle.peer_fetch.specs.Linked.{Linked, outside}
use Rattle.peer_fetch.specs.declared.machine.SessionState.TheVariants as state
use Rattle.peer_fetch.specs.declared.peer_end.PeerEnd.{PeerEnd}
use Rattle.reserve_core.specs.Events.{events}
use Rattle.reserve_core.specs.Held.{is_holder}
use Rattle.reserve_core.specs.declared.event.Event.{Event}
use Rattle.reserve_core.specs.declared.event.Event.TheVariants.{Hashes, Opened}
use Rattle.ed2k_outside.specs.WireMembers.{WireMembers}
use Rattle.ed2k_node.specs.Link.{keeps_parts, opened_log}
use Rattle.ed2k_node.specs.Download.{Around, Did, TellsPeer}
use Rattle.ed2k_node.specs.Peers.{FailedOn, IsUnlinked, TalksOver, WithWire, fresh_outside}
use Rattle.ed2k_node.specs.Served.{FileServed, ServesFile, IsWholeOr, PeerServes}
use Rattle.ed2k_node.specs.Talks.{TalksTo}
use Rattle.ed2k_node.specs.declared.rounds.TheConstants.{BUDGET}

-- ---- one wire is connected and given back

both_with : {W : Type 0} (says : W → W → Type 0) (to : Addr) (wire back : W) (old mid new : Told W)
    → length old.closed ≤ old.handed → Connects to wire old mid → Closes back mid new → says wire back → WithWire says old new
both_with {W} says to wire back old mid new first connects closes said =
    let closed : mid.closed ≡ old.closed = ap (λ (t : Told W). t.closed) connects.rest in
    let handed : mid.handed ≡ old.handed + 1 = ap (λ (t : Told W). t.handed) connects.rest in
    let room : length mid.closed < mid.handed = omega (arith, ap (λ (ws : List W). length ws) closed) in
    let given = closes.taken room in
    record {
      wire = wire;
      from = connects.first.0;
      back = back;
      taken = connects.first.1 ∙ ap (λ (ws : List (W × Addr)). (wire, connects.first.0) ∷ ws) (sym (ap (λ (t : Told W). t.left) given));
      given_back = ap (λ (t : Told W). t.closed) given ∙ ap (λ (ws : List W). ws ++ back ∷ []) closed;
      holds = said;
    }

pub met_with : {W : Type 0} (says : W → W → Type 0) (to : Addr) (wire back : W) (old mid new : Option (Told W))
    → IfSome old (λ told. length told.closed ≤ told.handed) → IfKnown (Connects to wire) old mid → IfKnown (Closes back) mid new → says wire back → IfKnown (WithWire says) old new
met_with says to wire back None None new first connects closes said = closes
met_with says to wire back None (Some mid) new first connects closes said = cc
met_with says to wire back (Some old) None new first connects closes said = absurd connects
met_with says to wire back (Some old) (Some mid) None first connects closes said = absurd closes
met_with says to wire back (Some old) (Some mid) (Some new) first connects closes said = both_with says to wire back old mid new first connects closes said

-- ---- a session that was just made

nothing-before : (known : Option (List ℕ)) → prepend_known [] known ≡ known
nothing-before None = refl
nothing-before (Some bytes) = refl

pub record IsMade {W : Type 0} (aim : Aim) (wire : W) (link : Linked W) : Type 0 where
  pub wired : link.wire ≡ wire
  pub aimed : link.session.aim ≡ aim
  pub unoffered : link.session.offered ≡ []
  pub fresh : link.at ≡ state.Fresh
  pub unread : link.unread ≡ []
  pub untaken : link.taken ≡ 0

ahead-of : {W : Type 0} (left : W → Option (List ℕ)) (wire one : W) (rest : List ℕ) → one ≡ wire → rest ≡ [] → prepend_known rest (left one) ≡ left wire
ahead-of left wire one rest wired unread =
    ap (λ (r : List ℕ). prepend_known r (left one)) unread ∙ (nothing-before (left one) ∙ ap left wired)

outside-is : (a1 a2 s1 s2 : Option (List ℕ)) (r1 r2 w1 w2 t1 t2 : ℕ) (u1 u2 : List ℕ) → a1 ≡ a2 → s1 ≡ s2 → r1 ≡ r2 → w1 ≡ w2 → t1 ≡ t2 → u1 ≡ u2
    → (let o : Outside = record { ahead = a1; sent = s1; read_faults = r1; write_faults = w1; taken = t1; unread = u1 } in o)
    ≡ (let o : Outside = record { ahead = a2; sent = s2; read_faults = r2; write_faults = w2; taken = t2; unread = u2 } in o)
outside-is a1 a2 s1 s2 r1 r2 w1 w2 t1 t2 u1 u2 ahead sent reads writes taken unread = cc

pub made_outside : {W : Type 0} (m : WireMembers W) (aim : Aim) (wire : W) (link : Linked W) → IsMade aim wire link
    → outside m link ≡ fresh_outside m wire
made_outside m aim wire link made =
    outside-is _ _ _ _ _ _ _ _ _ _ _ _ (ahead-of m.left wire link.wire link.unread made.wired made.unread)
    (ap m.sent made.wired) (ap m.read_faults made.wired) (ap m.write_faults made.wired) made.untaken made.unread

due-is : (p1 p2 : Plan) (o1 o2 : List Bool) → p1 ≡ p2 → o1 ≡ o2 → (let d : Due = record { plan = p1; offered = o1 } in d) ≡ (let d : Due = record { plan = p2; offered = o2 } in d)
due-is p1 p2 o1 o2 plans offers = cc

made_due : {W : Type 0} (aim : Aim) (wire : W) (link : Linked W) → IsMade aim wire link
    → due_now link.session link.at ≡ (let d : Due = record { plan = Begin link.session; offered = [] } in d)
made_due aim wire link made = due-is _ _ _ _ (ap (due link.session) made.fresh) made.unoffered

pub talks_over : {W : Type 0} (m : WireMembers W) (aim : Aim) (before now : List Event) (met : PeerEnd) (faults : ℕ) (wire : W) (link last : Linked W)
    → IsMade aim wire link → TalksTo aim (standing (due_now link.session link.at) (outside m link) (log_alone before)) (outside m last) now met
    → IsBlamed BUDGET faults met.cause (outside m link) (outside m last) → Later BUDGET (outside m link) (outside m last) → Draws (outside m link) (outside m last)
    → TalksOver m aim before now met wire last.wire
talks_over m aim before now met faults wire link last made talks blamed later draws =
    let new = outside m last in
    let old_is = made_outside m aim wire link made in
    record {
      session = link.session;
      new = new;
      faults = faults;
      names = made.aimed;
      talks = subst (λ (d : Due). TalksTo aim (standing d (fresh_outside m wire) (log_alone before)) new now met) (made_due aim wire link made)
          (subst (λ (o : Outside). TalksTo aim (standing (due_now link.session link.at) o (log_alone before)) new now met) old_is talks);
      blamed = subst (λ (o : Outside). IsBlamed BUDGET faults met.cause o new) old_is blamed;
      later = subst (λ (o : Outside). Later BUDGET o new) old_is later;
      draws = subst (λ (o : Outside). Draws o new) old_is draws;
      left_on = refl;
      sent_on = refl;
      read_on = refl;
      written_on = refl;
    }

-- ---- a store that failed

pub some_fault : (broken : Bool) → 0 < faults_of broken → IsTrue broken
some_fault true some = refl
some_fault false some = absurd (omega (arith, some))

-- unless the store is broken, the peer holds nothing
pub holds_none : {failed : Type 0} (number : Option ℕ) (h log : List Event) (broken : Bool) → number ≡ Some 0 → log ≡ h → (IsFalse broken → IsFalse (is_holder h 0)) → (IsTrue broken → failed)
    → IfSome number (λ p. IsFalse (is_holder log p)) ⊎ failed
holds_none number h log true is same free fails = inr (fails refl)
holds_none number h log false is same free fails =
    inl (subst (λ (n : Option ℕ). IfSome n (λ p. IsFalse (is_holder log p))) (sym is) (subst (λ (l : List Event). IsFalse (is_holder l 0)) (sym same) (free refl)))

-- ---- the wire that was connected serves the file

abbrev first-wire : {W : Type 0} → W → List (W × Addr) → W
first-wire none [] = none
first-wire none (x ∷ xs) = x.0

same-first : {W : Type 0} (a b : W) (f g : Addr) (xs ys : List (W × Addr)) → (a, f) ∷ xs ≡ (b, g) ∷ ys → a ≡ b
same-first a b f g xs ys same = ap (first-wire a) same

connected-first : {W : Type 0} (to : Addr) (wire one : W) (from : Addr) (rest : List (W × Addr)) (old mid : Option (Told W)) (told : Told W)
    → old ≡ Some told → told.left ≡ (one, from) ∷ rest → IfKnown (Connects to wire) old mid → one ≡ wire
connected-first {W} to wire one from rest old mid told tells first connects =
    of-mid mid (subst (λ (o : Option (Told W)). IfKnown (Connects to wire) o mid) tells connects)
  where
    of-mid : (mid : Option (Told W)) → IfKnown (Connects to wire) (Some told) mid → one ≡ wire
    of-mid None goes = absurd goes
    of-mid (Some after) goes = same-first one wire from goes.first.0 rest after.left (sym first ∙ goes.first.1)

pub serves_link : {W : Type 0} (m : WireMembers W) (aim : Aim) (file : List ℕ) (before : Inside) (to : Addr) (wire : W) (old mid : Option (Told W)) (link : Linked W)
    → PeerServes m aim file before old → IfKnown (Connects to wire) old mid → IsMade aim wire link → ServesFile aim file before (outside m link).ahead
serves_link m aim file before to wire old mid link serves connects made =
    let same = connected-first to wire serves.wire serves.from serves.rest old mid serves.told serves.tells serves.first connects in
    let ahead = ahead-of m.left wire link.wire link.unread made.wired made.unread in
    subst (λ (a : Option (List ℕ)). ServesFile aim file before a) (ap m.left same ∙ sym ahead) serves.holds

-- ---- a peer that wasn't connected

pub unlinked_store : {P : Type 0} (met : PeerEnd) → IsUnlinked met → met.cause ≡ causes.StoreFault → P
unlinked_store met unlinked is = let both : causes.NoLink ≡ causes.StoreFault = sym unlinked.cause ∙ is in absurd (cc)

pub unbroken : {P : Type 0} (broken : Bool) → IsTrue broken → IsFalse broken → P
unbroken broken is not = absurd (cc)

-- a fault of the wire is seen on the wire that was given back
pub failed_on : {W : Type 0} (m : WireMembers W) (aim : Aim) (met : PeerEnd) (wire : W) (link last : Linked W) (faults : ℕ)
    → IsMade aim wire link → IsBlamed BUDGET faults met.cause (outside m link) (outside m last)
    → met.cause ≡ causes.WireFault → FailedOn m wire last.wire
failed_on m aim met wire link last faults made blamed is =
    subst (λ (w : _). FailedOn m w last.wire) made.wired (elim (blamed.wire is) [
      | inl writes ↦ inr writes
      | inr reads ↦ inl reads.0
    ])

-- ---- what is told, as the caller sees it

pub rose_later : (before first now : ℕ) → before ≤ first → Rose first now → Rose before now
rose_later before first now later rose = omega (arith, later, rose)

-- what is told of a peer, where more is seen before
pub peer_as : {W : Type 0} (m : WireMembers W) (one aim : Aim) (h before : List Event) (did : Did W) (first : Around W)
    → one ≡ aim → h ≡ before → did.before.net ≡ first.net → did.before.net_faults ≡ first.net_faults → first.vault_faults ≤ did.before.vault_faults
    → TellsPeer m one h did → TellsPeer m aim before (record did { before = first })
peer_as {W} m one aim h before did first aims logs nets counts later tells =
    let told = subst (λ (a : Aim). TellsPeer m a before did) aims (subst (λ (g : List Event). TellsPeer m one g did) logs tells) in
    let met = told.met in
    record {
      met = met;
      only = told.only;
      linked = elim told.linked [
        | inl fails ↦ inl (record {
          unlinked = fails.unlinked;
          refused = subst (λ (n : ℕ). Rose n did.after.net_faults) counts fails.refused;
          still = fails.still ∙ nets;
        })
        | inr links ↦ inr (record {
          linked = links.linked;
          talks = subst (λ (net : Option (Told W)). IfKnown (WithWire (TalksOver m aim before (events did.log) met)) net did.after.net) nets links.talks;
        })
      ];
      stored = λ is. omega (arith, later, told.stored is);
      free = elim told.free [ inl is ↦ inl is | inr rose ↦ inr (omega (arith, later, rose)) ];
    }

new-for : (bytes : List ℕ) (parts : List (List ℕ)) (kept : Bool) → (kept ≡ true → parts ≡ set_of bytes) → IsNewFor (set_of bytes) (if kept then Opened nothing ∷ Hashes parts ∷ [] else Opened nothing ∷ [])
new-for bytes parts true own = inr (ap (λ (set : List (List ℕ)). Opened nothing ∷ Hashes set ∷ []) (own refl))
new-for bytes parts false own = inl refl

body-told : (files made : Option Files) (store : Files) (size : ℕ) → files ≡ Some store → IfKnown (λ before now. length now.body ≡ size) files made → (body : List ℕ) × (body_of made ≡ Some body) × (length body ≡ size)
body-told files None store size tells goes = absurd (subst (λ (f : Option Files). IfKnown (λ before now. length now.body ≡ size) f None) tells goes)
body-told files (Some now) store size tells goes = (now.body, refl, subst (λ (f : Option Files). IfKnown (λ before now. length now.body ≡ size) f (Some now)) tells goes)

pub file_to_peer : {W : Type 0} (m : WireMembers W) (one aim : Aim) (parts : List (List ℕ)) (bytes : List ℕ) (files made : Option Files) (net : Option (Told W)) (h : List Event)
    → one ≡ aim → h ≡ opened_log aim parts → IfKnown (λ before now. length now.body ≡ aim.size) files made → FileServed m aim parts bytes files net
    → PeerServes m one bytes (let i : Inside = record { log = h; alone = true; body = body_of made } in i) net
file_to_peer {W} m one aim parts bytes files made net h aims logs goes serves =
    let told = body-told files made serves.store aim.size serves.tells_files goes in
    let served : ServesFile aim bytes (let i : Inside = record { log = opened_log aim parts; alone = true; body = body_of made } in i) (m.left serves.peer.wire) = record {
      body = told.0;
      is_new = new-for bytes parts (keeps_parts aim parts) serves.kept;
      told = told.1;
      made = told.2;
      coming = serves.peer.holds;
    } in
    record {
      told = serves.peer.told;
      wire = serves.peer.wire;
      from = serves.peer.from;
      rest = serves.peer.rest;
      tells = serves.peer.tells;
      first = serves.peer.first;
      holds = subst (λ (a : Aim). ServesFile a bytes (let i : Inside = record { log = h; alone = true; body = body_of made } in i) (m.left serves.peer.wire)) (sym aims)
          (subst (λ (g : List Event). ServesFile aim bytes (let i : Inside = record { log = g; alone = true; body = body_of made } in i) (m.left serves.peer.wire)) (sym logs) served);
    }

pub whole_as : (bytes : List ℕ) (complete done refused given failed failed_now : Type 0) (files : Option Files) → (complete → done ⊎ given ⊎ failed_now) → (refused → given) → (failed → failed_now)
    → IsWholeOr bytes complete refused failed files → IsWholeOr bytes done given failed_now files
whole_as bytes complete done refused given failed failed_now files ends refuses fails whole = elim whole [
  | inl full ↦ elim (ends full.0) [
    | inl is ↦ inl (is, full.1, full.2, full.3)
    | inr other ↦ elim other [ inl is ↦ inr (inl is) | inr is ↦ inr (inr is) ]
  ]
  | inr rest ↦ elim rest [ inl is ↦ inr (inl (refuses is)) | inr is ↦ inr (inr (fails is)) ]
]
