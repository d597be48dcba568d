-- The log outlasts a stop, after a call that adds an entry, or fails.
use Rattle.std.proofs.Common.{◌≡◌, ◌⊎◌, ℕ, ◌≤◌, Bool, true, false, ◌||◌, List, [], ◌∷◌, ◌++◌, slice_get, Option, IsFalse, refl, sym, ap, ◌∙◌, subst, inl, inr, arith, append_assoc, append-nil}
use Rattle.std.specs.List.{list_any}
use Rattle.std.proofs.lemmas.Bool.{true≢false}
use Rattle.std.proofs.lemmas.List.{map-append}
use Rattle.std.proofs.lemmas.List.Folds.{list_any-append}
use Rattle.ed2k_outside.specs.Crashes.{CrashView}
use Rattle.ed2k_outside.specs.Files.{Files}
use Rattle.journal_core.specs.declared.header.Header.{Header}
use Rattle.part_hashset.specs.declared.aim.Aim.{Aim}
use Rattle.part_store.specs.Durable.{LeavesEither, RestsOn, Same, Sound, durable, touches}
use Rattle.part_store.specs.Outlasts.{Outlasts, Outlives, Survives, header_of}
use Rattle.reserve_core.specs.Events.{CallsRise, events}
use Rattle.reserve_core.specs.Legal.{Allowed, AreLegal, IsLegal}
use Rattle.reserve_core.specs.Seen.{added, newest_calls}
use Rattle.reserve_core.specs.declared.event.Entry.{Entry}
use Rattle.reserve_core.specs.declared.event.Event.{Event}
use Rattle.reserve_core.proofs.Latest.{events-added}

-- entries of a log whose numbers of calls never fall

least-newest : (low : ℕ) (log : List Entry) → CallsRise low log → low ≤ newest_calls low log
least-newest low [] rise = omega arith
least-newest low (entry ∷ log) rise = omega (arith, rise.0, least-newest entry.calls log rise.1)

calls-within : (low : ℕ) (front : List Entry) (entry : Entry) (behind : List Entry) → CallsRise low (front ++ entry ∷ behind) → entry.calls ≤ newest_calls low (front ++ entry ∷ behind)
calls-within low [] entry behind rise = least-newest entry.calls behind rise.1
calls-within low (first ∷ front) entry behind rise = calls-within first.calls front entry behind rise.1

pub early : (log front : List Entry) (entry : Entry) (behind : List Entry) (made : ℕ) → CallsRise 0 log → newest_calls 0 log ≤ made → log ≡ front ++ entry ∷ behind → entry.calls ≤ made
early log front entry behind made rise newest cut =
    let within = calls-within 0 front entry behind (subst (λ (l : List Entry). CallsRise 0 l) cut rise) in
    omega (arith, within, newest, ap (newest_calls 0) cut)

-- a log that one more entry was added to is cut behind an older entry, or behind the newest
pub record IsOlder (log : List Entry) (last : Entry) (front : List Entry) (entry : Entry) (behind : List Entry) : Type 0 where
  pub before : List Entry
  pub cut : log ≡ front ++ entry ∷ before
  pub rest : behind ≡ before ++ last ∷ []

pub record IsNewest (log : List Entry) (last : Entry) (front : List Entry) (entry : Entry) (behind : List Entry) : Type 0 where
  pub all : front ≡ log
  pub is : entry ≡ last
  pub none : behind ≡ []

pub cut-added : (log : List Entry) (last : Entry) (front : List Entry) (entry : Entry) (behind : List Entry) → log ++ last ∷ [] ≡ front ++ entry ∷ behind
    → IsOlder log last front entry behind ⊎ IsNewest log last front entry behind
cut-added [] last [] entry behind same = inr (let first : last ≡ entry = cc in let rest : [] ≡ behind = cc in record { all = refl; is = sym first; none = sym rest })
cut-added [] last (first ∷ []) entry behind same = absurd (cc)
cut-added [] last (first ∷ second ∷ front) entry behind same = absurd (cc)
cut-added (first ∷ log) last [] entry behind same =
    let at : first ≡ entry = cc in
    let rest : log ++ last ∷ [] ≡ behind = cc in
    inl (record { before = log; cut = ap (λ (k : Entry). k ∷ log) at; rest = sym rest })
cut-added (first ∷ log) last (head ∷ front) entry behind same =
    let at : first ≡ head = cc in
    let rest : log ++ last ∷ [] ≡ front ++ entry ∷ behind = cc in
    elim (cut-added log last front entry behind rest) [
      | inl older ↦ inl (record { before = older.before; cut = ap (λ (k : Entry). k ∷ log) at ∙ ap (λ (l : List Entry). head ∷ l) older.cut; rest = older.rest })
      | inr newest ↦ inr (record { all = ap (λ (l : List Entry). head ∷ l) newest.all ∙ ap (λ (k : Entry). k ∷ log) (sym at); is = newest.is; none = newest.none })
    ]

-- the newest entry of a log
pub record Newest (log : List Entry) : Type 0 where
  pub front : List Entry
  pub entry : Entry
  pub cut : log ≡ front ++ entry ∷ []
  pub calls : (low : ℕ) → newest_calls low log ≡ entry.calls

pub newest : (first : Entry) (log : List Entry) → Newest (first ∷ log)
newest first [] = record { front = []; entry = first; cut = refl; calls = λ low. refl }
newest first (second ∷ log) =
    let rest = newest second log in
    record { front = first ∷ rest.front; entry = rest.entry; cut = ap (λ (l : List Entry). first ∷ l) rest.cut; calls = λ low. rest.calls first.calls }

-- an image that rests on events, as one that outlives

any-left : (a b : Bool) → (a || (b || false)) ≡ false → a ≡ false
any-left true b is = absurd (cc)
any-left false b is = refl

any-right : (a b : Bool) → (a || (b || false)) ≡ false → b ≡ false
any-right true b is = absurd (cc)
any-right false true is = absurd (cc)
any-right false false is = refl

-- one event more behind it, which leaves the body's bytes where it doesn't touch them
outlives-more : (header : Header) (g rest : List Event) (e : Event) (body now : List ℕ) (c : Files) → ((x : ℕ) → touches header.size x e ≡ false → slice_get now x ≡ slice_get body x)
    → Outlives header g rest body c → Outlives header g (rest ++ e ∷ []) now c
outlives-more header g rest e body now c leaves o = record {
  more = o.more;
  behind = o.behind ++ e ∷ [];
  split = ap (λ (l : List Event). l ++ e ∷ []) o.split ∙ append_assoc o.more o.behind (e ∷ []);
  sound = o.sound;
  same = λ x here none.
      let parts : (list_any (touches header.size x) o.behind || (touches header.size x e || false)) ≡ false = sym (list_any-append (touches header.size x) o.behind (e ∷ [])) ∙ none in
      o.same x here (any-left (list_any (touches header.size x) o.behind) (touches header.size x e) parts)
      ∙ sym (leaves x (any-right (list_any (touches header.size x) o.behind) (touches header.size x e) parts));
}

outlives-old : (header : Header) (g rest : List Event) (e : Event) (body : List ℕ) (c : Files) → RestsOn header (g ++ rest) body c → Outlives header g (rest ++ e ∷ []) body c
outlives-old header g rest e body c on = record {
  more = rest;
  behind = e ∷ [];
  split = refl;
  sound = on.sound;
  same = λ x here none. on.same x here refl;
}

outlives-new : (header : Header) (g rest : List Event) (e : Event) (body : List ℕ) (c : Files) → RestsOn header ((g ++ rest) ++ e ∷ []) body c → Outlives header g (rest ++ e ∷ []) body c
outlives-new header g rest e body c on =
    let moved : RestsOn header (g ++ (rest ++ e ∷ [])) body c = subst (λ (h : List Event). RestsOn header h body c) (append_assoc g rest (e ∷ [])) on in
    record {
      more = rest ++ e ∷ [];
      behind = [];
      split = sym (append-nil (rest ++ e ∷ []));
      sound = moved.sound;
      same = moved.same;
    }

pub outlives-here : (header : Header) (h : List Event) (body : List ℕ) (c : Files) → RestsOn header h body c → Outlives header h [] body c
outlives-here header h body c on =
    let moved : RestsOn header (h ++ []) body c = subst (λ (g : List Event). RestsOn header g body c) (sym (append-nil h)) on in
    record { more = []; behind = []; split = refl; sound = moved.sound; same = moved.same }

none-behind : (header : Header) (h more behind : List Event) (body : List ℕ) (c : Files) → [] ≡ more ++ behind → (o : Outlives header h [] body c) → o.more ≡ more → o.behind ≡ behind → RestsOn header h body c
none-behind header h [] [] body c split o at past =
    let all : h ++ o.more ≡ h = ap (λ (l : List Event). h ++ l) at ∙ append-nil h in
    record {
      sound = subst (λ (g : List Event). Sound header c (durable header.size g)) all o.sound;
      same = subst (λ (g : List Event). Same header.size c.body g [] body) all (subst (λ (l : List Event). Same header.size c.body (h ++ o.more) l body) past o.same);
    }
none-behind header h (e ∷ more) behind body c split o at past = absurd (cc)
none-behind header h [] (e ∷ behind) body c split o at past = absurd (cc)

rests-here : (header : Header) (h : List Event) (body : List ℕ) (c : Files) → Outlives header h [] body c → RestsOn header h body c
rests-here header h body c o = none-behind header h o.more o.behind body c o.split o refl refl

-- what a crash now may leave rests on the log
pub image-rests : (aim : Aim) (root : Option (List ℕ)) (log : List Entry) (body : List ℕ) (made : ℕ) (image : Files → Type 0) (since : ℕ → Files → Type 0)
    → AreLegal aim (events log) → newest_calls 0 log ≤ made → ((t : ℕ) (c : Files) → t ≤ made → image c → since t c)
    → Survives (header_of aim root) log [] body since → (c : Files) → image c → RestsOn (header_of aim root) (events log) body c
image-rests aim root [] body made image since legal above counts survives c left = absurd legal
image-rests aim root (first ∷ log) body made image since legal above counts survives c left =
    let last = newest first log in
    let late : last.entry.calls ≤ made = omega (arith, above, last.calls 0) in
    subst (λ (l : List Entry). RestsOn (header_of aim root) (events l) body c) (sym last.cut)
    (rests-here (header_of aim root) (events (last.front ++ last.entry ∷ [])) body c (survives last.front last.entry [] last.cut c (counts last.entry.calls c late left)))

-- What a call with the event does to what a crash may leave: it is as before, or has P, and what has P rests on
-- the events before, or on these and the event. The call leaves the bytes that the event doesn't touch.
pub record Stepped (aim : Aim) (root : Option (List ℕ)) (h : List Event) (e : Event) (made : ℕ) (since next : ℕ → Files → Type 0) (body now : List ℕ) (P : Files → Type 0) : Type 0 where
  pub passes : (t : ℕ) (c : Files) → t ≤ made → next t c → since t c ⊎ P c
  pub leaves : (x : ℕ) → touches aim.size x e ≡ false → slice_get now x ≡ slice_get body x
  pub either : (c : Files) → P c → RestsOn (header_of aim root) h now c ⊎ RestsOn (header_of aim root) (h ++ e ∷ []) now c

-- a log that no open call follows
pub record Before (aim : Aim) (root : Option (List ℕ)) (log : List Entry) (made : ℕ) (body : List ℕ) (since : ℕ → Files → Type 0) : Type 0 where
  pub legal : IsLegal aim log
  pub above : newest_calls 0 log ≤ made
  pub survives : Survives (header_of aim root) log [] body since

cut-events : (log front : List Entry) (entry : Entry) (before : List Entry) → log ≡ front ++ entry ∷ before → events log ≡ events (front ++ entry ∷ []) ++ events before
cut-events log front entry before cut =
    ap events (cut ∙ sym (append_assoc front (entry ∷ []) before))
    ∙ map-append (λ (entry : Entry). entry.event) (front ++ entry ∷ []) before

older-outlives : (aim : Aim) (root : Option (List ℕ)) (log : List Entry) (e : Event) (made : ℕ) (since next : ℕ → Files → Type 0) (body now : List ℕ) (P : Files → Type 0)
    → Before aim root log made body since → Stepped aim root (events log) e made since next body now P
    → (front : List Entry) (entry : Entry) (before : List Entry) → log ≡ front ++ entry ∷ before → (c : Files) → next entry.calls c
    → Outlives (header_of aim root) (events (front ++ entry ∷ [])) (events before ++ e ∷ []) now c
older-outlives aim root log e made since next body now P was step front entry before cut c left =
    let header = header_of aim root in
    let g = events (front ++ entry ∷ []) in
    let at = cut-events log front entry before cut in
    elim (step.passes entry.calls c (early log front entry before made was.legal.calls was.above cut) left) [
      | inl past ↦
          let o = subst (λ (r : List Event). Outlives header g r body c) (append-nil (events before)) (was.survives front entry before cut c past) in
          outlives-more header g (events before) e body now c step.leaves o
      | inr own ↦ elim (step.either c own) [
        | inl old ↦ outlives-old header g (events before) e now c (subst (λ (h : List Event). RestsOn header h now c) at old)
        | inr new ↦ outlives-new header g (events before) e now c (subst (λ (h : List Event). RestsOn header (h ++ e ∷ []) now c) at new)
      ]
    ]

-- the call adds its entry: each image now rests on the log with it
pub outlasts-added : (aim : Aim) (root : Option (List ℕ)) (log : List Entry) (calls : ℕ) (e : Event) (broken : Bool) (made : ℕ) (since next : ℕ → Files → Type 0) (body now : List ℕ) (P : Files → Type 0)
    → Before aim root log made body since → Stepped aim root (events log) e made since next body now P
    → ((c : Files) → next calls c → RestsOn (header_of aim root) (events log ++ e ∷ []) now c)
    → Outlasts aim root (added log calls e) broken now next
outlasts-added aim root log calls e broken made since next body now P was step newly = record {
  open_call = [];
  none = λ works. refl;
  allowed = tt;
  survives = λ front entry behind cut c left.
      let last : Entry = record { calls = calls; event = e } in
      let header = header_of aim root in
      elim (cut-added log last front entry behind cut) [
        | inl older ↦
            let rest : events older.before ++ e ∷ [] ≡ events behind ++ [] = sym (append-nil (events behind) ∙ ap events older.rest ∙ events-added older.before calls e) in
            subst (λ (r : List Event). Outlives header (events (front ++ entry ∷ [])) r now c) rest
            (older-outlives aim root log e made since next body now P was step front entry older.before older.cut c left)
        | inr newly_cut ↦
            let g : events log ++ e ∷ [] ≡ events (front ++ entry ∷ []) =
            sym (ap (λ (l : List Entry). events (l ++ entry ∷ [])) newly_cut.all ∙ ap (λ (k : Entry). events (log ++ k ∷ [])) newly_cut.is ∙ events-added log calls e) in
            let rest : [] ≡ events behind ++ [] = sym (ap (λ (l : List Entry). events l ++ []) newly_cut.none) in
            let here = newly c (subst (λ (k : Entry). next k.calls c) newly_cut.is left) in
            subst (λ (r : List Event). Outlives header (events (front ++ entry ∷ [])) r now c) rest
            (subst (λ (h : List Event). Outlives header h [] now c) g (outlives-here header (events log ++ e ∷ []) now c here))
      ];
}

-- the call answers Fault: its event may follow the log
pub outlasts-failed : (aim : Aim) (root : Option (List ℕ)) (log : List Entry) (e : Event) (made : ℕ) (since next : ℕ → Files → Type 0) (body now : List ℕ) (P : Files → Type 0)
    → Before aim root log made body since → Stepped aim root (events log) e made since next body now P → Allowed aim (events log) e
    → Outlasts aim root log true now next
outlasts-failed aim root log e made since next body now P was step allowed = record {
  open_call = e ∷ [];
  none = λ works. absurd (true≢false works);
  allowed = allowed;
  survives = older-outlives aim root log e made since next body now P was step;
}

-- what is before a call on a part file that isn't broken
pub before-of : {aim : Aim} {root : Option (List ℕ)} {log : List Entry} {broken : Bool} {made : ℕ} {body : List ℕ} {since : ℕ → Files → Type 0}
    → IsLegal aim log → newest_calls 0 log ≤ made → IsFalse broken → Outlasts aim root log broken body since → Before aim root log made body since
before-of {aim = aim} {root = root} {log = log} {body = body} {since = since} legal above works o = record {
  legal = legal;
  above = above;
  survives = subst (λ (l : List Event). Survives (header_of aim root) log l body since) (o.none works) o.survives;
}

-- so what is left by any moment of the call rests on the log before, or with the event, beside the body at its entry
pub call-leaves : (aim : Aim) (root : Option (List ℕ)) (log : List Entry) (e : Event) (made : ℕ) (old new : CrashView) (body : List ℕ) (P : Files → Type 0)
    → Before aim root log made body old.since → ((t : ℕ) (c : Files) → t ≤ made → old.image c → old.since t c) → ((c : Files) → old.since made c → old.image c)
    → ((c : Files) → new.since made c → old.since made c ⊎ P c) → LeavesEither (header_of aim root) (events log) e body P
    → LeavesEither (header_of aim root) (events log) e body (new.since made)
call-leaves aim root log e made old new body P was counts only passes either c left = elim (passes c left) [
  | inl past ↦ inl (image-rests aim root log body made old.image old.since was.legal.events was.above counts was.survives c (only c past))
  | inr own ↦ either c own
]
