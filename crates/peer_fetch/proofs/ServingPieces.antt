-- A piece of a turn: what it writes, what it fills, and what is still to come.
use Rattle.std.proofs.Common.{◌≡◌, ◌≢◌, ◌⊎◌, ℕ, ◌+◌, ◌-◌, ◌<◌, ◌≤◌, Bool, true, false, ◌==◌, List, [], ◌∷◌, ◌++◌, length, take, drop, replicate, get_or, Option, None, Some, unwrap_or, refl, ap, sym, ◌∙◌, subst, arith, inl, inr}
use Rattle.std.specs.Bool.{then_some}
use Rattle.std.proofs.lemmas.Bool.{cases_Bool, cases_eq, cases_lt}
use Rattle.std.proofs.lemmas.Bool.Decides.{nat_tests}
use Rattle.std.proofs.lemmas.List.{get_or-replicate}
use Rattle.client_msgs.specs.declared.msg.PeerMsg.{PeerMsg}
use Rattle.client_msgs.specs.declared.msg.PeerMsg.TheVariants.{SendingPart}
use Rattle.ed2k_outside.specs.Files.{overwritten}
use Rattle.md4_hash.specs.Md4.{md4}
use Rattle.part_hashset.specs.declared.aim.Aim.{Aim}
use Rattle.part_sizes.specs.Part.{part, data_parts, part_of, part_range}
use Rattle.part_sizes.specs.Span.{has}
use Rattle.part_sizes.specs.declared.span.Span.{Span}
use Rattle.part_sizes.proofs.Laws.{between_has, has_between, part_of_alone}
use Rattle.reserve_core.specs.Choice.{offer_by, offers_part}
use Rattle.reserve_core.specs.Desk.{span_at}
use Rattle.reserve_core.specs.Events.{latest}
use Rattle.reserve_core.specs.Filled.{filled_by, is_filled, is_full}
use Rattle.reserve_core.specs.Held.{holds_of}
use Rattle.reserve_core.specs.Tells.{is_recovered}
use Rattle.reserve_core.specs.Verdicts.{set_by, verdict_by, verdict_of}
use Rattle.reserve_core.specs.declared.event.Event.{Event}
use Rattle.reserve_core.specs.declared.event.Event.TheVariants.{Commit, Reserve, Verdict, Write}
use Rattle.reserve_core.proofs.Counted.{any-quiet}
use Rattle.reserve_core.proofs.Latest.{latest-still, latest-told, set-same}
use Rattle.reserve_core.proofs.Lists.{or_left}
use Rattle.reserve_core.proofs.Quiet.{Holds, filled-same, holds-same, verdict-same}
use Rattle.peer_fetch.specs.Serves.{Brings, Covers}
use Rattle.peer_fetch.proofs.ServingAsks.{IsFilePiece}
use Rattle.peer_fetch.proofs.ServingBody.{BodyAgrees, IsPieceOf, agrees_same, agrees_written, filled_out, full_same, not_full, piece_length}
use Rattle.peer_fetch.proofs.ServingChoice.{Same, same_both, same_one}
use Rattle.peer_fetch.proofs.ServingHolds.{Holding, ends_turn, goes_next, goes_on, span, still_holding}
use Rattle.peer_fetch.proofs.ServingLog.{IsRight, Sound, right_push}

-- Where a session that is served stands between two pieces: the log, the one that the stream was made for, and
-- the body. The peer offered all parts.
pub record At (aim : Aim) (file : List ℕ) (h g : List Event) (body : List ℕ) : Type 0 where
  pub sound : Sound aim file h
  pub agrees : BodyAgrees aim.size file h body
  pub same : Same aim.size h g
  pub offered : latest (offer_by 0) h ≡ Some (replicate (data_parts aim.size) true)

pub all_offered : (aim : Aim) (file : List ℕ) (h g : List Event) (body : List ℕ) (i : ℕ) → At aim file h g body → i < data_parts aim.size → offers_part h 0 i ≡ true
all_offered aim file h g body i at exists = ap (λ (o : Option (List Bool)). get_or (unwrap_or o []) i false) at.offered ∙ get_or-replicate (data_parts aim.size) i true false exists

-- an event that neither fills nor judges nor keeps a set nor opens a part again
pub record IsCalm (n : ℕ) (file : List ℕ) (e : Event) : Type 0 where
  pub filled : (x : ℕ) → filled_by n x e ≡ None
  pub verdict : (i : ℕ) → verdict_by i e ≡ None
  pub set : set_by e ≡ None
  pub recovered : is_recovered e ≡ false
  pub right : IsRight file e

pub still_full : (n : ℕ) (h : List Event) (e : Event) (i : ℕ) → ((x : ℕ) → filled_by n x e ≡ None) → is_full n (h ++ e ∷ []) i ≡ is_full n h i
still_full n h e i filled = full_same n (h ++ e ∷ []) h i (λ x here. filled-same n h e x (filled x))

pub sound_calm : (aim : Aim) (file : List ℕ) (h : List Event) (e : Event) → IsCalm aim.size file e → Sound aim file h → Sound aim file (h ++ e ∷ [])
sound_calm aim file h e calm sound = record {
  right = right_push file h e sound.right calm.right;
  unrecovered = any-quiet is_recovered h e calm.recovered ∙ sound.unrecovered;
  set = λ large. set-same h e calm.set ∙ sound.set large;
  judged = λ i exists.
      verdict-same h e i (calm.verdict i) ∙ sound.judged i exists ∙ ap (λ b. then_some b (md4 (part file i))) (sym (still_full aim.size h e i calm.filled));
}

pub at_reserved : (aim : Aim) (file : List ℕ) (h g : List Event) (body : List ℕ) (spans : List Span) → At aim file h g body → At aim file (h ++ Reserve 0 spans ∷ []) (g ++ Reserve 0 spans ∷ []) body
at_reserved aim file h g body spans at = record {
  sound = sound_calm aim file h (Reserve 0 spans) (record { filled = λ x. refl; verdict = λ i. refl; set = refl; recovered = refl; right = tt }) at.sound;
  agrees = agrees_same aim.size file h (h ++ Reserve 0 spans ∷ []) body (λ x. filled-same aim.size h (Reserve 0 spans) x refl) at.agrees;
  same = same_both aim.size h g (Reserve 0 spans) (λ peers. refl, λ p. refl) at.same;
  offered = latest-still (offer_by 0) h (Reserve 0 spans) refl ∙ at.offered;
}

pub holds_commit : Holds Commit
holds_commit = record { kept = λ q. refl; still = λ q r. refl; none = refl }

pub holds_verdict : (i : ℕ) (digest : List ℕ) → Holds (Verdict i digest)
holds_verdict i digest = record { kept = λ q. refl; still = λ q r. refl; none = refl }

pub at_commit : (aim : Aim) (file : List ℕ) (h g : List Event) (body : List ℕ) → At aim file h g body → At aim file (h ++ Commit ∷ []) g body
at_commit aim file h g body at = record {
  sound = sound_calm aim file h Commit (record { filled = λ x. refl; verdict = λ i. refl; set = refl; recovered = refl; right = tt }) at.sound;
  agrees = agrees_same aim.size file h (h ++ Commit ∷ []) body (λ x. filled-same aim.size h Commit x refl) at.agrees;
  same = same_one aim.size h g Commit (λ peers. refl, λ p. refl) (λ x. refl) holds_commit at.same;
  offered = latest-still (offer_by 0) h Commit refl ∙ at.offered;
}

-- A piece of the file, in one part, of which no position is filled.
pub record IsPieceIn (n : ℕ) (file : List ℕ) (h : List Event) (from end : ℕ) (bytes : List ℕ) : Type 0 where
  pub of : IsPieceOf n file from end bytes
  pub part : end ≤ (part_range n (part_of from)).e
  pub free : (x : ℕ) → from ≤ x → x < end → is_filled n h x ≡ false

in_part : (n from end : ℕ) → from < end → end ≤ (part_range n (part_of from)).e → has (part_range n (part_of from)) from ≡ true
in_part n from end some within = has_between (part_range n (part_of from)) from (omega arith) (omega arith)

other_part : (n from end i x : ℕ) → end ≤ (part_range n (part_of from)).e → has (part_range n i) x ≡ true → part_of from ≢ i → has (span from end) x ≡ false
other_part n from end i x within here other =
    elim (cases_Bool (has (span from end) x)) [
      | inl there ↦
          let ends = between_has (span from end) x there in
          let one = part_of_alone n i x here in
          let two = part_of_alone n (part_of from) x (own_part n from x (part_range n (part_of from)).e ends.0 (omega arith) refl) in
          absurd (other (sym two ∙ one))
      | inr out ↦ out
    ]
  where
    own_part : (n from x e : ℕ) → from ≤ x → x < e → e ≡ (part_range n (part_of from)).e → has (part_range n (part_of from)) x ≡ true
    own_part n from x e low high is = has_between (part_range n (part_of from)) x (omega arith) (omega arith)

-- a part of which the piece has nothing is full as before
else_full : (n : ℕ) (file : List ℕ) (h : List Event) (from end i : ℕ) (bytes : List ℕ) → IsPieceIn n file h from end bytes → part_of from ≢ i → is_full n (h ++ Write 0 (span from end) ∷ []) i ≡ is_full n h i
else_full n file h from end i bytes piece other =
    full_same n (h ++ Write 0 (span from end) ∷ []) h i (λ x here. filled_out n h 0 x (span from end) (other_part n from end i x piece.part here other))

was_open : (n : ℕ) (file : List ℕ) (h : List Event) (from end : ℕ) (bytes : List ℕ) → IsPieceIn n file h from end bytes → is_full n h (part_of from) ≡ false
was_open n file h from end bytes piece = not_full n h (part_of from) from (in_part n from end piece.of.some piece.part) (piece.free from (omega arith) piece.of.some)

pub was_unjudged : (aim : Aim) (file : List ℕ) (h : List Event) (from end : ℕ) (bytes : List ℕ) → Sound aim file h → IsPieceIn aim.size file h from end bytes → part_of from < data_parts aim.size → verdict_of h (part_of from) ≡ None
was_unjudged aim file h from end bytes sound piece exists =
    sound.judged (part_of from) exists ∙ ap (λ b. then_some b (md4 (part file (part_of from)))) (was_open aim.size file h from end bytes piece)

-- a piece that doesn't fill its part
sound_written : (aim : Aim) (file : List ℕ) (h : List Event) (from end : ℕ) (bytes : List ℕ) → IsPieceIn aim.size file h from end bytes → is_full aim.size (h ++ Write 0 (span from end) ∷ []) (part_of from) ≡ false → Sound aim file h
    → Sound aim file (h ++ Write 0 (span from end) ∷ [])
sound_written aim file h from end bytes piece still sound = record {
  right = right_push file h (Write 0 (span from end)) sound.right tt;
  unrecovered = any-quiet is_recovered h (Write 0 (span from end)) refl ∙ sound.unrecovered;
  set = λ large. set-same h (Write 0 (span from end)) refl ∙ sound.set large;
  judged = λ i exists.
      verdict-same h (Write 0 (span from end)) i refl ∙ sound.judged i exists ∙ ap (λ b. then_some b (md4 (part file i))) (sym (full_as_before i));
}
  where
    full_as_before : (i : ℕ) → is_full aim.size (h ++ Write 0 (span from end) ∷ []) i ≡ is_full aim.size h i
    full_as_before i = elim (cases_eq (part_of from) i) [
      | inl own ↦ subst (λ (j : ℕ). is_full aim.size (h ++ Write 0 (span from end) ∷ []) j ≡ is_full aim.size h j) own (still ∙ sym (was_open aim.size file h from end bytes piece))
      | inr other ↦ else_full aim.size file h from end i bytes piece other
    ]

pub at_written : (aim : Aim) (file : List ℕ) (h g : List Event) (body : List ℕ) (from end : ℕ) (bytes : List ℕ) → IsPieceIn aim.size file h from end bytes → is_full aim.size (h ++ Write 0 (span from end) ∷ []) (part_of from) ≡ false → At aim file h g body
    → At aim file (h ++ Write 0 (span from end) ∷ []) (g ++ Write 0 (span from end) ∷ []) (overwritten body from bytes)
at_written aim file h g body from end bytes piece still at = record {
  sound = sound_written aim file h from end bytes piece still at.sound;
  agrees = agrees_written aim.size file h body 0 from end bytes (span from end) piece.of refl at.agrees;
  same = same_both aim.size h g (Write 0 (span from end)) (λ peers. refl, λ p. refl) at.same;
  offered = latest-still (offer_by 0) h (Write 0 (span from end)) refl ∙ at.offered;
}

-- a piece that fills its part, which is then judged

abbrev pub judged_log : List Event → ℕ → ℕ → List ℕ → List Event
judged_log h from end digest = ((h ++ Write 0 (span from end) ∷ []) ++ Commit ∷ []) ++ Verdict (part_of from) digest ∷ []

judged_full : (n : ℕ) (h : List Event) (from end : ℕ) (digest : List ℕ) (i : ℕ) → is_full n (judged_log h from end digest) i ≡ is_full n (h ++ Write 0 (span from end) ∷ []) i
judged_full n h from end digest i =
    still_full n ((h ++ Write 0 (span from end) ∷ []) ++ Commit ∷ []) (Verdict (part_of from) digest) i (λ x. refl)
    ∙ still_full n (h ++ Write 0 (span from end) ∷ []) Commit i (λ x. refl)

judged_else : (h : List Event) (from end : ℕ) (digest : List ℕ) (i : ℕ) → part_of from ≢ i → verdict_of (judged_log h from end digest) i ≡ verdict_of h i
judged_else h from end digest i other =
    let test : (part_of from == i) ≡ false = grind (arith, nat_tests) in
    verdict-same ((h ++ Write 0 (span from end) ∷ []) ++ Commit ∷ []) (Verdict (part_of from) digest) i (ap (λ b. then_some b (Some digest)) test)
    ∙ verdict-same (h ++ Write 0 (span from end) ∷ []) Commit i refl
    ∙ verdict-same h (Write 0 (span from end)) i refl

judged_own : (h : List Event) (from end : ℕ) (digest : List ℕ) → verdict_of (judged_log h from end digest) (part_of from) ≡ Some digest
judged_own h from end digest =
    let test : (part_of from == part_of from) ≡ true = grind (arith, nat_tests) in
    ap (λ (o : Option (Option (List ℕ))). unwrap_or o None)
    (latest-told (verdict_by (part_of from)) ((h ++ Write 0 (span from end) ∷ []) ++ Commit ∷ []) (Verdict (part_of from) digest) (Some digest) (ap (λ b. then_some b (Some digest)) test))

sound_judged : (aim : Aim) (file : List ℕ) (h : List Event) (from end : ℕ) (bytes digest : List ℕ) → IsPieceIn aim.size file h from end bytes → is_full aim.size (h ++ Write 0 (span from end) ∷ []) (part_of from) ≡ true
    → digest ≡ md4 (part file (part_of from)) → Sound aim file h → Sound aim file (judged_log h from end digest)
sound_judged aim file h from end bytes digest piece full own sound = record {
  right = right_push file (w ++ Commit ∷ []) (Verdict (part_of from) digest) (right_push file w Commit (right_push file h (Write 0 (span from end)) sound.right tt) tt) own;
  unrecovered = any-quiet is_recovered (w ++ Commit ∷ []) (Verdict (part_of from) digest) refl ∙ any-quiet is_recovered w Commit refl ∙ any-quiet is_recovered h (Write 0 (span from end)) refl ∙ sound.unrecovered;
  set = λ large. set-same (w ++ Commit ∷ []) (Verdict (part_of from) digest) refl ∙ set-same w Commit refl ∙ set-same h (Write 0 (span from end)) refl ∙ sound.set large;
  judged = λ i exists. elim (cases_eq (part_of from) i) [
    | inl own_part ↦ subst (λ (j : ℕ). verdict_of (judged_log h from end digest) j ≡ then_some (is_full aim.size (judged_log h from end digest) j) (md4 (part file j))) own_part of_own
    | inr other ↦
        judged_else h from end digest i other ∙ sound.judged i exists
        ∙ ap (λ b. then_some b (md4 (part file i))) (sym (judged_full aim.size h from end digest i ∙ else_full aim.size file h from end i bytes piece other))
  ];
}
  where
    w : List Event
    w = h ++ Write 0 (span from end) ∷ []

    of_own : verdict_of (judged_log h from end digest) (part_of from) ≡ then_some (is_full aim.size (judged_log h from end digest) (part_of from)) (md4 (part file (part_of from)))
    of_own =
        judged_own h from end digest ∙ ap Some own
        ∙ ap (λ b. then_some b (md4 (part file (part_of from)))) (sym (judged_full aim.size h from end digest (part_of from) ∙ full))

pub at_judged : (aim : Aim) (file : List ℕ) (h g : List Event) (body : List ℕ) (from end : ℕ) (bytes digest : List ℕ) → IsPieceIn aim.size file h from end bytes → is_full aim.size (h ++ Write 0 (span from end) ∷ []) (part_of from) ≡ true
    → digest ≡ md4 (part file (part_of from)) → At aim file h g body
    → At aim file (judged_log h from end digest) (g ++ Write 0 (span from end) ∷ []) (overwritten body from bytes)
at_judged aim file h g body from end bytes digest piece full own at =
    let w : List Event = h ++ Write 0 (span from end) ∷ [] in
    let v : Event = Verdict (part_of from) digest in
    record {
      sound = sound_judged aim file h from end bytes digest piece full own at.sound;
      agrees = agrees_same aim.size file w (judged_log h from end digest) (overwritten body from bytes) (λ x. filled-same aim.size (w ++ Commit ∷ []) v x refl ∙ filled-same aim.size w Commit x refl)
          (agrees_written aim.size file h body 0 from end bytes (span from end) piece.of refl at.agrees);
      same = same_one aim.size (w ++ Commit ∷ []) (g ++ Write 0 (span from end) ∷ []) v (λ peers. refl, λ p. refl) (λ x. refl) (holds_verdict (part_of from) digest)
          (same_one aim.size w (g ++ Write 0 (span from end) ∷ []) Commit (λ peers. refl, λ p. refl) (λ x. refl) holds_commit
          (same_both aim.size h g (Write 0 (span from end)) (λ peers. refl, λ p. refl) at.same));
      offered = latest-still (offer_by 0) (w ++ Commit ∷ []) v refl ∙ latest-still (offer_by 0) w Commit refl ∙ latest-still (offer_by 0) h (Write 0 (span from end)) refl ∙ at.offered;
    }

-- what is still to come of a turn

pub record Coming (aim : Aim) (file : List ℕ) (h : List Event) (msgs : List PeerMsg) : Type 0 where
  pub range : Span
  pub from : ℕ
  pub spans : List Span
  pub holding : Holding aim.size h range from spans
  pub first : List PeerMsg
  pub rest : List PeerMsg
  pub joined : msgs ≡ first ++ rest
  pub brings : Brings aim file from range.e first
  pub covers : Covers aim file spans rest

abbrev pub Ahead : Aim → List ℕ → List Event → List PeerMsg → Type 0
Ahead aim file h msgs = Coming aim file h msgs ⊎ ((holds_of h ≡ []) × (msgs ≡ []))

pub ahead_still : (aim : Aim) (file : List ℕ) (h : List Event) (e : Event) (msgs : List PeerMsg) → Holds e → ((x : ℕ) → filled_by aim.size x e ≡ None) → Ahead aim file h msgs → Ahead aim file (h ++ e ∷ []) msgs
ahead_still aim file h e msgs same filled (inl coming) = inl (record {
  range = coming.range;
  from = coming.from;
  spans = coming.spans;
  holding = still_holding aim.size h e coming.range coming.from coming.spans same filled coming.holding;
  first = coming.first;
  rest = coming.rest;
  joined = coming.joined;
  brings = coming.brings;
  covers = coming.covers;
})
ahead_still aim file h e msgs same filled (inr (none, over)) = inr (holds-same h e same ∙ none, over)

-- the next piece
pub record Piece (aim : Aim) (file : List ℕ) (h : List Event) (msgs : List PeerMsg) : Type 0 where
  pub range : Span
  pub from : ℕ
  pub spans : List Span
  pub holding : Holding aim.size h range from spans
  pub hash : List ℕ
  pub end : ℕ
  pub bytes : List ℕ
  pub later : List PeerMsg
  pub is : msgs ≡ SendingPart hash from end bytes ∷ later
  pub ours : hash ≡ aim.hash
  pub some : from < end
  pub within : end ≤ range.e
  pub cut : bytes ≡ take (end - from) (drop from file)
  pub ahead : Ahead aim file (h ++ Write 0 (span from end) ∷ []) later

brings_none : (aim : Aim) (file : List ℕ) (from to : ℕ) (msgs : List PeerMsg) → to ≤ from → Brings aim file from to msgs → msgs ≡ []
brings_none aim file from to [] over brings = refl
brings_none aim file from to (SendingPart hash start end bytes ∷ msgs) over brings = absurd (omega (arith, brings.2, brings.3))
brings_none aim file from to (_ ∷ msgs) over brings = absurd brings

next_span : (aim : Aim) (file : List ℕ) (h : List Event) (range : Span) (from : ℕ) (spans : List Span) (rest : List PeerMsg) → Holding aim.size h range from spans → Covers aim file spans rest → Ahead aim file (h ++ Write 0 (span from range.e) ∷ []) rest
next_span aim file h range from [] rest holding covers = inr (ends_turn aim.size h range from holding, covers)
next_span aim file h range from (q ∷ spans) rest holding covers = inl (record {
  range = q;
  from = q.s;
  spans = spans;
  holding = goes_next aim.size h range from q spans holding;
  first = covers.0;
  rest = covers.1;
  joined = covers.2;
  brings = covers.3;
  covers = covers.4;
})

ahead_of : (aim : Aim) (file : List ℕ) (h : List Event) (range : Span) (from end : ℕ) (spans : List Span) (more rest : List PeerMsg) → Holding aim.size h range from spans → from < end → end ≤ range.e
    → Brings aim file end range.e more → Covers aim file spans rest → Ahead aim file (h ++ Write 0 (span from end) ∷ []) (more ++ rest)
ahead_of aim file h range from end spans more rest holding some within brings covers =
    elim (cases_lt end range.e) [
      | inl before ↦ inl (record {
        range = range;
        from = end;
        spans = spans;
        holding = goes_on aim.size h range from end spans holding some before;
        first = more;
        rest = rest;
        joined = refl;
        brings = brings;
        covers = covers;
      })
      | inr past ↦
          let same : range.e ≡ end = omega arith in
          let none : more ≡ [] = brings_none aim file end range.e more past brings in
          subst (λ (ms : List PeerMsg). Ahead aim file (h ++ Write 0 (span from end) ∷ []) (ms ++ rest)) (sym none)
          (subst (λ (k : ℕ). Ahead aim file (h ++ Write 0 (span from k) ∷ []) rest) same (next_span aim file h range from spans rest holding covers))
    ]

piece_by : (aim : Aim) (file : List ℕ) (h : List Event) (msgs : List PeerMsg) (range : Span) (from : ℕ) (spans : List Span) (first rest : List PeerMsg) → Holding aim.size h range from spans → msgs ≡ first ++ rest
    → Brings aim file from range.e first → Covers aim file spans rest → Piece aim file h msgs
piece_by aim file h msgs range from spans [] rest holding joined brings covers = let some = holding.piece.0 in absurd (omega (arith, some, brings))
piece_by aim file h msgs range from spans (SendingPart hash start end bytes ∷ more) rest holding joined brings covers = record {
  range = range;
  from = from;
  spans = spans;
  holding = holding;
  hash = hash;
  end = end;
  bytes = bytes;
  later = more ++ rest;
  is = joined ∙ ap (λ at. SendingPart hash at end bytes ∷ (more ++ rest)) brings.1;
  ours = brings.0;
  some = brings.2;
  within = brings.3;
  cut = brings.4;
  ahead = ahead_of aim file h range from end spans more rest holding brings.2 brings.3 brings.5 covers;
}
piece_by aim file h msgs range from spans (_ ∷ more) rest holding joined brings covers = absurd brings

pub piece_of : (aim : Aim) (file : List ℕ) (h : List Event) (msgs : List PeerMsg) → Coming aim file h msgs → Piece aim file h msgs
piece_of aim file h msgs coming = piece_by aim file h msgs coming.range coming.from coming.spans coming.first coming.rest coming.holding coming.joined coming.brings coming.covers

-- it is a piece of the file in one part, and its span is the one that is written

in_file : (n from end e : ℕ) → end ≤ e → e ≤ (part_range n (part_of from)).e → (end ≤ n) × (end ≤ (part_range n (part_of from)).e)
in_file n from end e within part_end = (omega arith, omega arith)

pub piece_in : (aim : Aim) (file : List ℕ) (h : List Event) (msgs : List PeerMsg) → length file ≡ aim.size → (p : Piece aim file h msgs) → IsPieceIn aim.size file h p.from p.end p.bytes
piece_in aim file h msgs whole p =
    let held = p.holding.piece in
    let at = in_file aim.size p.from p.end p.range.e p.within held.1 in
    let last = p.within in
    record {
      of = record { whole = whole; some = p.some; within = at.0; is = p.cut };
      part = at.1;
      free = λ x low high. p.holding.free x (or_left (has (span p.from p.range.e) x) _ (has_between (span p.from p.range.e) x low (omega arith)));
    }

pub span_of : (n : ℕ) (file : List ℕ) (h : List Event) (from end : ℕ) (bytes : List ℕ) → IsPieceIn n file h from end bytes → span_at from bytes ≡ span from end
span_of n file h from end bytes piece =
    let some = piece.of.some in
    let long : from + length bytes ≡ end = omega (arith, piece_length n file from end bytes piece.of) in
    ap (span from) long

pub file_piece : (n : ℕ) (file : List ℕ) (h : List Event) (from end : ℕ) (bytes : List ℕ) → IsPieceIn n file h from end bytes → IsFilePiece n file h from bytes
file_piece n file h from end bytes piece =
    let some = piece.of.some in
    let long : from + length bytes ≡ end = omega (arith, piece_length n file from end bytes piece.of) in
    record {
      of = subst (λ (k : ℕ). IsPieceOf n file from k bytes) (sym long) piece.of;
      free = λ x low high. piece.free x low (omega arith);
    }
