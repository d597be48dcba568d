-- Texts that are sent line by line, and fronts of them.
use Rattle.std.proofs.Common.{arith, ◌≡◌, ◌≢◌, ◌∙◌, refl, sym, ap, subst, ℕ, suc, zero, ◌+◌, ◌<◌, ◌≤◌, min, List, [], ◌∷◌, ◌++◌, length, get_or, take, drop, Option, Some, None, append_assoc, append-nil, add-one, cond, ◌==◌, Bool, true, false}
use Rattle.std.proofs.Math.Seq.{take-append-add, take-length}
use Rattle.std.proofs.lemmas.List.{length-take-le, take-append-drop, take-append-le, take_min, take_more}
use Rattle.std.proofs.lemmas.List.Sums.{sum_by_push}
use Rattle.std.proofs.lemmas.Result.{MatchResult-from_err}
use Rattle.std.specs.Io.KnownBytes.{append_known}
use mir.Val.{bool_byte}
use Rattle.std.specs.List.{count_by, range_with_len}
use Rattle.std.specs.Result.{IsErr}
use Rattle.std.specs.declared.result.Result.{Result}
use Rattle.std.specs.declared.result.Result.TheVariants.{Ok, Err}
use Rattle.part_hashset.specs.declared.aim.Aim.{Aim}
use Rattle.peer_fetch.specs.declared.peer_end.PeerEnd.{PeerEnd}
use Rattle.reserve_core.specs.Events.{events}
use Rattle.reserve_core.specs.Verdicts.{parts}
use Rattle.reserve_core.specs.declared.event.Entry.{Entry}
use Rattle.reserve_core.specs.declared.event.Event.{Event}
use Rattle.ed2k_node.specs.Report.{file_line, lines_before, parts_line, peer_line, peer_lines, report_of, verified_count, Findings, IsReported, findings, lines_of}
use Rattle.ed2k_node.specs.Link.{aim_of}
use Rattle.ed2k_node.specs.declared.status.Status.{Status}
use Rattle.ed2k_node.specs.declared.status.Status.TheVariants.{NoMemory}
use Rattle.ed2k_link.specs.declared.link.FileLink.{FileLink}
use Rattle.ed2k_node.specs.Sent.{IsSent, IsBegun, HasSent}

append_two : (known : Option (List ℕ)) (a b : List ℕ) → append_known (append_known known a) b ≡ append_known known (a ++ b)
append_two None a b = refl
append_two (Some sent) a b = ap (λ (xs : List ℕ). Some xs) (append_assoc sent a b)

append_none : (known : Option (List ℕ)) → append_known known [] ≡ known
append_none None = refl
append_none (Some sent) = ap (λ (xs : List ℕ). Some xs) (append-nil sent)

pub none_sent : (known : Option (List ℕ)) → IsSent known known []
none_sent known = sym (append_none known)

pub none_begun : (known : Option (List ℕ)) (text : List ℕ) → IsBegun known known text
none_begun known text = (0, sym (append_none known))

pub sent_then : (old mid new : Option (List ℕ)) (a b : List ℕ) → IsSent old mid a → IsSent mid new b → IsSent old new (a ++ b)
sent_then old mid new a b first second = second ∙ ap (λ (known : Option (List ℕ)). append_known known b) first ∙ append_two old a b

pub begun_then : (old mid new : Option (List ℕ)) (a b : List ℕ) → IsSent old mid a → IsBegun mid new b → IsBegun old new (a ++ b)
begun_then old mid new a b first second =
    let n = second.0 in
    (length a + n, second.1 ∙ ap (λ (known : Option (List ℕ)). append_known known (take n b)) first ∙ append_two old a (take n b) ∙ ap (append_known old) (sym (take-append-add a b n)))

pub begun_more : (old new : Option (List ℕ)) (a b : List ℕ) → IsBegun old new a → IsBegun old new (a ++ b)
begun_more old new a b begun =
    let n = begun.0 in
    let same : take (min n (length a)) (a ++ b) ≡ take n a = take-append-le (min n (length a)) a b (omega arith) ∙ take_min n a in
    (min n (length a), begun.1 ∙ ap (append_known old) (sym same))

pub all_begun : (old new : Option (List ℕ)) (a : List ℕ) → IsSent old new a → IsBegun old new a
all_begun old new a sent = (length a, sent ∙ ap (append_known old) (sym (take-length a)))

-- ---- the lines of peers

lines_append : (h : List Event) (first : ℕ) (xs ys : List PeerEnd) → peer_lines h first (xs ++ ys) ≡ peer_lines h first xs ++ peer_lines h (first + length xs) ys
lines_append h first [] ys = let none : first ≡ first + 0 = omega arith in ap (λ (n : ℕ). peer_lines h n ys) none
lines_append h first (x ∷ xs) ys =
    let count : (first + 1) + length xs ≡ first + suc (length xs) = omega arith in
    ap (λ (text : List ℕ). peer_line h first x ++ text) (lines_append h (first + 1) xs ys ∙ ap (λ (n : ℕ). peer_lines h (first + 1) xs ++ peer_lines h n ys) count)
    ∙ sym (append_assoc (peer_line h first x) (peer_lines h (first + 1) xs) (peer_lines h (first + suc (length xs)) ys))

-- one line more
pub lines_more : (h : List Event) (peers : List PeerEnd) (i : ℕ) (peer : PeerEnd) → i < length peers → peer ≡ get_or peers i peer
    → peer_lines h 0 (take (i + 1) peers) ≡ peer_lines h 0 (take i peers) ++ peer_line h i peer
lines_more h peers i peer within is =
    ap (λ (xs : List PeerEnd). peer_lines h 0 xs) (take_more peers i peer within ∙ ap (λ (x : PeerEnd). take i peers ++ x ∷ []) (sym is))
    ∙ lines_append h 0 (take i peers) (peer ∷ [])
    ∙ ap (λ (text : List ℕ). peer_lines h 0 (take i peers) ++ text) (one_line h i (0 + length (take i peers)) peer (count peers i within))
  where
    one_line : (h : List Event) (i n : ℕ) (peer : PeerEnd) → n ≡ i → peer_lines h n (peer ∷ []) ≡ peer_line h i peer
    one_line h i n peer same = append-nil (peer_line h n peer) ∙ ap (λ (k : ℕ). peer_line h k peer) same

    count : (peers : List PeerEnd) (i : ℕ) → i < length peers → 0 + length (take i peers) ≡ i
    count peers i within = let same : length (take i peers) ≡ i = length-take-le i peers (omega arith) in omega (arith, same)

-- a front of the first lines is one of all
pub front_of_lines : (h : List Event) (peers : List PeerEnd) (i : ℕ) (old new : Option (List ℕ))
    → IsBegun old new (peer_lines h 0 (take i peers)) → IsBegun old new (peer_lines h 0 peers)
front_of_lines h peers i old new begun =
    let all = ap (λ (xs : List PeerEnd). peer_lines h 0 xs) (sym (take-append-drop i peers)) ∙ lines_append h 0 (take i peers) (drop i peers) in
    subst (IsBegun old new) (sym all) (begun_more old new _ _ begun)

-- the line of a peer is sent behind those before it
pub lines_go : (h : List Event) (peers : List PeerEnd) (i : ℕ) (peer : PeerEnd) (text : List ℕ) (old mid new : Option (List ℕ))
    → i < length peers → peer ≡ get_or peers i peer → text ≡ peer_line h i peer
    → IsSent old mid (peer_lines h 0 (take i peers)) → IsSent mid new text → IsSent old new (peer_lines h 0 (take (i + 1) peers))
lines_go h peers i peer text old mid new within is same before sent =
    subst (IsSent old new) (sym (lines_more h peers i peer within is))
    (sent_then old mid new (peer_lines h 0 (take i peers)) (peer_line h i peer) before (subst (IsSent mid new) same sent))

-- a front of the line of a peer is sent behind those before it
pub lines_stop : (h : List Event) (peers : List PeerEnd) (i : ℕ) (peer : PeerEnd) (text : List ℕ) (old mid new : Option (List ℕ))
    → i < length peers → peer ≡ get_or peers i peer → text ≡ peer_line h i peer
    → IsSent old mid (peer_lines h 0 (take i peers)) → IsBegun mid new text → IsBegun old new (peer_lines h 0 peers)
lines_stop h peers i peer text old mid new within is same before begun =
    front_of_lines h peers (i + 1) old new (subst (IsBegun old new) (sym (lines_more h peers i peer within is))
    (begun_then old mid new (peer_lines h 0 (take i peers)) (peer_line h i peer) before (subst (IsBegun mid new) same begun)))

-- ---- calls that ended early

pub stopped : {T E : Type 0} (result : Result T E) (old new : Option (List ℕ)) (text : List ℕ) → IsErr result → IsBegun old new text → HasSent result old new text
stopped result old new text err begun = MatchResult-from_err result (λ _. IsSent old new text) (λ _. IsBegun old new text) err (λ _. begun)

-- the lines of a store that was made
pub made_lines : (name : List ℕ) (aim : Aim) (log : List Entry) (peers : List PeerEnd) → log ≢ []
    → lines_before name aim log peers ≡ (file_line name ++ parts_line aim (events log)) ++ peer_lines (events log) 0 peers
made_lines name aim [] peers made = absurd (made refl)
made_lines name aim (entry ∷ log) peers made = refl

pub unmade_lines : (name : List ℕ) (aim : Aim) (log : List Entry) (peers : List PeerEnd) → log ≡ [] → lines_before name aim log peers ≡ []
unmade_lines name aim [] peers none = refl
unmade_lines name aim (entry ∷ log) peers none = absurd (cc)

-- what a call sends stands behind what was sent before
pub has_sent_then : {T E : Type 0} (result : Result T E) (old mid new : Option (List ℕ)) (a b : List ℕ) → IsSent old mid a → HasSent result mid new b → HasSent result old new (a ++ b)
has_sent_then (Ok done) old mid new a b first second = sent_then old mid new a b first second
has_sent_then (Err fault) old mid new a b first second = begun_then old mid new a b first second

-- ---- the lines before the last, one after another

pub not_empty : (log : List Entry) (test : Bool) → test ≡ (length log == 0) → test ≡ false → log ≢ []
not_empty log test is fails none = let holds : test ≡ true = is ∙ ap (λ (l : List Entry). length l == 0) none in cc

pub stop_at_file : (name : List ℕ) (aim : Aim) (log : List Entry) (peers : List PeerEnd) (old new : Option (List ℕ)) → log ≢ []
    → IsBegun old new (file_line name) → IsBegun old new (lines_before name aim log peers)
stop_at_file name aim log peers old new made begun =
    subst (IsBegun old new) (sym (made_lines name aim log peers made)) (begun_more old new _ _ (begun_more old new _ _ begun))

pub stop_at_parts : (name : List ℕ) (aim : Aim) (log : List Entry) (peers : List PeerEnd) (old mid new : Option (List ℕ)) → log ≢ []
    → IsSent old mid (file_line name) → IsBegun mid new (parts_line aim (events log)) → IsBegun old new (lines_before name aim log peers)
stop_at_parts name aim log peers old mid new made sent begun =
    subst (IsBegun old new) (sym (made_lines name aim log peers made)) (begun_more old new _ _ (begun_then old mid new _ _ sent begun))

pub end_with_peers : {T E : Type 0} (result : Result T E) (name : List ℕ) (aim : Aim) (log : List Entry) (peers : List PeerEnd) (old mid late new : Option (List ℕ)) → log ≢ []
    → IsSent old mid (file_line name) → IsSent mid late (parts_line aim (events log)) → HasSent result late new (peer_lines (events log) 0 peers)
    → HasSent result old new (lines_before name aim log peers)
end_with_peers result name aim log peers old mid late new made file parts sent =
    subst (HasSent result old new) (sym (made_lines name aim log peers made))
    (has_sent_then result old late new (file_line name ++ parts_line aim (events log)) (peer_lines (events log) 0 peers)
    (sent_then old mid late (file_line name) (parts_line aim (events log)) file parts) sent)

-- ---- an end where memory was refused

no_last : (told : Findings) (ending : Status) → ending ≡ NoMemory → report_of told ending ≡ lines_of told
no_last told ending is = ap (λ (e : Status). report_of told e) is ∙ append-nil (lines_of told)

pub sent_refused : (told : Findings) (ending : Status) (old new : Option (List ℕ)) → ending ≡ NoMemory
    → IsSent old new (report_of told ending) → IsBegun old new (lines_of told)
sent_refused told ending old new is sent = all_begun old new (lines_of told) (subst (IsSent old new) (no_last told ending is) sent)

pub begun_refused : (told : Findings) (ending : Status) (old new : Option (List ℕ)) → ending ≡ NoMemory
    → IsBegun old new (report_of told ending) → IsBegun old new (lines_of told)
begun_refused told ending old new is begun = subst (IsBegun old new) (no_last told ending is) begun

-- ---- the report of a link

pub reported_as : (link : FileLink) (aim : Aim) (name : List ℕ) (log seen : List Entry) (peers shown : List PeerEnd) (ending : Status) (status : ℕ) (old new : Option (List ℕ))
    → aim ≡ aim_of link → name ≡ link.name → seen ≡ log → shown ≡ peers
    → IsReported (findings name aim seen shown) ending status old new → IsReported (findings link.name (aim_of link) log peers) ending status old new
reported_as link aim name log seen peers shown ending status old new aims names logs ends reported =
    subst (λ (a : Aim). IsReported (findings link.name a log peers) ending status old new) aims
    (subst (λ (n : List ℕ). IsReported (findings n aim log peers) ending status old new) names
    (subst (λ (l : List Entry). IsReported (findings name aim l peers) ending status old new) logs
    (subst (λ (p : List PeerEnd). IsReported (findings name aim seen p) ending status old new) ends reported)))

-- ---- counts

range_more : (a n : ℕ) → range_with_len a (suc n) ≡ range_with_len a n ++ (a + n) ∷ []
range_more a zero = let same : a ≡ a + 0 = omega arith in ap (λ (k : ℕ). k ∷ []) same
range_more a (suc n) =
    let same : (a + 1) + n ≡ a + suc n = omega arith in
    ap (λ (xs : List ℕ). a ∷ xs) (range_more (a + 1) n ∙ ap (λ (k : ℕ). range_with_len (a + 1) n ++ k ∷ []) same)

-- one number more
pub count_more : (test : ℕ → Bool) (n : ℕ) → count_by test (range_with_len 0 (n + 1)) ≡ count_by test (range_with_len 0 n) + cond (test n) 1 0
count_more test n =
    let next : n + 1 ≡ suc n = add-one n in
    let here : 0 + n ≡ n = omega arith in
    ap (λ (k : ℕ). count_by test (range_with_len 0 k)) next
    ∙ ap (λ (xs : List ℕ). count_by test xs) (range_more 0 n)
    ∙ sum_by_push (λ x. cond (test x) 1 0) (range_with_len 0 n) (0 + n)
    ∙ ap (λ (k : ℕ). count_by test (range_with_len 0 n) + cond (test k) 1 0) here

-- where nothing happened no part is verified
none_counted : (xs : List ℕ) → count_by (λ (x : ℕ). false) xs ≡ 0
none_counted [] = refl
none_counted (x ∷ xs) = none_counted xs

pub none_verified : (aim : Aim) (log : List Entry) → log ≡ [] → verified_count aim (events log) ≡ 0
none_verified aim log none = subst (λ (l : List Entry). verified_count aim (events l) ≡ 0) (sym none) (none_counted (parts aim.size))

pub bit : (b : Bool) → bool_byte b ≡ cond b 1 0
bit true = refl
bit false = refl

pub bit_low : (b : Bool) → cond b 1 0 ≤ 1
bit_low true = omega arith
bit_low false = omega arith
