-- Recovery data that nothing is wrong with.
use Rattle.std.proofs.Common.{arith, ◌≡◌, ◌≢◌, ℕ, ◌+◌, ◌*◌, ◌<◌, ◌≤◌, ◌^◌, true, false, nat_eq, ◌==◌, List, [], length, drop, map, Option, Some, None, option_map, Result, Ok, Err, MatchResult, IfOk, bytes_eq, refl, sym, ap, subst, ◌∙◌, inl, inr, eqb-true, eq-eqb, length-drop}
use Rattle.std.specs.List.{IsDistinct}
use Rattle.std.proofs.lemmas.Bool.{cases_Bool}
use Rattle.std.proofs.lemmas.List.{length-map, get_or-drop}
use Rattle.std.proofs.lemmas.List.Elements.{All-from_recursion, recursion_from_All}
use Rattle.std.proofs.lemmas.List.Sorted.{length_permutation}
use Rattle.std.proofs.lemmas.Slice.Eq.{bytes_eq-Decides}
use Rattle.byteorder.specs.Numbers.{little_from-lt}
use Rattle.part_sizes.specs.Block.{block_count}
use Rattle.part_sizes.specs.Part.{IsSize, data_parts}
use Rattle.part_sizes.specs.declared.part.TheConstants.{PART}
use Rattle.aich_packet.specs.declared.fault.PacketFault.{PacketFault}
use Rattle.aich_packet.specs.declared.fault.PacketFault.TheVariants.{Cut, Count, Twice, WrongIdent, RootDiffers, NoMemory}
use Rattle.aich_packet.specs.declared.layout.Pair.{Pair}
use Rattle.aich_packet.specs.declared.way.TheConstants.{PART_LEVELS}
use Rattle.aich_packet.specs.Folding.{folds}
use Rattle.aich_packet.specs.Judging.{first_twice, first_wrong, or_else, root_fault, idents_fault, pairs_fault, packet_fault}
use Rattle.aich_packet.specs.Layout.{is_cut, count_of, pairs_of}
use Rattle.aich_packet.specs.Packet.{IsPair, Packet, idents_of, hash_of}
use Rattle.aich_packet.specs.Way.{root_of, path, leaves_on}
use Rattle.aich_packet.proofs.Members.{twice-none, none-twice, none-among, wrong-none, none-wrong, permuted, permuted-distinct, permuted-among}
use Rattle.aich_packet.proofs.Nodes.{root-node, way-distinct}
use Rattle.aich_packet.proofs.Reached.{length-leaves_on}
use Rattle.aich_packet.proofs.Spelled.{IsBytes, from-cut, spelled-all, each-pair, length-pairs_from, count-again, read-again, whole-again}

-- ---- faults

both-none : (a b : Option PacketFault) → or_else a b ≡ None → (a ≡ None) × (b ≡ None)
both-none None b none = (refl, none)
both-none (Some fault) b none = absurd cc

map-none : (f : ℕ → PacketFault) (o : Option ℕ) → option_map f o ≡ None → o ≡ None
map-none f None none = refl
map-none f (Some ident) none = absurd cc

pub path-distinct : (size part : ℕ) → IsSize size → IsDistinct nat_eq (path size part)
path-distinct size part limits = way-distinct PART_LEVELS size (root_of size) (part * PART) (root-node size limits.0)

same-root : (found root : List ℕ) → root_fault found root ≡ None → found ≡ root
same-root found root none =
    elim (cases_Bool (bytes_eq found root)) [
      | inl same ↦ (bytes_eq-Decides found root).0 same
      | inr other ↦ let bad : Some (RootDiffers found) ≡ None = rw other at none in absurd cc
    ]

-- nothing is wrong with the bytes
pub record NoFault (size : ℕ) (root : List ℕ) (part : ℕ) (bytes : List ℕ) : Type 0 where
  pub whole : is_cut bytes ≡ false
  pub counted : count_of bytes ≡ length (path size part)
  pub idents : idents_fault (path size part) (pairs_of bytes) ≡ None
  pub rooted : root_fault (folds size part (hash_of (pairs_of bytes))) root ≡ None

pub no-fault : (size : ℕ) (root : List ℕ) (part : ℕ) (bytes : List ℕ) → packet_fault size root part bytes ≡ None → NoFault size root part bytes
no-fault size root part bytes none =
    elim (cases_Bool (is_cut bytes)) [
      | inl cut ↦ let bad : Some Cut ≡ None = rw cut at none in absurd cc
      | inr whole ↦ elim (cases_Bool (count_of bytes == length (path size part))) [
        | inr other ↦
            let bad : Some (Count (count_of bytes) (length (path size part))) ≡ None = rw (whole, other) at none in absurd cc
        | inl same ↦
            let rest : pairs_fault size root part (pairs_of bytes) ≡ None = rw (whole, same) at none in
            let parts = both-none (idents_fault (path size part) (pairs_of bytes)) (root_fault (folds size part (hash_of (pairs_of bytes))) root) rest in
            record {
              whole = whole;
              counted = eqb-true (count_of bytes) (length (path size part)) same;
              idents = parts.0;
              rooted = parts.1;
            }
      ]
    ]

-- ---- they are a packet

pub is-packet : (size : ℕ) (root : List ℕ) (part : ℕ) (bytes : List ℕ) → IsBytes bytes → NoFault size root part bytes
    → Packet size root part bytes (map (hash_of (pairs_of bytes)) (leaves_on size part))
is-packet size root part bytes fits is =
    let pairs = pairs_of bytes in
    let whole = from-cut bytes is.whole in
    let long : count_of bytes * 22 ≤ length (drop 2 bytes) = omega (arith, whole.there, length-drop 2 bytes) in
    let many = length-pairs_from (count_of bytes) (drop 2 bytes) in
    let rest = length-drop (count_of bytes * 22) (drop 2 bytes) in
    let parts = both-none (option_map Twice (first_twice [] (idents_of pairs))) (option_map WrongIdent (first_wrong (path size part) (idents_of pairs))) is.idents in
    let once = twice-none [] (idents_of pairs) (map-none Twice (first_twice [] (idents_of pairs)) parts.0) in
    let among = wrong-none (path size part) (idents_of pairs) (map-none WrongIdent (first_wrong (path size part) (idents_of pairs)) parts.1) in
    let fit : IsBytes (drop 2 bytes) = λ i. rw get_or-drop (fits (2 + i)) in
    record {
      pairs = pairs;
      behind = drop (count_of bytes * 22) (drop 2 bytes);
      spelled = spelled-all bytes whole fits;
      counted = subst (λ (n : ℕ). n < 2 ^ 16) (sym many) (little_from-lt 0 2 bytes fits);
      each = All-from_recursion IsPair pairs (each-pair (count_of bytes) (drop 2 bytes) long fit);
      ended = λ one. whole.other (omega (arith, one, rest, length-drop 2 bytes, whole.there));
      on_path = permuted (idents_of pairs) (path size part) once.1 among (length-map pairs (λ (pair : Pair). pair.ident) ∙ many ∙ is.counted);
      folded = same-root (folds size part (hash_of pairs)) root is.rooted;
      leaves_are = refl;
    }

-- ---- and a packet has no fault

root-same : (found root : List ℕ) → found ≡ root → root_fault found root ≡ None
root-same found root same = let e : bytes_eq found root ≡ true = (bytes_eq-Decides found root).1 same in rw e refl

pub packet-pairs : (size : ℕ) (root : List ℕ) (part : ℕ) (bytes : List ℕ) (leaves : List (List ℕ)) → (packet : Packet size root part bytes leaves) → pairs_of bytes ≡ packet.pairs
packet-pairs size root part bytes leaves packet =
    ap pairs_of packet.spelled ∙ read-again packet.pairs packet.behind packet.counted (recursion_from_All IsPair packet.pairs packet.each)

pub packet-leaves : (size : ℕ) (root : List ℕ) (part : ℕ) (bytes : List ℕ) (leaves : List (List ℕ)) → Packet size root part bytes leaves → map (hash_of (pairs_of bytes)) (leaves_on size part) ≡ leaves
packet-leaves size root part bytes leaves packet =
    ap (λ (pairs : List Pair). map (hash_of pairs) (leaves_on size part)) (packet-pairs size root part bytes leaves packet) ∙ sym packet.leaves_are

pub packet-fault : (size : ℕ) (root : List ℕ) (part : ℕ) (bytes : List ℕ) (leaves : List (List ℕ)) → IsSize size → Packet size root part bytes leaves → packet_fault size root part bytes ≡ None
packet-fault size root part bytes leaves limits packet =
    let each = recursion_from_All IsPair packet.pairs packet.each in
    let whole : is_cut bytes ≡ false = ap is_cut packet.spelled ∙ whole-again packet.pairs packet.behind packet.counted each packet.ended in
    let on = path size part in
    let idents = idents_of packet.pairs in
    let many : length packet.pairs ≡ length on =
    sym (length-map packet.pairs (λ (pair : Pair). pair.ident)) ∙ length_permutation on idents packet.on_path in
    let count : count_of bytes ≡ length on = ap count_of packet.spelled ∙ count-again packet.pairs packet.behind packet.counted ∙ many in
    let counted : nat_eq (count_of bytes) (length on) ≡ true = eq-eqb (count_of bytes) (length on) count in
    let once : first_twice [] idents ≡ None = none-twice [] idents (none-among idents) (permuted-distinct on idents packet.on_path (path-distinct size part limits)) in
    let among : first_wrong on idents ≡ None = none-wrong on idents (permuted-among on idents packet.on_path) in
    let rooted : root_fault (folds size part (hash_of packet.pairs)) root ≡ None = root-same (folds size part (hash_of packet.pairs)) root packet.folded in
    let none : pairs_fault size root part packet.pairs ≡ None = rw (once, among, rooted) refl in
    let same = ap (pairs_fault size root part) (packet-pairs size root part bytes leaves packet) ∙ none in
    rw (whole, counted) same

-- ---- answers

pub answer-found : (size : ℕ) (root : List ℕ) (part : ℕ) (bytes : List ℕ) (result : Result (List (List ℕ)) PacketFault) → IsBytes bytes
    → MatchResult result (λ _. packet_fault size root part bytes ≡ None) (λ fault. fault ≢ NoMemory → packet_fault size root part bytes ≡ Some fault)
    → IfOk result (λ leaves. leaves ≡ map (hash_of (pairs_of bytes)) (leaves_on size part))
    → IfOk result (λ leaves. Packet size root part bytes leaves)
answer-found size root part bytes (Ok leaves) fits none is =
    subst (Packet size root part bytes) (sym is) (is-packet size root part bytes fits (no-fault size root part bytes none))
answer-found size root part bytes (Err fault) fits none is = tt

pub answer-count : (size part : ℕ) (bytes : List ℕ) (result : Result (List (List ℕ)) PacketFault) → IsSize size → part < data_parts size
    → IfOk result (λ leaves. leaves ≡ map (hash_of (pairs_of bytes)) (leaves_on size part))
    → IfOk result (λ leaves. length leaves ≡ block_count size part)
answer-count size part bytes (Ok leaves) limits exists is =
    ap length is ∙ length-map (leaves_on size part) (hash_of (pairs_of bytes)) ∙ length-leaves_on size part limits exists
answer-count size part bytes (Err fault) limits exists is = tt

-- where nothing is wrong, no fault but the want of memory comes
only-memory : (o : Option PacketFault) (fault : PacketFault) → o ≡ None → (fault ≢ NoMemory → o ≡ Some fault) → fault ≡ NoMemory
only-memory o Cut none is = let bad : o ≡ Some Cut = is (λ e. cc) in absurd cc
only-memory o (Count found wanted) none is = let bad : o ≡ Some (Count found wanted) = is (λ e. cc) in absurd cc
only-memory o (Twice ident) none is = let bad : o ≡ Some (Twice ident) = is (λ e. cc) in absurd cc
only-memory o (WrongIdent ident) none is = let bad : o ≡ Some (WrongIdent ident) = is (λ e. cc) in absurd cc
only-memory o (RootDiffers root) none is = let bad : o ≡ Some (RootDiffers root) = is (λ e. cc) in absurd cc
only-memory o NoMemory none is = refl

pub answer-only : (size : ℕ) (root : List ℕ) (part : ℕ) (bytes : List ℕ) (result : Result (List (List ℕ)) PacketFault) → IsSize size
    → MatchResult result (λ _. packet_fault size root part bytes ≡ None) (λ fault. fault ≢ NoMemory → packet_fault size root part bytes ≡ Some fault)
    → IfOk result (λ leaves. leaves ≡ map (hash_of (pairs_of bytes)) (leaves_on size part))
    → (leaves : List (List ℕ)) → Packet size root part bytes leaves
    → MatchResult result (λ found. found ≡ leaves) (λ fault. fault ≡ NoMemory)
answer-only size root part bytes (Ok found) limits none is leaves packet = is ∙ packet-leaves size root part bytes leaves packet
answer-only size root part bytes (Err fault) limits none is leaves packet =
    only-memory (packet_fault size root part bytes) fault (packet-fault size root part bytes leaves limits packet) none
