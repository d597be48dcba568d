-- A log file's records are read in one way.
use Rattle.std.proofs.Common.{◌≡◌, ℕ, ◌<◌, ◌^◌, Bool, true, false, List, [], ◌∷◌, ◌++◌, length, take, drop, get_or, Option, Some, None, refl, sym, ap, ◌∙◌, subst, arith, append_assoc, length-append, if◌then◌else◌}
use Rattle.std.proofs.lemmas.List.{drop_at, ext_get_or, take_at}
use Rattle.byteorder.specs.Endian.{little_bytes}
use Rattle.byteorder.specs.Numbers.{length-bytes_low_first, little_number-reads_back}
use Rattle.byteorder.specs.Endian.{little_from}
use Rattle.part_hashset.specs.declared.aim.Aim.{Aim}
use Rattle.part_sizes.specs.Block.{block_count}
use Rattle.part_sizes.specs.declared.span.Span.{Span}
use Rattle.journal_core.specs.Gates.{IsClosed}
use Rattle.journal_core.specs.Headers.{AreFields, IsHead, IsKeptSize, IsRoot, magic}
use Rattle.journal_core.specs.LogFile.{Stands, aim_of}
use Rattle.journal_core.specs.Parses.{BitsFit}
use Rattle.journal_core.specs.Records.{AreHashes, AreSpans, AreSpelled, IsMap, IsPayload, IsSpelling, kind_of, spell_hashes, spell_spans}
use Rattle.journal_core.specs.States.{AreLegal, MayFollow, State, after, nothing, state_of}
use Rattle.journal_core.specs.declared.header.Header.{Header}
use Rattle.journal_core.specs.declared.record.Record.{Record}
use Rattle.journal_core.specs.declared.record.Record.TheVariants.{Set, Filled, Judged, Recovered, Dropped}

pub chunk-same : (n : ℕ) (p q x y : List ℕ) → length p ≡ n → length q ≡ n → p ++ x ≡ q ++ y → (p ≡ q) × (x ≡ y)
chunk-same n p q x y long same is = (sym (take_at p x n long) ∙ ap (take n) is ∙ take_at q y n same, sym (drop_at p x n long) ∙ ap (drop n) is ∙ drop_at q y n same)

pub field-same : (n a b : ℕ) (x y : List ℕ) → a < 256 ^ n → b < 256 ^ n → little_bytes n a ++ x ≡ little_bytes n b ++ y → (a ≡ b) × (x ≡ y)
field-same n a b x y low below is = (
  sym (little_number-reads_back n a x low) ∙ ap (little_from 0 n) is ∙ little_number-reads_back n b y below,
  (chunk-same n (little_bytes n a) (little_bytes n b) x y (length-bytes_low_first 0 n a) (length-bytes_low_first 0 n b) is).1,
)

pub hashes-same : (q r : List (List ℕ)) → length q ≡ length r → AreHashes q → AreHashes r → spell_hashes q ≡ spell_hashes r → q ≡ r
hashes-same [] [] long are too is = refl
hashes-same [] (h ∷ r) long are too is = absurd (omega arith)
hashes-same (h ∷ q) [] long are too is = absurd (omega arith)
hashes-same (h ∷ q) (k ∷ r) long are too is =
    let split = chunk-same 16 h k (spell_hashes q) (spell_hashes r) are.0 too.0 is in
    let rest = hashes-same q r (omega (arith, long)) are.1 too.1 split.1 in
    let first = split.0 in cc

span-same : (r q : Span) → r.s ≡ q.s → r.e ≡ q.e → r ≡ q
span-same r q s e = λ k. record { s = s k; e = e k }

pub spans-same : (q r : List Span) → length q ≡ length r → AreSpans q → AreSpans r → spell_spans q ≡ spell_spans r → q ≡ r
spans-same [] [] long are too is = refl
spans-same [] (h ∷ r) long are too is = absurd (omega arith)
spans-same (h ∷ q) [] long are too is = absurd (omega arith)
spans-same (h ∷ q) (k ∷ r) long are too is =
    let one = field-same 8 h.s k.s (little_bytes 8 h.e ++ spell_spans q) (little_bytes 8 k.e ++ spell_spans r) are.0 too.0 is in
    let two = field-same 8 h.e k.e (spell_spans q) (spell_spans r) are.1 too.1 one.1 in
    let first = span-same h k one.0 two.0 in
    let rest = spans-same q r (omega (arith, long)) are.2 too.2 two.1 in
    cc

abbrev bit_value : Bool → ℕ
bit_value bit = if bit then 1 else 0

bit-same : (a b : Bool) → bit_value a ≡ bit_value b → a ≡ b
bit-same true true same = refl
bit-same false false same = refl
bit-same true false same = absurd (omega (arith, same))
bit-same false true same = absurd (omega (arith, same))

kept-same : (kept more : List Bool) (map : List ℕ) → length kept ≡ length more → IsMap kept map → IsMap more map → kept ≡ more
kept-same kept more map long p q =
    ext_get_or false kept more long (λ k below. bit-same (get_or kept k false) (get_or more k false) (sym (p.bits k below) ∙ q.bits k (omega (arith, below, long))))

pub record-same : (n : ℕ) (r s : Record) (p q : List ℕ) → kind_of r ≡ kind_of s → BitsFit n r → BitsFit n s → IsPayload r p → IsPayload s q → p ≡ q → r ≡ s
record-same n (Set q) (Set r) p o kind fit too is sp same =
    let both = field-same 2 (length q) (length r) (spell_hashes q) (spell_hashes r) is.0 sp.0 (sym is.2 ∙ same ∙ sp.2) in
    ap Set (hashes-same q r both.0 is.1 sp.1 both.1)
record-same n (Filled q) (Filled r) p o kind fit too is sp same =
    let both = field-same 4 (length q) (length r) (spell_spans q) (spell_spans r) is.0 sp.0 (sym is.2 ∙ same ∙ sp.2) in
    ap Filled (spans-same q r both.0 is.1 sp.1 both.1)
record-same n (Judged i d) (Judged j e) p o kind fit too is sp same =
    let both = field-same 2 i j d e is.0 sp.0 (sym is.2 ∙ same ∙ sp.2) in
    let part = both.0 in let digest = both.1 in cc
record-same n (Dropped i) (Dropped j) p o kind fit too is sp same = ap Dropped ((field-same 2 i j [] [] is.0 sp.0 (sym is.1 ∙ same ∙ sp.1)).0)
record-same n (Recovered i kept) (Recovered j more) p o kind fit too is sp same =
    let both = field-same 2 i j is.1 sp.1 is.0 sp.0 (sym is.3 ∙ same ∙ sp.3) in
    let part = both.0 in
    let bits = kept-same kept more sp.1 (fit.1 ∙ ap (block_count n) both.0 ∙ sym too.1) (subst (IsMap kept) both.1 is.2) sp.2 in
    cc
record-same n r s p o kind fit too is sp same = absurd (omega arith)

-- what begins a list with a spelling
pub spelling-same : (n : ℕ) (r s : Record) (a b x y : List ℕ) → BitsFit n r → BitsFit n s → IsSpelling r a → IsSpelling s b → a ++ x ≡ b ++ y → (r ≡ s) × (x ≡ y)
spelling-same n r s a b x y fit too is sp same =
    let whole : kind_of r ∷ ((little_bytes 4 (length is.payload) ++ is.payload) ++ x) ≡ kind_of s ∷ ((little_bytes 4 (length sp.payload) ++ sp.payload) ++ y) = ap (λ (l : List ℕ). l ++ x) (sym is.whole) ∙ same ∙ ap (λ (l : List ℕ). l ++ y) sp.whole in
    let kind : kind_of r ≡ kind_of s = cc in
    let rest : (little_bytes 4 (length is.payload) ++ is.payload) ++ x ≡ (little_bytes 4 (length sp.payload) ++ sp.payload) ++ y = cc in
    let far = field-same 4 (length is.payload) (length sp.payload) (is.payload ++ x) (sp.payload ++ y) is.fits sp.fits (sym (append_assoc (little_bytes 4 (length is.payload)) is.payload x) ∙ rest ∙ append_assoc (little_bytes 4 (length sp.payload)) sp.payload y) in
    let both = chunk-same (length is.payload) is.payload sp.payload x y refl (sym far.0) far.1 in
    (record-same n r s is.payload sp.payload kind fit too is.is sp.is both.0, both.1)

pub bits-fit : (aim : Aim) (s : State) (r : Record) → MayFollow aim s r → BitsFit aim.size r
bits-fit aim s (Set q) may = tt
bits-fit aim s (Filled spans) may = tt
bits-fit aim s (Judged i d) may = tt
bits-fit aim s (Recovered i kept) may = (may.0, may.2)
bits-fit aim s (Dropped i) may = tt

pub open-closed : (x tail : List ℕ) → IsClosed tail → 1 ∷ x ≡ tail → ⊥
open-closed x [] closed is = closed
open-closed x (gate ∷ tail) closed is = let one : gate ≡ 1 = cc in closed one

-- records behind open gates, and then a closed one, are read in one way
pub records-same : (aim : Aim) (s : State) (rs qs : List Record) (a b x y : List ℕ) → AreLegal aim s rs → AreLegal aim s qs → AreSpelled rs a → AreSpelled qs b → IsClosed x → IsClosed y → a ++ x ≡ b ++ y → rs ≡ qs
records-same aim s [] [] a b x y legal too is sp shut closed same = refl
records-same aim s [] (q ∷ qs) a b x y legal too is sp shut closed same =
    absurd (open-closed ((sp.0 ++ sp.1) ++ y) x shut (sym (ap (λ (l : List ℕ). l ++ x) (sym is) ∙ same ∙ ap (λ (l : List ℕ). l ++ y) sp.3)))
records-same aim s (r ∷ rs) [] a b x y legal too is sp shut closed same =
    absurd (open-closed ((is.0 ++ is.1) ++ x) y closed (ap (λ (l : List ℕ). l ++ x) (sym is.3) ∙ same ∙ ap (λ (l : List ℕ). l ++ y) sp))
records-same aim s (r ∷ rs) (q ∷ qs) a b x y legal too is sp shut closed same =
    let whole : 1 ∷ ((is.0 ++ is.1) ++ x) ≡ 1 ∷ ((sp.0 ++ sp.1) ++ y) = ap (λ (l : List ℕ). l ++ x) (sym is.3) ∙ same ∙ ap (λ (l : List ℕ). l ++ y) sp.3 in
    let inner : (is.0 ++ is.1) ++ x ≡ (sp.0 ++ sp.1) ++ y = cc in
    let both = spelling-same aim.size r q is.0 sp.0 (is.1 ++ x) (sp.1 ++ y) (bits-fit aim s r legal.0) (bits-fit aim s q too.0) is.2 sp.2 (sym (append_assoc is.0 is.1 x) ∙ inner ∙ append_assoc sp.0 sp.1 y) in
    let first = both.0 in
    let rest = records-same aim (after aim.size s r) rs qs is.1 sp.1 x y legal.1 (subst (λ (t : Record). AreLegal aim (after aim.size s t) qs) (sym both.0) too.1) is.4 sp.4 shut closed both.1 in
    cc

-- the header

pub root-same : (o p : Option (List ℕ)) (a b : List ℕ) → IsRoot o a → IsRoot p b → a ≡ b → o ≡ p
root-same None None a b is sp same = refl
root-same None (Some q) a b is sp same = absurd (open-closed q (0 ∷ is.0) (λ no. omega arith) (sym (sym is.2 ∙ same ∙ sp.1)))
root-same (Some r) None a b is sp same = absurd (open-closed r (0 ∷ sp.0) (λ no. omega arith) (sym is.1 ∙ same ∙ sp.2))
root-same (Some r) (Some q) a b is sp same = let both : 1 ∷ r ≡ 1 ∷ q = sym is.1 ∙ same ∙ sp.1 in let roots : r ≡ q = cc in ap Some roots

root-long : (o : Option (List ℕ)) (a : List ℕ) → IsRoot o a → length a ≡ 21
root-long None a is = omega (arith, ap length is.2, is.1)
root-long (Some r) a is = omega (arith, ap length is.1, is.0)

-- the fields have 45 bytes, and with the magic bytes and the gate the header has 54
pub fields-long : (h : Header) (text : List ℕ) → AreFields h text → length text ≡ 45
fields-long h text is =
    let size = length-bytes_low_first 0 8 h.size in
    let root = root-long h.root is.root is.rooted in
    omega (arith, ap length is.whole, length-append (little_bytes 8 h.size ++ h.hash) is.root, length-append (little_bytes 8 h.size) h.hash, size, is.hashed, root)

pub head-long : (h : Header) (bytes : List ℕ) → IsHead h bytes → length bytes ≡ 54
head-long h bytes is = omega (arith, ap length is.2, length-append magic (1 ∷ is.0), fields-long h is.0 is.1)

pub size-small : (n : ℕ) → IsKeptSize n → n < 256 ^ 8
size-small n is = omega (arith, is.1)

pub header-same : (h k : Header) → h.size ≡ k.size → h.hash ≡ k.hash → h.root ≡ k.root → h ≡ k
header-same h k size hash root = λ i. record { size = size i; hash = hash i; root = root i }

behind-magic : (a b : List ℕ) → magic ++ 1 ∷ a ≡ magic ++ 1 ∷ b → a ≡ b
behind-magic a b same = cc

pub head-same : (h k : Header) (a b x y : List ℕ) → IsHead h a → IsHead k b → a ++ x ≡ b ++ y → (h ≡ k) × (x ≡ y)
head-same h k a b x y is sp same =
    let both = chunk-same 54 a b x y (head-long h a is) (head-long k b sp) same in
    let f = is.1 in
    let e = sp.1 in
    let rest = behind-magic (little_bytes 8 h.size ++ h.hash ++ f.root) (little_bytes 8 k.size ++ k.hash ++ e.root) (ap (λ (l : List ℕ). magic ++ 1 ∷ l) (sym f.whole) ∙ sym is.2 ∙ both.0 ∙ sp.2 ∙ ap (λ (l : List ℕ). magic ++ 1 ∷ l) e.whole) in
    let size = field-same 8 h.size k.size (h.hash ++ f.root) (k.hash ++ e.root) (size-small h.size f.sized) (size-small k.size e.sized) (sym (append_assoc (little_bytes 8 h.size) h.hash f.root) ∙ rest ∙ append_assoc (little_bytes 8 k.size) k.hash e.root) in
    let hash = chunk-same 16 h.hash k.hash f.root e.root f.hashed e.hashed size.1 in
    (header-same h k size.0 hash.0 (root-same h.root k.root f.root e.root f.rooted e.rooted hash.1), both.1)

-- a log file stands for one header and one state
pub stands-once : (h k : Header) (log : List ℕ) (s t : State) → Stands h log s → Stands k log t → (h ≡ k) × (s ≡ t)
stands-once h k log s t a b =
    let whole : a.holds.head ++ (a.holds.front ++ a.holds.tail) ≡ b.holds.head ++ (b.holds.front ++ b.holds.tail) =
    sym (append_assoc a.holds.head a.holds.front a.holds.tail) ∙ sym a.holds.whole ∙ b.holds.whole ∙ append_assoc b.holds.head b.holds.front b.holds.tail in
    let both = head-same h k a.holds.head b.holds.head (a.holds.front ++ a.holds.tail) (b.holds.front ++ b.holds.tail) a.holds.is_head b.holds.is_head whole in
    let legal : AreLegal (aim_of h) nothing b.records = subst (λ (g : Header). AreLegal (aim_of g) nothing b.records) (sym both.0) b.legal in
    let records = records-same (aim_of h) nothing a.records b.records a.holds.front b.holds.front a.holds.tail b.holds.tail a.legal legal a.holds.spelled b.holds.spelled a.holds.closed b.holds.closed both.1 in
    (both.0, sym a.state ∙ ap (state_of h.size) records ∙ ap (λ (g : Header). state_of g.size b.records) both.0 ∙ b.state)
