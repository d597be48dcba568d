-- What a log file stands for, with one more record or without it.
use Rattle.std.proofs.Common.{◌≡◌, ℕ, ◌+◌, List, [], ◌∷◌, ◌++◌, length, fold, refl, sym, ap, ◌∙◌, subst, arith, append_assoc, append-nil, length-append}
use Rattle.std.proofs.lemmas.List.Sums.{fold-append}
use Rattle.part_hashset.specs.declared.aim.Aim.{Aim}
use Rattle.journal_core.specs.Gates.{EndsAt, Grown}
use Rattle.journal_core.specs.LogFile.{Stands, aim_of}
use Rattle.journal_core.specs.Records.{AreSpelled, IsSpelling}
use Rattle.journal_core.specs.States.{AreLegal, IsAlike, MayFollow, State, after, nothing}
use Rattle.journal_core.specs.declared.header.Header.{Header}
use Rattle.journal_core.specs.declared.record.Record.{Record}

pub alike-is : (s t : State) → IsAlike s t → s ≡ t
alike-is s t a = λ k. record { set = a.set k; filled = λ x. a.filled x k; verdict = λ i. a.verdict i k }

pub spelled-push : (rs : List Record) (front : List ℕ) (r : Record) (text : List ℕ) → AreSpelled rs front → IsSpelling r text → AreSpelled (rs ++ r ∷ []) (front ++ 1 ∷ text)
spelled-push [] front r text are is = (text, [], is, ap (λ (l : List ℕ). l ++ 1 ∷ text) are ∙ ap (λ (l : List ℕ). 1 ∷ l) (sym (append-nil text)), refl)
spelled-push (first ∷ rs) front r text are is =
    (are.0, are.1 ++ 1 ∷ text, are.2, ap (λ (l : List ℕ). l ++ 1 ∷ text) are.3 ∙ ap (λ (l : List ℕ). 1 ∷ l) (append_assoc are.0 are.1 (1 ∷ text)), spelled-push rs are.1 r text are.4 is)

pub legal-push : (aim : Aim) (s : State) (rs : List Record) (r : Record) → AreLegal aim s rs → MayFollow aim (fold (after aim.size) s rs) r → AreLegal aim s (rs ++ r ∷ [])
legal-push aim s [] r legal may = (may, tt)
legal-push aim s (first ∷ rs) r legal may = (legal.0, legal-push aim (after aim.size s first) rs r legal.1 may)

-- the bytes up to the gate where the log ends
abbrev pub front_of : {h : Header} {log : List ℕ} {s : State} → Stands h log s → List ℕ
front_of st = st.holds.head ++ st.holds.front

pub stands-at : {h : Header} {log : List ℕ} {s : State} (st : Stands h log s) → st.gate ≡ length (front_of st)
stands-at st = st.holds.at

pub stands-ends : {h : Header} {log : List ℕ} {s : State} (st : Stands h log s) → EndsAt (front_of st) log
stands-ends st = record { tail = st.holds.tail; closed = st.holds.closed; whole = st.holds.whole }

-- what stands behind the closed gate doesn't matter
pub stands-kept : {h : Header} {log next : List ℕ} {s : State} (st : Stands h log s) → EndsAt (front_of st) next → Stands h next s
stands-kept st e = record {
  records = st.records;
  gate = st.gate;
  holds = record { head = st.holds.head; front = st.holds.front; tail = e.tail; is_head = st.holds.is_head; spelled = st.holds.spelled; closed = e.closed; at = st.holds.at; whole = e.whole };
  legal = st.legal;
  state = st.state;
}

pub stands-grown : {h : Header} {log next : List ℕ} {s : State} (st : Stands h log s) (r : Record) (text : List ℕ) → IsSpelling r text → MayFollow (aim_of h) s r → Grown (front_of st) text next → Stands h next (after h.size s r)
stands-grown {h = h} {log = log} {next = next} {s = s} st r text is may e =
    let head = st.holds.head in
    let front = st.holds.front in
    record {
      records = st.records ++ r ∷ [];
      gate = length (head ++ (front ++ 1 ∷ text));
      holds = record {
        head = head;
        front = front ++ 1 ∷ text;
        tail = e.tail;
        is_head = st.holds.is_head;
        spelled = spelled-push st.records front r text st.holds.spelled is;
        closed = e.closed;
        at = refl;
        whole = e.whole ∙ sym (append_assoc (head ++ front) (1 ∷ text) e.tail) ∙ ap (λ (l : List ℕ). l ++ e.tail) (append_assoc head front (1 ∷ text));
      };
      legal = legal-push (aim_of h) nothing st.records r st.legal (subst (λ (t : State). MayFollow (aim_of h) t r) (sym st.state) may);
      state = fold-append (after h.size) nothing st.records (r ∷ []) ∙ ap (λ (t : State). after h.size t r) st.state;
    }

pub grown-gate : {h : Header} {log next : List ℕ} {s : State} (st : Stands h log s) (r : Record) (text : List ℕ) (is : IsSpelling r text) (may : MayFollow (aim_of h) s r) (e : Grown (front_of st) text next)
    → (stands-grown st r text is may e).gate ≡ st.gate + length (text ++ 0 ∷ [])
unfolding stands-grown
grown-gate st r text is may e =
    omega (arith, st.holds.at, length-append st.holds.head st.holds.front, length-append st.holds.head (st.holds.front ++ 1 ∷ text), length-append st.holds.front (1 ∷ text), length-append text (0 ∷ []))
