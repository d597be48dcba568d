-- A stream in pieces.
use Rattle.std.proofs.Common.{◌≡◌, ℕ, zero, suc, ◌+◌, ◌<◌, List, [], ◌∷◌, ◌++◌, length, take, drop, get_or, refl, sym, ap, ◌∙◌, append_assoc, Some}
use Rattle.std.proofs.lemmas.List.{append-nil, take_more}
use Rattle.std.specs.List.{concat, flat_map}
use Rattle.ed2k_frame.specs.declared.frame.Frame.{Frame}
use Rattle.ed2k_frame.specs.declared.fault.FrameFault.{FrameFault}
use Rattle.ed2k_frame.specs.Frame.{spell}
use Rattle.ed2k_frame.specs.Reading.{Reading}
use Rattle.ed2k_frame.specs.Streams.{Splits, Parts}
use Rattle.ed2k_frame.proofs.Fronts.{fault_stays}
use Rattle.ed2k_frame.proofs.StreamLaws.{splits_feed}

concat_push : (xss : List (List ℕ)) (x : List ℕ) → concat (xss ++ x ∷ []) ≡ concat xss ++ x
concat_push [] x = append-nil x
concat_push (y ∷ ys) x = ap (λ (t : List ℕ). y ++ t) (concat_push ys x) ∙ sym (append_assoc y (concat ys) x)

pub concat_cut : (i : ℕ) (xss : List (List ℕ)) → concat xss ≡ concat (take i xss) ++ concat (drop i xss)
concat_cut zero xss = refl
concat_cut (suc i) [] = refl
concat_cut (suc i) (y ∷ ys) =
    ap (λ (t : List ℕ). y ++ t) (concat_cut i ys) ∙ sym (append_assoc y (concat (take i ys)) (concat (drop i ys)))

-- one more piece was fed
pub split_fed : (pieces : List (List ℕ)) (i : ℕ) (item piece : List ℕ) (frames : List Frame) (old new : Reading) → i < length pieces → item ≡ get_or pieces i item → piece ≡ item → Splits (concat (take i pieces)) frames old.rest → new ≡ record old { rest = old.rest ++ piece } → Splits (concat (take (i + 1) pieces)) frames new.rest
split_fed pieces i item piece frames old new h is same split fed =
    let more : concat (take (i + 1) pieces) ≡ concat (take i pieces) ++ piece =
    ap concat (take_more pieces i item h) ∙ concat_push (take i pieces) (get_or pieces i item) ∙ ap (λ (t : List ℕ). concat (take i pieces) ++ t) (sym is ∙ sym same) in
    let rest : new.rest ≡ old.rest ++ piece = ap (λ (r : Reading). r.rest) fed in
    let both = splits_feed (concat (take i pieces)) frames old.rest piece split in
    record {
      each = both.each;
      joined = more ∙ both.joined ∙ ap (λ (t : List ℕ). flat_map spell frames ++ t) (sym rest);
    }

-- a fault ends the frames, whatever follows it
pub fault_ends : (stream more : List ℕ) (frames : List Frame) (rest : List ℕ) (fault : FrameFault) → Parts stream frames (record { rest = rest; said = Some fault }) → Parts (stream ++ more) frames (record { rest = rest ++ more; said = Some fault })
fault_ends stream more frames rest fault parts =
    let joined = ap (λ (t : List ℕ). t ++ more) parts.splits.joined ∙ append_assoc (flat_map spell frames) rest more in
    record {
      splits = record { each = parts.splits.each; joined = joined };
      ended = fault_stays fault rest more parts.ended;
    }
