-- A connect and a close after it: one wire is reached and given back.
use Rattle.std.proofs.Common.{arith, ◌≡◌, sym, ◌∙◌, ap, ◌+◌, ◌<◌, ◌≤◌, List, [], ◌∷◌, ◌++◌, length, Option, Some, None, IfSome}
use Rattle.ed2k_outside.specs.declared.addr.Addr.{Addr}
use Rattle.ed2k_outside.specs.Causes.{IfKnown}
use Rattle.ed2k_outside.specs.Nets.{Told, Connects, Closes}
use Rattle.ed2k_node.specs.Run.{ReachesOne}

both_told : {W : Type 0} (to : Addr) (wire back : W) (old mid new : Told W)
    → length old.closed ≤ old.handed → Connects to wire old mid → Closes back mid new → ReachesOne to old new
both_told {W} to wire back old mid new first connects closes =
    let closed : mid.closed ≡ old.closed = ap (λ (t : Told W). t.closed) connects.rest in
    let handed : mid.handed ≡ old.handed + 1 = ap (λ (t : Told W). t.handed) connects.rest in
    let room : length mid.closed < mid.handed = omega (arith, ap (λ (ws : List W). length ws) closed) in
    let given = closes.taken room in
    record {
      handed = ap (λ (t : Told W). t.handed) given ∙ handed;
      reached = ap (λ (t : Told W). t.reached) given ∙ ap (λ (t : Told W). t.reached) connects.rest;
      given_back = (back, ap (λ (t : Told W). t.closed) given ∙ ap (λ (ws : List W). ws ++ back ∷ []) closed);
      taken = ((wire, connects.first.0), connects.first.1 ∙ ap (λ (ws : List (W × Addr)). (wire, connects.first.0) ∷ ws) (sym (ap (λ (t : Told W). t.left) given)));
    }

pub connected_and_closed : {W : Type 0} (to : Addr) (wire back : W) (old mid new : Option (Told W))
    → IfSome old (λ told. length told.closed ≤ told.handed)
    → IfKnown (Connects to wire) old mid → IfKnown (Closes back) mid new → IfKnown (ReachesOne to) old new
connected_and_closed to wire back None None new first connects closes = closes
connected_and_closed to wire back None (Some mid) new first connects closes = cc
connected_and_closed to wire back (Some old) None new first connects closes = absurd connects
connected_and_closed to wire back (Some old) (Some mid) None first connects closes = absurd closes
connected_and_closed to wire back (Some old) (Some mid) (Some new) first connects closes =
    both_told to wire back old mid new first connects closes
