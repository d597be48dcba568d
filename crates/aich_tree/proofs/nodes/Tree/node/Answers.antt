use Rattle.std.proofs.Common.{◌≡◌, ℕ, ◌+◌, ◌-◌, true, List, length, take, drop, get_or, Option, Some, IfSome, option_map, arith, sym, ap, subst, ◌∙◌}
use Rattle.part_sizes.specs.declared.span.Span.{Span}
use Rattle.aich_tree.specs.Ident.{bytes_at, is_left, node, node_range}
use Rattle.aich_tree.specs.Kept.{IsKeptAt, kept_count}
use Rattle.aich_tree.specs.Leaves.{leaf_count}
use Rattle.aich_tree.specs.Tree.{tree}
use Rattle.aich_tree.proofs.KeptLemmas.{length-kept_of, node-kept}
use Rattle.aich_tree.proofs.LeafLemmas.{length-leaves_of}
use Rattle.aich_tree.proofs.PlaceLemmas.{length-bytes_at}
use Rattle.aich_tree.proofs.nodes.Tree.node.Goals as goal

pub slice_bounds-leaves-end : goal.slice_bounds-leaves-end
slice_bounds-leaves-end c =
    let long : length c.deref.result.now ≡ leaf_count c.self.inside.size =
    ap length (c.deref.ensures.value ∙ c.self.invariant.leaves_are)
    ∙ length-leaves_of c.self.inside.fed.bytes
    ∙ ap leaf_count (sym c.self.invariant.counted) in
    let count = c.leaf_count.ensures ∙ ap leaf_count c.len-n.ensures in
    omega (arith, long, count, c.in_ok-place.ensures.place.count)

-- the hash of a node that is there
found : (now bytes : List ℕ) (size ident : ℕ) (span : Span) (hash : List ℕ) → bytes ≡ now → size ≡ length bytes → Some span ≡ node_range size ident
    → hash ≡ tree (bytes_at bytes span) (is_left ident) → Some hash ≡ node now ident
found now bytes size ident span hash view counted named is =
    ap Some is
    ∙ ap (option_map (λ (s : Span). tree (bytes_at bytes s) (is_left ident))) (named ∙ ap (λ (n : ℕ). node_range n ident) counted)
    ∙ ap (λ (whole : List ℕ). node whole ident) view

at_place : (size ident first : ℕ) (span : Span) (kept : Option ℕ) → kept ≡ Some first → IfSome kept (IsKeptAt size (is_left ident) span) → IsKeptAt size (is_left ident) span first
at_place size ident first span kept is here = subst (λ (place : Option ℕ). IfSome place (IsKeptAt size (is_left ident) span)) is here

pub index-requires : goal.index-requires
index-requires c =
    let bytes = c.self.inside.fed.bytes in
    let long : length c.self.inside.kept.items ≡ kept_count c.self.inside.size =
    ap length c.self.invariant.kept_are
    ∙ length-kept_of bytes true (omega (arith, c.self.invariant.sized.0, c.self.invariant.counted))
    ∙ ap kept_count (sym c.self.invariant.counted) in
    let count = c.kept_count.ensures ∙ ap kept_count c.len-n.ensures in
    let here = at_place c.self.inside.size c.args.ident c.in-Some.first c.in_ok-place.place.span c.in_ok-place.place.kept c.in-Some.is c.in_ok-place.ensures.kept in
    omega (arith, long, count, here.count, c.in_ok-place.ensures.place.some)

pub returns-in-Some : goal.returns-in-Some
returns-in-Some c =
    let bytes = c.self.inside.fed.bytes in
    let place = c.in_ok-place.place in
    let other = c.index.result.now in
    let size = sym c.self.invariant.counted in
    let count = c.kept_count.ensures ∙ ap kept_count c.len-n.ensures in
    let here = at_place c.self.inside.size c.args.ident c.in-Some.first place.span place.kept c.in-Some.is c.in_ok-place.ensures.kept in
    let hash : c.index.result.now ≡ tree (bytes_at bytes place.span) (is_left c.args.ident) =
    c.index.ensures
    ∙ ap (λ (n : ℕ). get_or c.self.inside.kept.items (c.in-Some.first + n - 1) other) count
    ∙ ap (λ (all : List (List ℕ)). get_or all (c.in-Some.first + kept_count (place.span.e - place.span.s) - 1) other) c.self.invariant.kept_are
    ∙ node-kept bytes c.self.inside.size place.span.s place.span.e c.in-Some.first (is_left c.args.ident) other size c.in_ok-place.ensures.place.some here in
    found c.args.self.now bytes c.self.inside.size c.args.ident place.span c.index.result.now c.self.view_is c.self.invariant.counted c.in_ok-place.ensures.range hash

pub returns : goal.returns
returns c =
    let bytes = c.self.inside.fed.bytes in
    let place = c.in_ok-place.place in
    let n : c.len-n.result ≡ place.span.e - place.span.s = c.len-n.ensures in
    let long : length (bytes_at bytes place.span) ≡ c.len-n.result =
    length-bytes_at bytes c.self.inside.size place.span.s place.span.e (sym c.self.invariant.counted) c.in_ok-place.ensures.place.within ∙ sym n in
    let count : place.leaf + c.leaf_count.result - place.leaf ≡ leaf_count (place.span.e - place.span.s) = omega (arith, c.leaf_count.ensures ∙ ap leaf_count n) in
    let leaves =
    ap (λ (k : ℕ). take k (drop place.leaf c.deref.result.now)) count
    ∙ ap (λ (all : List (List ℕ)). take (leaf_count (place.span.e - place.span.s)) (drop place.leaf all)) (c.deref.ensures.value ∙ c.self.invariant.leaves_are)
    ∙ sym (c.in_ok-place.ensures.place.leaves bytes (sym c.self.invariant.counted)) in
    found c.args.self.now bytes c.self.inside.size c.args.ident place.span c.fold.result c.self.view_is c.self.invariant.counted c.in_ok-place.ensures.range
    (c.fold.ensures (bytes_at bytes place.span) long leaves ∙ ap (tree (bytes_at bytes place.span)) c.is_left.ensures)
