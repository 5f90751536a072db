-- The OpPhis of a front, one after the other.
use Rattle.std.proofs.Common.{◌≡◌, ℕ, suc, ◌+◌, ◌<◌, ◌≤◌, List, [], ◌∷◌, ◌++◌, length, map, take, get_or, All, sym, ap, ◌∙◌, subst, append_assoc, zero-add, arith}
use Rattle.std.specs.Borrow.{Bor}
use Rattle.std.proofs.lemmas.List.{map-append, length-map, get_or-map, length-take-le}
use Rattle.std.proofs.lemmas.List.Elements.{All-nil, All-append, All-filter}
use Rattle.std.specs.List.{flat_map}
use Rattle.spv_bodies.specs.Bodies as plain
use Rattle.spv_bodies.specs.Listing.{Branching, from_block, from_others, in_order, phi_line, phi_lines}
use Rattle.spv_tree.specs.declared.body.Parameter.{Parameter}
use Rattle.spv_tree.specs.declared.branch.Branch.{Branch}
use Rattle.spv_tree.specs.Tree.{parameter_of}
use Rattle.spv_tree.specs.Branches.{shown}
use Rattle.spv_tree.proofs.Equations.{one_more}

-- what holds of each of some images holds of that of an element
pub at-map : {X Y : Type 0} (P : Y → Type 0) (f : X → Y) (xs : List X) (i : ℕ) (x : X) → i < length xs → x ≡ get_or xs i x → All P (map f xs) → P (f x)
at-map P f xs i x lt is all =
    let same : get_or (map f xs) i (f x) ≡ f x = get_or-map f xs i x (f x) lt ∙ ap f (sym is) in
    let long : length (map f xs) ≡ length xs = length-map xs f in
    subst P same (all i (f x) (omega arith))

named-all : (P : Branching → Type 0) (parents : List ℕ) (all : List Branching) → All P all → All P (flat_map (from_block all) parents)
named-all P [] all h = All-nil P
named-all P (block ∷ parents) all h = All-append P (from_block all block) (flat_map (from_block all) parents) (All-filter _ P all h) (named-all P parents all h)

-- an order of branches has no others
order-all : (P : Branching → Type 0) (parents : List ℕ) (all : List Branching) → All P all → All P (in_order parents all)
order-all P parents all h = All-append P (flat_map (from_block all) parents) (from_others all parents) (named-all P parents all h) (All-filter _ P all h)

pub ordered-all : (P : Branching → Type 0) (parents parents' : List ℕ) (all : List Branching) (made made' : List (Bor Branch)) → All P all → parents' ≡ parents → made' ≡ made
    → shown made ≡ in_order parents' all → All P (shown made')
ordered-all P parents parents' all made made' h named same is =
    subst (All P) (sym (ap shown same ∙ is ∙ ap (λ z. in_order z all) named)) (order-all P parents all h)

add_zero : (k : ℕ) → k ≡ k + 0
add_zero k = omega arith

shift : (k n : ℕ) → (k + 1) + n ≡ k + suc n
shift k n = omega arith

below : (k n : ℕ) → k < n → k ≤ n
below k n lt = omega arith

-- one parameter more
phis-push : (k : ℕ) (all : List Branching) (parameters : List plain.Parameter) (p : plain.Parameter) → phi_lines k all (parameters ++ p ∷ []) ≡ phi_lines k all parameters ++ phi_line (k + length parameters) all p ∷ []
phis-push k all [] p = ap (λ n. phi_line n all p ∷ []) (add_zero k)
phis-push k all (q ∷ parameters) p =
    ap (λ z. phi_line k all q ∷ z) (phis-push (k + 1) all parameters p)
    ∙ ap (λ n. phi_line k all q ∷ (phi_lines (k + 1) all parameters ++ phi_line n all p ∷ [])) (shift k (length parameters))

pub phis-more : (all : List Branching) (parameters : List Parameter) (i : ℕ) (p : Parameter) (w0 w1 w2 : List (List ℕ)) → i < length parameters → p ≡ get_or parameters i p
    → w1 ≡ w0 ++ phi_lines 0 all (map parameter_of (take i parameters)) → w2 ≡ w1 ++ phi_line i all (parameter_of p) ∷ []
    → w2 ≡ w0 ++ phi_lines 0 all (map parameter_of (take (i + 1) parameters))
phis-more all parameters i p w0 w1 w2 lt is before here =
    here ∙ ap (λ z. z ++ phi_line i all (parameter_of p) ∷ []) before ∙ append_assoc w0 (phi_lines 0 all (map parameter_of (take i parameters))) (phi_line i all (parameter_of p) ∷ [])
    ∙ ap (λ n. w0 ++ (phi_lines 0 all (map parameter_of (take i parameters)) ++ phi_line n all (parameter_of p) ∷ [])) (sym count)
    ∙ ap (λ z. w0 ++ z) (sym (phis-push 0 all (map parameter_of (take i parameters)) (parameter_of p)))
    ∙ ap (λ z. w0 ++ phi_lines 0 all z) (sym (map-append parameter_of (take i parameters) (p ∷ [])))
    ∙ ap (λ z. w0 ++ phi_lines 0 all (map parameter_of z)) (sym (one_more parameters i p lt is))
  where
    count : 0 + length (map parameter_of (take i parameters)) ≡ i
    count = zero-add (length (map parameter_of (take i parameters))) ∙ length-map (take i parameters) parameter_of ∙ length-take-le i parameters (below i (length parameters) lt)
