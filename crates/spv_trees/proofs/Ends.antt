-- What stands at the end of a list of statements, behind the parts of a body.
use Rattle.std.proofs.Common.{◌≡◌, ℕ, ◌+◌, cond, List, [], ◌∷◌, ◌++◌, sym, ◌∙◌, subst, append_assoc}
use Rattle.spv_meaning.specs.Statements as says
use Rattle.spv_meaning.specs.Statements.{Statement, said}
use Rattle.spv_bodies.specs.Bodies.{Parameter, Front, ByBranch, InPlace, Body, Leaves, Finishes, Step, Enters, Splits, Selects, Switches, Loops, Arms, Last, Also, target}
use Rattle.spv_bodies.specs.Listing.{Branching, arriving, in_order, phi_pairs, first_target}
use Rattle.spv_trees.proofs.Spelling.{say, say_arm, say_arms, say_front, say_phis, said_front}

-- some statements at the end of all
abbrev pub Ends : List Statement → List Statement → Type 0
Ends all rest = (front : List Statement) × (all ≡ front ++ rest)

pub ends_behind : (all front rest : List Statement) → Ends all (front ++ rest) → Ends all rest
ends_behind all front rest h = (h.0 ++ front, h.1 ∙ sym (append_assoc h.0 front rest))

pub ends_said : (all : List Statement) (words : List ℕ) (rest : List Statement) → Ends all (said words rest) → Ends all rest
ends_said all words rest h = ends_behind all (said words []) rest (subst (Ends all) (said_front words rest) h)

ends_phis : (all : List Statement) (k : ℕ) (bs : List Branching) (ps : List Parameter) (rest : List Statement) → Ends all (say_phis k bs ps rest) → Ends all rest
ends_phis all k bs [] rest h = h
ends_phis all k bs (p ∷ ps) rest h = ends_phis all (k + 1) bs ps rest (ends_behind all (says.Phi p.type p.result_id (phi_pairs k (in_order p.parents bs)) ∷ []) (say_phis (k + 1) bs ps rest) h)

pub ends_front : (all : List Statement) (bs : List Branching) (front : Front) (rest : List Statement) → Ends all (say_front bs front rest) → Ends all rest
ends_front all bs front rest h = ends_phis all 0 bs' front.parameters rest (ends_behind all (says.Label front.label ∷ []) (say_phis 0 bs' front.parameters rest) h)
  where
    bs' : List Branching
    bs' = arriving front.label bs

module _ (all : List Statement) (bs : List Branching) where
  -- behind a body, an arm or arms
  mutual
    pub ends_body : (body : Body) (ms rest : List Statement) → Ends all (say bs ms body rest) → Ends all rest
    ends_body (Leaves exit) ms rest h = ends_behind all (says.Branch exit.target ∷ []) rest (ends_behind all ms (says.Branch exit.target ∷ rest) h)
    ends_body (Finishes words) ms rest h = ends_said all words rest (ends_behind all ms (said words rest) h)
    ends_body (Step words body) ms rest h = ends_body body ms rest (ends_said all words (say bs ms body rest) h)
    ends_body (Enters label body) ms rest h =
        ends_body body [] rest
        (ends_behind all (says.Branch label ∷ says.Label label ∷ []) (say bs [] body rest) (ends_behind all ms (says.Branch label ∷ says.Label label ∷ say bs [] body rest) h))
    ends_body (Splits condition on exit body) ms rest h =
        let s : Statement = says.BranchConditional condition (cond on exit.target (target body)) (cond on (target body) exit.target) in
        ends_arm body rest (ends_behind all (s ∷ []) (say_arm bs body rest) (ends_behind all ms (s ∷ say_arm bs body rest) h))
    ends_body (Selects control condition first second merge body) ms rest h =
        let s : Statement = says.BranchConditional condition (target first) (target second) in
        let behind : List Statement = say_front bs merge (say bs [] body rest) in
        ends_body body [] rest (ends_front all bs merge (say bs [] body rest)
        (ends_arm second behind (ends_arm first (say_arm bs second behind)
        (ends_behind all (says.Merge ∷ s ∷ []) (say_arm bs first (say_arm bs second behind)) (ends_behind all ms (says.Merge ∷ s ∷ say_arm bs first (say_arm bs second behind)) h)))))
    ends_body (Switches control selector cases arms merge body) ms rest h =
        let s : Statement = says.Switch selector (first_target arms) cases in
        let behind : List Statement = say_front bs merge (say bs [] body rest) in
        ends_body body [] rest (ends_front all bs merge (say bs [] body rest)
        (ends_arms arms behind (ends_behind all (says.Merge ∷ s ∷ []) (say_arms bs arms behind) (ends_behind all ms (says.Merge ∷ s ∷ say_arms bs arms behind) h))))
    ends_body (Loops (ByBranch ids) header control inner next continuing merge body) ms rest h =
        let last : List Statement = say_front bs merge (say bs [] body rest) in
        let middle : List Statement = say_front bs next (say bs [] continuing last) in
        let first : List Statement = say bs (says.Merge ∷ []) inner middle in
        ends_body body [] rest (ends_front all bs merge (say bs [] body rest)
        (ends_body continuing [] last (ends_front all bs next (say bs [] continuing last)
        (ends_body inner (says.Merge ∷ []) middle (ends_front all bs header first
        (ends_behind all (says.Branch header.label ∷ []) (say_front bs header first) (ends_behind all ms (says.Branch header.label ∷ say_front bs header first) h)))))))
    ends_body (Loops InPlace header control inner next continuing merge body) ms rest h =
        let last : List Statement = say_front bs merge (say bs [] body rest) in
        let middle : List Statement = say_front bs next (say bs [] continuing last) in
        ends_body body [] rest (ends_front all bs merge (say bs [] body rest)
        (ends_body continuing [] last (ends_front all bs next (say bs [] continuing last)
        (ends_body inner (says.Merge ∷ []) middle h))))

    pub ends_arm : (arm : Body) (rest : List Statement) → Ends all (say_arm bs arm rest) → Ends all rest
    ends_arm (Enters label body) rest h = ends_body body [] rest (ends_behind all (says.Label label ∷ []) (say bs [] body rest) h)
    ends_arm (Loops entry header control inner next continuing merge body) rest h =
        let last : List Statement = say_front bs merge (say bs [] body rest) in
        let middle : List Statement = say_front bs next (say bs [] continuing last) in
        ends_body body [] rest (ends_front all bs merge (say bs [] body rest)
        (ends_body continuing [] last (ends_front all bs next (say bs [] continuing last)
        (ends_body inner (says.Merge ∷ []) middle (ends_front all bs header (say bs (says.Merge ∷ []) inner middle) h)))))
    ends_arm other rest h = h

    pub ends_arms : (arms : Arms) (rest : List Statement) → Ends all (say_arms bs arms rest) → Ends all rest
    ends_arms (Last arm) rest h = ends_arm arm rest h
    ends_arms (Also arm arms) rest h = ends_arms arms rest (ends_arm arm (say_arms bs arms rest) h)
