-- How often merge instructions name a label: a label that a branch enters is named by none, and each other label behind the first once.
use Rattle.std.proofs.Common.{◌≡◌, ℕ, ◌+◌, ◌≤◌, ◌⊎◌, inl, inr, true, false, cond, List, [], ◌∷◌, ◌++◌, map, Option, Some, None, refl, ap, arith}
use Rattle.std.proofs.lemmas.Bool.{eq-eqb}
use Rattle.spv_blocks.specs.Blocks.{Ins, Selection, Loop, times, names, names_in}
use Rattle.spv_walk.specs.Contexts.{Context, InSelection, InArm, InBody, InNext}
use Rattle.spv_bodies.specs.Bodies.{Parameter, Front, Entry, ByBranch, InPlace, Body, Leaves, Finishes, Step, Enters, Splits, Selects, Switches, Loops, Arms, Last, Also, Function, target, begins_at_branch}
use Rattle.spv_bodies.specs.Listing.{Branching, arriving}
use Rattle.spv_tree.specs.Branches.{branches_in}
use Rattle.spv_tree.specs.Sound.{IsSound, IsFormed, AreFormed, opens, entered, entered_of_arms, fronts, fronts_of_arms, own_label}
use Rattle.spv_trees.specs.Standing.{OneOf}
use Rattle.spv_structured.specs.Spots.{Spot, others, others_of_arms, header_spots, first_spot, phi_ins, front_ins, inside, block_of_spot, blocks_in}
use Rattle.spv_structured.proofs.Counting.{times_append, times_one, times_cons, distinct_times, one}

-- the labels that a branch enters: of plain blocks, and of headers that are no other front
abbrev mutual
  pub unnamed : Body → List ℕ
  unnamed (Leaves exit) = []
  unnamed (Finishes words) = []
  unnamed (Step words body) = unnamed body
  unnamed (Enters label body) = label ∷ unnamed body
  unnamed (Splits condition on exit body) = unnamed body
  unnamed (Selects control condition first second merge rest) = unnamed first ++ (unnamed second ++ unnamed rest)
  unnamed (Switches control selector cases arms merge rest) = unnamed_of_arms arms ++ unnamed rest
  unnamed (Loops entry header control inner next continuing merge rest) = own_label entry header.label ++ (unnamed inner ++ (unnamed continuing ++ unnamed rest))

  pub unnamed_of_arms : Arms → List ℕ
  unnamed_of_arms (Last arm) = unnamed arm
  unnamed_of_arms (Also arm arms) = unnamed arm ++ unnamed_of_arms arms

-- ---- names in instructions

names_in_append : (is js : List Ins) (t : ℕ) → names_in (is ++ js) t ≡ names_in is t + names_in js t
names_in_append [] js t = omega arith
names_in_append (i ∷ is) js t = let h = names_in_append is js t in omega (arith, h)

phis_name_none : (k : ℕ) (here : List Branching) (ps : List Parameter) (t : ℕ) → names_in (phi_ins k here ps) t ≡ 0
phis_name_none k here [] t = refl
phis_name_none k here (p ∷ ps) t = let h = phis_name_none (k + 1) here ps t in omega (arith, h)

front_names_none : (all : List Branching) (front : Option Front) (t : ℕ) → names_in (front_ins all front) t ≡ 0
front_names_none all None t = refl
front_names_none all (Some front) t = phis_name_none 0 (arriving front.label all) front.parameters t

-- behind a branch stands nothing but the merge instruction
pub inside_branch : (is : List Ins) (body : Body) → begins_at_branch body ≡ true → inside is body ≡ is
inside_branch is (Leaves exit) e = refl
inside_branch is (Enters label body) e = refl
inside_branch is (Loops (ByBranch values) header control inner next continuing merge rest) e = refl
inside_branch is other e = absurd (cc e)

one_name : (l t : ℕ) → times (l ∷ []) t ≡ one l t
one_name l t = let h = times_cons l [] t in omega (arith, h)

module _ (all : List Branching) where
  abbrev named : List Spot → ℕ → ℕ
  named spots t = names (map (block_of_spot all) spots) t

  named_append : (xs ys : List Spot) (t : ℕ) → named (xs ++ ys) t ≡ named xs t + named ys t
  named_append [] ys t = omega arith
  named_append (x ∷ xs) ys t = let h = named_append xs ys t in omega (arith, h)

  named_cons : (s : Spot) (xs : List Spot) (t : ℕ) → named (s ∷ xs) t ≡ names_in (inside [] s.body) t + named xs t
  named_cons s xs t =
      let a = names_in_append (front_ins all s.front) (inside [] s.body) t in
      let b = front_names_none all s.front t in
      omega (arith, a, b)

  -- the merge instruction that stands before counts where it is
  abbrev Named : List Ins → Context → ℕ → Body → ℕ → Type 0
  Named is c l body t = named (others c l body) t + names_in (inside is body) t + times (unnamed body) t ≡ names_in is t + times (entered body) t + times (fronts body) t

  nothing_inside : (body : Body) (t : ℕ) → begins_at_branch body ≡ true → names_in (inside [] body) t ≡ 0
  nothing_inside body t begins = ap (λ is. names_in is t) (inside_branch [] body begins)

  -- the parts of a loop
  abbrev LoopNamed : Context → ℕ → Entry → Front → ℕ → Body → Front → Body → Front → Body → List Ins → ℕ → Type 0
  LoopNamed c l entry header control inner next continuing merge rest is t = Named is c l (Loops entry header control inner next continuing merge rest) t

  loop_named : (entry : Entry) (header : Front) (control : ℕ) (inner : Body) (next : Front) (continuing : Body) (merge : Front) (rest : Body) (is : List Ins) (c : Context) (l t : ℕ)
      → (is ≡ []) ⊎ (entry ≡ InPlace → ⊥)
      → Named (Loop 0 merge.label next.label ∷ []) (InBody header.label merge.label next.label ∷ c) header.label inner t
      → Named [] (InNext header.label merge.label ∷ c) next.label continuing t → Named [] c merge.label rest t
      → Named is c l (Loops entry header control inner next continuing merge rest) t
  loop_named entry header control inner next continuing merge rest is c l t empty h1 h2 h3 =
      let in_body = InBody header.label merge.label next.label ∷ c in
      let in_next = InNext header.label merge.label ∷ c in
      let loop = Loops InPlace header control inner next continuing merge rest in
      let whole = Loops entry header control inner next continuing merge rest in
      let last : List Spot = record { context = c; from = header.label; label = merge.label; front = Some merge; body = rest } ∷ others c merge.label rest in
      let middle : List Spot = record { context = in_next; from = header.label; label = next.label; front = Some next; body = continuing } ∷ (others in_next next.label continuing ++ last) in
      let headers = header_spots c l entry header loop in
      let a0 : named (others c l whole) t ≡ named headers t + named (others in_body header.label inner ++ middle) t = named_append headers (others in_body header.label inner ++ middle) t in
      let a1 = named_append (others in_body header.label inner) middle t in
      let a2 : named middle t ≡ names_in (inside [] continuing) t + named (others in_next next.label continuing ++ last) t =
      named_cons (record { context = in_next; from = header.label; label = next.label; front = Some next; body = continuing }) (others in_next next.label continuing ++ last) t in
      let a3 = named_append (others in_next next.label continuing) last t in
      let a4 : named last t ≡ names_in (inside [] rest) t + named (others c merge.label rest) t =
      named_cons (record { context = c; from = header.label; label = merge.label; front = Some merge; body = rest }) (others c merge.label rest) t in
      let u0 : times (unnamed whole) t ≡ times (own_label entry header.label) t + times (unnamed inner ++ (unnamed continuing ++ unnamed rest)) t =
      times_append (own_label entry header.label) (unnamed inner ++ (unnamed continuing ++ unnamed rest)) t in
      let u1 = times_append (unnamed inner) (unnamed continuing ++ unnamed rest) t in
      let u2 = times_append (unnamed continuing) (unnamed rest) t in
      let b1 : times (entered whole) t ≡ times (entered inner ++ entered continuing) t + times (entered rest) t = times_append (entered inner ++ entered continuing) (entered rest) t in
      let b2 = times_append (entered inner) (entered continuing) t in
      let front = next.label ∷ merge.label ∷ fronts inner in
      let c0 : times (fronts whole) t ≡ times (own_label entry header.label ++ front ++ fronts continuing) t + times (fronts rest) t =
      times_append (own_label entry header.label ++ front ++ fronts continuing) (fronts rest) t in
      let c1 = times_append (own_label entry header.label ++ front) (fronts continuing) t in
      let c2 = times_append (own_label entry header.label) front t in
      let c3 = times_cons next.label (merge.label ∷ fronts inner) t in
      let c4 = times_cons merge.label (fronts inner) t in
      let d1 = times_cons merge.label (next.label ∷ []) t in
      let d2 = one_name next.label t in
      let i = header_inside entry empty in
      omega (arith, h1, h2, h3, a0, a1, a2, a3, a4, u0, u1, u2, b1, b2, c0, c1, c2, c3, c4, d1, d2, i)
    where
      -- the header's instructions stand in its own block or in this one
      header_inside : (entry : Entry) → (is ≡ []) ⊎ (entry ≡ InPlace → ⊥)
          → named (header_spots c l entry header (Loops InPlace header control inner next continuing merge rest)) t + names_in (inside is (Loops entry header control inner next continuing merge rest)) t
          ≡ names_in is t + names_in (inside (Loop 0 merge.label next.label ∷ []) inner) t
      header_inside (ByBranch values) empty =
          let h = named_cons (record { context = c; from = l; label = header.label; front = Some header; body = Loops InPlace header control inner next continuing merge rest }) [] t in
          omega (arith, h)
      header_inside InPlace (inl e) = let h : names_in is t ≡ 0 = ap (λ js. names_in js t) e in omega (arith, h)
      header_inside InPlace (inr n) = absurd (n refl)

  mutual
    body_named : (body : Body) (is : List Ins) (c : Context) (l t : ℕ) → (is ≡ []) ⊎ (opens body ≡ true) → IsFormed all body → Named is c l body t
    body_named (Leaves exit) is c l t o formed = omega arith
    body_named (Finishes words) is c l t o formed = omega arith
    body_named (Step words body) is c l t o formed = let h = body_named body is c l t o formed.1 in omega (arith, h)
    body_named (Enters label body) is c l t o formed =
        let h = body_named body [] c label t (inl refl) formed in
        let whole = Enters label body in
        let a : named (others c l whole) t ≡ names_in (inside [] body) t + named (others c label body) t = named_cons (record { context = c; from = l; label = label; front = None; body = body }) (others c label body) t in
        let u : times (unnamed whole) t ≡ one label t + times (unnamed body) t = times_cons label (unnamed body) t in
        let b : times (entered whole) t ≡ one label t + times (entered body) t = times_cons label (entered body) t in
        omega (arith, h, a, u, b)
    body_named (Splits condition on exit body) is c l t o formed =
        let h = body_named body [] c l t (inl refl) formed.1 in
        let n = nothing_inside body t formed.0 in
        omega (arith, h, n)
    body_named (Selects control condition first second merge rest) is c l t o formed =
        let i = InSelection merge.label ∷ c in
        let last : List Spot = record { context = c; from = l; label = merge.label; front = Some merge; body = rest } ∷ others c merge.label rest in
        let whole = Selects control condition first second merge rest in
        let h1 = body_named first [] i l t (inl refl) formed.3 in
        let h2 = body_named second [] i l t (inl refl) formed.4 in
        let h3 = body_named rest [] c merge.label t (inl refl) formed.5 in
        let n1 = nothing_inside first t formed.0 in
        let n2 = nothing_inside second t formed.1 in
        let a0 : named (others c l whole) t ≡ named (others i l first) t + named (others i l second ++ last) t = named_append (others i l first) (others i l second ++ last) t in
        let a1 = named_append (others i l second) last t in
        let a2 : named last t ≡ names_in (inside [] rest) t + named (others c merge.label rest) t =
        named_cons (record { context = c; from = l; label = merge.label; front = Some merge; body = rest }) (others c merge.label rest) t in
        let u0 : times (unnamed whole) t ≡ times (unnamed first) t + times (unnamed second ++ unnamed rest) t = times_append (unnamed first) (unnamed second ++ unnamed rest) t in
        let u1 = times_append (unnamed second) (unnamed rest) t in
        let b1 : times (entered whole) t ≡ times (entered first ++ entered second) t + times (entered rest) t = times_append (entered first ++ entered second) (entered rest) t in
        let b2 = times_append (entered first) (entered second) t in
        let c1 : times (fronts whole) t ≡ times (merge.label ∷ fronts first ++ fronts second) t + times (fronts rest) t = times_append (merge.label ∷ fronts first ++ fronts second) (fronts rest) t in
        let c2 = times_append (merge.label ∷ fronts first) (fronts second) t in
        let c3 = times_cons merge.label (fronts first) t in
        let d : names_in (inside is whole) t ≡ names_in is t + names_in (Selection 0 merge.label ∷ []) t = names_in_append is (Selection 0 merge.label ∷ []) t in
        let e = one_name merge.label t in
        omega (arith, h1, h2, h3, n1, n2, a0, a1, a2, u0, u1, b1, b2, c1, c2, c3, d, e)
    body_named (Switches control selector cases arms merge rest) is c l t o formed =
        let last : List Spot = record { context = c; from = l; label = merge.label; front = Some merge; body = rest } ∷ others c merge.label rest in
        let whole = Switches control selector cases arms merge rest in
        let h1 = arms_named arms c l merge.label t formed.2 in
        let h2 = body_named rest [] c merge.label t (inl refl) formed.3 in
        let a0 : named (others c l whole) t ≡ named (others_of_arms c l merge.label arms) t + named last t = named_append (others_of_arms c l merge.label arms) last t in
        let a2 : named last t ≡ names_in (inside [] rest) t + named (others c merge.label rest) t =
        named_cons (record { context = c; from = l; label = merge.label; front = Some merge; body = rest }) (others c merge.label rest) t in
        let u0 : times (unnamed whole) t ≡ times (unnamed_of_arms arms) t + times (unnamed rest) t = times_append (unnamed_of_arms arms) (unnamed rest) t in
        let b1 : times (entered whole) t ≡ times (entered_of_arms arms) t + times (entered rest) t = times_append (entered_of_arms arms) (entered rest) t in
        let c1 : times (fronts whole) t ≡ times (merge.label ∷ fronts_of_arms arms) t + times (fronts rest) t = times_append (merge.label ∷ fronts_of_arms arms) (fronts rest) t in
        let c2 = times_cons merge.label (fronts_of_arms arms) t in
        let d : names_in (inside is whole) t ≡ names_in is t + names_in (Selection 0 merge.label ∷ []) t = names_in_append is (Selection 0 merge.label ∷ []) t in
        let e = one_name merge.label t in
        omega (arith, h1, h2, a0, a2, u0, b1, c1, c2, d, e)
    body_named (Loops (ByBranch values) header control inner next continuing merge rest) is c l t o formed =
        loop_named (ByBranch values) header control inner next continuing merge rest is c l t (inr (λ e. absurd (cc e)))
        (body_named inner (Loop 0 merge.label next.label ∷ []) (InBody header.label merge.label next.label ∷ c) header.label t (inr formed.0) formed.4)
        (body_named continuing [] (InNext header.label merge.label ∷ c) next.label t (inl refl) formed.5) (body_named rest [] c merge.label t (inl refl) formed.6)
    body_named (Loops InPlace header control inner next continuing merge rest) is c l t o formed =
        loop_named InPlace header control inner next continuing merge rest is c l t (in_place o)
        (body_named inner (Loop 0 merge.label next.label ∷ []) (InBody header.label merge.label next.label ∷ c) header.label t (inr formed.0) formed.4)
        (body_named continuing [] (InNext header.label merge.label ∷ c) next.label t (inl refl) formed.5) (body_named rest [] c merge.label t (inl refl) formed.6)
      where
        in_place : (is ≡ []) ⊎ (false ≡ true) → (is ≡ []) ⊎ (InPlace ≡ InPlace → ⊥)
        in_place (inl e) = inl e
        in_place (inr e) = absurd (cc e)

    arms_named : (arms : Arms) (c : Context) (l m t : ℕ) → AreFormed all arms
        → named (others_of_arms c l m arms) t + times (unnamed_of_arms arms) t ≡ times (entered_of_arms arms) t + times (fronts_of_arms arms) t
    arms_named (Last arm) c l m t formed =
        let h = body_named arm [] (InArm l m (target arm) ∷ c) l t (inl refl) formed.1 in
        let n = nothing_inside arm t formed.0 in
        omega (arith, h, n)
    arms_named (Also arm arms) c l m t formed =
        let i = InArm l m (target arm) ∷ c in
        let whole = Also arm arms in
        let h1 = body_named arm [] i l t (inl refl) formed.1 in
        let n = nothing_inside arm t formed.0 in
        let h2 = arms_named arms c l m t formed.2 in
        let a : named (others_of_arms c l m whole) t ≡ named (others i l arm) t + named (others_of_arms c l m arms) t = named_append (others i l arm) (others_of_arms c l m arms) t in
        let u : times (unnamed_of_arms whole) t ≡ times (unnamed arm) t + times (unnamed_of_arms arms) t = times_append (unnamed arm) (unnamed_of_arms arms) t in
        let b : times (entered_of_arms whole) t ≡ times (entered arm) t + times (entered_of_arms arms) t = times_append (entered arm) (entered_of_arms arms) t in
        let d : times (fronts_of_arms whole) t ≡ times (fronts arm) t + times (fronts_of_arms arms) t = times_append (fronts arm) (fronts_of_arms arms) t in
        omega (arith, h1, n, h2, a, u, b, d)

-- ---- functions

named_and_entered : (f : Function) → IsSound f → (t : ℕ) → names (blocks_in f) t + times (unnamed f.body) t ≤ 1
named_and_entered f sound t =
    let all = branches_in f in
    let h = body_named all f.body [] [] f.label t (inl refl) sound.formed in
    let a : names (blocks_in f) t ≡ names_in (inside [] f.body) t + named all (others [] f.label f.body) t = named_cons all (first_spot f) (others [] f.label f.body) t in
    let d = distinct_times (f.label ∷ entered f.body ++ fronts f.body) t sound.labels in
    let b = times_append (f.label ∷ entered f.body) (fronts f.body) t in
    let c = times_cons f.label (entered f.body) t in
    omega (arith, h, a, d, b, c)

pub named_once : (f : Function) → IsSound f → (t : ℕ) → names (blocks_in f) t ≤ 1
named_once f sound t = let h = named_and_entered f sound t in omega (arith, h)

pub entered_unnamed : (f : Function) → IsSound f → (t : ℕ) → OneOf t (unnamed f.body) → names (blocks_in f) t ≡ 0
entered_unnamed f sound t e = let h = named_and_entered f sound t in let g = times_one (unnamed f.body) t e in omega (arith, h, g)

-- the first label is neither
first_is_neither : (f : Function) → IsSound f → names (blocks_in f) f.label + times (unnamed f.body) f.label ≡ 0
first_is_neither f sound =
    let t = f.label in
    let all = branches_in f in
    let h = body_named all f.body [] [] f.label t (inl refl) sound.formed in
    let a : names (blocks_in f) t ≡ names_in (inside [] f.body) t + named all (others [] f.label f.body) t = named_cons all (first_spot f) (others [] f.label f.body) t in
    let d = distinct_times (f.label ∷ entered f.body ++ fronts f.body) t sound.labels in
    let b = times_append (f.label ∷ entered f.body) (fronts f.body) t in
    let c = times_cons f.label (entered f.body) t in
    let e : one f.label t ≡ 1 = ap (λ z. cond z 1 0) (eq-eqb f.label t refl) in
    omega (arith, h, a, d, b, c, e)

pub first_unnamed : (f : Function) → IsSound f → names (blocks_in f) f.label ≡ 0
first_unnamed f sound = let h = first_is_neither f sound in omega (arith, h)

pub first_not_entered : (f : Function) → IsSound f → OneOf f.label (unnamed f.body) → ⊥
first_not_entered f sound e = let h = first_is_neither f sound in let g = times_one (unnamed f.body) f.label e in omega (arith, h, g)
