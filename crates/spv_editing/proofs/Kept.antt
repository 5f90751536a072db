-- What editing keeps of a body: its depth, labels and fronts, and where its branches go; by induction on the tree.
use Rattle.std.proofs.Common.{◌≡◌, ℕ, ◌+◌, max, List, ◌∷◌, ◌++◌, map, refl, sym, ap, ◌∙◌}
use Rattle.std.proofs.lemmas.List.{map-append}
use Rattle.spv_bodies.specs.Bodies.{Entry, ByBranch, InPlace, Body, Leaves, Finishes, Step, Enters, Splits, Selects, Switches, Loops, Arms, Last, Also, Function, depth, depth_of_arms}
use Rattle.spv_bodies.specs.Listing.{Branching, branches, branches_of_arms, entering}
use Rattle.spv_tree.specs.Branches.{branches_in}
use Rattle.spv_tree.specs.Sound.{entered, entered_of_arms, fronts, fronts_of_arms, own_label}
use Rattle.spv_editing.specs.Editing.{Edit, edited, edited_arms, edited_branching, edited_entry, edited_function}
use Rattle.spv_editing.proofs.Steps.{branches-before, depth-before, entered-before, fronts-before}

module _ (e : Edit) where
  -- ---- the depth
  mutual
    pub depth-kept : (b : Body) → depth (edited e b) ≡ depth b
    depth-kept (Leaves exit) = refl
    depth-kept (Finishes words) = refl
    depth-kept (Step words body) = depth-before (e.steps words) (edited e body) ∙ depth-kept body
    depth-kept (Enters label body) = depth-kept body
    depth-kept (Splits condition on exit body) = depth-kept body
    depth-kept (Selects control condition first second merge rest) = λ i. max (max (depth-kept first i) (depth-kept second i) + 1) (depth-kept rest i)
    depth-kept (Switches control selector cases arms merge rest) = λ i. max (depth-of-arms-kept arms i + 1) (depth-kept rest i)
    depth-kept (Loops entry header control inner next continuing merge rest) =
        λ i. max (max (depth-kept inner i) (depth-kept continuing i) + 1) (depth-kept rest i)

    depth-of-arms-kept : (arms : Arms) → depth_of_arms (edited_arms e arms) ≡ depth_of_arms arms
    depth-of-arms-kept (Last arm) = depth-kept arm
    depth-of-arms-kept (Also arm arms) = λ i. max (depth-kept arm i) (depth-of-arms-kept arms i)

  -- ---- labels
  mutual
    pub entered-kept : (b : Body) → entered (edited e b) ≡ entered b
    entered-kept (Leaves exit) = refl
    entered-kept (Finishes words) = refl
    entered-kept (Step words body) = entered-before (e.steps words) (edited e body) ∙ entered-kept body
    entered-kept (Enters label body) = ap (λ (z : List ℕ). label ∷ z) (entered-kept body)
    entered-kept (Splits condition on exit body) = entered-kept body
    entered-kept (Selects control condition first second merge rest) = λ i. entered-kept first i ++ entered-kept second i ++ entered-kept rest i
    entered-kept (Switches control selector cases arms merge rest) = λ i. entered-of-arms-kept arms i ++ entered-kept rest i
    entered-kept (Loops entry header control inner next continuing merge rest) =
        λ i. entered-kept inner i ++ entered-kept continuing i ++ entered-kept rest i

    entered-of-arms-kept : (arms : Arms) → entered_of_arms (edited_arms e arms) ≡ entered_of_arms arms
    entered-of-arms-kept (Last arm) = entered-kept arm
    entered-of-arms-kept (Also arm arms) = λ i. entered-kept arm i ++ entered-of-arms-kept arms i

  own-label-kept : (entry : Entry) (label : ℕ) → own_label (edited_entry e entry) label ≡ own_label entry label
  own-label-kept (ByBranch values) label = refl
  own-label-kept InPlace label = refl

  mutual
    pub fronts-kept : (b : Body) → fronts (edited e b) ≡ fronts b
    fronts-kept (Leaves exit) = refl
    fronts-kept (Finishes words) = refl
    fronts-kept (Step words body) = fronts-before (e.steps words) (edited e body) ∙ fronts-kept body
    fronts-kept (Enters label body) = fronts-kept body
    fronts-kept (Splits condition on exit body) = fronts-kept body
    fronts-kept (Selects control condition first second merge rest) = λ i. merge.label ∷ fronts-kept first i ++ fronts-kept second i ++ fronts-kept rest i
    fronts-kept (Switches control selector cases arms merge rest) = λ i. merge.label ∷ fronts-of-arms-kept arms i ++ fronts-kept rest i
    fronts-kept (Loops entry header control inner next continuing merge rest) =
        λ i. own-label-kept entry header.label i ++ next.label ∷ merge.label ∷ fronts-kept inner i ++ fronts-kept continuing i ++ fronts-kept rest i

    fronts-of-arms-kept : (arms : Arms) → fronts_of_arms (edited_arms e arms) ≡ fronts_of_arms arms
    fronts-of-arms-kept (Last arm) = fronts-kept arm
    fronts-of-arms-kept (Also arm arms) = λ i. fronts-kept arm i ++ fronts-of-arms-kept arms i

  -- ---- branches
  entering-kept : (block header : ℕ) (entry : Entry) → entering block header (edited_entry e entry) ≡ map (edited_branching e) (entering block header entry)
  entering-kept block header (ByBranch values) = refl
  entering-kept block header InPlace = refl

  -- what is mapped of two lists, and of three
  two : (a b : List Branching) → map (edited_branching e) a ++ map (edited_branching e) b ≡ map (edited_branching e) (a ++ b)
  two a b = sym (map-append (edited_branching e) a b)

  three : (a b c : List Branching) → map (edited_branching e) a ++ (map (edited_branching e) b ++ map (edited_branching e) c) ≡ map (edited_branching e) (a ++ (b ++ c))
  three a b c = ap (λ (z : List Branching). map (edited_branching e) a ++ z) (two b c) ∙ two a (b ++ c)

  four : (a b c d : List Branching) → map (edited_branching e) a ++ (map (edited_branching e) b ++ (map (edited_branching e) c ++ map (edited_branching e) d)) ≡ map (edited_branching e) (a ++ (b ++ (c ++ d)))
  four a b c d = ap (λ (z : List Branching). map (edited_branching e) a ++ z) (three b c d) ∙ two a (b ++ (c ++ d))

  mutual
    pub branches-kept : (block : ℕ) (b : Body) → branches block (edited e b) ≡ map (edited_branching e) (branches block b)
    branches-kept block (Leaves exit) = refl
    branches-kept block (Finishes words) = refl
    branches-kept block (Step words body) = branches-before block (e.steps words) (edited e body) ∙ branches-kept block body
    branches-kept block (Enters label body) = branches-kept label body
    branches-kept block (Splits condition on exit body) = ap (λ (z : List Branching). edited_branching e (block, exit) ∷ z) (branches-kept block body)
    branches-kept block (Selects control condition first second merge rest) =
        (λ i. branches-kept block first i ++ (branches-kept block second i ++ branches-kept merge.label rest i))
        ∙ three (branches block first) (branches block second) (branches merge.label rest)
    branches-kept block (Switches control selector cases arms merge rest) =
        (λ i. branches-of-arms-kept block arms i ++ branches-kept merge.label rest i) ∙ two (branches_of_arms block arms) (branches merge.label rest)
    branches-kept block (Loops entry header control inner next continuing merge rest) =
        (λ i. entering-kept block header.label entry i ++ (branches-kept header.label inner i ++ (branches-kept next.label continuing i ++ branches-kept merge.label rest i)))
        ∙ four (entering block header.label entry) (branches header.label inner) (branches next.label continuing) (branches merge.label rest)

    branches-of-arms-kept : (block : ℕ) (arms : Arms) → branches_of_arms block (edited_arms e arms) ≡ map (edited_branching e) (branches_of_arms block arms)
    branches-of-arms-kept block (Last arm) = branches-kept block arm
    branches-of-arms-kept block (Also arm arms) =
        (λ i. branches-kept block arm i ++ branches-of-arms-kept block arms i) ∙ two (branches block arm) (branches_of_arms block arms)

  pub branches-in-kept : (f : Function) → branches_in (edited_function e f) ≡ map (edited_branching e) (branches_in f)
  branches-in-kept f = branches-kept f.label f.body
