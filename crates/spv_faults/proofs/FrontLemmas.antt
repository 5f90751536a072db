-- The faults at the front of a block, one instruction after the other.
use Rattle.std.proofs.Common.{◌≡◌, ℕ, zero, suc, ◌+◌, ◌<◌, Bool, true, false, not, ◌||◌, nat_eq, List, [], ◌∷◌, ◌++◌, length, drop, get_or, map, Option, Some, refl, sym, ap, ◌∙◌, arith}
use Rattle.std.proofs.Math.Seq.{drop-cons}
use Rattle.std.specs.List.{slice_get}
use Rattle.std.specs.Option.{unwrap_or}
use Rattle.spv_walk.specs.Rules.{loop_at}
use Rattle.std.proofs.lemmas.Bool.Decides.{nat_tests}
use Rattle.std.proofs.lemmas.List.{drop-map, length-map, length-drop}
use Rattle.spv_base.specs.declared.fault.Refusal.{Refusal}
use Rattle.spv_module.specs.First.{first}
use Rattle.spv_blocks.specs.declared.block.Ins.{Ins as DeclaredIns}
use Rattle.spv_blocks.specs.Blocks.{Code, End, Ins, Phi, Selection, Loop, Other}
use Rattle.spv_blocks.specs.Seen.{seen_ins}
use Rattle.spv_walk.specs.Faults.{is_last, merge_faults}
use Rattle.spv_walk.specs.Found.{earlier_of}
use Rattle.spv_faults.specs.Parts.{merge_faults_of, is_phi, phi_faults_of, phi_faults_from}
use Rattle.spv_faults.proofs.EarlierLemmas.{first-next}

-- the rest of a list whose elements are seen in another way
pub rest-at : {X Y : Type 0} (f : X → Y) (xs : List X) (k : ℕ) (x : X) → k < length xs → x ≡ get_or xs k x → drop k (map f xs) ≡ f x ∷ drop (k + 1) (map f xs)
rest-at f xs k x within is =
    drop-map f k xs
    ∙ ap (map f) (drop-cons xs k x within)
    ∙ ap (λ y. f y ∷ map f (drop (suc k) xs)) (sym is)
    ∙ ap (λ rest. f x ∷ rest) (sym (drop-map f (suc k) xs))
    ∙ ap (λ n. f x ∷ drop n (map f xs)) (let same : suc k ≡ k + 1 = omega arith in same)

last_test : (rest : List Ins) (n count : ℕ) → length rest + n ≡ count → is_last rest ≡ nat_eq n count
last_test [] n count h = grind (arith, nat_tests)
last_test (i ∷ rest) n count h = grind (arith, nat_tests)

merge-cons : (f : Code) (h : ℕ) (e : End) (i : Ins) (is : List Ins) → merge_faults f h e (i ∷ is) ≡ merge_faults_of f h e (is_last is) i ++ merge_faults f h e is
merge-cons f h e (Phi at t r ps) is = refl
merge-cons f h e (Selection at m) is = refl
merge-cons f h e (Loop at m n) is = refl
merge-cons f h e (Other at) is = refl

pub merge-next : (f : Code) (h : ℕ) (e : End) (body : List DeclaredIns) (k : ℕ) (item : DeclaredIns) (found fault found2 all : Option Refusal) →
    k < length body → item ≡ get_or body k item → fault ≡ first (merge_faults_of f h e (nat_eq (k + 1) (length body)) (seen_ins item)) → found2 ≡ earlier_of found fault →
    earlier_of found (first (merge_faults f h e (drop k (map seen_ins body)))) ≡ all → earlier_of found2 (first (merge_faults f h e (drop (k + 1) (map seen_ins body)))) ≡ all
merge-next f h e body k item found fault found2 all within is told next before =
    let rest = drop (k + 1) (map seen_ins body) in
    let last : is_last rest ≡ nat_eq (k + 1) (length body) =
    last_test rest (k + 1) (length body) (omega (arith, within, length-drop (k + 1) (map seen_ins body), length-map body seen_ins)) in
    first-next found fault found2 all (merge_faults_of f h e (is_last rest) (seen_ins item)) (merge_faults f h e rest)
    (told ∙ ap (λ b. first (merge_faults_of f h e b (seen_ins item))) (sym last)) next
    (ap (λ bs. earlier_of found (first bs)) (sym (ap (merge_faults f h e) (rest-at seen_ins body k item within is) ∙ merge-cons f h e (seen_ins item) rest)) ∙ before)

phi-cons : (is_pointer : ℕ → Bool) (f : Code) (l : ℕ) (late : Bool) (i : Ins) (is : List Ins) →
    phi_faults_from is_pointer f l late (i ∷ is) ≡ phi_faults_of is_pointer f l late i ++ phi_faults_from is_pointer f l (late || not (is_phi i)) is
phi-cons is_pointer f l true (Phi at t r ps) is = refl
phi-cons is_pointer f l true (Selection at m) is = refl
phi-cons is_pointer f l true (Loop at m n) is = refl
phi-cons is_pointer f l true (Other at) is = refl
phi-cons is_pointer f l false (Phi at t r ps) is = refl
phi-cons is_pointer f l false (Selection at m) is = refl
phi-cons is_pointer f l false (Loop at m n) is = refl
phi-cons is_pointer f l false (Other at) is = refl

pub phi-next : (is_pointer : ℕ → Bool) (f : Code) (l : ℕ) (late late2 : Bool) (body : List DeclaredIns) (k : ℕ) (item : DeclaredIns) (found fault found2 all : Option Refusal) →
    k < length body → item ≡ get_or body k item → fault ≡ first (phi_faults_of is_pointer f l late (seen_ins item)) → found2 ≡ earlier_of found fault →
    late2 ≡ (late || not (is_phi (seen_ins item))) → earlier_of found (first (phi_faults_from is_pointer f l late (drop k (map seen_ins body)))) ≡ all →
    earlier_of found2 (first (phi_faults_from is_pointer f l late2 (drop (k + 1) (map seen_ins body)))) ≡ all
phi-next is_pointer f l late late2 body k item found fault found2 all within is told next turns before =
    let rest = drop (k + 1) (map seen_ins body) in
    first-next found fault found2 all (phi_faults_of is_pointer f l late (seen_ins item)) (phi_faults_from is_pointer f l late2 rest) told next
    (ap (λ b. earlier_of found (first (phi_faults_of is_pointer f l late (seen_ins item) ++ phi_faults_from is_pointer f l b rest))) turns
    ∙ ap (λ bs. earlier_of found (first bs)) (sym (ap (phi_faults_from is_pointer f l late) (rest-at seen_ins body k item within is) ∙ phi-cons is_pointer f l late (seen_ins item) rest))
    ∙ before)

-- ---- the OpLoopMerge that stands last

loop-skip : (i j : Ins) (is : List Ins) → loop_at (i ∷ j ∷ is) ≡ loop_at (j ∷ is)
loop-skip (Phi at t r ps) j is = refl
loop-skip (Selection at m) j is = refl
loop-skip (Loop at m n) j is = refl
loop-skip (Other at) j is = refl

-- induction on the instructions
pub loop_at-last : (is : List DeclaredIns) (n : ℕ) (i : DeclaredIns) → suc n ≡ length is → slice_get is n ≡ Some i → loop_at (map seen_ins is) ≡ loop_at (seen_ins i ∷ [])
loop_at-last [] n i last at = absurd (omega arith)
loop_at-last (x ∷ []) zero i last at = ap (λ o. loop_at (seen_ins (unwrap_or o x) ∷ [])) at
loop_at-last (x ∷ []) (suc n) i last at = absurd (omega arith)
loop_at-last (x ∷ y ∷ is) zero i last at = absurd (omega arith)
loop_at-last (x ∷ y ∷ is) (suc n) i last at = loop-skip (seen_ins x) (seen_ins y) (map seen_ins is) ∙ loop_at-last (y ∷ is) n i (omega arith) at
