-- What is made of the OpPhi of a block, one after the other.
use Rattle.std.proofs.Common.{◌≡◌, ℕ, ◌+◌, ◌<◌, true, false, List, [], ◌∷◌, ◌++◌, length, get_or, take, drop, map, All, Some, refl, sym, ap, subst, ◌∙◌, append_assoc, append-nil, arith}
use Rattle.std.specs.List.{slice_get}
use Rattle.std.proofs.lemmas.List.{map-append, length-map, get_or-map}
use Rattle.spv_grammar.specs.declared.kind.Role.TheVariants.{Opcode, TypeId, DefinedId, UsedId}
use Rattle.spv_grammar.specs.Operands.{roles_of}
use Rattle.spv_grammar.specs.Table.{row_of}
use Rattle.spv_module.specs.declared.inst.Inst.{Inst}
use Rattle.spv_module.specs.Instruction.{Instruction, instruction_rules}
use Rattle.spv_module.specs.View.{seen}
use Rattle.spv_blocks.specs.Blocks.{seconds}
use Rattle.spv_blocks.specs.Cutting.{word}
use Rattle.spv_blocks.proofs.Slices.{drop-at}
use Rattle.spv_bodies.specs.Bodies.{Body, Step}
use Rattle.spv_spelling.specs.Text.{copies, copy_of}
use Rattle.spv_tree.specs.declared.body.Item.{Item, Op}
use Rattle.spv_tree.specs.Tree.{items_then, words_of}
use Rattle.spv_tree.proofs.Equations.{one_more, then_push, then_op}
use Rattle.spv_tree.proofs.Made.{unbroken_by, within}
use Rattle.spv_sources.specs.declared.pairing.Incoming.{Incoming}
use Rattle.spv_sources.specs.declared.phi.Phi.{Phi}
use Rattle.spv_sources.specs.Pairs.{incoming}
use Rattle.spv_sources.specs.Tail.{is_phi_inst, phi_insts}
use Rattle.spv_sources.specs.Values.{shown}

-- ---- the OpPhi

pub phis-more : (insts : List Instruction) (start k : ℕ) (i : Instruction) (phi : Phi) (old new : List Phi) → slice_get insts k ≡ Some i
    → is_phi_inst (seen phi.inst) ≡ true → seen phi.inst ≡ i
    → new ≡ old ++ phi ∷ [] → phi_insts (drop start insts) ≡ shown old ++ phi_insts (drop k insts) → phi_insts (drop start insts) ≡ shown new ++ phi_insts (drop (k + 1) insts)
phis-more insts start k i phi old new at is same pushed told =
    let here : is_phi_inst i ≡ true = subst (λ (j : Instruction). is_phi_inst j ≡ true) same is in
    let next : phi_insts (drop k insts) ≡ i ∷ phi_insts (drop (k + 1) insts) = ap phi_insts (drop-at insts k i at) ∙ rw here refl in
    let made : shown new ≡ shown old ++ i ∷ [] = ap shown pushed ∙ map-append (λ (phi : Phi). seen phi.inst) old (phi ∷ []) ∙ ap (λ z. shown old ++ z ∷ []) same in
    told ∙ ap (λ z. shown old ++ z) next ∙ sym (ap (λ z. z ++ phi_insts (drop (k + 1) insts)) made ∙ append_assoc (shown old) (i ∷ []) (phi_insts (drop (k + 1) insts)))

pub phis-done : (insts : List Instruction) (start k : ℕ) (i : Instruction) (front : List Instruction) → slice_get insts k ≡ Some i → is_phi_inst i ≡ false
    → phi_insts (drop start insts) ≡ front ++ phi_insts (drop k insts) → front ≡ phi_insts (drop start insts)
phis-done insts start k i front at other told =
    let none : phi_insts (drop k insts) ≡ [] = ap phi_insts (drop-at insts k i at) ∙ rw other refl in
    sym (told ∙ ap (λ z. front ++ z) none ∙ append-nil front)

-- ---- parents

seconds-append : (xs ys : List (ℕ × ℕ)) → seconds (xs ++ ys) ≡ seconds xs ++ seconds ys
seconds-append [] ys = refl
seconds-append (x ∷ xs) ys = ap (λ z. x.1 ∷ z) (seconds-append xs ys)

pub parents-more : (stays : ℕ → ℕ) (pairs : List Incoming) (i : ℕ) (pair : Incoming) (first : ℕ) (old new : List ℕ) → i < length pairs
    → pair ≡ get_or pairs i pair → first ≡ stays pair.block
    → new ≡ old ++ first ∷ [] → old ≡ map stays (seconds (map incoming (take i pairs))) → new ≡ map stays (seconds (map incoming (take (i + 1) pairs)))
parents-more stays pairs i pair first old new lt is stay pushed told =
    pushed ∙ ap (λ z. z ++ first ∷ []) told ∙ ap (λ z. map stays (seconds (map incoming (take i pairs))) ++ z ∷ []) stay
    ∙ sym (ap (λ z. map stays (seconds (map incoming z))) (one_more pairs i pair lt is) ∙ ap (λ z. map stays (seconds z)) (map-append incoming (take i pairs) (pair ∷ []))
    ∙ ap (map stays) (seconds-append (map incoming (take i pairs)) (incoming pair ∷ [])) ∙ map-append stays (seconds (map incoming (take i pairs))) (pair.block ∷ []))

-- ---- copies

pub copy_unbroken : (h type result value : ℕ) → h ≡ 262227 → 0 < type → type < 4294967296 → 0 < result → result < 4294967296 → 0 < value → value < 4294967296
    → instruction_rules 4294967296 (h ∷ type ∷ result ∷ value ∷ []) ≡ []
unfolding roles_of row_of
copy_unbroken h type result value e type0 type1 result0 result1 value0 value1 =
    subst (λ z. instruction_rules 4294967296 (z ∷ type ∷ result ∷ value ∷ []) ≡ []) (sym e)
    (unbroken_by (262227 ∷ type ∷ result ∷ value ∷ []) (Opcode ∷ TypeId ∷ DefinedId ∷ UsedId ∷ []) refl refl (rw (within type type0 type1) (rw (within result result0 result1) (rw (within value value0 value1) refl))) refl)

copies-append : (front : List (List ℕ)) (phi : List ℕ) (rest : Body) → copies (front ++ phi ∷ []) rest ≡ copies front (Step (copy_of phi) rest)
copies-append [] phi rest = refl
copies-append (words ∷ front) phi rest = ap (Step (copy_of words)) (copies-append front phi rest)

pub copies-more : (phis : List Phi) (i : ℕ) (phi : Phi) (inst : Inst) (start old new : List Item) → i < length phis → phi ≡ get_or phis i phi
    → inst.words ≡ copy_of (seen phi.inst).words
    → new ≡ old ++ Op inst ∷ [] → ((rest : Body) → items_then old rest ≡ items_then start (copies (words_of (shown (take i phis))) rest))
    → (rest : Body) → items_then new rest ≡ items_then start (copies (words_of (shown (take (i + 1) phis))) rest)
copies-more phis i phi inst start old new lt is made pushed told rest =
    let front : List (List ℕ) = words_of (shown (take i phis)) in
    let words : words_of (shown (take (i + 1) phis)) ≡ front ++ (seen phi.inst).words ∷ [] =
    ap (λ z. words_of (shown z)) (one_more phis i phi lt is) ∙ ap words_of (map-append (λ (phi : Phi). seen phi.inst) (take i phis) (phi ∷ []))
    ∙ map-append (λ (j : Instruction). j.words) (shown (take i phis)) (seen phi.inst ∷ []) in
    ap (λ z. items_then z rest) pushed ∙ then_push old (Op inst) rest ∙ ap (items_then old) (then_op inst rest ∙ ap (λ z. Step z rest) made)
    ∙ told (Step (copy_of (seen phi.inst).words) rest)
    ∙ ap (items_then start) (sym (ap (λ z. copies z rest) words ∙ copies-append front (seen phi.inst).words rest))

pub value-here : (phis : List Phi) (i : ℕ) (phi : Phi) → i < length phis → phi ≡ get_or phis i phi → All (λ (j : Instruction). 0 < word j 3) (shown phis)
    → 0 < word (seen phi.inst) 3
value-here phis i phi lt is all =
    let same : get_or (shown phis) i (seen phi.inst) ≡ seen phi.inst = get_or-map (λ (phi : Phi). seen phi.inst) phis i phi (seen phi.inst) lt ∙ ap (λ (phi : Phi). seen phi.inst) (sym is) in
    let long : length (shown phis) ≡ length phis = length-map phis (λ (phi : Phi). seen phi.inst) in
    subst (λ (j : Instruction). 0 < word j 3) same (all i (seen phi.inst) (omega arith))
