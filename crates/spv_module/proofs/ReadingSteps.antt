-- One turn of reading instructions.
use Rattle.std.proofs.Common.{◌≡◌, ℕ, suc, ◌+◌, ◌-◌, ◌<◌, ◌≤◌, Bool, true, false, cond, List, [], ◌∷◌, ◌++◌, length, take, drop, Option, Some, None, Result, Ok, Err, refl, sym, ap, subst, ◌∙◌, arith, append_assoc}
use Rattle.std.specs.List.{All, flat_map, slice_index}
use Rattle.std.proofs.lemmas.List.Elements.{All-nil, All-push}
use Rattle.std.proofs.lemmas.List.{length-drop, length-append, take-append-drop, append-nil}
use Rattle.spv_base.specs.declared.fault.Refusal.{Refusal}
use Rattle.spv_grammar.specs.declared.kind.Role.{Role}
use Rattle.spv_grammar.specs.Operands.{count_of}
use Rattle.spv_module.specs.Broken.{front_rules, broken_from}
use Rattle.spv_module.specs.Code.{is_cut_short, cut}
use Rattle.spv_module.specs.First.{here, first, least, at_place}
use Rattle.spv_module.specs.Instruction.{Instruction, instruction_rules}
use Rattle.spv_base.specs.declared.fault.Fault.{Fault}
use Rattle.spv_base.specs.declared.fault.Fault.TheVariants.{Refused, Nesting, NoMemory}
use Rattle.spv_module.specs.Reading.{IsFront, Front, AreRead, ReadsAll}
use Rattle.spv_module.proofs.Cutting.{cut-step, broken_from-step, broken_from-later, later_cond}
use Rattle.spv_module.proofs.FirstLemmas.{Later, Later-weaken, first-here-later}

-- between the instructions read and the words that are left
pub record IsRead (bound from : ℕ) (all : List ℕ) (at : ℕ) (rest : List ℕ) (insts : List Instruction) : Type 0 where
  pub broken : first (broken_from bound from 0 all) ≡ first (broken_from bound at 0 rest)
  pub list : cut from 0 all ≡ insts ++ cut at 0 rest
  pub spelled : flat_map (λ i. i.words) insts ++ rest ≡ all
  pub place : at + length rest ≡ from + length all
  pub few : length insts + length rest ≤ length all
  pub each : All (λ i. instruction_rules bound i.words ≡ []) insts

pub begun : (bound from : ℕ) (all : List ℕ) → IsRead bound from all from all []
begun bound from all = record { broken = refl; list = refl; spelled = refl; place = refl; few = omega arith; each = All-nil (λ (i : Instruction). instruction_rules bound i.words ≡ []) }

joined : (insts : List Instruction) (inst : Instruction) (behind rest : List ℕ) → inst.words ++ behind ≡ rest →
    flat_map (λ i. i.words) (insts ++ inst ∷ []) ++ behind ≡ flat_map (λ i. i.words) insts ++ rest
joined [] inst behind rest e = ap (λ (front : List ℕ). front ++ behind) (append-nil inst.words) ∙ e
joined (i ∷ insts) inst behind rest e =
    append_assoc i.words (flat_map (λ i. i.words) (insts ++ inst ∷ [])) behind
    ∙ ap (λ (more : List ℕ). i.words ++ more) (joined insts inst behind rest e)
    ∙ sym (append_assoc i.words (flat_map (λ i. i.words) insts) rest)

-- an instruction that breaks no rule was read
pub one_more : (bound from : ℕ) (all : List ℕ) (at : ℕ) (rest : List ℕ) (insts : List Instruction) (roles : List Role) (n : ℕ) → IsRead bound from all at rest insts → IsFront bound rest roles n →
    IsRead bound from all (at + n) (drop n rest) (insts ++ (record { offset = at; words = take n rest }) ∷ [])
one_more bound from all at rest insts roles n r f =
    let inst : Instruction = record { offset = at; words = take n rest } in
    record {
      broken = r.broken ∙ ap first (broken_from-step bound at n rest f.counted f.some f.within ∙ ap (λ (rules : List ℕ). here at rules ++ broken_from bound (at + n) 0 (drop n rest)) f.unbroken);
      list = r.list ∙ ap (λ (more : List Instruction). insts ++ more) (cut-step at n rest f.counted f.some f.within) ∙ sym (append_assoc insts (inst ∷ []) (cut (at + n) 0 (drop n rest)));
      spelled = joined insts inst (drop n rest) rest (take-append-drop n rest) ∙ r.spelled;
      place = omega (arith, r.place, f.within, length-drop n rest);
      few = omega (arith, r.few, f.some, f.within, length-drop n rest, length-append insts (inst ∷ []));
      each = All-push (λ (i : Instruction). instruction_rules bound i.words ≡ []) insts inst r.each f.rules;
    }

-- the first broken rule is at the instruction in front, where that breaks a rule
front_breaks : (bound at rule : ℕ) (rest : List ℕ) → 0 < length rest → least (front_rules bound rest) ≡ Some rule → first (broken_from bound at 0 rest) ≡ Some (record { rule = rule; at = at })
unfolding broken_from
front_breaks bound at rule [] h e = absurd (omega arith)
front_breaks bound at rule (w ∷ ws) h e =
    let behind = cond (is_cut_short (w ∷ ws)) [] (broken_from bound (at + 1) (count_of w - 1) ws) in
    first-here-later at (front_rules bound (w ∷ ws)) behind
    (later_cond (suc at) (is_cut_short (w ∷ ws)) (broken_from bound (at + 1) (count_of w - 1) ws)
    (Later-weaken (suc at) (at + 1) (broken_from bound (at + 1) (count_of w - 1) ws) (omega arith) (broken_from-later bound (at + 1) (count_of w - 1) ws)))
    ∙ ap (λ (o : Option ℕ). at_place at o (first behind)) e

-- reading refuses by the first broken rule of all
pub refused_in_front : (bound from : ℕ) (all : List ℕ) (at : ℕ) (rest : List ℕ) (insts : List Instruction) (refusal : Refusal) → IsRead bound from all at rest insts → 0 < length rest →
    least (front_rules bound rest) ≡ Some refusal.rule → refusal.at ≡ at → first (broken_from bound from 0 all) ≡ Some refusal
refused_in_front bound from all at rest insts refusal r some e place =
    r.broken ∙ front_breaks bound at refusal.rule rest some e ∙ ap (λ (n : ℕ). Some (record { rule = refusal.rule; at = n })) (sym place)

nothing_broken : (bound at : ℕ) (rest : List ℕ) → length rest ≡ 0 → (first (broken_from bound at 0 rest) ≡ None) × (cut at 0 rest ≡ []) × (rest ≡ [])
unfolding broken_from cut
nothing_broken bound at [] h = (refl, refl, refl)
nothing_broken bound at (w ∷ ws) h = absurd (omega arith)

-- all words were read
pub all_read : (bound from : ℕ) (all : List ℕ) (at : ℕ) (rest : List ℕ) (insts : List Instruction) → IsRead bound from all at rest insts → length rest ≡ 0 → AreRead bound from all insts
all_read bound from all at rest insts r h =
    let none = nothing_broken bound at rest h in
    record {
      unbroken = r.broken ∙ none.0;
      all = sym (r.list ∙ ap (λ (more : List Instruction). insts ++ more) none.1 ∙ append-nil insts);
      spelled = sym (append-nil (flat_map (λ i. i.words) insts)) ∙ ap (λ (more : List ℕ). flat_map (λ i. i.words) insts ++ more) (sym none.2) ∙ r.spelled;
      few = omega (arith, r.few);
      each = r.each;
    }

refused_by : (bound from : ℕ) (all : List ℕ) (at : ℕ) (rest : List ℕ) (insts : List Instruction) (roles : List Role) (fault : Fault) → IsRead bound from all at rest insts → 0 < length rest →
    Front bound at rest roles (Err fault) → ReadsAll bound from all (Err fault)
refused_by bound from all at rest insts roles (Refused refusal) r some h = refused_in_front bound from all at rest insts refusal r some h.0 h.1
refused_by bound from all at rest insts roles Nesting r some h = h
refused_by bound from all at rest insts roles NoMemory r some h = tt

-- what refuses the instruction in front refuses all
pub refused : (bound from : ℕ) (all : List ℕ) (at : ℕ) (rest : List ℕ) (insts : List Instruction) (roles : List Role) (fault : Fault) (front : Result ℕ Fault) (answer : Result (List Instruction) Fault) →
    IsRead bound from all at rest insts → 0 < length rest → front ≡ Err fault → answer ≡ Err fault → Front bound at rest roles front → ReadsAll bound from all answer
refused bound from all at rest insts roles fault front answer r some e k h =
    subst (ReadsAll bound from all) (sym k) (refused_by bound from all at rest insts roles fault r some (subst (Front bound at rest roles) e h))

pub same_instruction : (at at2 : ℕ) (words words2 : List ℕ) → at ≡ at2 → words ≡ words2 → ◌≡◌ {A = Instruction} (record { offset = at; words = words }) (record { offset = at2; words = words2 })
same_instruction at at2 words words2 e k = cc
