-- No instruction breaks a rule on declarations where a declaration more stands, since none did without it.
use Rattle.std.proofs.Common.{◌≡◌, ℕ, suc, Bool, true, false, cond, not, ◌==◌, ◌&&◌, ◌||◌, nat_eq, List, [], ◌∷◌, ◌++◌, length, take, Option, Some, None, refl, sym, ap, ap₂, subst, ◌∙◌, arith, append_assoc, eqb-true}
use Rattle.std.specs.List.{AllByRecursion, list_any, slice_get, slice_index}
use Rattle.std.specs.Option.{option_map_or}
use Rattle.spv_opcodes.specs.declared.op.TheConstants as op
use Rattle.spv_opcodes.specs.declared.builtin.TheConstants as builtin
use Rattle.spv_opcodes.specs.declared.decoration.TheConstants as decoration
use Rattle.spv_grammar.specs.Roles.{is_defined_id}
use Rattle.spv_grammar.specs.Table.{row_of}
use Rattle.spv_module.specs.Code.{is_line}
use Rattle.spv_module.specs.First.{first}
use Rattle.spv_module.specs.Instruction.{Instruction, opcode, word_with}
use Rattle.spv_module.specs.Layout.{group_2}
use Rattle.spv_meaning.specs.Constants.{meaning, pointer_in}
use Rattle.spv_meaning.specs.Meanings.{is_laid}
use Rattle.spv_meaning.specs.Statements.{words_of}
use Rattle.spv_ids.specs.Ids.{id_rules, is_declaration, is_defined, used_ids}
use Rattle.spv_repeats.specs.Repeats.{is_decorate, is_member_decorate, is_same_decoration, is_same_member_decoration, is_same_spec_id, is_same_type, is_spec_id, is_unique_type, is_workgroup_size, occurs, repeats, single_decorations}
use Rattle.spv_repeats.specs.Repeats as repeating
use Rattle.spv_typing.specs.Operations.{spec_op_fits}
use Rattle.spv_typing.specs.Types.{type_fits}
use Rattle.spv_decorations.specs.Globals.{global_fits}
use Rattle.spv_decorations.specs.Targets.{decoration_fits}
use Rattle.spv_declarations.specs.Broken.{declaration_rules, depth_fits, group_3, layout_fits, rules_at}
use Rattle.spv_declarations.specs.Constants.{constant_fits}
use Rattle.spv_declarations.specs.Declarations.{Declared, declare_all, declared_before, entry, nothing_declared, says}
use Rattle.spv_declarations.specs.Depth.{is_laid_out}
use Rattle.spv_declarations.proofs.Modules.{unbroken}
use Rattle.spv_alike_uses.proofs.Used.{used_word, word_uses}
use Rattle.spv_norm_declarations.proofs.Outside.{get_behind, take_front}
use Rattle.spv_norm_declarations.proofs.Rules.{KeepsAll, NoneAt, breaks_none, keeps_all, none_found}
use Rattle.spv_added.specs.Laws.{AddedIsDeclared}
use Rattle.spv_added.proofs.Walk.{Adding, FactOf, In, adding, along, inst, is_foreign, itself, new_defines, no_opcode}
use Rattle.spv_added.proofs.Behind.{no_types_behind}
use Rattle.spv_added.proofs.Cases.{case_of, uses_what_stays}
use Rattle.spv_added.proofs.Coming.{Comes, IsNew, IsOld, More, Old, Same, Stand, comes_of, stand_along}
use Rattle.spv_added.proofs.Constants.{same_constant_fits}
use Rattle.spv_added.proofs.Declaring.{Agrees, SameDeclared, declared_adds, declared_keeps, none_yet}
use Rattle.spv_added.proofs.Decorations.{same_decoration_fits, same_global_fits}
use Rattle.spv_added.proofs.Definitions.{defines_others, same_defines}
use Rattle.spv_added.proofs.Lists.{all_front, all_here, any_on, any_words, behind_same, length_by_words}
use Rattle.spv_added.proofs.Operations.{operations_stay}
use Rattle.spv_added.proofs.Reading.{same_entry}
use Rattle.spv_added.proofs.Types.{same_type_fits}

-- ---- the same words

type_fits_words : (insts : List Instruction) (i j : Instruction) → j.words ≡ i.words → type_fits insts j ≡ type_fits insts i
unfolding type_fits
type_fits_words insts i j e = ap (λ ws. type_fits insts (inst ws)) e

spec_op_words : (insts : List Instruction) (i j : Instruction) → j.words ≡ i.words → spec_op_fits insts j ≡ spec_op_fits insts i
unfolding spec_op_fits
spec_op_words insts i j e = ap (λ ws. spec_op_fits insts (inst ws)) e

decoration_words : (insts : List Instruction) (i j : Instruction) → j.words ≡ i.words → decoration_fits insts j ≡ decoration_fits insts i
unfolding decoration_fits
decoration_words insts i j e = ap (λ ws. decoration_fits insts (inst ws)) e

global_words : (insts : List Instruction) (begun : Bool) (i j : Instruction) → j.words ≡ i.words → global_fits insts begun j ≡ global_fits insts begun i
unfolding global_fits
global_words insts begun i j e = ap (λ ws. global_fits insts begun (inst ws)) e

rules_words : (insts : List Instruction) (d : Declared) (k : ℕ) (i j : Instruction) → j.words ≡ i.words → rules_at insts d k j ≡ rules_at insts d k i
unfolding rules_at type_fits spec_op_fits decoration_fits global_fits
rules_words insts d k i j e = ap (λ ws. rules_at insts d k (inst ws)) e

-- a line mark is looked past
line_breaks_none : (insts : List Instruction) (d : Declared) (k : ℕ) (i : Instruction) → is_line i ≡ true → rules_at insts d k i ≡ []
unfolding rules_at
line_breaks_none insts d k i e = ap (λ b. cond b [] (id_rules insts d.begun k i ++ declaration_rules insts d k i)) e

variable_uses : word_uses 0 op.VARIABLE ≡ true
unfolding row_of
variable_uses = refl

decorations_foreign : (is_foreign op.DECORATE ≡ true) × (is_foreign op.MEMBER_DECORATE ≡ true)
unfolding row_of
decorations_foreign = (refl, refl)

module _ (t : Adding) (no_types : AllByRecursion (λ i. is_unique_type i ≡ false) t.rest) where
  keeps_at : (k : ℕ) (i : Instruction) → slice_get t.before k ≡ Some i → is_line i ≡ false → KeepsAll t.before (declared_before t.before k) k i
  keeps_at k i at plain = keeps_all t.before (declared_before t.before k) k i plain (unbroken t.before (suc k) t.unbroken.unrefused k i (omega arith) at)

  -- ---- some instructions of both

  module _ (pre qs : List Instruction) (all : AllByRecursion (FactOf t) pre) (stand : Stand t.new t.front pre qs) where
    -- every other id is defined among them in both or in neither
    same_defined : (id : ℕ) → In t id → is_defined qs id ≡ is_defined pre id
    same_defined id s =
        stand_along t.new (FactOf t) (λ is js. is_defined js id ≡ is_defined is id) refl
        (λ j is js b w h. ap (λ (c : Bool). c || is_defined js id) (new_defines t id j w ∙ s) ∙ h)
        (λ i j is js f w h. ap₂ (λ (a b : Bool). a || b) (same_defines id i j w) h) t.front pre qs all stand

    -- what the new one does not pass
    same_any : (p : List ℕ → Bool) → p t.new.words ≡ false → list_any (λ (i : Instruction). p i.words) qs ≡ list_any (λ (i : Instruction). p i.words) pre
    same_any p none =
        stand_along t.new (FactOf t) (λ is js. list_any (λ (i : Instruction). p i.words) js ≡ list_any (λ (i : Instruction). p i.words) is) refl
        (λ j is js b w h. ap (λ (c : Bool). c || list_any (λ (i : Instruction). p i.words) js) (ap p w ∙ none) ∙ h)
        (λ i j is js f w h. ap₂ (λ (a b : Bool). a || b) (ap p w) h) t.front pre qs all stand

    agree : Agrees t.r (declare_all (says t.before) nothing_declared pre) (declare_all (says t.after) nothing_declared qs)
    agree =
        stand_along t.new (FactOf t) (SameDeclared t) (λ d e a. a) (declared_adds t) (declared_keeps t) t.front pre qs all stand nothing_declared
        nothing_declared (none_yet t)

    same_repeats : (i : Instruction) → repeats qs i ≡ repeats pre i
    same_repeats i =
        let decorate : (opcode t.new == op.DECORATE) ≡ false = no_opcode t op.DECORATE decorations_foreign.0 in
        let member : (opcode t.new == op.MEMBER_DECORATE) ≡ false = no_opcode t op.MEMBER_DECORATE decorations_foreign.1 in
        ap₂ (λ (x y : Bool). x || y)
        (ap₂ (λ (x y : Bool). x || y)
        (ap₂ (λ (x y : Bool). x || y)
        (ap (λ (b : Bool). is_decorate i && b && repeating.is_one_of single_decorations (slice_index i.words 2))
        (same_any (λ ws. is_same_decoration i (inst ws))
        (ap (λ (b : Bool). b && (slice_index i.words 1 == slice_index t.new.words 1 && slice_index i.words 2 == slice_index t.new.words 2)) decorate)))
        (ap (λ (b : Bool). is_member_decorate i && b && repeating.is_one_of single_decorations (slice_index i.words 3))
        (same_any (λ ws. is_same_member_decoration i (inst ws))
        (ap (λ (b : Bool). b && (slice_index i.words 1 == slice_index t.new.words 1 && slice_index i.words 2 == slice_index t.new.words 2
        && slice_index i.words 3 == slice_index t.new.words 3)) member))))
        (ap (λ (b : Bool). is_spec_id i && b)
        (same_any (λ ws. is_same_spec_id i (inst ws))
        (ap (λ (b : Bool). (b && slice_index t.new.words 2 == spec_id) && slice_index i.words 3 == slice_index t.new.words 3) decorate))))
        (ap (λ (b : Bool). is_workgroup_size i && b)
        (same_any (λ ws. is_workgroup_size (inst ws))
        (ap (λ (b : Bool). b && (slice_index t.new.words 2 == built_in && slice_index t.new.words 3 == workgroup_size)) decorate)))
      where
        spec_id : ℕ
        spec_id = decoration.SPEC_ID

        built_in : ℕ
        built_in = decoration.BUILTIN

        workgroup_size : ℕ
        workgroup_size = builtin.WORKGROUP_SIZE

  -- no type is repeated: behind the new one there are none
  new_type : (pre qs : List Instruction) (i : Instruction) (post : List Instruction) → t.before ≡ pre ++ i ∷ post → Stand t.new t.front pre qs
      → occurs pre i ≡ false → occurs qs i ≡ false
  new_type pre qs i post cut (Same h) none =
      ap (λ (b : Bool). is_unique_type i && b)
      (any_words (is_same_type i) (is_same_type i) (λ x y w. ap (λ ws. is_same_type i (inst ws)) w) pre qs h)
      ∙ none
  new_type pre qs i post cut (More rest is s h) none =
      let whole : t.front ++ (rest ++ i ∷ post) ≡ t.front ++ t.rest =
      sym (append_assoc t.front rest (i ∷ post)) ∙ ap (λ z. z ++ i ∷ post) (sym is) ∙ sym cut ∙ t.added.parts in
      let one : is_unique_type i ≡ false = all_here (λ i. is_unique_type i ≡ false) rest i post
      (subst (AllByRecursion (λ i. is_unique_type i ≡ false)) (sym (behind_same t.front (rest ++ i ∷ post) t.rest whole)) no_types) in
      ap (λ (b : Bool). b && list_any (is_same_type i) qs) one

  -- ---- an instruction of the module before

  module _ (qs : List Instruction) (j : Instruction) (later : List Instruction) (cut_after : t.after ≡ qs ++ j ∷ later)
      (old : IsOld t.new t.front t.before qs j)
      (plain : is_line old.inst ≡ false) where
    at : slice_get t.before (length old.pre) ≡ Some old.inst
    at = ap (λ is. slice_get is (length old.pre)) old.cut ∙ get_behind old.pre old.post old.inst

    front : take (length old.pre) t.before ≡ old.pre
    front = ap (take (length old.pre)) old.cut ∙ take_front old.pre (old.inst ∷ old.post)

    front_after : take (length qs) t.after ≡ qs
    front_after = ap (take (length qs)) cut_after ∙ take_front qs (j ∷ later)

    pre_facts : AllByRecursion (FactOf t) old.pre
    pre_facts = all_front (FactOf t) old.pre (old.inst ∷ old.post) (subst (AllByRecursion (FactOf t)) old.cut t.facts)

    fact : FactOf t old.inst
    fact = all_here (FactOf t) old.pre old.inst old.post (subst (AllByRecursion (FactOf t)) old.cut t.facts)

    abbrev d : Declared
    d = declared_before t.before (length old.pre)

    abbrev e : Declared
    e = declare_all (says t.after) nothing_declared qs

    same_state : Agrees t.r (declared_before t.before (length old.pre)) (declare_all (says t.after) nothing_declared qs)
    same_state =
        subst (λ is. Agrees t.r (declare_all (says t.before) nothing_declared is) (declare_all (says t.after) nothing_declared qs)) (sym front)
        (agree old.pre qs pre_facts old.stand)

    keeps : KeepsAll t.before (declared_before t.before (length old.pre)) (length old.pre) old.inst
    keeps = keeps_at (length old.pre) old.inst at plain

    same_second : option_map_or (is_defined qs) (word_with is_defined_id old.inst) false
        ≡ option_map_or (is_defined old.pre) (word_with is_defined_id old.inst) false
    same_second = by (word_with is_defined_id old.inst) refl
      where
        by : (o : Option ℕ) → word_with is_defined_id old.inst ≡ o → option_map_or (is_defined qs) o false ≡ option_map_or (is_defined old.pre) o false
        by None e = refl
        by (Some id) e =
            same_defined old.pre qs pre_facts old.stand id
            (defines_others t.r old.inst fact.free id (ap (λ o. option_map_or (nat_eq id) o false) e ∙ itself id))

    same_unknown : (early : Bool) (ids : List ℕ) → AllByRecursion (In t) ids
        → list_any (λ id. not (is_defined t.after id) || (early && not (is_defined qs id))) ids
        ≡ list_any (λ id. not (is_defined t.before id) || (early && not (is_defined old.pre id))) ids
    same_unknown early =
        any_on (In t) (λ id. not (is_defined t.after id) || (early && not (is_defined qs id)))
        (λ id. not (is_defined t.before id) || (early && not (is_defined old.pre id)))
        (λ id s. ap₂ (λ (a b : Bool). not a || (early && not b)) (all_defined id s) (same_defined old.pre qs pre_facts old.stand id s))
      where
        all_defined : (id : ℕ) → In t id → is_defined t.after id ≡ is_defined t.before id
        all_defined id s =
            along t (λ is js. is_defined js id ≡ is_defined is id) refl
            (λ j is js b w h. ap (λ (c : Bool). c || is_defined js id) (new_defines t id j w ∙ s) ∙ h)
            (λ i j is js f w h. ap₂ (λ (a b : Bool). a || b) (same_defines id i j w) h)

    same_layout : layout_fits (declare_all (says t.after) nothing_declared qs) old.inst ≡ layout_fits (declared_before t.before (length old.pre)) old.inst
    same_layout =
        ap (λ (b : Bool).
        b || not (opcode old.inst == op.VARIABLE) || not (is_laid (slice_index old.inst.words 3)) || is_laid_out (pointer_in (meaning e.table u)).1)
        same_state.begun
        ∙ by d.begun (opcode old.inst == op.VARIABLE) (not (is_laid (slice_index old.inst.words 3))) refl
      where
        u : ℕ
        u = slice_index old.inst.words 1

        other : (opcode old.inst == op.VARIABLE) ≡ true → In t u
        other h = used_word (In t) old.inst fact.whole fact.free.used 0 (ap (word_uses 0) (eqb-true (opcode old.inst) op.VARIABLE h) ∙ variable_uses)

        by : (a b c : Bool) → (opcode old.inst == op.VARIABLE) ≡ b
            → (a || not b || c || is_laid_out (pointer_in (meaning e.table u)).1) ≡ (a || not b || c || is_laid_out (pointer_in (meaning d.table u)).1)
        by a true c h = ap (λ o. a || false || c || is_laid_out (pointer_in o).1) (same_state.table u (other h))
        by true false c h = refl
        by false false c h = refl

    keeps_after : KeepsAll t.after (declare_all (says t.after) nothing_declared qs) (length qs) j
    keeps_after = record {
      kept = record {
        once =
            ap₂ (λ is ws. option_map_or (is_defined is) (word_with is_defined_id (inst ws)) false) front_after old.same
            ∙ same_second ∙ sym (ap (λ is. option_map_or (is_defined is) (word_with is_defined_id old.inst) false) front) ∙ keeps.kept.once;
        known =
            ap₂ (λ is ws. list_any (λ id. not (is_defined t.after id) || (is_declaration e.begun (inst ws) && not (is_defined is id))) (used_ids (inst ws)))
            front_after old.same
            ∙ same_unknown (is_declaration e.begun old.inst) (used_ids old.inst) fact.free.used
            ∙ ap₂ (λ (b : Bool) is. list_any (λ id. not (is_defined t.before id) || (is_declaration b old.inst && not (is_defined is id))) (used_ids old.inst))
            same_state.begun (sym front)
            ∙ keeps.kept.known;
        types = type_fits_words t.after old.inst j old.same ∙ same_type_fits (case_of t) old.inst (uses_what_stays t old.inst fact) ∙ keeps.kept.types;
        new_type =
            ap₂ (λ is ws. occurs is (inst ws)) front_after old.same
            ∙ new_type old.pre qs old.inst old.post old.cut old.stand (sym (ap (λ is. occurs is old.inst) front) ∙ keeps.kept.new_type);
        constants =
            ap (λ ws. e.begun || constant_fits t.after e (inst ws)) old.same
            ∙ ap₂ (λ (a b : Bool). a || b) same_state.begun (same_constant_fits (case_of t) old.inst (uses_what_stays t old.inst fact) d e same_state)
            ∙ keeps.kept.constants;
        operations = spec_op_words t.after old.inst j old.same ∙ operations_stay t old.inst fact;
        decorations = decoration_words t.after old.inst j old.same ∙ same_decoration_fits t old.inst fact ∙ keeps.kept.decorations;
        layouts = ap (λ ws. layout_fits e (inst ws)) old.same ∙ same_layout ∙ keeps.kept.layouts;
        globals =
            global_words t.after e.begun old.inst j old.same ∙ ap (λ b. global_fits t.after b old.inst) same_state.begun
            ∙ same_global_fits t old.inst fact d.begun ∙ keeps.kept.globals;
        depths =
            ap (λ ws. depth_fits (cond e.begun None (entry (says t.after) e.table (inst ws)))) old.same
            ∙ ap₂ (λ (b : Bool) o. depth_fits (cond b None o)) same_state.begun (same_entry t d.table e.table same_state.table old.inst fact)
            ∙ keeps.kept.depths;
      };
      new_decoration =
          ap₂ (λ is ws. repeats is (inst ws)) front_after old.same ∙ same_repeats old.pre qs pre_facts old.stand old.inst
          ∙ sym (ap (λ is. repeats is old.inst) front) ∙ keeps.new_decoration;
    }

    breaks_none_here : NoneAt t.after qs j
    breaks_none_here = breaks_none t.after (declare_all (says t.after) nothing_declared qs) (length qs) j keeps_after

  -- ---- each instruction

  new_breaks_none : (qs : List Instruction) (j : Instruction) (later : List Instruction) → t.after ≡ qs ++ j ∷ later → j.words ≡ t.new.words
      → words_of qs ≡ words_of t.front → NoneAt t.after qs j
  new_breaks_none qs j later cut same h =
      let long : length qs ≡ length t.front = length_by_words qs t.front h in
      let front : take (length t.front) t.after ≡ qs = ap (λ n. take n t.after) (sym long) ∙ ap (take (length qs)) cut ∙ take_front qs (j ∷ later) in
      rules_words t.after (declare_all (says t.after) nothing_declared qs) (length qs) t.new j same
      ∙ ap₂ (λ is n. rules_at t.after (declare_all (says t.after) nothing_declared is) n t.new) (sym front) long ∙ t.added.rules

  none_at : (qs : List Instruction) (j : Instruction) (later : List Instruction) → t.after ≡ qs ++ j ∷ later → NoneAt t.after qs j
  none_at qs j later cut = by (comes_of t.new t.front t.rest t.before t.after qs j later t.added.functions t.added.parts t.added.words cut)
    where
      old_at : (old : IsOld t.new t.front t.before qs j) → (b : Bool) → is_line j ≡ b → NoneAt t.after qs j
      old_at old true e = line_breaks_none t.after (declare_all (says t.after) nothing_declared qs) (length qs) j e
      old_at old false e = breaks_none_here qs j later cut old (sym (ap (λ ws. is_line (inst ws)) old.same) ∙ e)

      by : Comes t.new t.front t.before qs j → NoneAt t.after qs j
      by (IsNew same h) = new_breaks_none qs j later cut same h
      by (Old old) = old_at old (is_line j) refl

pub declared_of : (t : Adding) → ((end : ℕ) → first (group_2 end t.before) ≡ None) → first (group_3 t.after) ≡ None
declared_of t laid =
    none_found t.after
    (none_at t
    (no_types_behind 0 t.front t.rest (subst (λ is. first (group_2 0 is) ≡ None) t.added.parts (laid 0)) t.added.outside t.added.functions))

pub added_is_declared : AddedIsDeclared
added_is_declared r new front rest before after h laid a = declared_of (adding r new front rest before after h a) laid
