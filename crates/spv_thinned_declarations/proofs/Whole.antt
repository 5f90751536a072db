-- An instruction that is left breaks no rule where it stands, since it broke none where it stood.
use Rattle.std.proofs.Common.{◌≡◌, ℕ, suc, Bool, true, false, cond, not, ◌==◌, ◌&&◌, ◌||◌, List, [], ◌∷◌, ◌++◌, length, take, Some, None, refl, sym, ap, ap₂, subst, ◌∙◌, arith, eqb-true}
use Rattle.std.specs.List.{AllByRecursion, filter, list_any, slice_get, slice_index}
use Rattle.std.specs.Option.{option_map_or}
use Rattle.std.proofs.lemmas.Bool.{and_parts}
use Rattle.spv_opcodes.specs.declared.op.TheConstants as op
use Rattle.spv_grammar.specs.Roles.{is_defined_id}
use Rattle.spv_grammar.specs.Table.{row_of}
use Rattle.spv_module.specs.Code.{is_line}
use Rattle.spv_module.specs.Instruction.{Instruction, IsInstruction, opcode, roles, word_with}
use Rattle.spv_meaning.specs.Constants.{pointer_at, pointer_in}
use Rattle.spv_meaning.specs.Meanings.{is_laid}
use Rattle.spv_meaning.specs.Statements.{words_of}
use Rattle.spv_ids.specs.Ids.{id_rules, is_declaration, is_defined, used_ids}
use Rattle.spv_repeats.specs.Repeats.{occurs, repeats}
use Rattle.spv_typing.specs.Kinds.{is_closed, is_constant, is_int, type_of}
use Rattle.spv_typing.specs.Operations.{spec_op_fits}
use Rattle.spv_typing.specs.Types.{array_fits, type_fits}
use Rattle.spv_decorations.specs.Globals.{global_fits}
use Rattle.spv_decorations.specs.Targets.{decoration_fits}
use Rattle.spv_declarations.specs.Depth.{is_laid_out}
use Rattle.spv_declarations.specs.Broken.{declaration_rules, depth_fits, layout_fits, rules_at}
use Rattle.spv_declarations.specs.Constants.{constant_fits}
use Rattle.spv_declarations.specs.Declarations.{Declared, declare_all, declared_before, entry, nothing_declared, says}
use Rattle.spv_declarations.specs.Laws.{IsUnbroken}
use Rattle.spv_declarations.proofs.Modules.{unbroken}
use Rattle.spv_declarations.proofs.Parts.{first_typed, row_test}
use Rattle.spv_alike_uses.specs.Laws.{UsesWhatStays}
use Rattle.spv_alike_uses.proofs.Lookups.{Case}
use Rattle.spv_thinned.specs.Thinned.{IsKept, IsThinned}
use Rattle.spv_thinned.proofs.Definitions.{Fact}
use Rattle.spv_thinned.proofs.Declared.{Agree, same_declared, same_entry}
use Rattle.spv_thinned.proofs.ReadIds.{type_stays}
use Rattle.spv_thinned.proofs.Walk.{inst}
use Rattle.spv_thinned.proofs.Whole.{facts_of, thinned_is_alike}
use Rattle.spv_norm_declarations.proofs.Outside.{get_behind, take_front}
use Rattle.spv_norm_declarations.proofs.OutsideKnown.{ComesOf, comes_of}
use Rattle.spv_norm_declarations.proofs.Rules.{KeepsAll, NoneAt, breaks_none, keeps_all, none_found}
use Rattle.spv_thinned_declarations.specs.Laws.{ThinnedIsDeclared}
use Rattle.spv_thinned_declarations.proofs.Constants.{same_constant_fits}
use Rattle.spv_thinned_declarations.proofs.Decorations.{same_decoration_fits, same_global_fits}
use Rattle.spv_thinned_declarations.proofs.Known.{new_decoration_stays, new_type_stays, same_second, same_unknown}
use Rattle.spv_thinned_declarations.proofs.Operations.{operations_stay}
use Rattle.spv_thinned_declarations.proofs.Types.{same_type_fits}
use Rattle.spv_thinned_declarations.proofs.Uses.{is_typed, uses_what_stays}

-- ---- the same words

type_fits_words : (insts : List Instruction) (i j : Instruction) → j.words ≡ i.words → type_fits insts j ≡ type_fits insts i
unfolding type_fits
type_fits_words insts i j e = ap (λ ws. type_fits insts (inst ws)) e

spec_op_words : (insts : List Instruction) (i j : Instruction) → j.words ≡ i.words → spec_op_fits insts j ≡ spec_op_fits insts i
unfolding spec_op_fits
spec_op_words insts i j e = ap (λ ws. spec_op_fits insts (inst ws)) e

decoration_words : (insts : List Instruction) (i j : Instruction) → j.words ≡ i.words → decoration_fits insts j ≡ decoration_fits insts i
unfolding decoration_fits
decoration_words insts i j e = ap (λ ws. decoration_fits insts (inst ws)) e

global_words : (insts : List Instruction) (begun : Bool) (i j : Instruction) → j.words ≡ i.words → global_fits insts begun j ≡ global_fits insts begun i
unfolding global_fits
global_words insts begun i j e = ap (λ ws. global_fits insts begun (inst ws)) e

-- a line mark is looked past
line_breaks_none : (insts : List Instruction) (d : Declared) (k : ℕ) (i : Instruction) → is_line i ≡ true → rules_at insts d k i ≡ []
unfolding rules_at
line_breaks_none insts d k i e = ap (λ b. cond b [] (id_rules insts d.begun k i ++ declaration_rules insts d k i)) e

variable_typed : row_test first_typed (row_of op.VARIABLE) ≡ true
unfolding row_of
variable_typed = refl

-- ---- lists

all_here : {A : Type 0} (P : A → Type 0) (xs : List A) (y : A) (ys : List A) → AllByRecursion P (xs ++ y ∷ ys) → P y
all_here P [] y ys h = h.0
all_here P (x ∷ xs) y ys h = all_here P xs y ys h.1

all_front : {A : Type 0} (P : A → Type 0) (xs ys : List A) → AllByRecursion P (xs ++ ys) → AllByRecursion P xs
all_front P [] ys h = tt
all_front P (x ∷ xs) ys h = (h.0, all_front P xs ys h.1)

module _ (gone : ℕ → Bool) (keep : Instruction → Bool) (before after : List Instruction) (h : IsUnbroken before) (thin : IsThinned gone keep before after) where
  keeps_at : (k : ℕ) (i : Instruction) → slice_get before k ≡ Some i → is_line i ≡ false → KeepsAll before (declared_before before k) k i
  keeps_at k i at plain = keeps_all before (declared_before before k) k i plain (unbroken before (suc k) h.unrefused k i (omega arith) at)

  abbrev F : Instruction → Type 0
  F i = Fact gone keep before i

  facts : AllByRecursion F before
  facts = facts_of gone keep before after h thin

  abbrev c : Case
  c = record { gone = gone; before = before; after = after; unbroken = h; alike = thinned_is_alike gone keep before after h thin }

  -- ---- an instruction that is left

  module _ (qs : List Instruction) (j : Instruction) (rest : List Instruction) (cut_after : after ≡ qs ++ j ∷ rest) (pre : List Instruction) (i : Instruction)
      (post : List Instruction) (cut : before ≡ pre ++ i ∷ post) (stands : keep i ≡ true) (same : j.words ≡ i.words)
      (same_before : words_of qs ≡ words_of (filter keep pre)) (plain : is_line i ≡ false) where
    at : slice_get before (length pre) ≡ Some i
    at = ap (λ is. slice_get is (length pre)) cut ∙ get_behind pre post i

    front : take (length pre) before ≡ pre
    front = ap (take (length pre)) cut ∙ take_front pre (i ∷ post)

    front_after : take (length qs) after ≡ qs
    front_after = ap (take (length qs)) cut_after ∙ take_front qs (j ∷ rest)

    whole : IsInstruction i.words (roles i)
    whole = h.whole (length pre) i at

    kept : IsKept gone i
    kept = thin.kept (length pre) i at stands

    uses : UsesWhatStays gone i
    uses = uses_what_stays gone i whole kept

    pre_facts : AllByRecursion F pre
    pre_facts = all_front F pre (i ∷ post) (subst (AllByRecursion F) cut facts)

    -- what is declared before the place, and what is declared by what is left there
    abbrev old : Declared
    old = declared_before before (length pre)

    abbrev new : Declared
    new = declare_all (says after) nothing_declared qs

    agree : Agree gone (declared_before before (length pre)) (declare_all (says after) nothing_declared qs)
    agree =
        subst (λ is. Agree gone (declare_all (says before) nothing_declared is) new) (sym front)
        (same_declared gone keep before after thin facts pre qs pre_facts same_before nothing_declared nothing_declared
        (record { begun = refl; meanings = λ id s. refl; specialised = λ id s. refl }))

    fact : F i
    fact = all_here F pre i post (subst (AllByRecursion F) cut facts)

    same_layout : layout_fits new i ≡ layout_fits old i
    same_layout = by (opcode i == op.VARIABLE) refl
      where
        passes : (b c l : Bool) → (((b || true) || c) || l) ≡ true
        passes true c l = refl
        passes false c l = refl

        by : (v : Bool) → (opcode i == op.VARIABLE) ≡ v
            → (((new.begun || not v) || not (is_laid (slice_index i.words 3))) || is_laid_out (pointer_at new.table (slice_index i.words 1)).1)
            ≡ (((old.begun || not v) || not (is_laid (slice_index i.words 3))) || is_laid_out (pointer_at old.table (slice_index i.words 1)).1)
        by true e =
            ap₂ (λ b m. ((b || false) || not (is_laid (slice_index i.words 3))) || is_laid_out (pointer_in m).1) agree.begun
            (agree.meanings (slice_index i.words 1)
            (type_stays gone i whole kept (is_typed (opcode i) op.VARIABLE (eqb-true (opcode i) op.VARIABLE e) variable_typed)))
        by false e = passes new.begun _ _ ∙ sym (passes old.begun _ _)

    keeps : KeepsAll before (declared_before before (length pre)) (length pre) i
    keeps = keeps_at (length pre) i at plain

    keeps_after : KeepsAll after (declare_all (says after) nothing_declared qs) (length qs) j
    keeps_after = record {
      kept = record {
        once =
            ap₂ (λ is ws. option_map_or (is_defined is) (word_with is_defined_id (inst ws)) false) front_after same
            ∙ same_second gone keep before facts pre qs pre_facts same_before i kept
            ∙ sym (ap (λ is. option_map_or (is_defined is) (word_with is_defined_id i) false) front) ∙ keeps.kept.once;
        known =
            ap (λ b. list_any (λ id. not (is_defined after id) || (is_declaration b j && not (is_defined (take (length qs) after) id))) (used_ids j))
            agree.begun
            ∙ ap₂ (λ is ws. list_any (λ id. not (is_defined after id) || (is_declaration old.begun (inst ws) && not (is_defined is id))) (used_ids (inst ws)))
            front_after same
            ∙ same_unknown gone keep before facts after pre qs pre_facts same_before thin.words (is_declaration old.begun i) (used_ids i) kept.used
            ∙ sym (ap (λ is. list_any (λ id. not (is_defined before id) || (is_declaration old.begun i && not (is_defined is id))) (used_ids i)) front)
            ∙ keeps.kept.known;
        types = type_fits_words after i j same ∙ same_type_fits c i uses ∙ keeps.kept.types;
        new_type =
            ap₂ (λ is ws. occurs is (inst ws)) front_after same
            ∙ new_type_stays gone keep before facts pre qs pre_facts same_before i (sym (ap (λ is. occurs is i) front) ∙ keeps.kept.new_type);
        constants =
            ap (λ ws. new.begun || constant_fits after new (inst ws)) same
            ∙ ap₂ (λ (a b : Bool). a || b) agree.begun (same_constant_fits c i uses old new agree) ∙ keeps.kept.constants;
        operations = spec_op_words after i j same ∙ operations_stay c i whole kept keeps.kept.operations;
        decorations = decoration_words after i j same ∙ same_decoration_fits c i whole kept ∙ keeps.kept.decorations;
        layouts = ap (λ ws. layout_fits new (inst ws)) same ∙ same_layout ∙ keeps.kept.layouts;
        globals =
            ap (λ b. global_fits after b j) agree.begun ∙ global_words after old.begun i j same ∙ same_global_fits c i whole kept old.begun
            ∙ keeps.kept.globals;
        depths =
            ap₂ (λ b ws. depth_fits (cond b None (entry (says after) new.table (inst ws)))) agree.begun same
            ∙ ap (λ e. depth_fits (cond old.begun None e)) (same_entry gone keep before after thin facts i fact stands old new agree) ∙ keeps.kept.depths;
      };
      new_decoration =
          ap₂ (λ is ws. repeats is (inst ws)) front_after same
          ∙ new_decoration_stays gone keep before facts pre qs pre_facts same_before i (sym (ap (λ is. repeats is i) front) ∙ keeps.new_decoration);
    }

    breaks_none_here : NoneAt after qs j
    breaks_none_here = breaks_none after (declare_all (says after) nothing_declared qs) (length qs) j keeps_after

  none_at : (qs : List Instruction) (j : Instruction) (rest : List Instruction) → after ≡ qs ++ j ∷ rest → NoneAt after qs j
  none_at qs j rest cut_after = by (is_line j) refl
    where
      comes : ComesOf keep before qs j
      comes = comes_of keep before qs j rest (sym (ap words_of cut_after) ∙ thin.words)

      by : (b : Bool) → is_line j ≡ b → NoneAt after qs j
      by true e = line_breaks_none after (declare_all (says after) nothing_declared qs) (length qs) j e
      by false e =
          breaks_none_here qs j rest cut_after comes.pre comes.inst comes.post comes.cut comes.stands comes.same comes.before
          (sym (ap (λ ws. is_line (inst ws)) comes.same) ∙ e)

pub thinned_is_declared : ThinnedIsDeclared
thinned_is_declared gone keep before after h thin = none_found after (none_at gone keep before after h thin)
