-- 301 to 309: an instruction that stays breaks no rule where it broke none, and what is rewritten breaks none.
use Rattle.std.proofs.Common.{◌≡◌, inl, inr, ℕ, suc, Bool, true, false, cond, not, ◌==◌, ◌&&◌, ◌||◌, List, [], ◌∷◌, ◌++◌, length, take, Option, Some, None, refl, sym, ap, ap₂, subst, ◌∙◌, arith, true≢false, eqb-true}
use Rattle.std.specs.List.{AllByRecursion, list_any, slice_get, slice_index}
use Rattle.std.specs.Option.{option_map_or}
use Rattle.std.specs.Cmp.Lexicographic.{pointwise}
use Rattle.std.specs.Prelude.{drop, nat_eq}
use Rattle.spv_opcodes.specs.declared.builtin.TheConstants as builtin
use Rattle.spv_opcodes.specs.declared.decoration.TheConstants as decoration
use Rattle.spv_opcodes.specs.declared.op.TheConstants as op
use Rattle.spv_grammar.specs.Roles.{is_defined_id}
use Rattle.spv_module.specs.Code.{is_line}
use Rattle.spv_module.specs.Instruction.{Instruction, IsInstruction, opcode, roles, word_with}
use Rattle.spv_ids.specs.Ids.{id_rules, is_declaration, is_defined, used_ids}
use Rattle.spv_repeats.specs.Repeats.{is_decorate, is_member_decorate, is_same_decoration, is_same_member_decoration, is_same_spec_id, is_same_type, is_spec_id, is_unique_type, is_workgroup_size, occurs, repeats, single_decorations, unique_types}
use Rattle.spv_repeats.specs.Repeats as repeating
use Rattle.spv_typing.specs.Kinds.{is_one_of}
use Rattle.spv_typing.specs.Operations.{spec_op_fits}
use Rattle.spv_typing.specs.Types.{type_fits}
use Rattle.spv_decorations.specs.Globals.{global_fits}
use Rattle.spv_decorations.specs.Targets.{decoration_fits}
use Rattle.spv_declarations.specs.Broken.{declaration_rules, depth_fits, layout_fits, rules_at}
use Rattle.spv_declarations.specs.Constants.{constant_fits}
use Rattle.spv_declarations.specs.Declarations.{Declared, declare_all, declared_before, entry, nothing_declared, says}
use Rattle.spv_declarations.specs.Laws.{IsUnbroken}
use Rattle.spv_declarations.proofs.Modules.{unbroken}
use Rattle.spv_alike_uses.specs.Laws.{UsesWhatStays}
use Rattle.spv_alike_uses.proofs.Lookups.{Case, and_true, each}
use Rattle.spv_thinned.specs.Thinned.{IsKept}
use Rattle.spv_thinned.proofs.Declared.{Agree}
use Rattle.spv_thinned.proofs.Walk.{inst}
use Rattle.spv_thinned_declarations.proofs.Constants.{same_constant_fits}
use Rattle.spv_thinned_declarations.proofs.Decorations.{same_decoration_fits, same_global_fits}
use Rattle.spv_thinned_declarations.proofs.Operations.{operations_stay}
use Rattle.spv_thinned_declarations.proofs.Types.{same_type_fits}
use Rattle.spv_norm_declarations.proofs.Outside.{get_behind, take_front}
use Rattle.spv_norm_declarations.proofs.Rules.{KeepsAll, NoneAt, breaks_none, keeps_all, none_found}
use Rattle.spv_rewritten.specs.Rewritten.{EachAs, IsChanged, IsRewritten, IsRewrittenAs, settled_kinds}
use Rattle.spv_rewritten.specs.Laws.{RewrittenIsDeclared}
use Rattle.spv_rewritten.proofs.Alike.{all_stay, rewritten_is_alike}
use Rattle.spv_rewritten.proofs.Common.{by_opcode, same_line, same_result}
use Rattle.spv_rewritten.proofs.Lookups.{same_defined}
use Rattle.spv_rewritten.proofs.Pairs.{IsCut, cut_at, same_any}
use Rattle.spv_rewritten.proofs.Passing.{constants_pass, declares_nothing, decoration_passes, depths_pass, globals_pass, layouts_pass, new_decoration_passes, new_type_passes, operation_passes, type_passes}
use Rattle.spv_rewritten.proofs.Tables.{same_declared, same_entry}

-- ---- the same words

type_fits_words : (insts : List Instruction) (i j : Instruction) → j.words ≡ i.words → type_fits insts j ≡ type_fits insts i
unfolding type_fits
type_fits_words insts i j e = ap (λ ws. type_fits insts (inst ws)) e

spec_op_words : (insts : List Instruction) (i j : Instruction) → j.words ≡ i.words → spec_op_fits insts j ≡ spec_op_fits insts i
unfolding spec_op_fits
spec_op_words insts i j e = ap (λ ws. spec_op_fits insts (inst ws)) e

decoration_words : (insts : List Instruction) (i j : Instruction) → j.words ≡ i.words → decoration_fits insts j ≡ decoration_fits insts i
unfolding decoration_fits
decoration_words insts i j e = ap (λ ws. decoration_fits insts (inst ws)) e

global_words : (insts : List Instruction) (begun : Bool) (i j : Instruction) → j.words ≡ i.words → global_fits insts begun j ≡ global_fits insts begun i
unfolding global_fits
global_words insts begun i j e = ap (λ ws. global_fits insts begun (inst ws)) e

-- a line mark is looked past
line_breaks_none : (insts : List Instruction) (d : Declared) (k : ℕ) (i : Instruction) → is_line i ≡ true → rules_at insts d k i ≡ []
unfolding rules_at
line_breaks_none insts d k i e = ap (λ b. cond b [] (id_rules insts d.begun k i ++ declaration_rules insts d k i)) e

-- ---- what stood in front, and what stands there

apart : (m n : ℕ) → is_one_of settled_kinds m ≡ true → is_one_of settled_kinds n ≡ false → (m == n) ≡ false
apart m n s h = by (m == n) refl
  where
    by : (b : Bool) → (m == n) ≡ b → b ≡ false
    by true e = absurd (true≢false (sym s ∙ ap (is_one_of settled_kinds) (eqb-true m n e) ∙ h))
    by false e = refl

module _ (b is js : List Instruction) (h : EachAs (IsRewrittenAs b) is js) (i : Instruction) where
  -- a unique type occurs as it did
  same_occurs : occurs js i ≡ occurs is i
  same_occurs =
      and_true (is_unique_type i) (list_any (is_same_type i) js) (list_any (is_same_type i) is)
      (λ u. same_any (IsRewrittenAs b) (is_same_type i) (is_same_type i) (test (each (is_one_of settled_kinds) unique_types refl (opcode i) u)) is js h)
    where
      test : is_one_of settled_kinds (opcode i) ≡ true → (x y : Instruction) → IsRewrittenAs b x y → is_same_type i y ≡ is_same_type i x
      test s x y (inl e) = ap (λ ws. is_same_type i (inst ws)) e
      test s x y (inr c) =
          ap (λ t. t && pointwise nat_eq (drop 2 i.words) (drop 2 y.words)) (apart (opcode i) (opcode y) s (ap (is_one_of settled_kinds) c.kind ∙ c.passing))
          ∙ sym (ap (λ t. t && pointwise nat_eq (drop 2 i.words) (drop 2 x.words)) (apart (opcode i) (opcode x) s c.passing))

  -- and so does a decoration
  same_any_decoration : (o : ℕ) → is_one_of settled_kinds o ≡ true → (q : Bool → List ℕ → Bool) → ((ws : List ℕ) → q false ws ≡ false)
      → list_any (λ (x : Instruction). q (opcode x == o) x.words) js ≡ list_any (λ (x : Instruction). q (opcode x == o) x.words) is
  same_any_decoration o s q none =
      same_any (IsRewrittenAs b) (λ (x : Instruction). q (opcode x == o) x.words) (λ (x : Instruction). q (opcode x == o) x.words)
      (λ x y r. by_opcode o s q false none b x y r) is js h

  on_target : list_any (is_same_decoration i) js ≡ list_any (is_same_decoration i) is
  on_target =
      same_any_decoration op.DECORATE refl
      (λ t ws. t && (slice_index i.words 1 == slice_index ws 1 && slice_index i.words 2 == slice_index ws 2)) (λ ws. refl)

  on_member : list_any (is_same_member_decoration i) js ≡ list_any (is_same_member_decoration i) is
  on_member =
      same_any_decoration op.MEMBER_DECORATE refl
      (λ t ws. t && (slice_index i.words 1 == slice_index ws 1 && slice_index i.words 2 == slice_index ws 2 && slice_index i.words 3 == slice_index ws 3))
      (λ ws. refl)

  on_any : list_any (is_same_spec_id i) js ≡ list_any (is_same_spec_id i) is
  on_any =
      same_any_decoration op.DECORATE refl (λ t ws. (t && slice_index ws 2 == decoration.SPEC_ID) && slice_index i.words 3 == slice_index ws 3) (λ ws. refl)

  size : list_any is_workgroup_size js ≡ list_any is_workgroup_size is
  size =
      same_any_decoration op.DECORATE refl
      (λ t ws. t && (slice_index ws 2 == decoration.BUILTIN && slice_index ws 3 == builtin.WORKGROUP_SIZE)) (λ ws. refl)

  same_repeats : repeats js i ≡ repeats is i
  same_repeats =
      λ k. (is_decorate i && on_target k && repeating.is_one_of single_decorations (slice_index i.words 2))
      || (is_member_decorate i && on_member k && repeating.is_one_of single_decorations (slice_index i.words 3))
      || (is_spec_id i && on_any k) || (is_workgroup_size i && size k)

-- ---- an instruction where it stands

module _ (before after : List Instruction) (h : IsUnbroken before) (w : IsRewritten before after) where
  keeps_at : (k : ℕ) (i : Instruction) → slice_get before k ≡ Some i → is_line i ≡ false → KeepsAll before (declared_before before k) k i
  keeps_at k i at plain = keeps_all before (declared_before before k) k i plain (unbroken before (suc k) h.unrefused k i (omega arith) at)

  abbrev c : Case
  c = record { gone = λ id. false; before = before; after = after; unbroken = h; alike = rewritten_is_alike before after h w }

  module _ (qs : List Instruction) (j : Instruction) (rest : List Instruction) (cut_after : after ≡ qs ++ j ∷ rest) (pre : List Instruction) (i : Instruction)
      (post : List Instruction) (cut : before ≡ pre ++ i ∷ post) (front : EachAs (IsRewrittenAs before) pre qs) (plain : is_line i ≡ false) where
    at : slice_get before (length pre) ≡ Some i
    at = ap (λ is. slice_get is (length pre)) cut ∙ get_behind pre post i

    front_before : take (length pre) before ≡ pre
    front_before = ap (take (length pre)) cut ∙ take_front pre (i ∷ post)

    front_after : take (length qs) after ≡ qs
    front_after = ap (take (length qs)) cut_after ∙ take_front qs (j ∷ rest)

    whole : IsInstruction i.words (roles i)
    whole = h.whole (length pre) i at

    kept : IsKept (λ id. false) i
    kept = record { defined = λ id e. refl; used = all_stay (used_ids i) }

    uses : UsesWhatStays (λ id. false) i
    uses = record { whole = whole; used = all_stay (used_ids i); function = λ e. refl }

    abbrev d : Declared
    d = declared_before before (length pre)

    same_state : declare_all (says after) nothing_declared qs ≡ declared_before before (length pre)
    same_state =
        same_declared before after w pre qs front nothing_declared ∙ ap (declare_all (says before) nothing_declared) (sym front_before)

    keeps : KeepsAll before (declared_before before (length pre)) (length pre) i
    keeps = keeps_at (length pre) i at plain

    defined_there : (id : ℕ) → is_defined qs id ≡ is_defined pre id
    defined_there id = same_defined before pre qs front id

    defined_at_all : (id : ℕ) → is_defined after id ≡ is_defined before id
    defined_at_all id = same_defined before before after w id

    same_second : (o : Option ℕ) → option_map_or (is_defined qs) o false ≡ option_map_or (is_defined pre) o false
    same_second None = refl
    same_second (Some id) = defined_there id

    once : IsRewrittenAs before i j → option_map_or (is_defined (take (length qs) after)) (word_with is_defined_id j) false ≡ false
    once r =
        ap₂ (λ is (o : Option ℕ). option_map_or (is_defined is) o false) front_after (same_result before i j r)
        ∙ same_second (word_with is_defined_id i)
        ∙ sym (ap (λ is. option_map_or (is_defined is) (word_with is_defined_id i) false) front_before) ∙ keeps.kept.once

    -- the same is declared
    agree : Agree (λ id. false) (declared_before before (length pre)) (declared_before before (length pre))
    agree = record { begun = refl; meanings = λ id s. refl; specialised = λ id s. refl }

    keeps_same : j.words ≡ i.words → KeepsAll after (declared_before before (length pre)) (length qs) j
    keeps_same same = record {
      kept = record {
        once = once (inl same);
        known =
            ap₂ (λ is ws. list_any (λ id. not (is_defined after id) || (is_declaration d.begun (inst ws) && not (is_defined is id))) (used_ids (inst ws)))
            front_after same
            ∙ (λ k. list_any (λ id. not (defined_at_all id k) || (is_declaration d.begun i && not (defined_there id k))) (used_ids i))
            ∙ sym (ap (λ is. list_any (λ id. not (is_defined before id) || (is_declaration d.begun i && not (is_defined is id))) (used_ids i)) front_before)
            ∙ keeps.kept.known;
        types = type_fits_words after i j same ∙ same_type_fits c i uses ∙ keeps.kept.types;
        new_type =
            ap₂ (λ is ws. occurs is (inst ws)) front_after same ∙ same_occurs before pre qs front i ∙ sym (ap (λ is. occurs is i) front_before)
            ∙ keeps.kept.new_type;
        constants =
            ap (λ ws. d.begun || constant_fits after d (inst ws)) same ∙ ap (λ b. d.begun || b) (same_constant_fits c i uses d d agree) ∙ keeps.kept.constants;
        operations = spec_op_words after i j same ∙ operations_stay c i whole kept keeps.kept.operations;
        decorations = decoration_words after i j same ∙ same_decoration_fits c i whole kept ∙ keeps.kept.decorations;
        layouts = ap (λ ws. layout_fits d (inst ws)) same ∙ keeps.kept.layouts;
        globals = global_words after d.begun i j same ∙ same_global_fits c i whole kept d.begun ∙ keeps.kept.globals;
        depths =
            ap (λ ws. depth_fits (cond d.begun None (entry (says after) d.table (inst ws)))) same
            ∙ ap (λ e. depth_fits (cond d.begun None e)) (same_entry before after w d.table i) ∙ keeps.kept.depths;
      };
      new_decoration =
          ap₂ (λ is ws. repeats is (inst ws)) front_after same ∙ same_repeats before pre qs front i ∙ sym (ap (λ is. repeats is i) front_before)
          ∙ keeps.new_decoration;
    }

    -- what is defined is known
    none_unknown : (early : Bool) → early ≡ false → (is : List Instruction) (ids : List ℕ) → AllByRecursion (λ id. is_defined before id ≡ true) ids
        → list_any (λ id. not (is_defined after id) || (early && not (is_defined is id))) ids ≡ false
    none_unknown early e is [] all = refl
    none_unknown early e is (id ∷ ids) all =
        ap₂ (λ (x y : Bool). x || y)
        (ap₂ (λ (x y : Bool). not x || (y && not (is_defined is id))) (defined_at_all id ∙ all.0) e) (none_unknown early e is ids all.1)

    keeps_changed : IsChanged before i j → KeepsAll after (declared_before before (length pre)) (length qs) j
    keeps_changed r =
        let s : is_one_of settled_kinds (opcode j) ≡ false = ap (is_one_of settled_kinds) r.kind ∙ r.passing in
        record {
          kept = record {
            once = once (inr r);
            known = none_unknown (is_declaration d.begun j) (declares_nothing j s d.begun) (take (length qs) after) (used_ids j) r.known;
            types = type_passes j s after;
            new_type = new_type_passes j s (take (length qs) after);
            constants = constants_pass j s after d;
            operations = operation_passes j s after;
            decorations = decoration_passes j s after;
            layouts = layouts_pass j s d;
            globals = globals_pass j s after d.begun;
            depths = depths_pass j s (says after) d;
          };
          new_decoration = new_decoration_passes j s (take (length qs) after);
        }

    keeps_after : IsRewrittenAs before i j → KeepsAll after (declared_before before (length pre)) (length qs) j
    keeps_after (inl same) = keeps_same same
    keeps_after (inr r) = keeps_changed r

    breaks_none_here : IsRewrittenAs before i j → NoneAt after qs j
    breaks_none_here r =
        breaks_none after (declare_all (says after) nothing_declared qs) (length qs) j
        (subst (λ d. KeepsAll after d (length qs) j) (sym same_state) (keeps_after r))

  none_at : (qs : List Instruction) (j : Instruction) (rest : List Instruction) → after ≡ qs ++ j ∷ rest → NoneAt after qs j
  none_at qs j rest cut_after = by (is_line j) refl
    where
      comes : IsCut (IsRewrittenAs before) before qs j
      comes = cut_at (IsRewrittenAs before) before qs j rest (subst (EachAs (IsRewrittenAs before) before) cut_after w)

      by : (b : Bool) → is_line j ≡ b → NoneAt after qs j
      by true e = line_breaks_none after (declare_all (says after) nothing_declared qs) (length qs) j e
      by false e =
          breaks_none_here qs j rest cut_after comes.pre comes.inst comes.post comes.cut comes.front
          (sym (same_line before comes.inst j comes.pair) ∙ e) comes.pair

pub rewritten_is_declared : RewrittenIsDeclared
rewritten_is_declared before after h w = none_found after (none_at before after h w)
