-- Steps that are dropped, whose results nothing uses that stays: what stays fits where it stood, and in a module that is alike but for what the others gave.
use Rattle.std.proofs.Common.{◌≡◌, inl, inr, ℕ, Bool, true, false, ◌==◌, ◌||◌, List, [], ◌∷◌, ◌++◌, drop, None, refl, sym, ap, ap₂, ◌∙◌, subst, true≢false}
use Rattle.std.specs.Prelude.{slice_index}
use Rattle.std.specs.List.{All, AllByRecursion, flat_map}
use Rattle.std.proofs.lemmas.List.Elements.{All-cons, All-nil}
use Rattle.spv_opcodes.specs.declared.op.TheConstants as op
use Rattle.spv_grammar.specs.Operands.{opcode_of}
use Rattle.spv_grammar.specs.Table.{row_of}
use Rattle.spv_module.specs.First.{unless}
use Rattle.spv_module.specs.Instruction.{Instruction, IsInstruction, roles}
use Rattle.spv_typing.specs.Kinds.{is_one_of}
use Rattle.spv_ids.specs.Ids.{kind}
use Rattle.spv_declarations.specs.Laws.{IsUnbroken}
use Rattle.spv_declarations.specs.Sound.{AreInstructions}
use Rattle.spv_usage.specs.declared.stages.Stage.TheVariants.{Opening}
use Rattle.spv_alike.proofs.Lookups.{kind_by_words}
use Rattle.spv_alike_uses.specs.Alike.{AreAlikeBut, firm_kinds, is_firm}
use Rattle.spv_alike_uses.specs.Laws.{UsesWhatStays}
use Rattle.spv_alike_uses.proofs.Rules.{rules_stay}
use Rattle.spv_bodies.specs.Bodies.{Function}
use Rattle.spv_tree.specs.Branches.{branches_in}
use Rattle.spv_tree.specs.Sound.{is_step, opcode_in}
use Rattle.spv_editing.specs.Editing.{Edit, KeepsSteps}
use Rattle.spv_editing.specs.Showing.{AStep, AUse, Shown, ids_shown, shown, steps_of, words_shown}
use Rattle.spv_fine.specs.Fine.{used_in}
use Rattle.spv_fine_edits.specs.Laws.{StaysOrGoes}
use Rattle.spv_fine_edits.proofs.Nothing.{all_are}
use Rattle.spv_typed_trees.specs.Typed.{StepFits, as_instruction}
use Rattle.spv_typed_edits.specs.Edits.{HasItsType, SameTypes, StandFor, is_type, is_variable, type_kinds}
use Rattle.spv_typed_edits.proofs.Members.{and_also, are_steps}
use Rattle.spv_built.specs.Built.{IsShort}
use Rattle.spv_built_edits.specs.Edits.{IsFitting, TypesStay}
use Rattle.spv_built_edits.specs.Laws.{FitsWhereDropped}

-- ---- one of some kinds is one of them and others

or_more : (a b c : Bool) → (b ≡ true → c ≡ true) → (a || b) ≡ true → (a || c) ≡ true
or_more true b c more h = refl
or_more false b c more h = more h

pub one_in_front : (xs ys : List ℕ) (k : ℕ) → is_one_of xs k ≡ true → is_one_of (xs ++ ys) k ≡ true
one_in_front [] ys k h = absurd (true≢false (sym h))
one_in_front (x ∷ xs) ys k h = or_more (k == x) (is_one_of xs k) (is_one_of (xs ++ ys) k) (one_in_front xs ys k) h

-- ---- steps and uses, by induction on what is shown

module _ (gone : ℕ → Bool) (before after : List Instruction) (e : Edit) (OfLine : List ℕ → Type 0)
    -- a line that stays fits as it did, and an id that stays has the type that it had
    (fits : (words : List ℕ) → OfLine words → AllByRecursion (λ id. gone id ≡ false) (used_in words) → StepFits before Opening words
    → StepFits after Opening words)
    (typed : (id : ℕ) → gone id ≡ false → HasItsType before after id id) where
  stands : (words : List ℕ) → StaysOrGoes gone e (AStep words) → OfLine words → StandFor before after words (e.steps words)
  stands words (inl stay) line =
      subst (StandFor before after words) (sym stay.0) (record {
        fit = λ h.
            All-cons (λ line. StepFits after Opening line) words [] (fits words line stay.1 h) (All-nil (λ line. StepFits after Opening line));
        variables = All-cons (λ line. is_variable line ≡ is_variable words) words [] refl (All-nil (λ line. is_variable line ≡ is_variable words));
      })
  stands words (inr goes) line =
      subst (StandFor before after words) (sym goes.0) (record {
        fit = λ h. All-nil (λ line. StepFits after Opening line);
        variables = All-nil (λ line. is_variable line ≡ is_variable words);
      })

  all_stand : (all : List Shown) → AllByRecursion (StaysOrGoes gone e) all → AllByRecursion OfLine (flat_map words_shown all)
      → All (λ words. StandFor before after words (e.steps words)) (flat_map words_shown all)
  all_stand [] h lines = All-nil (λ words. StandFor before after words (e.steps words))
  all_stand (AStep words ∷ all) h lines =
      All-cons (λ words. StandFor before after words (e.steps words)) words (flat_map words_shown all) (stands words h.0 lines.0)
      (all_stand all h.1 lines.1)
  all_stand (AUse id ∷ all) h lines = all_stand all h.1 lines

  all_typed : (all : List Shown) → AllByRecursion (StaysOrGoes gone e) all → All (λ id. HasItsType before after id (e.uses id)) (flat_map ids_shown all)
  all_typed [] h = All-nil (λ id. HasItsType before after id (e.uses id))
  all_typed (AStep words ∷ all) h = all_typed all h.1
  all_typed (AUse id ∷ all) h =
      All-cons (λ id. HasItsType before after id (e.uses id)) id (flat_map ids_shown all)
      (λ t k. subst (HasItsType before after id) (sym h.0.0) (typed id h.0.1) t k) (all_typed all h.1)

all_short : (gone : ℕ → Bool) (e : Edit) (all : List Shown) → AllByRecursion (StaysOrGoes gone e) all
    → AllByRecursion (λ words. IsShort words → AllByRecursion IsShort (e.steps words)) (flat_map words_shown all)
all_short gone e [] h = tt
all_short gone e (AStep words ∷ all) h = (
  λ short. elim h.0 [
    | inl stay ↦ subst (AllByRecursion IsShort) (sym stay.0) (short, tt)
    | inr goes ↦ subst (AllByRecursion IsShort) (sym goes.0) tt
  ],
  all_short gone e all h.1,
)
all_short gone e (AUse id ∷ all) h = all_short gone e all h.1

-- ---- within one module

abbrev AnyLine : List ℕ → Type 0
AnyLine words = Unit {0}

-- what stays fits where it did
pub fits_within : (gone : ℕ → Bool) (insts : List Instruction) (e : Edit) (f : Function) → AreInstructions insts → KeepsSteps e
    → AllByRecursion (StaysOrGoes gone e) (shown f.body) → IsFitting insts insts e f
fits_within gone insts e f whole keeps body = record {
  steps = keeps;
  short = all_short gone e (shown f.body) body;
  pointers = λ id. refl;
  round = record { types = record { words = λ t h. refl; others = λ t h. h }; parameters = refl; whole = whole };
  fitting =
      all_stand gone insts insts e AnyLine (λ words line used h. h) (λ id stays t h. h) (shown f.body) body
      (all_are AnyLine (λ words. tt) (flat_map words_shown (shown f.body)));
  uses = all_typed gone insts insts e AnyLine (λ words line used h. h) (λ id stays t h. h) (shown f.body) body;
}

-- ---- in another module

module _ (gone : ℕ → Bool) (before after : List Instruction) (unbroken : IsUnbroken before) (alike : AreAlikeBut gone before after)
    (types : TypesStay gone before after) where
  no_function : (o : ℕ) → is_step o ≡ true → o ≡ op.FUNCTION → ⊥
  unfolding row_of
  no_function o step is = absurd (true≢false (sym step ∙ ap is_step is))

  -- a step that is an instruction of the profile
  abbrev OfProfile : List ℕ → Type 0
  OfProfile words = (is_step (opcode_in words) ≡ true) × IsInstruction words (roles (as_instruction words))

  stays_fitting : (words : List ℕ) → OfProfile words → AllByRecursion (λ id. gone id ≡ false) (used_in words) → StepFits before Opening words
      → StepFits after Opening words
  stays_fitting words line used f =
      let i = as_instruction words in
      let uses : UsesWhatStays gone i =
      record { whole = line.1; used = used; function = λ is. absurd (no_function (opcode_in words) line.0 is) } in
      let s = rules_stay gone before after unbroken alike i i uses refl in
      record {
        arithmetic = ap₂ (λ (a b : Bool). unless a 501 ++ unless b 502) s.arithmetic s.arithmetic_result ∙ f.arithmetic;
        composites = s.composites ∙ f.composites;
        storage = s.storage Opening ∙ f.storage;
        ordering = s.ordering ∙ f.ordering;
        result = s.results None ∙ f.result;
        call = s.call ∙ f.call;
      }

  stays_typed : (id : ℕ) → gone id ≡ false → HasItsType before after id id
  stays_typed id stays t h = alike.values id stays ∙ h

  -- ---- types

  -- types are firm
  type_is_firm : (t : ℕ) → is_type before t ≡ true → is_firm before t ≡ true
  type_is_firm t h = by (kind before t) h
    where
      by : (k : ℕ) → is_one_of type_kinds k ≡ true → is_one_of firm_kinds k ≡ true
      by k h = one_in_front type_kinds (drop 9 firm_kinds) k h

  same_types : SameTypes before after
  same_types = record {
    words = λ t h. alike.fixed t (types.stay t h) (type_is_firm t h);
    others = λ t h. by t (gone t) refl h;
  }
    where
      by : (t : ℕ) (b : Bool) → gone t ≡ b → is_type before t ≡ false → is_type after t ≡ false
      by t true e h = types.none t e
      by t false e h = firm_or_not (is_firm before t) refl
        where
          not_a_type : (b : Bool) → is_type after t ≡ b → is_firm after t ≡ false → is_type after t ≡ false
          not_a_type false k loose = k
          not_a_type true k loose =
              absurd (true≢false (sym (one_in_front type_kinds (drop 9 firm_kinds) (kind after t) k) ∙ loose))

          firm_or_not : (b : Bool) → is_firm before t ≡ b → is_type after t ≡ false
          firm_or_not true firm =
              ap (is_one_of type_kinds)
              (kind_by_words after t ∙ ap (λ (ws : List ℕ). opcode_of (slice_index ws 0)) (alike.fixed t e firm) ∙ sym (kind_by_words before t))
              ∙ h
          firm_or_not false firm = not_a_type (is_type after t) refl (alike.loose t e firm)

pub fits_where_dropped : FitsWhereDropped
fits_where_dropped before after e gone f unbroken alike types sound lines function keeps drops =
    let OfLine : List ℕ → Type 0 = OfProfile gone before after unbroken alike types in
    let fits = stays_fitting gone before after unbroken alike types in
    let typed = stays_typed gone before after unbroken alike types in
    record {
      steps = keeps;
      short = all_short gone e (shown f.body) drops.body;
      pointers = types.pointers;
      round = record {
        types = same_types gone before after unbroken alike types;
        parameters = alike.parameters (slice_index f.function 2) function;
        whole = unbroken.whole;
      };
      fitting =
          all_stand gone before after e OfLine fits typed (shown f.body) drops.body
          (and_also (λ words. is_step (opcode_in words) ≡ true) (λ words. IsInstruction words (roles (as_instruction words))) (steps_of f.body)
          (are_steps (branches_in f) f.body sound.formed) lines);
      uses = all_typed gone before after e OfLine fits typed (shown f.body) drops.body;
    }
