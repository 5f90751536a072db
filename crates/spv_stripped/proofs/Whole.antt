-- A module of the profile in normal form, stripped, is built of the same functions, so it is such a module.
use Rattle.std.proofs.Common.{◌≡◌, ℕ, suc, ◌≤◌, ◌<◌, Bool, true, false, cond, not, ◌==◌, ◌&&◌, ◌||◌, List, [], ◌∷◌, ◌++◌, zero, drop, filter, map, slice_get, Some, inl, refl, sym, ap, ap₂, subst, ◌∙◌, arith, true≢false}
use Rattle.std.specs.List.{AllByRecursion, flat_map, slice_index}
use Rattle.std.specs.Option.{option_map_or}
use Rattle.std.proofs.lemmas.List.Elements.{All-cons, All-nil}
use Rattle.spv_opcodes.specs.declared.op.TheConstants as op
use Rattle.spv_base.specs.declared.header.Header.{Header}
use Rattle.spv_module.specs.Code.{Code, code_of, is_function, is_line, spelling}
use Rattle.spv_module.specs.Instruction.{Instruction, IsInstruction, instruction_rules, opcode, roles}
use Rattle.spv_ids.specs.Ids.{defines, definition, kind, used_ids}
use Rattle.spv_repeats.specs.Repeats.{is_workgroup_size}
use Rattle.spv_typing.specs.Kinds.{is_one_of}
use Rattle.spv_bound.specs.Bound.{bound_of_ids}
use Rattle.spv_declarations.specs.Laws.{IsUnbroken}
use Rattle.spv_declarations.proofs.Declares.{AllOf}
use Rattle.spv_signatures.specs.Functions.{leading_parameters}
use Rattle.spv_walk.proofs.Unique.{equal_true}
use Rattle.spv_alike.specs.Uses.{namings}
use Rattle.spv_alike_uses.specs.Alike.{Stays}
use Rattle.spv_label_uses.proofs.Free.{free_bools, free_ints, free_is_no, free_value_of, is_free}
use Rattle.spv_bodies.specs.Bodies.{Function}
use Rattle.spv_bodies.specs.Listing.{branches, instruction, label_line, lines, listed}
use Rattle.spv_tree.specs.declared.body.Body.{Body}
use Rattle.spv_tree.specs.Branches.{branches_in}
use Rattle.spv_tree.specs.Sound.{is_step, opcode_in}
use Rattle.spv_tree.specs.Tree.{body_of, words_of}
use Rattle.spv_usage.specs.declared.stages.Stage.TheVariants.{Opening}
use Rattle.spv_texts.specs.Laws.{DefinesOnce}
use Rattle.spv_texts.proofs.Labels.{unbroken_defines_once}
use Rattle.spv_editing.specs.Editing.{KeepsSteps, edited_function, unchanged}
use Rattle.spv_editing.specs.Showing.{AStep, AUse, Shown, shown}
use Rattle.spv_editing.proofs.Edits.{unchanged-function}
use Rattle.spv_spelling.specs.Whole.{AreInstructions}
use Rattle.spv_fine.specs.Fine.{used_in}
use Rattle.spv_fine_edits.specs.Laws.{StaysOrGoes}
use Rattle.spv_typed_trees.specs.Typed.{as_instruction}
use Rattle.spv_machine.proofs.Spelling.{AllCounted, spelled_again}
use Rattle.spv_norm.specs.Norm.{outside}
use Rattle.spv_norm_declared.proofs.Instructions.{Are}
use Rattle.spv_norm_declared.proofs.Whole.{bound_low, bound_some, own_bound}
use Rattle.spv_norm_entries.proofs.Places.{the_kind}
use Rattle.spv_norm_profile.proofs.Words.{all_counted, same_bound, same_spelling}
use Rattle.spv_control.specs.Control.{AreParsed}
use Rattle.spv_profile.specs.Profile.{IsModule}
use Rattle.spv_stripped.proofs.StringUses.{module_uses_no_strings}
use Rattle.spv_thinned.specs.Thinned.{IsDropped, IsKept, IsThinned, decorating_kinds, lasting_kinds}
use Rattle.spv_thinned.proofs.Walk.{each_at}
use Rattle.spv_thinned.proofs.Whole.{facts_of}
use Rattle.spv_built.specs.Built.{AreBuilt, FunctionIsBuilt, IsBuilt}
use Rattle.spv_built.proofs.Lists.{all_left, all_right}
use Rattle.spv_built.proofs.Read.{read_is_built}
use Rattle.spv_built.proofs.Whole.{built_is_module}
use Rattle.spv_built_edits.specs.Thinned.{AreThinned, IsThinnedFunction, KeepsShape, shaping_kinds}
use Rattle.spv_built_edits.proofs.Kept.{outside_is_thinned}
use Rattle.spv_built_edits.proofs.Parameters.{no_parameters_behind}
use Rattle.spv_built_edits.proofs.KeptSteps.{OfStep, shown_steps, steps_back}
use Rattle.spv_built_edits.proofs.ThinnedWhole.{thinned_is_built}
use Rattle.spv_typed_edits.proofs.Zero.{undefined}
use Rattle.spv_stripped.specs.Laws.{StrippedFormIsModule, StrippedIsModule}
use Rattle.spv_stripped.specs.Strip.{stays, stripped, stripped_insts}
use Rattle.spv_stripped.proofs.Opcodes.{defines_string, fails_where_stripped, plain_where_stays, stays_where}
use Rattle.spv_stripped.proofs.Lines.{inst, lines_stay, stripped_lines, words_filtered}
use Rattle.spv_stripped.proofs.Uses.{Line, OfUse, values_used}

-- ---- lists

all_to : {A : Type 0} (P Q : A → Type 0) (xs : List A) → ((x : A) → P x → Q x) → AllByRecursion P xs → AllByRecursion Q xs
all_to P Q [] to h = tt
all_to P Q (x ∷ xs) to h = (to x h.0, all_to P Q xs to h.1)

all_both : {A : Type 0} (P Q : A → Type 0) (xs : List A) → AllByRecursion P xs → AllByRecursion Q xs → AllByRecursion (λ x. P x × Q x) xs
all_both P Q [] h g = tt
all_both P Q (x ∷ xs) h g = ((h.0, g.0), all_both P Q xs h.1 g.1)

kept_all : (P : Instruction → Type 0) (is : List Instruction) → AllByRecursion P is → AllByRecursion P (filter stays is)
kept_all P [] h = tt
kept_all P (i ∷ is) h = by (stays i) (kept_all P is h.1)
  where
    by : (b : Bool) → AllByRecursion P (filter stays is) → AllByRecursion P (cond b (i ∷ filter stays is) (filter stays is))
    by true more = (h.0, more)
    by false more = more

at_each : (P : Instruction → Type 0) (is : List Instruction) → AllByRecursion P is → (k : ℕ) (i : Instruction) → slice_get is k ≡ Some i → P i
at_each P [] h k i e = absurd (cc e)
at_each P (x ∷ xs) h zero i e = let same : x ≡ i = cc e in subst P same h.0
at_each P (x ∷ xs) h (suc k) i e = at_each P xs h.1 k i e

to_words : (Q : List ℕ → Type 0) (is : List Instruction) → AllByRecursion (λ (i : Instruction). Q i.words) is → AllByRecursion Q (words_of is)
to_words Q [] h = tt
to_words Q (i ∷ is) h = (h.0, to_words Q is h.1)

each_listing : (Q : List ℕ → Type 0) (fs : List Function) → AllByRecursion Q (flat_map listed fs) → AllByRecursion (λ f. AllByRecursion Q (listed f)) fs
each_listing Q [] h = tt
each_listing Q (f ∷ fs) h = (all_left Q (listed f) (flat_map listed fs) h, each_listing Q fs (all_right Q (listed f) (flat_map listed fs) h))

-- counted instructions that break no rule below a bound
both_are : (bound : ℕ) (is : List Instruction) → AllCounted is → AllByRecursion (λ i. instruction_rules bound i.words ≡ []) is → Are bound is
both_are bound [] counted rules = tt
both_are bound (i ∷ is) counted rules = (record { counted = counted.0; rules = rules.0 }, both_are bound is counted.1 rules.1)

rules_of : (bound : ℕ) (is : List Instruction) → Are bound is → AllByRecursion (λ i. instruction_rules bound i.words ≡ []) is
rules_of bound [] h = tt
rules_of bound (i ∷ is) h = (h.0.rules, rules_of bound is h.1)

-- ---- what stays by its opcode

shape_stays : (i : Instruction) → is_one_of shaping_kinds (opcode i) ≡ true → stays i ≡ true
shape_stays i h = stays_where (is_one_of shaping_kinds) (refl, (refl, (refl, (refl, (refl, (refl, (refl, (refl, (refl, tt))))))))) i h

size_stays : (i : Instruction) → is_workgroup_size i ≡ true → stays i ≡ true
size_stays i h =
    stays_where (λ o. o == op.DECORATE) (refl, (refl, (refl, (refl, (refl, (refl, (refl, (refl, (refl, tt))))))))) i (decorates (opcode i == op.DECORATE) _ h)
  where
    decorates : (a b : Bool) → (a && b) ≡ true → a ≡ true
    decorates true b h = refl
    decorates false b h = h

-- ---- the module

module _ (code : Code) (bodies : List Body) (m : IsModule code) (parsed : AreParsed code.insts bodies) where
  abbrev before : List Instruction
  before = code.insts

  abbrev fs : List Function
  fs = map body_of bodies

  is_built : IsBuilt code fs
  is_built = read_is_built code bodies m parsed

  b : AreBuilt before fs
  b = subst (λ z. AreBuilt z fs) (ap (λ (c : Code). c.insts) m.placed) is_built.placed

  formed : AreInstructions before
  formed = is_built.unbroken.instructions

  once : DefinesOnce before
  once = unbroken_defines_once before b.declared

  abbrev gone : ℕ → Bool
  gone id = kind before id == op.STRING

  abbrev s : Code
  s = stripped code

  abbrev after : List Instruction
  after = (code_of (spelling s)).insts

  formed_s : AreInstructions s.insts
  formed_s =
      at_each (λ i. IsInstruction i.words (roles i)) s.insts
      (kept_all (λ i. IsInstruction i.words (roles i)) before (each_at (λ i. IsInstruction i.words (roles i)) before formed))

  counted : AllCounted s.insts
  counted = all_counted s.insts formed_s

  after_words : words_of after ≡ words_of (filter stays before)
  after_words = spelled_again s counted

  -- ---- what goes and what stays

  own_kind : (k : ℕ) (i : Instruction) → slice_get before k ≡ Some i → is_line i ≡ false → (id : ℕ) → defines id i ≡ true → kind before id ≡ opcode i
  own_kind k i at plain id d = the_kind before once k i at plain id d

  is_dropped : (k : ℕ) (i : Instruction) → slice_get before k ≡ Some i → stays i ≡ false → IsDropped gone i
  is_dropped k i at h = record {
    defined = λ id d.
        let string : opcode i ≡ op.STRING = defines_string id i (formed k i at) h d in
        let plain : is_line i ≡ false = ap (λ o. o == op.LINE || o == op.NO_LINE) string in
        ap (λ o. o == op.STRING) (own_kind k i at plain id d ∙ string);
    passing = fails_where_stripped (is_one_of lasting_kinds) (refl, (refl, (refl, (refl, (refl, (refl, (refl, (refl, (refl, tt))))))))) i h;
    target = λ e.
        absurd (true≢false (sym e
        ∙ fails_where_stripped (is_one_of decorating_kinds) (refl, (refl, (refl, (refl, (refl, (refl, (refl, (refl, (refl, tt))))))))) i h));
  }

  is_kept : (k : ℕ) (i : Instruction) → slice_get before k ≡ Some i → stays i ≡ true → IsKept gone i
  is_kept k i at h = record {
    defined = λ id d. ap (λ o. o == op.STRING) (own_kind k i at (plain_where_stays i h).line id d) ∙ (plain_where_stays i h).string;
    used = module_uses_no_strings code bodies m parsed k i at (plain_where_stays i h).naming;
  }

  thin : IsThinned gone stays before after
  thin = record {
    words = after_words;
    zero = ap (λ o. option_map_or opcode o 0 == op.STRING) (undefined before formed);
    dropped = is_dropped;
    kept = is_kept;
    parameters = λ k i at h plain.
        no_parameters_behind 0 before (b.laid_out 0) k i at plain (record {
          function = fails_where_stripped (λ o. o == op.FUNCTION) (refl, (refl, (refl, (refl, (refl, (refl, (refl, (refl, (refl, tt))))))))) i h;
          parameter = fails_where_stripped (λ o. o == op.FUNCTION_PARAMETER) (refl, (refl, (refl, (refl, (refl, (refl, (refl, (refl, (refl, tt))))))))) i h;
          end = fails_where_stripped (λ o. o == op.FUNCTION_END) (refl, (refl, (refl, (refl, (refl, (refl, (refl, (refl, (refl, tt))))))))) i h;
          label = fails_where_stripped (λ o. o == op.LABEL) (refl, (refl, (refl, (refl, (refl, (refl, (refl, (refl, (refl, tt))))))))) i h;
        });
  }

  -- ---- functions

  abbrev Own : ℕ → Type 0
  Own id = gone id ≡ false

  -- what stays of the lines uses what stays
  abbrev StaysLine : List ℕ → Type 0
  StaysLine ws = IsInstruction ws (roles (inst ws)) × (stays (inst ws) ≡ true → AllByRecursion Own (used_in ws))

  listed_lines : AllByRecursion (λ f. AllByRecursion StaysLine (listed f)) fs
  listed_lines =
      each_listing StaysLine fs
      (all_right StaysLine (words_of (outside before)) (flat_map listed fs)
      (subst (AllByRecursion StaysLine) b.lines
      (to_words StaysLine before (each_at (λ i. StaysLine i.words) before (λ k i at. (formed k i at, λ h. (is_kept k i at h).used))))))

  no_string_value : (id : ℕ) → is_free before id ≡ true → Own id
  no_string_value id h = by (gone id) refl
    where
      by : (c : Bool) → gone id ≡ c → c ≡ false
      by true e = absurd (free_is_no before id op.STRING h refl (equal_true (kind before id) op.STRING e))
      by false e = refl

  all_stay : (xs : List Shown) → AllByRecursion (OfStep (Line Own)) xs → AllByRecursion (OfUse Own) xs → AllByRecursion (StaysOrGoes gone unchanged) xs
  all_stay [] h g = tt
  all_stay (AStep words ∷ xs) h g = (inl (refl, h.0.1), all_stay xs h.1 g.1)
  all_stay (AUse id ∷ xs) h g = ((refl, g.0), all_stay xs h.1 g.1)

  steps_stay : KeepsSteps unchanged
  steps_stay words h = All-cons (λ line. is_step (opcode_in line) ≡ true) words [] h (All-nil (λ line. is_step (opcode_in line) ≡ true))

  function_stays : (f : Function) → FunctionIsBuilt before f → AllByRecursion StaysLine (listed f) → IsThinnedFunction gone f f
  function_stays f built ls =
      let used : AllByRecursion (Line Own) (listed f) =
      all_to (λ ws. StaysLine ws × (stays (inst ws) ≡ true)) (Line Own) (listed f) (λ ws p. (p.0.0, p.0.1 p.1))
      (all_both StaysLine (λ ws. stays (inst ws) ≡ true) (listed f) ls (lines_stay f built.sound built.opens)) in
      let body_lines : AllByRecursion (Line Own) (lines (branches_in f) [] f.body) =
      all_left (Line Own) (lines (branches_in f) [] f.body) (instruction op.FUNCTION_END [] ∷ [])
      (all_right (Line Own) f.parameters (label_line f.label ∷ (lines (branches_in f) [] f.body ++ instruction op.FUNCTION_END [] ∷ [])) used.1).1 in
      let steps = steps_back (Line Own) (branches_in f) f.body [] built.sound.formed body_lines in
      record {
        edit = unchanged;
        keeps = steps_stay;
        same = sym (unchanged-function f);
        body =
            all_stay (shown f.body) (shown_steps (Line Own) f.body steps)
            (values_used before Own (λ t id h. no_string_value id (free_value_of before t id h)) (λ id h. no_string_value id (free_bools before 1 id h))
            (λ id h. no_string_value id (free_ints before 1 id h)) (slice_index f.function 1) (branches_in f) [] Opening f.label f.body built.sound.formed
            (λ front o. absurd o) (λ x o. o) steps built.typed.body);
      }

  all_functions : (gs : List Function) → AllByRecursion (FunctionIsBuilt before) gs → AllByRecursion (λ f. AllByRecursion StaysLine (listed f)) gs
      → AreThinned gone gs gs
  all_functions [] h ls = tt
  all_functions (f ∷ gs) h ls = (function_stays f h.0 ls.0, all_functions gs h.1 ls.1)

  -- ---- the whole

  after_lines : words_of after ≡ words_of (outside after) ++ flat_map listed fs
  after_lines =
      after_words ∙ stripped_lines before fs b
      ∙ ap (λ ws. ws ++ flat_map listed fs)
      (sym (outside_is_thinned gone stays before after thin (facts_of gone stays before after (record { whole = formed; unrefused = b.declared }) thin)))

  placed : AreBuilt after fs
  placed =
      thinned_is_built gone stays before after fs fs formed b thin (λ k i at h. shape_stays i h) (λ k i at h. size_stays i h) after_lines
      (all_functions fs b.functions listed_lines)

  are_before : Are code.header.bound before
  are_before = both_are code.header.bound before (all_counted before formed) is_built.unbroken.rules

  kept_are : (bound : ℕ) (is : List Instruction) → Are bound is → Are bound (filter stays is)
  kept_are bound is h = kept_all _ is h

  are_s : Are code.header.bound s.insts
  are_s = kept_are code.header.bound before are_before

  pub stripped_is_built : IsBuilt s fs
  stripped_is_built = record {
    header = record {
      version = is_built.header.version;
      bound = refl;
      within =
          (let low = bound_low code.header.bound s.insts (subst (λ n. 0 < n) (sym is_built.header.bound) (bound_some before)) are_s in
          let within = is_built.header.within in omega (arith, low, within));
      schema = is_built.header.schema;
    };
    unbroken = record { instructions = formed_s; rules = rules_of (bound_of_ids s.insts) s.insts (own_bound code.header.bound s.insts are_s) };
    placed = placed;
  }

pub stripped_is_module : StrippedIsModule
stripped_is_module code bodies m parsed = built_is_module (stripped code) (map body_of bodies) (stripped_is_built code bodies m parsed)

-- ---- wherever instructions are said to stand

same_left : (xs ys : List Instruction) → words_of xs ≡ words_of ys → words_of (filter stays xs) ≡ words_of (filter stays ys)
same_left xs ys e = words_filtered xs ∙ ap (filter (λ ws. stays (inst ws))) e ∙ sym (words_filtered ys)

pub stripped_form_is_module : StrippedFormIsModule
stripped_form_is_module code bodies formed m parsed =
    let placed : Code = code_of (spelling code) in
    let left : words_of (stripped placed).insts ≡ words_of (stripped code).insts =
    same_left placed.insts code.insts (spelled_again code (all_counted code.insts formed)) in
    let bound : bound_of_ids (stripped placed).insts ≡ bound_of_ids (stripped code).insts = same_bound (stripped placed).insts (stripped code).insts left in
    let header : (stripped placed).header ≡ (stripped code).header = ap (λ (n : ℕ). record code.header { bound = n }) bound in
    subst (λ ws. IsModule (code_of ws)) (same_spelling (stripped placed) (stripped code) header left) (stripped_is_module placed bodies m parsed)
