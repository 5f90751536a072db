-- What is read of a module is what it is built of.
use Rattle.std.proofs.Common.{◌≡◌, ℕ, suc, ◌+◌, ◌<◌, ◌≤◌, Bool, true, false, cond, not, ◌==◌, ◌&&◌, ◌||◌, List, [], ◌∷◌, ◌++◌, filter, map, length, Some, None, refl, sym, ap, ap₂, ◌∙◌, subst, arith}
use Rattle.std.specs.Prelude.{count_by}
use Rattle.std.specs.List.{AllByRecursion, Contains, flat_map, slice_get}
use Rattle.spv_opcodes.specs.declared.op.TheConstants as op
use Rattle.spv_base.specs.declared.header.Header.{Header}
use Rattle.spv_module.specs.Code.{Code, code_of, is_function, is_line, spelling}
use Rattle.spv_module.specs.Decode.{first_in_decode}
use Rattle.spv_module.specs.First.{first}
use Rattle.spv_module.specs.Instruction.{Instruction}
use Rattle.spv_module.specs.Layout.{group_2}
use Rattle.spv_declarations.specs.Broken.{group_3}
use Rattle.spv_blocks.specs.Cutting.{blocks_of, function_insts}
use Rattle.spv_walk.specs.Walk.{Walk}
use Rattle.spv_walking.specs.Depths.{IsDepth}
use Rattle.spv_bodies.specs.Bodies.{Function, depth}
use Rattle.spv_bodies.specs.Listing.{listed}
use Rattle.spv_tree.specs.declared.body.Body.{Body}
use Rattle.spv_tree.specs.Sound.{opcode_in}
use Rattle.spv_tree.specs.Tree.{body_of, words_of}
use Rattle.spv_spelling.specs.Clean.{IsClean}
use Rattle.spv_spelling.specs.Whole.{AreInstructions, AreShort}
use Rattle.spv_texts.proofs.Labels.{unbroken_defines_once}
use Rattle.spv_texts.proofs.Marks.{blocks_without_marks}
use Rattle.spv_clean_trees.proofs.Structures.{opens, spelled_is_structured}
use Rattle.spv_respelling.proofs.Lengths.{listing_short}
use Rattle.spv_respelling.proofs.Normals.{spelled_tree_is_normal}
use Rattle.spv_body_rules.specs.Broken.{body_rules}
use Rattle.spv_typed_trees.specs.Laws.{BreakNone}
use Rattle.spv_typed_trees.specs.Typed.{IsTyped}
use Rattle.spv_typed_trees.proofs.Converse.{unbroken_is_typed}
use Rattle.spv_typed_trees.proofs.Whole.{spelled_are_listed}
use Rattle.spv_fine.specs.Fine.{IsFine}
use Rattle.spv_fine.specs.Laws.{IsKnown, Told}
use Rattle.spv_fine_trees.specs.Laws.{lines_of}
use Rattle.spv_fine_trees.proofs.Joined.{read_is_fine}
use Rattle.spv_functions.specs.Functions.{is_pointer}
use Rattle.spv_norm.specs.Norm.{IsNorm, names_gone, outside, staying, stays_outside}
use Rattle.spv_norm_means.proofs.InOrder.{joined}
use Rattle.spv_check.specs.Broken.{Listed, NotAvailable}
use Rattle.spv_check.proofs.Beginnings.{in_functions}
use Rattle.spv_control.specs.Control.{AreParsed}
use Rattle.spv_module_rules.specs.Broken.{ManyExits}
use Rattle.spv_norm_declared.specs.Laws.{IsWhole}
use Rattle.spv_norm_declared.proofs.CutAgain.{IsRead, group_2_none, is_read}
use Rattle.spv_norm_declared.proofs.Instructions.{each_instruction}
use Rattle.spv_norm_declared.proofs.Whole.{norm_is_laid_out, norm_lines_are_instructions}
use Rattle.spv_norm_structured.specs.Laws.{HasNormalFunctions, IsNormAgain, IsReadAsTrees}
use Rattle.spv_norm_structured.proofs.Again as again
use Rattle.spv_norm_structured.proofs.Depths.{no_deeper, tree_depth}
use Rattle.spv_norm_structured.proofs.Pieces.{all_at, one_at}
use Rattle.spv_norm_available.specs.Laws.{KnowsAllTypes, NoneMissing}
use Rattle.spv_norm_available.proofs.Types.{types_known}
use Rattle.spv_norm_available.proofs.Whole.{all_available_or_not}
use Rattle.spv_norm_profile.proofs.Entered.{each_entered}
use Rattle.spv_profile.specs.Profile.{IsModule}
use Rattle.spv_built.specs.Built.{AreBuilt, FunctionIsBuilt, IsBuilt, IsShort}
use Rattle.spv_built.specs.Laws.{ModuleIsBuilt}
use Rattle.spv_built.proofs.Lists.{Between, at_left, at_right, behind, between, none_of_none}
use Rattle.spv_built.proofs.Promises.{told_promises}

-- ---- lists

all_mapped : (P : Function → Type 0) (bodies : List Body) → AllByRecursion (λ (b : Body). P (body_of b)) bodies → AllByRecursion P (map body_of bodies)
all_mapped P [] h = tt
all_mapped P (b ∷ bs) h = (h.0, all_mapped P bs h.1)

listed_mapped : (bodies : List Body) → flat_map again.lines_of bodies ≡ flat_map listed (map body_of bodies)
listed_mapped [] = refl
listed_mapped (b ∷ bs) = ap (λ z. listed (body_of b) ++ z) (listed_mapped bs)

-- the word counts of lines
short_lines : (is : List Instruction) (lines : List (List ℕ)) → words_of is ≡ lines → AreShort is → AllByRecursion IsShort lines
short_lines is [] e h = tt
short_lines [] (w ∷ ws) e h = absurd (cc e)
short_lines (x ∷ xs) (w ∷ ws) e h =
    let here : x.words ≡ w = cc e in
    let later : words_of xs ≡ ws = cc e in
    (subst IsShort here (h 0 x refl), short_lines xs ws later (λ k i at. h (suc k) i at))

-- what stays outside functions is no line mark
stays_plain : (insts is : List Instruction) → AllByRecursion (λ i. is_line i ≡ false) (filter (stays_outside insts) is)
stays_plain insts [] = tt
stays_plain insts (i ∷ is) = by (stays_outside insts i) refl (stays_plain insts is) where
  plain : (a b : Bool) → (not a && b) ≡ true → a ≡ false
  plain true b h = absurd (cc h)
  plain false b h = refl

  by : (b : Bool) → stays_outside insts i ≡ b → AllByRecursion (λ i. is_line i ≡ false) (filter (stays_outside insts) is)
      → AllByRecursion (λ i. is_line i ≡ false) (cond b (i ∷ filter (stays_outside insts) is) (filter (stays_outside insts) is))
  by true e more = (plain (is_line i) (not (names_gone insts i)) e, more)
  by false e more = more

low_enough : (a b c : ℕ) → a ≤ b → b ≤ c → a ≤ c
low_enough a b c h g = omega (arith, h, g)

-- ---- the module

module _ (code : Code) (bodies : List Body) (m : IsModule code) (parsed_there : AreParsed code.insts bodies) where
  abbrev words : List ℕ
  words = spelling code

  -- where its instructions stand, which is where they stood
  abbrev insts : List Instruction
  insts = (code_of words).insts

  parsed : AreParsed insts bodies
  parsed = subst (λ (c : Code). AreParsed c.insts bodies) (sym m.placed) parsed_there

  decoded : first_in_decode words ≡ None
  decoded = m.profile.structured.front.front.decoded

  declared : first (group_3 insts) ≡ None
  declared = m.profile.structured.front.front.declared

  laid_out_there : first (group_2 (length words) insts) ≡ None
  laid_out_there = group_2_none words decoded

  read : IsRead words
  read = is_read words decoded

  whole : IsWhole words bodies
  whole = record { decoded = decoded; count = parsed.count; each = parsed.each }

  instructions : AreInstructions insts
  instructions = let low = read.low in each_instruction _ insts (omega arith) read.are

  norm : IsNorm (code_of words) code
  norm = subst (λ (c : Code). IsNorm c code) (sym m.placed) m.normal

  laid_out : (end : ℕ) → first (group_2 end insts) ≡ None
  laid_out end = norm_is_laid_out words bodies code whole norm end insts (ap (λ (c : Code). words_of c.insts) m.placed)

  trees : IsReadAsTrees insts bodies
  trees = record {
    end = length words;
    instructions = instructions;
    laid_out = laid_out_there;
    once = unbroken_defines_once insts declared;
    count = parsed.count;
    each = parsed.each;
  }

  norm_again : IsNormAgain insts insts
  norm_again = record { words = ap (λ (c : Code). words_of c.insts) m.placed ∙ norm.lines; instructions = instructions }

  functions : HasNormalFunctions insts insts
  functions = again.functions_law insts insts bodies trees norm_again

  -- ---- the rules on bodies

  fit : (k : ℕ) (i : Instruction) → slice_get insts k ≡ Some i → (rule : ℕ) → Contains (body_rules insts k i) rule → ⊥
  fit k i at rule h = m.profile.bodies rule i.offset (record { k = k; i = i; is = at; broken = Listed rule h; place = refl })

  missing : NoneMissing insts
  missing = λ k i at plain h.
      m.profile.bodies 503 i.offset
      (record { k = k; i = i; is = at; broken = NotAvailable (in_functions insts k i at h.inside plain) h; place = refl })

  types : KnowsAllTypes insts
  types = types_known insts (length words) instructions laid_out_there declared fit

  -- ---- one function

  module _ (k : ℕ) (t : List Instruction) (a : again.IsAgain insts bodies k t) (stands : Between insts t) (below : k < count_by is_function insts) where
    abbrev f : Function
    f = body_of a.body

    abbrev texts : List Instruction
    texts = lines_of insts k

    breaks_none : BreakNone stands.before t stands.after
    breaks_none n i at =
        let there : slice_get (stands.before ++ (t ++ stands.after)) (length stands.before + n) ≡ Some i =
        at_right stands.before (t ++ stands.after) n ∙ at_left t stands.after n i at in
        subst (λ (z : List Instruction). body_rules z (length stands.before + n) i ≡ []) stands.same
        (none_of_none (body_rules insts (length stands.before + n) i)
        (fit (length stands.before + n) i (subst (λ (z : List Instruction). slice_get z (length stands.before + n) ≡ Some i) (sym stands.same) there)))

    is_typed : IsTyped insts f
    is_typed =
        let s = a.tree.parsed.spelled in
        subst (λ (z : List Instruction). IsTyped z f) (sym stands.same)
        (unbroken_is_typed stands.before t stands.after f (spelled_are_listed texts t s.stays f s.admitted s.spells a.lists) breaks_none)

    clean : IsClean (is_pointer insts) (blocks_of texts)
    clean = subst (IsClean (is_pointer insts)) (sym (blocks_without_marks (function_insts k insts))) a.tree.parsed.clean

    shallow : depth f.body ≤ 255
    shallow =
        let s = a.tree.parsed.spelled in
        let blocks = blocks_of (function_insts k insts) in
        low_enough (depth f.body) a.tree.parsed.depth 255
        (no_deeper blocks (Walk blocks) (depth f.body) a.tree.parsed.depth
        (subst (λ z. IsDepth z (Walk z) (depth f.body)) (blocks_without_marks (function_insts k insts))
        (tree_depth texts s.stays f s.admitted s.spells)) a.tree.parsed.nested.greatest)
        a.tree.parsed.within

    promises : (test : ℕ → ℕ → Bool) × IsFine (IsKnown insts) (λ label. Told (test label)) f
    promises =
        let s = a.tree.parsed.spelled in
        told_promises insts texts f (λ none.
        all_available_or_not insts missing
        (λ all. none (read_is_fine insts (length words) k s.stays f instructions laid_out_there below s.admitted s.spells (types k below) all)))

    is_built : FunctionIsBuilt insts f
    is_built =
        let s = a.tree.parsed.spelled in
        record {
          sound = a.tree.sound;
          opens = opens texts s.stays f s.admitted s.spells;
          short = short_lines t (listed f) a.lists (listing_short texts s.stays f s.admitted s.spells a.tree.sound t a.lists);
          structured = spelled_is_structured (is_pointer insts) texts s.stays f s.admitted clean s.spells;
          normal = spelled_tree_is_normal texts s.stays f s.admitted s.spells;
          shallow = shallow;
          typed = is_typed;
          promised = promises.0;
          fine = promises.1;
        }

  abbrev front : List Instruction
  front = (again.halves insts insts bodies trees norm_again).front

  abbrev pieces : List (List Instruction)
  pieces = (again.pieces insts insts bodies trees norm_again).texts

  built_at : (k : ℕ) (body : Body) → slice_get bodies k ≡ Some body → FunctionIsBuilt insts (body_of body)
  built_at k body at =
      let below : k < length bodies = again.place_below bodies k body at in
      let t = one_at pieces k (subst (λ n. k < n) (sym (again.pieces insts insts bodies trees norm_again).count) below) in
      let a = again.known insts insts bodies trees norm_again k t.0 t.1 in
      let stands : Between insts t.0 =
      subst (λ (z : List Instruction). Between z t.0) (sym (again.whole insts insts bodies trees norm_again))
      (behind front (joined pieces) t.0 (between pieces k t.0 t.1)) in
      let both : Some a.body ≡ Some body = sym a.at ∙ at in
      let same : a.body ≡ body = cc both in
      subst (λ z. FunctionIsBuilt insts (body_of z)) same (is_built k t.0 a stands (subst (λ n. k < n) parsed.count below))

  -- ---- the whole

  are_built : AreBuilt insts (map body_of bodies)
  are_built = record {
    marks =
        again.all_by_words (λ w. (opcode_in w == op.LINE || opcode_in w == op.NO_LINE) ≡ false) (outside insts) (staying insts) functions.outside
        (stays_plain insts (outside insts));
    lines =
        norm_again.words
        ∙ ap₂ (λ (x y : List (List ℕ)). x ++ y) (sym functions.outside)
        (again.lines_are insts insts bodies trees norm_again ∙ listed_mapped bodies);
    laid_out = laid_out;
    declared = declared;
    functions = all_mapped (FunctionIsBuilt insts) bodies (all_at (λ (b : Body). FunctionIsBuilt insts (body_of b)) bodies built_at);
    entered = each_entered insts m.profile.whole;
    uncrowded = λ nested rule at together h. m.profile.whole rule at (ManyExits nested rule at together h);
  }

  module_is_built : IsBuilt code (map body_of bodies)
  module_is_built = record {
    header = record {
      version = read.version;
      bound = ap (λ (h : Header). h.bound) m.normal.header;
      within = read.low;
      schema = read.schema;
    };
    unbroken = norm_lines_are_instructions words bodies code whole norm;
    placed = are_built;
  }

pub read_is_built : ModuleIsBuilt
read_is_built code bodies m parsed = module_is_built code bodies m parsed
