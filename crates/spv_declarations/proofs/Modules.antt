-- A module that breaks no rule of the third group: what ids outside functions are by their instructions is what they stand for.
use Rattle.std.proofs.Common.{◌≡◌, ℕ, zero, suc, ◌+◌, ◌<◌, ◌^◌, Bool, true, false, cond, ◌==◌, not, ◌||◌, List, [], ◌∷◌, ◌++◌, length, take, Option, Some, None, refl, sym, ap, subst, ◌∙◌, arith}
use Rattle.std.specs.Prelude.{All}
use Rattle.std.specs.List.{slice_get, slice_index}
use Rattle.std.proofs.lemmas.Bool.{leb-true}
use Rattle.std.proofs.lemmas.List.Elements.{All-nil, All-cons}
use Rattle.spv_opcodes.specs.declared.op.TheConstants as op
use Rattle.spv_base.specs.declared.fault.Refusal.{Refusal}
use Rattle.spv_grammar.specs.Table.{row_of}
use Rattle.spv_module.specs.Code.{is_function}
use Rattle.spv_module.specs.First.{here, first}
use Rattle.spv_module.specs.Instruction.{Instruction, opcode}
use Rattle.spv_meaning.specs.Constants.{Table, Meaning, IsType, IsConstant, meaning, type_at, pointer_in, pointer_at}
use Rattle.spv_meaning.specs.Meanings.{is_laid}
use Rattle.spv_meaning.specs.Types.{DataType, booleans}
use Rattle.spv_ids.specs.Ids.{defines, is_defined}
use Rattle.spv_typing.specs.Kinds.{is_constant, is_outside, type_of}
use Rattle.spv_declarations.specs.Broken.{rules_at, group_3_from, group_3, depth_fits}
use Rattle.spv_declarations.specs.Declarations.{Declared, nothing_declared, declare, declare_all, declared_before, says, entry}
use Rattle.spv_declarations.specs.Depth.{depth, is_laid_out}
use Rattle.spv_declarations.specs.Sound.{AreInstructions, Unbroken, IsBefore, table_before, IsSoundType, IsSoundConstant, IsSoundShape}
use Rattle.spv_declarations.specs.Laws as laws
use Rattle.spv_declarations.specs.Laws.{IsUnbroken, meanings}
use Rattle.spv_declarations.proofs.Consequences.{sound_constant, sound_length, sound_booleans, fitting_constant, same_words, entry_is, meant, constant_only, type_only}
use Rattle.spv_declarations.proofs.Defining.{entry-gives}
use Rattle.spv_declarations.proofs.FittingWords.{fits_word}
use Rattle.spv_declarations.proofs.Functions.{front_of, before_front}
use Rattle.spv_declarations.proofs.Meanings.{meaning-at}
use Rattle.spv_declarations.proofs.Sites.{site-of, word-is}
use Rattle.spv_declarations.proofs.SoundConstants.{typed-known}
use Rattle.spv_declarations.proofs.SoundShapes.{sound_shape}
use Rattle.spv_declarations.proofs.SoundTypes.{sound_type}
use Rattle.spv_declarations.proofs.Unbroken.{keeps, loud-plain}
use Rattle.spv_declarations.proofs.Whole.{declared-whole, take_all}
use Rattle.spv_declarations.proofs.Words.{AreWordsOf}

-- ---- no rule is broken

no_first : (bs : List Refusal) → first bs ≡ None → bs ≡ []
no_first [] h = refl
no_first (b ∷ bs) h = cc

no_rules : (at : ℕ) (rules : List ℕ) (others : List Refusal) → (here at rules ++ others) ≡ [] → (rules ≡ []) × (others ≡ [])
no_rules at [] others h = (refl, h)
no_rules at (rule ∷ rules) others h = cc

-- induction on the instructions
none-broken : (insts : List Instruction) (d : Declared) (k : ℕ) (is : List Instruction) → group_3_from insts d k is ≡ [] →
    (j : ℕ) (i : Instruction) → slice_get is j ≡ Some i → rules_at insts (declare_all (says insts) d (take j is)) (k + j) i ≡ []
unfolding group_3_from
none-broken insts d k [] h j i at = cc
none-broken insts d k (x ∷ xs) h zero i at =
    let same : x ≡ i = cc in
    let here_none = (no_rules x.offset (rules_at insts d k x) (group_3_from insts (declare (says insts) d x) (k + 1) xs) h).0 in
    let place : k ≡ k + 0 = omega arith in
    subst (λ (n : ℕ). rules_at insts d n i ≡ []) place (subst (λ (y : Instruction). rules_at insts d k y ≡ []) same here_none)
none-broken insts d k (x ∷ xs) h (suc j) i at =
    let others = (no_rules x.offset (rules_at insts d k x) (group_3_from insts (declare (says insts) d x) (k + 1) xs) h).1 in
    let place : k + 1 + j ≡ k + suc j = omega arith in
    subst (λ (n : ℕ). rules_at insts (declare_all (says insts) (declare (says insts) d x) (take j xs)) n i ≡ []) place
    (none-broken insts (declare (says insts) d x) (k + 1) xs others j i at)

pub unbroken : laws.NoneBroken
unbroken insts k h j i before at =
    let place : 0 + j ≡ j = omega arith in
    subst (λ (n : ℕ). rules_at insts (declared_before insts j) n i ≡ []) place
    (none-broken insts nothing_declared 0 insts (no_first (group_3 insts) h) j i at)

-- ---- what is declared in front of the first function

-- induction on the instructions
defined_outside : (insts : List Instruction) (id : ℕ) → is_outside insts id ≡ true → is_defined insts id ≡ true
defined_outside [] id h = cc
defined_outside (i ∷ is) id h = by_first (is_function i) (defines id i) (is_outside is id) (is_defined is id) h (defined_outside is id)
  where
    by_first : (function here outside behind : Bool) → cond function false (cond here true outside) ≡ true → (outside ≡ true → behind ≡ true) →
        (here || behind) ≡ true
    by_first true here outside behind h f = cc
    by_first false true outside behind h f = refl
    by_first false false outside behind h f = f h

-- no function has begun in front of the m-th instruction, and all that the module declares is declared there
record Front (insts : List Instruction) : Type 0 where
  m : ℕ
  clean : Unbroken insts m
  outside : (declared_before insts m).begun ≡ false
  table : table_before insts m ≡ meanings insts
  before : (id : ℕ) → is_outside insts id ≡ true → IsBefore insts m id

front : (insts : List Instruction) → IsUnbroken insts → Front insts
front insts h =
    let f = front_of insts (length insts) in
    record {
      m = f.m;
      clean = unbroken insts f.m h.unrefused;
      outside = f.outside;
      table = sym f.same ∙ declared-whole insts;
      before = λ id o.
          before_front insts (length insts) id f (ap (λ (is : List Instruction). is_defined is id) (take_all insts) ∙ defined_outside insts id o) o;
    }

-- a meaning, in front of the first function
meant_in : (insts : List Instruction) (f : Front insts) (id : ℕ) (m : Meaning) → meaning (meanings insts) id ≡ Some m →
    meaning (table_before insts f.m) id ≡ Some m
meant_in insts f id m h = ap (λ (table : Table). meaning table id) f.table ∙ h

-- ---- types

pub types_stand : laws.TypesStand
types_stand insts t h o =
    let f = front insts h in
    subst (λ (table : Table). IsSoundType insts table t) f.table (sound_type insts h.whole f.m t f.clean f.outside (f.before t o))

pub only_types_stand : laws.OnlyTypesStand
only_types_stand insts id t h is =
    let f = front insts h in
    type_only insts h.whole f.m id t f.clean f.outside (meant_in insts f id (IsType t) is)

pub types_nest : laws.TypesNest
types_nest insts id t h is =
    let f = front insts h in
    let stands = meant_in insts f id (IsType t) is in
    let m = meant insts h.whole f.m id (IsType t) f.clean f.outside stands in
    let table = table_before insts m.d.place in
    let e =
    entry_is (entry (says insts) table m.d.inst) (IsType t) (sym (meaning-at insts h.whole f.m id f.clean m.d m.outside) ∙ stands) in
    let given = entry-gives (says insts) table m.d.inst e.0 (IsType t) (h.whole m.d.place m.d.inst m.d.at) e.1 in
    let kept =
    keeps insts (declared_before insts m.d.place) m.d.place m.d.inst (loud-plain m.d.inst given.loud) (f.clean m.d.place m.d.inst m.d.before m.d.at) in
    let found : cond (declared_before insts m.d.place).begun None (entry (says insts) table m.d.inst) ≡ Some (e.0, IsType t) = rw m.outside e.1 in
    leb-true (depth t) 255 (subst (λ (o : Option (ℕ × Meaning)). depth_fits o ≡ true) found kept.depths)

pub shapes_stand : laws.ShapesStand
shapes_stand insts t s h o is =
    let f = front insts h in
    subst (λ (table : Table). IsSoundShape insts table t s) f.table (sound_shape insts h.whole f.m t f.clean f.outside (f.before t o) s is)

-- ---- variables

laid_by : (begun variable laid out : Bool) → begun ≡ false → variable ≡ true → laid ≡ true → (begun || not variable || not laid || out) ≡ true →
    out ≡ true
laid_by true variable laid out b v l h = cc
laid_by false false laid out b v l h = cc
laid_by false true false out b v l h = cc
laid_by false true true out b v l h = h

pub variables_laid : laws.VariablesLaid
unfolding row_of
variables_laid insts id h o is_variable laid =
    let f = front insts h in
    let s = site-of insts h.whole f.m id op.VARIABLE f.clean f.outside (f.before id o) is_variable refl in
    let i = s.d.inst in
    let table = table_before insts s.d.place in
    let own : is_laid_out (pointer_at table (slice_index i.words 1)).1 ≡ true =
    laid_by (declared_before insts s.d.place).begun (opcode i == op.VARIABLE) (is_laid (slice_index i.words 3))
    (is_laid_out (pointer_at table (slice_index i.words 1)).1) s.outside (ap (λ (n : ℕ). n == op.VARIABLE) s.is_o)
    (ap is_laid (word-is insts f.m id 3 s.d) ∙ laid) s.kept.layouts in
    let typed = s.same (slice_index i.words 1) (typed-known insts f.m id op.VARIABLE s refl) in
    sym
    (ap (λ (m : Option Meaning). is_laid_out (pointer_in m).1) (typed ∙ ap (λ (t : Table). meaning t (slice_index i.words 1)) f.table)
    ∙ ap (λ (x : ℕ). is_laid_out (pointer_at (meanings insts) x).1) (word-is insts f.m id 1 s.d))
    ∙ own

-- ---- constants

pub constants_stand : laws.ConstantsStand
constants_stand insts id h o c =
    let f = front insts h in
    subst (λ (table : Table). IsSoundConstant insts table id) f.table (sound_constant insts h.whole f.m id f.clean f.outside (f.before id o) c)

pub only_constants_stand : laws.OnlyConstantsStand
only_constants_stand insts id t words h is =
    let f = front insts h in
    constant_only insts h.whole f.m id t words f.clean f.outside (meant_in insts f id (IsConstant t words) is)

pub integers_have_one_word : laws.IntegersHaveOneWord
integers_have_one_word insts id h o c int =
    let f = front insts h in
    let one = sound_length insts h.whole f.m id f.clean f.outside (f.before id o) c int in
    (one.0, ap (λ (table : Table). meaning table id) (sym f.table) ∙ one.1)

-- a constant in front of the first function
constant_before : (insts : List Instruction) → AreInstructions insts → (f : Front insts) (id : ℕ) (t : DataType) (words : List ℕ) →
    meaning (table_before insts f.m) id ≡ Some (IsConstant t words) → IsBefore insts f.m id × (is_constant insts id ≡ true)
constant_before insts whole f id t words stands = (
  (meant insts whole f.m id (IsConstant t words) f.clean f.outside stands).before,
  constant_only insts whole f.m id t words f.clean f.outside stands,
)

pub booleans_are_bits : laws.BooleansAreBits
booleans_are_bits insts id s t words h is b stands =
    let f = front insts h in
    let here = meant_in insts f id (IsConstant t words) stands in
    let known = constant_before insts h.whole f id t words here in
    sound_booleans insts h.whole f.m id f.clean f.outside known.0 known.1 s is b t words here

-- 0 and 1 are below 2 ^ 32; induction on the words
all_fit : (bs : List Bool) (words : List ℕ) → AreWordsOf fits_word bs words → All (λ w. w < 2 ^ 32) words
all_fit [] [] h = All-nil fits_word
all_fit [] (w ∷ ws) h = absurd h
all_fit (b ∷ bs) [] h = absurd h
all_fit (true ∷ bs) (w ∷ ws) h = All-cons fits_word w ws (omega (arith, h.0)) (all_fit bs ws h.1)
all_fit (false ∷ bs) (w ∷ ws) h = All-cons fits_word w ws h.0 (all_fit bs ws h.1)

pub constants_fit : laws.ConstantsFit
constants_fit insts id t words h fit stands =
    let f = front insts h in
    let here = meant_in insts f id (IsConstant t words) stands in
    let known = constant_before insts h.whole f id t words here in
    let held = fitting_constant insts h.whole fit f.m id f.clean f.outside known.0 known.1 in
    let own = type_at (table_before insts f.m) (type_of insts id) in
    subst (λ (ws : List ℕ). All (λ w. w < 2 ^ 32) ws)
    (same_words (meaning (table_before insts f.m) id) own t held.words words held.stands here)
    (all_fit (booleans own) held.words held.suit)
