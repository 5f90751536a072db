-- A module that is built, in whose functions uses are replaced by other values of their types that are available there, is built again: its lines are
-- rewritten.
use Rattle.std.proofs.Common.{◌≡◌, ◌⊎◌, inl, inr, ℕ, suc, ◌+◌, Bool, true, false, cond, not, ◌==◌, ◌&&◌, ◌||◌, List, [], ◌∷◌, ◌++◌, take, Option, Some, None, refl, sym, ap, ap₂, subst, ◌∙◌, arith, eq-eqb}
use Rattle.std.specs.List.{AllByRecursion, flat_map, list_any}
use Rattle.std.proofs.lemmas.Bool.{or_parts}
use Rattle.spv_opcodes.specs.declared.op.TheConstants as op
use Rattle.spv_module.specs.Code.{is_function, is_line}
use Rattle.spv_module.specs.Instruction.{Instruction, IsInstruction, roles}
use Rattle.spv_module.specs.Layout.{is_entry_point}
use Rattle.spv_ids.specs.Ids.{defines, definition, is_declaration, is_defined, is_unknown, used_ids}
use Rattle.spv_declarations.specs.Declarations.{declared_before}
use Rattle.spv_declarations.specs.Laws.{IsUnbroken}
use Rattle.spv_declarations.proofs.Modules.{unbroken}
use Rattle.spv_declarations.proofs.Unbroken.{keeps}
use Rattle.spv_alike_uses.specs.Alike.{AreAlikeBut}
use Rattle.spv_thinned.proofs.Walk.{each_at}
use Rattle.spv_bodies.specs.Bodies.{Function}
use Rattle.spv_bodies.specs.Listing.{listed}
use Rattle.spv_tree.specs.Sound.{opcode_in}
use Rattle.spv_tree.specs.Tree.{words_of}
use Rattle.spv_functions.specs.Functions.{defines_pointer, is_pointer}
use Rattle.spv_norm.specs.Norm.{outside}
use Rattle.spv_spelling.specs.Whole.{AreInstructions}
use Rattle.spv_editing.specs.Showing.{AStep, AUse, Shown, shown}
use Rattle.spv_fine.specs.Fine.{Ids, defined_in, results, used_in}
use Rattle.spv_fine.specs.Laws.{IsKnown}
use Rattle.spv_fine_edits.specs.Giving.{fronts_of, there}
use Rattle.spv_fine_edits.specs.Laws.{BecomesLine, ComesFrom, PutForOne, Puts, PutsIn, Replacing}
use Rattle.spv_fine_edits.proofs.Lists.{each_by}
use Rattle.spv_availability.specs.Places.{function_of}
use Rattle.spv_rewritten.specs.Rewritten.{EachAs, EntriesStay, IsRewritten, IsRewrittenAs}
use Rattle.spv_rewritten.proofs.Alike.{rewritten_is_alike}
use Rattle.spv_rewritten.proofs.Common.{same_defines, same_function, same_opcode}
use Rattle.spv_rewritten.proofs.Interfaces.{interfaces_stay}
use Rattle.spv_rewritten.proofs.Lookups.{Found, same_definition, same_place}
use Rattle.spv_rewritten.proofs.Pairs.{at_place, each_also, each_take, same_any, same_count}
use Rattle.spv_built.specs.Built.{AreBuilt, FunctionIsBuilt}
use Rattle.spv_built_edits.specs.Edits.{AreEdited}
use Rattle.spv_built_edits.specs.Replaced.{AreReplaced, AreReplacedFunctions}
use Rattle.spv_built_edits.specs.ReplacedLaws.{InterfacesWhereReplaced, ReplacedAreInstructions, ReplacedIsBuilt, ReplacedIsRewritten}
use Rattle.spv_built_edits.proofs.Built.{built_where_replaced}
use Rattle.spv_built_edits.proofs.Values.{fits_where_values_stand}
use Rattle.spv_built_edits.proofs.ReplacedBounds.{becomes_whole}
use Rattle.spv_built_edits.proofs.ReplacedChanges.{entry_stays, is_rewritten}
use Rattle.spv_built_edits.proofs.ReplacedLines.{Becomes, Each, all_themselves, each_both, function_becomes}
use Rattle.spv_built_edits.proofs.RewrittenWhole.{rewritten_is_built}

-- ---- the lines before

-- what is known of a line
record Fact (before : List Instruction) (i : Instruction) : Type 0 where
  whole : IsInstruction i.words (roles i)
  known : is_line i ≡ false → AllByRecursion (λ id. is_defined before id ≡ true) (used_ids i)

not_false : (b : Bool) → not b ≡ false → b ≡ true
not_false true e = refl
not_false false e = sym e

all_defined : (insts : List Instruction) (early : Bool) (k : ℕ) (ids : List ℕ) → list_any (is_unknown insts early k) ids ≡ false
    → AllByRecursion (λ id. is_defined insts id ≡ true) ids
all_defined insts early k [] h = tt
all_defined insts early k (id ∷ ids) h =
    let parts = or_parts (is_unknown insts early k id) (list_any (is_unknown insts early k) ids) h in
    (not_false (is_defined insts id) (or_parts (not (is_defined insts id)) _ parts.0).0, all_defined insts early k ids parts.1)

facts : (before : List Instruction) → IsUnbroken before → AllByRecursion (Fact before) before
facts before h =
    each_at (Fact before) before (λ k i at. record {
      whole = h.whole k i at;
      known = λ plain.
          let d = declared_before before k in
          all_defined before (is_declaration d.begun i) k (used_ids i)
          (keeps before d k i plain (unbroken before (suc k) h.unrefused k i (omega arith) at)).known;
    })

-- ---- line by line

abbrev Pair : List Instruction → Instruction → Instruction → Type 0
Pair before i j = Fact before i × Becomes before i.words j.words

in_pairs : (before is js : List Instruction) → AllByRecursion (Fact before) is → Each before (words_of is) (words_of js) → EachAs (Pair before) is js
in_pairs before [] [] f h = tt
in_pairs before [] (j ∷ js) f h = absurd h
in_pairs before (i ∷ is) [] f h = absurd h
in_pairs before (i ∷ is) (j ∷ js) f h = ((f.0, h.0), in_pairs before is js f.1 h.1)

functions_become : (before : List Instruction) (fs gs : List Function) → AllByRecursion (FunctionIsBuilt before) fs → AreReplacedFunctions before fs gs
    → Each before (flat_map listed fs) (flat_map listed gs)
functions_become before [] [] b h = tt
functions_become before [] (g ∷ gs) b h = absurd h
functions_become before (f ∷ fs) [] b h = absurd h
functions_become before (f ∷ fs) (g ∷ gs) b h =
    each_both before (listed f) (listed g) (flat_map listed fs) (flat_map listed gs)
    (subst (λ g. Each before (listed f) (listed g)) (sym h.0.same) (function_becomes before h.0.replacing.edit f b.0.sound b.0.typed h.0.values))
    (functions_become before fs gs b.1 h.1)

are_edited : (before : List Instruction) (fs gs : List Function) → AreReplacedFunctions before fs gs → AreEdited fs gs
are_edited before [] [] h = tt
are_edited before [] (g ∷ gs) h = absurd h
are_edited before (f ∷ fs) [] h = absurd h
are_edited before (f ∷ fs) (g ∷ gs) h = ((h.0.replacing.edit, h.0.keeps, h.0.same), are_edited before fs gs h.1)

-- ---- what stands outside functions

abbrev BeginsFunction : List (List ℕ) → Type 0
BeginsFunction [] = Unit {0}
BeginsFunction (words ∷ lines) = (opcode_in words == op.FUNCTION) ≡ true

pub outside_is_plain : (is : List Instruction) → AllByRecursion (λ i. is_function i ≡ false) (outside is)
outside_is_plain [] = tt
outside_is_plain (i ∷ is) = by (is_function i) refl (outside_is_plain is)
  where
    by : (b : Bool) → is_function i ≡ b → AllByRecursion (λ i. is_function i ≡ false) (outside is)
        → AllByRecursion (λ i. is_function i ≡ false) (cond b [] (i ∷ outside is))
    by true e more = tt
    by false e more = (e, more)

-- induction on the instructions
outside_in_front : (front is : List Instruction) (lines : List (List ℕ)) → AllByRecursion (λ i. is_function i ≡ false) front → BeginsFunction lines
    → words_of is ≡ words_of front ++ lines → words_of (outside is) ≡ words_of front
outside_in_front [] [] lines plain begins e = refl
outside_in_front [] (i ∷ is) [] plain begins e = absurd (cc e)
outside_in_front [] (i ∷ is) (words ∷ lines) plain begins e =
    let same : i.words ≡ words = cc e in
    ap (λ (b : Bool). words_of (cond b [] (i ∷ outside is))) (ap (λ (ws : List ℕ). opcode_in ws == op.FUNCTION) same ∙ begins)
outside_in_front (o ∷ front) [] lines plain begins e = absurd (cc e)
outside_in_front (o ∷ front) (i ∷ is) lines plain begins e =
    let same : i.words ≡ o.words = cc e in
    ap (λ (b : Bool). words_of (cond b [] (i ∷ outside is))) (ap (λ (ws : List ℕ). opcode_in ws == op.FUNCTION) same ∙ plain.0)
    ∙ ap₂ (λ (ws : List ℕ) (more : List (List ℕ)). ws ∷ more) same (outside_in_front front is lines plain.1 begins (cc e))

listings_begin : (insts : List Instruction) (gs : List Function) → AllByRecursion (FunctionIsBuilt insts) gs → BeginsFunction (flat_map listed gs)
listings_begin insts [] h = tt
listings_begin insts (g ∷ gs) h = eq-eqb (opcode_in g.function) op.FUNCTION h.0.opens.function

-- ---- what is put, where more is known

module _ (r : Replacing) (A B : Ids) (more : (id : ℕ) → A id → B id) where
  comes_from : (ids : List ℕ) (x : ℕ) → ComesFrom r A ids x → ComesFrom r B ids x
  comes_from ids x h = elim h [
    | inl e ↦ inl e
    | inr g ↦ inr (elim g [ inl k ↦ inl (more (r.edit.uses x) k) | inr p ↦ inr p ])
  ]

  becomes_line : (words : List ℕ) → BecomesLine r A words → BecomesLine r B words
  becomes_line words b = record {
    line = b.line;
    is = b.is;
    defines = b.defines;
    uses = each_by (λ y. A y ⊎ PutForOne r (there r.wants words) y) (λ y. B y ⊎ PutForOne r (there r.wants words) y)
        (λ y h. elim h [ inl k ↦ inl (more y k) | inr p ↦ inr p ]) (used_in b.line) b.uses;
  }

  puts_too : (s : Shown) → Puts r A s → Puts r B s
  puts_too (AStep words) h = (
    elim h.0 [ inl b ↦ inl (becomes_line words b) | inr d ↦ inr (record { is = d.is; gone = d.gone }) ],
    each_by (ComesFrom r A (there r.wants words)) (ComesFrom r B (there r.wants words)) (comes_from (there r.wants words)) (defined_in words) h.1,
  )
  puts_too (AUse id) h = elim h [ inl k ↦ inl (more (r.edit.uses id) k) | inr g ↦ inr g ]

  puts_where_more_is_known : (Known : Ids) (f : Function) → PutsIn r A Known f → PutsIn r B Known f
  puts_where_more_is_known Known f h = record {
    known = λ y p. more y (h.known y p);
    begins = (
      each_by A B more (used_in f.function) h.begins.0,
      each_by (λ words. AllByRecursion A (used_in words)) (λ words. AllByRecursion B (used_in words)) (λ words k. each_by A B more (used_in words) k)
          f.parameters h.begins.1,
    );
    parameters = each_by (ComesFrom r A []) (ComesFrom r B []) (comes_from []) (flat_map defined_in f.parameters) h.parameters;
    fronts =
        each_by (λ front. AllByRecursion (ComesFrom r A (flat_map r.wants (results front))) (results front))
        (λ front. AllByRecursion (ComesFrom r B (flat_map r.wants (results front))) (results front))
        (λ front k. each_by (ComesFrom r A (flat_map r.wants (results front))) (ComesFrom r B (flat_map r.wants (results front)))
        (comes_from (flat_map r.wants (results front))) (results front) k) (fronts_of f.body) h.fronts;
    body = each_by (Puts r A) (Puts r B) puts_too (shown f.body) h.body;
  }

module _ (before after : List Instruction) (fs gs : List Function) (formed : AreInstructions before) (b : AreBuilt before fs)
    (r : AreReplaced before after fs gs) where
  is_unbroken : IsUnbroken before
  is_unbroken = record { whole = formed; unrefused = b.declared }

  pairs : EachAs (Pair before) before after
  pairs =
      in_pairs before before after (facts before is_unbroken)
      (subst (λ (olds : List (List ℕ)). Each before olds (words_of after)) (sym b.lines)
      (subst (λ (news : List (List ℕ)). Each before (words_of (outside before) ++ flat_map listed fs) news) (sym r.lines)
      (each_both before (words_of (outside before)) (words_of (outside before)) (flat_map listed fs) (flat_map listed gs)
      (all_themselves before (words_of (outside before))) (functions_become before fs gs b.functions r.functions))))

  rewritten : IsRewritten before after
  rewritten =
      each_also (Pair before) (IsRewrittenAs before) (λ i j p. is_rewritten before i j p.0.whole p.0.known p.1) before after pairs

  entries_stay : EntriesStay before after
  entries_stay =
      each_also (Pair before) (λ i j. is_entry_point i ≡ true → j.words ≡ i.words) (λ i j p. entry_stays before i j p.0.whole p.1) before after pairs

  are_instructions : AreInstructions after
  are_instructions k j at =
      let s = at_place (Pair before) before after pairs k j at in
      becomes_whole before (each_at (λ i. IsInstruction i.words (roles i)) before formed) s.inst j s.pair.0.whole s.pair.1

  -- ---- ids

  same_pointers : (id : ℕ) → is_pointer after id ≡ is_pointer before id
  same_pointers id =
      same_any (IsRewrittenAs before) (defines_pointer id) (defines_pointer id)
      (λ i j p. ap₂ (λ (o : ℕ) (d : Bool). o == op.TYPE_POINTER && d) (same_opcode before i j p) (same_defines before i j p id)) before after rewritten

  same_function_of : (k : ℕ) → function_of after k ≡ function_of before k
  same_function_of k =
      same_count (IsRewrittenAs before) is_function is_function (same_function before) (take (k + 1) before) (take (k + 1) after)
      (each_take (IsRewrittenAs before) (k + 1) before after rewritten)

  abbrev Defining : (id : ℕ) → Instruction → Instruction → Type 0
  Defining id i j = IsRewrittenAs before i j × (defines id i ≡ true)

  still_known : (id : ℕ) → IsKnown before id → IsKnown after id
  still_known id k =
      by (definition after id) refl
      (subst (λ (o : Option Instruction). Found (Defining id) o (definition after id)) k.is
      (same_definition before (IsRewrittenAs before) (λ i j p. p) before after rewritten id))
    where
      by : (o : Option Instruction) → definition after id ≡ o → Found (Defining id) (Some k.inst) o → IsKnown after id
      by None e h = absurd h
      by (Some j) e h = record {
        at = k.at;
        inst = j;
        is_at = same_place before before after rewritten id ∙ k.is_at;
        is = e;
        everywhere = elim k.everywhere [
          | inl z ↦ inl (same_function_of k.at ∙ z)
          | inr z ↦ inr (ap (λ (o : ℕ). o == op.FUNCTION || o == op.LABEL) (same_opcode before k.inst j h.0) ∙ z)
        ];
      }

  -- ---- functions

  alike : AreAlikeBut (λ id. false) before after
  alike = rewritten_is_alike before after is_unbroken rewritten

  are_built : (fs gs : List Function) → AllByRecursion (FunctionIsBuilt before) fs → AreReplacedFunctions before fs gs
      → AllByRecursion (FunctionIsBuilt after) gs
  are_built [] [] old h = tt
  are_built [] (g ∷ gs) old h = absurd h
  are_built (f ∷ fs) [] old h = absurd h
  are_built (f ∷ fs) (g ∷ gs) old h =
      let p = h.0 in (
        subst (FunctionIsBuilt after) (sym p.same)
            (built_where_replaced before after p.replacing p.moved f
            (fits_where_values_stand before after p.replacing.edit f is_unbroken alike same_pointers p.keeps p.values) p.only
            (puts_where_more_is_known p.replacing (IsKnown before) (IsKnown after) still_known (IsKnown before) f p.puts) p.offers old.0),
        are_built fs gs old.1 h.1,
      )

  pub functions_built : AllByRecursion (FunctionIsBuilt after) gs
  functions_built = are_built fs gs b.functions r.functions

  lines_after : words_of after ≡ words_of (outside after) ++ flat_map listed gs
  lines_after =
      r.lines
      ∙ ap (λ (ls : List (List ℕ)). ls ++ flat_map listed gs)
      (sym (outside_in_front (outside before) after (flat_map listed gs) (outside_is_plain before) (listings_begin after gs functions_built) r.lines))

pub replaced_is_rewritten : ReplacedIsRewritten
replaced_is_rewritten before after fs gs formed b r = rewritten before after fs gs formed b r

pub replaced_are_instructions : ReplacedAreInstructions
replaced_are_instructions before after fs gs formed b r = are_instructions before after fs gs formed b r

pub replaced_is_built : ReplacedIsBuilt
replaced_is_built before after fs gs formed b r fit =
    rewritten_is_built before after fs gs formed (are_instructions before after fs gs formed b r) b (rewritten before after fs gs formed b r)
    (lines_after before after fs gs formed b r)
    (are_edited before fs gs r.functions) fit (functions_built before after fs gs formed b r)

pub interfaces_where_replaced : InterfacesWhereReplaced
interfaces_where_replaced before after fs gs formed b r names =
    interfaces_stay before after (rewritten before after fs gs formed b r) (entries_stay before after fs gs formed b r) names
    (λ k i at. (b.entered k i at).interface)
