-- The rules find nothing in a small module.
use Rattle.std.proofs.Common.{◌≡◌, ℕ, zero, suc, ◌+◌, ◌<◌, ◌≤◌, ◌⊎◌, inl, inr, Bool, true, false, cond, not, ◌&&◌, List, [], ◌∷◌, ◌++◌, length}
use Rattle.std.proofs.Common.{Option, Some, None, refl, sym, ap, subst, arith, lit<}
use Rattle.std.specs.Prelude.{slice_get}
use Rattle.std.specs.List.{AllByRecursion, Contains, slice_index_or}
use Rattle.std.specs.Str.{chars, is_utf8}
use Rattle.std.proofs.lemmas.List.Elements.{All-nil, All-cons, Contains-append_cases}
use Rattle.graph.proofs.Elements.{contains_none}
use Rattle.spv_opcodes.specs.declared.op.TheConstants as op
use Rattle.spv_grammar.specs.Operands.{roles_of}
use Rattle.spv_grammar.specs.Table.{row_of}
use Rattle.spv_words.specs.Words.{bytes_of_words}
use Rattle.spv_module.specs.First.{first}
use Rattle.spv_module.specs.Instruction.{Instruction, IsInstruction, opcode, roles, instruction_rules}
use Rattle.spv_module.specs.Layout.{group_2, layout_from}
use Rattle.spv_typing.specs.Operations.{spec_op_fits}
use Rattle.spv_typing.specs.Types.{type_fits}
use Rattle.spv_decorations.specs.Globals.{global_fits}
use Rattle.spv_decorations.specs.Targets.{decoration_fits}
use Rattle.spv_declarations.specs.Broken.{group_3, group_3_from, rules_at}
use Rattle.spv_arithmetic.specs.Broken.{arithmetic_rules}
use Rattle.spv_arithmetic.specs.Operands as arithmetic
use Rattle.spv_arithmetic.specs.Results as arithmetic_results
use Rattle.spv_composites.specs.Broken.{composite_rules}
use Rattle.spv_composites.specs.Composites.{composite_operands_fit, composite_result_fits}
use Rattle.spv_composites.specs.Memory.{atomic_operands_fit, atomic_result_fits, memory_operands_fit, memory_result_fits}
use Rattle.spv_composites.specs.Vectors.{vector_operands_fit, vector_result_fits}
use Rattle.spv_usage.specs.Broken.{usage_rules}
use Rattle.spv_usage.specs.Orderings.{ordering_fits}
use Rattle.spv_usage.specs.Storage.{storage_fits}
use Rattle.spv_signatures.specs.Broken.{signature_rules}
use Rattle.spv_signatures.specs.Calls.{call_fits}
use Rattle.spv_signatures.specs.Contexts as contexts
use Rattle.spv_signatures.specs.Functions as signatures
use Rattle.spv_body_rules.specs.Broken.{body_rules, is_of_functions}
use Rattle.spv_entries.specs.Bindings.{binding_fits}
use Rattle.spv_entries.specs.Broken.{entry_rules}
use Rattle.spv_entries.specs.Functions as entries
use Rattle.spv_entries.specs.Names.{name_fits}
use Rattle.spv_entries.specs.Sizes.{size_fits}
use Rattle.spv_blocks.specs.Blocks.{ASelection, ASwitch, ALoop, Code, Construct, branches, construct, is_label, is_some_block, next_of, stops}
use Rattle.spv_blocks.specs.Cutting.{blocks_of, function_insts}
use Rattle.spv_walk.specs.Contexts.{Context, behind, is_exit, is_fall}
use Rattle.spv_walk.specs.Numbering.{HasOwnLabels}
use Rattle.spv_walk.specs.Walk.{Enters, Walk, Starts, end_of, leads, tries}
use Rattle.spv_walk.proofs.Entering.{label_among, no_loop, one_of, passes}
use Rattle.spv_walk.proofs.Finding.{Going, Nothing, Place, Places, quiet, seen, unbroken}
use Rattle.spv_walk.proofs.Unique.{both_left, both_right, equal_true}
use Rattle.spv_walking.specs.Depths.{IsDepth}
use Rattle.spv_normal.specs.Facts.{written, opening, ending}
use Rattle.spv_normal.specs.Lines.{without_marks}
use Rattle.spv_normal.specs.Order.{joins}
use Rattle.spv_spelling.specs.Clean.{IsClean, no_pointers}
use Rattle.spv_spelling.specs.Spelling as spells
use Rattle.spv_spelling.specs.Spelling.{SpellsFunction}
use Rattle.spv_spelling.specs.Whole.{AreInstructions, AreShort, IsAdmitted, IsText, is_in_block}
use Rattle.spv_tree.specs.declared.body.Body.{Body}
use Rattle.spv_tree.specs.Tree.{body_of}
use Rattle.spv_availability.specs.Places.{place_at}
use Rattle.spv_availability.specs.Availability.{IsAvailable, IsUnavailable, Outside, Use, id_use, uses}
use Rattle.spv_functions.specs.Functions.{IsTree, is_pointer}
use Rattle.spv_functions.proofs.Answering.{parsed_is_tree}
use Rattle.spv_admitted.specs.Facts.{small, small_tree, returning, SmallFindsNothing}

abbrev insts : List Instruction
insts = small.insts

-- ---- by places

abbrev AllAt : (P : ℕ → Instruction → Type 0) → (n : ℕ) → List Instruction → Type 0
AllAt P n [] = Unit {0}
AllAt P n (i ∷ is) = P n i × AllAt P (suc n) is

each_from : (P : ℕ → Instruction → Type 0) (n : ℕ) (is : List Instruction) → AllAt P n is → (k : ℕ) (i : Instruction) → slice_get is k ≡ Some i
    → P (n + k) i
each_from P n [] h k i e = absurd (cc e)
each_from P n (x ∷ is) h zero i e = let same : x ≡ i = cc e in subst (λ m. P m i) (at_once n) (subst (P n) same h.0) where
  at_once : (m : ℕ) → m ≡ m + 0
  at_once m = omega arith
each_from P n (x ∷ is) h (suc k) i e = subst (λ m. P m i) (one_later n k) (each_from P (suc n) is h.1 k i e) where
  one_later : (m j : ℕ) → suc m + j ≡ m + suc j
  one_later m j = omega arith

each_at : (P : ℕ → Instruction → Type 0) (is : List Instruction) → AllAt P 0 is → (k : ℕ) (i : Instruction) → slice_get is k ≡ Some i → P k i
each_at P is h k i e = subst (λ m. P m i) (none_more k) (each_from P 0 is h k i e) where
  none_more : (m : ℕ) → 0 + m ≡ m
  none_more m = omega arith

-- ---- its instructions, layout and declarations

each : AreInstructions insts
unfolding row_of roles_of instruction_rules bytes_of_words is_utf8 chars lib.Utf8.encode
each = each_at (λ n i. IsInstruction i.words (roles i)) insts (
  record { some = lit< tt; counted = refl; parted = refl; long = refl; unbroken = refl },
  (
    record { some = lit< tt; counted = refl; parted = refl; long = refl; unbroken = refl },
    (
      record { some = lit< tt; counted = refl; parted = refl; long = refl; unbroken = refl },
      (
        record { some = lit< tt; counted = refl; parted = refl; long = refl; unbroken = refl },
        (
          record { some = lit< tt; counted = refl; parted = refl; long = refl; unbroken = refl },
          (
            record { some = lit< tt; counted = refl; parted = refl; long = refl; unbroken = refl },
            (
              record { some = lit< tt; counted = refl; parted = refl; long = refl; unbroken = refl },
              (
                record { some = lit< tt; counted = refl; parted = refl; long = refl; unbroken = refl },
                (
                  record { some = lit< tt; counted = refl; parted = refl; long = refl; unbroken = refl },
                  (record { some = lit< tt; counted = refl; parted = refl; long = refl; unbroken = refl }, tt),
                ),
              ),
            ),
          ),
        ),
      ),
    ),
  ),
)

laid_out : first (group_2 100 insts) ≡ None
unfolding row_of layout_from
laid_out = refl

declared : first (group_3 insts) ≡ None
unfolding row_of roles_of bytes_of_words is_utf8 chars lib.Utf8.encode group_3_from rules_at type_fits spec_op_fits decoration_fits global_fits
declared = refl

-- ---- its function: one block, which returns

abbrev lines : List Instruction
lines = without_marks (written returning)

abbrev f : Code
f = blocks_of lines

data Seen : ℕ → Context → Type 0 where
  First : Seen 4 []

tried_branch : (f : Code) (l t : ℕ) (c : Context) → tries f l c t ≡ true → branches f l t ≡ true
tried_branch f l t c e =
    let out : Bool = is_exit (behind (construct f l) l t c) (end_of f l) t in
    both_right (not (stops f l)) (branches f l t)
    (both_left (not (stops f l) && branches f l t) (not out) (both_left (leads f l c t) (not (is_fall f c t)) e))

no_next : (k : Option Construct) (n : ℕ) → no_loop k ≡ true → next_of k ≡ Some n → ⊥
no_next None n h e = cc e
no_next (Some (ASelection m)) n h e = cc e
no_next (Some (ASwitch m)) n h e = cc e
no_next (Some (ALoop m c)) n h e = cc h

module _ (pointer : ℕ → Bool) where
  place : (l : ℕ) (c : Context) → Seen l c → Place pointer f Seen Nothing l c
  place l c First = quiet pointer f Seen Nothing 4 [] refl tt tt tt

  places : Places pointer f Seen Nothing
  places = record { starts = λ l e. subst (λ z. Seen z []) (equal_true 4 l e) First; at = λ l c s. Going (place l c s) }

  walked : (l : ℕ) → is_label f l ≡ true → (c : Context) × Walk f l c
  walked l e = one_of (λ l. (c : Context) × Walk f l c) (4 ∷ []) (([], Starts 4 refl), tt) l (label_among f l e)

  enters_none : (l t : ℕ) (c : Context) → Seen l c → tries f l c t ≡ true → Enters f l t
  enters_none l t c First e = let no = tried_branch f 4 t [] e in cc

  clean : IsClean pointer f
  clean = record {
    unbroken = unbroken pointer f Seen places refl walked;
    walked = λ l b e. walked l (ap is_some_block e);
    entered = λ l t c w e runs. enters_none l t c (seen pointer f Seen Nothing places w) e;
    turned = λ l n c w e. absurd (no_next (construct f l) n (passes no_loop refl f refl l) e);
  }

  no_depth : (l : ℕ) (c : Context) → Seen l c → length (behind (construct f l) l l c) ≡ 0
  no_depth l c First = refl

  none_deep : (m n : ℕ) → n ≡ 0 → n ≡ m → m ≤ 0
  none_deep m n e h = omega (arith, e, h)

  is_flat : IsDepth f (Walk f) 0
  is_flat = record {
    bound = λ m h. none_deep m (length (behind (construct f h.label) h.label h.label h.context))
        (no_depth h.label h.context (seen pointer f Seen Nothing places h.stands)) h.depth;
    reached = inl refl;
  }

each_line : (P : Instruction → Type 0) → AllAt (λ n i. P i) 0 lines → (k : ℕ) (i : Instruction) → slice_get lines k ≡ Some i → P i
each_line P h = each_at (λ n i. P i) lines h

are_instructions : AreInstructions lines
unfolding row_of roles_of instruction_rules
are_instructions = each_line (λ i. IsInstruction i.words (roles i)) (
  record { some = lit< tt; counted = refl; parted = refl; long = refl; unbroken = refl },
  (
    record { some = lit< tt; counted = refl; parted = refl; long = refl; unbroken = refl },
    (
      record { some = lit< tt; counted = refl; parted = refl; long = refl; unbroken = refl },
      (record { some = lit< tt; counted = refl; parted = refl; long = refl; unbroken = refl }, tt),
    ),
  ),
)

short : AreShort lines
short = each_line (λ i. length i.words ≤ 65535) (omega arith, (omega arith, (omega arith, (omega arith, tt))))

text_of : IsText lines
unfolding row_of
text_of = record {
  function = record { offset = 0; words = opening };
  parameters = [];
  label = record { offset = 0; words = 0x0002_00F8 ∷ 4 ∷ [] };
  blocks = (record { offset = 0; words = 0x0001_00FD ∷ [] }) ∷ [];
  last = record { offset = 0; words = ending };
  same = refl;
  begins = refl;
  takes = All-nil (λ i. opcode i ≡ op.FUNCTION_PARAMETER);
  first = refl;
  inside = All-cons (λ i. is_in_block i ≡ true) (record { offset = 0; words = 0x0001_00FD ∷ [] }) [] refl (All-nil (λ i. is_in_block i ≡ true));
  ends = refl;
}

own_labels : HasOwnLabels f
own_labels zero zero a b e g same = refl
own_labels (suc j) k a b e g same = absurd (cc e)
own_labels zero (suc k) a b e g same = absurd (cc g)

admitted : IsAdmitted lines
admitted = record { text = text_of; each = are_instructions; short = short; own = own_labels; clean = clean no_pointers }

none_joined : (l t : ℕ) → is_label f l ≡ true → joins f l t ≡ true → t ≡ l
none_joined l t e = one_of (λ l. joins f l t ≡ true → t ≡ l) (4 ∷ []) ((λ h. absurd (cc h)), tt) l (label_among f l e)

spelled : SpellsFunction lines (λ l. l) small_tree
spelled = record {
  staying = record { joined = none_joined; own = λ t h. refl };
  front = refl;
  label = refl;
  body = spells.finishes {words = 0x0001_00FD ∷ []} refl;
}

is_tree : (body : Body) → body_of body ≡ small_tree → IsTree (is_pointer insts) (function_insts 0 insts) body
is_tree body same =
    parsed_is_tree (is_pointer insts) (function_insts 0 insts) body (record {
      depth = 0;
      nested = record { unbroken = (clean (is_pointer insts)).unbroken; greatest = is_flat (is_pointer insts) };
      within = omega arith;
      clean = clean (is_pointer insts);
      spelled = record { admitted = admitted; stays = λ l. l; spells = subst (SpellsFunction lines (λ l. l)) (sym same) spelled };
    })

each_is_tree : (body : Body) → body_of body ≡ small_tree → (k : ℕ) (b : Body) → slice_get (body ∷ []) k ≡ Some b
    → IsTree (is_pointer insts) (function_insts k insts) b
each_is_tree body same zero b e = let it : body ≡ b = cc e in subst (IsTree (is_pointer insts) (function_insts 0 insts)) it (is_tree body same)
each_is_tree body same (suc k) b e = absurd (cc e)

-- ---- its bodies and entry points

none : (xs : List ℕ) → xs ≡ [] → (rule : ℕ) → Contains xs rule → ⊥
none xs e rule c = contains_none rule (subst (λ x. Contains x rule) e c)

no_arithmetic : (k : ℕ) (i : Instruction) → slice_get insts k ≡ Some i → arithmetic_rules insts i ≡ []
unfolding arithmetic.operands_fit arithmetic_results.result_fits row_of roles_of bytes_of_words is_utf8 chars lib.Utf8.encode
no_arithmetic = each_at (λ n i. arithmetic_rules insts i ≡ []) insts (refl, (refl, (refl, (refl, (refl, (refl, (refl, (refl, (refl, (refl, tt))))))))))

no_composite : (k : ℕ) (i : Instruction) → slice_get insts k ≡ Some i → composite_rules insts i ≡ []
unfolding composite_operands_fit composite_result_fits memory_operands_fit memory_result_fits atomic_operands_fit atomic_result_fits vector_operands_fit vector_result_fits
no_composite = each_at (λ n i. composite_rules insts i ≡ []) insts (refl, (refl, (refl, (refl, (refl, (refl, (refl, (refl, (refl, (refl, tt))))))))))

no_usage : (k : ℕ) (i : Instruction) → slice_get insts k ≡ Some i → usage_rules insts k i ≡ []
unfolding ordering_fits storage_fits
no_usage = each_at (λ n i. usage_rules insts n i ≡ []) insts (refl, (refl, (refl, (refl, (refl, (refl, (refl, (refl, (refl, (refl, tt))))))))))

no_signature : (k : ℕ) (i : Instruction) → slice_get insts k ≡ Some i → signature_rules insts k i ≡ []
unfolding call_fits contexts.result_fits contexts.return_fits signatures.function_fits row_of roles_of bytes_of_words is_utf8 chars lib.Utf8.encode
no_signature = each_at (λ n i. signature_rules insts n i ≡ []) insts (refl, (refl, (refl, (refl, (refl, (refl, (refl, (refl, (refl, (refl, tt))))))))))

none_together : (b : Bool) (xs ys zs ws : List ℕ) → xs ≡ [] → ys ≡ [] → zs ≡ [] → ws ≡ [] → cond b (xs ++ (ys ++ (zs ++ ws))) [] ≡ []
none_together true xs ys zs ws e f g h = λ i. e i ++ (f i ++ (g i ++ h i))
none_together false xs ys zs ws e f g h = refl

fit : (k : ℕ) (i : Instruction) → slice_get insts k ≡ Some i → body_rules insts k i ≡ []
unfolding body_rules
fit k i there =
    none_together (is_of_functions insts k i) (arithmetic_rules insts i) (composite_rules insts i) (usage_rules insts k i) (signature_rules insts k i)
    (no_arithmetic k i there) (no_composite k i there) (no_usage k i there) (no_signature k i there)

entered : (k : ℕ) (i : Instruction) → slice_get insts k ≡ Some i → entry_rules insts k i ≡ []
unfolding binding_fits name_fits size_fits entries.function_fits row_of roles_of bytes_of_words is_utf8 chars lib.Utf8.encode
entered = each_at (λ n i. entry_rules insts n i ≡ []) insts (refl, (refl, (refl, (refl, (refl, (refl, (refl, (refl, (refl, (refl, tt))))))))))

-- ---- what is used

-- the types of the function are declarations
types_are_there : (u : Use) → (u ≡ id_use (place_at insts 6) 2) ⊎ (u ≡ id_use (place_at insts 6) 3) → IsAvailable insts u.id u.place
unfolding row_of roles_of bytes_of_words is_utf8 chars lib.Utf8.encode
types_are_there u (inl e) = subst (λ x. IsAvailable insts x.id x.place) (sym e) (record {
  at = 4;
  inst = record { offset = 0; words = 0x0002_0013 ∷ 2 ∷ [] };
  is_at = refl;
  is = refl;
  available = Outside refl;
})
types_are_there u (inr e) = subst (λ x. IsAvailable insts x.id x.place) (sym e) (record {
  at = 5;
  inst = record { offset = 0; words = 0x0003_0021 ∷ 3 ∷ 2 ∷ [] };
  is_at = refl;
  is = refl;
  available = Outside refl;
})

uses_by : (P : Use → Type 0) (xs : List Use) → AllByRecursion P xs → (u : Use) → Contains xs u → P u
uses_by P [] h u c = absurd (omega (arith, c.1))
uses_by P (x ∷ xs) h u c = by (Contains-append_cases (x ∷ []) xs u c) (uses_by P xs h.1 u) where
  first : (k : ℕ) → k < 1 → slice_index_or (x ∷ []) k u ≡ u → P u
  first zero l e = subst P e h.0
  first (suc k) l e = absurd (omega (arith, l))

  by : Contains (x ∷ []) u ⊎ Contains xs u → (Contains xs u → P u) → P u
  by (inl g) later = first g.0 g.1 g.2
  by (inr g) later = later g

-- what the k-th uses is there
abbrev UsesThere : (k : ℕ) → Instruction → Type 0
UsesThere k i = is_of_functions insts k i ≡ true → AllByRecursion (λ u. IsAvailable insts u.id u.place) (uses insts k i)

all_there : (k : ℕ) (i : Instruction) → slice_get insts k ≡ Some i → UsesThere k i
unfolding row_of roles_of bytes_of_words is_utf8 chars lib.Utf8.encode
all_there = each_at UsesThere insts (
  (λ h. absurd (cc h)),
  (
    (λ h. absurd (cc h)),
    (
      (λ h. absurd (cc h)),
      (
        (λ h. absurd (cc h)),
        (
          (λ h. absurd (cc h)),
          (
            (λ h. absurd (cc h)),
            (
              (λ h. (types_are_there (id_use (place_at insts 6) 2) (inl refl), (types_are_there (id_use (place_at insts 6) 3) (inr refl), tt))),
              ((λ h. tt), ((λ h. tt), ((λ h. tt), tt))),
            ),
          ),
        ),
      ),
    ),
  ),
)

available : (k : ℕ) (i : Instruction) → slice_get insts k ≡ Some i → is_of_functions insts k i ≡ true → IsUnavailable insts k i → ⊥
available k i there inside un =
    let missing = un.missing in
    missing.missing (uses_by (λ u. IsAvailable insts u.id u.place) (uses insts k i) (all_there k i there inside) missing.u missing.is_used)

pub small_finds_nothing : SmallFindsNothing
small_finds_nothing body same = record {
  end = 100;
  instructions = each;
  laid_out = laid_out;
  declared = declared;
  count = refl;
  trees = each_is_tree body same;
  fit = λ k i there rule. none (body_rules insts k i) (fit k i there) rule;
  available = available;
  entered = λ k i there rule. none (entry_rules insts k i) (entered k i there) rule;
}
