-- The lines that the normal form makes of instructions are instructions: labels, branches without weights, OpPhi that name other labels, copies.
use Rattle.std.proofs.Common.{◌≡◌, ℕ, zero, suc, ◌+◌, ◌*◌, ◌%◌, ◌/◌, ◌≤◌, Bool, true, false, cond, ◌||◌, ◌==◌, List, [], ◌∷◌, ◌++◌, length, take, drop, map, replicate, Result, Ok, refl, sym, ap, subst, ◌∙◌, arith}
use Rattle.std.specs.List.{list_any, zip, slice_index}
use Rattle.std.specs.Option.{option_map, option_and_then}
use Rattle.std.proofs.lemmas.Bool.{false≢true}
use Rattle.std.proofs.lemmas.Bool.Decides.{nat_tests}
use Rattle.spv_opcodes.specs.declared.op.TheConstants as op
use Rattle.spv_grammar.specs.declared.kind.Role.{Role}
use Rattle.spv_grammar.specs.declared.kind.Role.TheVariants.{Opcode, TypeId, DefinedId, UsedId, Literal}
use Rattle.spv_grammar.specs.declared.kind.Kind.{Kind}
use Rattle.spv_grammar.specs.declared.kind.Kind.TheVariants.{ResultType, ResultId, Id, IdPairs, Weights}
use Rattle.spv_grammar.specs.Operands.{roles_of, count_of, operand_roles, fitted, behind, Taken, all_if}
use Rattle.spv_grammar.specs.Roles.{is_unknown, is_bad_octets}
use Rattle.spv_grammar.specs.Table.{row_of, in_section}
use Rattle.spv_module.specs.Instruction.{Instruction, opcode, instruction_rules, is_out_of_bound}
use Rattle.spv_module.proofs.Ids.{is_bad_part, no_bad_parts}
use Rattle.spv_blocks.specs.Cutting.{pairs}
use Rattle.spv_bodies.specs.Listing.{instruction, label_line, pair_words}
use Rattle.spv_normal.specs.Lines.{line}
use Rattle.spv_normal.specs.Normal.{copied, renamed}
use Rattle.spv_tree.specs.Sound.{opcode_in}
use Rattle.spv_machine.proofs.Spelling.{IsCounted}
use Rattle.spv_norm_declared.proofs.Instructions.{IsUnbroken, by_row, fine_parts, has_parts}

-- an id that is not out of bound
abbrev pub IsIn : (bound id : ℕ) → Type 0
IsIn bound id = is_out_of_bound bound id ≡ false

both_false : (a b : Bool) → (a || b) ≡ false → (a ≡ false) × (b ≡ false)
both_false true b h = absurd (false≢true (sym h))
both_false false b h = (refl, h)

none_of : (a b : Bool) → a ≡ false → b ≡ false → (a || b) ≡ false
none_of a b h g = ap (λ (x : Bool). x || b) h ∙ g

-- ---- labels

label_rules : (bound l : ℕ) → IsIn bound l → instruction_rules bound (label_line l) ≡ []
unfolding roles_of row_of
label_rules bound l h =
    fine_parts bound (label_line l) (Opcode ∷ DefinedId ∷ []) refl refl refl (none_of (is_out_of_bound bound l) false h refl)

pub label_fine : (bound l : ℕ) → IsIn bound l → IsUnbroken bound (label_line l)
label_fine bound l h = record { counted = record { some = omega arith; counted = refl }; rules = label_rules bound l h }

-- the label that an OpLabel defines
one_more : (h l : ℕ) (rs : List Role) → h % 65536 ≡ op.LABEL → roles_of (h ∷ l ∷ []) ≡ Ok rs → rs ≡ Opcode ∷ DefinedId ∷ []
unfolding row_of
one_more h l rs e parted =
    let row = by_row h op.LABEL (in_section 11 (ResultId ∷ [])) (l ∷ []) e refl refl in
    let same : Ok rs ≡ Ok (Opcode ∷ DefinedId ∷ []) = sym parted ∙ row in
    cc

pub label_in : (bound : ℕ) (w : List ℕ) → IsUnbroken bound w → opcode_in w ≡ op.LABEL → IsIn bound (slice_index w 1)
unfolding row_of
label_in bound [] u e = absurd (omega (arith, u.counted.some))
label_in bound (h ∷ []) u e =
    let p = has_parts bound (h ∷ []) u.rules in
    let none = sym p.parted ∙ by_row h op.LABEL (in_section 11 (ResultId ∷ [])) [] e refl refl in
    absurd (cc)
label_in bound (h ∷ l ∷ []) u e =
    let p = has_parts bound (h ∷ l ∷ []) u.rules in
    let rs = one_more h l p.roles e p.parted in
    let none = no_bad_parts bound (h ∷ l ∷ []) (Opcode ∷ DefinedId ∷ []) (p.parted ∙ ap Ok rs) u.rules in
    (both_false (is_out_of_bound bound l) false none).0
label_in bound (h ∷ l ∷ x ∷ ws) u e =
    let p = has_parts bound (h ∷ l ∷ x ∷ ws) u.rules in
    let none = sym p.parted ∙ by_row h op.LABEL (in_section 11 (ResultId ∷ [])) (l ∷ x ∷ ws) e refl refl in
    absurd (cc)

head_is : (h n k : ℕ) → h / 65536 ≡ n → h % 65536 ≡ k → h ≡ n * 65536 + k
head_is h n k a b = omega arith

-- its words are those of the line of its label
pub label_words : (bound : ℕ) (w : List ℕ) → IsUnbroken bound w → opcode_in w ≡ op.LABEL → w ≡ label_line (slice_index w 1)
unfolding row_of
label_words bound [] u e = absurd (omega (arith, u.counted.some))
label_words bound (h ∷ []) u e =
    let p = has_parts bound (h ∷ []) u.rules in
    let none = sym p.parted ∙ by_row h op.LABEL (in_section 11 (ResultId ∷ [])) [] e refl refl in
    absurd (cc)
label_words bound (h ∷ l ∷ []) u e = ap (λ z. z ∷ l ∷ []) (head_is h 2 op.LABEL u.counted.counted e)
label_words bound (h ∷ l ∷ x ∷ ws) u e =
    let p = has_parts bound (h ∷ l ∷ x ∷ ws) u.rules in
    let none = sym p.parted ∙ by_row h op.LABEL (in_section 11 (ResultId ∷ [])) (l ∷ x ∷ ws) e refl refl in
    absurd (cc)

-- ---- branches without weights

abbrev split_kinds : List Kind
split_kinds = Id ∷ Id ∷ Id ∷ Weights ∷ []

split_rules : (bound c t e : ℕ) → IsIn bound c → IsIn bound t → IsIn bound e
    → instruction_rules bound (instruction op.BRANCH_CONDITIONAL (c ∷ t ∷ e ∷ [])) ≡ []
unfolding roles_of row_of
split_rules bound c t e hc ht he =
    fine_parts bound (instruction op.BRANCH_CONDITIONAL (c ∷ t ∷ e ∷ [])) (Opcode ∷ UsedId ∷ UsedId ∷ UsedId ∷ []) refl refl refl
    (none_of (is_out_of_bound bound c) (is_out_of_bound bound t || (is_out_of_bound bound e || false)) hc
    (none_of (is_out_of_bound bound t) (is_out_of_bound bound e || false) ht (none_of (is_out_of_bound bound e) false he refl)))

split_fine : (bound c t e : ℕ) → IsIn bound c → IsIn bound t → IsIn bound e → IsUnbroken bound (instruction op.BRANCH_CONDITIONAL (c ∷ t ∷ e ∷ []))
split_fine bound c t e hc ht he = record { counted = record { some = omega arith; counted = refl }; rules = split_rules bound c t e hc ht he }

-- the first parts of a branch, whatever its weights
three_used : (b : Bool) (all rs : List Role)
    → behind (Opcode ∷ []) (fitted (option_map (λ more. UsedId ∷ more) (option_map (λ more. UsedId ∷ more) (option_map (λ more. UsedId ∷ more)
    (option_and_then (λ (t : Taken). option_map (λ more. t.roles ++ more) (operand_roles [] t.rest)) (all_if b all))))))
    ≡ Ok rs
    → rs ≡ Opcode ∷ UsedId ∷ UsedId ∷ UsedId ∷ (all ++ [])
three_used true all rs h = cc
three_used false all rs h = absurd (cc)

pub record HasThree (bound : ℕ) (w : List ℕ) : Type 0 where
  pub first : ℕ
  pub second : ℕ
  pub third : ℕ
  pub same : take 3 (drop 1 w) ≡ first ∷ second ∷ third ∷ []
  pub first_in : IsIn bound first
  pub second_in : IsIn bound second
  pub third_in : IsIn bound third

split_parts : (h : ℕ) (ws : List ℕ) (rs : List Role) → h % 65536 ≡ op.BRANCH_CONDITIONAL → roles_of (h ∷ ws) ≡ Ok rs
    → behind (Opcode ∷ []) (fitted (operand_roles split_kinds ws)) ≡ Ok rs
unfolding row_of
split_parts h ws rs e parted = sym (by_row h op.BRANCH_CONDITIONAL (in_section 11 split_kinds) ws e refl refl) ∙ parted

has_three : (bound : ℕ) (w : List ℕ) → IsUnbroken bound w → opcode_in w ≡ op.BRANCH_CONDITIONAL → HasThree bound w
has_three bound [] u e = absurd (omega (arith, u.counted.some))
has_three bound (h ∷ []) u e =
    let p = has_parts bound (h ∷ []) u.rules in
    let none = split_parts h [] p.roles e p.parted in
    absurd (cc)
has_three bound (h ∷ a ∷ []) u e =
    let p = has_parts bound (h ∷ a ∷ []) u.rules in
    let none = split_parts h (a ∷ []) p.roles e p.parted in
    absurd (cc)
has_three bound (h ∷ a ∷ b ∷ []) u e =
    let p = has_parts bound (h ∷ a ∷ b ∷ []) u.rules in
    let none = split_parts h (a ∷ b ∷ []) p.roles e p.parted in
    absurd (cc)
has_three bound (h ∷ a ∷ b ∷ c ∷ ws) u e =
    let p = has_parts bound (h ∷ a ∷ b ∷ c ∷ ws) u.rules in
    let rs = three_used (length ws == 0 || length ws == 2) (replicate (length ws) Literal) p.roles (split_parts h (a ∷ b ∷ c ∷ ws) p.roles e p.parted) in
    let none =
    no_bad_parts bound (h ∷ a ∷ b ∷ c ∷ ws) (Opcode ∷ UsedId ∷ UsedId ∷ UsedId ∷ (replicate (length ws) Literal ++ [])) (p.parted ∙ ap Ok rs) u.rules in
    let rest = list_any (is_bad_part bound) (zip (replicate (length ws) Literal ++ []) ws) in
    let one = both_false (is_out_of_bound bound a) (is_out_of_bound bound b || (is_out_of_bound bound c || rest)) none in
    let two = both_false (is_out_of_bound bound b) (is_out_of_bound bound c || rest) one.1 in
    let three = both_false (is_out_of_bound bound c) rest two.1 in
    record { first = a; second = b; third = c; same = refl; first_in = one.0; second_in = two.0; third_in = three.0 }

three_fine : (bound : ℕ) (w : List ℕ) → HasThree bound w → IsUnbroken bound (instruction op.BRANCH_CONDITIONAL (take 3 (drop 1 w)))
three_fine bound w t =
    subst (λ z. IsUnbroken bound (instruction op.BRANCH_CONDITIONAL z)) (sym t.same)
    (split_fine bound t.first t.second t.third t.first_in t.second_in t.third_in)

-- a line of an instruction, without branch weights
pub line_fine : (bound : ℕ) (i : Instruction) → IsUnbroken bound i.words → IsUnbroken bound (line i)
line_fine bound i u = by (opcode i == op.BRANCH_CONDITIONAL) refl
  where
    by : (b : Bool) → (opcode i == op.BRANCH_CONDITIONAL) ≡ b
        → IsUnbroken bound (cond b (instruction op.BRANCH_CONDITIONAL (take 3 (drop 1 i.words))) i.words)
    by true e = three_fine bound i.words (has_three bound i.words u (grind (arith, nat_tests)))
    by false e = u

-- ---- OpPhi

abbrev phi_kinds : List Kind
phi_kinds = ResultType ∷ ResultId ∷ IdPairs ∷ []

abbrev phi_parts : (n : ℕ) → List Role
phi_parts n = Opcode ∷ TypeId ∷ DefinedId ∷ (replicate n UsedId ++ [])

abbrev phi_fitted : (even : Bool) (all : List Role) → Result (List Role) ℕ
phi_fitted even all =
    behind (Opcode ∷ []) (fitted (option_map (λ more. TypeId ∷ more) (option_map (λ more. DefinedId ∷ more)
    (option_and_then (λ (t : Taken). option_map (λ more. t.roles ++ more) (operand_roles [] t.rest)) (all_if even all)))))

phi_row : (h : ℕ) (ws : List ℕ) → h % 65536 ≡ op.PHI → roles_of (h ∷ ws) ≡ behind (Opcode ∷ []) (fitted (operand_roles phi_kinds ws))
unfolding row_of
phi_row h ws e = by_row h op.PHI (in_section 11 phi_kinds) ws e refl refl

phi_even : (b : Bool) (all rs : List Role) → phi_fitted b all ≡ Ok rs → (b ≡ true) × (rs ≡ Opcode ∷ TypeId ∷ DefinedId ∷ (all ++ []))
phi_even true all rs h = (refl, cc)
phi_even false all rs h = absurd (cc)

no_octets : (n : ℕ) → list_any is_bad_octets (replicate n UsedId ++ []) ≡ false
no_octets zero = refl
no_octets (suc n) = no_octets n

no_unknown : (n : ℕ) → list_any is_unknown (replicate n UsedId ++ []) ≡ false
no_unknown zero = refl
no_unknown (suc n) = no_unknown n

abbrev pub NoneOut : (bound : ℕ) → List ℕ → Type 0
NoneOut bound ws = list_any (is_out_of_bound bound) ws ≡ false

used_any : (bound : ℕ) (ws : List ℕ) → list_any (is_bad_part bound) (zip (replicate (length ws) UsedId ++ []) ws) ≡ list_any (is_out_of_bound bound) ws
used_any bound [] = refl
used_any bound (w ∷ ws) = ap (λ (b : Bool). is_out_of_bound bound w || b) (used_any bound ws)

phi_roles : (h a b : ℕ) (ws : List ℕ) → h % 65536 ≡ op.PHI → (length ws % 2 == 0) ≡ true → roles_of (h ∷ a ∷ b ∷ ws) ≡ Ok (phi_parts (length ws))
phi_roles h a b ws e even = phi_row h (a ∷ b ∷ ws) e ∙ ap (λ (t : Bool). phi_fitted t (replicate (length ws) UsedId)) even

phi_rules : (bound h a b : ℕ) (ws : List ℕ) → h % 65536 ≡ op.PHI → (length ws % 2 == 0) ≡ true → IsIn bound a → IsIn bound b → NoneOut bound ws
    → instruction_rules bound (h ∷ a ∷ b ∷ ws) ≡ []
phi_rules bound h a b ws e even ha hb none =
    fine_parts bound (h ∷ a ∷ b ∷ ws) (phi_parts (length ws))
    (phi_roles h a b ws e even)
    (ap (λ (t : Bool). cond t (108 ∷ []) []) (no_octets (length ws)))
    (ap (λ (t : Bool). cond t (109 ∷ []) []) (no_unknown (length ws)))
    (none_of (is_out_of_bound bound a) (is_out_of_bound bound b || list_any (is_bad_part bound) (zip (replicate (length ws) UsedId ++ []) ws)) ha
    (none_of (is_out_of_bound bound b) (list_any (is_bad_part bound) (zip (replicate (length ws) UsedId ++ []) ws)) hb (used_any bound ws ∙ none)))

-- the words of an OpPhi
pub record IsPhi (bound : ℕ) (w : List ℕ) : Type 0 where
  pub head : ℕ
  pub type : ℕ
  pub name : ℕ
  pub rest : List ℕ
  pub same : w ≡ head ∷ type ∷ name ∷ rest
  pub begins : head % 65536 ≡ op.PHI
  pub even : (length rest % 2 == 0) ≡ true
  pub type_in : IsIn bound type
  pub name_in : IsIn bound name
  pub rest_in : NoneOut bound rest

pub is_phi : (bound : ℕ) (w : List ℕ) → IsUnbroken bound w → opcode_in w ≡ op.PHI → IsPhi bound w
is_phi bound [] u e = absurd (omega (arith, u.counted.some))
is_phi bound (h ∷ []) u e =
    let p = has_parts bound (h ∷ []) u.rules in
    let none = sym p.parted ∙ phi_row h [] e in
    absurd (cc)
is_phi bound (h ∷ a ∷ []) u e =
    let p = has_parts bound (h ∷ a ∷ []) u.rules in
    let none = sym p.parted ∙ phi_row h (a ∷ []) e in
    absurd (cc)
is_phi bound (h ∷ a ∷ b ∷ ws) u e =
    let p = has_parts bound (h ∷ a ∷ b ∷ ws) u.rules in
    let shown = phi_even (length ws % 2 == 0) (replicate (length ws) UsedId) p.roles (sym (phi_row h (a ∷ b ∷ ws) e) ∙ p.parted) in
    let none = no_bad_parts bound (h ∷ a ∷ b ∷ ws) (phi_parts (length ws)) (p.parted ∙ ap Ok shown.1) u.rules in
    let rest = list_any (is_bad_part bound) (zip (replicate (length ws) UsedId ++ []) ws) in
    let one = both_false (is_out_of_bound bound a) (is_out_of_bound bound b || rest) none in
    let two = both_false (is_out_of_bound bound b) rest one.1 in
    record {
      head = h;
      type = a;
      name = b;
      rest = ws;
      same = refl;
      begins = e;
      even = shown.0;
      type_in = one.0;
      name_in = two.0;
      rest_in = sym (used_any bound ws) ∙ two.1;
    }

-- pairs that name other labels
abbrev named_by : (stays : ℕ → ℕ) → List ℕ → List ℕ
named_by stays ws = pair_words (map (λ pair. (pair.0, stays pair.1)) (pairs ws))

even_less : (n : ℕ) → suc (suc n) % 2 ≡ 0 → n % 2 ≡ 0
even_less n h = omega arith

named_length : (stays : ℕ → ℕ) (ws : List ℕ) → length ws % 2 ≡ 0 → length (named_by stays ws) ≡ length ws
named_length stays [] even = refl
named_length stays (x ∷ []) even = absurd (cc)
named_length stays (x ∷ y ∷ ws) even = ap (λ n. suc (suc n)) (named_length stays ws (even_less (length ws) even))

named_in : (bound : ℕ) (stays : ℕ → ℕ) → ((x : ℕ) → IsIn bound x → IsIn bound (stays x)) → (ws : List ℕ) → NoneOut bound ws
    → NoneOut bound (named_by stays ws)
named_in bound stays closed [] h = refl
named_in bound stays closed (x ∷ []) h = refl
named_in bound stays closed (x ∷ y ∷ ws) h =
    let one = both_false (is_out_of_bound bound x) (is_out_of_bound bound y || list_any (is_out_of_bound bound) ws) h in
    let two = both_false (is_out_of_bound bound y) (list_any (is_out_of_bound bound) ws) one.1 in
    none_of (is_out_of_bound bound x) (is_out_of_bound bound (stays y) || list_any (is_out_of_bound bound) (named_by stays ws)) one.0
    (none_of (is_out_of_bound bound (stays y)) (list_any (is_out_of_bound bound) (named_by stays ws)) (closed y two.0) (named_in bound stays closed ws two.1))

renamed_words : (bound : ℕ) (stays : ℕ → ℕ) → ((x : ℕ) → IsIn bound x → IsIn bound (stays x)) → (h a b : ℕ) (ws : List ℕ)
    → h % 65536 ≡ op.PHI → (length ws % 2 == 0) ≡ true → IsIn bound a → IsIn bound b → NoneOut bound ws
    → count_of h ≡ length (h ∷ a ∷ b ∷ ws) → IsUnbroken bound (h ∷ a ∷ b ∷ named_by stays ws)
renamed_words bound stays closed h a b ws e even ha hb none counted =
    let even_number : length ws % 2 ≡ 0 = grind (arith, nat_tests) in
    let long = named_length stays ws even_number in
    record {
      counted = record { some = omega arith; counted = counted ∙ ap (λ n. suc (suc (suc n))) (sym long) };
      rules =
          phi_rules bound h a b (named_by stays ws) e (ap (λ n. n % 2 == 0) long ∙ even) ha hb (named_in bound stays closed ws none);
    }

pub renamed_fine : (bound : ℕ) (stays : ℕ → ℕ) (i : Instruction) → ((x : ℕ) → IsIn bound x → IsIn bound (stays x)) → IsUnbroken bound i.words
    → opcode i ≡ op.PHI → IsUnbroken bound (renamed stays i)
renamed_fine bound stays i closed u e =
    let p = is_phi bound i.words u e in
    let counted : IsCounted (p.head ∷ p.type ∷ p.name ∷ p.rest) = subst IsCounted p.same u.counted in
    subst (λ w. IsUnbroken bound (take 3 w ++ named_by stays (drop 3 w))) (sym p.same)
    (renamed_words bound stays closed p.head p.type p.name p.rest p.begins p.even p.type_in p.name_in p.rest_in counted.counted)

-- an OpPhi that has a pair, as a copy of its value
copy_rules : (bound a b c : ℕ) → IsIn bound a → IsIn bound b → IsIn bound c → instruction_rules bound (instruction op.COPY_OBJECT (a ∷ b ∷ c ∷ [])) ≡ []
unfolding roles_of row_of
copy_rules bound a b c ha hb hc =
    fine_parts bound (instruction op.COPY_OBJECT (a ∷ b ∷ c ∷ [])) (Opcode ∷ TypeId ∷ DefinedId ∷ UsedId ∷ []) refl refl refl
    (none_of (is_out_of_bound bound a) (is_out_of_bound bound b || (is_out_of_bound bound c || false)) ha
    (none_of (is_out_of_bound bound b) (is_out_of_bound bound c || false) hb (none_of (is_out_of_bound bound c) false hc refl)))

copy_fine : (bound a b c : ℕ) → IsIn bound a → IsIn bound b → IsIn bound c → IsUnbroken bound (instruction op.COPY_OBJECT (a ∷ b ∷ c ∷ []))
copy_fine bound a b c ha hb hc = record { counted = record { some = omega arith; counted = refl }; rules = copy_rules bound a b c ha hb hc }

copied_words : (bound a b : ℕ) (ws : List ℕ) → 1 ≤ length ws → IsIn bound a → IsIn bound b → NoneOut bound ws
    → IsUnbroken bound (instruction op.COPY_OBJECT (a ∷ b ∷ slice_index ws 0 ∷ []))
copied_words bound a b [] some ha hb none = absurd (omega arith)
copied_words bound a b (c ∷ ws) some ha hb none =
    copy_fine bound a b c ha hb (both_false (is_out_of_bound bound c) (list_any (is_out_of_bound bound) ws) none).0

pub copied_fine : (bound : ℕ) (i : Instruction) → IsUnbroken bound i.words → opcode i ≡ op.PHI → 4 ≤ length i.words → IsUnbroken bound (copied i)
copied_fine bound i u e some =
    let p = is_phi bound i.words u e in
    let long = ap length p.same in
    subst (λ w. IsUnbroken bound (instruction op.COPY_OBJECT (slice_index w 1 ∷ slice_index w 2 ∷ slice_index w 3 ∷ []))) (sym p.same)
    (copied_words bound p.type p.name p.rest (omega (arith, some, long)) p.type_in p.name_in p.rest_in)

-- ---- OpFunctionEnd

end_rules : (bound : ℕ) → instruction_rules bound (instruction op.FUNCTION_END []) ≡ []
unfolding roles_of row_of
end_rules bound = fine_parts bound (instruction op.FUNCTION_END []) (Opcode ∷ []) refl refl refl refl

pub end_fine : (bound : ℕ) → IsUnbroken bound (instruction op.FUNCTION_END [])
end_fine bound = record { counted = record { some = omega arith; counted = refl }; rules = end_rules bound }
