-- Which words of an instruction stay where values are replaced, by the row of its opcode: the opcode, the type of the result, and literals.
use Rattle.std.proofs.Common.{◌≡◌, ℕ, zero, suc, Bool, true, false, cond, not, ◌==◌, ◌&&◌, List, [], ◌∷◌, ◌++◌, length, drop, replicate, Some, Result, Ok, Err, refl, sym, ap, ap₂, subst, ◌∙◌, true≢false, eqb-true}
use Rattle.std.specs.List.{list_all, slice_index}
use Rattle.spv_opcodes.specs.declared.op.TheConstants as op
use Rattle.spv_grammar.specs.declared.kind.Role.{Role}
use Rattle.spv_grammar.specs.declared.kind.Role.TheVariants.{Opcode, TypeId, DefinedId, UsedId, Literal}
use Rattle.spv_grammar.specs.declared.kind.Kind.{Kind}
use Rattle.spv_grammar.specs.declared.kind.Kind.TheVariants.{ResultType, ResultId, Id, Number, Numbers, One}
use Rattle.spv_grammar.specs.Enumerants.{is_known}
use Rattle.spv_grammar.specs.Operands.{behind, body_roles, mark, opcode_of, operand_roles, roles_of}
use Rattle.spv_grammar.specs.Roles.{is_used_id}
use Rattle.spv_grammar.specs.Table.{row_of}
use Rattle.spv_module.specs.Instruction.{Instruction, opcode, roles}
use Rattle.spv_typing.specs.Kinds.{is_one_of}
use Rattle.spv_declarations.proofs.Parts.{Front, one-front, row-words, row_test}
use Rattle.spv_alike.proofs.Lookups.{and_left, and_right}
use Rattle.spv_alike_uses.proofs.Lookups.{each}
use Rattle.spv_alike_uses.proofs.Used.{is_single, tested}
use Rattle.spv_typed_trees.specs.Typed.{as_instruction}
use Rattle.spv_replaced_values.specs.Replaced.{ReplacesValues, ReplacesWords, may_stand, stands_in}
use Rattle.spv_replaced_values.proofs.Standing.{NearAll, near_same}

-- the k-th word behind the first one is a type or a literal
abbrev pub has_fixed : (k : ℕ) → List Kind → Bool
has_fixed zero (ResultType ∷ kinds) = true
has_fixed zero (Number ∷ kinds) = true
has_fixed zero (One enumerant ∷ kinds) = true
has_fixed (suc k) (kind ∷ kinds) = is_single kind && has_fixed k kinds
has_fixed k kinds = false

-- and so are all from there on
abbrev pub ends_fixed : (k : ℕ) → List Kind → Bool
ends_fixed zero (Numbers ∷ []) = true
ends_fixed (suc k) (kind ∷ kinds) = is_single kind && ends_fixed k kinds
ends_fixed k kinds = false

record Single (kinds : List Kind) (ws : List ℕ) (rs : List Role) : Type 0 where
  role : Role
  front : Front role kinds ws rs

single : (kind : Kind) (kinds : List Kind) (ws : List ℕ) (rs : List Role) → is_single kind ≡ true → operand_roles (kind ∷ kinds) ws ≡ Some rs → Single kinds ws rs
single ResultType kinds ws rs s h = record { role = TypeId; front = one-front TypeId kinds ws rs h }
single ResultId kinds ws rs s h = record { role = DefinedId; front = one-front DefinedId kinds ws rs h }
single Id kinds ws rs s h = record { role = UsedId; front = one-front UsedId kinds ws rs h }
single Number kinds ws rs s h = record { role = Literal; front = one-front Literal kinds ws rs h }
single (One enumerant) kinds [] rs s h = absurd (cc h)
single (One enumerant) kinds (w ∷ ws) rs s h = record { role = mark (is_known enumerant w); front = one-front (mark (is_known enumerant w)) kinds (w ∷ ws) rs h }
single kind kinds ws rs s h = absurd (true≢false (sym s))

marked : (b : Bool) → is_used_id (mark b) ≡ false
marked true = refl
marked false = refl

module _ (insts : List Instruction) where
  abbrev Replaces : List Role → (words others : List ℕ) → Type 0
  Replaces = ReplacesWords insts

  -- what stands for a first word, and for those behind it
  pub record Behind (role : Role) (roles : List Role) (word : ℕ) (words others : List ℕ) : Type 0 where
    pub other : ℕ
    pub more : List ℕ
    pub is : others ≡ other ∷ more
    pub stands : may_stand insts role word other ≡ true
    pub rest : Replaces roles words more

  pub behind_word : (role : Role) (roles : List Role) (word : ℕ) (words others : List ℕ) → Replaces (role ∷ roles) (word ∷ words) others → Behind role roles word words others
  behind_word role roles word words [] h = absurd h
  behind_word role roles word words (other ∷ more) h = record { other = other; more = more; is = refl; stands = h.0; rest = h.1 }

  pub behind_front : (role : Role) (kinds : List Kind) (ws : List ℕ) (rs : List Role) (vs : List ℕ) → (f : Front role kinds ws rs) → Replaces rs ws vs
      → Behind role f.others f.word f.rest vs
  behind_front role kinds ws rs vs f h =
      behind_word role f.others f.word f.rest vs
      (subst (λ (rs : List Role). Replaces rs (f.word ∷ f.rest) vs) f.parts_are (subst (λ (ws : List ℕ). Replaces rs ws vs) f.words_are h))

  pub stays : (role : Role) (word other : ℕ) → is_used_id role ≡ false → may_stand insts role word other ≡ true → other ≡ word
  stays role word other fixed h =
      eqb-true other word (sym (ap (λ (b : Bool). cond b (stands_in insts word other) (other == word)) fixed) ∙ h)

  abbrev Fixed : (k : ℕ) (kinds : List Kind) → Type 0
  Fixed k kinds = (ws : List ℕ) (rs : List Role) (vs : List ℕ) → operand_roles kinds ws ≡ Some rs → Replaces rs ws vs → slice_index vs k ≡ slice_index ws k

  first_fixed : (role : Role) (kinds : List Kind) (ws : List ℕ) (rs : List Role) (vs : List ℕ) → is_used_id role ≡ false → Front role kinds ws rs → Replaces rs ws vs
      → slice_index vs 0 ≡ slice_index ws 0
  first_fixed role kinds ws rs vs fixed f h =
      let b = behind_front role kinds ws rs vs f h in
      ap (λ (vs : List ℕ). slice_index vs 0) b.is ∙ stays role f.word b.other fixed b.stands ∙ sym (ap (λ (ws : List ℕ). slice_index ws 0) f.words_are)

  -- induction on the place
  fixed_at : (k : ℕ) (kinds : List Kind) → has_fixed k kinds ≡ true → Fixed k kinds
  fixed_at zero (ResultType ∷ kinds) e ws rs vs fit h = first_fixed TypeId kinds ws rs vs refl (one-front TypeId kinds ws rs fit) h
  fixed_at zero (Number ∷ kinds) e ws rs vs fit h = first_fixed Literal kinds ws rs vs refl (one-front Literal kinds ws rs fit) h
  fixed_at zero (One enumerant ∷ kinds) e [] rs vs fit h = absurd (cc fit)
  fixed_at zero (One enumerant ∷ kinds) e (w ∷ ws) rs vs fit h =
      first_fixed (mark (is_known enumerant w)) kinds (w ∷ ws) rs vs (marked (is_known enumerant w))
      (one-front (mark (is_known enumerant w)) kinds (w ∷ ws) rs fit) h
  fixed_at (suc k) (kind ∷ kinds) e ws rs vs fit h =
      let one = single kind kinds ws rs (and_left (is_single kind) (has_fixed k kinds) e) fit in
      let b = behind_front one.role kinds ws rs vs one.front h in
      ap (λ (vs : List ℕ). slice_index vs (suc k)) b.is
      ∙ fixed_at k kinds (and_right (is_single kind) (has_fixed k kinds) e) one.front.rest one.front.others b.more one.front.fit b.rest
      ∙ sym (ap (λ (ws : List ℕ). slice_index ws (suc k)) one.front.words_are)
  fixed_at k kinds e ws rs vs fit h = absurd (true≢false (sym e))

  abbrev End : (k : ℕ) (kinds : List Kind) → Type 0
  End k kinds = (ws : List ℕ) (rs : List Role) (vs : List ℕ) → operand_roles kinds ws ≡ Some rs → Replaces rs ws vs → drop k vs ≡ drop k ws

  -- literals stay; induction on the words
  literals_stay : (ws vs : List ℕ) → Replaces (replicate (length ws) Literal) ws vs → vs ≡ ws
  literals_stay [] [] h = refl
  literals_stay [] (v ∷ vs) h = absurd h
  literals_stay (w ∷ ws) [] h = absurd h
  literals_stay (w ∷ ws) (v ∷ vs) h = ap₂ (λ (x : ℕ) (xs : List ℕ). x ∷ xs) (eqb-true v w h.0) (literals_stay ws vs h.1)

  append_nil : (rs : List Role) → rs ++ [] ≡ rs
  append_nil [] = refl
  append_nil (r ∷ rs) = ap (λ (x : List Role). r ∷ x) (append_nil rs)

  numbers : (ws : List ℕ) (rs : List Role) → operand_roles (Numbers ∷ []) ws ≡ Some rs → rs ≡ replicate (length ws) Literal ++ []
  numbers ws rs fit = cc fit

  end_at : (k : ℕ) (kinds : List Kind) → ends_fixed k kinds ≡ true → End k kinds
  end_at zero (Numbers ∷ []) e ws rs vs fit h =
      literals_stay ws vs (subst (λ (rs : List Role). Replaces rs ws vs) (numbers ws rs fit ∙ append_nil (replicate (length ws) Literal)) h)
  end_at (suc k) (kind ∷ kinds) e ws rs vs fit h =
      let one = single kind kinds ws rs (and_left (is_single kind) (ends_fixed k kinds) e) fit in
      let b = behind_front one.role kinds ws rs vs one.front h in
      ap (λ (vs : List ℕ). drop (suc k) vs) b.is
      ∙ end_at k kinds (and_right (is_single kind) (ends_fixed k kinds) e) one.front.rest one.front.others b.more one.front.fit b.rest
      ∙ sym (ap (λ (ws : List ℕ). drop (suc k) ws) one.front.words_are)
  end_at k kinds e ws rs vs fit h = absurd (true≢false (sym e))

  -- ---- all words

  pub may_near : (b : Bool) (word other : ℕ) → cond b (stands_in insts word other) (other == word) ≡ true → stands_in insts word other ≡ true
  may_near true word other h = h
  may_near false word other h = near_same insts word other (eqb-true other word h)

  -- induction on the words
  near_all : (rs : List Role) (ws vs : List ℕ) → Replaces rs ws vs → NearAll insts ws vs
  near_all [] [] [] h = tt
  near_all (r ∷ rs) (w ∷ ws) (v ∷ vs) h = (may_near (is_used_id r) w v h.0, near_all rs ws vs h.1)
  near_all rs ws vs h = absurd h

-- ---- by the opcode

abbrev pub word_fixed : (k o : ℕ) → Bool
word_fixed k o = not (o == op.SPEC_CONSTANT_OP) && row_test (has_fixed k) (row_of o)

abbrev pub end_fixed : (k o : ℕ) → Bool
end_fixed k o = not (o == op.SPEC_CONSTANT_OP) && row_test (ends_fixed k) (row_of o)

-- the first part is an opcode
first_part : (w : ℕ) (ws : List ℕ) (rs : List Role) → roles_of (w ∷ ws) ≡ Ok rs → (others : List Role) × (rs ≡ Opcode ∷ others)
unfolding roles_of
first_part w ws rs h = by (body_roles (opcode_of w) ws) h
  where
    by : (answer : Result (List Role) ℕ) → behind (Opcode ∷ []) answer ≡ Ok rs → (others : List Role) × (rs ≡ Opcode ∷ others)
    by (Err rule) e = absurd (cc e)
    by (Ok others) e = (others, cc e)

some_words : (rs : List Role) → roles_of [] ≡ Ok rs → ⊥
unfolding roles_of
some_words rs h = absurd (cc h)

-- words, and those in which other values stand
pub record Case : Type 0 where
  pub insts : List Instruction
  pub words : List ℕ
  pub others : List ℕ
  pub replaces : ReplacesValues insts words others

abbrev pub code : Case → ℕ
code c = opcode (as_instruction c.words)

module _ (c : Case) where
  pub near_words : NearAll c.insts c.words c.others
  near_words = near_all c.insts (roles (as_instruction c.words)) c.words c.others c.replaces.replaced

  pub first_stays : (words : List ℕ) (rs : List Role) → roles_of words ≡ Ok rs → ReplacesWords c.insts rs words c.others → slice_index c.others 0 ≡ slice_index words 0
  first_stays [] rs e h = absurd (some_words rs e)
  first_stays (w ∷ ws) rs e h =
      let f = first_part w ws rs e in
      let b = behind_word c.insts Opcode f.0 w ws c.others (subst (λ (rs : List Role). ReplacesWords c.insts rs (w ∷ ws) c.others) f.1 h) in
      ap (λ (vs : List ℕ). slice_index vs 0) b.is ∙ stays c.insts Opcode w b.other refl b.stands

  pub same_code : opcode (as_instruction c.others) ≡ code c
  same_code = ap opcode_of (first_stays c.words (roles (as_instruction c.words)) c.replaces.whole.parted c.replaces.replaced)

  fixed_word : (k : ℕ) → word_fixed k (code c) ≡ true → slice_index c.others (suc k) ≡ slice_index c.words (suc k)
  fixed_word k h =
      let t = tested (code c) (has_fixed k) h in
      let r = row-words (code c) t.shape c.words (roles (as_instruction c.words)) t.is t.other refl c.replaces.whole.parted in
      let b = behind_word c.insts Opcode r.others r.word r.rest c.others
      (subst (λ (rs : List Role). ReplacesWords c.insts rs (r.word ∷ r.rest) c.others) r.parts_are
      (subst (λ (ws : List ℕ). ReplacesWords c.insts (roles (as_instruction c.words)) ws c.others) r.words_are c.replaces.replaced)) in
      ap (λ (vs : List ℕ). slice_index vs (suc k)) b.is ∙ fixed_at c.insts k t.shape.kinds t.passes r.rest r.others b.more r.fit b.rest
      ∙ sym (ap (λ (ws : List ℕ). slice_index ws (suc k)) r.words_are)

  fixed_end : (k : ℕ) → end_fixed k (code c) ≡ true → drop (suc k) c.others ≡ drop (suc k) c.words
  fixed_end k h =
      let t = tested (code c) (ends_fixed k) h in
      let r = row-words (code c) t.shape c.words (roles (as_instruction c.words)) t.is t.other refl c.replaces.whole.parted in
      let b = behind_word c.insts Opcode r.others r.word r.rest c.others
      (subst (λ (rs : List Role). ReplacesWords c.insts rs (r.word ∷ r.rest) c.others) r.parts_are
      (subst (λ (ws : List ℕ). ReplacesWords c.insts (roles (as_instruction c.words)) ws c.others) r.words_are c.replaces.replaced)) in
      ap (λ (vs : List ℕ). drop (suc k) vs) b.is ∙ end_at c.insts k t.shape.kinds t.passes r.rest r.others b.more r.fit b.rest
      ∙ sym (ap (λ (ws : List ℕ). drop (suc k) ws) r.words_are)

  -- at instructions of an opcode, or of one of some
  pub word : (k o : ℕ) → word_fixed k o ≡ true → (code c == o) ≡ true → slice_index c.others (suc k) ≡ slice_index c.words (suc k)
  word k o h is = fixed_word k (ap (word_fixed k) (eqb-true (code c) o is) ∙ h)

  pub words : (k o : ℕ) → end_fixed k o ≡ true → (code c == o) ≡ true → drop (suc k) c.others ≡ drop (suc k) c.words
  words k o h is = fixed_end k (ap (end_fixed k) (eqb-true (code c) o is) ∙ h)

  pub one_word : (k : ℕ) (os : List ℕ) → list_all (word_fixed k) os ≡ true → is_one_of os (code c) ≡ true → slice_index c.others (suc k) ≡ slice_index c.words (suc k)
  one_word k os h is = fixed_word k (each (word_fixed k) os h (code c) is)

  pub word_by : (k : ℕ) → word_fixed k (code c) ≡ true → slice_index c.others (suc k) ≡ slice_index c.words (suc k)
  word_by = fixed_word
