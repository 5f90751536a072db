-- Which words of an instruction are ids that it uses, by the row of its opcode.
use Rattle.std.proofs.Common.{◌≡◌, ℕ, zero, suc, Bool, true, false, cond, not, ◌==◌, ◌&&◌, ◌%◌, nat_le, List, [], ◌∷◌, ◌++◌, length, drop, map, replicate, Option, Some, None, refl, sym, ap, subst, ◌∙◌, true≢false}
use Rattle.std.specs.List.{AllByRecursion, filter, slice_index, zip}
use Rattle.std.specs.Option.{option_and_then, option_map}
use Rattle.spv_opcodes.specs.declared.op.TheConstants as op
use Rattle.spv_grammar.specs.declared.kind.Role.{Role}
use Rattle.spv_grammar.specs.declared.kind.Role.TheVariants.{Opcode, TypeId, DefinedId, UsedId, Literal, UnknownEnumerant}
use Rattle.spv_grammar.specs.declared.kind.Kind.{Kind}
use Rattle.spv_grammar.specs.declared.kind.Kind.TheVariants.{ResultType, ResultId, Id, OptionalId, Ids, IdPairs, Number, One, ExtInst}
use Rattle.spv_grammar.specs.Enumerants.{is_known, ext_operands}
use Rattle.spv_grammar.specs.Operands.{all_if, after, mark, extended, operand_roles}
use Rattle.spv_grammar.specs.Table.{Shape, row_of}
use Rattle.spv_module.specs.Instruction.{Instruction, IsInstruction, opcode, roles}
use Rattle.spv_ids.specs.Ids.{is_needed, used_ids}
use Rattle.spv_declarations.proofs.Parts.{Front, one-front, nil-words, row-words, row_test, used_in}
use Rattle.spv_alike.proofs.Lookups.{and_left, and_right}

-- an operand of one word, always
abbrev pub is_single : Kind → Bool
is_single ResultType = true
is_single ResultId = true
is_single Id = true
is_single Number = true
is_single (One enumerant) = true
is_single kind = false

-- the k-th word behind the first one is an id that is used
abbrev pub has_id : (k : ℕ) → List Kind → Bool
has_id zero (ResultType ∷ kinds) = true
has_id zero (Id ∷ kinds) = true
has_id (suc k) (kind ∷ kinds) = is_single kind && has_id k kinds
has_id k kinds = false

-- and so are all behind
abbrev pub ends_in_ids : (k : ℕ) → List Kind → Bool
ends_in_ids zero [] = true
ends_in_ids zero (Id ∷ kinds) = ends_in_ids zero kinds
ends_in_ids zero (OptionalId ∷ []) = true
ends_in_ids zero (Ids most ∷ []) = true
ends_in_ids zero (IdPairs ∷ []) = true
ends_in_ids (suc zero) (ExtInst ∷ []) = true
ends_in_ids (suc k) (kind ∷ kinds) = is_single kind && ends_in_ids k kinds
ends_in_ids k kinds = false

module _ (P : ℕ → Type 0) where
  behind_one : (b : Bool) (part : Role × ℕ) (parts : List (Role × ℕ)) →
      AllByRecursion P (map (λ part. part.1) (cond b (part ∷ parts) parts)) → AllByRecursion P (map (λ part. part.1) parts)
  behind_one true part parts h = h.1
  behind_one false part parts h = h

  -- what is used behind one word
  all_behind : (role : Role) (roles : List Role) (w : ℕ) (ws : List ℕ) → AllByRecursion P (used_in (role ∷ roles) (w ∷ ws)) → AllByRecursion P (used_in roles ws)
  all_behind role roles w ws h = behind_one (is_needed role) (role, w) (filter (λ part. is_needed part.0) (zip roles ws)) h

  record Single (kinds : List Kind) (ws : List ℕ) (rs : List Role) : Type 0 where
    role : Role
    front : Front role kinds ws rs

  single : (kind : Kind) (kinds : List Kind) (ws : List ℕ) (rs : List Role) → is_single kind ≡ true → operand_roles (kind ∷ kinds) ws ≡ Some rs → Single kinds ws rs
  single ResultType kinds ws rs s h = record { role = TypeId; front = one-front TypeId kinds ws rs h }
  single ResultId kinds ws rs s h = record { role = DefinedId; front = one-front DefinedId kinds ws rs h }
  single Id kinds ws rs s h = record { role = UsedId; front = one-front UsedId kinds ws rs h }
  single Number kinds ws rs s h = record { role = Literal; front = one-front Literal kinds ws rs h }
  single (One enumerant) kinds [] rs s h = absurd (cc h)
  single (One enumerant) kinds (w ∷ ws) rs s h = record { role = mark (is_known enumerant w); front = one-front (mark (is_known enumerant w)) kinds (w ∷ ws) rs h }
  single kind kinds ws rs s h = absurd (true≢false (sym s))

  abbrev Used : List ℕ → List Role → Type 0
  Used ws rs = AllByRecursion P (used_in rs ws)

  -- behind one word, what is used stays
  used_behind : (role : Role) (kinds : List Kind) (ws : List ℕ) (rs : List Role) → (f : Front role kinds ws rs) → Used ws rs → Used f.rest f.others
  used_behind role kinds ws rs f h =
      all_behind role f.others f.word f.rest
      (subst (λ (rs : List Role). Used (f.word ∷ f.rest) rs) f.parts_are (subst (λ (ws : List ℕ). Used ws rs) f.words_are h))

  used_first : (role : Role) (kinds : List Kind) (ws : List ℕ) (rs : List Role) → is_needed role ≡ true → (f : Front role kinds ws rs) → Used ws rs → P f.word
  used_first role kinds ws rs needed f h =
      let parts : List (Role × ℕ) = filter (λ part. is_needed part.0) (zip f.others f.rest) in
      let all : Used (f.word ∷ f.rest) (role ∷ f.others) =
      subst (λ (rs : List Role). Used (f.word ∷ f.rest) rs) f.parts_are (subst (λ (ws : List ℕ). Used ws rs) f.words_are h) in
      (subst (λ (b : Bool). AllByRecursion P (map (λ part. part.1) (cond b ((role, f.word) ∷ parts) parts))) needed all).0

  Word : (k : ℕ) (kinds : List Kind) → Type 0
  Word k kinds = (ws : List ℕ) (rs : List Role) → operand_roles kinds ws ≡ Some rs → Used ws rs → P (slice_index ws k)

  first_word : (role : Role) (kinds : List Kind) (ws : List ℕ) (rs : List Role) → is_needed role ≡ true → Front role kinds ws rs → Used ws rs → P (slice_index ws 0)
  first_word role kinds ws rs needed f h = subst (λ (ws : List ℕ). P (slice_index ws 0)) (sym f.words_are) (used_first role kinds ws rs needed f h)

  word_behind : (k : ℕ) (kind : Kind) (kinds : List Kind) → is_single kind ≡ true → Word k kinds → Word (suc k) (kind ∷ kinds)
  unfolding Word
  word_behind k kind kinds s next ws rs fit h =
      let one = single kind kinds ws rs s fit in
      subst (λ (ws : List ℕ). P (slice_index ws (suc k))) (sym one.front.words_are)
      (next one.front.rest one.front.others one.front.fit (used_behind one.role kinds ws rs one.front h))

  word_at : (k : ℕ) (kinds : List Kind) → has_id k kinds ≡ true → Word k kinds
  unfolding Word
  word_at zero (ResultType ∷ kinds) h = λ ws rs fit used. first_word TypeId kinds ws rs refl (one-front TypeId kinds ws rs fit) used
  word_at zero (Id ∷ kinds) h = λ ws rs fit used. first_word UsedId kinds ws rs refl (one-front UsedId kinds ws rs fit) used
  word_at (suc k) (kind ∷ kinds) h =
      word_behind k kind kinds (and_left (is_single kind) (has_id k kinds) h) (word_at k kinds (and_right (is_single kind) (has_id k kinds) h))
  word_at k kinds h = absurd (cc h)

  Words : (k : ℕ) (kinds : List Kind) → Type 0
  Words k kinds = (ws : List ℕ) (rs : List Role) → operand_roles kinds ws ≡ Some rs → Used ws rs → AllByRecursion P (drop k ws)

  words_behind : (k : ℕ) (kind : Kind) (kinds : List Kind) → is_single kind ≡ true → Words k kinds → Words (suc k) (kind ∷ kinds)
  unfolding Words
  words_behind k kind kinds s next ws rs fit h =
      let one = single kind kinds ws rs s fit in
      subst (λ (ws : List ℕ). AllByRecursion P (drop (suc k) ws)) (sym one.front.words_are)
      (next one.front.rest one.front.others one.front.fit (used_behind one.role kinds ws rs one.front h))

  id_before : (kinds : List Kind) → Words 0 kinds → Words 0 (Id ∷ kinds)
  unfolding Words
  id_before kinds next ws rs fit h =
      let f = one-front UsedId kinds ws rs fit in
      subst (λ (ws : List ℕ). AllByRecursion P ws) (sym f.words_are)
      (used_first UsedId kinds ws rs refl f h, next f.rest f.others f.fit (used_behind UsedId kinds ws rs f h))

  -- all are ids; induction on the words
  all_ids : (ws : List ℕ) → Used ws (replicate (length ws) UsedId) → AllByRecursion P ws
  all_ids [] h = tt
  all_ids (w ∷ ws) h = (h.0, all_ids ws h.1)

  append_nil : (rs : List Role) → rs ++ [] ≡ rs
  append_nil [] = refl
  append_nil (r ∷ rs) = ap (λ (x : List Role). r ∷ x) (append_nil rs)

  ids_fit : (fits : Bool) (roles : List Role) (rs : List Role) →
      option_and_then (λ t. option_map (λ roles. t.roles ++ roles) (operand_roles [] t.rest)) (all_if fits roles) ≡ Some rs → rs ≡ roles ++ []
  ids_fit true roles rs h = cc h
  ids_fit false roles rs h = absurd (cc h)

  ids_at : (fits : Bool) (ws : List ℕ) (rs : List Role) →
      option_and_then (λ t. option_map (λ roles. t.roles ++ roles) (operand_roles [] t.rest)) (all_if fits (replicate (length ws) UsedId)) ≡ Some rs → Used ws rs → AllByRecursion P ws
  ids_at fits ws rs fit h =
      all_ids ws (subst (λ (rs : List Role). Used ws rs) (ids_fit fits (replicate (length ws) UsedId) rs fit ∙ append_nil (replicate (length ws) UsedId)) h)

  -- the operands of an extended instruction, behind its number
  extended_at : (n : Option ℕ) (w : ℕ) (ws : List ℕ) (rs : List Role) →
      option_and_then (λ t. option_map (λ roles. t.roles ++ roles) (operand_roles [] t.rest)) (extended n ws) ≡ Some rs → Used (w ∷ ws) rs → AllByRecursion P ws
  extended_at None w ws rs fit h =
      let same : rs ≡ (UnknownEnumerant ∷ []) ++ replicate (length ws) UsedId ++ [] = cc fit in
      all_ids ws (subst (λ (rs : List Role). Used (w ∷ ws) rs) (same ∙ ap (λ (x : List Role). UnknownEnumerant ∷ x) (append_nil (replicate (length ws) UsedId))) h)
  extended_at (Some n) w ws rs fit h = by (length ws == n) fit
    where
      by : (b : Bool) → option_and_then (λ t. option_map (λ roles. t.roles ++ roles) (operand_roles [] t.rest))
          (option_map (after (Literal ∷ [])) (all_if b (replicate (length ws) UsedId))) ≡ Some rs → AllByRecursion P ws
      by true e =
          let same : rs ≡ Literal ∷ replicate (length ws) UsedId ++ [] = cc e in
          all_ids ws (subst (λ (rs : List Role). Used (w ∷ ws) rs) (same ∙ ap (λ (x : List Role). Literal ∷ x) (append_nil (replicate (length ws) UsedId))) h)
      by false e = absurd (cc e)

  words_at : (k : ℕ) (kinds : List Kind) → ends_in_ids k kinds ≡ true → Words k kinds
  unfolding Words
  words_at zero [] e = λ ws rs fit h. subst (λ (ws : List ℕ). AllByRecursion P ws) (sym (nil-words ws rs fit).0) tt
  words_at zero (Id ∷ kinds) e = id_before kinds (words_at zero kinds e)
  words_at zero (Ids most ∷ []) e = λ ws rs fit h. ids_at (nat_le (length ws) most) ws rs fit h
  words_at zero (IdPairs ∷ []) e = λ ws rs fit h. ids_at (length ws % 2 == 0) ws rs fit h
  words_at zero (OptionalId ∷ []) e = by
    where
      by : (ws : List ℕ) (rs : List Role) → operand_roles (OptionalId ∷ []) ws ≡ Some rs → Used ws rs → AllByRecursion P ws
      by [] rs fit h = tt
      by (w ∷ ws) rs fit h =
          let f = one-front UsedId [] (w ∷ ws) rs fit in
          subst (λ (ws : List ℕ). AllByRecursion P ws) (sym (f.words_are ∙ ap (λ (ws : List ℕ). f.word ∷ ws) (nil-words f.rest f.others f.fit).0))
          (used_first UsedId [] (w ∷ ws) rs refl f h, tt)
  words_at (suc zero) (ExtInst ∷ []) e = by
    where
      by : (ws : List ℕ) (rs : List Role) → operand_roles (ExtInst ∷ []) ws ≡ Some rs → Used ws rs → AllByRecursion P (drop 1 ws)
      by [] rs fit h = tt
      by (w ∷ ws) rs fit h = extended_at (ext_operands w) w ws rs fit h
  words_at (suc k) (kind ∷ kinds) e =
      words_behind k kind kinds (and_left (is_single kind) (ends_in_ids k kinds) e) (words_at k kinds (and_right (is_single kind) (ends_in_ids k kinds) e))
  words_at k kinds e = absurd (cc e)

-- ---- by the opcode

-- the k-th word behind the first one is an id that is used, or all from there on are
abbrev pub word_uses : (k o : ℕ) → Bool
word_uses k o = not (o == op.SPEC_CONSTANT_OP) && row_test (has_id k) (row_of o)

abbrev pub end_uses : (k o : ℕ) → Bool
end_uses k o = not (o == op.SPEC_CONSTANT_OP) && row_test (ends_in_ids k) (row_of o)

not_true : (b : Bool) → not b ≡ true → b ≡ false
not_true true e = sym e
not_true false e = refl

pub record Tested (o : ℕ) (test : List Kind → Bool) : Type 0 where
  pub other : (o == op.SPEC_CONSTANT_OP) ≡ false
  pub shape : Shape
  pub is : row_of o ≡ Some shape
  pub passes : test shape.kinds ≡ true

pub tested : (o : ℕ) (test : List Kind → Bool) → (not (o == op.SPEC_CONSTANT_OP) && row_test test (row_of o)) ≡ true → Tested o test
tested o test h = by (row_of o) refl (and_right (not (o == op.SPEC_CONSTANT_OP)) (row_test test (row_of o)) h)
  where
    by : (row : Option Shape) → row_of o ≡ row → row_test test row ≡ true → Tested o test
    by None e k = absurd (true≢false (sym k))
    by (Some shape) e k = record {
      other = not_true (o == op.SPEC_CONSTANT_OP) (and_left (not (o == op.SPEC_CONSTANT_OP)) (row_test test (row_of o)) h);
      shape = shape;
      is = e;
      passes = k;
    }

module _ (P : ℕ → Type 0) (i : Instruction) (whole : IsInstruction i.words (roles i)) (all : AllByRecursion P (used_ids i)) where
  -- what stands behind the first word
  behind_first : (words : List ℕ) (rs : List Role) (w : ℕ) (ws : List ℕ) (others : List Role) → words ≡ w ∷ ws → rs ≡ Opcode ∷ others
      → AllByRecursion P (used_in rs words) → AllByRecursion P (used_in others ws)
  behind_first words rs w ws others e f h =
      all_behind P Opcode others w ws
      (subst (λ (rs : List Role). AllByRecursion P (used_in rs (w ∷ ws))) f (subst (λ (ws : List ℕ). AllByRecursion P (used_in rs ws)) e h))

  pub used_word : (k : ℕ) → word_uses k (opcode i) ≡ true → P (slice_index i.words (suc k))
  unfolding Word
  used_word k h =
      let t = tested (opcode i) (has_id k) h in
      let r = row-words (opcode i) t.shape i.words (roles i) t.is t.other refl whole.parted in
      subst (λ (ws : List ℕ). P (slice_index ws (suc k))) (sym r.words_are)
      (word_at P k t.shape.kinds t.passes r.rest r.others r.fit (behind_first i.words (roles i) r.word r.rest r.others r.words_are r.parts_are all))

  pub used_words : (k : ℕ) → end_uses k (opcode i) ≡ true → AllByRecursion P (drop (suc k) i.words)
  unfolding Words
  used_words k h =
      let t = tested (opcode i) (ends_in_ids k) h in
      let r = row-words (opcode i) t.shape i.words (roles i) t.is t.other refl whole.parted in
      subst (λ (ws : List ℕ). AllByRecursion P (drop (suc k) ws)) (sym r.words_are)
      (words_at P k t.shape.kinds t.passes r.rest r.others r.fit (behind_first i.words (roles i) r.word r.rest r.others r.words_are r.parts_are all))
