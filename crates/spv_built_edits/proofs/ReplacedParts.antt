-- Words in which other values stand have the parts of those that they stand for: so the result and its type stay, and what is used is what stood there, or a
-- value of its type.
use Rattle.std.proofs.Common.{◌≡◌, ℕ, suc, Bool, true, false, cond, not, ◌==◌, ◌&&◌, ◌||◌, ◌%◌, ◌*◌, nat_le, nat_lt, List, [], ◌∷◌, ◌++◌, length, map, replicate, Option, Some, None, Ok, refl, sym, ap, subst, ◌∙◌, true≢false}
use Rattle.std.specs.List.{AllByRecursion, filter, list_all, position, slice_get, slice_index, zip}
use Rattle.std.specs.Option.{option_and_then, option_map}
use Rattle.spv_opcodes.specs.declared.op.TheConstants as op
use Rattle.spv_grammar.specs.declared.kind.Role.{Role}
use Rattle.spv_grammar.specs.declared.kind.Role.TheVariants.{Opcode, TypeId, DefinedId, UsedId, Literal, UnknownEnumerant}
use Rattle.spv_grammar.specs.declared.kind.Kind.{Kind}
use Rattle.spv_grammar.specs.declared.kind.Kind.TheVariants.{ResultType, ResultId, Id, OptionalId, Ids, IdPairs, Number, SomeNumbers, Numbers, Weights, Cases, Text, OptionalText, SetName, One, MemoryOperands, Decoration, ExtInst}
use Rattle.spv_grammar.specs.Enumerants.{ext_operands, is_aligned, is_known, is_memory_operands}
use Rattle.spv_grammar.specs.Operands.{Taken, after, all, all_if, behind, body_roles, extended, fitted, in_turn, mark, none, one, opcode_of, operand_roles, roles_of}
use Rattle.spv_grammar.specs.Roles.{is_used_id}
use Rattle.spv_grammar.specs.Table.{Shape, row_of}
use Rattle.spv_module.specs.Instruction.{Instruction, parts, roles, word_with}
use Rattle.spv_ids.specs.Ids.{is_needed, used_ids}
use Rattle.spv_ids.proofs.Places.{position-cons}
use Rattle.spv_declarations.proofs.Parts.{one-front, row-words, row_test, used_in}
use Rattle.spv_alike_uses.proofs.Used.{tested}
use Rattle.spv_typed_trees.specs.Typed.{as_instruction}
use Rattle.spv_replaced_values.specs.Replaced.{ReplacesWords, stands_in}
use Rattle.spv_replaced_values.proofs.Fixed.{Case, behind_front, behind_word, code, may_near, stays}

-- an operand whose parts are told by its number of words and by those of them that stay: all but strings and decorations
abbrev pub is_steady : Kind → Bool
is_steady Text = false
is_steady OptionalText = false
is_steady SetName = false
is_steady Decoration = false
is_steady kind = true

abbrev pub are_steady : List Kind → Bool
are_steady kinds = list_all is_steady kinds

-- so it is with all operands of an opcode
abbrev pub steady_by : (o : ℕ) → Bool
steady_by o = not (o == op.SPEC_CONSTANT_OP) && row_test are_steady (row_of o)

-- ---- the parts of operands

-- behind what the first operand took
abbrev rest_roles : List Kind → Option Taken → Option (List Role)
rest_roles kinds taken = option_and_then (λ t. option_map (λ roles. t.roles ++ roles) (operand_roles kinds t.rest)) taken

record Mapped (g : List Role → List Role) (o : Option (List Role)) (rs : List Role) : Type 0 where
  others : List Role
  is : o ≡ Some others
  made : g others ≡ rs

mapped : (g : List Role → List Role) (o : Option (List Role)) (rs : List Role) → option_map g o ≡ Some rs → Mapped g o rs
mapped g None rs h = absurd (cc h)
mapped g (Some others) rs h = record { others = others; is = refl; made = cc h }

-- literals and ids in turn are as many as the words
turns : (ws vs : List ℕ) → length vs ≡ length ws → in_turn vs ≡ in_turn ws
turns [] [] e = refl
turns [] (v ∷ vs) e = absurd (cc e)
turns (w ∷ ws) [] e = absurd (cc e)
turns (w ∷ []) (v ∷ []) e = refl
turns (w ∷ []) (v ∷ y ∷ vs) e = absurd (cc e)
turns (w ∷ x ∷ ws) (v ∷ []) e = absurd (cc e)
turns (w ∷ x ∷ ws) (v ∷ y ∷ vs) e = ap (λ (rs : List Role). Literal ∷ UsedId ∷ rs) (turns ws vs (cc e))

marked : (b : Bool) → is_used_id (mark b) ≡ false
marked true = refl
marked false = refl

-- a mask of memory operands, and the operands of an extended instruction behind its number
abbrev masked : (aligned : Bool) → ℕ → List ℕ → Option Taken
masked aligned w ws = option_map (after (mark (is_memory_operands w) ∷ [])) (cond aligned (one Literal ws) (none ws))

numbered : (n : Option ℕ) (ws vs : List ℕ) → length vs ≡ length ws → extended n vs ≡ extended n ws
numbered None ws vs e = ap (λ (m : ℕ). option_map (after (UnknownEnumerant ∷ [])) (Some (record { roles = replicate m UsedId; rest = [] }))) e
numbered (Some n) ws vs e = ap (λ (m : ℕ). option_map (after (Literal ∷ [])) (all_if (m == n) (replicate m UsedId))) e

-- a first part that is none of a used id
record Begins (rs : List Role) : Type 0 where
  role : Role
  others : List Role
  is : rs ≡ role ∷ others
  unused : is_used_id role ≡ false

number_begins : (kinds : List Kind) (n : Option ℕ) (ws : List ℕ) (rs : List Role) → rest_roles kinds (extended n ws) ≡ Some rs → Begins rs
number_begins kinds None ws rs h =
    let m = mapped (λ roles. UnknownEnumerant ∷ (replicate (length ws) UsedId ++ roles)) (operand_roles kinds []) rs h in
    record { role = UnknownEnumerant; others = replicate (length ws) UsedId ++ m.others; is = sym m.made; unused = refl }
number_begins kinds (Some n) ws rs h = by (length ws == n) h
  where
    by : (b : Bool) → rest_roles kinds (option_map (after (Literal ∷ [])) (all_if b (replicate (length ws) UsedId))) ≡ Some rs → Begins rs
    by false e = absurd (cc e)
    by true e =
        let m = mapped (λ roles. Literal ∷ (replicate (length ws) UsedId ++ roles)) (operand_roles kinds []) rs e in
        record { role = Literal; others = replicate (length ws) UsedId ++ m.others; is = sym m.made; unused = refl }

module _ (insts : List Instruction) where
  abbrev Replaces : List Role → (words others : List ℕ) → Type 0
  Replaces = ReplacesWords insts

  abbrev Same : List Kind → Type 0
  Same kinds = (ws : List ℕ) (rs : List Role) (vs : List ℕ) → operand_roles kinds ws ≡ Some rs → Replaces rs ws vs → operand_roles kinds vs ≡ Some rs

  pub as_long : (rs : List Role) (ws vs : List ℕ) → Replaces rs ws vs → length vs ≡ length ws
  as_long [] [] [] h = refl
  as_long (r ∷ rs) (w ∷ ws) (v ∷ vs) h = ap suc (as_long rs ws vs h.1)
  as_long rs ws vs h = absurd h

  by_length : (taken : List ℕ → Option Taken) (kinds : List Kind) → ((ws vs : List ℕ) → length vs ≡ length ws → taken vs ≡ taken ws)
      → (ws : List ℕ) (rs : List Role) (vs : List ℕ) → rest_roles kinds (taken ws) ≡ Some rs → Replaces rs ws vs → rest_roles kinds (taken vs) ≡ Some rs
  by_length taken kinds same ws rs vs fit h = ap (rest_roles kinds) (same ws vs (as_long rs ws vs h)) ∙ fit

  -- one word of this part
  by_one : (role : Role) (kinds : List Kind) → Same kinds → (ws : List ℕ) (rs : List Role) (vs : List ℕ) → rest_roles kinds (one role ws) ≡ Some rs
      → Replaces rs ws vs → rest_roles kinds (one role vs) ≡ Some rs
  by_one role kinds same ws rs vs fit h =
      let f = one-front role kinds ws rs fit in
      let b = behind_front insts role kinds ws rs vs f h in
      ap (λ (vs : List ℕ). rest_roles kinds (one role vs)) b.is
      ∙ ap (λ (o : Option (List Role)). option_map (λ (roles : List Role). role ∷ roles) o) (same f.rest f.others b.more f.fit b.rest)
      ∙ ap Some (sym f.parts_are)

  -- where the first word stays
  record First (w : ℕ) (rs : List Role) (ws vs : List ℕ) : Type 0 where
    more : List ℕ
    is : vs ≡ w ∷ more
    rest : Replaces rs ws more

  first : (role : Role) (rs : List Role) (w : ℕ) (ws vs : List ℕ) → is_used_id role ≡ false → Replaces (role ∷ rs) (w ∷ ws) vs → First w rs ws vs
  first role rs w ws vs unused h =
      let b = behind_word insts role rs w ws vs h in
      record { more = b.more; is = b.is ∙ ap (λ (v : ℕ). v ∷ b.more) (stays insts role w b.other unused b.stands); rest = b.rest }

  by_enumerant : (enumerant : _) (kinds : List Kind) → Same kinds → Same (One enumerant ∷ kinds)
  by_enumerant enumerant kinds same [] rs vs fit h = absurd (cc fit)
  by_enumerant enumerant kinds same (w ∷ ws) rs vs fit h =
      let role : Role = mark (is_known enumerant w) in
      let m = mapped (λ roles. role ∷ roles) (operand_roles kinds ws) rs fit in
      let b = first role m.others w ws vs (marked (is_known enumerant w)) (subst (λ (rs : List Role). Replaces rs (w ∷ ws) vs) (sym m.made) h) in
      ap (operand_roles (One enumerant ∷ kinds)) b.is
      ∙ ap (λ (o : Option (List Role)). option_map (λ (roles : List Role). role ∷ roles) o) (same ws m.others b.more m.is b.rest) ∙ ap Some m.made

  by_mask : (aligned : Bool) (kinds : List Kind) → Same kinds → (w : ℕ) (ws : List ℕ) (rs : List Role) (vs : List ℕ)
      → rest_roles kinds (masked aligned w ws) ≡ Some rs → Replaces rs (w ∷ ws) vs
      → (more : List ℕ) × (vs ≡ w ∷ more) × (rest_roles kinds (masked aligned w more) ≡ Some rs)
  by_mask true kinds same w [] rs vs fit h = absurd (cc fit)
  by_mask true kinds same w (x ∷ ws) rs vs fit h =
      let role : Role = mark (is_memory_operands w) in
      let m = mapped (λ roles. role ∷ Literal ∷ roles) (operand_roles kinds ws) rs fit in
      let b = first role (Literal ∷ m.others) w (x ∷ ws) vs (marked (is_memory_operands w))
      (subst (λ (rs : List Role). Replaces rs (w ∷ x ∷ ws) vs) (sym m.made) h) in
      let c = first Literal m.others x ws b.more refl b.rest in (
        x ∷ c.more,
        b.is ∙ ap (λ (vs : List ℕ). w ∷ vs) c.is,
        ap (λ (o : Option (List Role)). option_map (λ (roles : List Role). role ∷ Literal ∷ roles) o) (same ws m.others c.more m.is c.rest) ∙ ap Some m.made,
      )
  by_mask false kinds same w ws rs vs fit h =
      let role : Role = mark (is_memory_operands w) in
      let m = mapped (λ roles. role ∷ roles) (operand_roles kinds ws) rs fit in
      let b = first role m.others w ws vs (marked (is_memory_operands w)) (subst (λ (rs : List Role). Replaces rs (w ∷ ws) vs) (sym m.made) h) in (
        b.more,
        b.is,
        ap (λ (o : Option (List Role)). option_map (λ (roles : List Role). role ∷ roles) o) (same ws m.others b.more m.is b.rest) ∙ ap Some m.made,
      )

  by_number : (kinds : List Kind) (w : ℕ) (ws : List ℕ) (rs : List Role) (vs : List ℕ) → rest_roles kinds (extended (ext_operands w) ws) ≡ Some rs
      → Replaces rs (w ∷ ws) vs → operand_roles (ExtInst ∷ kinds) vs ≡ Some rs
  by_number kinds w ws rs vs fit h =
      let begins = number_begins kinds (ext_operands w) ws rs fit in
      let b = first begins.role begins.others w ws vs begins.unused (subst (λ (rs : List Role). Replaces rs (w ∷ ws) vs) begins.is h) in
      ap (operand_roles (ExtInst ∷ kinds)) b.is
      ∙ ap (rest_roles kinds) (numbered (ext_operands w) ws b.more (as_long begins.others ws b.more b.rest)) ∙ fit

  -- by the operands in turn
  same_parts : (kinds : List Kind) → are_steady kinds ≡ true → Same kinds
  same_parts [] s [] rs [] fit h = fit
  same_parts [] s [] rs (v ∷ vs) fit h = absurd (cc (as_long rs [] (v ∷ vs) h))
  same_parts [] s (w ∷ ws) rs vs fit h = absurd (cc fit)
  same_parts (ResultType ∷ kinds) s ws rs vs fit h = by_one TypeId kinds (same_parts kinds s) ws rs vs fit h
  same_parts (ResultId ∷ kinds) s ws rs vs fit h = by_one DefinedId kinds (same_parts kinds s) ws rs vs fit h
  same_parts (Id ∷ kinds) s ws rs vs fit h = by_one UsedId kinds (same_parts kinds s) ws rs vs fit h
  same_parts (Number ∷ kinds) s ws rs vs fit h = by_one Literal kinds (same_parts kinds s) ws rs vs fit h
  same_parts (OptionalId ∷ kinds) s [] rs [] fit h = fit
  same_parts (OptionalId ∷ kinds) s [] rs (v ∷ vs) fit h = absurd (cc (as_long rs [] (v ∷ vs) h))
  same_parts (OptionalId ∷ kinds) s (w ∷ ws) rs [] fit h = absurd (cc (as_long rs (w ∷ ws) [] h))
  same_parts (OptionalId ∷ kinds) s (w ∷ ws) rs (v ∷ vs) fit h = by_one UsedId kinds (same_parts kinds s) (w ∷ ws) rs (v ∷ vs) fit h
  same_parts (Ids most ∷ kinds) s ws rs vs fit h =
      by_length (λ ws. all_if (nat_le (length ws) most) (replicate (length ws) UsedId)) kinds
      (λ ws vs e. ap (λ (n : ℕ). all_if (nat_le n most) (replicate n UsedId)) e) ws rs vs fit h
  same_parts (IdPairs ∷ kinds) s ws rs vs fit h =
      by_length (λ ws. all_if (length ws % 2 == 0) (replicate (length ws) UsedId)) kinds
      (λ ws vs e. ap (λ (n : ℕ). all_if (n % 2 == 0) (replicate n UsedId)) e) ws rs vs fit h
  same_parts (SomeNumbers ∷ kinds) s ws rs vs fit h =
      by_length (λ ws. all_if (nat_lt 0 (length ws)) (replicate (length ws) Literal)) kinds
      (λ ws vs e. ap (λ (n : ℕ). all_if (nat_lt 0 n) (replicate n Literal)) e) ws rs vs fit h
  same_parts (Numbers ∷ kinds) s ws rs vs fit h =
      by_length (λ ws. all Literal ws) kinds (λ ws vs e. ap (λ (n : ℕ). Some (record { roles = replicate n Literal; rest = [] })) e) ws rs vs fit h
  same_parts (Weights ∷ kinds) s ws rs vs fit h =
      by_length (λ ws. all_if (length ws == 0 || length ws == 2) (replicate (length ws) Literal)) kinds
      (λ ws vs e. ap (λ (n : ℕ). all_if (n == 0 || n == 2) (replicate n Literal)) e) ws rs vs fit h
  same_parts (Cases most ∷ kinds) s ws rs vs fit h =
      by_length (λ ws. all_if (length ws % 2 == 0 && nat_le (length ws) (2 * most)) (in_turn ws)) kinds
      (λ ws vs e. (λ i. all_if (e i % 2 == 0 && nat_le (e i) (2 * most)) (turns ws vs e i))) ws rs vs fit h
  same_parts (One enumerant ∷ kinds) s ws rs vs fit h = by_enumerant enumerant kinds (same_parts kinds s) ws rs vs fit h
  same_parts (MemoryOperands ∷ kinds) s [] rs [] fit h = fit
  same_parts (MemoryOperands ∷ kinds) s [] rs (v ∷ vs) fit h = absurd (cc (as_long rs [] (v ∷ vs) h))
  same_parts (MemoryOperands ∷ kinds) s (w ∷ ws) rs vs fit h =
      let m = by_mask (is_aligned w) kinds (same_parts kinds s) w ws rs vs fit h in ap (operand_roles (MemoryOperands ∷ kinds)) m.1 ∙ m.2
  same_parts (ExtInst ∷ kinds) s [] rs vs fit h = absurd (cc fit)
  same_parts (ExtInst ∷ kinds) s (w ∷ ws) rs vs fit h = by_number kinds w ws rs vs fit h
  same_parts (Text ∷ kinds) s ws rs vs fit h = absurd (true≢false (sym s))
  same_parts (OptionalText ∷ kinds) s ws rs vs fit h = absurd (true≢false (sym s))
  same_parts (SetName ∷ kinds) s ws rs vs fit h = absurd (true≢false (sym s))
  same_parts (Decoration ∷ kinds) s ws rs vs fit h = absurd (true≢false (sym s))

  -- ---- words by their parts; induction on the words

  pub shift : (x : ℕ) (xs : List ℕ) (p : Option ℕ) → option_and_then (slice_get (x ∷ xs)) (option_map (λ k. suc k) p) ≡ option_and_then (slice_get xs) p
  shift x xs None = refl
  shift x xs (Some k) = refl

  -- the first word of a part that no used id has
  same_with : (test : Role → Bool) → ((r : Role) → test r ≡ true → is_used_id r ≡ false) → (rs : List Role) (ws vs : List ℕ) → Replaces rs ws vs
      → option_and_then (slice_get vs) (position test rs) ≡ option_and_then (slice_get ws) (position test rs)
  same_with test unused [] [] [] h = refl
  same_with test unused (r ∷ rs) (w ∷ ws) (v ∷ vs) h =
      ap (option_and_then (slice_get (v ∷ vs))) (position-cons test r rs) ∙ by (same_with test unused rs ws vs h.1) (test r) refl
      ∙ sym (ap (option_and_then (slice_get (w ∷ ws))) (position-cons test r rs))
    where
      by : option_and_then (slice_get vs) (position test rs) ≡ option_and_then (slice_get ws) (position test rs) → (b : Bool) → test r ≡ b
          → option_and_then (slice_get (v ∷ vs)) (cond b (Some 0) (option_map (λ k. suc k) (position test rs)))
          ≡ option_and_then (slice_get (w ∷ ws)) (cond b (Some 0) (option_map (λ k. suc k) (position test rs)))
      by more true e = ap Some (stays insts r w v (unused r e) h.0)
      by more false e = shift v vs (position test rs) ∙ more ∙ sym (shift w ws (position test rs))
  same_with test unused rs ws vs h = absurd h

  -- what is so of each id that is used is so of those that stand there
  still_used : (P : ℕ → Type 0) → ((x y : ℕ) → stands_in insts x y ≡ true → P x → P y) → (rs : List Role) (ws vs : List ℕ) → Replaces rs ws vs
      → AllByRecursion P (used_in rs ws) → AllByRecursion P (used_in rs vs)
  still_used P to [] [] [] h all = tt
  still_used P to (r ∷ rs) (w ∷ ws) (v ∷ vs) h all = by (is_needed r) (still_used P to rs ws vs h.1) all
    where
      by : (b : Bool) → (AllByRecursion P (used_in rs ws) → AllByRecursion P (used_in rs vs))
          → AllByRecursion P (map (λ (part : Role × ℕ). part.1)
          (cond b ((r, w) ∷ filter (λ part. is_needed part.0) (zip rs ws)) (filter (λ part. is_needed part.0) (zip rs ws))))
          → AllByRecursion P (map (λ (part : Role × ℕ). part.1)
          (cond b ((r, v) ∷ filter (λ part. is_needed part.0) (zip rs vs)) (filter (λ part. is_needed part.0) (zip rs vs))))
      by true more k = (to w v (may_near insts (is_used_id r) w v h.0) k.0, more k.1)
      by false more k = more k
  still_used P to rs ws vs h all = absurd h

-- ---- instructions

body_by_row : (o : ℕ) (shape : Shape) (ws : List ℕ) → row_of o ≡ Some shape → (o == op.SPEC_CONSTANT_OP) ≡ false
    → body_roles o ws ≡ fitted (operand_roles shape.kinds ws)
body_by_row o shape ws row other = rw (other, row) refl

module _ (c : Case) (steady : steady_by (code c) ≡ true) where
  pub same_answer : roles_of c.others ≡ Ok (roles (as_instruction c.words))
  unfolding roles_of
  same_answer =
      let t = tested (code c) are_steady steady in
      let r = row-words (code c) t.shape c.words (roles (as_instruction c.words)) t.is t.other refl c.replaces.whole.parted in
      let f = first c.insts Opcode r.others r.word r.rest c.others refl
      (subst (λ (rs : List Role). ReplacesWords c.insts rs (r.word ∷ r.rest) c.others) r.parts_are
      (subst (λ (ws : List ℕ). ReplacesWords c.insts (roles (as_instruction c.words)) ws c.others) r.words_are c.replaces.replaced)) in
      let o : opcode_of r.word ≡ code c = sym (ap (λ (ws : List ℕ). opcode_of (slice_index ws 0)) r.words_are) in
      ap roles_of f.is
      ∙ ap (behind (Opcode ∷ []))
      (ap (λ (n : ℕ). body_roles n f.more) o ∙ body_by_row (code c) t.shape f.more t.is t.other
      ∙ ap fitted (same_parts c.insts t.shape.kinds t.passes r.rest r.others f.more r.fit f.rest))
      ∙ ap Ok (sym r.parts_are)

  pub same_roles : roles (as_instruction c.others) ≡ roles (as_instruction c.words)
  same_roles = ap parts same_answer

  pub same_word : (test : Role → Bool) → ((r : Role) → test r ≡ true → is_used_id r ≡ false)
      → word_with test (as_instruction c.others) ≡ word_with test (as_instruction c.words)
  same_word test unused =
      ap (λ (rs : List Role). option_and_then (slice_get c.others) (position test rs)) same_roles
      ∙ same_with c.insts test unused (roles (as_instruction c.words)) c.words c.others c.replaces.replaced

  pub uses_stay : (P : ℕ → Type 0) → ((x y : ℕ) → stands_in c.insts x y ≡ true → P x → P y) → AllByRecursion P (used_ids (as_instruction c.words))
      → AllByRecursion P (used_ids (as_instruction c.others))
  uses_stay P to all =
      subst (λ (rs : List Role). AllByRecursion P (used_in rs c.others)) (sym same_roles)
      (still_used c.insts P to (roles (as_instruction c.words)) c.words c.others c.replaces.replaced all)
