-- 602: the ids that an entry point lists are used by it, so they stay and are global variables; and what a function names it named.
use Rattle.std.proofs.Common.{◌≡◌, inl, inr, ℕ, zero, suc, Bool, true, false, cond, nat_eq, ◌==◌, List, [], ◌∷◌, ◌++◌, length, drop, take, map, replicate, Option, Some, None, refl, sym, ap, subst, ◌∙◌, eqb-true}
use Rattle.std.specs.List.{AllByRecursion, filter, slice_index, zip}
use Rattle.std.specs.Option.{option_map}
use Rattle.spv_opcodes.specs.declared.op.TheConstants as op
use Rattle.spv_grammar.specs.declared.kind.Role.{Role}
use Rattle.spv_grammar.specs.declared.kind.Role.TheVariants.{Opcode, Octets, BadOctets, UsedId}
use Rattle.spv_grammar.specs.declared.kind.Kind.{Kind}
use Rattle.spv_grammar.specs.declared.kind.Kind.TheVariants.{Id, Ids, One, Text}
use Rattle.spv_grammar.specs.declared.kind.Enumerant.TheVariants.{ExecutionModel}
use Rattle.spv_grammar.specs.Enumerants.{is_known}
use Rattle.spv_grammar.specs.Operands.{mark, operand_roles, text_role}
use Rattle.spv_grammar.specs.Table.{in_section, row_of}
use Rattle.spv_grammar.specs.Text.{is_text, text_words}
use Rattle.spv_module.specs.Code.{is_line}
use Rattle.spv_module.specs.Instruction.{Instruction, IsInstruction, opcode, roles}
use Rattle.spv_module.specs.Layout.{is_entry_point}
use Rattle.spv_ids.specs.Ids.{is_needed, used_ids}
use Rattle.spv_declarations.proofs.Parts.{Front, ids-words, one-front, row-words, used_in}
use Rattle.spv_walk.proofs.Unique.{either_holds, equal_true}
use Rattle.spv_alike_uses.proofs.Lookups.{all_on}
use Rattle.spv_alike_uses.proofs.Used.{used_word, word_uses}
use Rattle.spv_calls.specs.Calls.{function_at, globals_of, is_global}
use Rattle.spv_calls.specs.Interfaces.{InterfaceFits, IsInterface, IsReferenced, has, interface}
use Rattle.spv_norm_entries.proofs.Lists.{flat_has, has_flat, has_kept, kept_has}
use Rattle.spv_thinned.proofs.Walk.{inst}
use Rattle.spv_thinned_entries.proofs.Cases.{FactOf, In, Thinning, same_global}
use Rattle.spv_thinned_entries.proofs.Calls.{reached_before}
use Rattle.spv_thinned_entries.proofs.Places.{function_stood, place, place_stood}

-- ---- the ids behind an entry point's name are used

text_unneeded : (ws : List ℕ) → is_needed (text_role ws) ≡ false
text_unneeded ws = by (is_text ws)
  where
    by : (b : Bool) → is_needed (cond b Octets BadOctets) ≡ false
    by true = refl
    by false = refl

none_used : (rs : List Role) → used_in rs [] ≡ []
none_used [] = refl
none_used (r ∷ rs) = refl

-- what is used behind words that are not
used_past : (role : Role) → is_needed role ≡ false → (n : ℕ) (rs : List Role) (ws : List ℕ) → used_in (replicate n role ++ rs) ws ≡ used_in rs (drop n ws)
used_past role h zero rs ws = refl
used_past role h (suc n) rs [] = sym (none_used rs)
used_past role h (suc n) rs (w ∷ ws) =
    ap (λ (b : Bool). map (λ (part : Role × ℕ). part.1) (cond b ((role, w) ∷ others) others)) h ∙ used_past role h n rs ws
  where
    others : List (Role × ℕ)
    others = filter (λ part. is_needed part.0) (zip (replicate n role ++ rs) ws)

module _ (P : ℕ → Type 0) where
  behind_one : (b : Bool) (part : Role × ℕ) (parts : List (Role × ℕ))
      → AllByRecursion P (map (λ part. part.1) (cond b (part ∷ parts) parts)) → AllByRecursion P (map (λ part. part.1) parts)
  behind_one true part parts h = h.1
  behind_one false part parts h = h

  used_behind : (r : Role) (rs : List Role) (w : ℕ) (ws : List ℕ) → AllByRecursion P (used_in (r ∷ rs) (w ∷ ws)) → AllByRecursion P (used_in rs ws)
  used_behind r rs w ws h = behind_one (is_needed r) (r, w) (filter (λ part. is_needed part.0) (zip rs ws)) h

  all_used : (ws : List ℕ) → AllByRecursion P (used_in (replicate (length ws) UsedId) ws) → AllByRecursion P ws
  all_used [] h = tt
  all_used (w ∷ ws) h = (h.0, all_used ws h.1)

  -- behind a string
  ids_used : (most : ℕ) (ws : List ℕ) (rs : List Role) → operand_roles (Text ∷ Ids most ∷ []) ws ≡ Some rs → AllByRecursion P (used_in rs ws)
      → AllByRecursion P (drop (text_words ws) ws)
  ids_used most [] rs fit h = absurd (cc fit)
  ids_used most (w ∷ ws) rs fit h = by (operand_roles (Ids most ∷ []) rest) refl fit
    where
      n : ℕ
      n = text_words (w ∷ ws)

      rest : List ℕ
      rest = drop n (w ∷ ws)

      role : Role
      role = text_role (take n (w ∷ ws))

      by : (o : Option (List Role)) → operand_roles (Ids most ∷ []) rest ≡ o → option_map (λ roles. replicate n role ++ roles) o ≡ Some rs → AllByRecursion P rest
      by None e f = absurd (cc f)
      by (Some others) e f =
          let whole : replicate n role ++ others ≡ rs = cc f in
          all_used rest
          (subst (λ (rs : List Role). AllByRecursion P (used_in rs rest)) (ids-words most rest others e)
          (subst (AllByRecursion P) (used_past role (text_unneeded (take n (w ∷ ws))) n others (w ∷ ws))
          (subst (λ (rs : List Role). AllByRecursion P (used_in rs (w ∷ ws))) (sym whole) h)))

  front_used : (role : Role) (kinds : List Kind) (ws : List ℕ) (rs : List Role) → (f : Front role kinds ws rs) → AllByRecursion P (used_in rs ws)
      → AllByRecursion P (used_in f.others f.rest)
  front_used role kinds ws rs f h =
      used_behind role f.others f.word f.rest
      (subst (λ (rs : List Role). AllByRecursion P (used_in rs (f.word ∷ f.rest))) f.parts_are
      (subst (λ (ws : List ℕ). AllByRecursion P (used_in rs ws)) f.words_are h))

  listed_used : (most : ℕ) (ws : List ℕ) (rs : List Role) → operand_roles (One ExecutionModel ∷ Id ∷ Text ∷ Ids most ∷ []) ws ≡ Some rs → AllByRecursion P (used_in rs ws)
      → AllByRecursion P (drop (text_words (drop 2 ws)) (drop 2 ws))
  listed_used most [] rs fit h = absurd (cc fit)
  listed_used most (w ∷ ws) rs fit h =
      let f = one-front (mark (is_known ExecutionModel w)) (Id ∷ Text ∷ Ids most ∷ []) (w ∷ ws) rs fit in
      let g = one-front UsedId (Text ∷ Ids most ∷ []) f.rest f.others f.fit in
      subst (λ (ws : List ℕ). AllByRecursion P (drop (text_words (drop 2 ws)) (drop 2 ws))) (sym f.words_are)
      (subst (λ (ws : List ℕ). AllByRecursion P (drop (text_words (drop 1 ws)) (drop 1 ws))) (sym g.words_are)
      (ids_used most g.rest g.others g.fit (front_used UsedId (Text ∷ Ids most ∷ []) f.rest f.others g (front_used (mark (is_known ExecutionModel w)) (Id ∷ Text ∷ Ids most ∷ []) (w ∷ ws) rs f h))))

entry_row : row_of op.ENTRY_POINT ≡ Some (in_section 4 (One ExecutionModel ∷ Id ∷ Text ∷ Ids 65535 ∷ []))
unfolding row_of
entry_row = refl

entry_uses : word_uses 1 op.ENTRY_POINT ≡ true
unfolding row_of
entry_uses = refl

pub interface_used : (P : ℕ → Type 0) (i : Instruction) → IsInstruction i.words (roles i) → is_entry_point i ≡ true → AllByRecursion P (used_ids i) → AllByRecursion P (interface i)
interface_used P i whole h all =
    let is : opcode i ≡ op.ENTRY_POINT = eqb-true (opcode i) op.ENTRY_POINT h in
    let r = row-words (opcode i) (in_section 4 (One ExecutionModel ∷ Id ∷ Text ∷ Ids 65535 ∷ [])) i.words (roles i) (ap row_of is ∙ entry_row) (ap (λ (o : ℕ). o == op.SPEC_CONSTANT_OP) is) refl whole.parted in
    subst (λ (ws : List ℕ). AllByRecursion P (drop (text_words (drop 3 ws)) (drop 3 ws))) (sym r.words_are)
    (listed_used P 65535 r.rest r.others r.fit
    (used_behind P Opcode r.others r.word r.rest
    (subst (λ (rs : List Role). AllByRecursion P (used_in rs (r.word ∷ r.rest))) r.parts_are
    (subst (λ (ws : List ℕ). AllByRecursion P (used_in (roles i) ws)) r.words_are all))))

pub entry_function_stays : (t : Thinning) (i : Instruction) → FactOf t i → t.keep i ≡ true → is_entry_point i ≡ true → In t (slice_index i.words 2)
entry_function_stays t i f e h = used_word (In t) i f.whole (f.kept e).used 1 (ap (word_uses 1) (eqb-true (opcode i) op.ENTRY_POINT h) ∙ entry_uses)

-- ---- what functions name

-- what an instruction names
record IsNaming (insts : List Instruction) (i : Instruction) (id : ℕ) : Type 0 where
  plain : is_line i ≡ false
  used : has (used_ids i) id ≡ true
  global : is_global insts id ≡ true

naming_of : (insts : List Instruction) (i : Instruction) (id : ℕ) → has (globals_of insts i) id ≡ true → IsNaming insts i id
naming_of insts i id h = by (is_line i) refl h
  where
    by : (b : Bool) → is_line i ≡ b → has (cond b [] (filter (is_global insts) (used_ids i))) id ≡ true → IsNaming insts i id
    by true e h = absurd (cc h)
    by false e h = let k = kept_has (is_global insts) (used_ids i) id h in record { plain = e; used = k.0; global = k.1 }

of_naming : (insts : List Instruction) (i : Instruction) (id : ℕ) → IsNaming insts i id → has (globals_of insts i) id ≡ true
of_naming insts i id m =
    ap (λ (b : Bool). has (cond b [] (filter (is_global insts) (used_ids i))) id) m.plain ∙ has_kept (is_global insts) (used_ids i) id m.used m.global

all_has : (P : ℕ → Type 0) (xs : List ℕ) (id : ℕ) → AllByRecursion P xs → has xs id ≡ true → P id
all_has P [] id all h = absurd (cc h)
all_has P (x ∷ xs) id all h = elim (either_holds (nat_eq id x) (has xs id) h) [
  | inl e ↦ subst P (sym (equal_true id x e)) all.0
  | inr g ↦ all_has P xs id all.1 g
]

module _ (t : Thinning) where
  referenced_before : (f id : ℕ) → In t f → IsReferenced t.after f id → IsReferenced t.before f id
  referenced_before f id s r =
      let m = flat_has (globals_of t.after) (function_at t.after r.place) id r.named in
      let o = function_stood t r.place m.0 m.1 in
      let n = naming_of t.after o.inst id (ap (λ (ws : List ℕ). has (globals_of t.after (inst ws)) id) (sym o.words) ∙ m.2) in
      let stays : In t id = all_has (In t) (used_ids o.inst) id (o.fact.kept o.kept).used n.used in
      let global : is_global t.before id ≡ true = sym (same_global t id stays) ∙ n.global in
      record {
        entry = place t r.entry;
        defined = place_stood t f s r.entry r.defined;
        place = place t r.place;
        reached = reached_before t r.entry r.place r.reached;
        named =
            has_flat (globals_of t.before) (function_at t.before (place t r.place)) id o.inst o.one
            (of_naming t.before o.inst id (record { plain = n.plain; used = n.used; global = global }));
      }

  pub interface_stays : (i j : Instruction) → FactOf t i → t.keep i ≡ true → j.words ≡ i.words → InterfaceFits t.before i → InterfaceFits t.after j
  interface_stays i j f e w fit h =
      let entry : is_entry_point i ≡ true = ap (λ (ws : List ℕ). is_entry_point (inst ws)) (sym w) ∙ h in
      let old = fit entry in
      subst (λ (ws : List ℕ). IsInterface t.after (slice_index ws 2) (interface (inst ws))) (sym w) (record {
        globals =
            all_on (In t) (is_global t.after) (is_global t.before) (same_global t) (interface i) (interface_used (In t) i f.whole entry (f.kept e).used) ∙ old.globals;
        once = old.once;
        all = λ id r. old.all id (referenced_before (slice_index i.words 2) id (entry_function_stays t i f e entry) r);
      })
