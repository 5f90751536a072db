-- 605: the modes are those before, and what they name stays.
use Rattle.std.proofs.Common.{◌≡◌, inl, inr, ℕ, Bool, true, false, cond, not, nat_eq, nat_lt, ◌==◌, ◌&&◌, ◌||◌, List, [], ◌∷◌, filter, drop, Option, Some, None, refl, sym, ap, subst, ◌∙◌, eqb-true}
use Rattle.std.specs.Prelude.{count_by}
use Rattle.std.specs.List.{AllByRecursion, list_any, slice_index}
use Rattle.spv_opcodes.specs.declared.op.TheConstants as op
use Rattle.spv_opcodes.specs.declared.builtin.TheConstants as builtin
use Rattle.spv_opcodes.specs.declared.decoration.TheConstants as decoration
use Rattle.spv_opcodes.specs.declared.execution_mode.TheConstants as execution_mode
use Rattle.spv_grammar.specs.Table.{row_of}
use Rattle.spv_module.specs.Instruction.{Instruction, opcode}
use Rattle.spv_module.specs.Layout.{is_entry_point}
use Rattle.spv_repeats.specs.Repeats.{is_workgroup_size}
use Rattle.spv_typing.specs.Kinds.{is_constant, type_of}
use Rattle.spv_typing.specs.Operations.{has_shape, shape}
use Rattle.spv_walk.proofs.Unique.{both_left}
use Rattle.spv_alike_uses.proofs.Lookups.{and_on, same_constant, same_shape, same_type_of, type_of_stays}
use Rattle.spv_alike_uses.proofs.Used.{end_uses, used_word, used_words, word_uses}
use Rattle.spv_entries.specs.Sizes.{entry_function, id_function, is_mode, is_no_size, is_sized, literal_function, names, size_fits, sizes_all, sizes_unfit, some_names, two_name, unfit_function}
use Rattle.spv_trees.specs.Standing.{OneOf}
use Rattle.spv_norm_entries.proofs.Lists.{any_one, one_any, one_filtered}
use Rattle.spv_thinned.proofs.Walk.{inst}
use Rattle.spv_thinned_entries.proofs.Cases.{FactOf, In, Thinning, case_of}
use Rattle.spv_thinned_entries.proofs.Kept.{Misses, all_kept, any_kept, any_on, any_same_words, count_kept, count_same_words}
use Rattle.spv_thinned_entries.proofs.Modes.{MissesOf, entry_missing, id_misses, id_missing, literal_misses, literal_missing, missing, size_kept}

target_used : word_uses 0 op.DECORATE ≡ true
unfolding row_of
target_used = refl

size_uses : end_uses 2 op.EXECUTION_MODE_ID ≡ true
unfolding row_of
size_uses = refl

one_all : {X : Type 0} (P : X → Type 0) (xs : List X) (x : X) → AllByRecursion P xs → OneOf x xs → P x
one_all P [] x all o = absurd o
one_all P (y ∷ ys) x all (inl e) = subst P (sym e) all.0
one_all P (y ∷ ys) x all (inr o) = one_all P ys x all.1 o

and_none : (b : Bool) → (b && false) ≡ false
and_none true = refl
and_none false = refl

module _ (t : Thinning) where
  -- ---- modes are as before

  some_kept : (p : List ℕ → Bool) → AllByRecursion (Misses t.keep (λ i. p i.words)) t.before
      → list_any (λ (i : Instruction). p i.words) t.after ≡ list_any (λ (i : Instruction). p i.words) t.before
  some_kept p m = any_same_words p t.after (filter t.keep t.before) t.thin.words ∙ any_kept t.keep (λ (i : Instruction). p i.words) t.before m

  as_often : (p : List ℕ → Bool) → AllByRecursion (Misses t.keep (λ i. p i.words)) t.before
      → count_by (λ (i : Instruction). p i.words) t.after ≡ count_by (λ (i : Instruction). p i.words) t.before
  as_often p m = count_same_words p t.after (filter t.keep t.before) t.thin.words ∙ count_kept t.keep (λ (i : Instruction). p i.words) t.before m

  abbrev named : (Instruction → Option ℕ) → (f : ℕ) → List ℕ → Bool
  named kind f ws = names (kind (inst ws)) f

  -- ---- sizes that do not fit

  same_no_size : (id : ℕ) → In t id → is_no_size t.after id ≡ is_no_size t.before id
  same_no_size id s =
      ap not
      (and_on (is_constant t.after id) (is_constant t.before id) _ _ (same_constant (case_of t) id s)
      (λ h. ap (λ (u : ℕ). has_shape false 1 (shape t.after u)) (same_type_of (case_of t) id s h)
      ∙ ap (has_shape false 1) (same_shape (case_of t) (type_of t.before id) (type_of_stays (case_of t) id s h))))

  any_no_size : (ids : List ℕ) → AllByRecursion (In t) ids → list_any (is_no_size t.after) ids ≡ list_any (is_no_size t.before) ids
  any_no_size ids all = any_on (In t) (is_no_size t.after) (is_no_size t.before) same_no_size ids all

  sizes_stay : (i : Instruction) → FactOf t i → t.keep i ≡ true → (opcode i == op.EXECUTION_MODE_ID) ≡ true → AllByRecursion (In t) (drop 3 i.words)
  sizes_stay i f e h = used_words (In t) i f.whole (f.kept e).used 2 (ap (end_uses 2) (eqb-true (opcode i) op.EXECUTION_MODE_ID h) ∙ size_uses)

  -- the function of a LocalSize or LocalSizeId, where a test of its ids is passed
  abbrev unfit_by : (i : Instruction) (mode by_ids unfit : Bool) → Option ℕ
  unfit_by i m d x =
      cond
      (cond m (list_any (nat_eq 0) (drop 3 i.words)) x
      && (names (cond (m && slice_index i.words 2 == execution_mode.LOCAL_SIZE) (Some (slice_index i.words 1)) None) (slice_index i.words 1)
      || names (cond (d && slice_index i.words 2 == execution_mode.LOCAL_SIZE_ID) (Some (slice_index i.words 1)) None) (slice_index i.words 1)))
      (Some (slice_index i.words 1)) None

  same_unfit : (i : Instruction) → FactOf t i → t.keep i ≡ true → unfit_function t.after i ≡ unfit_function t.before i
  same_unfit i f e =
      by (opcode i == op.EXECUTION_MODE) (opcode i == op.EXECUTION_MODE_ID) (list_any (is_no_size t.after) ids) (list_any (is_no_size t.before) ids)
      (λ h. any_no_size ids (sizes_stay i f e h))
    where
      ids : List ℕ
      ids = drop 3 i.words

      by : (m d x y : Bool) → (d ≡ true → x ≡ y) → unfit_by i m d x ≡ unfit_by i m d y
      by true d x y h = refl
      by false true x y h = ap (unfit_by i false true) (h refl)
      by false false x y h =
          ap (λ (b : Bool). cond b (Some (slice_index i.words 1)) None) (and_none x)
          ∙ sym (ap (λ (b : Bool). cond b (Some (slice_index i.words 1)) None) (and_none y))

  unfit_missing : (f : ℕ) → MissesOf t (unfit_function t.before) f
  unfit_missing f =
      missing t (unfit_function t.before) f
      (λ i p. ap (λ (b : Bool). names (cond (sizes_unfit t.before i && (b || names (id_function i) (slice_index i.words 1))) (Some (slice_index i.words 1)) None) f)
      (literal_misses t i (slice_index i.words 1) p)
      ∙ ap (λ (b : Bool). names (cond (sizes_unfit t.before i && b) (Some (slice_index i.words 1)) None) f) (id_misses t i (slice_index i.words 1) p)
      ∙ ap (λ (b : Bool). names (cond b (Some (slice_index i.words 1)) None) f) (and_none (sizes_unfit t.before i)))

  some_unfit : (f : ℕ) → some_names (unfit_function t.after) t.after f ≡ some_names (unfit_function t.before) t.before f
  some_unfit f =
      any_same_words (named (unfit_function t.after) f) t.after (filter t.keep t.before) t.thin.words
      ∙ any_on (λ i. FactOf t i × (t.keep i ≡ true)) (λ i. names (unfit_function t.after i) f) (λ i. names (unfit_function t.before i) f)
      (λ i k. ap (λ (o : Option ℕ). names o f) (same_unfit i k.0 k.1)) (filter t.keep t.before) (all_kept t.keep (FactOf t) t.before t.facts)
      ∙ any_kept t.keep (λ i. names (unfit_function t.before i) f) t.before (unfit_missing f)

  -- ---- a constant that is the size of all

  -- the decoration is kept, and so its target stays
  target_stays : (i : Instruction) → FactOf t i → t.keep i ≡ true → is_workgroup_size i ≡ true → In t (slice_index i.words 1)
  target_stays i f e h =
      used_word (In t) i f.whole (f.kept e).used 0
      (ap (word_uses 0)
      (eqb-true (opcode i) op.DECORATE
      (both_left (opcode i == op.DECORATE) (slice_index i.words 2 == decoration.BUILTIN && slice_index i.words 3 == builtin.WORKGROUP_SIZE) h))
      ∙ target_used)

  all_sized : list_any (sizes_all t.before) t.before ≡ true → list_any (sizes_all t.after) t.after ≡ true
  all_sized h =
      let r = any_one (sizes_all t.before) t.before h in
      let target : ℕ = slice_index r.0.words 1 in
      let sizes : is_workgroup_size r.0 ≡ true = both_left (is_workgroup_size r.0) (is_constant t.before target) r.2 in
      let kept : t.keep r.0 ≡ true = one_all (λ i. is_workgroup_size i ≡ true → t.keep i ≡ true) t.before r.0 (size_kept t) r.1 sizes in
      let stays : In t target = target_stays r.0 (one_all (FactOf t) t.before r.0 t.facts r.1) kept sizes in
      any_same_words (λ ws. sizes_all t.after (inst ws)) t.after (filter t.keep t.before) t.thin.words
      ∙ one_any (sizes_all t.after) (filter t.keep t.before) r.0 (one_filtered t.keep t.before r.0 r.1 kept)
      (ap (λ b. is_workgroup_size r.0 && b) (same_constant (case_of t) target stays) ∙ r.2)

  -- ---- the rule

  grow : (a b c d x : Bool) → (c ≡ true → d ≡ true) → ((a || (b || c)) && x) ≡ true → ((a || (b || d)) && x) ≡ true
  grow true b c d x g h = h
  grow false true c d x g h = h
  grow false false true d x g h = ap (λ (b : Bool). b && x) (g refl) ∙ h
  grow false false false d x g h = absurd (cc h)

  sized_stays : (f : ℕ) → is_sized t.before f ≡ true → is_sized t.after f ≡ true
  sized_stays f h =
      five
      (some_kept (named literal_function f) (literal_missing t f))
      (some_kept (named id_function f) (id_missing t f))
      (ap (nat_lt 1) (as_often (named literal_function f) (literal_missing t f)))
      (ap (nat_lt 1) (as_often (named id_function f) (id_missing t f)))
      (some_unfit f)
      ∙ grow (some_names literal_function t.before f) (some_names id_function t.before f) (list_any (sizes_all t.before) t.before)
      (list_any (sizes_all t.after) t.after)
      (not (two_name literal_function t.before f) && (not (two_name id_function t.before f) && not (some_names (unfit_function t.before) t.before f))) all_sized h
    where
      five : {a b d e g p q s r u : Bool} → a ≡ p → b ≡ q → d ≡ s → e ≡ r → g ≡ u
          → ((a || (b || list_any (sizes_all t.after) t.after)) && (not d && (not e && not g)))
          ≡ ((p || (q || list_any (sizes_all t.after) t.after)) && (not s && (not r && not u)))
      five h1 h2 h4 h5 h6 = λ i. (h1 i || (h2 i || list_any (sizes_all t.after) t.after)) && (not (h4 i) && (not (h5 i) && not (h6 i)))

  pub size_stays : (i j : Instruction) → j.words ≡ i.words → size_fits t.before i ≡ true → size_fits t.after j ≡ true
  unfolding size_fits
  size_stays i j w h =
      ap
      (λ ws. cond (is_entry_point (inst ws)) (is_sized t.after (slice_index ws 2))
      (not (is_mode (inst ws)) || some_names entry_function t.after (slice_index ws 1))) w
      ∙ ap (λ (b : Bool). cond (is_entry_point i) (is_sized t.after (slice_index i.words 2)) (not (is_mode i) || b))
      (some_kept (named entry_function (slice_index i.words 1)) (entry_missing t (slice_index i.words 1)))
      ∙ by (is_entry_point i) h
    where
      others : Bool
      others = not (is_mode i) || some_names entry_function t.before (slice_index i.words 1)

      by : (b : Bool) → cond b (is_sized t.before (slice_index i.words 2)) others ≡ true → cond b (is_sized t.after (slice_index i.words 2)) others ≡ true
      by true h = sized_stays (slice_index i.words 2) h
      by false h = h
