-- 602: where the listings of functions name no global variable that they did not name, the functions of the module name no more.
use Rattle.std.proofs.Common.{◌≡◌, ℕ, zero, suc, Bool, true, false, cond, ◌==◌, List, [], ◌∷◌, ◌++◌, drop, filter, length, refl, sym, ap, ap₂, subst, ◌∙◌}
use Rattle.std.specs.List.{AllByRecursion, flat_map}
use Rattle.spv_opcodes.specs.declared.op.TheConstants as op
use Rattle.spv_module.specs.Code.{is_function, is_line}
use Rattle.spv_module.specs.Instruction.{Instruction}
use Rattle.spv_ids.specs.Ids.{used_ids}
use Rattle.spv_calls.specs.Calls.{function_in, globals_in, is_global, up_to_function}
use Rattle.spv_calls.specs.Interfaces.{has}
use Rattle.spv_bodies.specs.Bodies.{Function}
use Rattle.spv_bodies.specs.Listing.{listed}
use Rattle.spv_tree.specs.Sound.{opcode_in}
use Rattle.spv_tree.specs.Tree.{words_of}
use Rattle.spv_respelling.proofs.Inside.{listing_text}
use Rattle.spv_norm.specs.Norm.{outside}
use Rattle.spv_norm_structured.proofs.Again.{all_by_words, parted}
use Rattle.spv_norm_structured.proofs.Pieces.{BeginsNone, IsPlain, piece_of_text}
use Rattle.spv_norm_entries.proofs.Starts.{up_step}
use Rattle.spv_rewritten.specs.Rewritten.{IsRewritten}
use Rattle.spv_rewritten.proofs.Lookups.{same_global}
use Rattle.spv_fine_edits.proofs.Lists.{all_both, each_by}
use Rattle.spv_built.specs.Built.{FunctionIsBuilt}
use Rattle.spv_built_edits.specs.Replaced.{AreReplacedFunctions, NameNoMore, globals_named}
use Rattle.spv_built_edits.specs.ReplacedLaws.{NamesWhereReplaced}
use Rattle.spv_built_edits.proofs.ReplacedLines.{Each, function_becomes}
use Rattle.spv_built_edits.proofs.ReplacedWhole.{functions_built, outside_is_plain, replaced_is_rewritten}

-- ---- the instructions of a function

-- OpFunction, and then instructions none of which is one
record IsOfFunction (t : List Instruction) : Type 0 where
  function : Instruction
  rest : List Instruction
  same : t ≡ function ∷ rest
  begins : is_function function ≡ true
  none : AllByRecursion BeginsNone rest

of_function : (insts : List Instruction) (f : Function) (t : List Instruction) → FunctionIsBuilt insts f → words_of t ≡ listed f → IsOfFunction t
of_function insts f t b e =
    let p = piece_of_text t (listing_text f t b.sound b.opens e) in
    record {
      function = p.function;
      rest = p.inner ++ p.last ∷ [];
      same = p.same;
      begins = ap (λ (o : ℕ). o == op.FUNCTION) p.begins;
      none =
          all_both BeginsNone p.inner (p.last ∷ []) (each_by IsPlain BeginsNone (λ i plain. plain.begins) p.inner p.plain)
          (ap (λ (o : ℕ). o == op.FUNCTION) p.ends, tt);
    }

-- up to the next function; induction on the instructions
up_to : (xs ys : List Instruction) → AllByRecursion BeginsNone xs → up_to_function ys ≡ [] → up_to_function (xs ++ ys) ≡ xs
up_to [] ys none stops = stops
up_to (x ∷ xs) ys none stops = up_step x (xs ++ ys) false none.0 ∙ ap (λ (is : List Instruction). x ∷ is) (up_to xs ys none.1 stops)

function_in_front : (t ys : List Instruction) → IsOfFunction t → up_to_function ys ≡ [] → function_in (t ++ ys) ≡ t
function_in_front t ys o stops =
    ap (λ (is : List Instruction). function_in (is ++ ys)) o.same
    ∙ ap (λ (b : Bool). cond b (o.function ∷ up_to_function (o.rest ++ ys)) []) o.begins
    ∙ ap (λ (is : List Instruction). o.function ∷ is) (up_to o.rest ys o.none stops) ∙ sym o.same

listings_stop : (insts : List Instruction) (fs : List Function) (is : List Instruction) → AllByRecursion (FunctionIsBuilt insts) fs
    → words_of is ≡ flat_map listed fs → up_to_function is ≡ []
listings_stop insts [] [] b e = refl
listings_stop insts [] (i ∷ is) b e = absurd (cc e)
listings_stop insts (f ∷ fs) [] b e = refl
listings_stop insts (f ∷ fs) (i ∷ is) b e =
    let same : i.words ≡ f.function = cc e in
    up_step i is true (ap (λ (ws : List ℕ). opcode_in ws == op.FUNCTION) same ∙ ap (λ (o : ℕ). o == op.FUNCTION) b.0.opens.function)

-- ---- what lines name

names_by_words : (insts before : List Instruction) → ((id : ℕ) → is_global insts id ≡ is_global before id) → (t : List Instruction)
    → globals_in insts t ≡ globals_named before (words_of t)
names_by_words insts before same [] = refl
names_by_words insts before same (i ∷ t) =
    ap₂ (λ (a b : List ℕ). a ++ b) (λ k. cond (is_line i) [] (filter (λ id. same id k) (used_ids i))) (names_by_words insts before same t)

as_many : (before : List Instruction) (olds news : List (List ℕ)) → Each before olds news → length news ≡ length olds
as_many before [] [] h = refl
as_many before [] (n ∷ news) h = absurd h
as_many before (o ∷ olds) [] h = absurd h
as_many before (o ∷ olds) (n ∷ news) h = ap suc (as_many before olds news h.1)

count_of : (is : List Instruction) → length (words_of is) ≡ length is
count_of [] = refl
count_of (i ∷ is) = ap suc (count_of is)

-- of two texts, line by line, behind their first lines
behind_first : (before : List Instruction) (t u : List Instruction) (o : IsOfFunction t) (p : IsOfFunction u) → Each before (words_of t) (words_of u)
    → length p.rest ≡ length o.rest
behind_first before t u o p h =
    let long : suc (length p.rest) ≡ suc (length o.rest) =
    sym (ap (λ (is : List Instruction). length is) p.same) ∙ sym (count_of u) ∙ as_many before (words_of t) (words_of u) h ∙ count_of t
    ∙ ap (λ (is : List Instruction). length is) o.same in
    cc long

module _ (before after : List Instruction) (w : IsRewritten before after) where
  -- the function at a place names no more
  abbrev NoMoreAt : (is js : List Instruction) (k : ℕ) → Type 0
  NoMoreAt is js k =
      (id : ℕ) → has (globals_in after (function_in (drop k js))) id ≡ true → has (globals_in before (function_in (drop k is))) id ≡ true

  none_named : (is js : List Instruction) (k : ℕ) → function_in (drop k js) ≡ [] → NoMoreAt is js k
  none_named is js k none id h = absurd (cc (sym (ap (λ (t : List Instruction). has (globals_in after t) id) none) ∙ h))

  -- behind instructions that begin no function; induction on them
  behind_others : (xs ys is js : List Instruction) → length ys ≡ length xs → AllByRecursion BeginsNone ys → ((k : ℕ) → NoMoreAt is js k)
      → (k : ℕ) → NoMoreAt (xs ++ is) (ys ++ js) k
  behind_others [] [] is js e none more k = more k
  behind_others [] (y ∷ ys) is js e none more k = absurd (cc e)
  behind_others (x ∷ xs) [] is js e none more k = absurd (cc e)
  behind_others (x ∷ xs) (y ∷ ys) is js e none more zero =
      none_named (x ∷ (xs ++ is)) (y ∷ (ys ++ js)) 0 (ap (λ (b : Bool). cond b (y ∷ up_to_function (ys ++ js)) []) none.0)
  behind_others (x ∷ xs) (y ∷ ys) is js e none more (suc k) = behind_others xs ys is js (cc e) none.1 more k

  -- one function, and what stands behind it
  one_function : (t u is js : List Instruction) (o : IsOfFunction t) (p : IsOfFunction u) → length p.rest ≡ length o.rest → up_to_function is ≡ []
      → up_to_function js ≡ [] → ((id : ℕ) → has (globals_in after u) id ≡ true → has (globals_in before t) id ≡ true) → ((k : ℕ) → NoMoreAt is js k)
      → (k : ℕ) → NoMoreAt (t ++ is) (u ++ js) k
  one_function t u is js o p long stops ends named more zero =
      λ id h. ap (λ (z : List Instruction). has (globals_in before z) id) (function_in_front t is o stops)
      ∙ named id (sym (ap (λ (z : List Instruction). has (globals_in after z) id) (function_in_front u js p ends)) ∙ h)
  one_function t u is js o p long stops ends named more (suc k) =
      subst (λ (z : List Instruction). NoMoreAt (z ++ is) (u ++ js) (suc k)) (sym o.same)
      (subst (λ (z : List Instruction). NoMoreAt (o.function ∷ (o.rest ++ is)) (z ++ js) (suc k)) (sym p.same)
      (behind_others o.rest p.rest is js long p.none more k))

  -- all of them; induction on the functions
  all_functions : (fs gs : List Function) (is js : List Instruction) → AllByRecursion (FunctionIsBuilt before) fs → AllByRecursion (FunctionIsBuilt after) gs
      → AreReplacedFunctions before fs gs → NameNoMore before fs gs → words_of is ≡ flat_map listed fs → words_of js ≡ flat_map listed gs
      → (k : ℕ) → NoMoreAt is js k
  all_functions [] [] is [] old new r n e f zero = none_named is [] 0 refl
  all_functions [] [] is [] old new r n e f (suc k) = none_named is [] (suc k) refl
  all_functions [] [] is (j ∷ js) old new r n e f k = absurd (cc f)
  all_functions [] (g ∷ gs) is js old new r n e f k = absurd r
  all_functions (h ∷ fs) [] is js old new r n e f k = absurd r
  all_functions (h ∷ fs) (g ∷ gs) is js old new r n e f k =
      let p = parted is (listed h) (flat_map listed fs) e in
      let q = parted js (listed g) (flat_map listed gs) f in
      let o = of_function before h p.front old.0 p.front_words in
      let u = of_function after g q.front new.0 q.front_words in
      let each : Each before (listed h) (listed g) =
      subst (λ g. Each before (listed h) (listed g)) (sym r.0.same) (function_becomes before r.0.replacing.edit h old.0.sound old.0.typed r.0.values) in
      let long = behind_first before p.front q.front o u (subst (λ (ls : List (List ℕ)). Each before ls (words_of q.front)) (sym p.front_words)
      (subst (λ (ls : List (List ℕ)). Each before (listed h) ls) (sym q.front_words) each)) in
      let named : (id : ℕ) → has (globals_in after q.front) id ≡ true → has (globals_in before p.front) id ≡ true =
      λ id k. ap (λ (ids : List ℕ). has ids id) (names_by_words before before (λ id. refl) p.front ∙ ap (globals_named before) p.front_words)
      ∙ n.0 id (sym (ap (λ (ids : List ℕ). has ids id)
      (names_by_words after before (same_global before before after w) q.front ∙ ap (globals_named before) q.front_words)) ∙ k) in
      subst (λ (z : List Instruction). NoMoreAt z js k) (sym p.same)
      (subst (λ (z : List Instruction). NoMoreAt (p.front ++ p.back) z k) (sym q.same)
      (one_function p.front q.front p.back q.back o u long (listings_stop before fs p.back old.1 p.back_words)
      (listings_stop after gs q.back new.1 q.back_words) named
      (all_functions fs gs p.back q.back old.1 new.1 r.1 n.1 p.back_words q.back_words) k))

same_count : (xs ys zs : List Instruction) → words_of xs ≡ words_of zs → words_of ys ≡ words_of zs → length ys ≡ length xs
same_count xs ys zs e f = sym (count_of ys) ∙ ap (λ (ls : List (List ℕ)). length ls) (f ∙ sym e) ∙ count_of xs

pub names_where_replaced : NamesWhereReplaced
names_where_replaced before after fs gs formed b r named place =
    let w : IsRewritten before after = replaced_is_rewritten before after fs gs formed b r in
    let p = parted before (words_of (outside before)) (flat_map listed fs) b.lines in
    let q = parted after (words_of (outside before)) (flat_map listed gs) r.lines in
    subst (λ (z : List Instruction). NoMoreAt before after w z after place) (sym p.same)
    (subst (λ (z : List Instruction). NoMoreAt before after w (p.front ++ p.back) z place) (sym q.same)
    (behind_others before after w p.front q.front p.back q.back (same_count p.front q.front (outside before) p.front_words q.front_words)
    (all_by_words (λ ws. (opcode_in ws == op.FUNCTION) ≡ false) q.front (outside before) q.front_words (outside_is_plain before))
    (all_functions before after w fs gs p.back q.back b.functions (functions_built before after fs gs formed b r) r.functions named p.back_words q.back_words)
    place))
