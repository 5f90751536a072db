-- 601: where a function of the normal form calls one, the function of the module calls that of the module; so none reaches itself.
use Rattle.std.proofs.Common.{◌≡◌, ℕ, zero, suc, ◌<◌, Bool, true, false, cond, not, nat_eq, ◌==◌, ◌&&◌, ◌||◌, List, [], ◌∷◌, length, drop, slice_get, slice_index, Some, None, refl, sym, ap, subst, ◌∙◌, arith}
use Rattle.std.specs.Option.{option_map_or}
use Rattle.std.proofs.lemmas.List.FromFn.{get_or-map-range_with_len}
use Rattle.graph.specs.Reaching.{Reaches}
use Rattle.graph.specs.Reaching.Reaches.{Here, Along}
use Rattle.graph.specs.Rows.{HasEdge, row}
use Rattle.graph.proofs.Edges.{element-named, named-element}
use Rattle.graph.proofs.Elements.{same_test}
use Rattle.graph.proofs.ReachedPlaces.{edge-within}
use Rattle.spv_opcodes.specs.declared.op.TheConstants as op
use Rattle.spv_grammar.specs.Roles.{is_defined_id}
use Rattle.spv_grammar.specs.Table.{row_of}
use Rattle.spv_module.specs.Code.{is_function, is_line}
use Rattle.spv_module.specs.Instruction.{Instruction, opcode, word_with}
use Rattle.spv_ids.specs.Ids.{defines, kind, place_of}
use Rattle.spv_declarations.proofs.Parts.{defined-typed, row_test, first_typed}
use Rattle.spv_walk.proofs.Unique.{equal_true}
use Rattle.spv_tree.specs.declared.body.Body.{Body}
use Rattle.spv_calls.specs.Calls.{CallsFit, CallsItself, callee, calls, calls_at, function_at, function_in, up_to_function}
use Rattle.spv_calls.specs.Interfaces.{has}
use Rattle.spv_calls.proofs.Interfaces.{length-calls}
use Rattle.spv_trees.specs.Standing.{OneOf}
use Rattle.spv_norm_structured.specs.Laws.{IsNormAgain, IsReadAsTrees}
use Rattle.spv_norm_structured.proofs.Again.{place_below}
use Rattle.spv_norm_entries.proofs.Functions.{Corresponds, corresponding}
use Rattle.spv_norm_entries.proofs.Lists.{filtered_one, has_mapped, inst_of, mapped_has}
use Rattle.spv_norm_entries.proofs.Places.{at_position, the_kind, the_place}

-- ---- rows of calls

row_at : (insts : List Instruction) (p : ℕ) → p < length insts → row (calls insts) p ≡ calls_at insts p
row_at insts p below = get_or-map-range_with_len (calls_at insts) 0 (length insts) p p [] below (omega arith)

pub edge_called : (insts : List Instruction) (p r : ℕ) → HasEdge (calls insts) p r → has (calls_at insts p) r ≡ true
edge_called insts p r e =
    let below : p < length insts = subst (λ n. p < n) (length-calls insts) (edge-within (calls insts) p r e) in
    ap (λ xs. has xs r) (sym (row_at insts p below)) ∙ element-named (row (calls insts) p) r e

pub called_edge : (insts : List Instruction) (p r : ℕ) → p < length insts → has (calls_at insts p) r ≡ true → HasEdge (calls insts) p r
called_edge insts p r below h = named-element (row (calls insts) p) r (ap (λ xs. has xs r) (row_at insts p below) ∙ h)

-- ---- what is called

pub record IsCall (insts : List Instruction) (i : Instruction) (p : ℕ) : Type 0 where
  pub call : (opcode i == op.FUNCTION_CALL) ≡ true
  pub function : (kind insts (slice_index i.words 3) == op.FUNCTION) ≡ true
  pub place : place_of insts (slice_index i.words 3) ≡ Some p

callee_is : (insts : List Instruction) (i : Instruction) (p : ℕ) → callee insts i ≡ Some p → IsCall insts i p
callee_is insts i p e = by (opcode i == op.FUNCTION_CALL) (kind insts g == op.FUNCTION) refl refl e where
  g : ℕ
  g = slice_index i.words 3

  by : (b c : Bool) → (opcode i == op.FUNCTION_CALL) ≡ b → (kind insts g == op.FUNCTION) ≡ c → cond (b && c) (place_of insts g) None ≡ Some p → IsCall insts i p
  by true true f k e = record { call = f; function = k; place = e }
  by true false f k e = absurd (cc e)
  by false c f k e = absurd (cc e)

-- a place with a function is that of an OpFunction
pub record IsPlace (insts : List Instruction) (p : ℕ) : Type 0 where
  pub inst : Instruction
  pub there : slice_get insts p ≡ Some inst
  pub begins : is_function inst ≡ true

place_in : (is : List Instruction) (p : ℕ) (i : Instruction) → OneOf i (function_in (drop p is)) → IsPlace is p
place_in [] zero i o = absurd o
place_in [] (suc p) i o = absurd o
place_in (y ∷ ys) zero i o = by (is_function y) refl o where
  by : (b : Bool) → is_function y ≡ b → OneOf i (cond b (y ∷ up_to_function ys) []) → IsPlace (y ∷ ys) 0
  by true h o = record { inst = y; there = refl; begins = h }
  by false h o = absurd o
place_in (y ∷ ys) (suc p) i o = let r = place_in ys p i o in record { inst = r.inst; there = r.there; begins = r.begins }

pub place_of_function : (insts : List Instruction) (p : ℕ) (i : Instruction) → OneOf i (function_at insts p) → IsPlace insts p
place_of_function insts p i o = place_in insts p i o

pub place_of_edge : (insts : List Instruction) (p r : ℕ) → HasEdge (calls insts) p r → IsPlace insts p
place_of_edge insts p r e =
    let m = mapped_has (callee insts) (function_at insts p) r (edge_called insts p r e) in
    place_of_function insts p m.0 m.1

-- from where a function is reached, a function stands; by induction on the walk
pub origin : (insts : List Instruction) (e p : ℕ) → Reaches (calls insts) e p → IsPlace insts p → IsPlace insts e
origin insts e p Here h = h
origin insts e p (Along w edge) h = origin insts e _ w (place_of_edge insts _ p edge)

function_row : row_test first_typed (row_of op.FUNCTION) ≡ true
unfolding row_of
function_row = refl

function_no_line : (i : Instruction) → is_function i ≡ true → is_line i ≡ false
function_no_line i h = ap (λ o. o == op.LINE || o == op.NO_LINE) (equal_true (opcode i) op.FUNCTION h)

module _ (insts again : List Instruction) (bodies : List Body) (h : IsReadAsTrees insts bodies) (n : IsNormAgain insts again) where
  abbrev Same : ℕ → ℕ → Type 0
  Same p q = Corresponds insts again bodies h n p q

  -- what the OpFunction at p defines, that at q defines
  source_defines : (p q g : ℕ) (c : Same p q) (x : Instruction) → slice_get again p ≡ Some x → defines g x ≡ true → defines g c.source ≡ true
  source_defines p q g c x there d =
      let one : Some c.first ≡ Some x = sym c.there ∙ there in
      let first : c.first ≡ x = cc one in
      ap (λ w. defines g (inst_of w)) (sym c.same ∙ ap (λ (i : Instruction). i.words) first) ∙ d

  source_place : (p q g : ℕ) (c : Same p q) → defines g c.source ≡ true → place_of insts g ≡ Some q
  source_place p q g c d = the_place insts h.once q c.source c.stands (function_no_line c.source c.begins) g d

  source_kind : (p q g : ℕ) (c : Same p q) → defines g c.source ≡ true → (kind insts g == op.FUNCTION) ≡ true
  source_kind p q g c d = ap (λ o. o == op.FUNCTION) (the_kind insts h.once q c.source c.stands (function_no_line c.source c.begins) g d) ∙ c.begins

  pub record IsFunctionOf (g p : ℕ) : Type 0 where
    pub place : ℕ
    pub same : Same p place
    pub defined : place_of insts g ≡ Some place
    pub function : (kind insts g == op.FUNCTION) ≡ true

  -- a function by its id
  pub named_function : (g p : ℕ) → place_of again g ≡ Some p → IsPlace again p → IsFunctionOf g p
  named_function g p e f =
      let c = corresponding insts again bodies h n p f.inst f.there f.begins in
      let a = at_position (defines g) again p e in
      let d = source_defines p c.0 g c.1 a.here a.there a.passes in
      record { place = c.0; same = c.1; defined = source_place p c.0 g c.1 d; function = source_kind p c.0 g c.1 d }

  pub function_place : (g p : ℕ) → place_of again g ≡ Some p → (kind again g == op.FUNCTION) ≡ true → IsPlace again p
  function_place g p e f =
      let a = at_position (defines g) again p e in
      record { inst = a.here; there = a.there; begins = sym (ap (λ o. option_map_or opcode o 0 == op.FUNCTION) a.found) ∙ f }

  pub record IsCalledToo (q r : ℕ) : Type 0 where
    pub place : ℕ
    pub same : Same r place
    pub called : has (calls_at insts q) place ≡ true

  called_too : (p q r : ℕ) (c : Same p q) (i : Instruction) → OneOf i (function_at again p) → IsCall again i r → IsCalledToo q r
  called_too p q r c i one k =
      let g : ℕ = slice_index i.words 3 in
      let f = named_function g r k.place (function_place g r k.place k.function) in
      let m = (c.made i one).called (equal_true (opcode i) op.FUNCTION_CALL k.call) in
      let there = filtered_one (λ x. not (is_line x)) (function_at insts q) m.0 m.1 in
      let callee_there : callee insts m.0 ≡ Some f.place =
      ap (λ w. callee insts (inst_of w)) m.2
      ∙ ap (λ (b : Bool). cond (b && kind insts g == op.FUNCTION) (place_of insts g) None) k.call
      ∙ ap (λ (b : Bool). cond b (place_of insts g) None) f.function
      ∙ f.defined in
      record { place = f.place; same = f.same; called = has_mapped (callee insts) (function_at insts q) f.place m.0 there.0 callee_there }

  pub edge_too : (p q r : ℕ) → Same p q → HasEdge (calls again) p r → IsCalledToo q r
  edge_too p q r c e =
      let m = mapped_has (callee again) (function_at again p) r (edge_called again p r e) in
      called_too p q r c m.0 m.1 (callee_is again m.0 r m.2)

  -- two functions of the module for one of the normal form are one
  pub one_source : (p q s : ℕ) → Same p q → Same p s → q ≡ s
  one_source p q s c d =
      let id : ℕ = slice_index (drop 1 c.source.words) 1 in
      let result : word_with is_defined_id c.source ≡ Some id =
      defined-typed c.source (h.instructions q c.source c.stands)
      (ap (λ o. row_test first_typed (row_of o)) (equal_true (opcode c.source) op.FUNCTION c.begins) ∙ function_row) in
      let own : defines id c.source ≡ true = ap (λ o. option_map_or (nat_eq id) o false) result ∙ same_test id id refl in
      let one : Some c.first ≡ Some d.first = sym c.there ∙ d.there in
      let first : c.first ≡ d.first = cc one in
      let words : d.source.words ≡ c.source.words = sym d.same ∙ ap (λ (i : Instruction). i.words) (sym first) ∙ c.same in
      let other : defines id d.source ≡ true = ap (λ w. defines id (inst_of w)) words ∙ own in
      let places : Some q ≡ Some s = sym (source_place p q id c own) ∙ source_place p s id d other in
      cc places

  pub record IsReachedToo (q r : ℕ) : Type 0 where
    pub place : ℕ
    pub same : Same r place
    pub reached : Reaches (calls insts) q place

  -- by induction on the walk
  pub reached_too : (p q r : ℕ) → Same p q → Reaches (calls again) p r → IsReachedToo q r
  reached_too p q r c Here = record { place = q; same = c; reached = Here }
  reached_too p q r c (Along w e) = next (reached_too p q _ c w) e where
    next : {m : ℕ} → IsReachedToo q m → HasEdge (calls again) m r → IsReachedToo q r
    next {m} a e =
        let b = edge_too m a.place r a.same e in
        record {
          place = b.place;
          same = b.same;
          reached = Along a.reached (called_edge insts a.place b.place (place_below insts a.place a.same.source a.same.stands) b.called);
        }

  itself_too : (p q : ℕ) → Same p q → CallsItself again p → CallsItself insts q
  itself_too p q c r =
      let e = edge_too p q r.0 c r.1 in
      let w = reached_too r.0 e.place p e.same r.2 in (
        e.place,
        called_edge insts q e.place (place_below insts q c.source c.stands) e.called,
        subst (Reaches (calls insts) e.place) (one_source p w.place q w.same c) w.reached,
      )

  pub calls_stay : ((q : ℕ) (j : Instruction) → slice_get insts q ≡ Some j → CallsFit insts q j)
      → (p : ℕ) (i : Instruction) → slice_get again p ≡ Some i → CallsFit again p i
  calls_stay fit p i there f r =
      let c = corresponding insts again bodies h n p i there f in
      fit c.0 c.1.source c.1.stands c.1.begins (itself_too p c.0 c.1 r)
