-- 601: where a function calls one it called it before a declaration was added; so none reaches itself.
use Rattle.std.proofs.Common.{◌≡◌, ℕ, ◌<◌, Bool, true, false, cond, ◌==◌, ◌&&◌, List, length, Some, None, refl, sym, ap, ◌∙◌, eqb-true}
use Rattle.std.specs.List.{slice_get, slice_index}
use Rattle.std.proofs.lemmas.Option.{slice_get_within}
use Rattle.graph.specs.Reaching.{Reaches}
use Rattle.graph.specs.Reaching.Reaches.{Here, Along}
use Rattle.graph.specs.Rows.{HasEdge}
use Rattle.spv_opcodes.specs.declared.op.TheConstants as op
use Rattle.spv_grammar.specs.Table.{row_of}
use Rattle.spv_module.specs.Code.{is_function}
use Rattle.spv_module.specs.Instruction.{Instruction, opcode}
use Rattle.spv_ids.specs.Ids.{kind, place_of}
use Rattle.spv_alike_uses.proofs.Used.{used_word, word_uses}
use Rattle.spv_calls.specs.Calls.{CallsFit, CallsItself, callee, calls, function_at}
use Rattle.spv_trees.specs.Standing.{OneOf}
use Rattle.spv_norm_entries.proofs.Calls.{called_edge, edge_called, place_of_function}
use Rattle.spv_norm_entries.proofs.Lists.{has_mapped, mapped_has}
use Rattle.spv_added.proofs.Walk.{Adding, FactOf, In, inst}
use Rattle.spv_added.proofs.Definitions.{same_kind}
use Rattle.spv_added.proofs.Standing.{function_stood, function_there, lower, place_stood}

call_uses : word_uses 2 op.FUNCTION_CALL ≡ true
unfolding row_of
call_uses = refl

module _ (t : Adding) where
  abbrev place : ℕ → ℕ
  place p = lower t.front p

  -- the function that a call names is another id than the new one
  callee_stays : (i : Instruction) → FactOf t i → (opcode i == op.FUNCTION_CALL) ≡ true → In t (slice_index i.words 3)
  callee_stays i f h = used_word (In t) i f.whole f.free.used 2 (ap (word_uses 2) (eqb-true (opcode i) op.FUNCTION_CALL h) ∙ call_uses)

  -- what an instruction calls it called
  called_before : (i : Instruction) → FactOf t i → (r : ℕ) → callee t.after i ≡ Some r → callee t.before i ≡ Some (place r)
  called_before i f r h = by (opcode i == op.FUNCTION_CALL) refl h
    where
      g : ℕ
      g = slice_index i.words 3

      at : In t g → (b : Bool) → (kind t.after g == op.FUNCTION) ≡ b → cond b (place_of t.after g) None ≡ Some r
          → cond (kind t.before g == op.FUNCTION) (place_of t.before g) None ≡ Some (lower t.front r)
      at s true k h =
          ap (λ (b : Bool). cond b (place_of t.before g) None) (sym (ap (λ (o : ℕ). o == op.FUNCTION) (same_kind t g s)) ∙ k) ∙ place_stood t g s r h
      at s false k h = absurd (cc h)

      by : (b : Bool) → (opcode i == op.FUNCTION_CALL) ≡ b → cond (b && kind t.after g == op.FUNCTION) (place_of t.after g) None ≡ Some r
          → cond (b && kind t.before g == op.FUNCTION) (place_of t.before g) None ≡ Some (lower t.front r)
      by true c h = at (callee_stays i f c) (kind t.after g == op.FUNCTION) refl h
      by false c h = absurd (cc h)

  -- a place where a function has an instruction is one of the module
  function_below : (p : ℕ) (x : Instruction) → OneOf x (function_at t.before p) → p < length t.before
  function_below p x o = let f = place_of_function t.before p x o in slice_get_within t.before p f.inst f.there

  edge_before : (p r : ℕ) → HasEdge (calls t.after) p r → HasEdge (calls t.before) (place p) (place r)
  edge_before p r e =
      let m = mapped_has (callee t.after) (function_at t.after p) r (edge_called t.after p r e) in
      let o = function_stood t p m.0 m.1 in
      let c : callee t.after o.inst ≡ Some r = ap (λ (ws : List ℕ). callee t.after (inst ws)) (sym o.words) ∙ m.2 in
      called_edge t.before (place p) (place r) (function_below (place p) o.inst o.one)
      (has_mapped (callee t.before) (function_at t.before (place p)) (place r) o.inst o.one (called_before o.inst o.fact r c))

  -- by induction on the walk
  pub reached_before : (p r : ℕ) → Reaches (calls t.after) p r → Reaches (calls t.before) (lower t.front p) (lower t.front r)
  reached_before p r Here = Here
  reached_before p r (Along w e) = Along (reached_before p _ w) (edge_before _ r e)

  itself_before : (p : ℕ) → CallsItself t.after p → CallsItself t.before (place p)
  itself_before p r = (place r.0, edge_before p r.0 r.1, reached_before r.0 p r.2)

  pub calls_stay : ((q : ℕ) (i : Instruction) → slice_get t.before q ≡ Some i → CallsFit t.before q i)
      → (p : ℕ) (j : Instruction) → slice_get t.after p ≡ Some j → CallsFit t.after p j
  calls_stay fit p j at f r =
      let s = function_there t p j at f in
      fit (place p) s.inst s.there (ap (λ (ws : List ℕ). is_function (inst ws)) (sym s.words) ∙ f) (itself_before p r)
