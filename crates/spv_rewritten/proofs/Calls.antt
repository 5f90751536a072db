-- 601: each function calls what it called; so none reaches itself.
use Rattle.std.proofs.Common.{◌≡◌, inl, inr, ℕ, Bool, true, false, cond, ◌==◌, ◌&&◌, List, [], ◌∷◌, drop, map, Option, None, refl, sym, ap, ap₂, subst, ◌∙◌, eqb-true}
use Rattle.std.specs.List.{cons_option, filter_map, range_with_len, slice_index}
use Rattle.graph.specs.Reaching.{IsReached}
use Rattle.graph.specs.Rows.{row}
use Rattle.spv_opcodes.specs.declared.op.TheConstants as op
use Rattle.spv_module.specs.Code.{is_function}
use Rattle.spv_module.specs.Instruction.{Instruction, opcode}
use Rattle.spv_ids.specs.Ids.{kind, place_of}
use Rattle.spv_calls.specs.Calls.{CallsFit, callee, calls, calls_at, function_at, function_in, up_to_function}
use Rattle.spv_norm_entries.proofs.Starts.{up_step}
use Rattle.spv_thinned.proofs.Walk.{inst}
use Rattle.spv_rewritten.specs.Rewritten.{EachAs, IsRewritten, IsRewrittenAs}
use Rattle.spv_rewritten.proofs.Common.{same_function}
use Rattle.spv_rewritten.proofs.Lookups.{same_kind, same_place}
use Rattle.spv_rewritten.proofs.Pairs.{each_drop, same_length, walk}

-- ---- functions pair by pair

module _ (R : Instruction → Instruction → Type 0) (same : (i j : Instruction) → R i j → is_function j ≡ is_function i) where
  abbrev UpTo : List Instruction → List Instruction → Type 0
  UpTo is js = EachAs R (up_to_function is) (up_to_function js)

  pub each_up_to : (is js : List Instruction) → EachAs R is js → UpTo is js
  each_up_to = walk R UpTo tt more
    where
      more : (i j : Instruction) (is js : List Instruction) → R i j → UpTo is js → UpTo (i ∷ is) (j ∷ js)
      more i j is js r h = by (is_function i) refl
        where
          by : (b : Bool) → is_function i ≡ b → UpTo (i ∷ is) (j ∷ js)
          by true e =
              subst (EachAs R (up_to_function (i ∷ is))) (sym (up_step j js true (same i j r ∙ e)))
              (subst (λ z. EachAs R z []) (sym (up_step i is true e)) tt)
          by false e =
              subst (EachAs R (up_to_function (i ∷ is))) (sym (up_step j js false (same i j r ∙ e)))
              (subst (λ z. EachAs R z (j ∷ up_to_function js)) (sym (up_step i is false e)) (r, h))

  each_in : (is js : List Instruction) → EachAs R is js → EachAs R (function_in is) (function_in js)
  each_in [] [] h = tt
  each_in [] (j ∷ js) h = absurd h
  each_in (i ∷ is) [] h = absurd h
  each_in (i ∷ is) (j ∷ js) h =
      subst (λ (b : Bool). EachAs R (function_in (i ∷ is)) (cond b (j ∷ up_to_function js) [])) (sym (same i j h.0)) (by (is_function i))
    where
      by : (b : Bool) → EachAs R (cond b (i ∷ up_to_function is) []) (cond b (j ∷ up_to_function js) [])
      by true = (h.0, each_up_to is js h.1)
      by false = tt

  pub each_function_at : (is js : List Instruction) → EachAs R is js → (k : ℕ) → EachAs R (function_at is k) (function_at js k)
  each_function_at is js h k = each_in (drop k is) (drop k js) (each_drop R k is js h)

-- ---- what they call

module _ (before after : List Instruction) (w : IsRewritten before after) where
  abbrev called : (b : Bool) (g : ℕ) → Option ℕ
  called b g = cond (b && kind before g == op.FUNCTION) (place_of before g) None

  same_callee : (i j : Instruction) → IsRewrittenAs before i j → callee after j ≡ callee before i
  same_callee i j r =
      (λ k. cond (opcode j == op.FUNCTION_CALL && same_kind before before after w (slice_index j.words 3) k == op.FUNCTION)
      (same_place before before after w (slice_index j.words 3) k) None)
      ∙ step r
    where
      at_call : (b : Bool) → (b ≡ true → slice_index j.words 3 ≡ slice_index i.words 3) → called b (slice_index j.words 3) ≡ called b (slice_index i.words 3)
      at_call true e = ap (called true) (e refl)
      at_call false e = refl

      step : IsRewrittenAs before i j
          → called (opcode j == op.FUNCTION_CALL) (slice_index j.words 3) ≡ called (opcode i == op.FUNCTION_CALL) (slice_index i.words 3)
      step (inl e) = ap (λ ws. called (opcode (inst ws) == op.FUNCTION_CALL) (slice_index ws 3)) e
      step (inr c) =
          ap (λ (o : ℕ). called (o == op.FUNCTION_CALL) (slice_index j.words 3)) c.kind
          ∙ at_call (opcode i == op.FUNCTION_CALL) (λ e. c.callee (eqb-true (opcode i) op.FUNCTION_CALL e))

  same_calls_at : (k : ℕ) → calls_at after k ≡ calls_at before k
  same_calls_at k =
      walk (IsRewrittenAs before) (λ is js. filter_map (callee after) js ≡ filter_map (callee before) is) refl
      (λ i j is js r h. ap₂ (λ (o : Option ℕ) (rest : List ℕ). cons_option o rest) (same_callee i j r) h)
      (function_at before k) (function_at after k) (each_function_at (IsRewrittenAs before) (same_function before) before after w k)

  pub same_calls : calls after ≡ calls before
  same_calls = λ x. map (λ k. same_calls_at k x) (range_with_len 0 (same_length (IsRewrittenAs before) before after w x))

  pub calls_stay : (k : ℕ) (i j : Instruction) → IsRewrittenAs before i j → CallsFit before k i → CallsFit after k j
  calls_stay k i j r fit f itself =
      fit (sym (same_function before i j r) ∙ f) (subst (λ (cs : List (List ℕ)). IsReached cs (row cs k) k) same_calls itself)
