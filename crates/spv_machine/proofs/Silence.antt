-- Modules that say the same mean the same, and instructions that say nothing may go.
use Rattle.std.proofs.Common.{◌≡◌, ℕ, Bool, true, false, not, cond, ◌||◌, List, [], ◌∷◌, drop, refl, sym, ap, ◌∙◌, subst}
use Rattle.std.specs.Prelude.{◌↔◌, filter}
use Rattle.interleaving.specs.Machine as machine
use Rattle.interleaving.specs.Trace as alone
use Rattle.spv_module.specs.Code.{Code, code_of, spelling}
use Rattle.spv_module.specs.Instruction.{Instruction, opcode}
use Rattle.spv_meaning.specs.Statements.{Statement, is_debug, is_debug_opcode, is_line_opcode, is_silent, said, statements_in, words_of}
use Rattle.spv_machine.specs.Dispatch.{Bound, Dispatch}
use Rattle.spv_machine.specs.Setting.{setting, size_in, FitsStatements, invocations}
use Rattle.spv_machine.specs.Effects.{Shared, effects}
use Rattle.spv_machine.specs.Steps.{look, first_state, program}
use Rattle.spv_machine.specs.Machine.{statements, Fits, workgroup_size, Trace, Ends, Finals, invocation_count}
use Rattle.spv_machine.specs.Laws.{MeansSame, StripLaw, SilenceLaw, StripWordsLaw, without_debug}
use Rattle.spv_machine.proofs.Spelling.{spelled_again, filtered_counted, cut_counted}

both_ways : {X : Type 0} (P : X → Type 0) (x y : X) → y ≡ x → P x ↔ P y
both_ways P x y e = (subst P (sym e), subst P e)

fits_same : (m m2 : Code) (d : Dispatch) → statements m2 ≡ statements m → Fits m d ↔ Fits m2 d
unfolding Fits
fits_same m m2 d e = both_ways (λ z. FitsStatements z d) (statements m) (statements m2) e

size_same : (m m2 : Code) (d : Dispatch) → statements m2 ≡ statements m → workgroup_size m2 d ≡ workgroup_size m d
unfolding workgroup_size
size_same m m2 d e = ap (λ z. size_in z d) e

count_same : (m m2 : Code) (d : Dispatch) → statements m2 ≡ statements m → invocation_count m2 d ≡ invocation_count m d
unfolding invocation_count
count_same m m2 d e = ap (λ z. invocations (setting z d)) e

trace_same : (m m2 : Code) (d : Dispatch) → statements m2 ≡ statements m → (i n : ℕ) (answers : List (List ℕ)) → Trace m2 d i n answers ≡ Trace m d i n answers
unfolding Trace
trace_same m m2 d e i n answers = ap (λ z. alone.trace_of (look (setting z d)) (first_state (setting z d) i) n answers) e

ends_same : (m m2 : Code) (d : Dispatch) → statements m2 ≡ statements m → Ends m d ↔ Ends m2 d
unfolding Ends
ends_same m m2 d e = both_ways (λ z. machine.Ends (effects (setting z d)) (program (setting z d))) (statements m) (statements m2) e

finals_same : (m m2 : Code) (d : Dispatch) → statements m2 ≡ statements m → (buffers : List Bound) → Finals m d buffers ↔ Finals m2 d buffers
unfolding Finals
finals_same m m2 d e buffers =
    both_ways (λ z. (shared : Shared) × machine.Finals (effects (setting z d)) (program (setting z d)) shared × (shared.buffers ≡ buffers)) (statements m) (statements m2) e

-- modules that say the same
pub means_same : (m m2 : Code) → statements m2 ≡ statements m → (d : Dispatch) → MeansSame m m2 d
means_same m m2 e d = record {
  fits = fits_same m m2 d e;
  size = size_same m m2 d e;
  count = count_same m m2 d e;
  trace = trace_same m m2 d e;
  ends = ends_same m m2 d e;
  finals = finals_same m m2 d e;
}

silent_says : (i : Instruction) (rest : List Statement) → is_silent i ≡ true → said i.words rest ≡ rest
silent_says i rest h = rw h refl

-- one instruction, kept or not
kept_or_silent : (keep : Instruction → Bool) (i : Instruction) (is : List Instruction) (b : Bool) → keep i ≡ b → (b ≡ false → is_silent i ≡ true) → statements_in (words_of (filter keep is)) ≡ statements_in (words_of is) → statements_in (words_of (filter keep (i ∷ is))) ≡ statements_in (words_of (i ∷ is))
unfolding statements_in
kept_or_silent keep i is true e silent ih =
    ap (λ b. statements_in (words_of (cond b (i ∷ filter keep is) (filter keep is)))) e ∙ ap (said i.words) ih
kept_or_silent keep i is false e silent ih =
    ap (λ b. statements_in (words_of (cond b (i ∷ filter keep is) (filter keep is)))) e ∙ (ih ∙ sym (silent_says i (statements_in (words_of is)) (silent refl)))

-- instructions without some of those that say nothing say the same
pub filtered_says : (keep : Instruction → Bool) → ((i : Instruction) → keep i ≡ false → is_silent i ≡ true) → (insts : List Instruction) → statements_in (words_of (filter keep insts)) ≡ statements_in (words_of insts)
filtered_says keep silent [] = refl
filtered_says keep silent (i ∷ is) = kept_or_silent keep i is (keep i) refl (silent i) (filtered_says keep silent is)

pub silence_law : SilenceLaw
silence_law m m2 keep silent same d = means_same m m2 (ap statements_in same ∙ filtered_says keep silent m.insts) d

silent_by : (debug line : Bool) → not debug ≡ false → (debug || line) ≡ true
silent_by true line h = refl
silent_by false line h = absurd (cc h)

debug_is_silent : (i : Instruction) → not (is_debug i) ≡ false → is_silent i ≡ true
debug_is_silent i h = silent_by (is_debug_opcode (opcode i)) (is_line_opcode (opcode i)) h

pub strip_law : StripLaw
strip_law m m2 same d = silence_law m m2 (λ i. not (is_debug i)) debug_is_silent same d

pub strip_words_law : StripWordsLaw
strip_words_law words header d =
    let m2 : Code = without_debug header words in
    strip_law (code_of words) (code_of (spelling m2))
    (spelled_again m2 (filtered_counted (λ i. not (is_debug i)) (code_of words).insts (cut_counted 5 0 (drop 5 words)))) d
