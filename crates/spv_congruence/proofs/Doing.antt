-- Statements that do alike: by induction on the rules by which they do.
use Rattle.std.proofs.Common.{◌≡◌, ℕ, Bool, true, false, List, [], ◌∷◌, ◌++◌, refl, sym, ap, ◌∙◌}
use Rattle.interleaving.specs.Machine.{Answer}
use Rattle.spv_meaning.specs.Statements as says
use Rattle.spv_meaning.specs.Statements.{Statement, said, statements_in}
use Rattle.spv_machine.specs.Access.{Access}
use Rattle.spv_machine.specs.Setting.{Setting}
use Rattle.spv_machine.specs.State.{Value, Data}
use Rattle.spv_machine.specs.Operations.{Does, Wants, Fails, outcome}
use Rattle.spv_bodies.specs.Bodies.{Body}
use Rattle.spv_trees.specs.Meaning.{Sticks, Result, Onward, Entry, only, given, behind, answered, then_return, does, all_do, meaning}
use Rattle.spv_trees.proofs.Spelling.{said_front}
use Rattle.spv_congruence.specs.Relation.{Way, Future, After, followed, Rel, Returned}
use Rattle.spv_congruence.specs.OneSided.{Sim, BesideWay}
use Rattle.spv_congruence.specs.Statements as rule
use Rattle.spv_congruence.specs.Statements.{Comparison, is_call, back_from, DoAlike}
use Rattle.spv_congruence.specs.Shape.{steps}
use Rattle.spv_congruence.proofs.OneSided.{sim_same, sim_stuck, sim_left_out, sim_asks, sim_call_both, rel_sim, sim_rel}

-- ---- one statement

no_call : (c : Setting) (call : ℕ → Entry) (s : Statement) (d : Data) (xs : List Answer) (go : Onward) → is_call s ≡ false
    → does c call s d xs go ≡ behind (outcome c d s) xs go
no_call c call (says.FunctionCall t r f arguments) d xs go e = absurd (cc e)
no_call c call other d xs go e = refl

call_fails : (c : Setting) (d : Data) (s : Statement) → is_call s ≡ true → outcome c d s ≡ Fails
unfolding outcome
call_fails c d (says.FunctionCall t r f arguments) e = refl
call_fails c d other e = absurd (cc e)

does_goes_at : (c : Setting) (call : ℕ → Entry) (s : Statement) (d e : Data) (xs : List Answer) (go : Onward) → outcome c d s ≡ Does e → (b : Bool)
    → is_call s ≡ b → does c call s d xs go ≡ go e xs
does_goes_at c call s d e xs go o true is = absurd (cc (call_fails c d s is, o))
does_goes_at c call s d e xs go o false is = no_call c call s d xs go is ∙ ap (λ z. behind z xs go) o

pub does_goes : (c : Setting) (call : ℕ → Entry) (s : Statement) (d e : Data) (xs : List Answer) (go : Onward) → outcome c d s ≡ Does e
    → does c call s d xs go ≡ go e xs
does_goes c call s d e xs go o = does_goes_at c call s d e xs go o (is_call s) refl

does_asks_at : (c : Setting) (call : ℕ → Entry) (s : Statement) (d : Data) (a : Access) (by_answer : Answer → Data) (xs : List Answer) (go : Onward)
    → outcome c d s ≡ Wants a by_answer → (b : Bool) → is_call s ≡ b
    → does c call s d xs go ≡ answered a by_answer xs go
does_asks_at c call s d a by_answer xs go o true is = absurd (cc (call_fails c d s is, o))
does_asks_at c call s d a by_answer xs go o false is = no_call c call s d xs go is ∙ ap (λ z. behind z xs go) o

pub does_asks : (c : Setting) (call : ℕ → Entry) (s : Statement) (d : Data) (a : Access) (by_answer : Answer → Data) (xs : List Answer) (go : Onward)
    → outcome c d s ≡ Wants a by_answer → does c call s d xs go ≡ answered a by_answer xs go
does_asks c call s d a by_answer xs go o = does_asks_at c call s d a by_answer xs go o (is_call s) refl

pub does_fail : (c : Setting) (call : ℕ → Entry) (s : Statement) (d : Data) (xs : List Answer) (go : Onward) → is_call s ≡ false → outcome c d s ≡ Fails
    → does c call s d xs go ≡ only Sticks
does_fail c call s d xs go is o = no_call c call s d xs go is ∙ ap (λ z. behind z xs go) o

-- ---- statements in a row

pub all_do_both : (c : Setting) (call : ℕ → Entry) (ss more : List Statement) (d : Data) (xs : List Answer) (go : Onward)
    → all_do c call (ss ++ more) d xs go ≡ all_do c call ss d xs (λ e ys. all_do c call more e ys go)
all_do_both c call [] more d xs go = refl
all_do_both c call (s ∷ ss) more d xs go =
    let same : (λ (e : Data) (ys : List Answer). all_do c call (ss ++ more) e ys go) ≡
    (λ e ys. all_do c call ss e ys (λ z zs. all_do c call more z zs go)) = λ i e ys. all_do_both c call ss more e ys go i in
    ap (λ (z : Onward). does c call s d xs z) same

said_in : (words : List ℕ) (rest : List (List ℕ)) → statements_in (words ∷ rest) ≡ said words [] ++ statements_in rest
unfolding statements_in
said_in words rest = said_front words (statements_in rest)

nothing_said : statements_in [] ≡ []
unfolding statements_in
nothing_said = refl

-- instructions before a body
pub steps_mean : (c : Setting) (call : ℕ → Entry) (turns : ℕ) (others : List (List ℕ)) (body : Body) (d : Data) (xs : List Answer)
    → meaning c call turns (steps others body) d xs ≡ all_do c call (statements_in others) d xs (meaning c call turns body)
steps_mean c call turns [] body d xs = ap (λ (ss : List Statement). all_do c call ss d xs (meaning c call turns body)) (sym nothing_said)
steps_mean c call turns (words ∷ rest) body d xs =
    let same : (λ (e : Data) (ys : List Answer). meaning c call turns (steps rest body) e ys) ≡
    (λ e ys. all_do c call (statements_in rest) e ys (meaning c call turns body)) =
    λ i e ys. steps_mean c call turns rest body e ys i in
    ap (λ (z : Onward). all_do c call (said words []) d xs z) same
    ∙ sym (all_do_both c call (said words []) (statements_in rest) d xs (meaning c call turns body))
    ∙ ap (λ (ss : List Statement). all_do c call ss d xs (meaning c call turns body)) (sym (said_in words rest))

-- ---- side by side

-- where the first has nothing to do, the second does what touches nothing shared
module _ (p : Comparison) (Behind : Data → Data → Type 0) (call2 : ℕ → Entry) where
  abbrev DoneAlone : List Statement → Data → Data → Type 0
  DoneAlone ss2 d d2 = (e2 : Data) × Behind d e2 × ((go2 : Onward) (ys : List Answer) → all_do p.second call2 ss2 d2 ys go2 ≡ go2 e2 ys)

  pub second_alone : {ss ss2 : List Statement} {d d2 : Data} → DoAlike p Behind ss d ss2 d2 → ss ≡ [] → DoneAlone ss2 d d2
  second_alone (rule.done {d = d} {d2 = d2} h) none = (d2, h, λ go2 ys. refl)
  second_alone (rule.goes_second {s2 = s2} {ss2 = ss2} {d2 = d2} {e2 = e2} o h) none =
      let r = second_alone h none in
      (r.0, r.1, λ go2 ys. does_goes p.second call2 s2 d2 e2 ys (λ z zs. all_do p.second call2 ss2 z zs go2) o ∙ r.2 go2 ys)
  second_alone (rule.goes o h) none = absurd (cc none)
  second_alone (rule.leaves_out o out h) none = absurd (cc none)
  second_alone (rule.asks o o2 kept same h) none = absurd (cc none)
  second_alone (rule.fails is o) none = absurd (cc none)
  second_alone (rule.fails_to_call o) none = absurd (cc none)
  second_alone (rule.calls o o2 y begin h) none = absurd (cc none)

module _ (p : Comparison) (call call2 : ℕ → Entry)
    (calls : (y : p.Below) (f f2 : ℕ) (vs vs2 : List Value) (d d2 : Data) → p.Calls y f vs d f2 vs2 d2
    → Rel p.left_out p.Same (Returned (p.Ends y)) (call f vs d) (call2 f2 vs2 d2))
    (Behind : Data → Data → Type 0) (go go2 : Onward) where
  abbrev first_do : List Statement → Onward
  first_do ss d xs = all_do p.first call ss d xs go

  abbrev second_do : List Statement → Onward
  second_do ss d xs = all_do p.second call2 ss d xs go2

  module _ (Ways : Way → Future → Type 0) (after2 : After) (more : (d d2 : Data) → Behind d d2
      → Sim p.left_out p.Same Ways (go d) (λ ys. followed (go2 d2 ys) after2)) where
    -- statements of the first beside those of the second and what follows these
    pub sim_does : {ss ss2 : List Statement} {d d2 : Data} → DoAlike p Behind ss d ss2 d2
        → Sim p.left_out p.Same Ways (first_do ss d) (λ ys. followed (second_do ss2 d2 ys) after2)
    sim_does (rule.done {d = d} {d2 = d2} h) = more d d2 h
    sim_does (rule.goes {s = s} {ss = ss} {ss2 = ss2} {d = d} {d2 = d2} {e = e} o h) =
        sim_same p.left_out p.Same Ways (first_do (s ∷ ss) d) (first_do ss e) (λ ys. followed (second_do ss2 d2 ys) after2)
        (λ ys. followed (second_do ss2 d2 ys) after2)
        (λ xs. does_goes p.first call s d e xs (first_do ss) o) (λ ys. refl) (sim_does h)
    sim_does (rule.goes_second {s2 = s2} {ss = ss} {ss2 = ss2} {d = d} {d2 = d2} {e2 = e2} o h) =
        sim_same p.left_out p.Same Ways (first_do ss d) (first_do ss d) (λ ys. followed (second_do (s2 ∷ ss2) d2 ys) after2)
        (λ ys. followed (second_do ss2 e2 ys) after2)
        (λ xs. refl) (λ ys. ap (λ (z : Result). followed z after2) (does_goes p.second call2 s2 d2 e2 ys (second_do ss2) o)) (sim_does h)
    sim_does (rule.leaves_out {s = s} {ss = ss} {ss2 = ss2} {d = d} {d2 = d2} {a = a} {by_answer = by_answer} o out h) =
        sim_same p.left_out p.Same Ways (first_do (s ∷ ss) d) (λ xs. answered a by_answer xs (first_do ss)) (λ ys. followed (second_do ss2 d2 ys) after2)
        (λ ys. followed (second_do ss2 d2 ys) after2)
        (λ xs. does_asks p.first call s d a by_answer xs (first_do ss) o) (λ ys. refl)
        (sim_left_out p.left_out p.Same Ways a by_answer (first_do ss) (λ ys. followed (second_do ss2 d2 ys) after2) out (λ x. sim_does (h x)))
    sim_does (rule.asks {s = s} {s2 = s2} {ss = ss} {ss2 = ss2} {d = d} {d2 = d2} {a = a} {b = b} {by_answer = by_answer} {by_answer2 = by_answer2} o o2 kept
        same h) =
        sim_same p.left_out p.Same Ways (first_do (s ∷ ss) d) (λ xs. answered a by_answer xs (first_do ss))
        (λ ys. followed (second_do (s2 ∷ ss2) d2 ys) after2) (λ ys. followed (answered b by_answer2 ys (second_do ss2)) after2)
        (λ xs. does_asks p.first call s d a by_answer xs (first_do ss) o)
        (λ ys. ap (λ (z : Result). followed z after2) (does_asks p.second call2 s2 d2 b by_answer2 ys (second_do ss2) o2))
        (sim_asks p.left_out p.Same Ways a b by_answer (first_do ss) (λ ys. followed (answered b by_answer2 ys (second_do ss2)) after2)
        (λ x ys. followed (second_do ss2 (by_answer2 x) ys) after2) kept same
        refl (λ x ys. refl) (λ x. sim_does (h x)))
    sim_does (rule.fails {s = s} {ss = ss} {ss2 = ss2} {d = d} {d2 = d2} is o) =
        sim_same p.left_out p.Same Ways (first_do (s ∷ ss) d) (λ xs. only Sticks) (λ ys. followed (second_do ss2 d2 ys) after2)
        (λ ys. followed (second_do ss2 d2 ys) after2)
        (λ xs. does_fail p.first call s d xs (first_do ss) is o) (λ ys. refl) (sim_stuck p.left_out p.Same Ways (λ ys. followed (second_do ss2 d2 ys) after2))
    sim_does (rule.fails_to_call {t = t} {r = r} {f = f} {arguments = arguments} {ss = ss} {ss2 = ss2} {d = d} {d2 = d2} o) =
        sim_same p.left_out p.Same Ways (first_do (says.FunctionCall t r f arguments ∷ ss) d) (λ xs. only Sticks) (λ ys. followed (second_do ss2 d2 ys) after2)
        (λ ys. followed (second_do ss2 d2 ys) after2)
        (λ xs. ap (λ z. given z (λ vs. then_return r (first_do ss) (call f vs d xs))) o) (λ ys. refl)
        (sim_stuck p.left_out p.Same Ways (λ ys. followed (second_do ss2 d2 ys) after2))
    sim_does (rule.calls {t = t} {t2 = t2} {r = r} {r2 = r2} {f = f} {f2 = f2} {arguments = arguments} {arguments2 = arguments2} {ss = ss} {ss2 = ss2} {d = d}
        {d2 = d2} {vs = vs} {vs2 = vs2} o o2 y begin h) =
        sim_same p.left_out p.Same Ways (first_do (says.FunctionCall t r f arguments ∷ ss) d) (λ xs. then_return r (first_do ss) (call f vs d xs))
        (λ ys. followed (second_do (says.FunctionCall t2 r2 f2 arguments2 ∷ ss2) d2 ys) after2)
        (λ ys. followed (then_return r2 (second_do ss2) (call2 f2 vs2 d2 ys)) after2)
        (λ xs. ap (λ z. given z (λ us. then_return r (first_do ss) (call f us d xs))) o)
        (λ ys. ap (λ z. followed (given z (λ us. then_return r2 (second_do ss2) (call2 f2 us d2 ys))) after2) o2)
        (sim_call_both p.left_out p.Same r r2 (p.Ends y) Ways (call f vs d) (call2 f2 vs2 d2) (first_do ss) (second_do ss2) after2
        (calls y f f2 vs vs2 d d2 begin)
        (λ v v2 e e2 ends. sim_does (h v v2 e e2 ends)))

  -- statements of both, whatever follows
  pub rel_does : (Ways : Way → Way → Type 0) → ((d d2 : Data) → Behind d d2 → Rel p.left_out p.Same Ways (go d) (go2 d2))
      → {ss ss2 : List Statement} {d d2 : Data} → DoAlike p Behind ss d ss2 d2
      → Rel p.left_out p.Same Ways (first_do ss d) (second_do ss2 d2)
  rel_does Ways more {ss = ss} {ss2 = ss2} {d = d} {d2 = d2} h =
      sim_rel p.left_out p.Same Ways (first_do ss d) (second_do ss2 d2)
      (λ after2. sim_does (BesideWay Ways after2) after2 (λ e e2 b. rel_sim p.left_out p.Same Ways (go e) (go2 e2) after2 (more e e2 b)) h)
