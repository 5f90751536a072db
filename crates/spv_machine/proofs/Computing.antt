-- Runs that are computed: what a schedule leaves in the buffers.
use Rattle.std.proofs.Common.{◌≡◌, ℕ, Bool, true, false, ◌&&◌, ◌||◌, ◌==◌, ◌⊎◌, inl, inr, List, [], ◌∷◌, ◌++◌, Option, Some, None, refl, sym, ap, ◌∙◌}
use Rattle.std.proofs.lemmas.Bool.{eqb-true, and_parts, or_cases}
use Rattle.interleaving.specs.Machine.{Answer, first_world}
use Rattle.interleaving.specs.Trace as alone
use Rattle.interleaving.proofs.Exploring as exploring
use Rattle.spv_module.specs.Code.{Code}
use Rattle.spv_machine.specs.Access.{Access}
use Rattle.spv_machine.specs.Dispatch.{Bound, Dispatch}
use Rattle.spv_machine.specs.Effects.{Shared, effects}
use Rattle.spv_machine.specs.Steps.{program}
use Rattle.spv_machine.specs.Laws.{MeansSame}
use Rattle.spv_machine.specs.Setting.{Setting}
use Rattle.spv_machine.specs.Machine.{setting_of, EndsIn, FinalsIn, Trace, Ends, Finals}
use Rattle.spv_machine.specs.Places.{Place}

abbrev pub same_words : List ℕ → List ℕ → Bool
same_words [] [] = true
same_words [] (v ∷ vs) = false
same_words (w ∷ ws) [] = false
same_words (w ∷ ws) (v ∷ vs) = w == v && same_words ws vs

same_words_is : (ws vs : List ℕ) → same_words ws vs ≡ true → ws ≡ vs
same_words_is [] [] h = refl
same_words_is [] (v ∷ vs) h = absurd (cc h)
same_words_is (w ∷ ws) [] h = absurd (cc h)
same_words_is (w ∷ ws) (v ∷ vs) h =
    let parts = and_parts (w == v) (same_words ws vs) h in
    ap (λ x. x ∷ ws) (eqb-true w v parts.0) ∙ ap (λ xs. v ∷ xs) (same_words_is ws vs parts.1)

abbrev pub same_bound : Bound → Bound → Bool
same_bound a b = a.set == b.set && (a.binding == b.binding && same_words a.words b.words)

bound_by : (s t : ℕ) (b c : ℕ) (ws vs : List ℕ) → s ≡ t → b ≡ c → ws ≡ vs → (let x : Bound = record { set = s; binding = b; words = ws } in x) ≡ record { set = t; binding = c; words = vs }
bound_by s t b c ws vs e f g = λ i. record { set = e i; binding = f i; words = g i }

same_bound_is : (a b : Bound) → same_bound a b ≡ true → a ≡ b
same_bound_is a b h =
    let parts = and_parts (a.set == b.set) (a.binding == b.binding && same_words a.words b.words) h in
    let rest = and_parts (a.binding == b.binding) (same_words a.words b.words) parts.1 in
    bound_by a.set b.set a.binding b.binding a.words b.words (eqb-true a.set b.set parts.0) (eqb-true a.binding b.binding rest.0) (same_words_is a.words b.words rest.1)

abbrev pub same_buffers : List Bound → List Bound → Bool
same_buffers [] [] = true
same_buffers [] (b ∷ bs) = false
same_buffers (a ∷ as') [] = false
same_buffers (a ∷ as') (b ∷ bs) = same_bound a b && same_buffers as' bs

same_buffers_is : (xs ys : List Bound) → same_buffers xs ys ≡ true → xs ≡ ys
same_buffers_is [] [] h = refl
same_buffers_is [] (y ∷ ys) h = absurd (cc h)
same_buffers_is (x ∷ xs) [] h = absurd (cc h)
same_buffers_is (x ∷ xs) (y ∷ ys) h =
    let parts = and_parts (same_bound x y) (same_buffers xs ys) h in
    ap (λ z. z ∷ xs) (same_bound_is x y parts.0) ∙ ap (λ zs. y ∷ zs) (same_buffers_is xs ys parts.1)

-- the buffers are these
abbrev pub leaves_buffers : List Bound → Shared → Bool
leaves_buffers buffers shared = same_buffers shared.buffers buffers

-- this schedule leads to a world that cannot go on and has these buffers
abbrev pub leads_to : Setting → (schedule : List ℕ) → List Bound → Bool
leads_to c schedule buffers =
    exploring.leads (effects c) (program c) (exploring.leaves (effects c) (program c) (leaves_buffers buffers)) schedule
    (Some (first_world (effects c) (program c)))

pub finals_in : (c : Setting) (schedule : List ℕ) (buffers : List Bound) → leads_to c schedule buffers ≡ true → FinalsIn c buffers
finals_in c schedule buffers h =
    let e = effects c in
    let p = program c in
    let r = exploring.led e p (exploring.leaves e p (leaves_buffers buffers)) schedule (first_world e p) h in
    let parts = and_parts (exploring.stops e p r.world) (leaves_buffers buffers r.world.memory) r.there in
    (r.world.memory, (schedule, r.world, r.run, exploring.stops_is e p r.world parts.0, refl), same_buffers_is r.world.memory.buffers buffers parts.1)

-- each schedule returns within n steps and leaves buffers of which P holds
abbrev pub explored : Setting → (n : ℕ) → (P : List Bound → Bool) → Bool
explored c n P = exploring.explore (effects c) (program c) (λ shared. P shared.buffers) n (first_world (effects c) (program c))

pub ends_in : (c : Setting) (n : ℕ) (P : List Bound → Bool) → explored c n P ≡ true → EndsIn c
ends_in c n P h = exploring.explored_ends (effects c) (program c) (λ shared. P shared.buffers) n h

passes_in : (c : Setting) (n : ℕ) (P : List Bound → Bool) → explored c n P ≡ true → (others : List Bound) → FinalsIn c others → P others ≡ true
passes_in c n P h others final =
    ap P (sym final.2) ∙ exploring.explored_finals (effects c) (program c) (λ shared. P shared.buffers) n h final.0 final.1

pub only_in : (c : Setting) (n : ℕ) (buffers : List Bound) → explored c n (λ bs. same_buffers bs buffers) ≡ true → (others : List Bound) → FinalsIn c others → others ≡ buffers
only_in c n buffers h others final = same_buffers_is others buffers (passes_in c n (λ bs. same_buffers bs buffers) h others final)

pub either_in : (c : Setting) (n : ℕ) (one other : List Bound) → explored c n (λ bs. same_buffers bs one || same_buffers bs other) ≡ true → (others : List Bound) → FinalsIn c others → (others ≡ one) ⊎ (others ≡ other)
either_in c n one other h others final =
    elim (or_cases (same_buffers others one) (same_buffers others other) (passes_in c n (λ bs. same_buffers bs one || same_buffers bs other) h others final)) [
      | inl e ↦ inl (same_buffers_is others one e)
      | inr e ↦ inr (same_buffers_is others other e)
    ]

-- ---- the same of a module

pub finals_by : (m : Code) (d : Dispatch) (schedule : List ℕ) (buffers : List Bound) → leads_to (setting_of m d) schedule buffers ≡ true → Finals m d buffers
unfolding Finals
finals_by m d schedule buffers h = finals_in (setting_of m d) schedule buffers h

pub ends_by : (m : Code) (d : Dispatch) (n : ℕ) (P : List Bound → Bool) → explored (setting_of m d) n P ≡ true → Ends m d
unfolding Ends
ends_by m d n P h = ends_in (setting_of m d) n P h

pub only_by : (m : Code) (d : Dispatch) (n : ℕ) (buffers : List Bound) → explored (setting_of m d) n (λ bs. same_buffers bs buffers) ≡ true → (others : List Bound) → Finals m d others → others ≡ buffers
unfolding Finals
only_by m d n buffers h others final = only_in (setting_of m d) n buffers h others final

pub either_by : (m : Code) (d : Dispatch) (n : ℕ) (one other : List Bound) → explored (setting_of m d) n (λ bs. same_buffers bs one || same_buffers bs other) ≡ true → (others : List Bound) → Finals m d others → (others ≡ one) ⊎ (others ≡ other)
unfolding Finals
either_by m d n one other h others final = either_in (setting_of m d) n one other h others final

-- ---- traces that differ

abbrev pub first_in : Option Place → List ℕ
first_in None = []
first_in (Some place) = place.first ∷ []

-- of each access the first position of its place, and its operands
abbrev pub told_words : List Access → List ℕ
told_words [] = []
told_words (a ∷ as') = (first_in a.place ++ a.operands) ++ told_words as'

-- what one invocation's accesses tell under the same answers
abbrev pub tells : Code → Dispatch → (i n : ℕ) → List Answer → (words : List ℕ) → Bool
tells m d i n answers words = same_words (told_words (Trace m d i n answers).accesses) words

-- two modules one of which tells these words, and the other does not, do not mean the same
pub differ : (m m2 : Code) (d : Dispatch) (i n : ℕ) (answers : List Answer) (words : List ℕ) → tells m d i n answers words ≡ true → tells m2 d i n answers words ≡ false → MeansSame m m2 d → ⊥
differ m m2 d i n answers words told untold same =
    let e : true ≡ false = sym told ∙ ap {A = alone.Trace Access} (λ t. same_words (told_words t.accesses) words) (sym (same.trace i n answers)) ∙ untold in
    absurd (cc e)
