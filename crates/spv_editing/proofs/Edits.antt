-- Editing with nothing to replace, and editing twice, by induction on the tree.
use Rattle.std.proofs.Common.{◌≡◌, ℕ, List, [], ◌∷◌, map, refl, ap, ◌∙◌}
use Rattle.std.proofs.lemmas.List.{map-id}
use Rattle.std.specs.List.{flat_map}
use Rattle.spv_bodies.specs.Bodies.{Exit, Entry, ByBranch, InPlace, Body, Leaves, Finishes, Step, Enters, Splits, Selects, Switches, Loops, Arms, Last, Also, Function}
use Rattle.spv_editing.specs.Editing.{Edit, after, edited, edited_arms, edited_end, edited_entry, edited_exit, edited_function, steps_before, unchanged}
use Rattle.spv_editing.proofs.Steps.{edited-before}

-- ---- nothing to replace

unchanged-exit : (exit : Exit) → edited_exit unchanged exit ≡ exit
unchanged-exit exit = ap (λ (values : List ℕ). record { target = exit.target; values = values }) (map-id exit.values)

unchanged-entry : (entry : Entry) → edited_entry unchanged entry ≡ entry
unchanged-entry (ByBranch values) = ap ByBranch (map-id values)
unchanged-entry InPlace = refl

unchanged-end : (words : List ℕ) → edited_end unchanged words ≡ words
unchanged-end [] = refl
unchanged-end (head ∷ operands) = ap (λ (z : List ℕ). head ∷ z) (map-id operands)

mutual
  pub unchanged-body : (b : Body) → edited unchanged b ≡ b
  unchanged-body (Leaves exit) = ap Leaves (unchanged-exit exit)
  unchanged-body (Finishes words) = ap Finishes (unchanged-end words)
  unchanged-body (Step words body) = ap (Step words) (unchanged-body body)
  unchanged-body (Enters label body) = ap (Enters label) (unchanged-body body)
  unchanged-body (Splits condition on exit body) = λ i. Splits condition on (unchanged-exit exit i) (unchanged-body body i)
  unchanged-body (Selects control condition first second merge rest) =
      λ i. Selects control condition (unchanged-body first i) (unchanged-body second i) merge (unchanged-body rest i)
  unchanged-body (Switches control selector cases arms merge rest) = λ i. Switches control selector cases (unchanged-arms arms i) merge (unchanged-body rest i)
  unchanged-body (Loops entry header control inner next continuing merge rest) =
      λ i. Loops (unchanged-entry entry i) header control (unchanged-body inner i) next (unchanged-body continuing i) merge (unchanged-body rest i)

  unchanged-arms : (arms : Arms) → edited_arms unchanged arms ≡ arms
  unchanged-arms (Last arm) = ap Last (unchanged-body arm)
  unchanged-arms (Also arm arms) = λ i. Also (unchanged-body arm i) (unchanged-arms arms i)

pub unchanged-function : (f : Function) → edited_function unchanged f ≡ f
unchanged-function f = ap (λ (b : Body). record f { body = b }) (unchanged-body f.body)

-- ---- twice

map-twice : (f g : ℕ → ℕ) (ids : List ℕ) → map g (map f ids) ≡ map (λ id. g (f id)) ids
map-twice f g [] = refl
map-twice f g (id ∷ ids) = ap (λ (z : List ℕ). g (f id) ∷ z) (map-twice f g ids)

module _ (first second : Edit) where
  twice-exit : (exit : Exit) → edited_exit second (edited_exit first exit) ≡ edited_exit (after second first) exit
  twice-exit exit = ap (λ (values : List ℕ). record { target = exit.target; values = values }) (map-twice first.uses second.uses exit.values)

  twice-entry : (entry : Entry) → edited_entry second (edited_entry first entry) ≡ edited_entry (after second first) entry
  twice-entry (ByBranch values) = ap ByBranch (map-twice first.uses second.uses values)
  twice-entry InPlace = refl

  twice-end : (words : List ℕ) → edited_end second (edited_end first words) ≡ edited_end (after second first) words
  twice-end [] = refl
  twice-end (head ∷ operands) = ap (λ (z : List ℕ). head ∷ z) (map-twice first.uses second.uses operands)

  mutual
    pub twice-body : (b : Body) → edited second (edited first b) ≡ edited (after second first) b
    twice-body (Leaves exit) = ap Leaves (twice-exit exit)
    twice-body (Finishes words) = ap Finishes (twice-end words)
    twice-body (Step words body) =
        edited-before second (first.steps words) (edited first body) ∙ ap (steps_before (flat_map second.steps (first.steps words))) (twice-body body)
    twice-body (Enters label body) = ap (Enters label) (twice-body body)
    twice-body (Splits condition on exit body) = λ i. Splits (second.uses (first.uses condition)) on (twice-exit exit i) (twice-body body i)
    twice-body (Selects control condition one other merge rest) =
        λ i. Selects control (second.uses (first.uses condition)) (twice-body one i) (twice-body other i) merge (twice-body rest i)
    twice-body (Switches control selector cases arms merge rest) =
        λ i. Switches control (second.uses (first.uses selector)) cases (twice-arms arms i) merge (twice-body rest i)
    twice-body (Loops entry header control inner next continuing merge rest) =
        λ i. Loops (twice-entry entry i) header control (twice-body inner i) next (twice-body continuing i) merge (twice-body rest i)

    twice-arms : (arms : Arms) → edited_arms second (edited_arms first arms) ≡ edited_arms (after second first) arms
    twice-arms (Last arm) = ap Last (twice-body arm)
    twice-arms (Also arm arms) = λ i. Also (twice-body arm i) (twice-arms arms i)

  pub twice-function : (f : Function) → edited_function second (edited_function first f) ≡ edited_function (after second first) f
  twice-function f = ap (λ (b : Body). record f { body = b }) (twice-body f.body)
