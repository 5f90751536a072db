-- What rows keep of their contexts, when a row is read and when one is added.
use Rattle.std.proofs.Common.{◌≡◌, ◌⊎◌, inl, inr, ℕ, zero, suc, ◌+◌, ◌<◌, ◌≤◌, List, [], ◌∷◌, ◌++◌, length, get_or, slice_get, Option, Some, refl, sym, ap, subst, ◌∙◌, arith, length-append}
use Rattle.std.specs.Option.{option_map}
use Rattle.std.proofs.lemmas.List.{get_or_append_left, get_or_push, length_push}
use Rattle.std.proofs.lemmas.List.Sums.{fold-append}
use Rattle.std.proofs.lemmas.Option.{slice_get-get_or}
use Rattle.spv_walk.specs.Contexts.{Context}
use Rattle.spv_walk.specs.Rows.{seen, seen_within}
use Rattle.spv_walking.specs.declared.rows.Row.{Row}
use Rattle.spv_walking.specs.declared.seen.Level.{Level as DeclaredLevel}
use Rattle.spv_walking.specs.Kept.{level_of, seen_of}
use Rattle.spv_walking.specs.Places.{context_at}
use Rattle.spv_walking.specs.Contexts.{with_level, with_row, contexts_of, Keeps, AreKept}

pub contexts_added : (rows : List Row) (row : Row) → contexts_of (rows ++ row ∷ []) ≡ contexts_of rows ++ with_level row.level (context_at (contexts_of rows) row.outer) ∷ []
contexts_added rows row = fold-append with_row [] rows (row ∷ [])

-- a context stays where it is when others are added
pub context_stays : (contexts more : List Context) (place : ℕ) → place < length contexts → context_at (contexts ++ more) place ≡ context_at contexts place
context_stays contexts more place h = get_or_append_left contexts more [] place h

pub context_new : (contexts : List Context) (c : Context) → context_at (contexts ++ c ∷ []) (length contexts) ≡ c
context_new contexts c = get_or_push contexts c [] (length contexts) refl

-- a row keeps what it kept
keeps_on : (contexts more : List Context) (place : ℕ) (row : Row) → place < length contexts → Keeps contexts place row (context_at contexts place)
    → Keeps (contexts ++ more) place row (context_at (contexts ++ more) place)
keeps_on contexts more place row h k =
    subst (λ (c : Context). Keeps (contexts ++ more) place row c) (sym (context_stays contexts more place h)) (record {
      level = k.level;
      seen = k.seen;
      within = (let n = k.within in omega (arith, length-append contexts more));
      outer = context_stays contexts more row.outer k.within ∙ k.outer;
      depth = k.depth;
      shallow = k.shallow;
    })

-- a row as it is read
pub keeps_read : (rows : List Row) (contexts : List Context) (place : ℕ) (row : Row) → AreKept rows → contexts_of rows ≡ contexts → place < length contexts
    → row ≡ get_or rows place row → Keeps contexts place row (context_at contexts place)
keeps_read rows contexts place row kept view h e =
    let n : length rows ≡ length contexts = sym kept.count ∙ ap length view in
    let got : slice_get rows place ≡ Some row = slice_get-get_or rows place row (omega arith) ∙ ap (λ (r : Row). Some r) (sym e) in
    subst (λ (cs : List Context). Keeps cs place row (context_at cs place)) view (kept.each place row got)

-- what a row that is added has to keep of the context outside it
pub record Added (contexts : List Context) (row : Row) (inner : DeclaredLevel) : Type 0 where
  pub level : row.level ≡ Some inner
  pub within : row.outer < length contexts
  pub seen : seen_of row.seen ≡ seen_within (level_of inner) (seen (context_at contexts row.outer))
  pub depth : row.depth ≡ length (context_at contexts row.outer) + 1
  pub shallow : length (context_at contexts row.outer) ≤ row.outer

keeps_new : (contexts : List Context) (row : Row) (inner : DeclaredLevel) → Added contexts row inner
    → Keeps (contexts ++ (level_of inner ∷ context_at contexts row.outer) ∷ []) (length contexts) row (level_of inner ∷ context_at contexts row.outer)
keeps_new contexts row inner a =
    let c = context_at contexts row.outer in
    record {
      level = ap (option_map level_of) a.level;
      seen = a.seen;
      within = (let n = a.within in omega (arith, length_push contexts (level_of inner ∷ c)));
      outer = context_stays contexts ((level_of inner ∷ c) ∷ []) row.outer a.within;
      depth = (let d = a.depth in omega arith);
      shallow = (let n = a.within in let s = a.shallow in omega arith);
    }

-- the row at a place, once one is added
added_cases : (rows : List Row) (new : Row) (place : ℕ) (row : Row) → slice_get (rows ++ new ∷ []) place ≡ Some row
    → ((place < length rows) × (slice_get rows place ≡ Some row)) ⊎ ((place ≡ length rows) × (row ≡ new))
added_cases [] new zero row e = inr (refl, cc)
added_cases [] new (suc k) row e = absurd (cc)
added_cases (r ∷ rows) new zero row e = inl (omega arith, e)
added_cases (r ∷ rows) new (suc k) row e = elim (added_cases rows new k row e) [ inl h ↦ inl (let n = h.0 in omega arith, h.1) | inr h ↦ inr (let n = h.0 in omega arith, h.1) ]

pub kept_push : (rows rows2 : List Row) (contexts : List Context) (row : Row) (inner : DeclaredLevel) → AreKept rows → contexts_of rows ≡ contexts → Added contexts row inner
    → rows2 ≡ rows ++ row ∷ [] → AreKept rows2
kept_push rows rows2 contexts row inner kept view a e = subst AreKept (sym e) (record { count = count; each = each })
  where
    both : contexts_of (rows ++ row ∷ []) ≡ contexts ++ (level_of inner ∷ context_at contexts row.outer) ∷ []
    both = contexts_added rows row ∙ ap (λ (l : Option DeclaredLevel). contexts_of rows ++ with_level l (context_at (contexts_of rows) row.outer) ∷ []) a.level
        ∙ ap (λ (cs : List Context). cs ++ (level_of inner ∷ context_at cs row.outer) ∷ []) view

    same_count : length rows ≡ length contexts
    same_count = sym kept.count ∙ ap length view

    count : length (contexts_of (rows ++ row ∷ [])) ≡ length (rows ++ row ∷ [])
    count = ap length both ∙ (let s = same_count in omega (arith, length_push rows row, length_push contexts (level_of inner ∷ context_at contexts row.outer)))

    there : (place : ℕ) (r : Row) → ((place < length rows) × (slice_get rows place ≡ Some r)) ⊎ ((place ≡ length rows) × (r ≡ row))
        → Keeps (contexts ++ (level_of inner ∷ context_at contexts row.outer) ∷ []) place r (context_at (contexts ++ (level_of inner ∷ context_at contexts row.outer) ∷ []) place)
    there place r (inl h) =
        let less : place < length contexts = (let n = h.0 in let s = same_count in omega arith) in
        keeps_on contexts ((level_of inner ∷ context_at contexts row.outer) ∷ []) place r less
        (subst (λ (cs : List Context). Keeps cs place r (context_at cs place)) view (kept.each place r h.1))
    there place r (inr h) =
        let d : Context = level_of inner ∷ context_at contexts row.outer in
        let at : place ≡ length contexts = h.0 ∙ same_count in
        subst (λ (q : ℕ). Keeps (contexts ++ d ∷ []) q r (context_at (contexts ++ d ∷ []) q)) (sym at)
        (subst (λ (x : Row). Keeps (contexts ++ d ∷ []) (length contexts) x (context_at (contexts ++ d ∷ []) (length contexts))) (sym h.1)
        (subst (λ (x : Context). Keeps (contexts ++ d ∷ []) (length contexts) row x) (sym (context_new contexts d)) (keeps_new contexts row inner a)))

    each : (place : ℕ) (r : Row) → slice_get (rows ++ row ∷ []) place ≡ Some r
        → Keeps (contexts_of (rows ++ row ∷ [])) place r (context_at (contexts_of (rows ++ row ∷ [])) place)
    each place r g = subst (λ (cs : List Context). Keeps cs place r (context_at cs place)) (sym both) (there place r (added_cases rows row place r g))
