-- The walk, turn by turn: the table of the blocks that it has come to is one of walked blocks, closed for those that it has gone on from.
use Rattle.std.proofs.Common.{◌≡◌, ◌⊎◌, inl, inr, ℕ, ◌+◌, ◌<◌, ◌≤◌, ◌==◌, ◌&&◌, ◌||◌, Bool, true, false, not, List, [], ◌∷◌, ◌++◌, length, Option, Some, None, refl, sym, ap, subst, ◌∙◌, arith}
use Rattle.std.proofs.lemmas.Bool.{false≢true}
use Rattle.std.proofs.lemmas.List.{length_push}
use Rattle.std.proofs.lemmas.List.Folds.{list_any-append}
use Rattle.spv_blocks.specs.Tables.{found}
use Rattle.std.specs.List.{count_by}
use Rattle.std.specs.Option.{is_none}
use Rattle.spv_blocks.specs.Blocks.{Code, Block, End, Open, Construct, ASelection, ASwitch, ALoop, block, of_block, is_some_block, has, targets, end_targets, branches, last_opens, construct, merge_of, next_of, is_label, is_first, is_it, stops, goes}
use Rattle.spv_walk.specs.Contexts.{Context, is_exit, is_fall, begins_case, behind, next_context}
use Rattle.spv_walk.specs.Walk.{end_of, leads, Walk, Starts}
use Rattle.spv_walk.specs.Tables.{IsDone}
use Rattle.spv_walk.specs.Walked.{InPlaces, WalkTable, WalkMiddle, Steps, StepEntered, StepStopped, StepMerged, StepContinued, Visited, AreEnterers, IsWalk, admits, walks_to}
use Rattle.spv_walk.proofs.Unique.{tells, true_equal, both_left, both_right, both_hold, not_true, not_false, either_holds, is_it_equal, role_label, leads_runs, leads_branches}
use Rattle.spv_walk.proofs.Walked.{walk_begin, walk_turn, walk_end}
use Rattle.spv_walk.proofs.Steps.{step_walked, visited_known, walk_ends, target_steps}
use Rattle.spv_walking.specs.declared.going.Going.{Going}
use Rattle.spv_walking.specs.declared.walked.Walked.{Walked}
use Rattle.spv_walking.specs.Onward.{opened, GoesTarget, GoesOn, ToTarget, ToNext, ToMerge}
use Rattle.spv_walking.specs.Table.{context_of}
use Rattle.spv_walking.specs.Steps.{is_done, work, Comes, OnwardFrom, Begins}
use Rattle.spv_walking.proofs.Targets.{named_one}

-- ---- a block that is asked for is there

named_block : (o : Option Block) (t : ℕ) → has (of_block (λ x. end_targets x.end) [] o) t ≡ true → (x : Block) × (o ≡ Some x)
named_block None t h = absurd (cc)
named_block (Some x) t h = (x, refl)

merge_block : (o : Option Block) (m : ℕ) → merge_of (of_block (λ x. last_opens x.end x.body) None o) ≡ Some m → (x : Block) × (o ≡ Some x)
merge_block None m h = absurd (cc)
merge_block (Some x) m h = (x, refl)

next_block : (o : Option Block) (n : ℕ) → next_of (of_block (λ x. last_opens x.end x.body) None o) ≡ Some n → (x : Block) × (o ≡ Some x)
next_block None n h = absurd (cc)
next_block (Some x) n h = (x, refl)

label_there : (o : Option Block) (l : ℕ) → is_it l (next_of (of_block (λ x. last_opens x.end x.body) None o)) ≡ true → is_some_block o ≡ true
label_there None l h = h
label_there (Some x) l h = refl

stops_label : (f : Code) (l : ℕ) → stops f l ≡ true → is_label f l ≡ true
stops_label f l h = label_there (block f l) l h

goes_label : (f : Code) (b t : ℕ) → goes f b t ≡ true → is_label f t ≡ true
goes_label f b t h = (goes_parts (branches f b t) (is_label f t) (not (is_first f t)) _ h)
  where
    goes_parts : (w x y z : Bool) → (w && x && y && z) ≡ true → x ≡ true
    goes_parts w x y z h = both_right w x (both_left (w && x) y (both_left (w && x && y) z h))

-- ---- what a block leads to are the steps from it

own_case : (x y z : Bool) → y ≡ true → ((x && not y) || z) ≡ z
own_case true true z e = refl
own_case false true z e = refl
own_case x false z e = absurd (cc)

module _ (f : Code) (enterer : ℕ → Option ℕ) (b : ℕ) (x : Block) (here : block f b ≡ Some x) where
  construct_here : construct f b ≡ opened x
  construct_here = ap (of_block (λ (y : Block). last_opens y.end y.body) None) here

  end_here : end_of f b ≡ x.end
  end_here = ap (of_block (λ (y : Block). y.end) Open) here

  targets_here : targets f b ≡ end_targets x.end
  targets_here = ap (of_block (λ (y : Block). end_targets y.end) []) here

  behind_here : (c : Context) (t : ℕ) → behind (construct f b) b t c ≡ behind (opened x) b t c
  behind_here c t = ap (λ (k : Option Construct). behind k b t c) construct_here

  exit_here : (c d : Context) (t : ℕ) → d ≡ behind (opened x) b t c → is_exit (behind (construct f b) b t c) (end_of f b) t ≡ is_exit d x.end t
  exit_here c d t e = ap (λ (q : Context). is_exit q (end_of f b) t) (behind_here c t ∙ sym e) ∙ ap (λ (y : End). is_exit d y t) end_here

  -- on the way to a target no other case is begun than at the block
  fall_behind : (k : Option Construct) (c : Context) (t : ℕ) → is_fall f (behind k b t c) t ≡ is_fall f c t
  fall_behind None c t = refl
  fall_behind (Some (ASelection m)) c t = refl
  fall_behind (Some (ASwitch m)) c t = own_case (begins_case f b m c t) (t == t) (is_fall f c t) (true_equal t t refl)
  fall_behind (Some (ALoop m n)) c t = refl

  abbrev on_the_way : (d : Context) (t : ℕ) → Bool
  on_the_way d t = (stops f t && not (is_fall f d t)) || is_it b (enterer t)

  admits_here : (c d : Context) (t : ℕ) → d ≡ behind (opened x) b t c → on_the_way d t ≡ admits f enterer b c t
  admits_here c d t e = ap (λ (z : Bool). (stops f t && not z) || is_it b (enterer t)) (ap (λ (q : Context). is_fall f q t) e ∙ fall_behind (opened x) c t)

  target_walks : (c d : Context) (t : ℕ) → stops f b ≡ false → GoesTarget f enterer b x c t d → walks_to f enterer b c t ≡ true
  target_walks c d t runs s =
      both_hold (leads f b c t) (admits f enterer b c t)
      (both_hold (not (stops f b) && branches f b t) (not (is_exit (behind (construct f b) b t c) (end_of f b) t))
      (both_hold (not (stops f b)) (branches f b t) (not_false (stops f b) runs) (ap (λ (ts : List ℕ). has ts t) targets_here ∙ s.named))
      (ap (λ (z : Bool). not z) (exit_here c d t s.context) ∙ both_left (not (is_exit d x.end t)) (on_the_way d t) s.enters))
      (sym (admits_here c d t s.context) ∙ both_right (not (is_exit d x.end t)) (on_the_way d t) s.enters)

  walks_target : (c : Context) (t : ℕ) → walks_to f enterer b c t ≡ true → GoesTarget f enterer b x c t (behind (construct f b) b t c)
  walks_target c t h =
      let l : leads f b c t ≡ true = both_left (leads f b c t) (admits f enterer b c t) h in
      record {
        named = ap (λ (ts : List ℕ). has ts t) (sym targets_here) ∙ leads_branches f b c t l;
        context = behind_here c t;
        enters = both_hold (not (is_exit (behind (construct f b) b t c) x.end t)) (on_the_way (behind (construct f b) b t c) t)
            (ap (λ (z : Bool). not z) (sym (exit_here c (behind (construct f b) b t c) t (behind_here c t)))
            ∙ both_right (not (stops f b) && branches f b t) (not (is_exit (behind (construct f b) b t c) (end_of f b) t)) l)
            (admits_here c (behind (construct f b) b t c) t (behind_here c t) ∙ both_right (leads f b c t) (admits f enterer b c t) h);
      }

  goes_steps : AreEnterers f enterer → (c : Context) (t : ℕ) (d : Context) → stops f b ≡ false → Walk f b c → GoesOn f enterer b x c t d → Steps f b c t d
  goes_steps e c t d runs w (ToTarget s) =
      subst (λ (q : Context). Steps f b c t q) (behind_here c t ∙ sym s.context) ((target_steps f enterer b c e w).step t (target_walks c d t runs s))
  goes_steps e c t d runs w (ToNext s) =
      subst (λ (q : Context). Steps f b c t q) (ap (λ (k : Option Construct). next_context k b c) construct_here ∙ sym s.context)
      (StepContinued t runs (ap next_of construct_here ∙ s.next) s.role)
  goes_steps e c t d runs w (ToMerge s) =
      subst (λ (q : Context). Steps f b c t q) (sym s.context) (StepMerged t runs (ap merge_of construct_here ∙ s.merge) s.role)

  goes_labels : AreEnterers f enterer → (c : Context) (t : ℕ) (d : Context) → GoesOn f enterer b x c t d → is_label f t ≡ true
  goes_labels e c t d (ToTarget s) =
      elim (either_holds (stops f t && not (is_fall f d t)) (is_it b (enterer t)) (both_right (not (is_exit d x.end t)) (on_the_way d t) s.enters)) [
        | inl h ↦ stops_label f t (both_left (stops f t) (not (is_fall f d t)) h)
        | inr h ↦ goes_label f b t (e.sound b t (is_it_equal b (enterer t) h)).free
      ]
  goes_labels e c t d (ToNext s) = role_label f b t s.role
  goes_labels e c t d (ToMerge s) = role_label f b t s.role

-- where the walk has come to b, each step from it is one that b leads to
module _ (f : Code) (enterer : ℕ → Option ℕ) (e : AreEnterers f enterer) (walked : Walked) (b : ℕ) (c : Context) (w : Walk f b c) (stands : context_of walked b ≡ Some c) where
  walks_onward : (t : ℕ) → walks_to f enterer b c t ≡ true → OnwardFrom f enterer walked b t (behind (construct f b) b t c)
  walks_onward t h =
      let l : leads f b c t ≡ true = both_left (leads f b c t) (admits f enterer b c t) h in
      let x = named_block (block f b) t (leads_branches f b c t l) in
      record { context = c; stands = stands; found = x.0; here = x.1; runs = leads_runs f b c t l; goes = ToTarget (walks_target f enterer b x.0 x.1 c t h) }

  steps_onward : (t : ℕ) (d : Context) → Steps f b c t d → OnwardFrom f enterer walked b t d
  steps_onward t d (StepEntered q x y) = walks_onward t ((target_steps f enterer b c e w).entered t x y)
  steps_onward t d (StepStopped q x y) = walks_onward t ((target_steps f enterer b c e w).stopped t x y)
  steps_onward t d (StepMerged q runs m r) =
      let x = merge_block (block f b) t m in
      record {
        context = c;
        stands = stands;
        found = x.0;
        here = x.1;
        runs = runs;
        goes = ToMerge (record { merge = ap merge_of (sym (construct_here f enterer b x.0 x.1)) ∙ m; role = r; context = refl });
      }
  steps_onward t d (StepContinued q runs n r) =
      let x = next_block (block f b) t n in
      record {
        context = c;
        stands = stands;
        found = x.0;
        here = x.1;
        runs = runs;
        goes = ToNext (record {
          next = ap next_of (sym (construct_here f enterer b x.0 x.1)) ∙ n;
          role = r;
          context = ap (λ (k : Option Construct). next_context k b c) (construct_here f enterer b x.0 x.1);
        });
      }

-- ---- one turn

module _ (f : Code) (enterer : ℕ → Option ℕ) (e : AreEnterers f enterer) (g h k : Going) (b : ℕ) (same : h.walked ≡ g.walked) (popped : g.waiting.items ≡ h.waiting.items ++ b ∷ [])
    (a : Comes f h k (OnwardFrom f enterer h.walked b)) where
  there : (p : ℕ) (c : Context) → context_of h.walked p ≡ Some c → context_of g.walked p ≡ Some c
  there p c i = ap (λ (w : Walked). context_of w p) (sym same) ∙ i

  back : (p : ℕ) (c : Context) → context_of g.walked p ≡ Some c → context_of h.walked p ≡ Some c
  back p c i = ap (λ (w : Walked). context_of w p) same ∙ i

  -- only b waits no more
  done_cases : (p : ℕ) → is_done h p ≡ true → (is_done g p ≡ true) ⊎ (p ≡ b)
  done_cases p d =
      let both : has g.waiting.items p ≡ (has h.waiting.items p || has (b ∷ []) p) = ap (λ (ws : List ℕ). has ws p) popped ∙ list_any-append (λ (y : ℕ). y == p) h.waiting.items (b ∷ []) in
      let old : has h.waiting.items p ≡ false = not_true (has h.waiting.items p) d in
      elim (tells (has (b ∷ []) p)) [
        | inl t ↦ inr (named_one b p t)
        | inr t ↦ inl (not_false (has g.waiting.items p) (both ∙ ap (λ (z : Bool). z || has (b ∷ []) p) old ∙ t))
      ]

  -- less is left to be done
  pub turn_less : work f k < work f g
  turn_less =
      let more : work f k ≤ work f h = a.less (λ p c n. goes_labels f enterer b n.found n.here e n.context p c n.goes) in
      let places : count_by (λ x. is_none (found h.walked.places x.label)) f ≡ count_by (λ x. is_none (found g.walked.places x.label)) f =
      ap (λ (w : Walked). count_by (λ x. is_none (found w.places x.label)) f) same in
      let waiting : length g.waiting.items ≡ length h.waiting.items + 1 = ap length popped ∙ length_push h.waiting.items b in
      omega arith

  module _ (t : WalkTable f (InPlaces (context_of g.walked)) (IsDone (is_done g))) where
    onward_steps : (p : ℕ) (d : Context) → (n : OnwardFrom f enterer h.walked b p d) → Steps f b n.context p d
    onward_steps p d n = goes_steps f enterer b n.found n.here e n.context p d n.runs (t.sound b n.context (there b n.context n.stands)) n.goes

    sound : (p : ℕ) (c : Context) → context_of k.walked p ≡ Some c → Walk f p c
    sound p c i =
        elim (a.more p c i) [
          | inl o ↦ t.sound p c (there p c o)
          | inr n ↦ step_walked f b p n.context c (t.sound b n.context (there b n.context n.stands)) (onward_steps p c n)
        ]

    middle : WalkMiddle f (InPlaces (context_of g.walked)) (InPlaces (context_of k.walked)) (IsDone (is_done g)) (IsDone (is_done k)) b
    middle = record {
      grows = λ p c i. a.grows p c (back p c i);
      sound = sound;
      settled = λ p c i d. (let w = a.waits p c i d in (there p c w.0, done_cases p w.1));
    }

    visited : (p : ℕ) (c d : Context) → InPlaces (context_of g.walked) b c → Steps f b c p d → Visited f (InPlaces (context_of k.walked)) p d
    visited p c d i s =
        let w = t.sound b c i in
        let n = steps_onward f enterer e h.walked b c w (back b c i) p d s in
        let o = a.placed p d n in
        visited_known f (InPlaces (context_of k.walked)) p d o.0 (step_walked f b p c d w s) o.1 (sound p o.0 o.1)

    pub turned : WalkTable f (InPlaces (context_of k.walked)) (IsDone (is_done k))
    turned =
        walk_turn f (InPlaces (context_of g.walked)) (InPlaces (context_of k.walked)) (IsDone (is_done g)) (IsDone (is_done k)) b t
        (walk_ends f (InPlaces (context_of g.walked)) (IsDone (is_done g)) b (InPlaces (context_of k.walked)) (IsDone (is_done k)) middle visited)

-- ---- the first turn and the last

pub started : (f : Code) (g : Going) → Begins f g → WalkTable f (InPlaces (context_of g.walked)) (IsDone (is_done g))
started f g b =
    walk_begin f (InPlaces (context_of g.walked)) (IsDone (is_done g))
    (λ p c i. (let o = b.only p c i in subst (λ (d : Context). Walk f p d) (sym o.1) (Starts p o.0)))
    b.first
    (λ p c i d. false≢true (sym (b.only p c i).2 ∙ d))

pub finished : (f : Code) (g h : Going) → WalkTable f (InPlaces (context_of g.walked)) (IsDone (is_done g)) → h.walked ≡ g.walked → g.waiting.items ≡ []
    → IsWalk f (InPlaces (context_of h.walked))
finished f g h t same empty =
    subst (λ (w : Walked). IsWalk f (InPlaces (context_of w))) (sym same)
    (walk_end f (InPlaces (context_of g.walked)) (IsDone (is_done g)) t (λ p c i. ap (λ (ws : List ℕ). not (has ws p)) empty))
