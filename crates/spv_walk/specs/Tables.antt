-- Tables that are filled with a worklist: what makes them exact.
use Rattle.std.specs.Prelude.{◌≡◌, ◌≢◌, ◌⊎◌, ℕ, ◌≤◌, ◌==◌, Bool, true, false, not, ◌&&◌, ◌||◌, List, [], ◌∷◌, Option, Some, None, is_none}
use Rattle.spv_blocks.specs.Blocks.{Code, branches, construct, merge_of, next_of, is_role, is_it, stops, goes, is_case, names, has, times, is_label, is_first}
use Rattle.spv_walk.specs.Walk.{Top, Inside, Back, Counted, Enters}

-- a test tells which numbers have a property
pub record Tells (test : ℕ → Bool) (P : ℕ → Type 0) : Type 0 where
  pub sound : (p : ℕ) → test p ≡ true → P p
  pub whole : (p : ℕ) → P p → test p ≡ true

-- ---- tops of continue parts

-- by what a table tells of the blocks that branch to t, it stands behind b in the continue part of h: the others are its own back edges
pub record GoesAlong (f : Code) (In : (h b : ℕ) → Type 0) (h b t : ℕ) : Type 0 where
  pub top : In h b
  pub bare : construct f b ≡ None
  pub free : goes f b t ≡ true
  pub differ : t ≢ h
  pub back : (q : ℕ) → q ≢ b → branches f q t ≡ true → In t q
  pub back_bare : (q : ℕ) → q ≢ b → branches f q t ≡ true → construct f q ≡ None

-- a table of tops, closed for the blocks that are done
pub record TopTable (f : Code) (In : (h b : ℕ) → Type 0) (Done : ℕ → Type 0) : Type 0 where
  pub sound : (h b : ℕ) → In h b → Top f h b
  pub begins : (h c : ℕ) → next_of (construct f h) ≡ Some c → is_role f h c ≡ true → In h c
  pub past : (h b m : ℕ) → In h b → Done b → stops f b ≡ false → merge_of (construct f b) ≡ Some m → is_role f b m ≡ true → In h m
  pub along : (h b t : ℕ) → GoesAlong f (λ k q. In k q × Done q) h b t → In h t

-- in a table, and done or at its turn
abbrev pub AtTurn : (In : (h b : ℕ) → Type 0) (Done : ℕ → Type 0) (b : ℕ) → (h q : ℕ) → Type 0
AtTurn In Done b h q = In h q × (Done q ⊎ (q ≡ b))

-- what a turn at the block b has to show of the table and the done blocks after it
pub record TopTurn (f : Code) (In In2 : (h b : ℕ) → Type 0) (Done Done2 : ℕ → Type 0) (b : ℕ) : Type 0 where
  pub grows : (h p : ℕ) → In h p → In2 h p
  pub sound : (h p : ℕ) → In2 h p → Top f h p
  pub settled : (h p : ℕ) → In2 h p → Done2 p → AtTurn In Done b h p
  pub past : (h m : ℕ) → In h b → stops f b ≡ false → merge_of (construct f b) ≡ Some m → is_role f b m ≡ true → In2 h m
  pub along : (h p t : ℕ) → construct f b ≡ None → branches f b t ≡ true → GoesAlong f (AtTurn In Done b) h p t → In2 h t

-- in the midst of a turn at b, when some of its targets have been looked at
pub record TopMiddle (f : Code) (In In2 : (h b : ℕ) → Type 0) (Done Done2 : ℕ → Type 0) (b : ℕ) (Looked : ℕ → Type 0) : Type 0 where
  pub grows : (h p : ℕ) → In h p → In2 h p
  pub sound : (h p : ℕ) → In2 h p → Top f h p
  pub settled : (h p : ℕ) → In2 h p → Done2 p → AtTurn In Done b h p
  pub along : (h p t : ℕ) → Looked t → GoesAlong f (AtTurn In Done b) h p t → In2 h t

-- t is put at the top of the loop h, and is not done
pub record TopAdds (f : Code) (In In2 : (h b : ℕ) → Type 0) (Done Done2 : ℕ → Type 0) (h t : ℕ) : Type 0 where
  pub grows : (k p : ℕ) → In k p → In2 k p
  pub has : In2 h t
  pub more : (k p : ℕ) → In2 k p → In k p ⊎ ((k ≡ h) × (p ≡ t))
  pub waits : (k p : ℕ) → In2 k p → Done2 p → In k p × Done p

-- ---- what is inside a case

-- p comes directly behind b, past merge instructions
pub data Onward (f : Code) (b : ℕ) : (p : ℕ) → Type 0 where
  OnMerge : (m : ℕ) → merge_of (construct f b) ≡ Some m → is_role f b m ≡ true → Onward f b m
  OnNext : (c : ℕ) → next_of (construct f b) ≡ Some c → is_role f b c ≡ true → Onward f b c
  OnInto : (t : ℕ) → goes f b t ≡ true → Onward f b t

-- p is reached from one of several starts
pub record InsideSome (f : Code) (Start : ℕ → Type 0) (p : ℕ) : Type 0 where
  pub from : ℕ
  pub starts : Start from
  pub inside : Inside f from p

-- a table of reached blocks, closed for those that are done
pub record ReachTable (f : Code) (Start In Done : ℕ → Type 0) : Type 0 where
  pub sound : (p : ℕ) → In p → InsideSome f Start p
  pub starts : (x : ℕ) → Start x → In x
  pub onward : (b p : ℕ) → In b → Done b → stops f b ≡ false → Onward f b p → In p

pub record ReachTurn (f : Code) (Start In In2 Done Done2 : ℕ → Type 0) (b : ℕ) : Type 0 where
  pub grows : (p : ℕ) → In p → In2 p
  pub sound : (p : ℕ) → In2 p → InsideSome f Start p
  pub settled : (p : ℕ) → In2 p → Done2 p → In p × (Done p ⊎ (p ≡ b))
  pub onward : (p : ℕ) → In b → stops f b ≡ false → Onward f b p → In2 p

-- ---- branches that are counted

-- x begins another case of the switch s than t
pub record OtherCase (f : Code) (s t x : ℕ) : Type 0 where
  pub to_case : is_case f s x ≡ true
  pub differ : x ≢ t

-- a branch from p to its case t leads out of another case of the switch s
pub record FallsAt (f : Code) (s t p : ℕ) : Type 0 where
  pub to_case : is_case f s t ≡ true
  pub other : p ≢ s
  pub inside : InsideSome f (OtherCase f s t) p

-- p branches to t, and is counted as far as these switches have been looked at
pub record Remains (f : Code) (Looked : ℕ → Type 0) (t p : ℕ) : Type 0 where
  pub branch : branches f p t ≡ true
  pub no_back : Back f t p → ⊥
  pub no_fall : (s : ℕ) → Looked s → FallsAt f s t p → ⊥

-- by a table of tops, a branch from p to t is a back edge of the loop t
abbrev pub is_back_by : (f : Code) (top : ℕ → Option ℕ) (t p : ℕ) → Bool
is_back_by f top t p = is_it t (top p) && is_none (construct f p)

-- the one element of a list
abbrev pub only : List ℕ → Option ℕ
only [] = None
only (x ∷ []) = Some x
only (x ∷ y ∷ xs) = None

-- b is the one block that branches to t, back edges aside
pub record IsLone (f : Code) (b t : ℕ) : Type 0 where
  pub free : goes f b t ≡ true
  pub no_back : Back f t b → ⊥
  pub one : (q : ℕ) → branches f q t ≡ true → (Back f t q → ⊥) → q ≡ b

-- ---- the laws of tops

-- a table of the code: the loop of each block, and which blocks are done
abbrev pub InTops : (ℕ → Option ℕ) → (h b : ℕ) → Type 0
InTops top h b = top b ≡ Some h

abbrev pub IsDone : (ℕ → Bool) → ℕ → Type 0
IsDone done b = done b ≡ true

-- a label that merge instructions name once is the merge block or the continue target of one header, and not both
pub record OneHeader (f : Code) (h k l : ℕ) : Type 0 where
  pub merge : merge_of (construct f h) ≡ Some l → merge_of (construct f k) ≡ Some l → h ≡ k
  pub next : next_of (construct f h) ≡ Some l → next_of (construct f k) ≡ Some l → h ≡ k
  pub apart : merge_of (construct f h) ≡ Some l → next_of (construct f k) ≡ Some l → ⊥

abbrev pub NamedOnce : Type 0
NamedOnce = (f : Code) (h k l : ℕ) → names f l ≡ 1 → OneHeader f h k l

-- a block stands at the top of the continue part of one loop at most
abbrev pub OneTop : Type 0
OneTop = (f : Code) (h k b : ℕ) → Top f h b → Top f k b → h ≡ k

-- a table of the continue targets alone is one where nothing is done
abbrev pub TopsBegin : Type 0
TopsBegin = (f : Code) (top : ℕ → Option ℕ) (done : ℕ → Bool) → ((h b : ℕ) → InTops top h b → Top f h b)
    → ((h c : ℕ) → next_of (construct f h) ≡ Some c → is_role f h c ≡ true → InTops top h c)
    → ((h b : ℕ) → InTops top h b → IsDone done b → ⊥) → TopTable f (InTops top) (IsDone done)

-- each turn keeps it
abbrev pub TopsTurn : Type 0
TopsTurn = (f : Code) (top top2 : ℕ → Option ℕ) (done done2 : ℕ → Bool) (b : ℕ) → TopTable f (InTops top) (IsDone done)
    → TopTurn f (InTops top) (InTops top2) (IsDone done) (IsDone done2) b → TopTable f (InTops top2) (IsDone done2)

-- and where all of it is done it is exact
abbrev pub TopsEnd : Type 0
TopsEnd = (f : Code) (top : ℕ → Option ℕ) (done : ℕ → Bool) → TopTable f (InTops top) (IsDone done) → ((h b : ℕ) → InTops top h b → IsDone done b)
    → (h b : ℕ) → (Top f h b → InTops top h b) × (InTops top h b → Top f h b)

-- the block that goes along is the only one that is no back edge by the table, and where the table has a loop for the label it goes to, it is this one
pub record AlongByTable (f : Code) (top : ℕ → Option ℕ) (h b t : ℕ) : Type 0 where
  pub one : top b ≡ Some t → ⊥
  pub stands : Top f h t
  pub known : (k : ℕ) → top t ≡ Some k → k ≡ h

abbrev pub TopsAlong : Type 0
TopsAlong = (f : Code) (top : ℕ → Option ℕ) → ((h b : ℕ) → InTops top h b → Top f h b) → (h b t : ℕ) → GoesAlong f (InTops top) h b t → AlongByTable f top h b t

-- the targets of a block are looked at one by one: at first none; where nothing is added at one, a loop that it goes along in has it already, and else
-- it is added; and once all were looked at, the turn is done
pub record TopsByTargets (f : Code) (top top2 : ℕ → Option ℕ) (done done2 : ℕ → Bool) (b : ℕ) : Type 0 where
  pub begins : ((h p : ℕ) → InTops top h p → Top f h p) → ((p : ℕ) → IsDone done2 p → IsDone done p ⊎ (p ≡ b))
      → TopMiddle f (InTops top) (InTops top) (IsDone done) (IsDone done2) b (λ t. ⊥)
  pub keeps : (looked : ℕ → Bool) (t : ℕ) → TopMiddle f (InTops top) (InTops top2) (IsDone done) (IsDone done2) b (IsDone looked)
      → ((h p : ℕ) → GoesAlong f (AtTurn (InTops top) (IsDone done) b) h p t → InTops top2 h t)
      → TopMiddle f (InTops top) (InTops top2) (IsDone done) (IsDone done2) b (IsDone (λ u. looked u || u == t))
  pub adds : (top3 : ℕ → Option ℕ) (done3 looked : ℕ → Bool) (h t : ℕ) → TopMiddle f (InTops top) (InTops top2) (IsDone done) (IsDone done2) b (IsDone looked)
      → Top f h t → TopAdds f (InTops top2) (InTops top3) (IsDone done2) (IsDone done3) h t
      → TopMiddle f (InTops top) (InTops top3) (IsDone done) (IsDone done3) b (IsDone (λ u. looked u || u == t))
  pub ends : (looked : ℕ → Bool) → TopMiddle f (InTops top) (InTops top2) (IsDone done) (IsDone done2) b (IsDone looked)
      → (construct f b ≡ None → (t : ℕ) → branches f b t ≡ true → IsDone looked t)
      → ((h m : ℕ) → InTops top h b → stops f b ≡ false → merge_of (construct f b) ≡ Some m → is_role f b m ≡ true → InTops top2 h m)
      → TopTurn f (InTops top) (InTops top2) (IsDone done) (IsDone done2) b

abbrev pub TopsTargets : Type 0
TopsTargets = (f : Code) (top top2 : ℕ → Option ℕ) (done done2 : ℕ → Bool) (b : ℕ) → TopsByTargets f top top2 done done2 b

-- ---- the laws of what is reached

abbrev pub ReachBegins : Type 0
ReachBegins = (f : Code) (start marks done : ℕ → Bool) → ((p : ℕ) → IsDone marks p → InsideSome f (IsDone start) p) → ((x : ℕ) → IsDone start x → IsDone marks x)
    → ((p : ℕ) → IsDone marks p → IsDone done p → ⊥) → ReachTable f (IsDone start) (IsDone marks) (IsDone done)

abbrev pub ReachTurns : Type 0
ReachTurns = (f : Code) (start marks marks2 done done2 : ℕ → Bool) (b : ℕ) → ReachTable f (IsDone start) (IsDone marks) (IsDone done)
    → ReachTurn f (IsDone start) (IsDone marks) (IsDone marks2) (IsDone done) (IsDone done2) b → ReachTable f (IsDone start) (IsDone marks2) (IsDone done2)

-- where all marked blocks are done, the marks tell what is reached
abbrev pub ReachEnds : Type 0
ReachEnds = (f : Code) (start marks done : ℕ → Bool) → ReachTable f (IsDone start) (IsDone marks) (IsDone done) → ((p : ℕ) → IsDone marks p → IsDone done p)
    → Tells marks (InsideSome f (IsDone start))

-- and what is reached from other cases of a switch
abbrev pub ReachCases : Type 0
ReachCases = (f : Code) (s t : ℕ) (start marks : ℕ → Bool) → Tells start (OtherCase f s t) → Tells marks (InsideSome f (IsDone start)) → Tells marks (InsideSome f (OtherCase f s t))

-- ---- the laws of what is counted

-- at first the blocks that branch to t are left, but for its back edges
abbrev pub LeftBegins : Type 0
LeftBegins = (f : Code) (top : ℕ → Option ℕ) (t : ℕ) → ((h b : ℕ) → Top f h b → InTops top h b) → ((h b : ℕ) → InTops top h b → Top f h b)
    → Tells (λ p. branches f p t && not (is_back_by f top t p)) (Remains f (λ s. ⊥) t)

-- a switch that has t as a case takes away what its other cases reach, and not itself
abbrev pub LeftTurns : Type 0
LeftTurns = (f : Code) (looked left marks : ℕ → Bool) (s t : ℕ) → is_case f s t ≡ true → Tells left (Remains f (IsDone looked) t) → Tells marks (InsideSome f (OtherCase f s t))
    → Tells (λ p. left p && (p == s || not (marks p))) (Remains f (IsDone (λ u. looked u || u == s)) t)

-- once each switch that has t as a case has done so, what is counted is left
abbrev pub LeftEnds : Type 0
LeftEnds = (f : Code) (looked left : ℕ → Bool) (t : ℕ) → ((s : ℕ) → is_case f s t ≡ true → IsDone looked s) → Tells left (Remains f (IsDone looked) t) → Tells left (Counted f t)

-- and if just one is left, it enters t
abbrev pub EntersFromList : Type 0
EntersFromList = (f : Code) (t : ℕ) (left : List ℕ) → Tells (has left) (Counted f t) → ((p : ℕ) → times left p ≤ 1) → is_label f t ≡ true → is_first f t ≡ false → names f t ≡ 0
    → (b : ℕ) → (only left ≡ Some b → Enters f b t) × (Enters f b t → only left ≡ Some b)

-- cases need not be looked at where one block branches to t, back edges aside, nor where t is a case of no switch
abbrev pub LoneEnters : Type 0
LoneEnters = (f : Code) (b t : ℕ) → IsLone f b t → Enters f b t

abbrev pub EntersLone : Type 0
EntersLone = (f : Code) (b t : ℕ) → ((s : ℕ) → is_case f s t ≡ true → ⊥) → Enters f b t → IsLone f b t
