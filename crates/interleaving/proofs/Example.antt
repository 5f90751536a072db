-- Facts of the small machine.
use Rattle.std.proofs.Common.{◌≡◌, ℕ, zero, suc, ◌<◌, Bool, true, false, cond, not, ◌&&◌, ◌||◌, ◌==◌, ◌⊎◌, inl, inr, is_none, Some, List, [], ◌∷◌, refl, sym, ap, ◌∙◌, subst, arith}
use Rattle.interleaving.specs.Machine.{Answer, HasReturned, Goes, Stands, Program, Effects, World, gone, accessed, step, first_world, Within, Ends, Finals}
use Rattle.interleaving.specs.Trace.{Returned, Runs, ended, trace_of}
use Rattle.interleaving.specs.Keeps.{Alike, Keeps}
use Rattle.interleaving.specs.Simulation.{ComesTo, Meets, Simulation}
use Rattle.interleaving.specs.Laws.{Suits, SameFinals}
use Rattle.interleaving.specs.Example.{Access, Load, Exchange, Add, Barrier, Act, Skip, Spin, Makes, Copy, Swap, Await, Trap, first_word, look, one_workgroup, two_workgroups, two_and_one, doing, is_unread, drop_unread, Leads, KeepsRead}
use Rattle.interleaving.proofs.Worlds.{put_here, IsFree, step_goes, step_stands, eq_true}
use Rattle.interleaving.proofs.Simulating.{simulation_keeps}
use Rattle.interleaving.proofs.Schedules.{schedules}
use Rattle.interleaving.proofs.Exploring.{explored_ends, explored_finals, led, leads, final_by, deadlocked}

-- a test that is met makes a fact
leads_by : (e : Effects Access ℕ) (p : Program (List Act) Access) (schedule : List ℕ) (P : World (List Act) ℕ → Bool) → leads e p P schedule (Some (first_world e p)) ≡ true → Leads e p schedule P
leads_by e p schedule P h = let r = led e p P schedule (first_world e p) h in (r.world, r.run, r.there)

one_of_by : (a b m : ℕ) (c : Bool) → (m == a) ≡ c → (c || (m == b)) ≡ true → (m ≡ a) ⊎ (m ≡ b)
one_of_by a b m true g h = inl (eq_true m a g)
one_of_by a b m false g h = inr (eq_true m b h)

one_of : (a b m : ℕ) → ((m == a) || (m == b)) ≡ true → (m ≡ a) ⊎ (m ≡ b)
one_of a b m h = one_of_by a b m (m == a) refl h

-- TWO INVOCATIONS AND A BARRIER
pub barrier_ends : Ends one_workgroup (doing (Makes Barrier ∷ []) (Makes Barrier ∷ []))
barrier_ends = explored_ends one_workgroup (doing (Makes Barrier ∷ []) (Makes Barrier ∷ [])) (λ m. true) 2 refl

pub barrier_waits : Leads one_workgroup (doing (Makes Barrier ∷ Skip ∷ []) (Makes Barrier ∷ [])) (0 ∷ []) (λ w. w.waits 0 && is_none (step one_workgroup (doing (Makes Barrier ∷ Skip ∷ []) (Makes Barrier ∷ [])) w 0))
barrier_waits = leads_by one_workgroup (doing (Makes Barrier ∷ Skip ∷ []) (Makes Barrier ∷ [])) (0 ∷ []) (λ w. w.waits 0 && is_none (step one_workgroup (doing (Makes Barrier ∷ Skip ∷ []) (Makes Barrier ∷ [])) w 0)) refl

pub barrier_releases : Leads one_workgroup (doing (Makes Barrier ∷ []) (Makes Barrier ∷ [])) (0 ∷ 1 ∷ []) (λ w. not (w.waits 0) && not (w.waits 1))
barrier_releases = leads_by one_workgroup (doing (Makes Barrier ∷ []) (Makes Barrier ∷ [])) (0 ∷ 1 ∷ []) (λ w. not (w.waits 0) && not (w.waits 1)) refl

pub waits_for_ever : Ends one_workgroup (doing [] (Makes Barrier ∷ [])) → ⊥
waits_for_ever = deadlocked one_workgroup (doing [] (Makes Barrier ∷ [])) 1 (1 ∷ []) refl

pub own_workgroup : Ends two_workgroups (doing [] (Makes Barrier ∷ []))
own_workgroup = explored_ends two_workgroups (doing [] (Makes Barrier ∷ [])) (λ m. true) 1 refl

pub releases_its_own : Leads two_and_one (doing (Makes Barrier ∷ []) (Makes Barrier ∷ [])) (0 ∷ 2 ∷ []) (λ w. w.waits 0 && not (w.waits 2))
releases_its_own = leads_by two_and_one (doing (Makes Barrier ∷ []) (Makes Barrier ∷ [])) (0 ∷ 2 ∷ []) (λ w. w.waits 0 && not (w.waits 2)) refl

pub ordered : (m : ℕ) → Finals one_workgroup (doing (Makes (Exchange 1) ∷ Makes Barrier ∷ []) (Makes Barrier ∷ Makes (Exchange 2) ∷ [])) m → m ≡ 2
ordered m f = eq_true m 2 (explored_finals one_workgroup (doing (Makes (Exchange 1) ∷ Makes Barrier ∷ []) (Makes Barrier ∷ Makes (Exchange 2) ∷ [])) (λ x. x == 2) 4 refl m f)

-- WHAT DOES NOT END
pub trap : Ends one_workgroup (doing (Trap ∷ []) []) → ⊥
trap = deadlocked one_workgroup (doing (Trap ∷ []) []) 0 [] refl

-- a spin loop is where it was after each step
spins : (n : ℕ) (w : World (List Act) ℕ) → Within one_workgroup (doing (Spin ∷ []) []) n w → w.state 0 ≡ Spin ∷ [] → w.waits 0 ≡ false → ⊥
spins zero w h s free = cc ((h 0 (omega arith)).1)
spins (suc n) w (inl h) s free = cc ((h 0 (omega arith)).1)
spins (suc n) w (inr h) s free =
    let lt : 0 < 2 = omega arith in
    let is_free : IsFree one_workgroup (doing (Spin ∷ []) []) w 0 = record { there = lt; free = free } in
    spins n (gone w 0 (Spin ∷ [])) (h.1 0 (gone w 0 (Spin ∷ [])) (step_goes one_workgroup (doing (Spin ∷ []) []) w 0 (Spin ∷ []) is_free (ap look s))) (put_here w.state 0 (Spin ∷ [])) free

pub spin : Ends one_workgroup (doing (Spin ∷ []) []) → ⊥
spin h = spins h.0 (first_world one_workgroup (doing (Spin ∷ []) [])) h.1 refl refl

-- a wait for a word that another invocation is to store: where the other never steps, each load leaves all as it was
awaits : (n : ℕ) (w : World (List Act) ℕ) → Within one_workgroup (doing (Await ∷ []) (Makes (Exchange 1) ∷ [])) n w → w.state 0 ≡ Await ∷ [] → w.waits 0 ≡ false → w.memory ≡ 0 → ⊥
awaits zero w h s free m = cc ((h 0 (omega arith)).1)
awaits (suc n) w (inl h) s free m = cc ((h 0 (omega arith)).1)
awaits (suc n) w (inr h) s free m =
    let p : Program (List Act) Access = doing (Await ∷ []) (Makes (Exchange 1) ∷ []) in
    let k : Answer → List Act = λ x. cond (first_word x == 0) (Await ∷ []) [] in
    let lt : 0 < 2 = omega arith in
    let is_free : IsFree one_workgroup p w 0 = record { there = lt; free = free } in
    awaits n (accessed one_workgroup w 0 (Load 2) k) (h.1 0 (accessed one_workgroup w 0 (Load 2) k) (step_stands one_workgroup p w 0 (Load 2) k is_free (ap look s)))
    (put_here w.state 0 (k (w.memory ∷ [])) ∙ ap (λ x. k (x ∷ [])) m) free m

pub unfair : Ends one_workgroup (doing (Await ∷ []) (Makes (Exchange 1) ∷ [])) → ⊥
unfair h = awaits h.0 (first_world one_workgroup (doing (Await ∷ []) (Makes (Exchange 1) ∷ []))) h.1 refl refl refl

pub awaited : Finals one_workgroup (doing (Await ∷ []) (Makes (Exchange 1) ∷ [])) 1
awaited = final_by one_workgroup (doing (Await ∷ []) (Makes (Exchange 1) ∷ [])) (λ x. x == 1) 1 (λ x h. eq_true x 1 h) (0 ∷ 1 ∷ 0 ∷ []) refl

-- FINAL MEMORIES
pub exchanges_end : (m : ℕ) → Finals one_workgroup (doing (Makes (Exchange 1) ∷ []) (Makes (Exchange 2) ∷ [])) m → (m ≡ 1) ⊎ (m ≡ 2)
exchanges_end m f = one_of 1 2 m (explored_finals one_workgroup (doing (Makes (Exchange 1) ∷ []) (Makes (Exchange 2) ∷ [])) (λ x. (x == 1) || (x == 2)) 2 refl m f)

pub exchange_last : Finals one_workgroup (doing (Makes (Exchange 1) ∷ []) (Makes (Exchange 2) ∷ [])) 2
exchange_last = final_by one_workgroup (doing (Makes (Exchange 1) ∷ []) (Makes (Exchange 2) ∷ [])) (λ x. x == 2) 2 (λ x h. eq_true x 2 h) (0 ∷ 1 ∷ []) refl

pub exchange_first : Finals one_workgroup (doing (Makes (Exchange 1) ∷ []) (Makes (Exchange 2) ∷ [])) 1
exchange_first = final_by one_workgroup (doing (Makes (Exchange 1) ∷ []) (Makes (Exchange 2) ∷ [])) (λ x. x == 1) 1 (λ x h. eq_true x 1 h) (1 ∷ 0 ∷ []) refl

pub additions : (m : ℕ) → Finals one_workgroup (doing (Makes (Add 1) ∷ []) (Makes (Add 2) ∷ [])) m → m ≡ 3
additions m f = eq_true m 3 (explored_finals one_workgroup (doing (Makes (Add 1) ∷ []) (Makes (Add 2) ∷ [])) (λ x. x == 3) 2 refl m f)

pub lost_exchange : Finals one_workgroup (doing (Copy ∷ []) (Makes (Exchange 5) ∷ [])) 0
lost_exchange = final_by one_workgroup (doing (Copy ∷ []) (Makes (Exchange 5) ∷ [])) (λ x. x == 0) 0 (λ x h. eq_true x 0 h) (0 ∷ 1 ∷ 0 ∷ []) refl

pub copies : (m : ℕ) → Finals one_workgroup (doing (Makes (Exchange 7) ∷ Copy ∷ []) []) m → m ≡ 7
copies m f = eq_true m 7 (explored_finals one_workgroup (doing (Makes (Exchange 7) ∷ Copy ∷ []) []) (λ x. x == 7) 3 refl m f)

pub swaps_back : (m : ℕ) → Finals one_workgroup (doing (Swap 7 ∷ []) []) m → m ≡ 0
swaps_back m f = eq_true m 0 (explored_finals one_workgroup (doing (Swap 7 ∷ []) []) (λ x. x == 0) 2 refl m f)

-- TRACES
spins_on : (n : ℕ) → trace_of look (Spin ∷ []) n [] ≡ ended Runs
spins_on zero = refl
spins_on (suc n) = spins_on n

pub spin_runs : (n : ℕ) → trace_of look (Spin ∷ []) n [] ≡ ended Runs
spin_runs n = spins_on n

-- ACCESSES KEPT. a list and the same without its unread loads are in a simulation
abbrev Same : Access → Access → Type 0
Same x y = x ≡ y

abbrev R : List Act → List Act → Type 0
R s u = u ≡ drop_unread s

next_same : (a b : Access) (k j : Answer → List Act) → Stands a k ≡ Stands b j → (x : Answer) → k x ≡ j x
next_same a b k j h x = let r : k ≡ j = cc h in ap (λ f. f x) r

access_same : (a b : Access) (k j : Answer → List Act) → Stands a k ≡ Stands b j → a ≡ b
access_same a b k j h = cc h

sim_goes : (s v u : List Act) → R s u → look s ≡ Goes v → ComesTo look (R v) u
sim_goes [] v u r h = absurd (cc h)
sim_goes (Skip ∷ acts) v u r h = let same : acts ≡ v = cc h in record { count = 1; state = drop_unread acts; by = (drop_unread acts, ap look r, refl); there = ap drop_unread same }
sim_goes (Spin ∷ acts) v u r h = let same : Spin ∷ acts ≡ v = cc h in record { count = 1; state = Spin ∷ drop_unread acts; by = (Spin ∷ drop_unread acts, ap look r, refl); there = ap drop_unread same }
sim_goes (Makes a ∷ acts) v u r h = absurd (cc h)
sim_goes (Copy ∷ acts) v u r h = absurd (cc h)
sim_goes (Swap n ∷ acts) v u r h = absurd (cc h)
sim_goes (Await ∷ acts) v u r h = absurd (cc h)
sim_goes (Trap ∷ acts) v u r h = absurd (cc h)

-- an access that is read is not unread
read_kept : (a b : Access) → b ≡ a → is_unread b ≡ false → is_unread a ≡ true → ⊥
read_kept a b e h g = cc (ap is_unread e, h, g)

sim_left_out : (s u : List Act) (a : Access) (k : Answer → List Act) → R s u → look s ≡ Stands a k → is_unread a ≡ true → (x : Answer) → ComesTo look (R (k x)) u
sim_left_out [] u a k r h out x = absurd (cc h)
sim_left_out (Skip ∷ acts) u a k r h out x = absurd (cc h)
sim_left_out (Spin ∷ acts) u a k r h out x = absurd (cc h)
sim_left_out (Makes (Load zero) ∷ acts) u a k r h out x =
    record { count = zero; state = u; by = refl; there = r ∙ ap drop_unread (next_same (Load zero) a (λ y. acts) k h x) }
sim_left_out (Makes (Load (suc n)) ∷ acts) u a k r h out x = absurd (read_kept a (Load (suc n)) (access_same (Load (suc n)) a (λ y. acts) k h) refl out)
sim_left_out (Makes (Exchange n) ∷ acts) u a k r h out x = absurd (read_kept a (Exchange n) (access_same (Exchange n) a (λ y. acts) k h) refl out)
sim_left_out (Makes (Add n) ∷ acts) u a k r h out x = absurd (read_kept a (Add n) (access_same (Add n) a (λ y. acts) k h) refl out)
sim_left_out (Makes Barrier ∷ acts) u a k r h out x = absurd (read_kept a Barrier (access_same Barrier a (λ y. acts) k h) refl out)
sim_left_out (Copy ∷ acts) u a k r h out x = absurd (read_kept a (Load 1) (access_same (Load 1) a (λ y. Makes (Exchange (first_word y)) ∷ acts) k h) refl out)
sim_left_out (Swap n ∷ acts) u a k r h out x = absurd (read_kept a (Exchange n) (access_same (Exchange n) a (λ y. Makes (Exchange (first_word y)) ∷ acts) k h) refl out)
sim_left_out (Await ∷ acts) u a k r h out x = absurd (read_kept a (Load 2) (access_same (Load 2) a (λ y. cond (first_word y == 0) (Await ∷ acts) acts) k h) refl out)
sim_left_out (Trap ∷ acts) u a k r h out x = absurd (cc h)

-- both stand before the same access
meets : (a b : Access) (k j i : Answer → List Act) (u : List Act) → Stands b j ≡ Stands a k → look u ≡ Stands b i → ((x : Answer) → i x ≡ drop_unread (j x)) → ComesTo look (Meets look Same R a k) u
meets a b k j i u h g next = record {
  count = zero;
  state = u;
  by = refl;
  there = record {
    access = b;
    next = i;
    stands = g;
    same = sym (access_same b a j k h);
    goes_on = λ x. next x ∙ ap drop_unread (next_same b a j k h x);
  };
}

drop_either : (b : Bool) (acts : List Act) → cond b (Await ∷ drop_unread acts) (drop_unread acts) ≡ drop_unread (cond b (Await ∷ acts) acts)
drop_either true acts = refl
drop_either false acts = refl

sim_kept : (s u : List Act) (a : Access) (k : Answer → List Act) → R s u → look s ≡ Stands a k → is_unread a ≡ false → ComesTo look (Meets look Same R a k) u
sim_kept [] u a k r h in_it = absurd (cc h)
sim_kept (Skip ∷ acts) u a k r h in_it = absurd (cc h)
sim_kept (Spin ∷ acts) u a k r h in_it = absurd (cc h)
sim_kept (Makes (Load zero) ∷ acts) u a k r h in_it = absurd (cc (ap is_unread (access_same (Load zero) a (λ y. acts) k h), in_it))
sim_kept (Makes (Load (suc n)) ∷ acts) u a k r h in_it = meets a (Load (suc n)) k (λ y. acts) (λ y. drop_unread acts) u h (ap look r) (λ x. refl)
sim_kept (Makes (Exchange n) ∷ acts) u a k r h in_it = meets a (Exchange n) k (λ y. acts) (λ y. drop_unread acts) u h (ap look r) (λ x. refl)
sim_kept (Makes (Add n) ∷ acts) u a k r h in_it = meets a (Add n) k (λ y. acts) (λ y. drop_unread acts) u h (ap look r) (λ x. refl)
sim_kept (Makes Barrier ∷ acts) u a k r h in_it = meets a Barrier k (λ y. acts) (λ y. drop_unread acts) u h (ap look r) (λ x. refl)
sim_kept (Copy ∷ acts) u a k r h in_it = meets a (Load 1) k (λ y. Makes (Exchange (first_word y)) ∷ acts) (λ y. Makes (Exchange (first_word y)) ∷ drop_unread acts) u h (ap look r) (λ x. refl)
sim_kept (Swap n ∷ acts) u a k r h in_it =
    meets a (Exchange n) k (λ y. Makes (Exchange (first_word y)) ∷ acts) (λ y. Makes (Exchange (first_word y)) ∷ drop_unread acts) u h (ap look r) (λ x. refl)
sim_kept (Await ∷ acts) u a k r h in_it =
    meets a (Load 2) k (λ y. cond (first_word y == 0) (Await ∷ acts) acts) (λ y. cond (first_word y == 0) (Await ∷ drop_unread acts) (drop_unread acts)) u h (ap look r) (λ x. drop_either (first_word x == 0) acts)
sim_kept (Trap ∷ acts) u a k r h in_it = absurd (cc h)

sim_returned : (s u : List Act) → R s u → look s ≡ HasReturned → ComesTo look (λ v. look v ≡ HasReturned) u
sim_returned [] u r h = record { count = zero; state = u; by = refl; there = ap look r }
sim_returned (Skip ∷ acts) u r h = absurd (cc h)
sim_returned (Spin ∷ acts) u r h = absurd (cc h)
sim_returned (Makes a ∷ acts) u r h = absurd (cc h)
sim_returned (Copy ∷ acts) u r h = absurd (cc h)
sim_returned (Swap n ∷ acts) u r h = absurd (cc h)
sim_returned (Await ∷ acts) u r h = absurd (cc h)
sim_returned (Trap ∷ acts) u r h = absurd (cc h)

pub unread_simulation : Simulation look look is_unread Same R
unread_simulation = record {
  goes = λ s v u r h. sim_goes s v u r h;
  left_out = λ s u a k r h out x. sim_left_out s u a k r h out x;
  kept = λ s u a k r h in_it. sim_kept s u a k r h in_it;
  returned = λ s u r h. sim_returned s u r h;
}

pub drops_unread : (acts : List Act) → KeepsRead acts (drop_unread acts)
drops_unread acts = simulation_keeps look look is_unread Same R unread_simulation acts (drop_unread acts) refl

-- so the law applies to the small machine
unread_changes_nothing : (a : Access) (m : ℕ) → is_unread a ≡ true → one_workgroup.after a m ≡ m
unread_changes_nothing (Load k) m h = refl
unread_changes_nothing (Exchange n) m h = absurd (cc h)
unread_changes_nothing (Add n) m h = absurd (cc h)
unread_changes_nothing Barrier m h = absurd (cc h)

unread_is_no_barrier : (a : Access) → is_unread a ≡ true → one_workgroup.is_barrier a ≡ false
unread_is_no_barrier (Load k) h = refl
unread_is_no_barrier (Exchange n) h = refl
unread_is_no_barrier (Add n) h = refl
unread_is_no_barrier Barrier h = absurd (cc h)

pub unread_suits : Suits one_workgroup one_workgroup is_unread Same (λ m n. m ≡ n)
unread_suits = record {
  count = refl;
  group = λ i. refl;
  memory = refl;
  after = λ a b m n h g i. one_workgroup.after (h i) (g i);
  answer = λ a b m n h g i. one_workgroup.answer (sym h i) (sym g i);
  barrier = λ a b h i. one_workgroup.is_barrier (sym h i);
  left_out = λ a m h. unread_changes_nothing a m h;
  no_barrier = λ a h. unread_is_no_barrier a h;
}

keeps_each : (a b : List Act) (i : ℕ) → Keeps is_unread Same (trace_of look ((doing a b).first i)) (trace_of look ((doing (drop_unread a) (drop_unread b)).first i))
keeps_each a b zero = drops_unread a
keeps_each a b (suc i) = drops_unread b

pub law_applies : (a b : List Act) → Ends one_workgroup (doing a b) → SameFinals one_workgroup (doing a b) one_workgroup (doing (drop_unread a) (drop_unread b)) (λ m n. m ≡ n)
law_applies a b ends =
    schedules one_workgroup one_workgroup (doing a b) (doing (drop_unread a) (drop_unread b)) is_unread Same (λ m n. m ≡ n) unread_suits (λ i lt. keeps_each a b i) ends

-- what is dropped, added or moved is seen
nothing_made : (n : ℕ) (l : List Answer) → trace_of look [] n l ≡ ended Returned
nothing_made zero l = refl
nothing_made (suc n) l = refl

dropped : (a : Access) (n : ℕ) → Alike Same (a ∷ []) (trace_of look [] n []).accesses → ⊥
dropped a n h = subst (λ t. Alike Same (a ∷ []) t.accesses) (nothing_made n []) h

pub barrier_is_kept : KeepsRead (Makes Barrier ∷ []) [] → ⊥
barrier_is_kept h = let r = h 0 [] refl in dropped Barrier r.0 r.1

pub exchange_is_kept : KeepsRead (Makes (Exchange 1) ∷ []) [] → ⊥
exchange_is_kept h = let r = h 0 [] refl in dropped (Exchange 1) r.0 r.1

pub read_load_is_kept : KeepsRead (Copy ∷ []) [] → ⊥
read_load_is_kept h = let r = h 0 [] refl in dropped (Load 1) r.0 r.1

added : (a : Access) (n : ℕ) → (trace_of look (Makes a ∷ []) n []).end ≡ Returned → ⊥
added a zero h = cc h
added a (suc n) h = cc h

pub nothing_is_added : KeepsRead [] (Makes (Exchange 1) ∷ []) → ⊥
nothing_is_added h = let r = h 0 [] tt in added (Exchange 1) r.0 r.2

one_two : ◌≡◌ {A = ℕ} 1 2 → ⊥
one_two h = omega arith

exchange_apart : Exchange 1 ≡ Exchange 2 → ⊥
exchange_apart h = let r : ◌≡◌ {A = ℕ} 1 2 = cc h in one_two r

moved_by : (n : ℕ) → Alike Same (Exchange 1 ∷ []) (trace_of look (Makes (Exchange 2) ∷ Makes (Exchange 1) ∷ []) n []).accesses → ⊥
moved_by zero h = exchange_apart h.0
moved_by (suc n) h = exchange_apart h.0

pub order_is_kept : KeepsRead (Makes (Exchange 1) ∷ Makes (Exchange 2) ∷ []) (Makes (Exchange 2) ∷ Makes (Exchange 1) ∷ []) → ⊥
order_is_kept h = let r = h 0 [] refl in moved_by r.0 r.1

-- a return is kept, and so is what stands before a loop that never ends
pub return_is_kept : KeepsRead [] (Spin ∷ []) → ⊥
return_is_kept h = let r = h 0 [] tt in cc (ap (λ t. t.end) (spins_on r.0), r.2)

spins_alone : (a : Access) (n : ℕ) → Alike Same (a ∷ []) (trace_of look (Spin ∷ []) n []).accesses → ⊥
spins_alone a n h = subst (λ t. Alike Same (a ∷ []) t.accesses) (spins_on n) h

pub kept_before_spin : KeepsRead (Makes (Exchange 1) ∷ Spin ∷ []) (Spin ∷ []) → ⊥
kept_before_spin h = let r = h 0 [] refl in spins_alone (Exchange 1) r.0 r.1
