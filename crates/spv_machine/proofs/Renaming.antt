-- Accesses that are alike up to the names of Workgroup variables do alike to memories that are.
use Rattle.std.proofs.Common.{◌≡◌, ℕ, Bool, true, false, cond, ◌&&◌, ◌==◌, List, [], ◌∷◌, map, Option, Some, None, refl, sym, ap, ◌∙◌, subst, nat_eq}
use Rattle.std.proofs.lemmas.Bool.{eqb-true, eqb-false, eq-eqb, ne_eqb}
use Rattle.std.specs.Prelude.{slice_index, length}
use Rattle.std.specs.Map.{lookup}
use Rattle.spv_opcodes.specs.declared.op.TheConstants as op
use Rattle.spv_machine.specs.Places.{Triple, same_triple, Memory, Buffer, Uniform, Push, Workgroup, Input, Private, Local, Place, is_within}
use Rattle.spv_machine.specs.Access.{Action, Loads, Stores, Atomics, Fences, Barriers, Access, IsPlainLoad}
use Rattle.spv_machine.specs.Dispatch.{words_bound}
use Rattle.spv_machine.specs.Effects.{Shared, cell_word, with_bound_word, shared_word, with_word, words_there, with_words, shared_size, reached, atomic_rules, after_atomic, after_at, after, read_at, answer_by, answer, is_barrier_action, is_barrier}
use Rattle.spv_machine.specs.Alike.{Renaming, IsOneToOne, SameMemory, SameObject, SamePlace, SameAccess, NearMemory}

some_is : {X : Type 0} (x y : X) → Some x ≡ Some y → x ≡ y
some_is x y e = cc e

-- ---- names

same_by : (a b c d : ℕ) → (a ≡ b → c ≡ d) → (c ≡ d → a ≡ b) → (t : Bool) → (a == b) ≡ t → (c == d) ≡ t
same_by a b c d there back true h = eq-eqb c d (there (eqb-true a b h))
same_by a b c d there back false h = ne_eqb c d (λ e. eqb-false a b h (back e))

-- two variables are one where those that they become are
names_agree : (r : Renaming) → IsOneToOne r → (v v2 u u2 : ℕ) → r v ≡ Some u → r v2 ≡ Some u2 → (u == u2) ≡ (v == v2)
names_agree r one v v2 u u2 e e2 =
    same_by v v2 u u2 (λ h. some_is u u2 (sym e ∙ (ap r h ∙ e2))) (λ h. one v v2 u2 (e ∙ ap Some h) e2) (v == v2) refl

-- ---- words

word_same : (r : Renaming) (a b : Memory) (m n : Shared) → SameMemory r a b → NearMemory r m n → (x : ℕ) → shared_word n b x ≡ shared_word m a x
word_same r (Buffer s t) b m n h near x = ap (λ z. shared_word n z x) h ∙ ap (λ bs. slice_index (words_bound bs s t) x) near.buffers
word_same r (Workgroup g v) b m n h near x = ap (λ z. shared_word n z x) h.2 ∙ near.cells g v h.0 x h.1
word_same r (Uniform s t) b m n h near x = ap (λ z. shared_word n z x) h
word_same r Push b m n h near x = ap (λ z. shared_word n z x) h
word_same r (Input v) b m n h near x = ap (λ z. shared_word n z x) h
word_same r (Private v) b m n h near x = ap (λ z. shared_word n z x) h
word_same r (Local k v) b m n h near x = ap (λ z. shared_word n z x) h

size_same : (r : Renaming) (a b : Memory) (m n : Shared) → SameMemory r a b → NearMemory r m n → shared_size n b ≡ shared_size m a
size_same r (Buffer s t) b m n h near = ap (shared_size n) h ∙ ap (λ bs. Some (length (words_bound bs s t))) near.buffers
size_same r (Workgroup g v) b m n h near = ap (shared_size n) h.2
size_same r (Uniform s t) b m n h near = ap (shared_size n) h
size_same r Push b m n h near = ap (shared_size n) h
size_same r (Input v) b m n h near = ap (shared_size n) h
size_same r (Private v) b m n h near = ap (shared_size n) h
size_same r (Local k v) b m n h near = ap (shared_size n) h

words_same : (r : Renaming) (a b : Memory) (m n : Shared) → SameMemory r a b → NearMemory r m n → (xs : List ℕ) → words_there n b xs ≡ words_there m a xs
words_same r a b m n h near [] = refl
words_same r a b m n h near (x ∷ xs) =
    ap (λ w. w ∷ words_there n b xs) (word_same r a b m n h near x) ∙ ap (λ ws. shared_word m a x ∷ ws) (words_same r a b m n h near xs)

-- ---- one word written

cell_written : (r : Renaming) → IsOneToOne r → (m n : Shared) → NearMemory r m n → (g : Triple) (v u x w : ℕ) → r v ≡ Some u → (h : Triple) (v2 u2 y : ℕ) → r v2 ≡ Some u2 → cell_word (with_word n (Workgroup g u) x w).cells h u2 y ≡ cell_word (with_word m (Workgroup g v) x w).cells h v2 y
cell_written r one m n near g v u x w e h v2 u2 y e2 =
    ap (λ b. cond (same_triple g h && (b && x == y)) w (cell_word n.cells h u2 y)) (names_agree r one v v2 u u2 e e2)
    ∙ ap (λ z. cond (same_triple g h && (v == v2 && x == y)) w z) (near.cells h v2 u2 y e2)

word_written : (r : Renaming) → IsOneToOne r → (a b : Memory) (m n : Shared) (x w : ℕ) → SameMemory r a b → NearMemory r m n → NearMemory r (with_word m a x w) (with_word n b x w)
word_written r one (Buffer s t) b m n x w h near =
    subst (λ z. NearMemory r (with_word m (Buffer s t) x w) (with_word n z x w)) (sym h)
    (record { buffers = ap (λ bs. with_bound_word bs s t x w) near.buffers; cells = near.cells })
word_written r one (Workgroup g v) b m n x w h near =
    subst (λ z. NearMemory r (with_word m (Workgroup g v) x w) (with_word n z x w)) (sym h.2)
    (record { buffers = near.buffers; cells = λ g2 v2 u2 y e2. cell_written r one m n near g v h.0 x w h.1 g2 v2 u2 y e2 })
word_written r one (Uniform s t) b m n x w h near = subst (λ z. NearMemory r m (with_word n z x w)) (sym h) near
word_written r one Push b m n x w h near = subst (λ z. NearMemory r m (with_word n z x w)) (sym h) near
word_written r one (Input v) b m n x w h near = subst (λ z. NearMemory r m (with_word n z x w)) (sym h) near
word_written r one (Private v) b m n x w h near = subst (λ z. NearMemory r m (with_word n z x w)) (sym h) near
word_written r one (Local k v) b m n x w h near = subst (λ z. NearMemory r m (with_word n z x w)) (sym h) near

words_written : (r : Renaming) → IsOneToOne r → (a b : Memory) → SameMemory r a b → (xs ws : List ℕ) (m n : Shared) → NearMemory r m n → NearMemory r (with_words m a xs ws) (with_words n b xs ws)
words_written r one a b h [] ws m n near = near
words_written r one a b h (x ∷ xs) [] m n near = near
words_written r one a b h (x ∷ xs) (w ∷ ws) m n near =
    words_written r one a b h xs ws (with_word m a x w) (with_word n b x w) (word_written r one a b m n x w h near)

-- ---- places

within_same : (r : Renaming) (p q : Place) (m n : Shared) → SameObject r p q → NearMemory r m n → is_within (shared_size n q.memory) q.positions ≡ is_within (shared_size m p.memory) p.positions
within_same r p q m n h near =
    ap (λ xs. is_within (shared_size n q.memory) xs) h.positions ∙ ap (λ o. is_within o p.positions) (size_same r p.memory q.memory m n h.memory near)

both_or_none : (r : Renaming) (p q : Place) (b c : Bool) → c ≡ b → SameObject r p q → SamePlace r (cond b (Some p) None) (cond c (Some q) None)
both_or_none r p q true c e h = subst (λ z. SamePlace r (Some p) (cond z (Some q) None)) (sym e) h
both_or_none r p q false c e h = subst (λ z. SamePlace r None (cond z (Some q) None)) (sym e) tt

reached_same : (r : Renaming) (p q : Option Place) (m n : Shared) → SamePlace r p q → NearMemory r m n → SamePlace r (reached m p) (reached n q)
reached_same r None None m n h near = tt
reached_same r None (Some q) m n h near = absurd h
reached_same r (Some p) None m n h near = absurd h
reached_same r (Some p) (Some q) m n h near =
    both_or_none r p q (is_within (shared_size m p.memory) p.positions) (is_within (shared_size n q.memory) q.positions) (within_same r p q m n h near) h

-- ---- what an access does

stored : (r : Renaming) → IsOneToOne r → (p q : Place) (m n : Shared) (ws vs : List ℕ) → SameObject r p q → NearMemory r m n → vs ≡ ws → NearMemory r (with_words m p.memory p.positions ws) (with_words n q.memory q.positions vs)
stored r one p q m n ws vs h near e =
    subst (λ z. NearMemory r (with_words m p.memory p.positions ws) (with_words n q.memory z vs)) (sym h.positions)
    (subst (λ z. NearMemory r (with_words m p.memory p.positions ws) (with_words n q.memory p.positions z)) (sym e)
    (words_written r one p.memory q.memory h.memory p.positions ws m n near))

read_same : (r : Renaming) (p q : Place) (m n : Shared) → SameObject r p q → NearMemory r m n → words_there n q.memory q.positions ≡ words_there m p.memory p.positions
read_same r p q m n h near = ap (words_there n q.memory) h.positions ∙ words_same r p.memory q.memory m n h.memory near p.positions

atomic_done : (r : Renaming) → IsOneToOne r → (p q : Place) (m n : Shared) (rule : Option (List ℕ → ℕ → ℕ)) (values : List ℕ) → SameObject r p q → NearMemory r m n → NearMemory r (after_atomic m p rule values) (after_atomic n q rule values)
atomic_done r one p q m n None values h near = near
atomic_done r one p q m n (Some rule) values h near =
    stored r one p q m n (map (rule values) (words_there m p.memory p.positions)) (map (rule values) (words_there n q.memory q.positions)) h near
    (ap (map (rule values)) (read_same r p q m n h near))

done : (r : Renaming) → IsOneToOne r → (action : Action) (a b : Access) (p q : Option Place) (m n : Shared) → SameAccess r a b → SamePlace r p q → NearMemory r m n → NearMemory r (after_at m action a p) (after_at n action b q)
done r one Loads a b p q m n same h near = near
done r one Stores a b None None m n same h near = near
done r one Stores a b None (Some q) m n same h near = absurd h
done r one Stores a b (Some p) None m n same h near = absurd h
done r one Stores a b (Some p) (Some q) m n same h near = stored r one p q m n a.operands b.operands h near same.operands
done r one Atomics a b None None m n same h near = near
done r one Atomics a b None (Some q) m n same h near = absurd h
done r one Atomics a b (Some p) None m n same h near = absurd h
done r one Atomics a b (Some p) (Some q) m n same h near =
    subst (λ z. NearMemory r (after_at m Atomics a (Some p)) (after_atomic n q (lookup (nat_eq z) atomic_rules) b.operands)) (sym same.opcode)
    (subst (λ z. NearMemory r (after_at m Atomics a (Some p)) (after_atomic n q (lookup (nat_eq a.opcode) atomic_rules) z)) (sym same.operands)
    (atomic_done r one p q m n (lookup (nat_eq a.opcode) atomic_rules) a.operands h near))
done r one Fences a b p q m n same h near = near
done r one Barriers a b p q m n same h near = near

pub after_near : (r : Renaming) → IsOneToOne r → (a b : Access) (m n : Shared) → SameAccess r a b → NearMemory r m n → NearMemory r (after a m) (after b n)
unfolding after
after_near r one a b m n same near =
    subst (λ z. NearMemory r (after_at m a.action a (reached m a.place)) (after_at n z b (reached n b.place))) (sym same.action)
    (done r one a.action a b (reached m a.place) (reached n b.place) m n same (reached_same r a.place b.place m n same.place near) near)

-- ---- what it answers

answered : (r : Renaming) (p q : Option Place) (m n : Shared) (count : ℕ) → SamePlace r p q → NearMemory r m n → read_at n count q ≡ read_at m count p
answered r None None m n count h near = refl
answered r None (Some q) m n count h near = absurd h
answered r (Some p) None m n count h near = absurd h
answered r (Some p) (Some q) m n count h near = read_same r p q m n h near

read_again : (r : Renaming) (a b : Access) (m n : Shared) → SameAccess r a b → NearMemory r m n → read_at n b.count (reached n b.place) ≡ read_at m a.count (reached m a.place)
read_again r a b m n same near =
    ap (λ z. read_at n z (reached n b.place)) same.count
    ∙ answered r (reached m a.place) (reached n b.place) m n a.count (reached_same r a.place b.place m n same.place near) near

told : (r : Renaming) (action : Action) (a b : Access) (m n : Shared) → SameAccess r a b → NearMemory r m n → answer_by n action b ≡ answer_by m action a
told r Loads a b m n same near = read_again r a b m n same near
told r Stores a b m n same near = refl
told r Atomics a b m n same near =
    ap (λ z. cond (z == op.ATOMIC_STORE) [] (read_at n b.count (reached n b.place))) same.opcode
    ∙ ap (cond (a.opcode == op.ATOMIC_STORE) []) (read_again r a b m n same near)
told r Fences a b m n same near = refl
told r Barriers a b m n same near = refl

pub answer_near : (r : Renaming) (a b : Access) (m n : Shared) → SameAccess r a b → NearMemory r m n → answer b n ≡ answer a m
unfolding answer
answer_near r a b m n same near = ap (λ z. answer_by n z b) same.action ∙ told r a.action a b m n same near

pub barrier_near : (r : Renaming) (a b : Access) → SameAccess r a b → is_barrier b ≡ is_barrier a
barrier_near r a b same = ap is_barrier_action same.action

-- ---- plain loads

pub load_changes_nothing : (a : Access) (m : Shared) → IsPlainLoad a → after a m ≡ m
unfolding after
load_changes_nothing a m h = ap (λ z. after_at m z a (reached m a.place)) h.loads

pub load_is_no_barrier : (a : Access) → IsPlainLoad a → is_barrier a ≡ false
load_is_no_barrier a h = ap is_barrier_action h.loads
