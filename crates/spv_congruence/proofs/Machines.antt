-- What the trees of entry points keep, their invocations keep.
use Rattle.std.proofs.Common.{◌≡◌, ℕ, ◌+◌, Bool, List, [], map, Option, sym, ap, ◌∙◌, subst, arith}
use Rattle.interleaving.specs.Machine.{Answer}
use Rattle.interleaving.specs.Trace.{Trace}
use Rattle.interleaving.specs.Keeps.{without, Alike, KeptBut}
use Rattle.interleaving.proofs.Keeping.{over_not_runs}
use Rattle.spv_machine.specs.Access.{Access}
use Rattle.spv_machine.specs.Alike.{SameAccess}
use Rattle.spv_machine.specs.Setting.{Setting, setting}
use Rattle.spv_machine.specs.Steps.{first_data}
use Rattle.spv_machine.specs.Machine as modules
use Rattle.spv_machine.specs.Machine.{setting_of, trace_in}
use Rattle.spv_bodies.specs.Bodies.{Function}
use Rattle.spv_trees.specs.Laws.{trace_of_tree, program_tree, IsProgram}
use Rattle.spv_trees.proofs.Programs.{program_law}
use Rattle.spv_congruence.specs.Relation.{Kept}
use Rattle.spv_congruence.specs.Laws.{Pass, TreeKeeps, MachineLaw, ModulesLaw}

module _ (left_out : Access → Bool) (Same : Access → Access → Type 0) (c c2 : Setting) (functions functions2 : ℕ → Option Function) (f f2 i : ℕ)
    (program : IsProgram c functions i f) (program2 : IsProgram c2 functions2 i f2) where
  -- a trace that is over is that of the tree within one call and turn more than it has steps, and within these the second tree keeps it
  pub programs_keep : TreeKeeps left_out Same c functions f [] (first_data c i) c2 functions2 f2 [] (first_data c2 i)
      → (n : ℕ) (xs : List Answer) → KeptBut Same (map left_out (trace_in c i n xs).accesses) (trace_in c i n xs) xs (trace_in c2 i)
  programs_keep keeps n xs over =
      let t : Trace Access = trace_in c i n xs in
      let marks : List Bool = map left_out t.accesses in
      let same : t ≡ trace_of_tree (program_tree c functions i f (n + 1) (n + 1) xs) = program.trace n xs (over_not_runs t.end marks over) in
      let second : List Answer → Trace Access = λ ys. trace_of_tree (program_tree c2 functions2 i f2 (n + 1) (n + 1) ys) in
      let kept : Kept left_out Same t second xs = subst (λ z. Kept left_out Same z second xs) (sym same) (keeps (n + 1) (n + 1) xs) in
      let r = kept over in
      let comes = program2.tree (n + 1) (n + 1) (without marks xs) (λ e. over_not_runs t.end marks over (sym r.1 ∙ e)) in
      let there = comes.1 comes.0 (omega arith) in
      (comes.0, subst (λ z. Alike Same (without marks t.accesses) z.accesses) (sym there) r.0, ap (λ z. z.end) there ∙ r.1)

pub machine_keeps : (p : Pass) → MachineLaw p
machine_keeps p stand stand2 f f2 is known is2 known2 i keeps =
    programs_keep p.left_out p.Same p.first p.second p.functions p.functions2 f f2 i
    (program_law p.first p.functions stand f is known i) (program_law p.second p.functions2 stand2 f2 is2 known2 i) keeps

pub modules_keep : ModulesLaw
unfolding setting modules.Trace modules.invocation_count
modules_keep m m2 d d2 left_out r functions functions2 f f2 stand stand2 is known is2 known2 keeps i lt =
    programs_keep left_out (SameAccess r) (setting_of m d) (setting_of m2 d2) functions functions2 f f2 i
    (program_law (setting_of m d) functions stand f is known i) (program_law (setting_of m2 d2) functions2 stand2 f2 is2 known2 i) (keeps i lt)
