use Rattle.std.proofs.Common.{◌≡◌, List, subst}
use Rattle.core_tree.specs.Ranges.{Limits}
use Rattle.core_tree.specs.Trees.{TypedFile, view_core}
use Rattle.actions.specs.Objects.{Objects}
use Rattle.word_dag.specs.declared.nodes.Node.{Node}
use Rattle.interleave.specs.World.{first_world}
use Rattle.c_meaning.specs.Source.{source_thread, source_world, first_objects}
use Rattle.event_forms.specs.declared.formula.Formula.{Formula}
use Rattle.event_forms.specs.Goals.{IsGoal}
use Rattle.event_forms.specs.Formulas.{told_by, IsFormula}
use Rattle.run_search.specs.Searches.{IsSolved}
use Rattle.run_search.proofs.Formulas.{safe_without}
use Rattle.run_search.proofs.searching.search.Goals as goal

-- the runs of the file begin with the store of its code
from_store : (core : TypedFile) (limits : Limits) (d : List Node) (f : Formula) (store : Objects) → store ≡ first_objects core → IsFormula (first_world (source_thread core limits) store) d f → IsFormula (source_world core limits) d f
from_store core limits d f store e is = subst (λ (objects : Objects). IsFormula (first_world (source_thread core limits) objects) d f) e is

goal_from : (core : TypedFile) (limits : Limits) (d : List Node) (f : Formula) (store : Objects) → store ≡ first_objects core → IsGoal (first_world (source_thread core limits) store) d f.goal (told_by d f.form)
    → IsGoal (source_world core limits) d f.goal (told_by d f.form)
goal_from core limits d f store e is = subst (λ (objects : Objects). IsGoal (first_world (source_thread core limits) objects) d f.goal (told_by d f.form)) e is

pub build-requires-clause-formula : goal.build-requires-clause-formula
build-requires-clause-formula c =
    let core = view_core c.args.file.now in
    goal_from core c.args.bounds.now c.formula_of.new.dag c.in_ok-formula.formula c.in_ok-unrolled.unrolled.store c.in_ok-unrolled.ensures.store
    (c.in_ok-formula.ensures.runs (source_thread core c.args.bounds.now) c.in_ok-unrolled.ensures.objects c.in_ok-unrolled.ensures.same)

pub returns-in-Refuted-clause-found : goal.returns-in-Refuted-clause-found
returns-in-Refuted-clause-found c =
    let d = c.formula_of.new.dag in
    let f = c.in_ok-formula.formula in
    let core = view_core c.args.file.now in
    let is = from_store core c.args.bounds.now d f c.in_ok-unrolled.unrolled.store c.in_ok-unrolled.ensures.store (c.in_ok-formula.ensures.formula (source_thread core c.args.bounds.now) c.in_ok-unrolled.ensures.objects c.in_ok-unrolled.ensures.same) in
    let runs = goal_from core c.args.bounds.now d f c.in_ok-unrolled.unrolled.store c.in_ok-unrolled.ensures.store (c.in_ok-formula.ensures.runs (source_thread core c.args.bounds.now) c.in_ok-unrolled.ensures.objects c.in_ok-unrolled.ensures.same) in
    let x = subst (IsSolved d f.goal c.args.budget) c.in-Refuted.is c.in_ok-solved.ensures in (
      record {
        within = safe_without (source_world core c.args.bounds.now) d f.goal (told_by d f.form) runs x.0;
        at_all = λ on. c.safe_at_all.ensures core c.args.bounds.now on (safe_without (source_world core c.args.bounds.now) d f.goal (told_by d f.form) runs x.0);
      },
      record {
        form = record { nodes = d; formula = f; within = c.in_ok-formula.ensures.within; runs = runs; of_runs = is; told = c.in_ok-formula.ensures.form (source_thread core c.args.bounds.now) c.in_ok-unrolled.ensures.same; variables = x.1.0; blasted = x.1.1 };
        refutes = x.2;
        few = x.3;
        units = x.4;
      },
    )

pub returns-clause-found : goal.returns-clause-found
returns-clause-found c =
    let d = c.formula_of.new.dag in
    let f = c.in_ok-formula.formula in
    let core = view_core c.args.file.now in
    let is = from_store core c.args.bounds.now d f c.in_ok-unrolled.unrolled.store c.in_ok-unrolled.ensures.store (c.in_ok-formula.ensures.formula (source_thread core c.args.bounds.now) c.in_ok-unrolled.ensures.objects c.in_ok-unrolled.ensures.same) in
    let runs = goal_from core c.args.bounds.now d f c.in_ok-unrolled.unrolled.store c.in_ok-unrolled.ensures.store (c.in_ok-formula.ensures.runs (source_thread core c.args.bounds.now) c.in_ok-unrolled.ensures.objects c.in_ok-unrolled.ensures.same) in
    let x = subst (IsSolved d f.goal c.args.budget) c.in-Budget.is c.in_ok-solved.ensures in
    record {
      form = record { nodes = d; formula = f; within = c.in_ok-formula.ensures.within; runs = runs; of_runs = is; told = c.in_ok-formula.ensures.form (source_thread core c.args.bounds.now) c.in_ok-unrolled.ensures.same; variables = x.0.0; blasted = x.0.1 };
      spent = x.1;
    }
