use Rattle.std.proofs.Common.{map, ap, sym, ◌∙◌}
use Rattle.core_tree.specs.Trees.{view_statics}
use Rattle.c_scope.specs.Scopes.{Scoped}
use Rattle.c_elab_flow.specs.Files.{static_of}
use Rattle.c_elab_flow.proofs.Statics.{none_left}
use Rattle.c_elab_flow.proofs.files.static_objects.Goals as goal

pub returns-clause-are : goal.returns-clause-are
returns-clause-are c =
    none_left c.take_objects-left.new.self.records.done c.take_objects-left.result.items c.reverse.new.self.items c.objects.left.items (view_statics c.objects.objects.items) c.args.scope.now.objects
    c.take_objects-left.ensures.objects c.reverse.ensures.items (sym c.objects.left.ok.0 ∙ c.in_default.ensures.cases.0) c.objects.invariant.0
    ∙ ap (λ (t : Scoped). map (static_of t.records.done) c.args.scope.now.objects) c.take_objects-left.ensures.ended
