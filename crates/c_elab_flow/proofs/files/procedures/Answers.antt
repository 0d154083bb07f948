use Rattle.std.proofs.Common.{◌+◌, map, refl, sym, ap, ◌∙◌}
use Rattle.std.specs.Prelude.{slice_get}
use Rattle.c_types.specs.Types.{Records}
use Rattle.c_scope.specs.Scopes.{FunctionTable, view_callable}
use Rattle.core_tree.specs.Trees.{view_functions}
use Rattle.c_elab_flow.specs.Files.{procedure_of}
use Rattle.c_elab_flow.proofs.Listing.{one_called, all_called, fewer_left}
use Rattle.c_elab_flow.proofs.files.procedures.Goals as goal

pub functions-preserved : goal.functions-preserved
functions-preserved c =
    let s = c.args.scope.now in
    let n = c.functions.number in
    let f = view_callable c.in-Some.callable.now in
    one_called s.records.done s.functions.all n (n + 1) f c.in_ok-procedure_of.field-0 c.functions.procedures.items c.push.new.self.items (map (procedure_of s.records.done) s.functions.all)
    (sym (c.in-Some.ensures ∙ ap (λ (t : FunctionTable). slice_get t.all n) c.functions-in-functions.ensures)) refl
    (c.in_ok-procedure_of.ensures ∙ ap (λ (rs : Records). procedure_of rs.done f) c.layouts.ensures) c.in_ok-push.ensures.items c.functions.invariant

pub functions-smaller : goal.functions-smaller
functions-smaller c =
    let n = c.functions.number in
    let all = c.args.scope.now.functions.all in
    fewer_left all n (view_callable c.in-Some.callable.now) (sym (c.in-Some.ensures ∙ ap (λ (t : FunctionTable). slice_get t.all n) c.functions-in-functions.ensures))

pub returns : goal.returns
returns c =
    let s = c.args.scope.now in
    let n = c.functions.number in
    all_called s.records.done s.functions.all n (view_functions c.functions.procedures.items) (map (procedure_of s.records.done) s.functions.all)
    (sym (c.in_default.ensures ∙ ap (λ (t : FunctionTable). slice_get t.all n) c.functions-in-functions.ensures)) c.functions.invariant
