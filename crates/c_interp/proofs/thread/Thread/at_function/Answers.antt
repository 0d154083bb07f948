use Rattle.std.proofs.Common.{◌≡◌, ◌<◌, ◌≤◌, Option, Some, None, length, slice_get, ap, sym, subst, ◌∙◌, arith}
use Rattle.std.specs.Prelude.{IfOk, option_map}
use Rattle.std.specs.Borrow.{Bor}
use Rattle.std.proofs.lemmas.Option.{slice_get-map}
use Rattle.core_tree.specs.declared.functions.Function.{Function}
use Rattle.core_tree.specs.Trees.{Procedure, core_file, view_core, view_function, view_functions}
use Rattle.c_meaning.specs.Source.{runs_at, source_program}
use Rattle.c_interp.specs.View.{thread_of}
use Rattle.c_interp.proofs.Starts.{got_none}
use Rattle.c_interp.proofs.thread.Thread.at_function.Goals as goal

pub at_start-requires-clause-body : goal.at_start-requires-clause-body
at_start-requires-clause-body c =
    let fs = c.args.functions.now in
    let got : slice_get fs c.args.function ≡ Some c.in-Some.body.now = sym c.body_of.ensures ∙ ap (option_map (λ (f : Bor Function). f.now)) c.in-Some.is in
    slice_get-map view_function fs c.args.function ∙ ap (option_map view_function) got

pub unreachable-requires : goal.unreachable-requires
unreachable-requires c =
    let fs = c.args.functions.now in
    let got : slice_get fs c.args.function ≡ None = sym c.body_of.ensures ∙ ap (option_map (λ (f : Bor Function). f.now)) c.in-None.is in
    got_none fs c.args.function got c.requires.there

pub returns : goal.returns
returns c =
    let fs = c.args.functions.now in
    let file = view_core (core_file fs c.args.objects.now c.args.literals.now c.args.pointers) in
    let got : slice_get fs c.args.function ≡ Some c.in-Some.body.now = sym c.body_of.ensures ∙ ap (option_map (λ (f : Bor Function). f.now)) c.in-Some.is in
    let e : slice_get (view_functions fs) c.args.function ≡ Some (view_function c.in-Some.body.now) = slice_get-map view_function fs c.args.function ∙ ap (option_map view_function) got in
    let P : Option Procedure → Type 0 = λ o. IfOk c.at_start.result (λ t. thread_of t ≡ record { behaves = runs_at file c.args.bounds.now c.args.first c.args.function o; program = source_program file c.args.bounds.now c.args.startable }) in
    subst P (sym e) c.at_start.ensures
