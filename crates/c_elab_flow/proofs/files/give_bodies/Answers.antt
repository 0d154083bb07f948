use Rattle.std.proofs.Common.{◌<◌, ◌≤◌, List, length, reverse, sym, ap, ◌∙◌, arith}
use Rattle.core_tree.specs.Trees.{Procedure, view_functions}
use Rattle.c_elab_flow.specs.Files.{with_bodies}
use Rattle.c_elab_flow.specs.Held.{view_definitions}
use Rattle.c_elab_flow.proofs.Listing.{one_given, body_past, body_given}
use Rattle.c_elab_flow.proofs.files.give_bodies.Goals as goal

pub definitions-preserved-then-number-len : goal.definitions-preserved-then-number-len
definitions-preserved-then-number-len c =
    let fs = c.definitions.functions.items in
    let x = c.in-Some.definition in
    let rest = c.pop.new.self.items in
    let more : List Procedure → List Procedure = λ ps. with_bodies ps (view_definitions (reverse rest)) in
    let small : x.number < length fs = omega (arith, c.len.ensures, c.if-number-len.true, c.definitions.functions.ok.0) in
    sym (one_given (view_functions fs) c.definitions.definitions.items rest x c.in-Some.ensures.items
    ∙ ap more (body_given fs x c.index_mut.result.now c.give_body.new.function _ small c.index_mut.ensures.value c.give_body.ensures)) ∙ c.definitions.invariant

pub definitions-preserved : goal.definitions-preserved
definitions-preserved c =
    let fs = c.definitions.functions.items in
    let x = c.in-Some.definition in
    let rest = c.pop.new.self.items in
    let more : List Procedure → List Procedure = λ ps. with_bodies ps (view_definitions (reverse rest)) in
    let large : length fs ≤ x.number = omega (arith, c.len.ensures, c.if-number-len.false, c.definitions.functions.ok.0) in
    sym (one_given (view_functions fs) c.definitions.definitions.items rest x c.in-Some.ensures.items ∙ ap more (body_past fs x large)) ∙ c.definitions.invariant
