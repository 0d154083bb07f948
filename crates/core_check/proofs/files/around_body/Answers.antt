use Rattle.std.proofs.Common.{ap, ◌∙◌}
use Rattle.core_tree.specs.Typed.{sizes_with}
use Rattle.core_check.specs.declared.around.Around.{Around}
use Rattle.core_check.specs.Around.{file_around}
use Rattle.core_check.proofs.Lists.{same_sizes}
use Rattle.core_check.proofs.files.around_body.Goals as goal

pub returns : goal.returns
returns c =
    let file = c.args.file.now in
    let gives = c.args.function.now.gives in
    let around : Around = record { functions = file.functions; objects = file.objects; literals = file.literals; pointers = file.pointers; variables = c.deref.result; gives = gives } in
    same_sizes around ∙ ap (λ variables. sizes_with (file_around file) variables gives) c.deref.ensures.value
