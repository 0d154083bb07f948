use Rattle.std.proofs.Common.{◌≡◌, ◌-◌, ◌++◌, length, take, drop, ap, ◌∙◌, rules}
use Rattle.c_values.specs.Variables.{first_variables}
use Rattle.c_meaning.specs.Meaning.{sizes_of}
use Rattle.c_tasks.specs.Tasks.{structures_in}
use Rattle.c_tasks.proofs.Frames.{blocks_below, frame_above}
use Rattle.c_tasks.proofs.variables.take_frame.Goals as goal

pub returns-in-Ok-clause-frame : goal.returns-in-Ok-clause-frame
returns-in-Ok-clause-frame c =
    let bs = c.args.structures.now.items in
    let n = length bs - c.args.count in
    let first : c.saturating_sub.result ≡ n = search rules in
    let made : c.in-Ok.made.items ≡ drop c.saturating_sub.result bs ++ first_variables (drop (length bs - c.saturating_sub.result) (sizes_of c.args.variables.now)) = search rules in
    made ∙ ap (λ k. drop k bs ++ first_variables (drop (length bs - k) (sizes_of c.args.variables.now))) first ∙ frame_above c.args.count bs (sizes_of c.args.variables.now)

pub returns-in-Ok-clause-rest : goal.returns-in-Ok-clause-rest
returns-in-Ok-clause-rest c =
    let bs = c.args.structures.now.items in
    let first : c.saturating_sub.result ≡ length bs - c.args.count = search rules in
    let left : c.split_frame.new.blocks.items ≡ take c.saturating_sub.result bs = search rules in
    ap structures_in (left ∙ ap (λ k. take k bs) first) ∙ blocks_below c.args.count bs
