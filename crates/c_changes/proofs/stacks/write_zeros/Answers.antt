use Rattle.std.proofs.Common.{◌≡◌, ℕ, List, get_or, length, ap, ◌∙◌, rules}
use Rattle.std.proofs.lemmas.List.{length-replicate}
use Rattle.c_tasks.proofs.Sizes.{same_sizes}
use Rattle.c_changes.proofs.stacks.write_zeros.Goals as goal

pub returns-in-Some-clause-sizes : goal.returns-in-Some-clause-sizes
returns-in-Some-clause-sizes c =
    let here : get_or c.args.variables.now.items c.args.variable c.in-Some.block.now ≡ c.in-Some.block.now = search rules in
    let same : length c.clear.new.self ≡ length c.in-Some.block.now = ap (λ (xs : List ℕ). length xs) c.clear.ensures ∙ length-replicate {A = ℕ} (length c.in-Some.block.now) 0 in
    same_sizes c.args.variables.now.items c.args.variable c.clear.new.self c.in-Some.block.now here same
