use Rattle.std.proofs.Common.{◌≡◌, ◌<◌, ◌+◌, ℕ, List, length, replicate, sym, ap, ◌∙◌, arith, subst}
use Rattle.goto_prog.specs.CodeThread.{Listing}
use Rattle.goto_prog.specs.Allocations.{code_allocations}
use Rattle.goto_prog.specs.Flat.{Flat}
use Rattle.actions.specs.Objects.{Objects}
use Rattle.points_to.specs.Sets.{instructions_of, pointers_in, has_member, members_of}
use Rattle.points_to.proofs.Ranks.{same_members}
use Rattle.points_to.proofs.Reached.{all_places}
use Rattle.points_to.proofs.sets.Sets.of.Goals as goal

pub returns-clause-sets : goal.returns-clause-sets
returns-clause-sets c =
    let u : Flat = c.args.unrolled.now in
    let code : c.instructions-code.result.now ≡ instructions_of u = c.instructions-code.ensures.is ∙ ap (λ (l : Listing). l.instructions) c.main.ensures in
    let made : c.allocation_count-made.result ≡ code_allocations (instructions_of u) = c.allocation_count-made.ensures ∙ ap code_allocations code in
    let pointers : c.pointer_count.result ≡ pointers_in (instructions_of u) = c.pointer_count.ensures ∙ ap pointers_in code in
    let stored : c.len-stored.result ≡ length u.store = c.len-stored.ensures ∙ ap (λ (objects : Objects). length objects) c.store.ensures in
    let all : List ℕ = c.in_ok-numbers_below.field-0.items in
    all_places u (members_of (replicate c.pointer_count.result all))
    (λ place k there below.
    let lies : k < c.len-stored.result + c.allocation_count-made.result = omega (arith, below, stored, made) in
    ap (λ (members : List ℕ). has_member members k) (same_members c.pointer_count.result place all (subst (λ (n : ℕ). place < n) (sym pointers) there)) ∙ c.in_ok-numbers_below.ensures k lies)
