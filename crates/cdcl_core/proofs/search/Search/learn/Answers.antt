use Rattle.std.proofs.Common.{ℕ, ◌<◌, ◌≤◌, List, length, get_or, sym, subst}
use Rattle.cdcl_core.specs.Jumps.{IsFirstFrom}
use Rattle.cdcl_core.proofs.Jumping.{IsJump, place_from}
use Rattle.cdcl_core.proofs.search.Search.learn.Goals as goal

pub first_from-index-requires : goal.first_from-index-requires
first_from-index-requires g c =
    let jump : IsJump c.args.self.now.trail.variables c.args.self.now.clauses c.args.self.now.trail.steps c.args.self.now.decisions.items c.args.clause c.args.literal c.args.hints c.newest_beside-beside.result.0 c.newest_beside-beside.result.1 =
    record { fresh = c.requires.kept.held.fresh; places_are = c.requires.kept.places; learned = c.requires.learned; newest = c.newest_beside-beside.ensures } in
    subst (λ (x : List ℕ). (j : ℕ) × (j < length x) × (c.newest_beside-beside.result.1 ≤ get_or x j 0)) (sym c.deref.ensures.value) (place_from c.args.self.now.trail.variables c.args.self.now.clauses c.args.self.now.trail.steps c.args.self.now.decisions.items c.args.clause c.args.literal c.args.hints c.newest_beside-beside.result.0 c.newest_beside-beside.result.1 jump)

pub start_over-requires-clause-target : goal.start_over-requires-clause-target
start_over-requires-clause-target g c =
    let first : IsFirstFrom c.args.self.now.decisions.items c.newest_beside-beside.result.1 c.first_from-index.result =
    subst (λ (x : List ℕ). IsFirstFrom x c.newest_beside-beside.result.1 c.first_from-index.result) c.deref.ensures.value c.first_from-index.ensures in
    record { kept = c.newest_beside-beside.result.1; newest = c.newest_beside-beside.ensures; first = first }

pub go_back-requires-clause-target : goal.go_back-requires-clause-target
go_back-requires-clause-target g c =
    let first : IsFirstFrom c.args.self.now.decisions.items c.newest_beside-beside.result.1 c.first_from-index.result =
    subst (λ (x : List ℕ). IsFirstFrom x c.newest_beside-beside.result.1 c.first_from-index.result) c.deref.ensures.value c.first_from-index.ensures in
    record { kept = c.newest_beside-beside.result.1; newest = c.newest_beside-beside.ensures; first = first }
