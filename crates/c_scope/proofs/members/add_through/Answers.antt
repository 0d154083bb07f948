use Rattle.std.proofs.Common.{◌∙◌, ℕ, List, sym, ap}
use Rattle.c_scope.specs.Members.{through, with_member, view_ways}
use Rattle.c_scope.proofs.Tables.{through_more}
use Rattle.c_scope.proofs.members.add_through.Goals as goal

pub loop-place-preserved : goal.loop-place-preserved
loop-place-preserved c =
    let es = c.args.inner.now.ways.entries in
    let ms = view_ways c.loop-place.ways.entries in
    let way = c.in-Some.way.now in
    let name = ap (λ (n : List ℕ). with_member ms (through c.args.number c.args.constant (record { name = n; path = way.path.items; constant = way.constant }))) c.deref.ensures.value in
    through_more es c.loop-place.place c.args.number c.args.constant (c.in-Some.name.now, way) ms (view_ways c.add_inner.new.ways.entries) _
    (sym c.in-Some.ensures.entry) c.loop-place.invariant (c.in_ok-add_inner-in-Some.ensures ∙ name)
