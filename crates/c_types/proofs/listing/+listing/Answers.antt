use Rattle.std.proofs.Common.{◌≡◌, ◌+◌, ◌++◌, ℕ, List, IfOk, ap, ◌∙◌, subst, drop, arith}
use Rattle.c_types.specs.declared.types.Cell.{Cell}
use Rattle.c_types.specs.Types.{CType, view, views}
use Rattle.c_types.specs.Layouts.{padded, shifted, size_of, cells_of}
use Rattle.c_types.proofs.MemberLoops.{rest_more}
use Rattle.c_types.proofs.CellLists.{Walking, repeated_one, cells_within, struct_asked, union_asked, struct_listed, union_listed, none_listed, walking_room, walking_asked, walking_step, shifted_zero, small_sized}
use Rattle.c_types.proofs.listing.+listing.Goals as goal

pub append_array-returns-then-length-eq1 : goal.append_array-returns-then-length-eq1
append_array-returns-then-length-eq1 t c = subst (λ (cs : List Cell). IfOk c.append_cells.result (λ _. c.append_cells.new.list.items ≡ c.args.list.now.items ++ shifted c.args.base cs))
    (repeated_one c.args.length (size_of c.args.layouts.now.done (view c.args.element.now)) (cells_of c.args.layouts.now.done (view c.args.element.now)) c.if-length-eq1.true) c.append_cells.ensures

pub append_array-append_repeated-requires-clause-within : goal.append_array-append_repeated-requires-clause-within
append_array-append_repeated-requires-clause-within t c = rw (c.size_or_none.ensures, c.deref.ensures.value, c.in_ok-block.ensures) (cells_within c.args.layouts.now.done (view c.args.element.now))

pub append_cells-append_struct-requires : goal.append_cells-append_struct-requires
append_cells-append_struct-requires t c = struct_asked c.args.layouts.now.done c.args.type_.now c.in-Record.place c.args.base t c.in-Some-Struct-default.field-0-0 (views c.in-Some-Struct-default.members.now)
    c.prove_built.ensures c.in-Record.is c.decreases c.in-Some-Struct-default.field-0-0-is c.in-Some-Struct-default.ensures c.requires.room

pub append_cells-append_union-requires : goal.append_cells-append_union-requires
append_cells-append_union-requires t c = union_asked c.args.layouts.now.done c.args.type_.now c.in-Record.place c.args.base t c.in-Some-Union-default.field-0-0 (views c.in-Some-Union-default.members.now)
    c.prove_built.ensures c.in-Record.is c.decreases c.in-Some-Union-default.field-0-0-is c.in-Some-Union-default.ensures c.requires.room

pub append_cells-returns-in-None : goal.append_cells-returns-in-None
append_cells-returns-in-None t c = none_listed c.args.layouts.now.done c.args.type_.now c.in-Record.place c.args.base c.args.list.now.items c.in-Record.is c.in-None.ensures

pub append_cells-returns-in-Some-Struct-default : goal.append_cells-returns-in-Some-Struct-default
append_cells-returns-in-Some-Struct-default t c = subst (λ (cs : List Cell). IfOk c.append_struct.result (λ _. c.append_struct.new.list.items ≡ c.args.list.now.items ++ shifted c.args.base cs))
    (struct_listed c.args.layouts.now.done c.args.type_.now c.in-Record.place c.in-Some-Struct-default.field-0-0 (views c.in-Some-Struct-default.members.now)
    c.prove_built.ensures c.in-Record.is c.in-Some-Struct-default.field-0-0-is c.in-Some-Struct-default.ensures) c.append_struct.ensures

pub append_cells-returns-in-Some-Union-default : goal.append_cells-returns-in-Some-Union-default
append_cells-returns-in-Some-Union-default t c = subst (λ (cs : List Cell). IfOk c.append_union.result (λ _. c.append_union.new.list.items ≡ c.args.list.now.items ++ shifted c.args.base cs))
    (union_listed c.args.layouts.now.done c.args.type_.now c.in-Record.place c.in-Some-Union-default.field-0-0 (views c.in-Some-Union-default.members.now)
    c.prove_built.ensures c.in-Record.is c.in-Some-Union-default.field-0-0-is c.in-Some-Union-default.ensures) c.append_union.ensures

pub append_struct-overflow_cast-start : goal.append_struct-overflow_cast-start
append_struct-overflow_cast-start t c = let start = c.next_multiple-start.ensures ∙ ap (padded c.loop-member.end) c.alignment.ensures.is in
    let room = walking_room c.args.layouts.now.done (views c.args.members.now) (view c.member-item.result) (views (drop (c.loop-member.member-index + 1) c.args.members.now)) c.args.base c.loop-member.end
    c.args.list.now.items c.loop-member.list.items
    (subst (λ (rest : List CType). Walking c.args.layouts.now.done (views c.args.members.now) rest c.args.base c.loop-member.end c.args.list.now.items c.loop-member.list.items)
    (rest_more c.args.members.now c.loop-member.member-index c.member-item.result c.loop-member-test.true c.member-item.is) c.loop-member.invariant) in
    omega (arith, start, room)

pub append_struct-overflow_add-base : goal.append_struct-overflow_add-base
append_struct-overflow_add-base t c = let start = c.next_multiple-start.ensures ∙ ap (padded c.loop-member.end) c.alignment.ensures.is in
    let room = walking_room c.args.layouts.now.done (views c.args.members.now) (view c.member-item.result) (views (drop (c.loop-member.member-index + 1) c.args.members.now)) c.args.base c.loop-member.end
    c.args.list.now.items c.loop-member.list.items
    (subst (λ (rest : List CType). Walking c.args.layouts.now.done (views c.args.members.now) rest c.args.base c.loop-member.end c.args.list.now.items c.loop-member.list.items)
    (rest_more c.args.members.now c.loop-member.member-index c.member-item.result c.loop-member-test.true c.member-item.is) c.loop-member.invariant) in
    omega (arith, start, room)

pub append_struct-append_cells-requires : goal.append_struct-append_cells-requires
append_struct-append_cells-requires t c = walking_asked c.args.layouts.now.done (views c.args.members.now) (view c.member-item.result) (views (drop (c.loop-member.member-index + 1) c.args.members.now))
    c.args.base c.loop-member.end c.next_multiple-start.result t c.args.list.now.items c.loop-member.list.items
    (subst (λ (rest : List CType). Walking c.args.layouts.now.done (views c.args.members.now) rest c.args.base c.loop-member.end c.args.list.now.items c.loop-member.list.items)
    (rest_more c.args.members.now c.loop-member.member-index c.member-item.result c.loop-member-test.true c.member-item.is) c.loop-member.invariant)
    (c.next_multiple-start.ensures ∙ ap (padded c.loop-member.end) c.alignment.ensures.is) c.decreases

pub append_struct-overflow_add-end : goal.append_struct-overflow_add-end
append_struct-overflow_add-end t c = let start = c.next_multiple-start.ensures ∙ ap (padded c.loop-member.end) c.alignment.ensures.is in
    let room = walking_room c.args.layouts.now.done (views c.args.members.now) (view c.member-item.result) (views (drop (c.loop-member.member-index + 1) c.args.members.now)) c.args.base c.loop-member.end
    c.args.list.now.items c.loop-member.list.items
    (subst (λ (rest : List CType). Walking c.args.layouts.now.done (views c.args.members.now) rest c.args.base c.loop-member.end c.args.list.now.items c.loop-member.list.items)
    (rest_more c.args.members.now c.loop-member.member-index c.member-item.result c.loop-member-test.true c.member-item.is) c.loop-member.invariant) in
    omega (arith, start, room, c.size_or_none.ensures)

pub append_struct-loop-member-preserved : goal.append_struct-loop-member-preserved
append_struct-loop-member-preserved t c = walking_step c.args.layouts.now.done (views c.args.members.now) (view c.member-item.result) (views (drop (c.loop-member.member-index + 1) c.args.members.now))
    c.args.base c.loop-member.end c.next_multiple-start.result (c.next_multiple-start.result + c.size_or_none.result) c.args.list.now.items c.loop-member.list.items c.append_cells.new.list.items
    (subst (λ (rest : List CType). Walking c.args.layouts.now.done (views c.args.members.now) rest c.args.base c.loop-member.end c.args.list.now.items c.loop-member.list.items)
    (rest_more c.args.members.now c.loop-member.member-index c.member-item.result c.loop-member-test.true c.member-item.is) c.loop-member.invariant)
    (c.next_multiple-start.ensures ∙ ap (padded c.loop-member.end) c.alignment.ensures.is)
    (ap (λ (x : ℕ). c.next_multiple-start.result + x) c.size_or_none.ensures) c.in_ok-append_cells.ensures

pub cells-append_cells-requires : goal.cells-append_cells-requires
cells-append_cells-requires t c = let small = small_sized c.args.layouts.now.done (view c.args.type_.now) c.prove_built.ensures c.requires in (omega (arith, c.decreases), (c.requires, omega (arith, small)))

pub cells-returns : goal.cells-returns
cells-returns t c = c.in_ok-append_cells.ensures ∙ ap (λ (cs : List Cell). cs ++ shifted 0 (cells_of c.args.layouts.now.done (view c.args.type_.now))) c.new-list.ensures.items
    ∙ shifted_zero (cells_of c.args.layouts.now.done (view c.args.type_.now))
