use Rattle.c_elab_flow.specs.Jumps.{first_label}
use Rattle.c_elab_flow.proofs.Jumping.{some_label, no_label, new_label, old_label}
use Rattle.c_elab_flow.proofs.jumps.add_first.Goals as goal

pub returns-then-is_some-clause-added : goal.returns-then-is_some-clause-added
returns-then-is_some-clause-added c = λ names known last.
    let es = c.args.first.now.entries in
    let there = some_label c.get.result (first_label es c.args.name.now) c.get.ensures.value c.if-is_some.ensures in
    old_label es names c.args.name.now there.0 known there.1

pub returns-clause-added : goal.returns-clause-added
returns-clause-added c = λ names known last.
    let es = c.args.first.now.entries in
    let absent = no_label c.get.result (first_label es c.args.name.now) c.get.ensures.value c.if-is_some.ensures in
    let own = c.in_ok-to_vec.ensures.items_if_clones_equal (λ y h e. e) in
    new_label es c.insert.new.self.entries names c.in_ok-to_vec.field-0 c.args.name.now c.args.number known absent own last c.in_ok-_old.ensures.entries
