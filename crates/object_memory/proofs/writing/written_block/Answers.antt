use Rattle.std.proofs.Common.{length, map, subst, ap, sym, inl, inr, ◌∙◌}
use Rattle.std.specs.Prelude.{All}
use Rattle.word_dag.specs.Growth.{Within}
use Rattle.word_dag.specs.Meaning.{width}
use Rattle.object_memory.proofs.Pointed.{bytes_stay, bytes_there}
use Rattle.object_memory.proofs.Puts.{own_guard, chosen_new, chosen_old, bytes_alike, bytes_widths, are_bytes_by, long_by}
use Rattle.object_memory.proofs.writing.written_block.Goals as goal

pub returns-then-born-test-clause-put : goal.returns-then-born-test-clause-put
returns-then-born-test-clause-put c = λ v yes inside. c.in_ok-new.ensures.values v inside

pub returns-then-born-test-clause-kept : goal.returns-then-born-test-clause-kept
returns-then-born-test-clause-kept c = λ v no. inl (own_guard c.args.dag.now c.args.born c.args.test c.if-born-test.true v no)

pub chosen_all-requires-clause-first : goal.chosen_all-requires-clause-first
chosen_all-requires-clause-first c = subst (All (Within c.written.new.dag)) (sym c.deref.ensures.value) (bytes_there c.written.new.dag c.in_ok-new.new.items c.in_ok-new.ensures.block)

pub chosen_all-requires-clause-second : goal.chosen_all-requires-clause-second
chosen_all-requires-clause-second c = bytes_there c.written.new.dag c.args.block.now (bytes_stay c.args.dag.now c.written.new.dag c.args.block.now c.written.ensures.extends c.requires.block)

pub chosen_all-requires-clause-widths : goal.chosen_all-requires-clause-widths
chosen_all-requires-clause-widths c =
    bytes_alike c.written.new.dag c.in_ok-new.new.items c.args.block.now c.in_ok-new.ensures.block (bytes_stay c.args.dag.now c.written.new.dag c.args.block.now c.written.ensures.extends c.requires.block) c.in_ok-new.ensures.length ∙ ap (map (width c.written.new.dag)) (sym c.deref.ensures.value)

pub returns-clause-block : goal.returns-clause-block
returns-clause-block c =
    are_bytes_by c.chosen_all.new.dag c.in_ok-ids.ids.items (length c.in_ok-new.new.items) c.in_ok-ids.ensures.there (c.in_ok-ids.ensures.widths ∙ ap (map (width c.written.new.dag)) c.deref.ensures.value ∙ bytes_widths c.written.new.dag c.in_ok-new.new.items c.in_ok-new.ensures.block)

pub returns-clause-length : goal.returns-clause-length
returns-clause-length c = long_by c.written.new.dag c.chosen_all.new.dag c.deref.result.now c.in_ok-ids.ids.items c.in_ok-ids.ensures.widths ∙ ap length c.deref.ensures.value ∙ c.in_ok-new.ensures.length

pub returns-clause-put : goal.returns-clause-put
returns-clause-put c = λ v yes inside.
    chosen_new c.args.dag.now c.written.new.dag c.chosen_all.new.dag c.args.test c.in_ok-new.new.items c.deref.result.now c.args.block.now c.in_ok-ids.ids.items c.written.ensures.extends c.requires.test c.requires.block c.deref.ensures.value c.in_ok-ids.ensures.values v yes ∙ c.in_ok-new.ensures.values v inside

pub returns-clause-kept : goal.returns-clause-kept
returns-clause-kept c = λ v no.
    inr (chosen_old c.args.dag.now c.written.new.dag c.chosen_all.new.dag c.args.test c.in_ok-new.new.items c.deref.result.now c.args.block.now c.in_ok-ids.ids.items c.written.ensures.extends c.requires.test c.requires.block c.deref.ensures.value c.in_ok-ids.ensures.values v no)
