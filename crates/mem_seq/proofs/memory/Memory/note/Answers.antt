use Rattle.std.proofs.Common.{true, false, length, map, subst, sym, ◌∙◌}
use Rattle.word_dag.specs.Meaning.{value}
use Rattle.actions.specs.Objects.{with_bytes}
use Rattle.event_forms.specs.Forms.{KindIn}
use Rattle.event_forms.specs.declared.forms.EventKind.TheVariants as kinds
use Rattle.mem_seq.proofs.Noted.{read_note, no_break, write_leaves, written_kind, stands_written}
use Rattle.mem_seq.proofs.memory.Memory.note.Goals as goal

pub returns-in_ok-test-in-Read-clause-note : goal.returns-in_ok-test-in-Read-clause-note
returns-in_ok-test-in-Read-clause-note c = λ stores stands.
    let own : KindIn c.args.dag.now (kinds.Read c.in-Read.pointer c.in-Read.count c.in-Read.answer) = subst (KindIn c.args.dag.now) c.in-Read.is c.requires.event.kind in
    read_note c.gives.new.dag c.args.event.now stores c.args.dag.now c.in-Read.pointer c.in-Read.count c.fixed-p.result c.in-Read.answer c.as_slice.result.now c.in_ok-test-in-Read.test c.gives.ensures.extends c.requires.event.guard.there own.0.there own.1.there
    c.in-Read.is c.fixed-p.ensures c.as_slice.ensures (λ v. no_break v c.args.dag.now c.args.self.now (stores v) false c.fixed-p.result c.in-Read.count c.break_of.result (stands v) c.break_of.ensures (sym c.is_some.ensures ∙ c.if-is_some.false))
    (λ v guard_is. c.in_ok-test-in-Read.ensures.given v (stores v) (stands v) guard_is)

pub returns-in_ok-write-in-Write-clause-behind : goal.returns-in_ok-write-in-Write-clause-behind
returns-in_ok-write-in-Write-clause-behind c = λ v objects stands.
    stands_written v c.args.dag.now c.write.new.dag c.args.event.now c.args.self.now c.write.new.self objects (with_bytes objects c.fixed-p-in-Write.result (map (value v c.args.dag.now) c.as_slice-new.result.now))
    (write_leaves v c.args.dag.now c.args.event.now.line c.args.event.now.function objects c.args.event.now.kind c.in-Write.pointer c.fixed-p-in-Write.result c.in-Write.bytes c.as_slice-new.result.now (written_kind _ _ _ _ _ c.in-Write.is c.requires.plain) (c.fixed-p-in-Write.ensures v) c.as_slice-new.ensures
    (no_break v c.args.dag.now c.args.self.now objects true c.fixed-p-in-Write.result (length c.as_slice-new.result.now) c.break_of-in-Write.result stands c.break_of-in-Write.ensures (sym c.is_some-in-Write.ensures ∙ c.if-is_some-2.false)))
    (c.in_ok-write-in-Write.ensures.stands v objects stands)
