use Rattle.std.proofs.lemmas.List.{length-map}
use Rattle.core_tree.specs.declared.functions.Literal.{Literal}
use Rattle.core_tree.specs.Trees.{view_static}
use Rattle.std.proofs.Common.{◌≡◌, ℕ, List, length, ap, sym, subst, ◌∙◌, arith, rules}
use Rattle.core_tree.specs.Trees.{view_core}
use Rattle.interleave.specs.View.{world_of}
use Rattle.interleave.specs.World.{World, first_world}
use Rattle.c_meaning.specs.Source.{source_thread, first_objects}
use Rattle.c_interp.specs.View.{thread_of}
use Rattle.c_interp.specs.Alone.{IsAlone, made_in}
use Rattle.c_interp.proofs.SourceRuns.{starts_alone, starts_made, few_first, few_objects}
use Rattle.c_interp.proofs.replay.run.Goals as goal

pub new-requires : goal.new-requires
new-requires c =
    let file = c.args.file.now in
    let n = few_objects (view_core file) c.requires.storable in
    let a = length-map file.objects view_static in
    let b = length-map file.literals (λ (l : Literal). l.bytes.items) in
    omega (arith, n, a, b)

pub take_turns-requires-clause-alone : goal.take_turns-requires-clause-alone
take_turns-requires-clause-alone c =
    let file = view_core c.args.file.now in
    let limits = c.args.bounds.now in
    let s = c.in_ok-system.system in
    let t = c.in_ok-first.first in
    let world : world_of thread_of s ≡ first_world (thread_of t) c.in_ok-store.store = search rules in
    let thread : thread_of t ≡ source_thread file limits = search rules in
    let store : c.in_ok-store.store ≡ first_objects file = search rules in
    let e : world_of thread_of s ≡ first_world (source_thread file limits) (first_objects file) = world ∙ ap (λ t. first_world t c.in_ok-store.store) thread ∙ ap (first_world (source_thread file limits)) store in
    subst IsAlone (sym e) (starts_alone file limits)

pub take_turns-requires-clause-few : goal.take_turns-requires-clause-few
take_turns-requires-clause-few c =
    let file = view_core c.args.file.now in
    let limits = c.args.bounds.now in
    let s = c.in_ok-system.system in
    let t = c.in_ok-first.first in
    let world : world_of thread_of s ≡ first_world (thread_of t) c.in_ok-store.store = search rules in
    let thread : thread_of t ≡ source_thread file limits = search rules in
    let store : c.in_ok-store.store ≡ first_objects file = search rules in
    let e : world_of thread_of s ≡ first_world (source_thread file limits) (first_objects file) = world ∙ ap (λ t. first_world t c.in_ok-store.store) thread ∙ ap (first_world (source_thread file limits)) store in
    let made = ap made_in e ∙ starts_made (source_thread file limits) (first_objects file) in
    let turns : c.as_slice.result.now ≡ c.args.schedule.now = search rules in
    omega (arith, made, few_first file c.requires.storable, c.requires.few, ap (λ (ts : List ℕ). length ts) turns)
