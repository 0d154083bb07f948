use Rattle.std.proofs.Common.{◌≡◌, Some, ◌∷◌, length, drop, slice_get, sym, ap, subst, ◌∙◌, rules}
use Rattle.core_tree.specs.Trees.{Statement, view_statement, view_functions}
use Rattle.c_meaning.specs.Meaning as meaning
use Rattle.c_meaning.specs.Meaning.{body_of, variables_of, opened}
use Rattle.c_tasks.specs.Items.{active, runs, resumes, enters_parameters, ends_parameters, blocks_on, State, state}
use Rattle.c_tasks.specs.Tasks.{items_in, values_in, structures_in, want_of, behind, frame_on, called}
use Rattle.c_tasks.specs.Steps.{silent}
use Rattle.c_interp.specs.View.{file_of, active_of, IsSound}
use Rattle.c_interp.proofs.Sound.{sound_kept, same_statement}
use Rattle.c_interp.proofs.Starts.{counted_blocks}
use Rattle.c_interp.proofs.thread.Thread.call.Goals as goal

pub invariant_of-self-2-clause-typed : goal.invariant_of-self-2-clause-typed
invariant_of-self-2-clause-typed c =
    let o = c.args.self.now in
    let call = c.args.call in
    let f = call.function in
    let xs = values_in o.numbers.items in
    let bs = structures_in o.structures.items in
    let js = behind (items_in o.tasks.items) in
    let s = view_statement c.in-Some.body.statement.now in
    let sizes = meaning.sizes_of (variables_of (slice_get (view_functions o.functions.now) f)) in
    let p = c.requires.planned in
    let t = called (file_of o) call p.0 js (active_of o) xs bs o.variables.items in
    let now = state (items_in c.push_back.new.tasks.items) (active f c.open_activation.new.left.items) xs (structures_in c.take_frame.new.structures.items) c.replace-saved.new.dest.items in
    let found : body_of (slice_get (view_functions o.functions.now) f) ≡ Some s = search rules in
    let many : c.least-count.result ≡ length (blocks_on call.count bs) = c.least-count.ensures ∙ counted_blocks call.count o.structures.items c.len.result (search rules) in
    let first : items_in c.push_back.new.tasks.items ≡ enters_parameters c.least-count.result 0 ∷ runs s ∷ ends_parameters c.least-count.result ∷ resumes (want_of call.want) o.function o.variables.items ∷ js = search rules in
    let left : c.open_activation.new.left.items ≡ opened o.left.items f = c.open_activation.ensures in
    let under : structures_in c.take_frame.new.structures.items ≡ drop call.count bs = search rules in
    let frame : c.replace-saved.new.dest.items ≡ frame_on call.count bs sizes = search rules in
    let named : s ≡ p.0 = same_statement s p.0 (sym found ∙ p.1) in
    let items : items_in c.push_back.new.tasks.items ≡ enters_parameters (length (blocks_on call.count bs)) 0 ∷ runs s ∷ ends_parameters (length (blocks_on call.count bs)) ∷ resumes (want_of call.want) o.function o.variables.items ∷ js =
    first ∙ (λ i. enters_parameters (many i) 0 ∷ runs s ∷ ends_parameters (many i) ∷ resumes (want_of call.want) o.function o.variables.items ∷ js) in
    let same : now ≡ t = (λ i. state (items i) (active f (left i)) xs (under i) (frame i)) ∙ ap (λ (s : Statement). called (file_of o) call s js (active_of o) xs bs o.variables.items) named in
    let P : State → Type 0 = IsSound (file_of o) in
    (subst P (sym same) (sound_kept o t p.3)).0

pub invariant_of-self-2-clause-sized : goal.invariant_of-self-2-clause-sized
invariant_of-self-2-clause-sized c =
    let o = c.args.self.now in
    let call = c.args.call in
    let f = call.function in
    let xs = values_in o.numbers.items in
    let bs = structures_in o.structures.items in
    let js = behind (items_in o.tasks.items) in
    let s = view_statement c.in-Some.body.statement.now in
    let sizes = meaning.sizes_of (variables_of (slice_get (view_functions o.functions.now) f)) in
    let p = c.requires.planned in
    let t = called (file_of o) call p.0 js (active_of o) xs bs o.variables.items in
    let now = state (items_in c.push_back.new.tasks.items) (active f c.open_activation.new.left.items) xs (structures_in c.take_frame.new.structures.items) c.replace-saved.new.dest.items in
    let found : body_of (slice_get (view_functions o.functions.now) f) ≡ Some s = search rules in
    let many : c.least-count.result ≡ length (blocks_on call.count bs) = c.least-count.ensures ∙ counted_blocks call.count o.structures.items c.len.result (search rules) in
    let first : items_in c.push_back.new.tasks.items ≡ enters_parameters c.least-count.result 0 ∷ runs s ∷ ends_parameters c.least-count.result ∷ resumes (want_of call.want) o.function o.variables.items ∷ js = search rules in
    let left : c.open_activation.new.left.items ≡ opened o.left.items f = c.open_activation.ensures in
    let under : structures_in c.take_frame.new.structures.items ≡ drop call.count bs = search rules in
    let frame : c.replace-saved.new.dest.items ≡ frame_on call.count bs sizes = search rules in
    let named : s ≡ p.0 = same_statement s p.0 (sym found ∙ p.1) in
    let items : items_in c.push_back.new.tasks.items ≡ enters_parameters (length (blocks_on call.count bs)) 0 ∷ runs s ∷ ends_parameters (length (blocks_on call.count bs)) ∷ resumes (want_of call.want) o.function o.variables.items ∷ js =
    first ∙ (λ i. enters_parameters (many i) 0 ∷ runs s ∷ ends_parameters (many i) ∷ resumes (want_of call.want) o.function o.variables.items ∷ js) in
    let same : now ≡ t = (λ i. state (items i) (active f (left i)) xs (under i) (frame i)) ∙ ap (λ (s : Statement). called (file_of o) call s js (active_of o) xs bs o.variables.items) named in
    let P : State → Type 0 = IsSound (file_of o) in
    (subst P (sym same) (sound_kept o t p.3)).1

pub invariant_of-self-2-clause-counted : goal.invariant_of-self-2-clause-counted
invariant_of-self-2-clause-counted c =
    let o = c.args.self.now in
    let call = c.args.call in
    let f = call.function in
    let xs = values_in o.numbers.items in
    let bs = structures_in o.structures.items in
    let js = behind (items_in o.tasks.items) in
    let s = view_statement c.in-Some.body.statement.now in
    let sizes = meaning.sizes_of (variables_of (slice_get (view_functions o.functions.now) f)) in
    let p = c.requires.planned in
    let t = called (file_of o) call p.0 js (active_of o) xs bs o.variables.items in
    let now = state (items_in c.push_back.new.tasks.items) (active f c.open_activation.new.left.items) xs (structures_in c.take_frame.new.structures.items) c.replace-saved.new.dest.items in
    let found : body_of (slice_get (view_functions o.functions.now) f) ≡ Some s = search rules in
    let many : c.least-count.result ≡ length (blocks_on call.count bs) = c.least-count.ensures ∙ counted_blocks call.count o.structures.items c.len.result (search rules) in
    let first : items_in c.push_back.new.tasks.items ≡ enters_parameters c.least-count.result 0 ∷ runs s ∷ ends_parameters c.least-count.result ∷ resumes (want_of call.want) o.function o.variables.items ∷ js = search rules in
    let left : c.open_activation.new.left.items ≡ opened o.left.items f = c.open_activation.ensures in
    let under : structures_in c.take_frame.new.structures.items ≡ drop call.count bs = search rules in
    let frame : c.replace-saved.new.dest.items ≡ frame_on call.count bs sizes = search rules in
    let named : s ≡ p.0 = same_statement s p.0 (sym found ∙ p.1) in
    let items : items_in c.push_back.new.tasks.items ≡ enters_parameters (length (blocks_on call.count bs)) 0 ∷ runs s ∷ ends_parameters (length (blocks_on call.count bs)) ∷ resumes (want_of call.want) o.function o.variables.items ∷ js =
    first ∙ (λ i. enters_parameters (many i) 0 ∷ runs s ∷ ends_parameters (many i) ∷ resumes (want_of call.want) o.function o.variables.items ∷ js) in
    let same : now ≡ t = (λ i. state (items i) (active f (left i)) xs (under i) (frame i)) ∙ ap (λ (s : Statement). called (file_of o) call s js (active_of o) xs bs o.variables.items) named in
    let P : State → Type 0 = IsSound (file_of o) in
    (subst P (sym same) (sound_kept o t p.3)).2

pub invariant_of-self-2-clause-held : goal.invariant_of-self-2-clause-held
invariant_of-self-2-clause-held c =
    let o = c.args.self.now in
    let call = c.args.call in
    let f = call.function in
    let xs = values_in o.numbers.items in
    let bs = structures_in o.structures.items in
    let js = behind (items_in o.tasks.items) in
    let s = view_statement c.in-Some.body.statement.now in
    let sizes = meaning.sizes_of (variables_of (slice_get (view_functions o.functions.now) f)) in
    let p = c.requires.planned in
    let t = called (file_of o) call p.0 js (active_of o) xs bs o.variables.items in
    let now = state (items_in c.push_back.new.tasks.items) (active f c.open_activation.new.left.items) xs (structures_in c.take_frame.new.structures.items) c.replace-saved.new.dest.items in
    let found : body_of (slice_get (view_functions o.functions.now) f) ≡ Some s = search rules in
    let many : c.least-count.result ≡ length (blocks_on call.count bs) = c.least-count.ensures ∙ counted_blocks call.count o.structures.items c.len.result (search rules) in
    let first : items_in c.push_back.new.tasks.items ≡ enters_parameters c.least-count.result 0 ∷ runs s ∷ ends_parameters c.least-count.result ∷ resumes (want_of call.want) o.function o.variables.items ∷ js = search rules in
    let left : c.open_activation.new.left.items ≡ opened o.left.items f = c.open_activation.ensures in
    let under : structures_in c.take_frame.new.structures.items ≡ drop call.count bs = search rules in
    let frame : c.replace-saved.new.dest.items ≡ frame_on call.count bs sizes = search rules in
    let named : s ≡ p.0 = same_statement s p.0 (sym found ∙ p.1) in
    let items : items_in c.push_back.new.tasks.items ≡ enters_parameters (length (blocks_on call.count bs)) 0 ∷ runs s ∷ ends_parameters (length (blocks_on call.count bs)) ∷ resumes (want_of call.want) o.function o.variables.items ∷ js =
    first ∙ (λ i. enters_parameters (many i) 0 ∷ runs s ∷ ends_parameters (many i) ∷ resumes (want_of call.want) o.function o.variables.items ∷ js) in
    let same : now ≡ t = (λ i. state (items i) (active f (left i)) xs (under i) (frame i)) ∙ ap (λ (s : Statement). called (file_of o) call s js (active_of o) xs bs o.variables.items) named in
    let P : State → Type 0 = IsSound (file_of o) in
    (subst P (sym same) (sound_kept o t p.3)).3

pub returns-clause-ok : goal.returns-clause-ok
returns-clause-ok c =
    let o = c.args.self.now in
    let call = c.args.call in
    let f = call.function in
    let xs = values_in o.numbers.items in
    let bs = structures_in o.structures.items in
    let js = behind (items_in o.tasks.items) in
    let s = view_statement c.in-Some.body.statement.now in
    let sizes = meaning.sizes_of (variables_of (slice_get (view_functions o.functions.now) f)) in
    let p = c.requires.planned in
    let t = called (file_of o) call p.0 js (active_of o) xs bs o.variables.items in
    let now = state (items_in c.push_back.new.tasks.items) (active f c.open_activation.new.left.items) xs (structures_in c.take_frame.new.structures.items) c.replace-saved.new.dest.items in
    let found : body_of (slice_get (view_functions o.functions.now) f) ≡ Some s = search rules in
    let many : c.least-count.result ≡ length (blocks_on call.count bs) = c.least-count.ensures ∙ counted_blocks call.count o.structures.items c.len.result (search rules) in
    let first : items_in c.push_back.new.tasks.items ≡ enters_parameters c.least-count.result 0 ∷ runs s ∷ ends_parameters c.least-count.result ∷ resumes (want_of call.want) o.function o.variables.items ∷ js = search rules in
    let left : c.open_activation.new.left.items ≡ opened o.left.items f = c.open_activation.ensures in
    let under : structures_in c.take_frame.new.structures.items ≡ drop call.count bs = search rules in
    let frame : c.replace-saved.new.dest.items ≡ frame_on call.count bs sizes = search rules in
    let named : s ≡ p.0 = same_statement s p.0 (sym found ∙ p.1) in
    let items : items_in c.push_back.new.tasks.items ≡ enters_parameters (length (blocks_on call.count bs)) 0 ∷ runs s ∷ ends_parameters (length (blocks_on call.count bs)) ∷ resumes (want_of call.want) o.function o.variables.items ∷ js =
    first ∙ (λ i. enters_parameters (many i) 0 ∷ runs s ∷ ends_parameters (many i) ∷ resumes (want_of call.want) o.function o.variables.items ∷ js) in
    let same : now ≡ t = (λ i. state (items i) (active f (left i)) xs (under i) (frame i)) ∙ ap (λ (s : Statement). called (file_of o) call s js (active_of o) xs bs o.variables.items) named in
    p.3 ∙ ap silent (sym same)
